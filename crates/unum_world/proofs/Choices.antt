-- The chooser: it takes what is allowed, one choice more is one event more, and where it takes none nothing may happen.
use Rattle.std.proofs.Common.{ℕ, zero, suc, ◌+◌, ◌<◌, ◌%◌, ◌≡◌, refl, sym, ap, ◌∙◌, subst, arith, Bool, true, false, cond, nat_eq, List, [], ◌∷◌, ◌++◌, length, slice_get, Some, None}
use Rattle.std.proofs.lemmas.Nat.{mod_below}
use Rattle.std.proofs.lemmas.Option.{same_Some}
use Rattle.std.proofs.lemmas.List.{append_assoc}
use mathlib.Core.List.{IsPrefix}
use Rattle.world_types.specs.declared.queue.Event.{Event}
use Rattle.world_model.specs.AnyCode.Code.{flags}
use Rattle.world_model.specs.AnyCode.World.{Codes, enabled, effect, run_from}
use Rattle.world_model.specs.Numbered.{Numbered}
use Rattle.world_plans.specs.declared.planning.Plan.{Plan}
use Rattle.world_plans.specs.Plans.{draw, pick}
use Rattle.world_plans.specs.Chooser.{allowed_events, chosen_event, Obeys, AreChosen}
use Rattle.world_plans.specs.Three.{IsRunning}
use Rattle.world_plans.proofs.Allows.{allowed_on, none_allowed}
use Rattle.world_model.proofs.Gets.{get_in}
use Rattle.asl_model.specs.Laws.{In}
use Rattle.unum_world.specs.declared.opening.Opening.{Opening}
use Rattle.unum_world.specs.Openings.{codes_of}
use Rattle.unum_world.specs.Traces as traces
use Rattle.unum_world.specs.Traces.{Trace, IsRun, IsChosen, IsObeying, IsDrained, now, run_of, opened_world, after_event, opening_trace}
use Rattle.unum_world.proofs.TheRun.{now_is}

-- ---------------------------------------------------------------- one choice more

-- the world after these events, and the choice there
chosen_push : (p : Plan) (codes : Codes ℕ) (es : List Event) (w v : Numbered) (n : ℕ) (e : Event) → AreChosen p flags codes w n es →
    run_from flags codes (Some w) es ≡ Some v → chosen_event p codes v (n + length es) ≡ Some e → AreChosen p flags codes w n (es ++ e ∷ [])
unfolding run_from
chosen_push p codes [] w v n e h r q =
    let k : n ≡ n + 0 = omega arith in
    (ap (λ z. chosen_event p codes z n) (same_Some w v r) ∙ ap (chosen_event p codes v) k ∙ q, tt)
chosen_push p codes (x ∷ es) w v n e h r q =
    let b : enabled codes w x ≡ true = allowed_on p codes w x (get_in (allowed_events p codes w) _ x h.0) in
    let k : suc n + length es ≡ n + length (x ∷ es) = omega arith in (
      h.0,
      chosen_push p codes es (effect flags codes w x) v (suc n) e h.1
          (ap (λ t. run_from flags codes (cond t (Some (effect flags codes w x)) None) es) (sym b) ∙ r) (ap (chosen_event p codes v) k ∙ q),
    )

pub chosen_more : (q r : Trace) (e : Event) → IsRun q → IsChosen q → traces.chosen_event q ≡ Some e → r ≡ after_event q e → IsChosen r
chosen_more q r e run c f m =
    let p = q.opening.plan in
    let codes = codes_of q.opening in
    let k : 0 + length q.history ≡ length q.history = omega arith in
    let g : chosen_event p codes (now q) (0 + length q.history) ≡ Some e = ap (chosen_event p codes (now q)) k ∙ f in
    subst IsChosen (sym m) (chosen_push p codes q.history (opened_world q.opening) (now q) 0 e c run g)

-- one allowed event more
obeys_push : (p : Plan) (codes : Codes ℕ) (es : List Event) (w v : Numbered) (e : Event) → Obeys p flags codes w es →
    run_from flags codes (Some w) es ≡ Some v → In e (allowed_events p codes v) → Obeys p flags codes w (es ++ e ∷ [])
unfolding run_from
obeys_push p codes [] w v e h r i = (subst (λ z. In e (allowed_events p codes z)) (sym (same_Some w v r)) i, tt)
obeys_push p codes (x ∷ es) w v e h r i =
    let b : enabled codes w x ≡ true = allowed_on p codes w x h.0 in (
      h.0,
      obeys_push p codes es (effect flags codes w x) v e h.1 (ap (λ t. run_from flags codes (cond t (Some (effect flags codes w x)) None) es) (sym b) ∙ r) i,
    )

pub obeying_more : (q r : Trace) (e : Event) → IsRun q → IsObeying q → In e (allowed_events q.opening.plan (codes_of q.opening) (now q)) →
    r ≡ after_event q e → IsObeying r
obeying_more q r e run h i m =
    subst IsObeying (sym m) (obeys_push q.opening.plan (codes_of q.opening) q.history (opened_world q.opening) (now q) e h run i)

-- what the chooser takes is allowed
pub chosen_allowed : (q : Trace) (e : Event) → traces.chosen_event q ≡ Some e → In e (allowed_events q.opening.plan (codes_of q.opening) (now q))
chosen_allowed q e f = get_in (allowed_events q.opening.plan (codes_of q.opening) (now q)) _ e f

-- one event more goes on from where the events went on before
pub prefix_more : (q r s : Trace) (e : Event) → IsPrefix q.history r.history → s ≡ after_event r e → IsPrefix q.history s.history
prefix_more q r s e g m = (g.0 ++ e ∷ [], sym (append_assoc q.history g.0 (e ∷ [])) ∙ ap (λ es. es ++ e ∷ []) g.1 ∙ sym (ap (λ (t : Trace). t.history) m))

-- a trace without an event
pub obeying_first : (o : Opening) (limit : ℕ) → IsObeying (opening_trace o limit)
obeying_first o limit = tt

pub chosen_first : (o : Opening) (limit : ℕ) → IsChosen (opening_trace o limit)
chosen_first o limit = tt

-- ---------------------------------------------------------------- no choice

pub pick_below : (p : Plan) (len of : ℕ) → 0 < of → pick p len of < of
pick_below p len of h = go (nat_eq p.seed 0)
  where
    go : (b : Bool) → cond b 0 (draw p.seed len 0 % of) < of
    go true = h
    go false = mod_below (draw p.seed len 0) of h

get_some : {A : Type 0} (xs : List A) (i : ℕ) → i < length xs → (x : A) × (slice_get xs i ≡ Some x)
get_some [] i h = absurd (omega arith)
get_some (x ∷ xs) zero h = (x, refl)
get_some (x ∷ xs) (suc i) h = get_some xs i (omega arith)

picked : (xs : List Event) (p : Plan) (len : ℕ) → slice_get xs (pick p len (length xs)) ≡ None → xs ≡ []
picked [] p len e = refl
picked (x ∷ xs) p len e =
    let g = get_some (x ∷ xs) (pick p len (length (x ∷ xs))) (pick_below p len (length (x ∷ xs)) (omega arith)) in
    absurd (let z : None ≡ Some g.0 = sym e ∙ g.1 in cc)

-- where none is taken, none is allowed, so nothing may happen
pub unchosen_drained : (p : Trace) (w : Numbered) → run_of p.opening p.history ≡ Some w → IsRunning (codes_of p.opening) w → traces.chosen_event p ≡ None → IsDrained p
unchosen_drained p w r R e =
    let none : allowed_events p.opening.plan (codes_of p.opening) (now p) ≡ [] = picked _ p.opening.plan (length p.history) e in
    let on : IsRunning (codes_of p.opening) (now p) = subst (IsRunning (codes_of p.opening)) (sym (now_is p w r)) R in
    λ x. none_allowed p.opening.plan (codes_of p.opening) (now p) on none x

-- what is taken may happen
pub chosen_enabled : (p : Trace) (e : Event) → traces.chosen_event p ≡ Some e → traces.is_enabled p e ≡ true
chosen_enabled p e q = allowed_on p.opening.plan (codes_of p.opening) (now p) e (get_in (allowed_events p.opening.plan (codes_of p.opening) (now p)) _ e q)
