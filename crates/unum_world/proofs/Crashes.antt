-- Crashes of all attempts that live, the first of them first.
use Rattle.std.proofs.Common.{ℕ, zero, suc, ◌+◌, ◌-◌, ◌≡◌, ◌≤◌, ◌<◌, length-append, refl, sym, ap, ◌∙◌, subst, arith, Bool, true, false, cond, List, [], ◌∷◌, ◌++◌, map, take, length, slice_get, slice_set, Option, Some, None}
use Rattle.std.proofs.lemmas.Option.{same_Some}
use Rattle.std.proofs.lemmas.List.{append_assoc, append-nil, map-append, length-map}
use Rattle.std.proofs.Math.Seq.{take-append_seam}
use Rattle.world_types.specs.declared.queue.Attempt.{Attempt}
use Rattle.world_types.specs.declared.queue.Event.{Event}
use Rattle.world_types.specs.declared.queue.Event.TheVariants.{Crash}
use Rattle.world_model.specs.AnyCode.Code.{flags}
use Rattle.world_model.specs.AnyCode.World.{Codes, enabled, effect, lives, with_att, crashed_world}
use Rattle.world_model.specs.Numbered.{Numbered}
use Rattle.world_plans.specs.declared.planning.Plan.{Plan}
use Rattle.world_plans.specs.Three.{numbers_from, living_numbers}
use Rattle.world_plans.proofs.Numbers.{in_number}
use Rattle.world_model.proofs.Gets.{get_in}
use Rattle.unum_world.specs.Openings.{opening_as, codes_of}
use Rattle.unum_world.specs.AllCrash.{living, after_crashes}
use Rattle.unum_world.specs.Traces.{Trace, IsRun, now, is_enabled, after_event}
use Rattle.unum_world.proofs.Runs.{run_step}
use Rattle.unum_world.proofs.TheRun.{now_is}

-- the attempts that live, from a number on
abbrev live_from : ℕ → List Attempt → List ℕ
live_from k ts = numbers_from (λ a (t : Attempt). t.live) k ts

-- all of them are from that number on
begins_at : (k : ℕ) (ts : List Attempt) (n : ℕ) (rest : List ℕ) → live_from k ts ≡ n ∷ rest → k ≤ n
unfolding numbers_from
begins_at k [] n rest e = absurd (cc)
begins_at k (t ∷ ts) n rest e = by (λ q. begins_at (suc k) ts n rest q) t.live e
  where
    by : (live_from (suc k) ts ≡ n ∷ rest → suc k ≤ n) → (b : Bool) → cond b (k ∷ live_from (suc k) ts) (live_from (suc k) ts) ≡ n ∷ rest → k ≤ n
    by more true q = let z : k ≡ n = (cc) in omega (arith, z)
    by more false q = omega (arith, more q)

-- once the first one has crashed, the others live
first_crashed : (k : ℕ) (ts : List Attempt) (a : ℕ) (t : Attempt) (rest : List ℕ) → slice_get ts a ≡ Some t → t.live ≡ true →
    live_from k ts ≡ (k + a) ∷ rest → live_from k (slice_set ts a (record t { live = false })) ≡ rest
unfolding numbers_from
first_crashed k [] a t rest g l e = absurd (cc)
first_crashed k (x ∷ ts) zero t rest g l e =
    let q : x.live ≡ true = ap (λ (z : Attempt). z.live) (same_Some x t g) ∙ l in
    let h : k ∷ live_from (suc k) ts ≡ (k + 0) ∷ rest = subst (λ b. cond b (k ∷ live_from (suc k) ts) (live_from (suc k) ts) ≡ (k + 0) ∷ rest) q e in
    cc
first_crashed k (x ∷ ts) (suc a) t rest g l e = by (λ q. first_crashed (suc k) ts a t rest g l q) x.live e
  where
    by : (live_from (suc k) ts ≡ (suc k + a) ∷ rest → live_from (suc k) (slice_set ts a (record t { live = false })) ≡ rest) → (b : Bool) → cond b (k ∷ live_from (suc k) ts) (live_from (suc k) ts) ≡ (k + suc a) ∷ rest →
        cond b (k ∷ live_from (suc k) (slice_set ts a (record t { live = false }))) (live_from (suc k) (slice_set ts a (record t { live = false }))) ≡ rest
    by more true q = absurd (let z : k ≡ k + suc a = (cc) in omega (arith, z))
    by more false q =
        let n : k + suc a ≡ suc k + a = omega arith in
        more (q ∙ ap (λ m. m ∷ rest) n)

-- ---------------------------------------------------------------- of a trace

-- who stands first among those that live may crash
pub first_lives : (p : Trace) (a : ℕ) → slice_get (living p) 0 ≡ Some a → is_enabled p (Crash a) ≡ true
unfolding enabled
first_lives p a e =
    let (n, t, z, g, l) = in_number (λ a (t : Attempt). t.live) 0 (now p).atts a (get_in (living p) 0 a e) in
    let same : n ≡ a = omega (arith, z) in
    ap (λ m. lives (slice_get (now p).atts m)) (sym same) ∙ ap lives g ∙ l

crashed : (plan : Plan) (codes : Codes ℕ) (v : Numbered) (a : ℕ) (rest : List ℕ) → enabled codes v (Crash a) ≡ true → living_numbers plan codes v ≡ a ∷ rest →
    living_numbers plan codes (effect flags codes v (Crash a)) ≡ rest
unfolding enabled effect
crashed plan codes v a rest on e = by (slice_get v.atts a) refl on
  where
    by : (x : Option Attempt) → slice_get v.atts a ≡ x → lives x ≡ true → live_from 0 (with_att v (λ t. crashed_world v a t) x).atts ≡ rest
    by None g l = absurd (cc)
    by (Some t) g l = let n : a ≡ 0 + a = omega arith in first_crashed 0 v.atts a t rest g l (e ∙ ap (λ m. m ∷ rest) n)

-- and then the others live
pub living_after : (p q : Trace) (a : ℕ) (rest : List ℕ) → IsRun p → is_enabled p (Crash a) ≡ true → living p ≡ a ∷ rest →
    q ≡ after_event p (Crash a) → living q ≡ rest
living_after p q a rest run on e m =
    let r = after_event p (Crash a) in
    let w = effect flags (codes_of p.opening) (now p) (Crash a) in
    let n : now r ≡ w = now_is r w (run_step (codes_of p.opening) (opening_as p.opening) p.history r.history (Crash a) (now p) w run on refl refl) in
    ap living m ∙ ap (living_numbers p.opening.plan (codes_of p.opening)) n ∙ crashed p.opening.plan (codes_of p.opening) (now p) a rest on e

-- so many have crashed, and the others live
pub record HasCrashed (p q : Trace) : Type 0 where
  pub gone : List ℕ
  pub is : q ≡ after_crashes p gone
  pub all : living p ≡ gone ++ living q

-- none yet
pub none_crashed : (p : Trace) → HasCrashed p p
none_crashed p = record { gone = []; is = ap (λ es. record p { history = es }) (sym (append-nil p.history)); all = refl }

first_of : (xs : List ℕ) (a : ℕ) → slice_get xs 0 ≡ Some a → (rest : List ℕ) × (xs ≡ a ∷ rest)
first_of [] a e = absurd (cc)
first_of (x ∷ xs) a e = (xs, ap (λ n. n ∷ xs) (same_Some x a e))

-- one more
pub one_crashed : (p q r : Trace) (a : ℕ) → HasCrashed p q → IsRun q → slice_get (living q) 0 ≡ Some a → r ≡ after_event q (Crash a) → HasCrashed p r
one_crashed p q r a h run e m =
    let f = first_of (living q) a e in
    let l : living r ≡ f.0 = living_after q r a f.0 run (first_lives q a e) f.1 m in
    let es : (p.history ++ map Crash h.gone) ++ Crash a ∷ [] ≡ p.history ++ map Crash (h.gone ++ a ∷ []) =
    append_assoc p.history (map Crash h.gone) (Crash a ∷ []) ∙ ap (λ es. p.history ++ es) (sym (map-append Crash h.gone (a ∷ []))) in
    record {
      gone = h.gone ++ a ∷ [];
      is = m ∙ ap (λ t. after_event t (Crash a)) h.is ∙ ap (λ es. record p { history = es }) es;
      all = h.all ∙ ap (λ ns. h.gone ++ ns) f.1 ∙ sym (append_assoc h.gone (a ∷ []) f.0) ∙ ap (λ ns. (h.gone ++ a ∷ []) ++ ns) (sym l);
    }

none_first : (xs : List ℕ) → slice_get xs 0 ≡ None → xs ≡ []
none_first [] e = refl
none_first (x ∷ xs) e = absurd (cc)

-- all
pub all_crashed : (p q : Trace) → HasCrashed p q → slice_get (living q) 0 ≡ None → q ≡ after_crashes p (living p)
all_crashed p q h e =
    let k : living p ≡ h.gone = h.all ∙ ap (λ ns. h.gone ++ ns) (none_first (living q) e) ∙ append-nil h.gone in
    h.is ∙ ap (after_crashes p) (sym k)

-- how many events there are then
pub crashed_length : (p q : Trace) (h : HasCrashed p q) → length q.history ≡ length p.history + length h.gone
crashed_length p q h = ap (λ (t : Trace). length t.history) h.is ∙ length-append p.history (map Crash h.gone) ∙ ap (λ n. length p.history + n) (length-map h.gone Crash)

pub all_length : (p q : Trace) → q ≡ after_crashes p (living p) → length q.history ≡ length p.history + length (living p)
all_length p q m = ap (λ (t : Trace). length t.history) m ∙ length-append p.history (map Crash (living p)) ∙ ap (λ n. length p.history + n) (length-map (living p) Crash)

-- where the history is full and some attempt lives, the first ones have crashed for which there was room
pub first_have_crashed : (p q : Trace) (a : ℕ) (h : HasCrashed p q) → slice_get (living q) 0 ≡ Some a → length q.history ≡ p.limit →
    (q ≡ after_crashes p (take (p.limit - length p.history) (living p))) × (p.limit < length p.history + length (living p))
first_have_crashed p q a h e full =
    let n : p.limit - length p.history ≡ length h.gone = (let z = crashed_length p q h in omega (arith, z, full)) in
    let t : take (p.limit - length p.history) (living p) ≡ h.gone =
    ap (λ k. take k (living p)) n ∙ ap (take (length h.gone)) h.all ∙ take-append_seam h.gone (living q) in
    let f = first_of (living q) a e in
    let more : length (living p) ≡ length h.gone + suc (length f.0) = ap length h.all ∙ length-append h.gone (living q) ∙ ap (λ ns. length h.gone + length ns) f.1 in
    let z = crashed_length p q h in
    (h.is ∙ ap (after_crashes p) (sym t), omega (arith, more, z, full))
