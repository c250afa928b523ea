-- How sessions stand, where nothing may happen, and by numbers.
use Rattle.std.proofs.Common.{ℕ, zero, suc, ◌+◌, ◌≡◌, ◌≢◌, ◌⊎◌, inl, inr, refl, sym, ap, ap₂, ◌∙◌, subst, Bool, true, false, not, ◌&&◌, ◌||◌, nat_eq, nat_lt, List, [], ◌∷◌, length, map, slice_get, Option, Some, None, arith}
use Rattle.std.proofs.lemmas.Option.{same_Some}
use Rattle.std.proofs.lemmas.Bool.Decides.{eqb_tells}
use Rattle.std.proofs.lemmas.List.{length-map}
use Rattle.place_name.specs.declared.obj.Obj.TheVariants.{Out}
use Rattle.world_model.specs.AnyCode.Code.{Outcome}
use Rattle.world_model.specs.AnyCode.Counted.{IsCounted}
use Rattle.world_model.specs.AnyCode.Maps.{AreFlagsOf, ConditionAlike, inv_as, image}
use Rattle.world_model.specs.AnyCode.Names.{root}
use Rattle.world_model.specs.AnyCode.Operations.{Condition, Absent, Live, Tombstone, KeptAs, OutcomeIs, SavedAs, BitsAre, ArgIs, Invocation}
use Rattle.world_model.specs.AnyCode.World.{InvState, Session, Attempt, Event, Deliver, Crash, GiveUp, Codes, World, enabled, state_lets, lives}
use Rattle.world_model.specs.Sites.{Site}
use Rattle.world_model.specs.World as of_machines
use Rattle.world_model.specs.World.{Opening, run}
use Rattle.world_model.specs.Numbered.{Numbered, StandsFor}
use Rattle.world_model.specs.Operations as operations_of_machines
use Rattle.world_model.specs.Drained.{HasGivenUp}
use Rattle.world_model.proofs.Keeps.{and_parts}
use Rattle.world_model.proofs.Quiets.{every_quiet_session_has_ended}
use Rattle.world_model.proofs.Drains.{over_cases}
use Rattle.world_model.proofs.Queues.{live_none, not_live}
use Rattle.world_model.proofs.Numbers.{Comes, machine_run}
use Rattle.world_plans.specs.declared.totals.Counts.{Counts}
use Rattle.world_plans.specs.Sessions.{SessionStatus, Ended, Abandoned, StillOpen, outcome_in, is_over, all_over, unless_ended, standing, counts_with, count_from, no_counts, totals_by, totals_of, EveryNumberedSessionStandsAlike, EveryAbandonedSessionGaveUp}

or_true : (a b c : Bool) → b ≡ true → c ≡ true → (a || b) && c ≡ true
or_true true b c p q = q
or_true false b c p q = rw (p, q) refl

all_by : {S : Type 0} (s : ℕ) (is : List (Invocation S)) (ts : List InvState) → ((k : ℕ) (q : InvState) → slice_get ts k ≡ Some q → is_over q ≡ true) → all_over s is ts ≡ true
unfolding all_over
all_by s [] ts h = refl
all_by s (i ∷ is) [] h = refl
all_by s (i ∷ is) (t ∷ ts) h = or_true (not (nat_eq i.name.place.session s)) (is_over t) (all_over s is ts) (h 0 t refl) (all_by s is ts (λ k q e. h (suc k) q e))

is_settled : (x : Option Outcome) → unless_ended true x ≢ StillOpen
is_settled None e = absurd (cc)
is_settled (Some o) e = absurd (cc)

one_counted : (s : SessionStatus) (c : Counts) → (counts_with s c).ended + ((counts_with s c).abandoned + (counts_with s c).still_open) ≡ suc (c.ended + (c.abandoned + c.still_open))
one_counted (Ended o) c = omega arith
one_counted Abandoned c = omega arith
one_counted StillOpen c = omega arith

module _ {M S B : Type 0} where
  module _ (codes : Codes S) (w : World M S B) (C : IsCounted w.states w.atts) (D : (e : Event) → enabled codes w e ≡ false) where
    still : (a : ℕ) (t : Attempt) → slice_get w.atts a ≡ Some t → t.live ≡ false
    unfolding enabled
    still a t e = subst (λ x. lives x ≡ false) e (D (Crash a))

    none_live : (k : ℕ) (s : InvState) → slice_get w.states k ≡ Some s → s.live ≡ 0
    none_live k s e = C.live k s e ∙ live_none k w.atts (λ a t f. not_live t k (still a t f))

    over_state : (k : ℕ) (q : InvState) → slice_get w.states k ≡ Some q → (q.acked ≡ true) ⊎ (q.dead ≡ true)
    unfolding enabled
    over_state k q e =
        over_cases q.acked q.dead q.tries q.live (C.tries k q e) (none_live k q e)
        (subst (λ z. state_lets (λ s. not s.acked && (not s.dead && nat_lt s.tries 8)) z ≡ false) e (D (Deliver k)))
        (subst (λ z. state_lets (λ s. not s.acked && (not s.dead && (nat_eq s.tries 8 && nat_eq s.live 0))) z ≡ false) e (D (GiveUp k)))

    either : (a b : Bool) → (a ≡ true) ⊎ (b ≡ true) → a || b ≡ true
    either true b h = refl
    either false b (inl z) = absurd (let v : false ≡ true = z in cc)
    either false b (inr z) = z

    is_over_at : (k : ℕ) (q : InvState) → slice_get w.states k ≡ Some q → is_over q ≡ true
    is_over_at k q e =
        let a : q.acked || q.dead ≡ true = either q.acked q.dead (over_state k q e) in
        let n : q.live ≡ 0 = none_live k q e in
        let b : nat_eq q.live 0 ≡ true = rw n refl in
        rw (a, b) refl

  pub drained_settled : (codes : Codes S) (w : World M S B) → IsCounted w.states w.atts → ((e : Event) → enabled codes w e ≡ false) → (s : ℕ) → standing w s ≢ StillOpen
  unfolding standing
  drained_settled codes w C D s e =
      let b : all_over s w.invs w.states ≡ true = all_by s w.invs w.states (is_over_at codes w C D) in
      is_settled (outcome_in (w.objects (Out (root s)))) (ap (λ z. unless_ended z (outcome_in (w.objects (Out (root s))))) (sym b) ∙ e)

  -- ---------------------------------------------------------------- totals

  counts_all : (w : World M S B) (k : ℕ) (xs : List (Session M)) (c : Counts) →
      (count_from w k xs c).ended + ((count_from w k xs c).abandoned + (count_from w k xs c).still_open) ≡ length xs + (c.ended + (c.abandoned + c.still_open))
  unfolding count_from
  counts_all w k [] c = omega arith
  counts_all w k (x ∷ xs) c =
      let a = counts_all w (suc k) xs (counts_with (standing w k) c) in
      let b = one_counted (standing w k) c in
      omega (arith, a, b)

  pub sessions_counted : (w : World M S B) (history : List Event) → (totals_of w history).sessions ≡ (totals_of w history).ended + ((totals_of w history).abandoned + (totals_of w history).still_open)
  sessions_counted w history = let a = counts_all w 0 w.opening.sessions no_counts in omega (arith, a)

-- ---------------------------------------------------------------- by numbers

outcome_alike : (n : ℕ) (c : Condition (List Bool)) (d : Condition (List ℕ)) → ConditionAlike AreFlagsOf n c d → outcome_in c ≡ outcome_in d
outcome_alike n Absent Absent p = refl
outcome_alike n Tombstone Tombstone p = refl
outcome_alike n (Live (KeptAs k)) (Live (KeptAs l)) p = refl
outcome_alike n (Live (OutcomeIs o)) (Live (OutcomeIs q)) p = ap Some p
outcome_alike n (Live (SavedAs c x u)) (Live (SavedAs d y v)) p = refl
outcome_alike n (Live (BitsAre b)) (Live (BitsAre e)) p = refl
outcome_alike n (Live (ArgIs x u)) (Live (ArgIs y v)) p = refl
outcome_alike n _ _ p = absurd p

all_as : (h : ℕ → ℕ → Site) (s : ℕ) (is : List (Invocation ℕ)) (ts : List InvState) → all_over s (map (inv_as h) is) ts ≡ all_over s is ts
unfolding all_over
all_as h s [] ts = refl
all_as h s (i ∷ is) [] = refl
all_as h s (i ∷ is) (t ∷ ts) = ap (λ b. (not (nat_eq i.name.place.session s) || is_over t) && b) (all_as h s is ts)

module _ (o : Opening) (codes : Codes ℕ) (sites : ℕ → ℕ → Site) (size : ℕ → ℕ) (k : StandsFor o codes sites size) where
  pub stands_as : (v : of_machines.World) (w : Numbered) → Comes o codes sites size k v w → (s : ℕ) → standing w s ≡ standing v s
  unfolding standing
  stands_as v w c s =
      ap₂ unless_ended (sym (all_as sites s w.invs w.states)) (outcome_alike 0 (w.objects (Out (root s))) (c.objects (Out (root s))) (c.alike (Out (root s))))
      ∙ ap (λ (z : of_machines.World). standing z s) (sym c.is)

  counts_as : (w : Numbered) (v : of_machines.World) → ((s : ℕ) → standing w s ≡ standing v s) → (n : ℕ) (xs : List of_machines.Session) (c : Counts) → count_from w n xs c ≡ count_from v n xs c
  unfolding count_from
  counts_as w v h n [] c = refl
  counts_as w v h n (x ∷ xs) c = ap (λ z. count_from w (suc n) xs (counts_with z c)) (h n) ∙ counts_as w v h (suc n) xs (counts_with (standing v n) c)

  totals_as : (v : of_machines.World) (w : Numbered) → Comes o codes sites size k v w → (es : List Event) → totals_of w es ≡ totals_of v es
  totals_as v w c es =
      let z : of_machines.World = image sites w c.objects in
      let d : Comes o codes sites size k z w = record { objects = c.objects; alike = c.alike; goods = c.goods; is = refl } in
      ap (totals_by w es) (counts_as w z (stands_as z w d) 0 w.opening.sessions no_counts)
      ∙ ap (λ (n : ℕ). record (totals_by w es (count_from z 0 w.opening.sessions no_counts)) { invocations = n }) (sym (length-map w.invs (inv_as sites)))
      ∙ ap (λ (y : of_machines.World). totals_of y es) (sym c.is)

pub every_numbered_session_stands_alike : EveryNumberedSessionStandsAlike
every_numbered_session_stands_alike o codes sites size k es w v e f =
    let (u, r, c) = machine_run o codes sites size k es w e in
    let d : Comes o codes sites size k v w = subst (λ (z : of_machines.World). Comes o codes sites size k z w) (same_Some u v (sym r ∙ f)) c in
    (stands_as o codes sites size k v w d, totals_as o codes sites size k v w d es)

-- ---------------------------------------------------------------- abandoned sessions

abbrev AllAcked : ℕ → List operations_of_machines.Invocation → List InvState → Type 0
AllAcked s is ts = (k : ℕ) (i : operations_of_machines.Invocation) (q : InvState) → slice_get is k ≡ Some i → slice_get ts k ≡ Some q → i.name.place.session ≡ s → q.acked ≡ true

one_acked : (s : ℕ) (i : operations_of_machines.Invocation) (q : InvState) (is : List operations_of_machines.Invocation) (ts : List InvState) → (i.name.place.session ≡ s → q.acked ≡ true) → AllAcked s is ts → AllAcked s (i ∷ is) (q ∷ ts)
one_acked s i q is ts h f zero y z e g r = ap (λ (u : InvState). u.acked) (sym (same_Some q z g)) ∙ h (ap (λ (u : operations_of_machines.Invocation). u.name.place.session) (same_Some i y e) ∙ r)
one_acked s i q is ts h f (suc k) y z e g r = f k y z e g r

next_given : (s : ℕ) (i : operations_of_machines.Invocation) (q : InvState) (is : List operations_of_machines.Invocation) (ts : List InvState) → HasGivenUp is ts s → HasGivenUp (i ∷ is) (q ∷ ts) s
next_given s i q is ts d =
    record { number = suc d.number; invocation = d.invocation; state = d.state; invocation_is = d.invocation_is; state_is = d.state_is; session_is = d.session_is; given_up = d.given_up }

over_or : (s : ℕ) (is : List operations_of_machines.Invocation) (ts : List InvState) → all_over s is ts ≡ true → AllAcked s is ts ⊎ HasGivenUp is ts s
unfolding all_over
over_or s [] ts e = inl (λ k i q f. absurd (cc))
over_or s (i ∷ is) [] e = inl (λ k y q f g. absurd (cc))
over_or s (i ∷ is) (q ∷ ts) e =
    let c = and_parts (not (nat_eq i.name.place.session s) || is_over q) (all_over s is ts) e in
    elim (over_or s is ts c.1) [
      | inr d ↦ inr (next_given s i q is ts d)
      | inl g ↦ elim (eqb_tells i.name.place.session s) [
        | inr other ↦ inl (one_acked s i q is ts (λ r. absurd (other.1 r)) g)
        | inl same ↦ by q.acked refl (here (subst (λ (b : Bool). not b || is_over q ≡ true) same.0 c.0)) g same.1
      ]
    ]
  where
    here : not true || is_over q ≡ true → q.acked || q.dead ≡ true
    here h = (and_parts (q.acked || q.dead) (nat_eq q.live 0) h).0

    by : (b : Bool) → q.acked ≡ b → q.acked || q.dead ≡ true → AllAcked s is ts → i.name.place.session ≡ s → AllAcked s (i ∷ is) (q ∷ ts) ⊎ HasGivenUp (i ∷ is) (q ∷ ts) s
    by true a h g r = inl (one_acked s i q is ts (λ _. a) g)
    by false a h g r = inr (record { number = 0; invocation = i; state = q; invocation_is = refl; state_is = refl; session_is = r; given_up = subst (λ (b : Bool). b || q.dead ≡ true) a h })

abandoned_is : (b : Bool) (x : Option Outcome) → unless_ended b x ≡ Abandoned → (b ≡ true) × (x ≡ None)
abandoned_is true None e = (refl, refl)
abandoned_is true (Some o) e = absurd (cc)
abandoned_is false None e = absurd (cc)
abandoned_is false (Some o) e = absurd (cc)

pub every_abandoned_session_gave_up : EveryAbandonedSessionGaveUp
unfolding standing
every_abandoned_session_gave_up o es w r s x found e =
    let (b, n) = abandoned_is (all_over s w.invs w.states) (outcome_in (w.objects (Out (root s)))) e in
    elim (over_or s w.invs w.states b) [
      | inr d ↦ d
      | inl g ↦
          let ((y, out), swept) = every_quiet_session_has_ended o es w r s x found g in
          absurd (let z : Some y ≡ None = sym (ap outcome_in out) ∙ n in cc)
    ]
