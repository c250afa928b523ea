-- The chooser's count and event, by the lengths of the three lists.
use Rattle.std.proofs.Common.{ℕ, suc, ◌+◌, ◌≤◌, ◌≡◌, refl, sym, ap, ◌∙◌, subst, arith, Bool, true, false, cond, List, [], ◌∷◌, length, slice_get, None}
use Rattle.world_types.specs.declared.queue.Attempt.{Attempt}
use Rattle.world_types.specs.declared.queue.Event.{Event}
use Rattle.world_plans.specs.Plans.{pick}
use Rattle.world_plans.specs.Chooser.{wants_twin, allowed_events, chosen_event}
use Rattle.world_plans.specs.Three.{numbers_from, is_open, twin_numbers, living_numbers, waiting_numbers, event_at, IsInThree}
use Rattle.world_plans.proofs.ThreeLists.{in_three}
use Rattle.invoke_queue.specs.Queue.{live_numbers, open_numbers}
use Rattle.unum_world.specs.declared.opening.Opening.{Opening}
use Rattle.unum_world.specs.declared.world_state.WorldState.{WorldState}
use Rattle.unum_world.specs.Openings.{codes_of}
use Rattle.unum_world.specs.Traces.{world_of}
use Rattle.unum_world.specs.Kept.{Holds}

-- no list of numbers is longer than what they are of
pub numbers_few : {A : Type 0} (test : ℕ → A → Bool) (k : ℕ) (xs : List A) → length (numbers_from test k xs) ≤ length xs
unfolding numbers_from
numbers_few test k [] = omega arith
numbers_few test k (x ∷ xs) = go (test k x) (numbers_few test (suc k) xs)
  where
    go : (b : Bool) → length (numbers_from test (suc k) xs) ≤ length xs →
        length (cond b (k ∷ numbers_from test (suc k) xs) (numbers_from test (suc k) xs)) ≤ suc (length xs)
    go true h = omega (arith, h)
    go false h = omega (arith, h)

module _ (o : Opening) (m : WorldState) (h : Holds o m) where
  three : IsInThree o.plan (codes_of o) (world_of o m)
  three = in_three o.plan (codes_of o) (world_of o m) h.running

  -- how many events are allowed
  abbrev pub count : ℕ
  count =
      length (twin_numbers o.plan (codes_of o) (world_of o m))
      + (length (living_numbers o.plan (codes_of o) (world_of o m)) + length (waiting_numbers o.plan (codes_of o) (world_of o m)))

  -- none is taken where there is none
  pub none_chosen : (len : ℕ) → count ≡ 0 → chosen_event o.plan (codes_of o) (world_of o m) len ≡ None
  none_chosen len e = go (allowed_events o.plan (codes_of o) (world_of o m)) (three.count ∙ e)
    where
      go : (xs : List Event) → length xs ≡ 0 → slice_get xs (pick o.plan len (length xs)) ≡ None
      go [] q = refl
      go (x ∷ xs) q = absurd (omega arith)

  -- and else the one with the number that the plan picks
  pub chosen_at : (len : ℕ) → chosen_event o.plan (codes_of o) (world_of o m) len ≡ event_at o.plan (codes_of o) (world_of o m) (pick o.plan len count)
  chosen_at len =
      three.at (pick o.plan len (length (allowed_events o.plan (codes_of o) (world_of o m))))
      ∙ ap (λ z. event_at o.plan (codes_of o) (world_of o m) (pick o.plan len z)) three.count

  -- ---------------------------------------------------------------- the lengths

  -- each list has fewer numbers than fit in 32 bits
  pub twins_few : length m.twins.numbers ≤ 4294967294
  twins_few =
      let a : length m.twins.numbers ≤ length m.hub.queue.states =
      subst (λ xs. length xs ≤ length m.hub.queue.states) (sym h.kept.twins.numbers)
      (numbers_few (wants_twin o.plan m.hub.queue.atts) 0 m.hub.queue.states) in
      let b : length m.hub.queue.states ≡ length m.hub.queue.invs = h.range.world.states in
      let c : length m.hub.queue.invs ≤ 4294967294 = h.bounded.invs in
      omega (arith, a, b, c)

  pub lives_few : length (live_numbers m.hub.queue.atts) ≤ 4294967294
  lives_few =
      let a : length (live_numbers m.hub.queue.atts) ≤ length m.hub.queue.atts = numbers_few (λ a (t : Attempt). t.live) 0 m.hub.queue.atts in
      let b : length m.hub.queue.atts ≤ 4294967294 = h.bounded.atts in
      omega (arith, a, b)

  pub opens_few : length (open_numbers m.hub.queue.states) ≤ 4294967294
  opens_few =
      let a : length (open_numbers m.hub.queue.states) ≤ length m.hub.queue.states = numbers_few (λ k s. is_open s) 0 m.hub.queue.states in
      let b : length m.hub.queue.states ≡ length m.hub.queue.invs = h.range.world.states in
      let c : length m.hub.queue.invs ≤ 4294967294 = h.bounded.invs in
      omega (arith, a, b, c)

  -- their sum is the count
  pub count_is : (n : ℕ) → n ≡ length m.twins.numbers + length (live_numbers m.hub.queue.atts) + length (open_numbers m.hub.queue.states) → n ≡ count
  count_is n e =
      let a : length m.twins.numbers ≡ length (twin_numbers o.plan (codes_of o) (world_of o m)) = ap length h.kept.twins.numbers in
      let b : length (live_numbers m.hub.queue.atts) ≡ length (living_numbers o.plan (codes_of o) (world_of o m)) = refl in
      let c : length (open_numbers m.hub.queue.states) ≡ length (waiting_numbers o.plan (codes_of o) (world_of o m)) = refl in
      omega (arith, a, b, c, e)
