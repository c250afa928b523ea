-- The lists of a plan that breaks no rule rise.
use Rattle.std.proofs.Common.{◌≡◌, ℕ, zero, suc, ◌+◌, ◌<◌, ◌≤◌, List, [], ◌∷◌, ◌++◌, false, length, map, get_or, arith, codes, decimal}
use Rattle.std.proofs.lemmas.Bool.Decides.{nat_tests}
use Rattle.world_plans.specs.declared.planning.Mishap.{Mishap}
use Rattle.invoke_queue.specs.Plans.{IsRisingBy, IsRisingPlan}
use Rattle.bundle_read.specs.Accepted.{mishap_of, plan_of}
use Rattle.bundle_read.specs.Bounds.{is_outside, wild_if, wild_item, wild_plan, wild_script, wild_twin, wild_twins}
use Rattle.bundle_read.specs.declared.draft.DraftPlan.{DraftPlan}
use Rattle.bundle_read.specs.declared.refusal.BRule.TheVariants.{B5}
use Rattle.bundle_read.specs.declared.refusal.Refusal.{Refusal}
use Rattle.bundle_read.proofs.Unbroken.{front_none, rest_none, not_broken}

-- the number of each element is at least low
abbrev AreFrom : {A : Type 0} → (A → ℕ) → (low : ℕ) → List A → Type 0
AreFrom {A} number low xs = (j : ℕ) (d : A) → j < length xs → low ≤ number (get_or xs j d)

-- the numbers rise from low on
record RisesFrom {A : Type 0} (number : A → ℕ) (low : ℕ) (xs : List A) : Type 0 where
  are : AreFrom number low xs
  rise : IsRisingBy number xs

module _ {A : Type 0} (number : A → ℕ) where
  rises_none : (low : ℕ) → RisesFrom number low []
  rises_none low = record { are = λ j d lt. absurd (omega (arith, lt)); rise = λ i j d lt within. absurd (omega (arith, within)) }

  are_more : (low : ℕ) (x : A) (xs : List A) → low ≤ number x → AreFrom number (number x + 1) xs → AreFrom number low (x ∷ xs)
  are_more low x xs le h zero d lt = le
  are_more low x xs le h (suc j) d lt = let above : number x + 1 ≤ number (get_or xs j d) = h j d (omega (arith, lt)) in omega (arith, above, le)

  rise_more : (x : A) (xs : List A) → AreFrom number (number x + 1) xs → IsRisingBy number xs → IsRisingBy number (x ∷ xs)
  rise_more x xs h r zero zero d lt within = absurd (omega (arith, lt))
  rise_more x xs h r zero (suc j) d lt within = let above : number x + 1 ≤ number (get_or xs j d) = h j d (omega (arith, within)) in omega (arith, above)
  rise_more x xs h r (suc i) zero d lt within = absurd (omega (arith, lt))
  rise_more x xs h r (suc i) (suc j) d lt within = r i j d (omega (arith, lt)) (omega (arith, within))

  rises_more : (low : ℕ) (x : A) (xs : List A) → low ≤ number x → RisesFrom number (number x + 1) xs → RisesFrom number low (x ∷ xs)
  rises_more low x xs le h = record { are = are_more low x xs le h.are; rise = rise_more x xs h.are h.rise }

not_below : (low high n : ℕ) → is_outside low high n ≡ false → low ≤ n
not_below low high n h = grind (arith, nat_tests)

twins_rise : (low k : ℕ) (ns : List ℕ) → wild_twins low k ns ≡ [] → RisesFrom (λ n. n) low ns
unfolding wild_twins
twins_rise low k [] h = rises_none (λ n. n) low
twins_rise low k (n ∷ ns) h =
    let here : wild_twin low k n ≡ [] = front_none (wild_twin low k n) (wild_twins (n + 1) (k + 1) ns) h in
    let le : low ≤ n = not_below low 9999999 n (not_broken (is_outside low 9999999 n) B5 (codes "/plan/twins/" ++ decimal k) here) in
    rises_more (λ n. n) low n ns le (twins_rise (n + 1) (k + 1) ns (rest_none (wild_twin low k n) (wild_twins (n + 1) (k + 1) ns) h))

abbrev attempt_of : Mishap → ℕ
attempt_of m = m.attempt

item_above : (low k a s : ℕ) → wild_item low k (a ∷ s ∷ []) ≡ [] → low ≤ a
item_above low k a s h =
    not_below low 9999999 a
    (not_broken (is_outside low 9999999 a) B5 (codes "/plan/script/" ++ decimal k ++ codes "/0")
    (front_none (wild_if low 9999999 a (codes "/plan/script/" ++ decimal k ++ codes "/0")) (wild_if 0 99999 s (codes "/plan/script/" ++ decimal k ++ codes "/1")) h))

script_rises : (low k : ℕ) (items : List (List ℕ)) → wild_script low k items ≡ [] → RisesFrom attempt_of low (map mishap_of items)
unfolding wild_script
script_rises low k [] h = rises_none attempt_of low
script_rises low k ([] ∷ items) h = absurd (cc)
script_rises low k ((a ∷ []) ∷ items) h = absurd (cc)
script_rises low k ((a ∷ s ∷ []) ∷ items) h =
    let le : low ≤ a = item_above low k a s (front_none (wild_item low k (a ∷ s ∷ [])) (wild_script (a + 1) (k + 1) items) h) in
    rises_more attempt_of low (mishap_of (a ∷ s ∷ [])) (map mishap_of items) le
    (script_rises (a + 1) (k + 1) items (rest_none (wild_item low k (a ∷ s ∷ [])) (wild_script (a + 1) (k + 1) items) h))
script_rises low k ((a ∷ s ∷ t ∷ more) ∷ items) h = absurd (cc)

module _ (p : DraftPlan) (h : wild_plan p ≡ []) where
  abbrev twins : List Refusal
  twins = wild_twins 0 0 p.twins

  abbrev from_seed : List Refusal
  from_seed = wild_if 0 65535 p.seed (codes "/plan/seed") ++ twins

  abbrev from_script : List Refusal
  from_script = wild_script 0 0 p.script ++ from_seed

  abbrev from_repeat : List Refusal
  from_repeat = wild_if 0 1000 p.repeat (codes "/plan/repeat") ++ from_script

  no_script : from_script ≡ []
  no_script = rest_none (wild_if 0 1000 p.repeat (codes "/plan/repeat")) from_script (rest_none (wild_if 0 1000 p.crash (codes "/plan/crash")) from_repeat h)

  pub plan_rises : IsRisingPlan (plan_of p)
  plan_rises = record {
    script_rises = (script_rises 0 0 p.script (front_none (wild_script 0 0 p.script) from_seed no_script)).rise;
    twins_rise = (twins_rise 0 0 p.twins (rest_none (wild_if 0 65535 p.seed (codes "/plan/seed")) twins (rest_none (wild_script 0 0 p.script) from_seed no_script))).rise;
  }
