-- Generated bundles are accepted.
use Rattle.std.proofs.Common.{◌≡◌, ℕ, ◌<◌, ◌≤◌, IsFalse, List, [], ◌∷◌, length, map, codes, Some, refl, subst, sym, arith}
use Rattle.std.specs.List.{AllByRecursion, range_with_len}
use Rattle.std.specs.Str.{chars}
use Rattle.std.proofs.lemmas.List.FromFn.{length-map-range_with_len}
use Rattle.asl_paths.specs.Reading.{path_of}
use Rattle.asl_model.specs.Data.{same_text}
use Rattle.asl_model.specs.Tree.{tree_of}
use Rattle.asl_model.specs.Valid.{broken}
use Rattle.invoke_queue.specs.Plans.{IsRisingPlan}
use Rattle.unum_world.specs.declared.opening.Session.{Session}
use Rattle.bundle_read.specs.Accepted.{Accepted, IsAccepted}
use Rattle.world_plans.specs.declared.planning.Mishap.{Mishap}
use Rattle.bundle_read.specs.Bounds.{Functions, Machines, calls_others}
use Rattle.bundle_read.specs.Generated.{calm_plan, functions, gen, generated, items_path, session}
use Rattle.bundle_read.proofs.GeneratedTree.{gen_tree, plain}

plain_valid : broken plain ≡ []
unfolding same_text chars
plain_valid = refl

plain_called : IsFalse (calls_others functions plain)
plain_called = refl

gen_valid : broken (tree_of gen) ≡ []
gen_valid = subst (λ b. broken b ≡ []) (sym gen_tree) plain_valid

gen_called : IsFalse (calls_others functions (tree_of gen))
gen_called = subst (λ b. IsFalse (calls_others functions b)) (sym gen_tree) plain_called

few : (n : ℕ) → n ≤ 1000 → length (map session (range_with_len 0 n)) ≤ 1000
few n h = subst (λ k. k ≤ 1000) (sym (length-map-range_with_len session 0 n)) h

placed : (xs : List ℕ) → AllByRecursion (λ (s : Session). s.machine < 1) (map session xs)
placed [] = tt
placed (x ∷ xs) = (omega arith, placed xs)

rising : (n : ℕ) → IsRisingPlan (calm_plan n)
rising n = record {
  script_rises = λ i j d lt inside. let no : ⊥ = omega (arith, inside) in absurd no;
  twins_rise = λ i j d lt inside. let no : ⊥ = omega (arith, inside) in absurd no;
}

pub generated_accepted : (n : ℕ) → n ≤ 1000 → IsAccepted (generated n)
generated_accepted n h = record { valid = (gen_valid, tt); called = (gen_called, tt); few = few n h; placed = placed (range_with_len 0 n); rising = rising n }

pub items_parsed : path_of (36 ∷ 46 ∷ 105 ∷ 116 ∷ 101 ∷ 109 ∷ 115 ∷ []) ≡ Some items_path
items_parsed = refl

abbrev parts : Machines → Functions → List Session → List Mishap → List ℕ → ℕ → Accepted
parts machines fs ss script twins n = record { machines = machines; functions = fs; sessions = ss; plan = record { seed = n; crash = 0; repeat = 0; script = script; twins = twins } }

-- parts that are those of the generated bundle
pub parts_accepted : (n : ℕ) → n ≤ 1000 → (machines : Machines) (fs : Functions) (ss : List Session) (script : List Mishap) (twins : List ℕ) → machines ≡ (codes "gen", gen) ∷ [] → fs ≡ functions
    → ss ≡ map session (range_with_len 0 n) → script ≡ [] → twins ≡ [] → IsAccepted (parts machines fs ss script twins n)
parts_accepted n h machines fs ss script twins em ef es ec et =
    subst (λ z. IsAccepted (parts z fs ss script twins n)) (sym em)
    (subst (λ z. IsAccepted (parts ((codes "gen", gen) ∷ []) z ss script twins n)) (sym ef)
    (subst (λ z. IsAccepted (parts ((codes "gen", gen) ∷ []) functions z script twins n)) (sym es)
    (subst (λ z. IsAccepted (parts ((codes "gen", gen) ∷ []) functions (map session (range_with_len 0 n)) z twins n)) (sym ec)
    (subst (λ z. IsAccepted (parts ((codes "gen", gen) ∷ []) functions (map session (range_with_len 0 n)) [] z n)) (sym et)
    (generated_accepted n h)))))
