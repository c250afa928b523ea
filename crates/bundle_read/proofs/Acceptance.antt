-- A draft that breaks nothing is an accepted bundle.
use Rattle.std.proofs.Common.{◌≡◌, ℕ, ◌+◌, ◌<◌, ◌≤◌, List, [], ◌∷◌, ◌++◌, Bool, true, false, not, nat_lt, length, map, flat_map, refl, ◌∙◌, arith, codes, decimal}
use Rattle.std.specs.List.{AllByRecursion}
use Rattle.std.proofs.lemmas.List.{length-map}
use Rattle.std.proofs.lemmas.Bool.Decides.{nat_tests}
use Rattle.asl_model.specs.declared.machine.Machine.{Machine}
use Rattle.asl_model.specs.Tree.{tree_of}
use Rattle.asl_model.specs.Valid.{broken}
use Rattle.unum_world.specs.declared.opening.Session.{Session}
use Rattle.bundle_read.specs.Accepted.{IsAccepted, accepted_of, session_of}
use Rattle.bundle_read.specs.Bounds.{Text, Functions, Machines, in_items, knows, number_of, pair_of, many_if, broken_machine, broken_machines, broken_names, broken_numbers, broken_rules, broken_sizes, lost_session, lost_sessions, calls_others, lost_machine, lost_machines, large_value, large_input, crowd, wild_function, wild_plan}
use Rattle.bundle_read.specs.declared.draft.Draft.{Draft}
use Rattle.bundle_read.specs.declared.draft.DraftSession.{DraftSession}
use Rattle.bundle_read.specs.declared.refusal.BRule.TheVariants.{B1, B2, B4}
use Rattle.bundle_read.specs.declared.refusal.BrokenPair.{BrokenPair}
use Rattle.bundle_read.specs.declared.refusal.Refusal.{Refusal}
use Rattle.bundle_read.proofs.Halving.{known}
use Rattle.bundle_read.proofs.PlanRises.{plan_rises}
use Rattle.bundle_read.proofs.Unbroken.{front_none, rest_none, not_broken}

map_none : {A B : Type 0} (f : A → B) (xs : List A) → map f xs ≡ [] → xs ≡ []
map_none f [] h = refl
map_none f (x ∷ xs) h = absurd (cc)

many_none : (ps : List BrokenPair) → many_if ps ≡ [] → ps ≡ []
many_none [] h = refl
many_none (p ∷ ps) h = absurd (cc)

all_valid : (ms : Machines) → broken_machines ms ≡ [] → AllByRecursion (λ (m : Text × Machine). broken (tree_of m.1) ≡ []) ms
all_valid [] h = tt
all_valid (m ∷ ms) h =
    let here : broken_machine m ≡ [] = front_none (broken_machine m) (broken_machines ms) h in
    let pairs : map (pair_of m.0) (broken (tree_of m.1)) ≡ [] = many_none (map (pair_of m.0) (broken (tree_of m.1))) here in
    (map_none (pair_of m.0) (broken (tree_of m.1)) pairs, all_valid ms (rest_none (broken_machine m) (broken_machines ms) h))

all_called : (fns : Functions) (ms : Machines) → lost_machines fns ms ≡ [] → AllByRecursion (λ (m : Text × Machine). calls_others fns (tree_of m.1) ≡ false) ms
all_called fns [] h = tt
all_called fns (m ∷ ms) h =
    let here : lost_machine fns m ≡ [] = front_none (lost_machine fns m) (lost_machines fns ms) h in
    (not_broken (calls_others fns (tree_of m.1)) B2 (codes "/machines/" ++ m.0) here, all_called fns ms (rest_none (lost_machine fns m) (lost_machines fns ms) h))

not_false : (b : Bool) → not b ≡ false → b ≡ true
not_false true h = refl
not_false false h = absurd (cc)

is_below : (n m : ℕ) → nat_lt n m ≡ true → n < m
is_below n m h = grind (arith, nat_tests)

is_few : (n : ℕ) → nat_lt 1000 n ≡ false → n ≤ 1000
is_few n h = grind (arith, nat_tests)

all_placed : (ms : Machines) (k : ℕ) (ss : List DraftSession) → in_items (lost_session ms) k ss ≡ [] → AllByRecursion (λ (s : Session). s.machine < length ms) (map (session_of ms) ss)
unfolding in_items
all_placed ms k [] h = tt
all_placed ms k (s ∷ ss) h =
    let here : lost_session ms k s ≡ [] = front_none (lost_session ms k s) (in_items (lost_session ms) (k + 1) ss) h in
    let knows_it : knows ms s.machine ≡ true = not_false (knows ms s.machine) (not_broken (not (knows ms s.machine)) B1 (codes "/sessions/" ++ decimal k ++ codes "/machine") here) in
    (is_below (number_of ms s.machine) (length ms) (known s.machine ms ∙ knows_it), all_placed ms (k + 1) ss (rest_none (lost_session ms k s) (in_items (lost_session ms) (k + 1) ss) h))

module _ (d : Draft) (h : broken_rules d ≡ []) where
  abbrev names : List Refusal
  names = broken_names d.functions d.machines d.sessions

  abbrev sizes : List Refusal
  sizes = broken_sizes d.functions d.sessions

  abbrev numbers : List Refusal
  numbers = broken_numbers d.functions d.plan

  no_machines : broken_machines d.machines ≡ []
  no_machines = front_none (broken_machines d.machines) (names ++ (sizes ++ numbers)) h

  no_names : names ≡ []
  no_names = front_none names (sizes ++ numbers) (rest_none (broken_machines d.machines) (names ++ (sizes ++ numbers)) h)

  no_sizes : sizes ≡ []
  no_sizes = front_none sizes numbers (rest_none names (sizes ++ numbers) (rest_none (broken_machines d.machines) (names ++ (sizes ++ numbers)) h))

  no_numbers : numbers ≡ []
  no_numbers = rest_none sizes numbers (rest_none names (sizes ++ numbers) (rest_none (broken_machines d.machines) (names ++ (sizes ++ numbers)) h))

  no_crowd : crowd d.sessions ≡ []
  no_crowd = rest_none (in_items large_input 0 d.sessions) (crowd d.sessions) (rest_none (flat_map large_value d.functions) (in_items large_input 0 d.sessions ++ crowd d.sessions) no_sizes)

  pub accepted_is : IsAccepted (accepted_of d)
  accepted_is =
      let few : length d.sessions ≤ 1000 = is_few (length d.sessions) (not_broken (nat_lt 1000 (length d.sessions)) B4 (codes "/sessions") no_crowd) in
      record {
        valid = all_valid d.machines no_machines;
        called = all_called d.functions d.machines (rest_none (lost_sessions d.machines d.sessions) (lost_machines d.functions d.machines) no_names);
        few = rw length-map few;
        placed = all_placed d.machines 0 d.sessions (front_none (lost_sessions d.machines d.sessions) (lost_machines d.functions d.machines) no_names);
        rising = plan_rises d.plan (rest_none (flat_map wild_function d.functions) (wild_plan d.plan) no_numbers);
      }
