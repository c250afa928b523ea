-- The rules of a bundle whose text was read: its machines are valid, its names lead to something, and its sizes and numbers
-- are in their ranges. Each rule is the list of what breaks it, in order.
use Rattle.std.specs.Prelude.{ℕ, ◌+◌, ◌&&◌, Bool, true, false, not, nat_lt, nat_le, List, [], ◌∷◌, ◌++◌, length, map, flat_map, codes, decimal, is_some, if◌then◌else◌}
use Rattle.std.specs.List.{list_any, position_or_len}
use Rattle.std.specs.Str.{bytes_eq}
use Rattle.unum_json.specs.Keys.{find_key}
use Rattle.unum_json.specs.Tree.{is_small}
use Rattle.fn_table.specs.declared.kind.FnKind.{FnKind}
use Rattle.fn_table.specs.declared.kind.FnKind.TheVariants.{Const, Flaky}
use Rattle.asl_model.specs.declared.machine.Machine.{Machine}
use Rattle.asl_model.specs.declared.validity.BrokenRule.{BrokenRule}
use Rattle.asl_model.specs.Machine.{Block, State, Task}
use Rattle.asl_model.specs.Blocks.{Row, nodes}
use Rattle.asl_model.specs.Tree.{tree_of}
use Rattle.asl_model.specs.Valid.{broken}
use Rattle.bundle_read.specs.declared.draft.Draft.{Draft}
use Rattle.bundle_read.specs.declared.draft.DraftPlan.{DraftPlan}
use Rattle.bundle_read.specs.declared.draft.DraftSession.{DraftSession}
use Rattle.bundle_read.specs.declared.refusal.BRule.{BRule}
use Rattle.bundle_read.specs.declared.refusal.BRule.TheVariants.{B1, B2, B3, B4, B5}
use Rattle.bundle_read.specs.declared.refusal.RuleCode.TheVariants as code
use Rattle.bundle_read.specs.declared.refusal.BrokenPair.{BrokenPair}
use Rattle.bundle_read.specs.declared.refusal.Refusal.{Refusal}
use Rattle.bundle_read.specs.declared.refusal.Refusal.TheVariants.{One, Many}

abbrev pub Text : Type 0
Text = List ℕ

-- keys and indices, each with a slash before it
abbrev pub Place : Type 0
Place = List ℕ

abbrev pub Functions : Type 0
Functions = List (Text × FnKind)

abbrev pub Machines : Type 0
Machines = List (Text × Machine)

-- this rule with the place, where it is broken
abbrev pub broken_if : Bool → BRule → Place → List Refusal
broken_if b rule at = if b then One (code.Bundle rule) at ∷ [] else []

-- what each item breaks, which has its number from k on
unfoldable pub in_items : {A : Type 0} → (ℕ → A → List Refusal) → ℕ → List A → List Refusal
in_items f k [] = []
in_items f k (x ∷ xs) = f k x ++ in_items f (k + 1) xs

-- the number of a name, or else how many names there are
abbrev pub number_of : {V : Type 0} → List (Text × V) → Text → ℕ
number_of {V} named name = position_or_len (λ (f : Text × V). bytes_eq f.0 name) named

-- whether the name is there
abbrev pub knows : {V : Type 0} → List (Text × V) → Text → Bool
knows named name = is_some (find_key name named)

-- ---------------------------------------------------------------- a machine is not valid

abbrev pub pair_of : Text → BrokenRule → BrokenPair
pair_of machine b = record { rule = b.rule; machine = machine; state = b.state }

abbrev pub many_if : List BrokenPair → List Refusal
many_if [] = []
many_if (p ∷ ps) = Many (p ∷ ps) ∷ []

-- all that a machine breaks
abbrev pub broken_machine : Text × Machine → List Refusal
broken_machine m = many_if (map (pair_of m.0) (broken (tree_of m.1)))

abbrev pub broken_machines : Machines → List Refusal
broken_machines machines = flat_map broken_machine machines

-- ---------------------------------------------------------------- B1: a session's machine is not there

abbrev pub lost_session : Machines → ℕ → DraftSession → List Refusal
lost_session machines i s = broken_if (not (knows machines s.machine)) B1 (codes "/sessions/" ++ decimal i ++ codes "/machine")

abbrev pub lost_sessions : Machines → List DraftSession → List Refusal
lost_sessions machines sessions = in_items (lost_session machines) 0 sessions

-- ---------------------------------------------------------------- B2: a Task's Resource is not among the functions

abbrev pub calls_another : Functions → State → Bool
calls_another functions (Task shape resource after care) = not (knows functions resource)
calls_another functions _ = false

-- whether a Task anywhere in the machine calls a function that is not there
abbrev pub calls_others : Functions → Block → Bool
calls_others functions root = list_any (λ (r : Row). calls_another functions r.1) (nodes root)

abbrev pub lost_machine : Functions → Text × Machine → List Refusal
lost_machine functions m = broken_if (calls_others functions (tree_of m.1)) B2 (codes "/machines/" ++ m.0)

abbrev pub lost_machines : Functions → Machines → List Refusal
lost_machines functions machines = flat_map (lost_machine functions) machines

-- ---------------------------------------------------------------- B3: the value of a const or an input is too large

abbrev pub is_large : FnKind → Bool
is_large (Const v) = not (is_small v)
is_large _ = false

abbrev pub large_value : Text × FnKind → List Refusal
large_value f = broken_if (is_large f.1) B3 (codes "/functions/" ++ f.0 ++ codes "/value")

abbrev pub large_input : ℕ → DraftSession → List Refusal
large_input i s = broken_if (not (is_small s.input)) B3 (codes "/sessions/" ++ decimal i ++ codes "/input")

-- ---------------------------------------------------------------- B4: there are too many sessions

abbrev pub crowd : List DraftSession → List Refusal
crowd sessions = broken_if (nat_lt 1000 (length sessions)) B4 (codes "/sessions")

-- ---------------------------------------------------------------- B5: a number is out of its range

abbrev pub is_outside : (low high : ℕ) → ℕ → Bool
is_outside low high n = not (nat_le low n && nat_le n high)

-- this place, where the number there is out of its range
abbrev pub wild_if : (low high : ℕ) → ℕ → Place → List Refusal
wild_if low high n at = broken_if (is_outside low high n) B5 at

abbrev pub is_wild : FnKind → Bool
is_wild (Flaky every) = is_outside 2 1000 every
is_wild _ = false

abbrev pub wild_function : Text × FnKind → List Refusal
wild_function f = broken_if (is_wild f.1) B5 (codes "/functions/" ++ f.0 ++ codes "/every")

-- a crash: an attempt below 10,000,000 and not below low, and a step below 100,000
abbrev pub wild_item : (low : ℕ) → ℕ → List ℕ → List Refusal
wild_item low i (attempt ∷ step ∷ []) =
    wild_if low 9999999 attempt (codes "/plan/script/" ++ decimal i ++ codes "/0")
    ++ wild_if 0 99999 step (codes "/plan/script/" ++ decimal i ++ codes "/1")
wild_item low i _ = broken_if true B5 (codes "/plan/script/" ++ decimal i)

-- the lowest attempt after one
abbrev pub next_low : (low : ℕ) → List ℕ → ℕ
next_low low (attempt ∷ step ∷ []) = attempt + 1
next_low low _ = low

-- crashes by strictly rising attempts, from low on
unfoldable pub wild_script : (low : ℕ) → ℕ → List (List ℕ) → List Refusal
wild_script low i [] = []
wild_script low i (item ∷ items) = wild_item low i item ++ wild_script (next_low low item) (i + 1) items

abbrev pub wild_twin : (low : ℕ) → ℕ → ℕ → List Refusal
wild_twin low i attempt = wild_if low 9999999 attempt (codes "/plan/twins/" ++ decimal i)

-- attempts below 10,000,000, strictly rising from low on
unfoldable pub wild_twins : (low : ℕ) → ℕ → List ℕ → List Refusal
wild_twins low i [] = []
wild_twins low i (attempt ∷ attempts) = wild_twin low i attempt ++ wild_twins (attempt + 1) (i + 1) attempts

abbrev pub wild_plan : DraftPlan → List Refusal
wild_plan p =
    wild_if 0 1000 p.crash (codes "/plan/crash")
    ++ (wild_if 0 1000 p.repeat (codes "/plan/repeat")
    ++ (wild_script 0 0 p.script
    ++ (wild_if 0 65535 p.seed (codes "/plan/seed")
    ++ wild_twins 0 0 p.twins)))

-- ---------------------------------------------------------------- all of them

-- names that lead to nothing
abbrev pub broken_names : Functions → Machines → List DraftSession → List Refusal
broken_names functions machines sessions = lost_sessions machines sessions ++ lost_machines functions machines

abbrev pub broken_sizes : Functions → List DraftSession → List Refusal
broken_sizes functions sessions = flat_map large_value functions ++ (in_items large_input 0 sessions ++ crowd sessions)

abbrev pub broken_numbers : Functions → DraftPlan → List Refusal
broken_numbers functions plan = flat_map wild_function functions ++ wild_plan plan

abbrev pub broken_parts : Functions → Machines → List DraftSession → DraftPlan → List Refusal
broken_parts functions machines sessions plan =
    broken_machines machines ++ (broken_names functions machines sessions
    ++ (broken_sizes functions sessions ++ broken_numbers functions plan))

-- all that a bundle breaks once its text is read, in the order in which it is looked for
abbrev pub broken_rules : Draft → List Refusal
broken_rules d = broken_parts d.functions d.machines d.sessions d.plan
