-- The rules of one state.
-- Source: Amazon States Language, "Structure of a State Machine", "States", "Transitions", "Choice State", "Parallel State",
-- "Map State" and "Errors". The bounds are this project's own.
use Rattle.std.specs.Prelude.{Bool, false, not, ◌&&◌, ◌||◌, ◌==◌, nat_lt, map, flat_map, length, List}
use Rattle.std.specs.List.{list_any}
use Rattle.std.specs.Str.{bytes_eq}
use Rattle.asl_model.specs.declared.machine.Catcher.{Catcher}
use Rattle.asl_model.specs.declared.machine.Retrier.{Retrier}
use Rattle.asl_model.specs.declared.machine.TopRule.{TopRule}
use Rattle.asl_model.specs.declared.validity.VRule.{VRule}
use Rattle.asl_model.specs.declared.validity.VRule.TheVariants.{V1, V2, V4, V5, V6, V7, V8, V10, V11}
use Rattle.asl_model.specs.Blocks.{Row}
use Rattle.asl_model.specs.Data.{Text, all_errors}
use Rattle.asl_model.specs.Machine as m
use Rattle.asl_model.specs.Machine.{Block, start_of}
use Rattle.asl_model.specs.Tree.{catcher_of}
use Rattle.asl_model.specs.Valid.{Broken, broken_if, broken_in, has_state, has_bad_branches, has_bad_care, has_bad_errors, has_bad_limit, has_inner, is_lost, is_misnamed, lacks_after, lacks_choices}
use Rattle.asl_valid.specs.Levels.{Roomy}

abbrev pub is_unknown : Block → Text → Bool
is_unknown b name = not (has_state b name)

abbrev pub catcher_nexts : List Catcher → List Text
catcher_nexts cs = map (λ (c : m.Catcher). c.next) (map catcher_of cs)

abbrev pub rule_nexts : List TopRule → List Text
rule_nexts rs = map (λ (r : TopRule). r.next) rs

abbrev pub catcher_errors : List Catcher → List (List Text)
catcher_errors cs = map (λ (c : m.Catcher). c.errors) (map catcher_of cs)

abbrev pub retrier_errors : List Retrier → List (List Text)
retrier_errors rs = map (λ (r : Retrier). r.errors) rs

-- one of the names is States.ALL
abbrev pub has_all : List Text → Bool
has_all names = list_any (λ name. bytes_eq name all_errors) names

abbrev pub is_bad_care : m.Care → Bool
is_bad_care care =
    has_bad_errors (map (λ (r : Retrier). r.errors) care.retry)
    || has_bad_errors (map (λ (c : m.Catcher). c.errors) care.catch)
    || list_any (λ (r : Retrier). nat_lt 99999999 r.most) care.retry
    || nat_lt 16 (length care.retry)
    || nat_lt 16 (length care.catch)

-- whether a state breaks a rule, in a block with so much room; the other rules are not of one state
abbrev pub breaks : VRule → Roomy → Row → Bool
breaks V2 l r = is_lost l.0 r.1
breaks V4 l r = is_misnamed r.0
breaks V5 l r = lacks_after r.1
breaks V6 l r = lacks_choices r.1
breaks V7 l r = has_bad_branches r.1
breaks V8 l r = has_inner r.1 && (l.1 == 0)
breaks V10 l r = has_bad_care r.1
breaks V11 l r = has_bad_limit r.1
breaks _ l r = false

-- the pairs of a rule in one block
abbrev pub pairs_in : VRule → Roomy → Broken
pairs_in rule l = broken_in rule (breaks rule l) l.0

-- the pairs of a rule, block by block
abbrev pub pairs_of : List Roomy → VRule → Broken
pairs_of ls rule = flat_map (pairs_in rule) ls

-- a StartAt that is no state of its block
abbrev pub bad_start : Roomy → Broken
bad_start l = broken_if (is_unknown l.0 (start_of l.0)) V1 (start_of l.0)
