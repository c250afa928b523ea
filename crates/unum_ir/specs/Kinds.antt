-- What the kinds of nodes do, where an error of their own data flow is left to whoever calls.
-- Source: Amazon States Language, "State Types".
use Rattle.std.specs.Prelude.{◌≡◌, ℕ, ◌≤◌, ◌-◌, ◌^◌, min, List, ◌++◌, map, slice_get, Option, Some, None, Result, Ok, Err, false}
use Rattle.unum_json.specs.declared.value.Json as json
use Rattle.unum_json.specs.Tree.{nodes}
use Rattle.asl_paths.specs.Filling.{fill}
use Rattle.asl_shape.specs.Flow.{small_or}
use Rattle.asl_shape.specs.declared.trouble.ShapeError.TheVariants as error
use Rattle.choice_rules.specs.Evaluating.{choose_from}
use Rattle.asl_model.specs.Data.{Text, Json, Fault, Done, failure, or_path_failure, Shape, Rule, Path, Template, Made, named, prepared, handed_on, output, chosen, no_choice, and_then, parallel_inputs, map_inputs}
use Rattle.asl_model.specs.Head.{CareOf, OnwardOf, Goes, Ends, BegunOf, On, Calls, Fans, result_or, leaves, picked, caught}
use Rattle.unum_ir.specs.Flat.{NodeRule, Op, ParallelOp, MapOp}

-- an error has the node's name as cause, and ends the scope
abbrev pub or_failed : Text → Result (OnwardOf ℕ) Text → OnwardOf ℕ
or_failed name (Ok o) = o
or_failed name (Err e) = Ends (failure e name)

abbrev pub on_or_failed : Text → Result (OnwardOf ℕ) Text → BegunOf ℕ ℕ
on_or_failed name made = On (or_failed name made)

-- an error goes to the catchers at once
abbrev pub begun_or_caught : Text → Json → CareOf ℕ → Result (BegunOf ℕ ℕ) Text → BegunOf ℕ ℕ
begun_or_caught name raw care (Ok b) = b
begun_or_caught name raw care (Err e) = On (caught name raw e name false care.catch)

abbrev pub passes : Shape → (constant : Option Json) → (next : Option ℕ) → Json → Result (OnwardOf ℕ) Text
passes shape constant next raw =
    and_then (prepared shape raw) (λ x. and_then (handed_on shape raw (result_or constant x)) (λ v. Ok (leaves next v)))

abbrev pub some_next : Option ℕ → Result ℕ Text
some_next None = Err no_choice
some_next (Some next) = Ok next

abbrev pub rules_in : List NodeRule → List Rule
rules_in rules = map (λ (r : NodeRule). r.rule) rules

abbrev pub nexts_in : List NodeRule → List ℕ
nexts_in rules = map (λ (r : NodeRule). r.next) rules

-- the node of the first rule that matches, or the default
abbrev pub next_node : List NodeRule → (default : Option ℕ) → Json → Result ℕ Text
next_node rules default x = and_then (chosen (rules_in rules) x) (λ i. some_next (picked (nexts_in rules) default i))

-- the same, once the rules before this number did not match
abbrev pub next_from : ℕ → List Rule → List NodeRule → (default : Option ℕ) → Json → Result ℕ Text
next_from i rest rules default x = and_then (or_path_failure (choose_from i rest x)) (λ k. some_next (picked (nexts_in rules) default k))

-- where a choice leads with its prepared data
abbrev pub chooses_with : Shape → List NodeRule → (default : Option ℕ) → (prepared : Json) → Result (OnwardOf ℕ) Text
chooses_with shape rules default x = and_then (next_node rules default x) (λ next. and_then (output shape x) (λ v. Ok (Goes next v None)))

abbrev pub chooses : Shape → List NodeRule → (default : Option ℕ) → Json → Result (OnwardOf ℕ) Text
chooses shape rules default raw = and_then (prepared shape raw) (λ x. chooses_with shape rules default x)

abbrev pub succeeds : Shape → Json → Result (OnwardOf ℕ) Text
succeeds shape raw = and_then (prepared shape raw) (λ x. and_then (output shape x) (λ v. Ok (Ends (Done v))))

abbrev pub calls : Shape → (func : ℕ) → Json → Result (BegunOf ℕ ℕ) Text
calls shape func raw = and_then (prepared shape raw) (λ x. Ok (Calls func x))

-- the node is a Parallel or a Map
abbrev pub IsFan : Op → Type 0
IsFan (ParallelOp shape func next care scopes) = Unit {0}
IsFan (MapOp shape func next care scope items selector limit) = Unit {0}
IsFan _ = ⊥

abbrev pub parallel_fans : Shape → ℕ → Json → Result (BegunOf ℕ ℕ) Text
parallel_fans shape n raw = and_then (prepared shape raw) (λ x. and_then (parallel_inputs n x) (λ inputs. Ok (Fans inputs)))

abbrev pub map_fans : Shape → (items : Path) → (selector : Option Template) → Json → Result (BegunOf ℕ ℕ) Text
map_fans shape items selector raw = and_then (prepared shape raw) (λ x. and_then (map_inputs items selector x) (λ inputs. Ok (Fans inputs)))

-- ---- inputs and outputs

-- the input with that index, where there are any
abbrev pub input_at : (index : ℕ) → Result (List Json) Text → Option Json
input_at index (Ok inputs) = slice_get inputs index
input_at index (Err e) = None

-- what the item template makes of the item with this number
abbrev pub item_input : Template → Json → Json → ℕ → Made
item_input t x v i = named (small_or error.Parameter (fill x (Some (v, i)) t.fields))

-- the inputs so far, and then those that follow
abbrev pub more_inputs : List Json → Result (List Json) Text → Result (List Json) Text
more_inputs before (Ok vs) = Ok (before ++ vs)
more_inputs before (Err e) = Err e

-- the outputs so far, and then those that follow
abbrev pub more_outputs : List Json → Result (List Json) Fault → Result (List Json) Fault
more_outputs before (Ok vs) = Ok (before ++ vs)
more_outputs before (Err f) = Err f

-- of the inputs made, those that are kept, and the count of nodes of an array of all that were made: they are kept while few
-- enough together
abbrev pub Keeps : (kept : List Json) → (count : ℕ) → (made : List Json) → Type 0
Keeps kept count made = (count ≡ min (nodes (json.Arr made)) (2 ^ 64 - 1)) × (count ≤ 200000 → kept ≡ made)
