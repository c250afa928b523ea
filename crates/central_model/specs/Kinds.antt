-- What the kinds of states do, where an error of their own data flow is left to whoever calls.
-- Source: Amazon States Language, "State Types".
use Rattle.std.specs.Prelude.{ℕ, List, ◌++◌, map, Option, Some, None, Result, Ok, Err, false}
use Rattle.choice_rules.specs.Evaluating.{choose_from}
use Rattle.asl_model.specs.Data.{Text, Json, Fault, Done, failure, or_path_failure, Shape, Rule, Path, Template, prepared, handed_on, output, chosen, no_choice, and_then, parallel_inputs, map_inputs}
use Rattle.asl_model.specs.declared.machine.TopRule.{TopRule}
use Rattle.asl_model.specs.Machine.{Care, State, Parallel, Map}
use Rattle.asl_model.specs.Head.{result_or, leaves, picked, caught}
use Rattle.asl_model.specs.Step.{Onward, Goes, Ends, Begun, On, Calls, Fans}

-- an error has the state's name as cause, and ends the scope
abbrev pub or_failed : Text → Result Onward Text → Onward
or_failed name (Ok o) = o
or_failed name (Err e) = Ends (failure e name)

abbrev pub on_or_failed : Text → Result Onward Text → Begun
on_or_failed name made = On (or_failed name made)

-- an error goes to the catchers at once
abbrev pub begun_or_caught : Text → Json → Care → Result Begun Text → Begun
begun_or_caught name raw care (Ok b) = b
begun_or_caught name raw care (Err e) = On (caught name raw e name false care.catch)

abbrev pub passes : Shape → (constant : Option Json) → (after : Option Text) → Json → Result Onward Text
passes shape constant after raw =
    and_then (prepared shape raw) (λ x. and_then (handed_on shape raw (result_or constant x)) (λ v. Ok (leaves after v)))

abbrev pub some_next : Option Text → Result Text Text
some_next None = Err no_choice
some_next (Some next) = Ok next

-- the next state of the first rule that matches, or the default
abbrev pub next_state : List TopRule → (default : Option Text) → Json → Result Text Text
next_state rules default x =
    and_then (chosen (map (λ (r : TopRule). r.rule) rules) x) (λ i. some_next (picked (map (λ (r : TopRule). r.next) rules) default i))

abbrev pub chooses : Shape → List TopRule → (default : Option Text) → Json → Result Onward Text
chooses shape rules default raw =
    and_then (prepared shape raw) (λ x.
    and_then (next_state rules default x) (λ next.
    and_then (output shape x) (λ v. Ok (Goes next v None))))

-- where a Choice leads with its prepared data
abbrev pub chooses_with : Shape → List TopRule → (default : Option Text) → (prepared : Json) → Result Onward Text
chooses_with shape rules default x = and_then (next_state rules default x) (λ next. and_then (output shape x) (λ v. Ok (Goes next v None)))

abbrev pub succeeds : Shape → Json → Result Onward Text
succeeds shape raw = and_then (prepared shape raw) (λ x. and_then (output shape x) (λ v. Ok (Ends (Done v))))

abbrev pub calls : Shape → (resource : Text) → Json → Result Begun Text
calls shape resource raw = and_then (prepared shape raw) (λ x. Ok (Calls resource x))

-- the state is a Parallel or a Map
abbrev pub IsFan : State → Type 0
IsFan (Parallel shape bs after care) = Unit {0}
IsFan (Map shape items selector b after care limit) = Unit {0}
IsFan _ = ⊥

abbrev pub parallel_fans : Shape → ℕ → Json → Result Begun Text
parallel_fans shape n raw = and_then (prepared shape raw) (λ x. and_then (parallel_inputs n x) (λ inputs. Ok (Fans inputs)))

abbrev pub map_fans : Shape → (items : Path) → (selector : Option Template) → Json → Result Begun Text
map_fans shape items selector raw = and_then (prepared shape raw) (λ x. and_then (map_inputs items selector x) (λ inputs. Ok (Fans inputs)))

-- the same, once the rules before this number did not match
abbrev pub next_from : ℕ → List Rule → List TopRule → (default : Option Text) → Json → Result Text Text
next_from i rest rules default x =
    and_then (or_path_failure (choose_from i rest x)) (λ k. some_next (picked (map (λ (r : TopRule). r.next) rules) default k))

-- the outputs so far, and then those that follow
abbrev pub more_outputs : List Json → Result (List Json) Fault → Result (List Json) Fault
more_outputs before (Ok vs) = Ok (before ++ vs)
more_outputs before (Err f) = Err f
