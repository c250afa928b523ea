-- What data the states of small machines see and hand on, and which function is called first.
-- Source: Amazon States Language, "Input and Output Processing", "Choice State", "Pass State" and "Errors".
use Rattle.std.specs.Prelude.{◌≡◌, [], ◌∷◌, true, false, Some, None, pos, codes}
use Rattle.unum_json.specs.declared.value.Json as json
use Rattle.asl_paths.specs.declared.path.PathStep.TheVariants.{Field}
use Rattle.choice_rules.specs.declared.rule.Rule as rule
use Rattle.choice_rules.specs.declared.rule.Op.TheVariants as op
use Rattle.asl_model.specs.Data.{Text, Json, Done, Failed, Path, Rule}
use Rattle.asl_model.specs.Machine.{Block, block, no_state, and_state, Parallel, no_block, and_block}
use Rattle.asl_model.specs.Head.{Head, HTask, HPass, HChoice, CatcherOf, bare, begins, caught}
use Rattle.asl_model.specs.Step.{Begun, Goes, Ends, On}
use Rattle.asl_model.specs.Central.{Ended}
use Rattle.asl_model.specs.Sequential.{Functions, sequential}
use Rattle.asl_model.specs.Examples.{whole, at_end, null, one_task}

abbrev pub key : Text → Path
key k = Field k ∷ []

abbrev pub one : Json
one = json.Int (pos 1)

-- {"a":1}
abbrev pub inside : Json
inside = json.Obj ((codes "a", one) ∷ [])

-- {"o":{"a":1}}
abbrev pub outside : Json
outside = json.Obj ((codes "o", inside) ∷ [])

-- what the state of this name does first
abbrev pub does : Text → Head Text Text → Json → Begun
does name state raw = begins name state raw

-- whether there is a value at $.a
abbrev pub has_a : Rule
has_a = rule.Test (key (codes "a")) (op.IsPresent true)

-- A Choice asks its rules of what InputPath $.o finds, and its OutputPath $.a leads into that too.
abbrev pub ChoiceSeesInside : Type 0
ChoiceSeesInside =
    does (codes "C") (HChoice (record whole { input = Some (key (codes "o")); output = Some (key (codes "a")) }) (has_a ∷ [])
    (codes "N" ∷ []) None) outside
    ≡ On (Goes (codes "N") one None)

-- of the raw data it finds nothing there
abbrev pub ChoiceFindsNothing : Type 0
ChoiceFindsNothing =
    does (codes "C") (HChoice whole (has_a ∷ []) (codes "N" ∷ []) None) outside
    ≡ On (Ends (Failed (record { error = codes "States.NoChoiceMatched"; cause = codes "C" })))

-- A Pass hands on what InputPath $.o finds, or its Result.
abbrev pub PassHandsOn : Type 0
PassHandsOn =
    (does (codes "P") (HPass (record whole { input = Some (key (codes "o")) }) None (Some (codes "N"))) outside
    ≡ On (Goes (codes "N") inside None))
    × (does (codes "P") (HPass (record whole { input = Some (key (codes "o")) }) (Some one) (Some (codes "N"))) outside
    ≡ On (Goes (codes "N") one None))

-- an error of a state's data flow has the state's name as its cause
abbrev pub StateIsCause : Type 0
StateIsCause =
    does (codes "A") (HTask (record whole { input = Some (key (codes "q")) }) (codes "f") None bare) outside
    ≡ On (Ends (Failed (record { error = codes "Unum.PathFailure"; cause = codes "A" })))

-- a catcher of E that puts the error at $.e
abbrev pub catches_e : CatcherOf Text
catches_e = record { errors = codes "E" ∷ []; result = Some (key (codes "e")); next = codes "N" }

-- {"a":1,"e":{"Cause":"c","Error":"E"}}
abbrev pub with_error : Json
with_error = json.Obj
    ((codes "a", one)
    ∷ (codes "e", json.Obj ((codes "Cause", json.Str (codes "c")) ∷ (codes "Error", json.Str (codes "E")) ∷ [])) ∷ [])

-- a catcher puts error and cause into the raw data, each at its key
abbrev pub CatcherPuts : Type 0
CatcherPuts = caught (codes "A") inside (codes "E") (codes "c") false (catches_e ∷ []) ≡ Goes (codes "N") with_error None

-- a Parallel of two branches, each of one Task
abbrev pub both : Block
both = block (codes "P") (and_state (codes "P")
    (Parallel whole (and_block (one_task (codes "A")) (and_block (one_task (codes "A")) no_block)) at_end bare) no_state)

-- a function that answers its ticket
abbrev pub ticket : Functions
ticket resource input n = Done (json.Int (pos n))

-- the sequential run answers the Task of the first branch with ticket 0, and then that of the second with ticket 1
abbrev pub TicketsInOrder : Type 0
TicketsInOrder = (sequential both 0 null ticket).end ≡ Ended (Done (json.Arr (json.Int (pos 0) ∷ json.Int (pos 1) ∷ [])))
