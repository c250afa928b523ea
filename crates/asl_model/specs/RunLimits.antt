-- Where the limits of a run stand: one more is too much.
-- Source: Amazon States Language, "Parallel State", "Map State" and "Errors".
use Rattle.std.specs.Prelude.{◌≡◌, ℕ, List, [], map, length, Option, Some, None, Ok, Err, codes}
use Rattle.unum_json.specs.declared.value.Json as json
use Rattle.unum_json.specs.Tree.{nodes, depth}
use Rattle.asl_model.specs.Data.{Text, Json, Outcome, Done, Failed, repeat, combine, parallel_inputs, map_inputs}
use Rattle.asl_model.specs.Names.{Answers}
use Rattle.asl_model.specs.Machine.{Block, block, no_state, and_state, State, Task, Used, state_of}
use Rattle.asl_model.specs.Head.{bare}
use Rattle.asl_model.specs.Step.{Ways, Calls}
use Rattle.asl_model.specs.Central.{Ended, central, used_by}
use Rattle.asl_model.specs.Stretch.{stretch, Call, Over}
use Rattle.asl_model.specs.Examples.{whole, goes_to, null, plainly}

-- Task A goes on to Task B, and B to A
abbrev pub turns : Block
turns = block (codes "A")
    (and_state (codes "A") (Task whole (codes "f") (goes_to (codes "B")) bare)
    (and_state (codes "B") (Task whole (codes "f") (goes_to (codes "A")) bare) no_state))

abbrev pub always : Answers
always p = Some (Done null)

abbrev pub at_the_hop_limit : (state : Text) → Outcome
at_the_hop_limit state = Failed (record { error = codes "Unum.HopLimit"; cause = state })

abbrev pub past_the_data_limit : (state : Text) → Outcome
past_the_data_limit state = Failed (record { error = codes "Unum.DataLimit"; cause = state })

-- a scope enters 2,000 states, which stand here after its Enter, and ends with the name of the next
abbrev pub HopsEnd : Type 0
HopsEnd = (length (central plainly always turns 0 null).visits ≡ 2001)
    × ((central plainly always turns 0 null).end ≡ Ended (at_the_hop_limit (codes "A")))

-- a state may be entered at hop 1,999 and not at hop 2,000
abbrev pub StretchEnds : Type 0
StretchEnds = (W : Ways) (b : Block) (name resource : Text) (s : State) (x v : Json) (again : Option Used) →
    state_of b name ≡ Some s → W.begin name s v ≡ Calls resource x →
    (stretch W b name 1999 v again ≡ Call name 1999 v (used_by W s again)) × (stretch W b name 2000 v again ≡ Over (at_the_hop_limit name))

-- a Map of the items of its data may have 1,000 of them
abbrev pub ItemsEnd : Type 0
ItemsEnd = (vs : List Json) →
    (length vs ≡ 1000 → nodes (json.Arr vs) ≡ 200000 → map_inputs [] None (json.Arr vs) ≡ Ok vs)
    × (length vs ≡ 1001 → map_inputs [] None (json.Arr vs) ≡ Err (codes "Unum.ItemLimit"))

-- the inputs of a fan, as an array, may have 200,000 nodes
abbrev pub InputsEnd : Type 0
InputsEnd =
    ((vs : List Json) → length vs ≡ 1000 → nodes (json.Arr vs) ≡ 200001 → map_inputs [] None (json.Arr vs) ≡ Err (codes "Unum.DataLimit"))
    × ((n : ℕ) → n ≡ 199999 → parallel_inputs n null ≡ Ok (repeat n null))
    × ((n : ℕ) → n ≡ 200000 → parallel_inputs n null ≡ Err (codes "Unum.DataLimit"))

-- the outcomes of a fan, as an array, may have 200,000 nodes and depth 120; else the fan's state is the cause
abbrev pub OutcomesEnd : Type 0
OutcomesEnd = (name : Text) (vs : List Json) →
    (nodes (json.Arr vs) ≡ 200000 → depth (json.Arr vs) ≡ 120 → combine name (map Done vs) ≡ Done (json.Arr vs))
    × (nodes (json.Arr vs) ≡ 200001 → combine name (map Done vs) ≡ past_the_data_limit name)
    × (nodes (json.Arr vs) ≡ 200000 → depth (json.Arr vs) ≡ 121 → combine name (map Done vs) ≡ past_the_data_limit name)
