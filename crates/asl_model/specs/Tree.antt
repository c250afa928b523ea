-- The plain tree of a machine: the definitions of runs and of validity speak of it alone.
use Rattle.std.specs.Prelude.{map, List, [], ◌∷◌}
use Rattle.asl_model.specs.declared.machine.Machine.{Machine}
use Rattle.asl_model.specs.declared.machine.Block.{Block}
use Rattle.asl_model.specs.declared.machine.State.{State}
use Rattle.asl_model.specs.declared.machine.State.TheOpen.{State-F, Block-F}
use Rattle.asl_model.specs.declared.machine.State.TheFolds.{fold-State, fold-Block}
use Rattle.asl_model.specs.declared.machine.Care.{Care}
use Rattle.asl_model.specs.declared.machine.Catcher.{Catcher}
use Rattle.asl_model.specs.Data.{Text}
use Rattle.asl_model.specs.Machine as m

abbrev pub catcher_of : Catcher → m.Catcher
catcher_of c = record { errors = c.errors; result = c.result; next = c.next }

abbrev pub care_of : Care → m.Care
care_of c = record { retry = c.retry; catch = map catcher_of c.catch }

abbrev pub states_from : List (Text × m.State) → m.States
states_from [] = m.no_state
states_from (r ∷ rs) = m.and_state r.0 r.1 (states_from rs)

abbrev pub blocks_from : List m.Block → m.Blocks
blocks_from [] = m.no_block
blocks_from (b ∷ bs) = m.and_block b (blocks_from bs)

abbrev pub state_step : State-F m.State m.Block → m.State
state_step (State-F.Task shape resource after care) = m.Task shape resource after (care_of care)
state_step (State-F.Pass shape result after) = m.Pass shape result after
state_step (State-F.Choice shape rules default) = m.Choice shape rules default
state_step (State-F.Succeed shape) = m.Succeed shape
state_step (State-F.Fail error cause) = m.Fail error cause
state_step (State-F.Parallel shape branches after care) = m.Parallel shape (blocks_from branches) after (care_of care)
state_step (State-F.Map shape items selector body after care limit) = m.Map shape items selector body after (care_of care) limit

abbrev pub block_step : Block-F m.State m.Block → m.Block
block_step b = m.block b.start (states_from b.states)

abbrev pub state_tree : State → m.State
state_tree = fold-State m.State m.Block state_step block_step

abbrev pub block_tree : Block → m.Block
block_tree = fold-Block m.State m.Block state_step block_step

-- the root block of a machine
abbrev pub tree_of : Machine → m.Block
tree_of machine = block_tree machine.root
