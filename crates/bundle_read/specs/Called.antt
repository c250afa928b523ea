-- Whether a state of a block or of those inside it passes a test, from the inside out.
use Rattle.std.specs.Prelude.{Bool, false, ◌||◌}
use Rattle.asl_model.specs.Machine.{Block, block, States, no_state, and_state, State, Task, Pass, Choice, Succeed, Fail, Parallel, Map, Blocks, no_block, and_block}

module _ (test : State → Bool) where
  abbrev mutual
    pub any_block : Block → Bool
    any_block (block start states) = any_within states

    pub any_within : States → Bool
    any_within no_state = false
    any_within (and_state name s rest) = (test s || any_under s) || any_within rest

    pub any_under : State → Bool
    any_under (Task shape resource after care) = false
    any_under (Pass shape result after) = false
    any_under (Choice shape rules default) = false
    any_under (Succeed shape) = false
    any_under (Fail error cause) = false
    any_under (Parallel shape bs after care) = any_all bs
    any_under (Map shape items selector b after care limit) = any_block b

    pub any_all : Blocks → Bool
    any_all no_block = false
    any_all (and_block b bs) = any_block b || any_all bs
