-- What is said of a block with all inside it, from the inside out: how many states there are, and that names rise.
use Rattle.std.specs.Prelude.{ℕ, ◌+◌, List, [], ◌∷◌}
use Rattle.unum_json.specs.Keys.{IsRising}
use Rattle.asl_model.specs.Data.{Text}
use Rattle.asl_model.specs.Machine.{Block, block, States, no_state, and_state, State, Task, Pass, Choice, Succeed, Fail, Parallel, Map, Blocks, no_block, and_block}

abbrev mutual
  pub count_block : Block → ℕ
  count_block (block start states) = count_within states

  pub count_within : States → ℕ
  count_within no_state = 0
  count_within (and_state name s rest) = 1 + count_under s + count_within rest

  pub count_under : State → ℕ
  count_under (Task shape resource after care) = 0
  count_under (Pass shape result after) = 0
  count_under (Choice shape rules default) = 0
  count_under (Succeed shape) = 0
  count_under (Fail error cause) = 0
  count_under (Parallel shape bs after care) = count_all bs
  count_under (Map shape items selector b after care limit) = count_block b

  pub count_all : Blocks → ℕ
  count_all no_block = 0
  count_all (and_block b bs) = count_block b + count_all bs

abbrev pub names_of : States → List Text
names_of no_state = []
names_of (and_state name s rest) = name ∷ names_of rest

-- in each block the names of the states rise strictly by bytes
abbrev mutual
  pub HasRisingNames : Block → Type 0
  HasRisingNames (block start states) = IsRising (names_of states) × RisesWithin states

  pub RisesWithin : States → Type 0
  RisesWithin no_state = Unit {0}
  RisesWithin (and_state name s rest) = RisesUnder s × RisesWithin rest

  pub RisesUnder : State → Type 0
  RisesUnder (Task shape resource after care) = Unit {0}
  RisesUnder (Pass shape result after) = Unit {0}
  RisesUnder (Choice shape rules default) = Unit {0}
  RisesUnder (Succeed shape) = Unit {0}
  RisesUnder (Fail error cause) = Unit {0}
  RisesUnder (Parallel shape bs after care) = RisesAll bs
  RisesUnder (Map shape items selector b after care limit) = HasRisingNames b

  pub RisesAll : Blocks → Type 0
  RisesAll no_block = Unit {0}
  RisesAll (and_block b bs) = HasRisingNames b × RisesAll bs
