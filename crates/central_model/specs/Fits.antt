-- What keeps the places of a block's runs in range: how deep blocks nest, and how many branches a Parallel has.
use Rattle.std.specs.Prelude.{ℕ, zero, suc, ◌≤◌, length}
use Rattle.asl_model.specs.Machine.{Block, block, States, no_state, and_state, State, Task, Pass, Choice, Succeed, Fail, Parallel, Map, Blocks, no_block, and_block, blocks_in}

-- the block nests at most so many levels deep, itself counted, and no Parallel has more than 1,000 branches
abbrev mutual
  pub FitsIn : ℕ → Block → Type 0
  FitsIn zero b = ⊥
  FitsIn (suc n) (block start states) = FitWithin n states

  pub FitWithin : ℕ → States → Type 0
  FitWithin n no_state = Unit {0}
  FitWithin n (and_state name s rest) = FitsUnder n s × FitWithin n rest

  pub FitsUnder : ℕ → State → Type 0
  FitsUnder n (Task shape resource after care) = Unit {0}
  FitsUnder n (Pass shape result after) = Unit {0}
  FitsUnder n (Choice shape rules default) = Unit {0}
  FitsUnder n (Succeed shape) = Unit {0}
  FitsUnder n (Fail error cause) = Unit {0}
  FitsUnder n (Parallel shape bs after care) = (length (blocks_in bs) ≤ 1000) × FitAll n bs
  FitsUnder n (Map shape items selector b after care limit) = FitsIn n b

  pub FitAll : ℕ → Blocks → Type 0
  FitAll n no_block = Unit {0}
  FitAll n (and_block b bs) = FitsIn n b × FitAll n bs
