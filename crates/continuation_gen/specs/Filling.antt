-- What the compiler lists and fills in: a block of the code with its numbers, and where a state of it stands.
use Rattle.std.specs.Prelude.{ℕ, ◌+◌}
use Rattle.asl_model.specs.Data.{Text}
use Rattle.asl_model.specs.Machine.{State, Parallel, Map, states_of}
use Rattle.asl_model.specs.Tree.{block_tree}
use Rattle.continuation_gen.specs.declared.placed.Placed.{Placed as Listed}
use Rattle.continuation_gen.specs.declared.placed.Spot.{Spot}
use Rattle.continuation_gen.specs.Numbering.{At, Placed, index_of}

-- the block's tree with its numbers
abbrev pub placed_of : Listed → Placed
placed_of p = record { at = p.at; parent = p.parent; block = block_tree p.block.now }

-- the node of the state of that name
abbrev pub number_in : Spot → Text → ℕ
number_in s name = s.first + index_of (states_of (block_tree s.block.now)) name

-- the first scope inside a state: of what is inside, a node tells no other numbers
abbrev pub inner_at : ℕ → At
inner_at scope = record { scope = scope; node = 0; func = 0 }

-- the state is a Parallel or a Map
abbrev pub IsFan : State → Type 0
IsFan (Parallel shape bs after care) = Unit {0}
IsFan (Map shape items selector b after care limit) = Unit {0}
IsFan _ = ⊥
