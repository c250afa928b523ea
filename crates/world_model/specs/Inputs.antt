-- What the fan of a branch saved gives the branch its input.
use Rattle.std.specs.Prelude.{ℕ, ◌≡◌, List, Some, slice_get}
use Rattle.place_name.specs.Names.{Parent}
use Rattle.place_name.specs.declared.obj.Obj.TheVariants.{Saved}
use Rattle.asl_model.specs.Data.{Json}
use Rattle.asl_model.specs.Names.{scope_of}
use Rattle.asl_model.specs.Machine.{Used}
use Rattle.world_model.specs.Acts.{parent_of}
use Rattle.world_model.specs.Operations.{Live, SavedAs, Invocation}
use Rattle.world_model.specs.Program.{input_at}
use Rattle.world_model.specs.World.{Opening, World, Event, run}

-- the invocation of that number is of a branch, whose fan saved that
pub record IsSavedFor (w : World) (n : ℕ) (i : Invocation) (q : Parent) (count : ℕ) (raw : Json) (used : Used) : Type 0 where
  pub invocation_is : slice_get w.invs n ≡ Some i
  pub branch_is : parent_of (scope_of i.name.place) ≡ Some q
  pub saved_is : w.objects (Saved q.place) ≡ Live (SavedAs count raw used)

-- the branch has its input by it
abbrev pub HasInputs : World → Type 0
HasInputs w =
    (n : ℕ) (i : Invocation) (q : Parent) (count : ℕ) (raw : Json) (used : Used) → IsSavedFor w n i q count raw used →
    (x : Json) × (input_at i.site.around raw (Some q) ≡ Some x)

-- After every list of events that may happen in turn, that is so.
abbrev pub EveryBranchHasInput : Type 0
EveryBranchHasInput = (o : Opening) (events : List Event) (w : World) → run o events ≡ Some w → HasInputs w
