-- In worlds that run flat forms each attempt has what its instance's calls take as given.
use Rattle.std.specs.Prelude.{ℕ, ◌≡◌, ◌≤◌, List, Some, length, slice_get, IsSome}
use Rattle.place_name.specs.declared.limits.TheConstants.{SESSIONS}
use Rattle.place_name.specs.declared.obj.Obj.TheVariants.{Saved}
use Rattle.place_name.specs.Names.{Parent, scope_of}
use Rattle.world_model.specs.AnyCode.Names.{parent_of}
use Rattle.world_model.specs.AnyCode.Code.{Json, Used, flags}
use Rattle.world_model.specs.AnyCode.Operations.{Invocation, Live, SavedAs}
use Rattle.world_model.specs.AnyCode.World.{Attempt, Event, code_of, run}
use Rattle.world_model.specs.World.{Opening}
use Rattle.world_model.specs.Numbered.{Numbered, first_number}
use Rattle.continuation_gen.specs.Laws.{ir_codes, AreValid}
use Rattle.fn_wrapper.specs.Ready.{IsReady, input_by}

-- each attempt is ready in its phase
abbrev pub AllAreReady : Opening → Numbered → Type 0
AllAreReady o w =
    (a : ℕ) (t : Attempt) (i : Invocation ℕ) → slice_get w.atts a ≡ Some t → slice_get w.invs t.inv ≡ Some i →
    IsReady (code_of (ir_codes o) i) i t.phase

-- After every list of events that may happen in turn in a world of at most 1,000 sessions that runs the flat forms of valid machines,
-- that is so.
abbrev pub EveryAttemptIsReady : Type 0
EveryAttemptIsReady =
    (o : Opening) → AreValid o → length o.sessions ≤ SESSIONS → (events : List Event) (w : Numbered) →
    run flags (ir_codes o) first_number o events ≡ Some w → AllAreReady o w

-- the invocation of that number is of a branch, whose fan saved that
pub record IsSavedFor (w : Numbered) (n : ℕ) (i : Invocation ℕ) (q : Parent) (count : ℕ) (raw : Json) (used : Used) : Type 0 where
  pub invocation_is : slice_get w.invs n ≡ Some i
  pub branch_is : parent_of (scope_of i.name.place) ≡ Some q
  pub saved_is : w.objects (Saved q.place) ≡ Live (SavedAs count raw used)

-- the branch has its input by it
abbrev pub AllHaveInputs : Opening → Numbered → Type 0
AllHaveInputs o w =
    (n : ℕ) (i : Invocation ℕ) (q : Parent) (count : ℕ) (raw : Json) (used : Used) → IsSavedFor w n i q count raw used →
    IsSome (input_by (code_of (ir_codes o) i) i raw)

-- After every list of events that may happen in turn in a world of at most 1,000 sessions that runs the flat forms of valid machines,
-- that is so.
abbrev pub EveryBranchHasInput : Type 0
EveryBranchHasInput =
    (o : Opening) → AreValid o → length o.sessions ≤ SESSIONS → (events : List Event) (w : Numbered) →
    run flags (ir_codes o) first_number o events ≡ Some w → AllHaveInputs o w
