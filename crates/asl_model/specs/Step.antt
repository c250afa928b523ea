-- What one state of a machine does. The laws of runs hold whatever states do, as long as a fan has one input for each branch.
use Rattle.std.specs.Prelude.{◌≡◌, length, List}
use Rattle.asl_model.specs.Data.{Text, Json, Outcome}
pub use Rattle.asl_model.specs.Head.{OnwardOf, Goes, Ends, BegunOf, On, Calls, Fans}
use Rattle.asl_model.specs.Head.{begins, finishes, zeros}
use Rattle.asl_model.specs.Machine.{State, branches_of, head_of, care_of, Used}

abbrev pub Onward : Type 0
Onward = OnwardOf Text

abbrev pub Begun : Type 0
Begun = BegunOf Text Text

-- the ways of states: what one does first, what follows its answer, and the list of a new entry
pub record Ways : Type 0 where
  pub begin : Text → State → Json → Begun
  pub finish : Text → State → Json → Used → Outcome → Onward
  pub fresh : State → Used

-- each fan has one input for each branch
abbrev pub HasOneEach : Ways → Type 0
HasOneEach W = (name : Text) (s : State) (raw : Json) (inputs : List Json) → W.begin name s raw ≡ Fans inputs →
    length (branches_of s (length inputs)) ≡ length inputs

-- the ways of the profile's states
unfoldable pub standard : Ways
standard = record {
  begin = λ name s raw. begins name (head_of s) raw;
  finish = λ name s raw used o. finishes name name (head_of s) raw used o;
  fresh = λ s. zeros (care_of s).retry;
}
