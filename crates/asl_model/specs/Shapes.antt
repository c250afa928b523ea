-- What of a state's data flow its type may have: every other path is `$`, and every other template is missing.
-- Source: Amazon States Language, the table of fields in "State Types".
use Rattle.std.specs.Prelude.{◌≡◌, [], Some, None}
use Rattle.asl_shape.specs.Stages.{Stages}

-- a Pass has no ResultSelector
abbrev pub HasNoSelector : Stages → Type 0
HasNoSelector s = s.selector ≡ None

-- a Choice and a Succeed have InputPath and OutputPath alone
pub record HasPathsOnly (s : Stages) : Type 0 where
  pub no_parameters : s.parameters ≡ None
  pub no_selector : s.selector ≡ None
  pub root_result : s.result ≡ Some []

-- the Parameters of a Map stand in its item template
abbrev pub HasNoParameters : Stages → Type 0
HasNoParameters s = s.parameters ≡ None
