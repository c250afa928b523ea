-- A machine as code: its sites are the Enters, Tasks and Joins of its blocks.
use Rattle.std.specs.Prelude.{ℕ, List, [], ◌∷◌, slice_get, Option, Some, None}
use Rattle.asl_model.specs.Data.{Text, Json, combine}
use Rattle.asl_model.specs.Names as names
use Rattle.asl_model.specs.Names.{Kind}
use Rattle.asl_model.specs.Machine.{Block, State, state_of, limit_of}
use Rattle.asl_model.specs.Central.{Visited, Entered, Called, Joined}
use Rattle.asl_model.specs.Step.{Ways, Begun, On, Calls, Fans, standard}
use Rattle.asl_model.specs.Stretch as model
use Rattle.world_model.specs.AnyCode.Code as any_code
use Rattle.world_model.specs.AnyCode.Code.{Code}

-- the ways of states that worlds run. Source: Amazon States Language, State Types
unfoldable pub rules : Ways
rules = standard

-- ---------------------------------------------------------------- sites

-- what an instance visits in its block: its Enter, or the Task or the Join of a state
pub data Spot : Type 0 where
  OnEnter : Spot
  OnTask : (state : Text) → Spot
  OnJoin : (state : Text) → Spot

-- where a visit is
abbrev pub spot_of : Visited → Spot
spot_of Entered = OnEnter
spot_of (Called name resource) = OnTask name
spot_of (Joined name) = OnJoin name

-- a visit at that spot, whatever its resource is: what follows a visit does not depend on it
abbrev pub visited_at : Spot → Visited
visited_at OnEnter = Entered
visited_at (OnTask name) = Called name []
visited_at (OnJoin name) = Joined name

-- the kind of name that is visited there
abbrev pub kind_on : Spot → Kind
kind_on OnEnter = names.Enter
kind_on (OnTask name) = names.Task
kind_on (OnJoin name) = names.Join

-- the state that a Task or a Join is of
abbrev pub state_at : Spot → Text
state_at OnEnter = []
state_at (OnTask name) = name
state_at (OnJoin name) = name

-- the state of a fan: its block, and its name there
pub record Frame : Type 0 where
  pub block : Block
  pub name : Text

-- what an instance runs: its block, the states of the fans around that block (innermost first), and its spot
pub record Site : Type 0 where
  pub block : Block
  pub around : List Frame
  pub spot : Spot

-- the Enter of a block in those fans
abbrev pub enter_site : List Frame → Block → Site
enter_site around b = record { block = b; around = around; spot = OnEnter }

-- the Join of the fan of that state
abbrev pub join_site : Frame → List Frame → Site
join_site f around = record { block = f.block; around = around; spot = OnJoin f.name }

-- the Task of that state
abbrev pub task_site : Site → Text → Site
task_site site name = record { block = site.block; around = site.around; spot = OnTask name }

-- the fans around the branches of a fan
abbrev pub inner : Site → Text → List Frame
inner site name = record { block = site.block; name = name } ∷ site.around

-- the Enters of these branches
abbrev pub enter_sites : List Frame → List (Block × Json) → List Site
enter_sites around [] = []
enter_sites around (c ∷ cs) = enter_site around c.0 ∷ enter_sites around cs

-- ---------------------------------------------------------------- what a machine's code does

-- a stop of a site's block, by sites
abbrev pub stop_by : Site → model.Stop → any_code.Stop Site
stop_by site (model.Call name hop raw used) = any_code.Call (task_site site name) hop raw used
stop_by site (model.Fan name hop raw used cs) =
    any_code.Fan (join_site (record { block = site.block; name = name }) site.around) hop raw used (enter_sites (inner site name) cs)
stop_by site (model.Over o) = any_code.Over o

-- the call that a state begins with
abbrev pub call_in : Begun → Option (Text × Json)
call_in (On o) = None
call_in (Calls resource x) = Some (resource, x)
call_in (Fans inputs) = None

-- the same, of the state of that name
abbrev pub call_at : Text → Option State → Json → Option (Text × Json)
call_at name None raw = None
call_at name (Some st) raw = call_in (rules.begin name st raw)

-- the function that a Task calls, and the effective input
abbrev pub call_of : Site → Json → Option (Text × Json)
call_of site raw = elim site.spot [ OnEnter ↦ None | OnTask name ↦ call_at name (state_of site.block name) raw | OnJoin name ↦ None ]

-- the Join of the innermost fan
abbrev pub join_in : List Frame → Option Site
join_in [] = None
join_in (f ∷ around) = Some (join_site f around)

-- how many branches of a fan may run at once, 0 for any number. Source: Amazon States Language, Map State (MaxConcurrency)
abbrev pub width_at : Option State → ℕ
width_at None = 0
width_at (Some st) = limit_of st

-- of the fan of that state
abbrev pub width_of : Frame → ℕ
width_of f = width_at (state_of f.block f.name)

-- the input with that index of the fan on that raw data
abbrev pub input_of : Begun → ℕ → Option Json
input_of (On o) index = None
input_of (Calls resource x) index = None
input_of (Fans inputs) index = slice_get inputs index

-- the input of a branch, of the fan of that state
abbrev pub input_in : Text → Option State → Json → ℕ → Option Json
input_in name None raw index = None
input_in name (Some st) raw index = input_of (rules.begin name st raw) index

-- the input of that branch of the fan whose Join is the site, on that raw data
abbrev pub branch_input_of : Site → (index : ℕ) → (raw : Json) → Option Json
branch_input_of site index raw = input_in (state_at site.spot) (state_of site.block (state_at site.spot)) raw index

-- machines as code
abbrev pub machine_code : Code Site
machine_code = record {
  after = λ site hop raw used o. stop_by site (model.after rules site.block (visited_at site.spot) hop raw used o);
  call_of = call_of;
  join_around = λ site. join_in site.around;
  enter_of = λ site. enter_site site.around site.block;
  width = λ site. width_at (state_of site.block (state_at site.spot));
  input_of = branch_input_of;
  combine = λ site outs. combine (state_at site.spot) outs;
}
