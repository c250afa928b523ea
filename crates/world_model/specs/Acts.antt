-- What an instance of a machine does after its answer, and what it may then collect.
use Rattle.std.specs.Prelude.{ℕ, List, Option}
use Rattle.place_name.specs.Names.{Parent}
use Rattle.asl_model.specs.Data.{Text, Json}
use Rattle.asl_model.specs.Names as names
use Rattle.asl_model.specs.Names.{Scope, Place, Name}
use Rattle.asl_model.specs.Machine.{Block}
use Rattle.asl_model.specs.Stretch.{Stop, after}
use Rattle.world_model.specs.AnyCode.Acts as any_code
pub use Rattle.world_model.specs.AnyCode.Names.{Split, split_more, split_last, parent_in, join_name}
unfoldable pub use Rattle.world_model.specs.AnyCode.Names.{parent_of}
pub use Rattle.world_model.specs.AnyCode.Acts.{firsts, at_once, out_objects, bits_objects, due_at_enter, due_by_kind, due_objects}
pub use Rattle.world_model.specs.Sites.{inner, width_at, width_of, enter_sites, enter_site, join_site, stop_by}
unfoldable pub use Rattle.world_model.specs.Sites.{rules}
use Rattle.world_model.specs.Sites.{join_in, task_site, machine_code}
use Rattle.world_model.specs.Operations.{name_at, visited_at, Frame, Site, Kept, Invocation, Op}

-- ---------------------------------------------------------------- invocations

-- the Join of the fan of that state at that place
abbrev pub join_of : Frame → List Frame → Place → Invocation
join_of f around p = record { name = join_name p; site = join_site f around }

-- the Task of that name at that hop of the scope
abbrev pub task_of : Site → Scope → ℕ → Text → Invocation
task_of site s hop name = record { name = name_at s hop names.Task; site = task_site site name }

-- the Enter of a branch
abbrev pub enter_of : List Frame → Place → (index count : ℕ) → Block → Invocation
enter_of around p index count b = any_code.enter_at (enter_site around b) p index count

-- ---------------------------------------------------------------- acts

-- the Enters of these branches
abbrev pub enter_ops : List Frame → Place → (index count : ℕ) → List (Block × Json) → List Op
enter_ops around p index count cs = any_code.enter_ops p index count (enter_sites around cs)

-- what a fan invokes
abbrev pub fan_ops : Site → Place → Text → List (Block × Json) → List Op
fan_ops site p name cs =
    let f : Frame = record { block = site.block; name = name } in
    any_code.fan_ops (width_of f) p (join_site f site.around) (enter_sites (inner site name) cs)

-- what the end of a branch invokes
abbrev pub pace_ops : Site → Parent → (limit : ℕ) → List Op
pace_ops site q w = any_code.pace_ops (enter_site site.around site.block) q w

-- the limit of the innermost fan
abbrev pub width_in : List Frame → ℕ
width_in around = any_code.width_around machine_code (join_in around)

-- what the end of a branch does after its Out
abbrev pub set_ops : Site → Option Parent → List Op
set_ops site z = any_code.set_ops (enter_site site.around site.block) (width_in site.around) z

-- what is done at a stop
abbrev pub acts_of : Site → Scope → Stop → List Op
acts_of site s stop = any_code.acts_of machine_code site s (stop_by site stop)

-- what follows the adopted answer
abbrev pub stop_of : Site → (hop : ℕ) → Kept → Stop
stop_of site hop k = after rules site.block (visited_at site.spot) hop k.raw k.used k.answer

-- the acts of an instance, where that is the adopted answer
abbrev pub acts : Invocation → Kept → List Op
acts i k = any_code.acts machine_code i k
