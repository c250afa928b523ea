-- What the fan of a branch saved gives the branch its input: all inputs of a fan were made when its state was entered.
use Rattle.std.proofs.Common.{refl}
use Rattle.place_name.specs.declared.obj.Obj.TheVariants.{Saved}
use Rattle.world_model.specs.Operations.{Live, SavedAs}
use Rattle.world_model.specs.World.{World, start}
use Rattle.world_model.specs.Inputs.{HasInputs, EveryBranchHasInput}
use Rattle.world_model.proofs.Keeps.{WorldKeeps, has_at, branch_has_input}
use Rattle.world_model.proofs.Every.{start_ok, run_ok}

keeps_inputs : (w : World) → WorldKeeps w → HasInputs w
keeps_inputs w K n i q count raw used s =
    branch_has_input w.opening w.journal i (K.made n i s.invocation_is) q s.branch_is count raw used
    (has_at w K (Saved q.place) (Live (SavedAs count raw used)) s.saved_is) i.site.around refl

pub every_branch_has_input : EveryBranchHasInput
every_branch_has_input o es w e = keeps_inputs w (run_ok es (start o) w (start_ok o) e).1
