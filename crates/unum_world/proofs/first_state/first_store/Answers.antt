use Rattle.std.proofs.Common.{◌-◌, [], ap, ◌∙◌, arith}
use Rattle.place_name.specs.declared.obj.Obj.TheVariants.{Arg}
use Rattle.world_model.specs.AnyCode.World.{root_name}
use Rattle.std.proofs.lemmas.Option.{slice_get-get_or}
use Rattle.unum_world.proofs.Opened.{none_saved, not_saved, saved_more}
use Rattle.unum_world.proofs.first_state.first_store.Goals as goal

pub loop-s-init : goal.loop-s-init
loop-s-init c = λ machines. none_saved machines _ c.args.sessions.now _ (omega arith) c.new-store.ensures

pub save_input-requires-clause-absent : goal.save_input-requires-clause-absent
save_input-requires-clause-absent c =
    ap (λ f. f (Arg (root_name (c.loop-s.s - 1)))) (c.loop-s.invariant []) ∙ not_saved (c.loop-s.s - 1) c.loop-s.s _ (omega arith)

pub loop-s-preserved : goal.loop-s-preserved
loop-s-preserved c = λ machines.
    saved_more machines (c.loop-s.s - 1) c.loop-s.s c.args.sessions.now _ _ _ (omega arith)
    (slice_get-get_or c.args.sessions.now (c.loop-s.s - 1) c.index-sessions-s.result (omega arith)) (c.loop-s.invariant machines)
    c.in_ok-save_input.ensures
