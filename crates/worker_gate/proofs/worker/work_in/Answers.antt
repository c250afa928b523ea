use Rattle.std.proofs.Common.{refl, ◌∙◌}
use base.Growing.{prefix_refl, prefix_trans}
use Rattle.worker_gate.specs.Turns.{start, next}
use Rattle.worker_gate.proofs.worker.work_in.Goals as goal

pub loop-init : goal.loop-init
loop-init g c = record { own = (c.requires, refl); seen = prefix_refl _; turns = start }

pub loop-preserved : goal.loop-preserved
loop-preserved g c = record {
  own = (c.step-pick.ensures.own.0, c.step-pick.ensures.own.1 ∙ c.loop.invariant.own.1);
  seen = prefix_trans _ _ _ c.loop.invariant.seen c.step-pick.ensures.seen;
  turns = next _ _ _ _ _ c.loop.invariant.turns c.step-pick.ensures.turns c.in-Ok.ensures.ok;
}
