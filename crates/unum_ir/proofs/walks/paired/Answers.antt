use Rattle.std.proofs.Common.{slice_get, sym, ap, ◌∙◌}
use Rattle.std.specs.Vec.Iter.{into_iter_items}
use Rattle.unum_ir.proofs.Branches.{no_scope, one_branch, no_more}
use Rattle.unum_ir.proofs.walks.paired.Goals as goal

pub returns-in_default : goal.returns-in_default
returns-in_default c = no_scope c.args.scopes.now c.loop-input.made (into_iter_items c.loop-input.input-iterator) _ (c.in_default.ensures.value ∙ ap (slice_get c.args.scopes.now) c.len.ensures) c.loop-input.invariant

pub returns : goal.returns
returns c = no_more c.args.scopes.now c.loop-input.made (into_iter_items c.loop-input.input-iterator) _ (sym c.loop-input.input-iterator.rest.ok.0 ∙ c.in-None.ensures.steps.0) c.loop-input.invariant

pub loop-input-preserved : goal.loop-input-preserved
loop-input-preserved c =
    one_branch c.args.scopes.now c.loop-input.made c.push.new.self c.in-Some-get.func.now c.in-Some.input (into_iter_items c.loop-input.input-iterator) (into_iter_items c.next.new.self) _ (c.in-Some-get.ensures.value ∙ ap (slice_get c.args.scopes.now) c.len.ensures) c.in-Some.ensures.steps.0 c.in_ok-push.ensures.ok c.loop-input.invariant
