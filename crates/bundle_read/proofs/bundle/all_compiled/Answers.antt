use Rattle.std.proofs.Common.{◌≡◌, rules}
use Rattle.std.specs.Vec.Iter.{into_iter_items}
use Rattle.bundle_read.proofs.Compiling.{goes_first, goes_on, next_valid, push_rises}
use Rattle.bundle_read.proofs.bundle.all_compiled.Goals as goal

pub loop-row-init : goal.loop-row-init
loop-row-init c =
    let left : into_iter_items c.into_iter-row-iterator.result ≡ c.args.machines = search rules in
    goes_first c.args.machines c.in_ok-all.all _ c.in_ok-all.ensures left c.as_slice-count.ensures.rising c.requires

pub compiled-requires : goal.compiled-requires
compiled-requires c = next_valid c.args.machines c.loop-row.yielded c.loop-row.all _ _ c.in-Some.row c.loop-row.invariant c.in-Some.ensures.steps.0

pub push-requires : goal.push-requires
push-requires c =
    push_rises c.args.machines c.loop-row.yielded c.loop-row.all _ _ c.in-Some.row c.loop-row.invariant c.in-Some.ensures.steps.0 c.in_ok-compiled.field-0 c.in_ok-compiled.ensures

pub loop-row-preserved : goal.loop-row-preserved
loop-row-preserved c =
    goes_on c.args.machines c.loop-row.yielded c.loop-row.all _ _ c.in-Some.row c.loop-row.invariant c.in-Some.ensures.steps.0 c.in_ok-compiled.field-0 c.in_ok-compiled.ensures c.push.new.self
    c.in_ok-push.ensures.ok
