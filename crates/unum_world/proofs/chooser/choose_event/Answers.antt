use Rattle.std.proofs.Common.{◌+◌, sym, ap, ◌∙◌, arith}
use Rattle.world_plans.specs.Plans.{pick}
use Rattle.world_plans.specs.Three.{event_at}
use Rattle.unum_world.specs.Openings.{codes_of}
use Rattle.unum_world.specs.Traces.{world_of}
use Rattle.unum_world.proofs.Counting.{twins_few, lives_few, opens_few, count_is, none_chosen, chosen_at}
use Rattle.unum_world.proofs.chooser.choose_event.Goals as goal

pub overflow_add-count : goal.overflow_add-count
overflow_add-count c =
    let a = twins_few c.args.o.now c.args.now.now c.requires in
    let b = lives_few c.args.o.now c.args.now.now c.requires in
    omega (arith, a, b, c.len.ensures, c.live_len.ensures)

pub overflow_add-count-2 : goal.overflow_add-count-2
overflow_add-count-2 c =
    let a = twins_few c.args.o.now c.args.now.now c.requires in
    let b = lives_few c.args.o.now c.args.now.now c.requires in
    let d = opens_few c.args.o.now c.args.now.now c.requires in
    omega (arith, a, b, d, c.len.ensures, c.live_len.ensures, c.open_len.ensures)

pub returns-then-count-eq0 : goal.returns-then-count-eq0
returns-then-count-eq0 c =
    let k = count_is c.args.o.now c.args.now.now c.requires 0 (omega (arith, c.if-count-eq0.true, c.len.ensures, c.live_len.ensures, c.open_len.ensures)) in
    sym (none_chosen c.args.o.now c.args.now.now c.requires c.args.len (sym k))

pub returns : goal.returns
returns c =
    let n = c.len.result + c.live_len.result + c.open_len.result in
    let k = count_is c.args.o.now c.args.now.now c.requires n (omega (arith, c.len.ensures, c.live_len.ensures, c.open_len.ensures)) in
    c.event_at.ensures
    ∙ ap (event_at c.args.o.now.plan (codes_of c.args.o.now) (world_of c.args.o.now c.args.now.now)) (c.pick-at.ensures.pick ∙ ap (pick c.args.o.now.plan c.args.len) k)
    ∙ sym (chosen_at c.args.o.now c.args.now.now c.requires c.args.len)
