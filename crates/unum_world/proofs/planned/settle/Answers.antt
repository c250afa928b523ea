use Rattle.std.proofs.Common.{◌≡◌, ◌∙◌, sym, ap, false, true, Some}
use Rattle.unum_world.specs.Traces.{Trace, is_enabled, chosen_event}
use Rattle.unum_world.proofs.Choices.{chosen_more, obeying_more, chosen_allowed, chosen_enabled, prefix_more}
use Rattle.unum_world.proofs.planned.settle.Goals as goal

pub loop-event-preserved : goal.loop-event-preserved
loop-event-preserved c =
    let w = c.loop-event.world in
    let f : chosen_event w ≡ Some c.in-Some.event = sym c.choose.ensures.event ∙ c.in-Some.is in
    record {
      chosen = λ h. chosen_more w c.apply.new.self c.in-Some.event c.choose.ensures.happened (c.loop-event.invariant.chosen h) f c.in-Ok.ensures.ok;
      obeying = obeying_more w c.apply.new.self c.in-Some.event c.choose.ensures.happened c.loop-event.invariant.obeying (chosen_allowed w c.in-Some.event f) c.in-Ok.ensures.ok;
      grown = prefix_more c.args.world.now w c.apply.new.self c.in-Some.event c.loop-event.invariant.grown c.in-Ok.ensures.ok;
      opening = ap (λ (p : Trace). p.opening) c.in-Ok.ensures.ok ∙ c.loop-event.invariant.opening;
      limit = ap (λ (p : Trace). p.limit) c.in-Ok.ensures.ok ∙ c.loop-event.invariant.limit;
    }

pub unreachable-requires : goal.unreachable-requires
unreachable-requires c =
    let f : chosen_event c.loop-event.world ≡ Some c.in-Some.event = sym c.choose.ensures.event ∙ c.in-Some.is in
    let may : is_enabled c.loop-event.world c.in-Some.event ≡ true = chosen_enabled c.loop-event.world c.in-Some.event f in
    let y = rw c.in-Err-NotEnabled.field-0-is at c.in-Err-NotEnabled.ensures.why in
    let no : is_enabled c.loop-event.world c.in-Some.event ≡ false = y.1 in
    cc
