use Rattle.std.proofs.Common.{◌≡◌, ◌<◌, ◌+◌, ◌-◌, ◌/◌, length, ◌∙◌, sym, ap, refl, arith, Less, Equal, Greater, get_or, Some}
use Rattle.unum_json.proofs.Halving.{same_at}
use Rattle.asl_model.specs.Data.{Outcome}
use Rattle.asl_model.specs.Names.{Place}
use Rattle.central_model.specs.Places.{place_order}
use Rattle.central_model.proofs.Halving.{none_here, find_next, find_here, past_end}
use Rattle.central_model.proofs.answers.find_in.Goals as goal

pub loop-low-init : goal.loop-low-init
loop-low-init c = (omega arith, omega arith, refl, past_end c.args.place.now c.args.answers.now)

pub loop-low-preserved-in-Less : goal.loop-low-preserved-in-Less
loop-low-preserved-in-Less c =
    let k = c.args.place.now in
    let es = c.args.answers.now in
    let m = c.loop-low.low + (c.loop-low.high - c.loop-low.low) / 2 in
    let d = c.index-answers-middle.result in
    let lt : m < length es = omega (arith, c.loop-low-test.true, c.loop-low.invariant.1) in
    let is : place_order k (get_or es m d).0 ≡ Less = sym c.in-Less.ensures in
    (omega (arith, c.loop-low-test.true), omega (arith, lt), c.loop-low.invariant.2, none_here k es m d c.requires lt is)

pub loop-low-preserved : goal.loop-low-preserved
loop-low-preserved c =
    let k = c.args.place.now in
    let es = c.args.answers.now in
    let m = c.loop-low.low + (c.loop-low.high - c.loop-low.low) / 2 in
    let d = c.index-answers-middle.result in
    let lt : m < length es = omega (arith, c.loop-low-test.true, c.loop-low.invariant.1) in
    let is : place_order k (get_or es m d).0 ≡ Greater = sym c.in-Greater.ensures in
    (omega (arith, c.loop-low-test.true), c.loop-low.invariant.1, find_next k es m d c.requires lt is, c.loop-low.invariant.3)

pub returns-in-Equal : goal.returns-in-Equal
returns-in-Equal c =
    let k = c.args.place.now in
    let es = c.args.answers.now in
    let m = c.loop-low.low + (c.loop-low.high - c.loop-low.low) / 2 in
    let d = c.index-answers-middle.result in
    let lt : m < length es = omega (arith, c.loop-low-test.true, c.loop-low.invariant.1) in
    let is : place_order k (get_or es m d).0 ≡ Equal = sym c.in-Equal.ensures in
    sym (find_here k es m d c.requires lt is ∙ ap (λ (e : Place × Outcome). Some e.1) (same_at es m d c.index-answers-middle-in-Equal.result lt))
