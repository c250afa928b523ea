use Rattle.std.proofs.Common.{◌≡◌, ◌<◌, ◌+◌, ◌-◌, ◌/◌, length, ◌∙◌, sym, ap, arith, nat_cmp, Less, Equal, Greater, get_or}
use Rattle.std.specs.Cmp.Lexicographic.{slice_cmp}
use Rattle.bundle_read.proofs.Halving.{none_here, next, here}
use Rattle.bundle_read.proofs.lookup.number_of.Goals as goal

pub loop-low-preserved-in-Less : goal.loop-low-preserved-in-Less
loop-low-preserved-in-Less g c =
    let k = c.args.name.now in
    let es = c.args.named.now in
    let m = c.loop-low.low + (c.loop-low.high - c.loop-low.low) / 2 in
    let d = c.index-named-middle.result in
    let lt : m < length es = omega (arith, c.loop-low-test.true, c.loop-low.invariant.within) in
    let is : slice_cmp nat_cmp k (get_or es m d).0 ≡ Less = ap (slice_cmp nat_cmp k) (sym c.as_bytes.ensures) ∙ sym c.in-Less.ensures in
    record {
      order = omega (arith, c.loop-low-test.true);
      within = omega (arith, lt);
      past = c.loop-low.invariant.past;
      beyond = none_here k es m d c.requires lt is;
    }

pub loop-low-preserved : goal.loop-low-preserved
loop-low-preserved g c =
    let k = c.args.name.now in
    let es = c.args.named.now in
    let m = c.loop-low.low + (c.loop-low.high - c.loop-low.low) / 2 in
    let d = c.index-named-middle.result in
    let lt : m < length es = omega (arith, c.loop-low-test.true, c.loop-low.invariant.within) in
    let is : slice_cmp nat_cmp k (get_or es m d).0 ≡ Greater = ap (slice_cmp nat_cmp k) (sym c.as_bytes.ensures) ∙ sym c.in-Greater.ensures in
    record {
      order = omega (arith, c.loop-low-test.true);
      within = c.loop-low.invariant.within;
      past = next k es m d c.requires lt is;
      beyond = c.loop-low.invariant.beyond;
    }

pub returns-in-Equal : goal.returns-in-Equal
returns-in-Equal g c =
    let k = c.args.name.now in
    let es = c.args.named.now in
    let m = c.loop-low.low + (c.loop-low.high - c.loop-low.low) / 2 in
    let d = c.index-named-middle.result in
    let lt : m < length es = omega (arith, c.loop-low-test.true, c.loop-low.invariant.within) in
    let is : slice_cmp nat_cmp k (get_or es m d).0 ≡ Equal = ap (slice_cmp nat_cmp k) (sym c.as_bytes.ensures) ∙ sym c.in-Equal.ensures in
    sym (here k es m d c.requires lt is)
