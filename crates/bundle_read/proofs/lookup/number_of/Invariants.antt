use Rattle.std.proofs.Common.{◌+◌, ◌-◌, ◌≡◌, ◌≤◌, length, drop}
use Rattle.bundle_read.specs.Bounds.{number_of}
use Rattle.bundle_read.proofs.lookup.number_of.Given as goal

abbrev pub invariant-loop-low : goal.invariant-loop-low
invariant-loop-low g l = record {
  order : l.low ≤ l.high;
  within : l.high ≤ length l.named;
  past : number_of l.named l.name ≡ l.low + number_of (drop l.low l.named) l.name;
  beyond : number_of (drop l.high l.named) l.name ≡ length (drop l.high l.named);
}

abbrev pub decreases-loop-low : goal.decreases-loop-low
decreases-loop-low g l = l.high - l.low
