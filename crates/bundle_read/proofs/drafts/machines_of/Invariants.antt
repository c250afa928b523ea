use Rattle.std.proofs.Common.{drop}
use Rattle.asl_read.specs.Machines.{machine_of}
use Rattle.bundle_read.proofs.Values.{Goes}
use Rattle.bundle_read.proofs.drafts.machines_of.Given as goal

abbrev pub invariant-loop-member : goal.invariant-loop-member
invariant-loop-member l = Goes machine_of l.members (drop l.member-index l.member-items) l.found
