use Rattle.std.proofs.Common.{drop}
use Rattle.bundle_read.specs.Drafts.{function_of}
use Rattle.bundle_read.proofs.Values.{Goes}
use Rattle.bundle_read.proofs.drafts.functions_of.Given as goal

abbrev pub invariant-loop-member : goal.invariant-loop-member
invariant-loop-member l = Goes function_of l.members (drop l.member-index l.member-items) l.found
