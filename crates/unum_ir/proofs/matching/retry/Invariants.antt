use Rattle.std.proofs.Common.{◌≡◌, ◌++◌, take, drop}
use Rattle.std.specs.Option.{option_map}
use Rattle.asl_model.specs.Head.{retried}
use Rattle.unum_ir.proofs.matching.retry.Given as goal

abbrev pub invariant-loop-i : goal.invariant-loop-i
invariant-loop-i l =
    option_map (λ rest. take l.i l.counts ++ rest) (retried l.error l.answered (drop l.i l.retrier-items) (drop l.i l.counts)) ≡ retried l.error l.answered l.retriers l.used
