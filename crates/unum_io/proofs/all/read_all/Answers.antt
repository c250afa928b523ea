use Rattle.std.proofs.Common.{◌++◌, take}
use Rattle.unum_io.proofs.Bytes.{consumes_more}
use Rattle.unum_io.proofs.all.read_all.Goals as goal

pub returns-then-is_err-clause-read : goal.returns-then-is_err-clause-read
returns-then-is_err-clause-read g c =
    (c.reads.bytes.items ++ take c.in-Ok.count c.read.new.into, consumes_more _ _ _ _ _ c.reads.invariant.0 c.in-Ok.ensures.bytes.0)
