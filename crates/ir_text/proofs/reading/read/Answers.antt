use Rattle.std.proofs.Common.{rules}
use Rattle.unum_json.specs.Parsed.{view}
use Rattle.ir_text.proofs.Judging.{reads_printed}
use Rattle.ir_text.proofs.reading.read.Goals as goal

pub returns-in-Ok : goal.returns-in-Ok
returns-in-Ok c = reads_printed c.in_ok-ir.ir (view c.args.value.now) (search rules) (search rules)
