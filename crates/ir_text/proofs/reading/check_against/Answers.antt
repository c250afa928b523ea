use Rattle.std.proofs.Common.{rules}
use Rattle.unum_json.specs.Parsed.{view}
use Rattle.ir_text.proofs.Judging.{not_printed, printed_as_spelled}
use Rattle.ir_text.proofs.reading.check_against.Goals as goal

pub blamed-requires-clause-unlike : goal.blamed-requires-clause-unlike
blamed-requires-clause-unlike c = not_printed c.args.ir.now (view c.args.value.now) c.requires.spelled (search rules)

pub returns-then-branch : goal.returns-then-branch
returns-then-branch c = printed_as_spelled c.args.ir.now (view c.args.value.now) c.requires.spelled (search rules)
