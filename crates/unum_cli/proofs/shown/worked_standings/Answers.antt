use Rattle.unum_cli.proofs.Worked.{abandons, stays_open, ends, crashes_and_marks}
use Rattle.unum_cli.proofs.shown.worked_standings.Goals as goal

pub returns : goal.returns
returns c = record { abandoned = abandons; stays_open = stays_open; ended = ends; counted = crashes_and_marks }
