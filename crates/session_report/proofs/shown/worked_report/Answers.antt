use Rattle.session_report.proofs.Computed.{failure_text, lines_are, totals_line, whole_report}
use Rattle.session_report.proofs.shown.worked_report.Goals as goal

pub returns : goal.returns
returns c = record { failure = failure_text; lines = lines_are; totals = totals_line; whole = whole_report }
