use Rattle.std.proofs.Common.{◌≡◌, ◌++◌, ◌-◌, string_bytes}
use Rattle.unum_world.specs.Traces.{now}
use Rattle.session_report.specs.Report.{lines, entry_line}
use Rattle.session_report.proofs.telling.push_entries.Given as goal

abbrev pub invariant-loop-k : goal.invariant-loop-k
invariant-loop-k l = string_bytes l.out ++ lines (entry_line (now l.world)) l.k (l.count - l.k) ≡ string_bytes l.fn.out ++ lines (entry_line (now l.world)) 0 l.count
