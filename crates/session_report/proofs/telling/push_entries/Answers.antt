use Rattle.std.proofs.Common.{◌∙◌, ◌++◌, ap, arith, string_bytes}
use Rattle.unum_world.specs.Traces.{now}
use Rattle.session_report.specs.Report.{lines, entry_line}
use Rattle.session_report.proofs.Lines.{line_next, lines_done}
use Rattle.session_report.proofs.telling.push_entries.Goals as goal

pub loop-k-preserved : goal.loop-k-preserved
loop-k-preserved c = line_next (entry_line (now c.args.world.now)) _ (string_bytes c.loop-k.out) (string_bytes c.push_entry_at.new.out) c.loop-k.k _ c.loop-k.invariant c.loop-k-test.true c.in_ok-push_entry_at.ensures

pub returns : goal.returns
returns c =
    let done = lines_done (entry_line (now c.args.world.now)) _ (string_bytes c.loop-k.out) c.loop-k.k _ c.loop-k.invariant (omega (arith, c.loop-k-test.false)) in
    done ∙ ap (λ n. string_bytes c.args.out.now ++ lines (entry_line (now c.args.world.now)) 0 n) c.entries-count.ensures
