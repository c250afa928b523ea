use Rattle.std.proofs.Common.{◌∙◌, ◌++◌, ap, arith, length, string_bytes}
use Rattle.unum_world.specs.declared.opening.Opening.{Opening}
use Rattle.unum_world.specs.Traces.{now}
use Rattle.session_report.specs.Report.{lines, session_line}
use Rattle.session_report.proofs.Lines.{line_next, lines_done}
use Rattle.session_report.proofs.telling.push_sessions.Goals as goal

pub loop-k-preserved : goal.loop-k-preserved
loop-k-preserved c = line_next (session_line (now c.args.world.now)) _ (string_bytes c.loop-k.out) (string_bytes c.push_session.new.out) c.loop-k.k _ c.loop-k.invariant c.loop-k-test.true c.in_ok-push_session.ensures

pub returns : goal.returns
returns c =
    let done = lines_done (session_line (now c.args.world.now)) _ (string_bytes c.loop-k.out) c.loop-k.k _ c.loop-k.invariant (omega (arith, c.loop-k-test.false)) in
    done ∙ ap (λ n. string_bytes c.args.out.now ++ lines (session_line (now c.args.world.now)) 0 n) (c.len-count.ensures ∙ ap (λ (o : Opening). length o.sessions) c.opening.ensures.opening)
