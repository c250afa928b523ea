use Rattle.std.proofs.Common.{Err, Some}
use Rattle.bundle_read.specs.Accepted.{Accepted}
use Rattle.bundle_read.specs.Judged.{judged}
use Rattle.unum_cli.specs.Run.{due_run_judged}
use Rattle.unum_cli.specs.Tool.{Answers, Takes}
use Rattle.unum_cli.proofs.Due.{some_more, untaken_run_due, untaken_shows_run, untaken_ends}
use Rattle.unum_cli.proofs.run.run_read.Goals as goal

pub returns-in-Err-clause-told : goal.returns-in-Err-clause-told
returns-in-Err-clause-told g c =
    some_more (g.S.Source.left c.args.source.now) (λ bytes. Takes (Err c.in-Err.error) (judged bytes))
    (λ bytes. Answers (due_run_judged c.args.options.limit (judged bytes)) c.tell_untaken.result c.args.desk.now (g.K.Sink.taken c.args.out.now) (g.K.Sink.taken c.tell_untaken.new.out))
    (λ bytes t. untaken_run_due c.args.options.limit c.in-Err.error (judged bytes) c.tell_untaken.result c.args.desk.now (g.K.Sink.taken c.args.out.now) (g.K.Sink.taken c.tell_untaken.new.out) t (c.tell_untaken.ensures.told c.args.desk.now c.requires.empty))
    c.in-Err.ensures.told

pub returns-in-Err-clause-shown : goal.returns-in-Err-clause-shown
returns-in-Err-clause-shown g c =
    untaken_shows_run (Some c.args.options) c.in-Err.error c.tell_untaken.result c.args.desk.now (g.K.Sink.taken c.args.out.now) (g.K.Sink.taken c.tell_untaken.new.out)
    (c.tell_untaken.ensures.told c.args.desk.now c.requires.empty)

pub returns-in-Err-clause-read : goal.returns-in-Err-clause-read
returns-in-Err-clause-read g c =
    untaken_ends Accepted c.in-Err.error c.tell_untaken.result c.args.desk.now (g.K.Sink.taken c.args.out.now) (g.K.Sink.taken c.tell_untaken.new.out) (g.S.Source.left c.take_bundle.new.source)
    (c.tell_untaken.ensures.told c.args.desk.now c.requires.empty) c.in-Err.ensures.end
