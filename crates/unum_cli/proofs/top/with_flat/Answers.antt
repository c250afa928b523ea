use Rattle.std.proofs.Common.{Ok, Err, Some, refl}
use Rattle.unum_ir.specs.declared.ir.Ir.{Ir}
use Rattle.unum_cli.specs.FlatCode.{JudgesFlat}
use Rattle.unum_cli.specs.Tool.{AnswersFlat, TakesFlat}
use Rattle.unum_cli.specs.declared.answer.Desk.TheVariants.{Empty}
use Rattle.unum_cli.specs.declared.commands.Command.TheVariants as command
use Rattle.unum_cli.proofs.Due.{some_more, flat_shows, judged_due, untaken_flat_due, untaken_shows, untaken_ends}
use Rattle.unum_cli.proofs.top.with_flat.Goals as goal

pub returns-in-Ok-clause-told : goal.returns-in-Ok-clause-told
returns-in-Ok-clause-told g c =
    some_more (g.S.Source.left c.args.source.now) (λ bytes. TakesFlat (Ok c.in-Ok.ir) (λ made. JudgesFlat made bytes))
    (λ bytes. AnswersFlat bytes c.tell_flat.result Empty (g.K.Sink.taken c.args.out.now) (g.K.Sink.taken c.tell_flat.new.out))
    (λ bytes t. judged_due (Ok c.in-Ok.ir) bytes c.tell_flat.result Empty (g.K.Sink.taken c.args.out.now) (g.K.Sink.taken c.tell_flat.new.out) t (c.tell_flat.ensures.told Empty refl))
    c.in-Ok.ensures.told

pub returns-in-Ok-clause-shown : goal.returns-in-Ok-clause-shown
returns-in-Ok-clause-shown g c =
    flat_shows c.in-Ok.ir c.in-Ok.ensures.well c.tell_flat.result Empty (g.K.Sink.taken c.args.out.now) (g.K.Sink.taken c.tell_flat.new.out) (c.tell_flat.ensures.told Empty refl)

pub returns-in-Err-clause-told : goal.returns-in-Err-clause-told
returns-in-Err-clause-told g c =
    some_more (g.S.Source.left c.args.source.now) (λ bytes. TakesFlat (Err c.in-Err.error) (λ made. JudgesFlat made bytes))
    (λ bytes. AnswersFlat bytes c.tell_untaken.result Empty (g.K.Sink.taken c.args.out.now) (g.K.Sink.taken c.tell_untaken.new.out))
    (λ bytes t. untaken_flat_due c.in-Err.error bytes c.tell_untaken.result Empty (g.K.Sink.taken c.args.out.now) (g.K.Sink.taken c.tell_untaken.new.out) t (c.tell_untaken.ensures.told Empty refl))
    c.in-Err.ensures.told

pub returns-in-Err-clause-shown : goal.returns-in-Err-clause-shown
returns-in-Err-clause-shown g c =
    untaken_shows (Some command.Ir) c.in-Err.error c.tell_untaken.result Empty (g.K.Sink.taken c.args.out.now) (g.K.Sink.taken c.tell_untaken.new.out) (c.tell_untaken.ensures.told Empty refl)

pub returns-in-Err-clause-read : goal.returns-in-Err-clause-read
returns-in-Err-clause-read g c =
    untaken_ends Ir c.in-Err.error c.tell_untaken.result Empty (g.K.Sink.taken c.args.out.now) (g.K.Sink.taken c.tell_untaken.new.out) (g.S.Source.left c.take_flat.new.source)
    (c.tell_untaken.ensures.told Empty refl) c.in-Err.ensures.end
