use Rattle.std.proofs.Common.{Err}
use Rattle.bundle_read.specs.Judged.{judged}
use Rattle.unum_cli.specs.Tool.{Takes, TakesBytes}
use Rattle.unum_cli.proofs.Due.{some_more, untaken_bytes}
use Rattle.unum_cli.proofs.taking.take_bundle.Goals as goal

pub returns-in-Err-clause-told : goal.returns-in-Err-clause-told
returns-in-Err-clause-told g c =
    some_more (g.S.Source.left c.args.source.now) (λ bytes. TakesBytes (Err c.in-Err.error) bytes) (λ bytes. Takes (Err c.in-Err.error) (judged bytes))
    (λ bytes h. untaken_bytes c.in-Err.error bytes h) c.in-Err.ensures.told
