use Rattle.std.proofs.Common.{Err}
use Rattle.unum_cli.specs.FlatCode.{JudgesFlat}
use Rattle.unum_cli.specs.Tool.{TakesFlat, TakesBytes}
use Rattle.unum_cli.proofs.Due.{some_more, untaken_flat_bytes}
use Rattle.unum_cli.proofs.taking.take_flat.Goals as goal

pub returns-in-Err-clause-told : goal.returns-in-Err-clause-told
returns-in-Err-clause-told g c =
    some_more (g.S.Source.left c.args.source.now) (λ bytes. TakesBytes (Err c.in-Err.error) bytes) (λ bytes. TakesFlat (Err c.in-Err.error) (λ made. JudgesFlat made bytes))
    (λ bytes h. untaken_flat_bytes c.in-Err.error bytes h) c.in-Err.ensures.told
