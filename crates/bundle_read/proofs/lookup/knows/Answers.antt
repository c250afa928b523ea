use Rattle.std.proofs.Common.{◌∙◌, ap, nat_lt, length}
use Rattle.bundle_read.proofs.Halving.{known}
use Rattle.bundle_read.proofs.lookup.knows.Goals as goal

pub returns : goal.returns
returns g c = ap (λ n. nat_lt n (length c.args.named.now)) c.number_of.ensures ∙ known c.args.name.now c.args.named.now
