use Rattle.std.proofs.Common.{sym, ◌∙◌}
use Rattle.std.proofs.lemmas.Bool.{false≢true}
use Rattle.fn_wrapper.proofs.Paces.{fan_count}
use Rattle.fn_wrapper.proofs.acts.fan_count.Goals as goal

pub returns : goal.returns
returns c p join =
    c.first_count.ensures
    ∙ sym (fan_count c.args.limit p join c.args.enters.now (λ e. false≢true (sym c.if-is_empty.false ∙ c.is_empty.ensures.1 e)))
