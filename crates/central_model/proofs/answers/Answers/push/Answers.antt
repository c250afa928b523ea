use Rattle.std.proofs.Common.{sym, subst}
use Rattle.central_model.specs.Places.{IsBehind}
use Rattle.central_model.proofs.Halving.{still_rising}
use Rattle.central_model.proofs.answers.Answers.push.Goals as goal

pub invariant_of-self : goal.invariant_of-self
invariant_of-self c =
    still_rising c.push.result c.self.inside.items c.push.new.self c.args.place c.args.answer c.self.invariant (subst (λ l. IsBehind l c.args.place) (sym c.self.view_is) c.requires) c.push.ensures.ok c.push.ensures.err
