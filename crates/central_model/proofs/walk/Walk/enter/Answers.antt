use Rattle.std.proofs.Common.{◌∙◌, refl}
use Rattle.central_model.specs.Walked.{enter_visit}
use Rattle.central_model.proofs.Steps.{one_made}
use Rattle.central_model.proofs.walk.Walk.enter.Goals as goal

pub returns-clause-made : goal.returns-clause-made
returns-clause-made c = λ b.
    one_made c.args.self.now c.put.new.self c.put.result c.len-at.result (enter_visit b c.args.at.now c.args.input.now) c.in_ok-visit.visit refl (c.len-at.ensures ∙ c.args.self.now.visits.ok.0) (c.in_ok-visit.ensures b) c.put.ensures.put
