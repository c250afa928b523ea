use Rattle.std.proofs.Common.{◌≡◌, suc, ◌-◌, ◌<◌, length, refl, sym, ◌∙◌, subst, arith}
use Rattle.central_model.specs.Places.{AreRising, IsBehind}
use Rattle.central_model.proofs.Halving.{behind_last, last_behind}
use Rattle.central_model.proofs.answers.Answers.is_behind.Goals as goal

pub returns-in-Less : goal.returns-in-Less
returns-in-Less c =
    let es = c.as_slice-answers.result.now in
    let p = c.args.place.now in
    let some = c.if-count-eq0.false in
    let last : suc (length es - 1) ≡ length es = omega (arith, some) in
    let all = behind_last es (length es - 1) c.index-answers-count.result p (subst AreRising (sym c.as_slice-answers.ensures) c.self.invariant) last (sym c.in-Less.ensures) in
    (λ h. subst (λ l. IsBehind l p) (c.as_slice-answers.ensures ∙ c.self.view_is) all, λ h. refl)

pub returns-in_default : goal.returns-in_default
returns-in_default c =
    let es = c.as_slice-answers.result.now in
    let p = c.args.place.now in
    let some = c.if-count-eq0.false in
    let below : length es - 1 < length es = omega (arith, some) in
    (λ h. absurd (cc), λ h. absurd (c.in_default.not-Less (c.order_places.ensures ∙ last_behind es (length es - 1) c.index-answers-count.result p below (subst (λ l. IsBehind l p) (sym (c.as_slice-answers.ensures ∙ c.self.view_is)) h))))
