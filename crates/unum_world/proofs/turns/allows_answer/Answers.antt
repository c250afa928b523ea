use Rattle.std.proofs.Common.{◌≡◌, refl, sym, ◌∙◌, true, false}
use Rattle.unum_world.proofs.DueNow.{allows_it, allowed_lives, allowed_moves}
use Rattle.unum_world.proofs.turns.allows_answer.Goals as goal

pub returns-then-not-lives : goal.returns-then-not-lives
returns-then-not-lives c =
    (λ (f : false ≡ true). absurd (cc), λ i. c.if-not-lives.ensures ∙ allowed_lives c.args.o.now c.args.now.now c.requires c.args.attempt i)

pub returns-in-Answer : goal.returns-in-Answer
returns-in-Answer c = (
  λ t. allows_it c.args.o.now c.args.now.now c.requires c.args.attempt c.in-Answer.field-0 (sym c.if-not-lives.ensures) (sym c.move_of.ensures ∙ c.in-Answer.is),
  λ i. refl,
)

pub returns-in_default : goal.returns-in_default
returns-in_default c = (
  λ (f : false ≡ true). absurd (cc),
  λ i. absurd (c.in_default.not-Answer c.args.attempt (c.move_of.ensures ∙ allowed_moves c.args.o.now c.args.now.now c.requires c.args.attempt i)),
)
