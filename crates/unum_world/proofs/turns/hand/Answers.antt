use Rattle.std.proofs.Common.{refl, subst}
use Rattle.asl_model.specs.Laws.{In}
use Rattle.world_types.specs.declared.queue.Event.TheVariants.{Answer}
use Rattle.unum_world.specs.Turns.{allowed}
use Rattle.unum_world.proofs.Choices.{obeying_more}
use Rattle.unum_world.proofs.turns.hand.Goals as goal

pub returns-in-Ok-clause-obeying : goal.returns-in-Ok-clause-obeying
returns-in-Ok-clause-obeying c =
    let w = c.args.world.now in
    let i : In (Answer c.args.done.now.ticket) (allowed w) =
    subst (λ n. In (Answer n) (allowed w)) c.ticket-ticket.ensures (c.if-not-allows.ensures.0 refl) in
    obeying_more w c.answer.new.self (Answer c.args.done.now.ticket) c.is_sound.ensures.happened c.requires i c.in-Ok.ensures.ok
