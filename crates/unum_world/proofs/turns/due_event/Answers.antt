use Rattle.std.proofs.Common.{sym, ap, ◌∙◌, Some}
use Rattle.unum_world.specs.Openings.{codes_of}
use Rattle.unum_world.specs.Traces.{world_of}
use Rattle.unum_world.specs.Turns.{due_in}
use Rattle.unum_world.proofs.DueNow.{own_due}
use Rattle.unum_world.proofs.turns.due_event.Goals as goal

pub returns-then-lives : goal.returns-then-lives
returns-then-lives c =
    let o = c.args.o.now in
    let m = c.args.now.now in
    ap Some c.move_of.ensures ∙ own_due o m c.requires c.in-Some.attempt (sym c.lives.ensures ∙ c.if-lives.true)
    ∙ ap (due_in o.plan (codes_of o) (world_of o m)) (sym c.in-Some.is)
