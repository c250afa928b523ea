use Rattle.std.proofs.Common.{◌≡◌, true, false}
use Rattle.world_plans.proofs.Allows.{allowed_on}
use Rattle.unum_world.specs.Openings.{codes_of}
use Rattle.unum_world.specs.Traces.{now, is_enabled}
use Rattle.unum_world.proofs.Choices.{obeying_more}
use Rattle.unum_world.proofs.turns.make.Goals as goal

pub unreachable-requires : goal.unreachable-requires
unreachable-requires c =
    let w = c.args.world.now in
    let may : is_enabled w c.args.event ≡ true = allowed_on w.opening.plan (codes_of w.opening) (now w) c.args.event c.requires.allowed in
    let y = rw c.in-Err-NotEnabled.field-0-is at c.in-Err-NotEnabled.ensures.why in
    let no : is_enabled w c.args.event ≡ false = y.1 in
    cc

pub returns-in-Ok-clause-obeying : goal.returns-in-Ok-clause-obeying
returns-in-Ok-clause-obeying c =
    obeying_more c.args.world.now c.apply.new.self c.args.event c.is_sound.ensures.happened c.requires.obeying c.requires.allowed c.in-Ok.ensures.ok
