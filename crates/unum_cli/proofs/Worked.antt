-- The examples of plans and sessions by computation.
use Rattle.std.proofs.Common.{refl, sym, arith}
use Rattle.std.proofs.lemmas.Bool.{eq-eqb, ne_eqb}
use Rattle.world_model.specs.AnyCode.World.{objects_with}
use Rattle.world_plans.specs.Plans.{draw}
use Rattle.world_plans.specs.Sessions.{all_over, standing, crashes_in}
use Rattle.unum_cli.specs.Worked.{Draws, CrashesByRate, TwinsByRate, ListsFirst, Picks, CrashesInTime, Abandons, StaysOpen, Ends, CrashesAndMarks}

pub draws : Draws
unfolding draw
draws = (refl, refl, refl)

pub crashes_by_rate : CrashesByRate
unfolding draw
crashes_by_rate = (refl, refl)

pub twins_by_rate : TwinsByRate
unfolding draw
twins_by_rate = (refl, refl)

pub lists_first : ListsFirst
unfolding draw
lists_first = (refl, refl, refl, refl)

pub picks : Picks
unfolding draw
picks = (λ len of. refl, refl, refl)

pub crashes_in_time : CrashesInTime
crashes_in_time p codes w a n t live step = (
  λ now. rw (live, step, eq-eqb n t.steps (sym now)) refl,
  λ past. rw (live, step, ne_eqb n t.steps (λ e. omega (arith, e, past))) refl,
)

pub abandons : Abandons
unfolding standing all_over
abandons o = (refl, refl, refl)

pub stays_open : StaysOpen
unfolding standing all_over
stays_open o = (refl, refl, refl)

pub ends : Ends
unfolding standing objects_with
ends o outcome = refl

pub crashes_and_marks : CrashesAndMarks
unfolding crashes_in
crashes_and_marks w = (refl, refl)
