-- The rows by computation.
use Rattle.world_model.specs.AnyCode.Program as program
use Rattle.world_model.specs.AnyCode.World as worlds
use Rattle.std.proofs.Common.{refl}
use Rattle.asl_model.specs.Data.{match_error, all_errors, same_text, prepared}
use Rattle.asl_model.specs.Step.{standard}
use Rattle.asl_model.specs.Central.{scope, hop_limit}
use Rattle.world_model.specs.Acts.{rules, parent_of}
use Rattle.world_model.specs.World.{function_of, root_states, objects_with}
use Rattle.world_model.specs.Journals.{journal_answers, run_of}
use Rattle.world_model.specs.Rows.{a_name}
use Rattle.world_plans.specs.Plans.{draw}
use Rattle.world_plans.specs.Chooser.{latest, twins_from, moves_from, rests_from}
use Rattle.calm_worlds.specs.Worked.{tally_from, OneTaskCosts, RetriesCost}

pub one_task_row : OneTaskCosts
unfolding standard scope same_text prepared hop_limit rules parent_of program.next_of program.absorb function_of worlds.root_invs root_states worlds.start_objects objects_with worlds.effect worlds.enabled journal_answers run_of a_name draw latest twins_from moves_from rests_from tally_from
one_task_row = (refl, refl, refl, refl, refl)

pub retries_row : RetriesCost
unfolding standard scope same_text prepared match_error all_errors hop_limit rules parent_of program.next_of program.absorb function_of worlds.root_invs root_states worlds.start_objects objects_with worlds.effect worlds.enabled journal_answers run_of a_name draw latest twins_from moves_from rests_from tally_from
retries_row = (refl, refl, refl, refl, refl)
