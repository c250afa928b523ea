-- The definitions compute on small machines.
use Rattle.std.proofs.Common.{refl, ap}
use Rattle.std.specs.Str.{chars}
use Rattle.asl_model.specs.Data.{same_text, combine, match_error, all_errors, task_failed}
use Rattle.asl_model.specs.Names.{answers_of}
use Rattle.asl_model.specs.Central.{scope, hop_limit}
use Rattle.asl_model.specs.Head.{or_caught}
use Rattle.asl_model.specs.Step.{Calls}
use Rattle.asl_model.specs.Examples.{WaitingTask, AnsweredTask, FanWaits, EmptyMap, RetriedTask, LoopEnds, AstrayBreaks, RetriesFirst, SpentIsCaught, FirstCatches, OwnErrorIsCaught, TaskFailedMatches, LowestFails}

pub waiting_task : WaitingTask
unfolding scope hop_limit same_text answers_of
waiting_task = refl

pub answered_task : AnsweredTask
unfolding scope hop_limit same_text answers_of
answered_task = refl

pub fan_waits : FanWaits
unfolding scope hop_limit same_text answers_of
fan_waits = refl

pub empty_map : EmptyMap
unfolding scope hop_limit same_text answers_of
empty_map = refl

pub retried_task : RetriedTask
unfolding scope hop_limit same_text answers_of match_error all_errors task_failed
retried_task = refl

pub loop_ends : LoopEnds
unfolding scope hop_limit same_text answers_of
loop_ends = refl

pub astray_breaks : AstrayBreaks
unfolding same_text chars
astray_breaks = refl

pub retries_first : RetriesFirst
retries_first name label shape after care answered raw r rs u us f e m l = rw (e, m, l) refl

pub spent_is_caught : SpentIsCaught
spent_is_caught name label shape after care answered raw r rs u us f e m l = rw (e, m, l) refl

pub first_catches : FirstCatches
first_catches name raw v error cause answered c cs m p = rw (m, p) refl

pub own_error_is_caught : OwnErrorIsCaught
own_error_is_caught name resource shape after care raw error e = ap (λ m. or_caught name raw care m (λ x. Calls resource x)) e

pub task_failed_matches : TaskFailedMatches
unfolding match_error all_errors task_failed
task_failed_matches = (refl, refl, refl, refl)

pub lowest_fails : LowestFails
unfolding combine
lowest_fails name v w f g os = refl
