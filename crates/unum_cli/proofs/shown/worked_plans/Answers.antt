use Rattle.unum_cli.proofs.Worked.{draws, crashes_by_rate, twins_by_rate, lists_first, picks, crashes_in_time}
use Rattle.unum_cli.proofs.shown.worked_plans.Goals as goal

pub returns : goal.returns
returns c = record {
  draws = draws;
  crashes = crashes_by_rate;
  twins = twins_by_rate;
  lists = lists_first;
  picks = picks;
  in_time = crashes_in_time;
}
