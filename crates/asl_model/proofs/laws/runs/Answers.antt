use Rattle.asl_model.specs.Step.{standard}
use Rattle.asl_model.proofs.Ones.{standard_one}
use Rattle.asl_model.proofs.GrowthLaw.{growth_lem}
use Rattle.asl_model.proofs.StandsLaw.{stands_lem}
use Rattle.asl_model.proofs.OrderLaw.{order_lem, distinct_lem, one_visit_lem, same_visit_lem}
use Rattle.asl_model.proofs.WaitLaw.{waiting_lem}
use Rattle.asl_model.proofs.Uses.{branch_ends_lem}
use Rattle.asl_model.proofs.ExactLaw.{join_exactly_lem}
use Rattle.asl_model.proofs.RangeLaw.{ranges_lem, adding_lem, answering_lem}
use Rattle.asl_model.proofs.OpenLaw.{open_places_lem}
use Rattle.asl_model.proofs.WorldUse.{end_kept_lem, fan_kept_lem, join_ready_lem}
use Rattle.asl_model.proofs.laws.runs.Goals as goal

pub returns : goal.returns
returns c = record {
  growth = growth_lem standard;
  standing = stands_lem standard standard_one;
  rising = order_lem standard;
  distinct = distinct_lem standard;
  one = one_visit_lem standard;
  same = same_visit_lem standard;
  waits = waiting_lem standard;
  ends = branch_ends_lem standard;
  join = join_exactly_lem standard standard_one;
  ranges = ranges_lem standard;
  adding = adding_lem;
  answering = answering_lem standard standard_one;
  in_order = open_places_lem standard;
  end_kept = end_kept_lem standard;
  fan_kept = fan_kept_lem standard;
  join_ready = join_ready_lem standard standard_one;
}
