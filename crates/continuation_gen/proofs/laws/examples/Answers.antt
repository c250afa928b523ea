use Rattle.continuation_gen.proofs.Shown.{of_one_task, of_two_branches, of_blocks_three_deep, of_care_and_limit, crossed_is_refused}
use Rattle.continuation_gen.proofs.laws.examples.Goals as goal

pub returns : goal.returns
returns c = record { one_task = of_one_task; two_branches = of_two_branches; three_deep = of_blocks_three_deep; care_and_limit = of_care_and_limit; crossed = crossed_is_refused }
