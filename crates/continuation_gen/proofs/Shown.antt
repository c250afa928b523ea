-- The definitions compute on small machines.
use Rattle.std.proofs.Common.{refl}
use Rattle.asl_model.specs.Data.{same_text}
use Rattle.continuation_gen.specs.Examples.{OfOneTask, OfTwoBranches, OfBlocksThreeDeep, OfCareAndLimit, CrossedIsRefused}

pub of_one_task : OfOneTask
unfolding same_text
of_one_task = refl

pub of_two_branches : OfTwoBranches
unfolding same_text
of_two_branches = refl

pub of_blocks_three_deep : OfBlocksThreeDeep
unfolding same_text
of_blocks_three_deep = refl

pub of_care_and_limit : OfCareAndLimit
unfolding same_text
of_care_and_limit = refl

pub crossed_is_refused : CrossedIsRefused
unfolding same_text
crossed_is_refused = (refl, refl)
