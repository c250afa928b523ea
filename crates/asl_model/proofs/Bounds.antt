-- The rules of validity compute on small machines.
use Rattle.std.proofs.Common.{refl}
use Rattle.std.specs.Str.{chars}
use Rattle.asl_model.specs.Data.{same_text, all_errors}
use Rattle.asl_model.specs.Limits.{NameLengths, StateCounts, BranchCounts, Depths, Concurrency, CareCounts, Attempts, ErrorNames, Leads}

pub name_lengths : NameLengths
unfolding same_text chars
name_lengths = (refl, refl, refl, refl, refl)

pub state_counts : StateCounts
unfolding same_text chars
state_counts = (refl, refl)

pub branch_counts : BranchCounts
unfolding same_text chars
branch_counts = (refl, refl, refl, refl)

pub depths : Depths
unfolding same_text chars
depths = (refl, refl)

pub concurrency : Concurrency
unfolding same_text chars
concurrency = (refl, refl)

pub care_counts : CareCounts
unfolding same_text chars all_errors
care_counts = (refl, refl, refl, refl)

pub attempts : Attempts
unfolding same_text chars all_errors
attempts = (refl, refl)

pub error_names : ErrorNames
unfolding same_text chars all_errors
error_names = (refl, refl, refl, refl, refl, refl, refl, refl)

pub leads : Leads
unfolding same_text chars all_errors
leads = (refl, refl, refl, refl, refl, refl, refl, refl, refl)
