use Rattle.std.proofs.Common.{nat_lt, rules}
use Rattle.std.proofs.lemmas.List.Sorted.{IsPartitionedBy-ltb, IsPartitionPoint-from_clause}
use Rattle.world_plans.specs.declared.planning.Mishap.{Mishap}
use Rattle.invoke_queue.proofs.Rising.{rises}
use Rattle.invoke_queue.proofs.plan.mishaps_before.Goals as goal

pub returns : goal.returns
returns c =
    IsPartitionPoint-from_clause (λ (m : Mishap). nat_lt m.attempt c.args.attempt) c.args.script.now c.partition_point.result c.partition_point.ensures.partitioned
    (IsPartitionedBy-ltb (λ (m : Mishap). m.attempt) c.args.script.now c.args.attempt (rises (λ (m : Mishap). m.attempt) c.args.script.now c.requires))
    (λ a r q k. search rules)
