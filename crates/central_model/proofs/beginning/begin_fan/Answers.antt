use Rattle.std.proofs.Common.{ℕ, ◌∙◌, sym, ap}
use Rattle.std.proofs.lemmas.Result.{IfOk-weaker}
use Rattle.asl_model.specs.Head.{begins}
use Rattle.asl_model.specs.Machine.{head_of}
use Rattle.asl_model.specs.Step.{standard}
use Rattle.asl_model.specs.Tree.{care_of, state_tree}
use Rattle.central_model.specs.Kinds.{begun_or_caught, parallel_fans}
use Rattle.central_model.proofs.Counts.{branch_count, parallel_tree}
use Rattle.central_model.proofs.BeginLaw.{parallel_begins}
use Rattle.central_model.proofs.beginning.begin_fan.Goals as goal

pub returns-in-Parallel : goal.returns-in-Parallel
unfolding standard
returns-in-Parallel c =
    let name = c.args.name.now in
    let raw = c.args.raw.now in
    let p = c.in-Parallel in
    let counted = ap (λ (n : ℕ). begun_or_caught name raw (care_of p.care) (parallel_fans p.shape n raw)) (c.len.ensures ∙ sym (branch_count p.branches)) in
    let tree = ap state_tree p.is ∙ parallel_tree p.shape p.branches p.after p.care in
    let same = counted ∙ parallel_begins name p.shape _ p.after.next (care_of p.care) raw ∙ ap (λ s. begins name (head_of s) raw) (sym tree) in
    IfOk-weaker c.or_catch.result _ _ (λ b e. e ∙ same) (c.or_catch.ensures (parallel_fans p.shape c.len.result raw) c.fan_parallel-made.ensures)
