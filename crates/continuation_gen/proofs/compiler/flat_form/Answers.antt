use Rattle.std.proofs.Common.{sym, subst, arith}
use Rattle.asl_model.specs.Tree.{block_tree}
use Rattle.continuation_gen.specs.Numbering.{At, IsSmall, plus, size}
use Rattle.continuation_gen.proofs.Keeping.{small_form}
use Rattle.continuation_gen.proofs.compiler.flat_form.Goals as goal

pub scopes_in-count-requires : goal.scopes_in-count-requires
scopes_in-count-requires c = let k = small_form (block_tree c.args.machine.now.root) c.requires in omega (arith, k.0)

pub place-requires : goal.place-requires
place-requires c =
    let root = block_tree c.args.machine.now.root in
    subst (λ k. let first : At = record { scope = 0; node = 0; func = k } in IsSmall (plus first (size root))) (sym c.scopes_in-count.ensures) (small_form root c.requires)
