use Rattle.std.proofs.Common.{Some, sym, ap, ◌∙◌}
use Rattle.place_name.specs.declared.obj.Obj.TheVariants as object
use Rattle.place_name.specs.Names.{scope_of}
use Rattle.intermediate_gc.proofs.Listed.{first_out_at, after_outs}
use Rattle.intermediate_gc.proofs.objects.due_of_join.Goals as goal

pub returns-then-index-count : goal.returns-then-index-count
returns-then-index-count c =
    ap (λ s. Some (object.Out s)) (c.scope.ensures ∙ ap scope_of c.child.ensures.place)
    ∙ first_out_at c.name.inside.place c.args.name.now.place c.args.count c.args.index _ c.if-index-count.true
    (ap (λ n. n.place) c.name.view_is)

pub returns : goal.returns
returns c = c.after_outcomes.ensures
    ∙ sym (after_outs c.args.name.now.place 0 c.args.count c.args.count c.args.index _ c.if-index-count.false)
