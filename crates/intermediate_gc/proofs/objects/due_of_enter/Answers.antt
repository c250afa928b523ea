use Rattle.std.proofs.Common.{sym, ap, ◌∙◌, slice_get}
use Rattle.std.proofs.lemmas.Bool.{false≢true}
use Rattle.place_name.specs.Names.{scope_of}
use Rattle.world_model.specs.AnyCode.Acts.{due_at_enter}
use Rattle.intermediate_gc.proofs.Listed.{no_parent, some_parent}
use Rattle.intermediate_gc.proofs.objects.due_of_enter.Goals as goal

pub returns-then-is_of_session : goal.returns-then-is_of_session
returns-then-is_of_session c =
    c.own_objects.ensures
    ∙ ap (λ q. slice_get (due_at_enter c.args.name.now q) c.args.index)
    (sym (no_parent (scope_of c.args.name.now.place) (c.is_of_session.ensures.0 c.if-is_of_session.true)))

pub returns-else-is_of_session : goal.returns-else-is_of_session
returns-else-is_of_session c =
    let q = some_parent (scope_of c.args.name.now.place) (λ e. false≢true (sym c.if-is_of_session.false ∙ c.is_of_session.ensures.1 e)) in
    c.own_check.ensures ∙ ap (λ q. slice_get (due_at_enter c.args.name.now q) c.args.index) (sym q.1)
