use Rattle.std.proofs.Common.{◌≡◌, ◌+◌, ◌++◌, ◌∷◌, [], sym, ap, ◌∙◌, append_assoc, add-one, arith}
use Rattle.continuation_gen.specs.Tables.{EnterFunc}
use Rattle.continuation_gen.specs.Numbering.{enters}
use Rattle.continuation_gen.proofs.Adding.{enters_next}
use Rattle.continuation_gen.proofs.tables.add_enters.Goals as goal

pub loop-scope-preserved : goal.loop-scope-preserved
loop-scope-preserved c =
    let k = c.loop-scope.scope in
    let same : k ≡ 0 + k = omega arith in
    c.in_ok-push.ensures.ok
    ∙ ap (λ l. l ++ EnterFunc k ∷ []) c.loop-scope.invariant
    ∙ append_assoc c.args.funcs.now (enters 0 k) (EnterFunc k ∷ [])
    ∙ ap (λ l. c.args.funcs.now ++ l) (ap (λ z. enters 0 k ++ EnterFunc z ∷ []) same ∙ enters_next 0 k ∙ ap (enters 0) (sym (add-one k)))
