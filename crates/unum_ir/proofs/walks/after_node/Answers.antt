use Rattle.std.proofs.Common.{suc, ◌∙◌, sym, ap}
use Rattle.std.proofs.lemmas.Result.{IfOk-weaker}
use Rattle.unum_ir.specs.Flat.{flat, flat_on, after_node}
use Rattle.unum_ir.specs.declared.onward.Onward.{Onward}
use Rattle.unum_ir.specs.Views.{onward_of}
use Rattle.unum_ir.proofs.WalkLaw.{later}
use Rattle.unum_ir.proofs.walks.after_node.Goals as goal

pub returns-in-Goes : goal.returns-in-Goes
returns-in-Goes c =
    let ir = c.args.ir.now in
    let label = c.args.label in
    let hop = c.args.hop in
    let raw = c.args.raw.now in
    let used = c.args.used.now in
    let o = c.args.answer.now in
    let found = ap (λ z. after_node ir label z hop raw used o) c.in-Some.ensures in
    let goes = ap (λ (z : Onward). flat_on (onward_of z) (λ next v again. flat ir next (suc hop) v again)) (sym c.in-Goes.is) in
    let same = ap (λ z. flat_on z (λ next v again. flat ir next (suc hop) v again)) c.in_ok-next.ensures in
    let on = later ir c.in-Goes.next hop c.saturating_add.result c.in-Goes.data c.in-Goes.again c.saturating_add.ensures in
    IfOk-weaker c.first_stop.result _ _ (λ s e. e ∙ on ∙ goes ∙ same ∙ found) c.first_stop.ensures
