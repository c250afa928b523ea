use Rattle.std.proofs.Common.{◌≡◌, arith, ap, sym, ◌∙◌}
use Rattle.unum_json.specs.declared.value.Json as json
use Rattle.unum_json.specs.Kept.{tree_of}
use Rattle.unum_json.specs.Tree.{nodes}
use Rattle.unum_json.proofs.Laws.{nodes-Null, nodes-Bool, nodes-Int, nodes-Str}
use Rattle.unum_json.proofs.kept.nodes.Goals as goal

pub returns-in-Null : goal.returns-in-Null
returns-in-Null c =
    let e : nodes c.args.value.now ≡ nodes json.Null = ap nodes (sym c.value.view_is ∙ ap tree_of c.in-Null.is) in
    omega (arith, e, nodes-Null)

pub returns-in-Bool : goal.returns-in-Bool
returns-in-Bool c =
    let e : nodes c.args.value.now ≡ nodes (json.Bool c.in-Bool.field-0) = ap nodes (sym c.value.view_is ∙ ap tree_of c.in-Bool.is) in
    omega (arith, e, nodes-Bool c.in-Bool.field-0)

pub returns-in-Int : goal.returns-in-Int
returns-in-Int c =
    let e : nodes c.args.value.now ≡ nodes (json.Int c.in-Int.field-0) = ap nodes (sym c.value.view_is ∙ ap tree_of c.in-Int.is) in
    omega (arith, e, nodes-Int c.in-Int.field-0)

pub returns-in-Str : goal.returns-in-Str
returns-in-Str c =
    let e : nodes c.args.value.now ≡ nodes (json.Str c.in-Str.text) = ap nodes (sym c.value.view_is ∙ ap tree_of c.in-Str.is) in
    omega (arith, e, nodes-Str c.in-Str.text, c.nodes_of_text.ensures, c.saturating_add.ensures)
