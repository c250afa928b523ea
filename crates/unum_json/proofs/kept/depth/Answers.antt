use Rattle.std.proofs.Common.{◌≡◌, arith, ap, sym, ◌∙◌}
use Rattle.unum_json.specs.declared.value.Json as json
use Rattle.unum_json.specs.Kept.{tree_of}
use Rattle.unum_json.specs.Tree.{depth}
use Rattle.unum_json.proofs.Laws.{depth-Null, depth-Bool, depth-Int, depth-Str}
use Rattle.unum_json.proofs.kept.depth.Goals as goal

pub returns-in-Null : goal.returns-in-Null
returns-in-Null c =
    let e : depth c.args.value.now ≡ depth json.Null = ap depth (sym c.value.view_is ∙ ap tree_of c.in-Null.is) in
    omega (arith, e, depth-Null)

pub returns-in-Bool : goal.returns-in-Bool
returns-in-Bool c =
    let e : depth c.args.value.now ≡ depth (json.Bool c.in-Bool.field-0) = ap depth (sym c.value.view_is ∙ ap tree_of c.in-Bool.is) in
    omega (arith, e, depth-Bool c.in-Bool.field-0)

pub returns-in-Int : goal.returns-in-Int
returns-in-Int c =
    let e : depth c.args.value.now ≡ depth (json.Int c.in-Int.field-0) = ap depth (sym c.value.view_is ∙ ap tree_of c.in-Int.is) in
    omega (arith, e, depth-Int c.in-Int.field-0)

pub returns-in-Str : goal.returns-in-Str
returns-in-Str c =
    let e : depth c.args.value.now ≡ depth (json.Str c.in-Str.field-0) = ap depth (sym c.value.view_is ∙ ap tree_of c.in-Str.is) in
    omega (arith, e, depth-Str c.in-Str.field-0)
