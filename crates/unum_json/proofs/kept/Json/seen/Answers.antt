use Rattle.std.proofs.Common.{SFits, w64, ap, sym, ◌∙◌, rules}
use Rattle.std.proofs.lemmas.Int.{to_z-of_z}
use Rattle.unum_json.specs.declared.value.Json.{out-Json}
use Rattle.unum_json.specs.declared.value.Json.TheOpen.{Json-F}
use Rattle.unum_json.specs.Kept.{tree_of}
use Rattle.unum_json.proofs.Laws.{out-Null, out-Bool, out-Int, out-Str, out-Arr, out-Obj}
use Rattle.unum_json.proofs.kept.Json.seen.Goals as goal

pub returns-in-Null-clause-shape : goal.returns-in-Null-clause-shape
returns-in-Null-clause-shape c = ap out-Json (sym c.self.view_is ∙ ap tree_of c.in-Null.is) ∙ out-Null

pub returns-in-Bool-clause-shape : goal.returns-in-Bool-clause-shape
returns-in-Bool-clause-shape c = ap out-Json (sym c.self.view_is ∙ ap tree_of c.in-Bool.is) ∙ out-Bool c.in-Bool.truth

pub returns-in-Int-clause-shape : goal.returns-in-Int-clause-shape
returns-in-Int-clause-shape c =
    let fits : SFits w64 c.in-Int.number = search rules in
    ap out-Json (sym c.self.view_is ∙ ap tree_of c.in-Int.is) ∙ out-Int c.in-Int.number ∙ ap Json-F.Int (sym (to_z-of_z w64 c.in-Int.number fits))

pub returns-in-Str-clause-shape : goal.returns-in-Str-clause-shape
returns-in-Str-clause-shape c = ap out-Json (sym c.self.view_is ∙ ap tree_of c.in-Str.is) ∙ out-Str c.in-Str.text

pub returns-in-Arr-clause-shape : goal.returns-in-Arr-clause-shape
returns-in-Arr-clause-shape c = ap out-Json (sym c.self.view_is ∙ ap tree_of c.in-Arr.is) ∙ out-Arr _ ∙ ap Json-F.Arr (sym c.held.ensures)

pub returns-in-Obj-clause-shape : goal.returns-in-Obj-clause-shape
returns-in-Obj-clause-shape c = ap out-Json (sym c.self.view_is ∙ ap tree_of c.in-Obj.is) ∙ out-Obj _ ∙ ap Json-F.Obj (sym c.held-in-Obj.ensures)
