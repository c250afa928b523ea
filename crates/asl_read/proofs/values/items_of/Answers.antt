use Rattle.std.proofs.Common.{map, sym, ap, ◌∙◌}
use Rattle.unum_json.specs.Parsed.{view}
use Rattle.unum_json.proofs.Views.{view-Array}
use Rattle.asl_read.specs.Parts.{items_of}
use Rattle.asl_read.proofs.Lists.{items_seen}
use Rattle.asl_read.proofs.values.items_of.Goals as goal

pub returns-in-Array : goal.returns-in-Array
returns-in-Array c =
    ap (map view) c.as_slice.ensures.value ∙ items_seen c.in-Array.items.items ∙ ap items_of (sym (view-Array c.in-Array.items))
    ∙ ap (λ v. items_of (view v)) (sym c.in-Array.is)
