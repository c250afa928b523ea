use Rattle.std.proofs.Common.{option_map, sym, ap, ◌∙◌}
use Rattle.serde_json.specs.Find.{get}
use Rattle.unum_json.specs.Keys.{find_key}
use Rattle.unum_json.specs.Parsed.{view}
use Rattle.unum_json.proofs.Views.{view-Object, view_of_ref, found}
use Rattle.unum_json.proofs.parsed.Value.get.Goals as goal

pub returns-in-Object : goal.returns-in-Object
returns-in-Object c =
    view_of_ref c.get.result
    ∙ ap (option_map view) (c.get.ensures ∙ ap (λ k. find_key k c.in-Object.members) c.as_bytes.ensures.value)
    ∙ found c.args.key.now c.in-Object.members
    ∙ sym (ap (get c.args.key.now) (ap view c.in-Object.is ∙ view-Object c.in-Object.members))
