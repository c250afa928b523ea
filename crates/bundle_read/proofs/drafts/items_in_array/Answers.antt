use Rattle.std.proofs.Common.{◌∙◌, ap, map}
use Rattle.unum_json.specs.Parsed.{view}
use Rattle.bundle_read.proofs.Values.{items_seen}
use Rattle.bundle_read.proofs.drafts.items_in_array.Goals as goal

pub returns : goal.returns
returns c = ap (map view) c.as_slice.ensures.value ∙ items_seen c.args.items.now.items
