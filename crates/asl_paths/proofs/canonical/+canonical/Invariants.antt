use Rattle.std.proofs.Common.{◌≡◌, ◌+◌, ◌*◌, take, sum, map}
use Rattle.unum_json.specs.Seen.{shown}
use Rattle.unum_json.specs.Tree.{nodes, fields_sum, on_values}
use Rattle.asl_paths.specs.Canonical.{canonical_items, canonical_fields}
use Rattle.asl_paths.proofs.canonical.+canonical.Given as goal

abbrev pub invariant-canonical_items-loop-value : goal.invariant-canonical_items-loop-value
invariant-canonical_items-loop-value l = l.made ≡ canonical_items l.item (take l.value-index l.value-items)

abbrev pub invariant-canonical_fields-loop-field : goal.invariant-canonical_fields-loop-field
invariant-canonical_fields-loop-field l = l.made ≡ canonical_fields l.item (take l.field-index l.field-items)

abbrev pub decreases-canonical : goal.decreases-canonical
decreases-canonical l = 3 * nodes l.value.now + 1

abbrev pub decreases-canonical_seen : goal.decreases-canonical_seen
decreases-canonical_seen l = 3 * nodes (shown l.value)

abbrev pub decreases-canonical_items : goal.decreases-canonical_items
decreases-canonical_items l = 3 * sum (map nodes l.items.now) + 2

abbrev pub decreases-canonical_fields : goal.decreases-canonical_fields
decreases-canonical_fields l = 3 * fields_sum (on_values nodes l.fields.now) + 2
