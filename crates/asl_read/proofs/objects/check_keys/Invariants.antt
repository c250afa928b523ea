use Rattle.std.proofs.Common.{◌≡◌, map, drop}
use Rattle.std.specs.List.{flat_map}
use Rattle.unum_json.specs.Parsed.{view, members_view}
use Rattle.asl_read.specs.Objects.{row_of, key_rule, key_broken, key_faults, keys_in}
use Rattle.asl_read.specs.Names.{left_out}
use Rattle.asl_read.proofs.objects.check_keys.Given as goal

abbrev pub invariant-loop-member : goal.invariant-loop-member
invariant-loop-member g l =
    key_faults (map row_of l.rows) (left_out l.out) (view l.value)
    ≡ flat_map (λ k. key_broken k (key_rule (map row_of l.rows) (left_out l.out) (view l.value) k)) (keys_in (members_view (drop l.member-index l.member-items)))
