use Rattle.std.proofs.Common.{◌≡◌, ◌+◌, ◌≤◌, drop}
use Rattle.unum_json.specs.Parsed.{view, members_view}
use Rattle.asl_read.specs.Objects.{keys, keys_in}
use Rattle.asl_read.specs.Choices.{count_heads}
use Rattle.asl_read.proofs.malformed.has_one_head.Given as goal

abbrev pub invariant-loop-member : goal.invariant-loop-member
invariant-loop-member l = record {
  counted : count_heads (keys (view l.value)) ≡ l.heads + count_heads (keys_in (members_view (drop l.member-index l.member-items)));
  few : l.heads ≤ 1;
}
