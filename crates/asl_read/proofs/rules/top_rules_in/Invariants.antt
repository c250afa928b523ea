use Rattle.std.proofs.Common.{◌≡◌, ◌++◌, map, drop, codes}
use Rattle.unum_json.specs.Parsed.{view}
use Rattle.asl_read.specs.Parts.{list_in}
use Rattle.asl_read.specs.Rules.{top_rule_of}
use Rattle.asl_read.proofs.rules.top_rules_in.Given as goal

abbrev pub invariant-loop-item : goal.invariant-loop-item
invariant-loop-item l = map top_rule_of (list_in (codes "Choices") (view l.value)) ≡ l.rules ++ map top_rule_of (map view (drop l.item-index l.item-items))
