use Rattle.std.proofs.Common.{◌≡◌, string_bytes, rules}
use Rattle.unum_json.proofs.Pairs.{one_more}
use Rattle.unum_json.proofs.gathering.tree_of.Goals as goal

pub loop-key-preserved-in_ok-insert : goal.loop-key-preserved-in_ok-insert
loop-key-preserved-in_ok-insert c =
    let copied : string_bytes c.in_ok-from_str.field-0 ≡ c.in-Some.key = search rules in
    one_more c.args.members _ c.next.new.self.rest.items c.loop-key.tree.entries _ (c.in-Some.key, c.in-Some.value) c.in_ok-from_str.field-0 c.requires c.loop-key.invariant c.in-Some.ensures.steps.0 c.in_ok-insert.ensures.entries copied

pub loop-key-preserved : goal.loop-key-preserved
loop-key-preserved c =
    let copied : string_bytes c.in_ok-from_str.field-0 ≡ c.in-Some.key = search rules in
    one_more c.args.members _ c.next.new.self.rest.items c.loop-key.tree.entries _ (c.in-Some.key, c.in-Some.value) c.in_ok-from_str.field-0 c.requires c.loop-key.invariant c.in-Some.ensures.steps.0 c.in_ok-insert.ensures.entries copied
