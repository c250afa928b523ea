use Rattle.std.proofs.Common.{◌++◌, ◌∷◌, [], sym, ap, ◌∙◌}
use Rattle.std.proofs.lemmas.List.{append-nil}
use Rattle.unum_json.specs.Parsed.{members_view}
use Rattle.unum_json.proofs.Pairs.{pairs, pairs_view, rising_pairs, one_pair, rising_so_far}
use Rattle.unum_json.proofs.gathering.fields_of.Goals as goal

pub push-requires : goal.push-requires
push-requires c =
    let so_far = one_pair c.loop-key.members c.loop-key.key-iterator c.next.new.self (c.in-Some.key, c.in-Some.value) c.in_ok-from_string.field-0 (pairs c.args.tree.entries) c.loop-key.invariant.0 c.in-Some.ensures.steps c.in_ok-from_string.ensures in
    rising_so_far (c.loop-key.members ++ (c.in_ok-from_string.field-0, c.in-Some.value) ∷ []) (pairs c.next.new.self) (pairs c.args.tree.entries) so_far
    (rising_pairs c.args.tree.entries c.len.ensures.ordered)

pub returns : goal.returns
returns c =
    sym (ap members_view (c.loop-key.invariant.0 ∙ ap (λ es. c.loop-key.members ++ pairs es) c.in-None.ensures.steps.0 ∙ append-nil c.loop-key.members)) ∙ pairs_view c.args.tree.entries
