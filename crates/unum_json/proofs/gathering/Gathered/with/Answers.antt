use Rattle.std.proofs.Common.{◌≡◌, ◌++◌, ◌∷◌, [], string_bytes, sym, ap, ◌∙◌, subst, rules}
use Rattle.std.specs.Map.{keys_of}
use Rattle.serde_json.specs.Data.{put}
use Rattle.unum_json.specs.Gathered.{gathered, tree_view}
use Rattle.unum_json.specs.Keys.{IsRising}
use Rattle.unum_json.specs.Parsed.{view, members_view}
use Rattle.unum_json.proofs.Pairs.{tree_view-insert_entry, put_last, keys_more}
use Rattle.unum_json.proofs.Views.{members_view-with_key}
use Rattle.unum_json.proofs.gathering.Gathered.with.Goals as goal

pub push-requires : goal.push-requires
push-requires c =
    let k = c.in_ok-from_str-in-Few.field-0 in
    keys_more c.in-Few.members k c.args.value (subst (λ k. IsRising (keys_of c.in-Few.members ++ k ∷ [])) (sym c.in_ok-from_str-in-Few.ensures) (c.is_above.ensures.above c.if-is_above.true))

pub returns-then-is_above : goal.returns-then-is_above
returns-then-is_above c =
    let k = c.in_ok-from_str-in-Few.field-0 in
    let rising = keys_more c.in-Few.members k c.args.value (subst (λ k. IsRising (keys_of c.in-Few.members ++ k ∷ [])) (sym c.in_ok-from_str-in-Few.ensures) (c.is_above.ensures.above c.if-is_above.true)) in
    ap members_view c.in_ok-push-in-Few.ensures.ok ∙ sym (put_last c.in-Few.members (k, c.args.value) [] rising)
    ∙ ap (λ k. put k (view c.args.value) (members_view c.in-Few.members)) c.in_ok-from_str-in-Few.ensures
    ∙ ap (λ g. put c.args.key.now (view c.args.value) (gathered g)) (sym c.in-Few.is)

pub returns-then-len-lt-FEW : goal.returns-then-len-lt-FEW
returns-then-len-lt-FEW c =
    ap members_view c.in_ok-insert-in-Few.ensures.ok ∙ members_view-with_key c.in-Few.members c.in_ok-from_str-in-Few-2.field-0 c.args.value
    ∙ ap (λ k. put k (view c.args.value) (members_view c.in-Few.members)) c.in_ok-from_str-in-Few-2.ensures
    ∙ ap (λ g. put c.args.key.now (view c.args.value) (gathered g)) (sym c.in-Few.is)

pub returns-in_ok-insert-in-Few-2 : goal.returns-in_ok-insert-in-Few-2
returns-in_ok-insert-in-Few-2 c =
    let copied : string_bytes c.in_ok-from_str-in-Few-3.field-0 ≡ c.args.key.now = search rules in
    ap tree_view c.in_ok-insert-in-Few-2.ensures.entries ∙ tree_view-insert_entry c.in_ok-tree-in-Few.tree.entries c.in_ok-from_str-in-Few-3.field-0 c.args.value
    ∙ ap (λ k. put k (view c.args.value) (tree_view c.in_ok-tree-in-Few.tree.entries)) copied
    ∙ ap (put c.args.key.now (view c.args.value)) c.in_ok-tree-in-Few.ensures
    ∙ ap (λ g. put c.args.key.now (view c.args.value) (gathered g)) (sym c.in-Few.is)

pub returns-in_ok-insert-in-Many : goal.returns-in_ok-insert-in-Many
returns-in_ok-insert-in-Many c =
    let copied : string_bytes c.in_ok-from_str-in-Many.field-0 ≡ c.args.key.now = search rules in
    ap tree_view c.in_ok-insert-in-Many.ensures.entries ∙ tree_view-insert_entry c.in-Many.tree.entries c.in_ok-from_str-in-Many.field-0 c.args.value
    ∙ ap (λ k. put k (view c.args.value) (tree_view c.in-Many.tree.entries)) copied
    ∙ ap (λ g. put c.args.key.now (view c.args.value) (gathered g)) (sym c.in-Many.is)
