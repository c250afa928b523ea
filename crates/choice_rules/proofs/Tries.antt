-- Rules are tried one after another.
use Rattle.std.proofs.Common.{◌≡◌, ℕ, ◌+◌, ◌<◌, List, ◌∷◌, length, drop, get_or, map, sym, ap, ◌∙◌}
use Rattle.std.proofs.lemmas.List.{drop_more}
use Rattle.unum_json.specs.declared.value.Json.{Json}
use Rattle.choice_rules.specs.declared.rule.Rule.{Rule}
use Rattle.choice_rules.specs.Evaluating.{Answer, matches, chosen, choose_from}

-- the rule at i answers a, and what is left is tried after it
pub rule_tried : {X : Type 0} (rule_of : X → Rule) (all : List X) (value : Json) (i : ℕ) (item : X) (a : Answer) → i < length all → item ≡ get_or all i item → a ≡ matches (rule_of item) value
    → choose_from i (map rule_of (drop i all)) value ≡ chosen a i (choose_from (i + 1) (map rule_of (drop (i + 1) all)) value)
rule_tried rule_of all value i item a lt is e =
    ap (λ l. choose_from i (map rule_of l) value) (drop_more all i item lt ∙ ap (λ x. x ∷ drop (i + 1) all) (sym is))
    ∙ ap (λ b. chosen b i (choose_from (i + 1) (map rule_of (drop (i + 1) all)) value)) (sym e)
