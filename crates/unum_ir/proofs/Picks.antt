-- The rules of a Choice are tried in their order.
use Rattle.std.proofs.Common.{◌≡◌, ℕ, ◌+◌, ◌<◌, List, ◌∷◌, drop, length, get_or, slice_get, Option, Ok, true, false, refl, sym, ap, ◌∙◌}
use Rattle.std.specs.Option.{option_map}
use Rattle.std.proofs.lemmas.List.{drop_more}
use Rattle.std.proofs.lemmas.Option.{slice_get-map, slice_get_read}
use Rattle.choice_rules.specs.Evaluating.{Answer, matches, chosen, choose_from}
use Rattle.asl_model.specs.Data.{Json, and_then, or_path_failure}
use Rattle.asl_model.specs.Head.{picked}
use Rattle.unum_ir.specs.Flat.{NodeRule}
use Rattle.unum_ir.specs.Kinds.{next_from, some_next, rules_in, nexts_in}

at_one : (items all : List NodeRule) (default : Option ℕ) (x : Json) (i : ℕ) (r : NodeRule) → i < length items → r ≡ get_or items i r → next_from i (rules_in (drop i items)) all default x ≡ next_from i (r.rule ∷ rules_in (drop (i + 1) items)) all default x
at_one items all default x i r h e =
    ap (λ l. next_from i (rules_in l) all default x) (drop_more items i r h ∙ ap (λ z. z ∷ drop (i + 1) items) (sym e))

by_answer : (items all : List NodeRule) (default : Option ℕ) (x : Json) (i : ℕ) (r : NodeRule) (a : Answer) → a ≡ matches r.rule x → next_from i (r.rule ∷ rules_in (drop (i + 1) items)) all default x ≡ and_then (or_path_failure (chosen a i (choose_from (i + 1) (rules_in (drop (i + 1) items)) x))) (λ k. some_next (picked (nexts_in all) default k))
by_answer items all default x i r a e =
    ap (λ m. and_then (or_path_failure (chosen m i (choose_from (i + 1) (rules_in (drop (i + 1) items)) x))) (λ k. some_next (picked (nexts_in all) default k))) (sym e)

-- a rule that does not match is passed
pub rule_passed : (items all : List NodeRule) (default : Option ℕ) (x : Json) (i : ℕ) (r : NodeRule) → i < length items → r ≡ get_or items i r → Ok false ≡ matches r.rule x → next_from i (rules_in (drop i items)) all default x ≡ next_from (i + 1) (rules_in (drop (i + 1) items)) all default x
rule_passed items all default x i r h e m = at_one items all default x i r h e ∙ by_answer items all default x i r (Ok false) m

-- the first that matches has the next state
pub rule_taken : (items all : List NodeRule) (default : Option ℕ) (x : Json) (i : ℕ) (r : NodeRule) → items ≡ all → i < length items → r ≡ get_or items i r → Ok true ≡ matches r.rule x → next_from i (rules_in (drop i items)) all default x ≡ Ok r.next
rule_taken items all default x i r same h e m =
    at_one items all default x i r h e
    ∙ by_answer items all default x i r (Ok true) m
    ∙ ap (λ o. some_next o) (ap (λ l. slice_get (nexts_in l) i) (sym same) ∙ slice_get-map (λ (r : NodeRule). r.next) items i ∙ ap (λ o. option_map (λ (r : NodeRule). r.next) o) (slice_get_read items (length items) i r refl h e))
