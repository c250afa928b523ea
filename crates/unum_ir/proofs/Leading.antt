-- Where a node leads, in parts.
use Rattle.std.proofs.Common.{◌≡◌, ℕ, Bool, ◌&&◌, map, List, ◌++◌, sym, ap, ◌∙◌}
use Rattle.std.specs.List.{list_all}
use Rattle.std.proofs.lemmas.List.Folds.{list_all-append, list_all-map}
use Rattle.asl_model.specs.Head.{CatcherOf}
use Rattle.unum_ir.specs.Flat.{NodeCatcher, NodeRule, catcher_of}

abbrev nexts_of : List NodeCatcher → List ℕ
nexts_of cs = map (λ (c : CatcherOf ℕ). c.next) (map catcher_of cs)

catchers_all : (p : ℕ → Bool) (cs : List NodeCatcher) → list_all p (nexts_of cs) ≡ list_all (λ (c : NodeCatcher). p c.next) cs
catchers_all p cs = list_all-map p (λ (c : CatcherOf ℕ). c.next) (map catcher_of cs) ∙ list_all-map (λ (c : CatcherOf ℕ). p c.next) catcher_of cs

-- the first part, and then the catchers
pub then_catchers : (p : ℕ → Bool) (xs : List ℕ) (cs : List NodeCatcher) (a b : Bool) → a ≡ list_all p xs → b ≡ list_all (λ (c : NodeCatcher). p c.next) cs → (a && b) ≡ list_all p (xs ++ nexts_of cs)
then_catchers p xs cs a b e f =
    ap (λ z. z && b) e ∙ ap (λ z. list_all p xs && z) (f ∙ sym (catchers_all p cs)) ∙ sym (list_all-append p xs (nexts_of cs))

-- the rules, and then the rest
pub then_rest : (p : ℕ → Bool) (rs : List NodeRule) (ys : List ℕ) (a b : Bool) → a ≡ list_all (λ (r : NodeRule). p r.next) rs → b ≡ list_all p ys → (a && b) ≡ list_all p (map (λ (r : NodeRule). r.next) rs ++ ys)
then_rest p rs ys a b e f =
    ap (λ z. z && b) (e ∙ sym (list_all-map p (λ (r : NodeRule). r.next) rs))
    ∙ ap (λ z. list_all p (map (λ (r : NodeRule). r.next) rs) && z) f
    ∙ sym (list_all-append p (map (λ (r : NodeRule). r.next) rs) ys)
