-- The parts of the list of all that a machine breaks.
use Rattle.std.proofs.Common.{◌≡◌, ℕ, ◌+◌, ◌-◌, not, ◌&&◌, ◌==◌, nat_lt, List, [], ◌∷◌, ◌++◌, map, flat_map, length, None, refl, sym, ap, ◌∙◌, arith, append_assoc, append-nil}
use Rattle.std.proofs.lemmas.List.Folds.{flat_map-map}
use Rattle.std.proofs.lemmas.Bool.Decides.{nat_tests}
use Rattle.asl_model.specs.declared.validity.VRule.{VRule}
use Rattle.asl_model.specs.declared.validity.VRule.TheVariants.{V1, V2, V4, V5, V6, V7, V8, V9, V10, V11}
use Rattle.asl_model.specs.Machine.{Block, start_of}
use Rattle.asl_model.specs.Blocks.{Nested, Row, nested, blocks, nodes}
use Rattle.asl_model.specs.Valid.{Broken, broken, broken_at, broken_if, broken_in, has_bad_branches, has_bad_care, has_bad_limit, has_inner, has_state, is_lost, is_misnamed, is_too_deep, lacks_after, lacks_choices, shared_names}
use Rattle.asl_valid.specs.Homes.{homes_among, shared_among}
use Rattle.asl_valid.specs.Levels.{Roomy, with_room}
use Rattle.asl_valid.specs.Rules.{bad_start, pairs_in, pairs_of}
use Rattle.asl_valid.proofs.Sharing.{blocks_of, shared_are}

flat_map-same : {X Y : Type 0} (f g : X → List Y) → ((x : X) → f x ≡ g x) → (xs : List X) → flat_map f xs ≡ flat_map g xs
flat_map-same f g h [] = refl
flat_map-same f g h (x ∷ xs) = ap (λ z. z ++ flat_map f xs) (h x) ∙ ap (λ z. g x ++ z) (flat_map-same f g h xs)

abbrev levels : Block → List Roomy
levels root = map with_room (nested root)

-- the pairs of a rule of each block are those of the blocks with their room
pairs_are : (root : Block) (rule : VRule) (f : Nested → Broken) → ((n : Nested) → pairs_in rule (with_room n) ≡ f n) → pairs_of (levels root) rule ≡ flat_map f (nested root)
pairs_are root rule f h = flat_map-map (pairs_in rule) with_room (nested root) ∙ flat_map-same (λ n. pairs_in rule (with_room n)) f h (nested root)

no_room : (d : ℕ) → (8 - d == 0) ≡ nat_lt 8 (d + 1)
no_room d = grind (arith, nat_tests)

blocks_are : (ns : List Nested) → blocks_of (map with_room ns) ≡ map (λ (n : Nested). n.block) ns
blocks_are [] = refl
blocks_are (n ∷ ns) = ap (λ z. n.block ∷ z) (blocks_are ns)

pairs_V8 : (root : Block) → pairs_of (levels root) V8 ≡ broken_at V8 (λ n s. is_too_deep n.depth s) root
pairs_V8 root =
    pairs_are root V8 (λ n. broken_in V8 (λ r. is_too_deep n.depth r.1) n.block)
    (λ n. ap (λ t. broken_in V8 (λ (r : Row). has_inner r.1 && t) n.block) (no_room n.depth))

pairs_V4 : (root : Block) → pairs_of (levels root) V4 ≡ flat_map (λ b. broken_in V4 (λ r. is_misnamed r.0) b) (blocks root)
pairs_V4 root =
    pairs_are root V4 (λ n. broken_in V4 (λ r. is_misnamed r.0) n.block) (λ n. refl)
    ∙ sym (flat_map-map (λ b. broken_in V4 (λ r. is_misnamed r.0) b) (λ (n : Nested). n.block) (nested root))

starts_are : (root : Block) → flat_map bad_start (levels root) ≡ flat_map (λ b. broken_if (not (has_state b (start_of b))) V1 (start_of b)) (blocks root)
starts_are root =
    flat_map-map bad_start with_room (nested root)
    ∙ sym (flat_map-map (λ b. broken_if (not (has_state b (start_of b))) V1 (start_of b)) (λ (n : Nested). n.block) (nested root))

shared_is : (root : Block) → shared_among (λ q. homes_among q 0 None (levels root)) 0 (levels root) ≡ shared_names [] (blocks root)
shared_is root =
    shared_are [] 0 (λ q. homes_among q 0 None (levels root)) (λ q. None) (levels root) (λ q. refl) (λ q. refl)
    ∙ ap (shared_names []) (blocks_are (nested root))

abbrev rest_of : Broken → Broken → Broken → Broken → Broken → Broken → Broken → Broken → Broken → Broken → Broken → Broken
rest_of a1 a2 a3 a4 a5 a6 a7 a8 a9 a10 a11 = a1 ++ a2 ++ a3 ++ a4 ++ a5 ++ a6 ++ a7 ++ a8 ++ a9 ++ a10 ++ a11

joined : (a1 a2 a3 a4 a5 a6 a7 a8 a9 a10 a11 : Broken) →
    [] ++ a1 ++ (a2 ++ []) ++ a3 ++ (a4 ++ (a5 ++ (a6 ++ (a7 ++ (a8 ++ []))))) ++ a9 ++ (a10 ++ (a11 ++ [])) ≡ rest_of a1 a2 a3 a4 a5 a6 a7 a8 a9 a10 a11
joined a1 a2 a3 a4 a5 a6 a7 a8 a9 a10 a11 = simp (append-nil, append_assoc)

-- all parts, one after another
pub whole : (root : Block) (ls : List Roomy) (f0 f1 f2 f3 f4 f5 f6 : Broken) → ls ≡ levels root → f0 ≡ []
    → f1 ≡ f0 ++ flat_map bad_start ls
    → f2 ≡ f1 ++ flat_map (pairs_of ls) (V2 ∷ [])
    → f3 ≡ f2 ++ shared_among (λ q. homes_among q 0 None ls) 0 ls
    → f4 ≡ f3 ++ flat_map (pairs_of ls) (V4 ∷ V5 ∷ V6 ∷ V7 ∷ V8 ∷ [])
    → f5 ≡ f4 ++ broken_if (nat_lt 1000 (length (nodes root))) V9 (start_of root)
    → f6 ≡ f5 ++ flat_map (pairs_of ls) (V10 ∷ V11 ∷ [])
    → f6 ≡ broken root
whole root ls f0 f1 f2 f3 f4 f5 f6 e g0 g1 g2 g3 g4 g5 g6 =
    let ls' = levels root in
    let p5 = pairs_are root V5 (λ n. broken_in V5 (λ r. lacks_after r.1) n.block) (λ n. refl) in
    let p6 = pairs_are root V6 (λ n. broken_in V6 (λ r. lacks_choices r.1) n.block) (λ n. refl) in
    let p7 = pairs_are root V7 (λ n. broken_in V7 (λ r. has_bad_branches r.1) n.block) (λ n. refl) in
    let p2 = pairs_are root V2 (λ n. broken_in V2 (λ r. is_lost n.block r.1) n.block) (λ n. refl) in
    let p10 = pairs_are root V10 (λ n. broken_in V10 (λ r. has_bad_care r.1) n.block) (λ n. refl) in
    let p11 = pairs_are root V11 (λ n. broken_in V11 (λ r. has_bad_limit r.1) n.block) (λ n. refl) in
    let h1 : f1 ≡ [] ++ flat_map bad_start ls' = g1 ∙ ap (λ z. z ++ flat_map bad_start ls) g0 ∙ ap (λ l. [] ++ flat_map bad_start l) e in
    let h2 : f2 ≡ f1 ++ flat_map (pairs_of ls') (V2 ∷ []) = g2 ∙ ap (λ l. f1 ++ flat_map (pairs_of l) (V2 ∷ [])) e in
    let h3 : f3 ≡ f2 ++ shared_among (λ q. homes_among q 0 None ls') 0 ls' = g3 ∙ ap (λ l. f2 ++ shared_among (λ q. homes_among q 0 None l) 0 l) e in
    let h4 : f4 ≡ f3 ++ flat_map (pairs_of ls') (V4 ∷ V5 ∷ V6 ∷ V7 ∷ V8 ∷ []) = g4 ∙ ap (λ l. f3 ++ flat_map (pairs_of l) (V4 ∷ V5 ∷ V6 ∷ V7 ∷ V8 ∷ [])) e in
    let h6 : f6 ≡ f5 ++ flat_map (pairs_of ls') (V10 ∷ V11 ∷ []) = g6 ∙ ap (λ l. f5 ++ flat_map (pairs_of l) (V10 ∷ V11 ∷ [])) e in
    rw (h6, g5, h4, h3, h2, h1) (
    joined (flat_map bad_start ls') (pairs_of ls' V2) (shared_among (λ q. homes_among q 0 None ls') 0 ls') (pairs_of ls' V4) (pairs_of ls' V5) (pairs_of ls' V6) (pairs_of ls' V7) (pairs_of ls' V8) (broken_if (nat_lt 1000 (length (nodes root))) V9 (start_of root)) (pairs_of ls' V10) (pairs_of ls' V11)
    ∙ rw (starts_are root, p2, shared_is root, pairs_V4 root, p5, p6, p7, pairs_V8 root, p10, p11) refl)
