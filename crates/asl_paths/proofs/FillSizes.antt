-- How the sizes of parts add up.
use Rattle.std.proofs.Common.{◌≡◌, ℕ, ◌+◌, ◌-◌, ◌^◌, ◌<◌, ◌≤◌, min, max, nat_le, Bool, true, false, ◌&&◌, List, [], ◌∷◌, length, drop, get_or, map, sum, Option, Some, None, refl, sym, ap, ◌∙◌, arith, rules}
use Rattle.std.specs.List.{fold}
use Rattle.std.specs.Option.{option_map}
use Rattle.std.specs.Prelude.{ℤ}
use Rattle.std.proofs.lemmas.List.{drop_more}
use Rattle.unum_json.specs.declared.value.Json.{Json, Int, Arr, Obj}
use Rattle.unum_json.specs.Tree.{nodes, depth, text_nodes, fields_sum, largest, largest_value, on_values, IsSmall}
use Rattle.unum_json.proofs.Laws.{nodes-Int, depth-Int, nodes-Arr, depth-Arr, nodes-Obj, depth-Obj}
use Rattle.asl_paths.specs.declared.sizing.Size.{Size}
use Rattle.asl_paths.specs.declared.template.Part.{Part, the_lemmas as part_lemmas}
use Rattle.asl_paths.specs.declared.template.Part as part
use Rattle.asl_paths.specs.Filling.{with_first, all_found, at_key, fill_part, fill_parts, fill_fields}
use Rattle.asl_paths.specs.Sizes.{size, value_size, items_size, fields_size, joined, around, is_small_size}

-- ---------------------------------------------------------------- capped sums

-- c is a cap
add_first : (t n s c : ℕ) → min (t + min (n + s) c) c ≡ min (min (t + min n c) c + min s c) c
add_first t n s c = omega arith

add_keyed : (t k n s c : ℕ) → min (t + min (k + n + s) c) c ≡ min (min (t + min (min k c + min n c) c) c + min s c) c
add_keyed t k n s c = omega arith

most_first : (t d l c : ℕ) → max t (min (max d l) c) ≡ max (max t (min d c)) (min l c)
most_first t d l c = omega arith

most_keyed : (t d l c : ℕ) → max t (min (max d l) c) ≡ max (max t (max (min 0 c) (min d c))) (min l c)
most_keyed t d l c = omega arith

add_one : (s c : ℕ) → min (1 + s) c ≡ min (min s c + 1) c
add_one s c = omega arith

one_more : (s c : ℕ) → min (s + 1) c ≡ min (min s c + 1) c
one_more s c = omega arith

none_left : (t c : ℕ) → t ≤ c → min (t + min 0 c) c ≡ t
none_left t c h = omega arith

none_deeper : (t c : ℕ) → max t (min 0 c) ≡ t
none_deeper t c = omega arith

same_size : (a b c d : ℕ) → a ≡ b → c ≡ d → (let x : Size = record { nodes = a; depth = c } in x) ≡ (let y : Size = record { nodes = b; depth = d } in y)
same_size a b c d e f = ap (λ n. let x : Size = record { nodes = n; depth = c } in x) e ∙ ap (λ n. let x : Size = record { nodes = b; depth = n } in x) f

fold_from : (a : ℕ) (xs : List ℕ) → fold ◌+◌ a xs ≡ a + sum xs
fold_from a [] = omega arith
fold_from a (x ∷ xs) = let e : fold ◌+◌ (a + x) xs ≡ (a + x) + sum xs = fold_from (a + x) xs in let f : fold ◌+◌ (0 + x) xs ≡ (0 + x) + sum xs = fold_from (0 + x) xs in omega arith

sum-cons : (x : ℕ) (xs : List ℕ) → sum (x ∷ xs) ≡ x + sum xs
sum-cons x xs = let f : fold ◌+◌ (0 + x) xs ≡ (0 + x) + sum xs = fold_from (0 + x) xs in omega arith

-- ---------------------------------------------------------------- sizes

pub index_size : (n : ℤ) → value_size (Int n) ≡ record { nodes = 1; depth = 0 }
index_size n = same_size _ _ _ _ (ap (λ k. min k (2 ^ 64 - 1)) (nodes-Int n)) (ap (λ k. min k (2 ^ 32 - 1)) (depth-Int n))

pub array_size : (vs : List Json) → value_size (Arr vs) ≡ around (items_size vs)
array_size vs = same_size _ _ _ _
    (ap (λ k. min k (2 ^ 64 - 1)) (nodes-Arr vs) ∙ add_one (sum (map nodes vs)) (2 ^ 64 - 1))
    (ap (λ k. min k (2 ^ 32 - 1)) (depth-Arr vs) ∙ one_more (largest (map depth vs)) (2 ^ 32 - 1))

pub object_size : (fs : List (List ℕ × Json)) → value_size (Obj fs) ≡ around (fields_size fs)
object_size fs = same_size _ _ _ _
    (ap (λ k. min k (2 ^ 64 - 1)) (nodes-Obj fs) ∙ add_one (fields_sum (on_values nodes fs)) (2 ^ 64 - 1))
    (ap (λ k. min k (2 ^ 32 - 1)) (depth-Obj fs) ∙ one_more (largest_value (on_values depth fs)) (2 ^ 32 - 1))

item_first : (t : Size) (v : Json) (vs : List Json) → joined t (items_size (v ∷ vs)) ≡ joined (joined t (value_size v)) (items_size vs)
item_first t v vs = same_size _ _ _ _ (ap (λ n. min (t.nodes + min n (2 ^ 64 - 1)) (2 ^ 64 - 1)) (sum-cons (nodes v) (map nodes vs)) ∙ add_first t.nodes (nodes v) (sum (map nodes vs)) (2 ^ 64 - 1)) (most_first t.depth (depth v) (largest (map depth vs)) (2 ^ 32 - 1))

field_first : (t : Size) (f : List ℕ × Json) (fs : List (List ℕ × Json)) → joined t (fields_size (f ∷ fs)) ≡ joined (joined t (joined (size (text_nodes f.0) 0) (value_size f.1))) (fields_size fs)
field_first t f fs = same_size _ _ _ _ (add_keyed t.nodes (text_nodes f.0) (nodes f.1) (fields_sum (on_values nodes fs)) (2 ^ 64 - 1)) (most_keyed t.depth (depth f.1) (largest_value (on_values depth fs)) (2 ^ 32 - 1))

pub none_joined : (t : Size) → t.nodes ≤ 2 ^ 64 - 1 → joined t (size 0 0) ≡ t
none_joined t h = same_size _ _ _ _ (none_left t.nodes (2 ^ 64 - 1) h) (none_deeper t.depth (2 ^ 32 - 1))

-- ---------------------------------------------------------------- one after another

-- what is still to be found, beside what was counted
abbrev pub counted : {A : Type 0} → (List A → Size) → Size → Option (List A) → Option Size
counted whole t found = option_map (λ xs. joined t (whole xs)) found

module _ {A B : Type 0} (F : List A → List (Option B)) (f : A → Option B) (each : (x : A) (xs : List A) → F (x ∷ xs) ≡ f x ∷ F xs)
    (whole : List B → Size) (own : B → Size) (first : (t : Size) (x : B) (xs : List B) → joined t (whole (x ∷ xs)) ≡ joined (joined t (own x)) (whole xs)) where
  split : (all : List A) (i : ℕ) (item : A) → i < length all → item ≡ get_or all i item → F (drop i all) ≡ f item ∷ F (drop (i + 1) all)
  split all i item lt is = ap F (drop_more all i item lt ∙ ap (λ x. x ∷ drop (i + 1) all) (sym is)) ∙ each item (drop (i + 1) all)

  first_counted : (t : Size) (x : B) (o : Option (List B)) → counted whole t (with_first (Some x) o) ≡ counted whole (joined t (own x)) o
  first_counted t x None = refl
  first_counted t x (Some xs) = ap Some (first t x xs)

  found_size : (t s : Size) (o : Option B) (r : Option (List B)) → Some s ≡ option_map own o → counted whole t (with_first o r) ≡ counted whole (joined t s) r
  found_size t s None r e = absurd (let none : Option Size = None in let g : Some s ≡ none = e in cc)
  found_size t s (Some x) r e = first_counted t x r ∙ ap (λ n. counted whole (joined t n) r) (let g : Some s ≡ Some (own x) = e in let h : own x ≡ s = cc in h)

  pub count_next : (all : List A) (i : ℕ) (item : A) (t s : Size) (total : Option Size) → total ≡ counted whole t (all_found (F (drop i all))) → i < length all → item ≡ get_or all i item → Some s ≡ option_map own (f item)
      → total ≡ counted whole (joined t s) (all_found (F (drop (i + 1) all)))
  count_next all i item t s total so_far lt is e =
      so_far ∙ ap (λ os. counted whole t (all_found os)) (split all i item lt is) ∙ found_size t s (f item) (all_found (F (drop (i + 1) all))) e

  missing : (t : Size) (o : Option B) (r : Option (List B)) → None ≡ option_map own o → counted whole t (with_first o r) ≡ None
  missing t None r e = refl
  missing t (Some x) r e = absurd (let none : Option Size = None in let g : none ≡ Some (own x) = e in cc)

  pub count_missing : (all : List A) (i : ℕ) (item : A) (t : Size) (total : Option Size) → total ≡ counted whole t (all_found (F (drop i all))) → i < length all → item ≡ get_or all i item → None ≡ option_map own (f item) → total ≡ None
  count_missing all i item t total so_far lt is e =
      so_far ∙ ap (λ os. counted whole t (all_found os)) (split all i item lt is) ∙ missing t (f item) (all_found (F (drop (i + 1) all))) e

abbrev pub own_field : List ℕ × Json → Size
own_field f = joined (size (text_nodes f.0) 0) (value_size f.1)

pub items_first : (t : Size) (v : Json) (vs : List Json) → joined t (items_size (v ∷ vs)) ≡ joined (joined t (value_size v)) (items_size vs)
items_first = item_first

pub fields_first : (t : Size) (f : List ℕ × Json) (fs : List (List ℕ × Json)) → joined t (fields_size (f ∷ fs)) ≡ joined (joined t (own_field f)) (fields_size fs)
fields_first = field_first

-- of an object's part
pub fill-Object : (value : Json) (item : Option (Json × ℕ)) (fs : List (List ℕ × Part)) → fill_part value item (part.Object fs) ≡ option_map Obj (fill_fields value item fs)
fill-Object value item fs = search (rules, part_lemmas)

pub fields_around : (o : Option (List (List ℕ × Json))) (s : Size) → Some s ≡ option_map fields_size o → Some (around s) ≡ option_map value_size (option_map Obj o)
fields_around None s e = absurd (let none : Option Size = None in let g : Some s ≡ none = e in cc)
fields_around (Some fs) s e = ap Some (ap around (let g : Some s ≡ Some (fields_size fs) = e in let h : s ≡ fields_size fs = cc in h) ∙ sym (object_size fs))

-- of an array's part
pub fill-Array : (value : Json) (item : Option (Json × ℕ)) (ps : List Part) → fill_part value item (part.Array ps) ≡ option_map Arr (fill_parts value item ps)
fill-Array value item ps = search (rules, part_lemmas)

pub items_around : (o : Option (List Json)) (s : Size) → Some s ≡ option_map items_size o → Some (around s) ≡ option_map value_size (option_map Arr o)
items_around None s e = absurd (let none : Option Size = None in let g : Some s ≡ none = e in cc)
items_around (Some vs) s e = ap Some (ap around (let g : Some s ≡ Some (items_size vs) = e in let h : s ≡ items_size vs = cc in h) ∙ sym (array_size vs))

-- what a field adds, by what its part is filled to
pub field_counted : (k : List ℕ) (s : Size) (o : Option Json) → Some s ≡ option_map value_size o → Some (joined (size (text_nodes k) 0) s) ≡ option_map own_field (at_key (k, o))
field_counted k s None e = absurd (let none : Option Size = None in let g : Some s ≡ none = e in cc)
field_counted k s (Some v) e = ap (λ n. Some (joined (size (text_nodes k) 0) n)) (let g : Some s ≡ Some (value_size v) = e in let h : s ≡ value_size v = cc in h)

pub field_missing : (k : List ℕ) (o : Option Json) → None ≡ option_map value_size o → None ≡ option_map own_field (at_key (k, o))
field_missing k None e = refl
field_missing k (Some v) e = absurd (let none : Option Size = None in let g : none ≡ Some (value_size v) = e in cc)

-- ---------------------------------------------------------------- the limit

both : (a b : Bool) → a && b ≡ true → (a ≡ true) × (b ≡ true)
both true b e = (refl, e)
both false b e = absurd (let f : false ≡ true = e in cc)

le_true : (a b : ℕ) → nat_le a b ≡ true → a ≤ b
le_true a b e = grind arith

true_le : (a b : ℕ) → a ≤ b → nat_le a b ≡ true
true_le a b h = grind arith

join : (a b : Bool) → a ≡ true → b ≡ true → a && b ≡ true
join true b e f = f
join false b e f = absurd (let g : false ≡ true = e in cc)

small_nodes : (n : ℕ) → min n (2 ^ 64 - 1) ≤ 200000 → n ≤ 200000
small_nodes n h = omega arith

small_depth : (n : ℕ) → min n (2 ^ 32 - 1) ≤ 120 → n ≤ 120
small_depth n h = omega arith

capped_nodes : (n : ℕ) → n ≤ 200000 → min n (2 ^ 64 - 1) ≤ 200000
capped_nodes n h = omega arith

capped_depth : (n : ℕ) → n ≤ 120 → min n (2 ^ 32 - 1) ≤ 120
capped_depth n h = omega arith

pub small_by_size : (v : Json) → is_small_size (value_size v) ≡ true → IsSmall v
small_by_size v e =
    let p = both (nat_le (min (nodes v) (2 ^ 64 - 1)) 200000) (nat_le (min (depth v) (2 ^ 32 - 1)) 120) e in
    (small_nodes (nodes v) (le_true _ _ p.0), small_depth (depth v) (le_true _ _ p.1))

pub size_by_small : (v : Json) → IsSmall v → is_small_size (value_size v) ≡ true
size_by_small v s = join _ _ (true_le _ _ (capped_nodes (nodes v) s.0)) (true_le _ _ (capped_depth (depth v) s.1))

-- what is known of a filling by its size
pub filled_size : (found : Option (List (List ℕ × Json))) (s : Size) → Some s ≡ option_map fields_size found → (fs : List (List ℕ × Json)) × (found ≡ Some fs) × (around s ≡ value_size (Obj fs))
filled_size None s e = absurd (let none : Option Size = None in let g : Some s ≡ none = e in cc)
filled_size (Some fs) s e = (fs, refl, ap around (let g : Some s ≡ Some (fields_size fs) = e in let h : s ≡ fields_size fs = cc in h) ∙ sym (object_size fs))

pub filled_none : (found : Option (List (List ℕ × Json))) → None ≡ option_map fields_size found → found ≡ None
filled_none None e = refl
filled_none (Some fs) e = absurd (let none : Option Size = None in let g : none ≡ Some (fields_size fs) = e in cc)
