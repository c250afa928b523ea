-- Members as pairs and as a tree.
use Rattle.std.proofs.Common.{◌≡◌, ℕ, suc, ◌-◌, List, [], ◌∷◌, ◌++◌, map, length, slice_get, Some, None, String, Global, Ordering, Less, Equal, Greater, string_bytes, string_cmp, nat_cmp, refl, sym, ap, ◌∙◌, subst, append_assoc, arith}
use Rattle.std.proofs.lemmas.Cmp.{nat_list_cmp_total}
use Rattle.std.proofs.lemmas.List.{map-append, append-nil}
use Rattle.std.proofs.lemmas.Option.{same_Some}
use Rattle.std.specs.BTreeMap.{insert_entry}
use Rattle.std.specs.Cmp.Lexicographic.{slice_cmp}
use Rattle.std.specs.List.{AllByRecursion}
use Rattle.std.specs.List.Sorted.{IsStrictlySortedBy}
use Rattle.std.specs.Map.{keys_of}
use Rattle.std.specs.Ordering.{match_ordering, ordering_reverse}
use Rattle.serde_json.specs.Data.{member, put}
use Rattle.unum_json.specs.declared.parsed.Value.{Value}
use Rattle.unum_json.specs.Gathered.{tree_view}
use Rattle.unum_json.specs.Keys.{IsRising}
use Rattle.unum_json.specs.Parsed.{view, members_view}
use Rattle.unum_json.proofs.Rising.{rising_front}
use Rattle.unum_json.proofs.Views.{Entry}

abbrev pub Entries : Type 0
Entries = List (String Global × Value)

-- ---- what is put into a tree

by_cases : (o : Ordering) (a b c : Entries) → tree_view (match_ordering o a b c) ≡ match_ordering o (tree_view a) (tree_view b) (tree_view c)
by_cases Less a b c = refl
by_cases Equal a b c = refl
by_cases Greater a b c = refl

pub tree_view-insert_entry : (es : Entries) (k : String Global) (v : Value) → tree_view (insert_entry string_cmp es k v) ≡ put (string_bytes k) (view v) (tree_view es)
tree_view-insert_entry [] k v = refl
tree_view-insert_entry (e ∷ es) k v = by_cases (string_cmp k e.0) _ _ _ ∙ rw (tree_view-insert_entry es k v)

below_middle : (first : Entry) (es : List Entry) (e : Entry) (more : List Entry) → AllByRecursion (λ y. slice_cmp nat_cmp first.0 y ≡ Less) (keys_of (es ++ e ∷ more)) → slice_cmp nat_cmp first.0 e.0 ≡ Less
below_middle first [] e more h = h.0
below_middle first (x ∷ es) e more h = below_middle first es e more h.1

-- a key that is above those before it goes last
pub put_last : (done : List Entry) (e : Entry) (more : List Entry) → IsRising (keys_of (done ++ e ∷ more)) → put e.0 (view e.1) (members_view done) ≡ members_view (done ++ e ∷ [])
unfolding IsStrictlySortedBy
put_last [] e more h = refl
put_last (first ∷ done) e more h =
    let above : slice_cmp nat_cmp e.0 first.0 ≡ Greater = nat_list_cmp_total.antisymm e.0 first.0 ∙ ap ordering_reverse (below_middle first done e more h.0) in
    rw above (ap (member first.0 (view first.1)) (put_last done e more h.1))

-- the first pairs are in the tree, and the others are left
abbrev pub IsOnItsWay : List Entry → List Entry → Entries → Type 0
IsOnItsWay all left es = (done : List Entry) × (all ≡ done ++ left) × (tree_view es ≡ members_view done)

pub one_more : (all rest left : List Entry) (es es' : Entries) (e : Entry) (k : String Global) → IsRising (keys_of all) → IsOnItsWay all rest es → rest ≡ e ∷ left
    → es' ≡ insert_entry string_cmp es k e.1 → string_bytes k ≡ e.0 → IsOnItsWay all left es'
one_more all rest left es es' e k rising way is made key =
    let whole : all ≡ way.0 ++ e ∷ left = way.1 ∙ ap (λ r. way.0 ++ r) is in (
      way.0 ++ e ∷ [],
      whole ∙ sym (append_assoc way.0 (e ∷ []) left),
      ap tree_view made ∙ tree_view-insert_entry es k e.1 ∙ ap (λ n. put n (view e.1) (tree_view es)) key ∙ ap (put e.0 (view e.1)) way.2
          ∙ put_last way.0 e left (subst (λ xs. IsRising (keys_of xs)) whole rising),
    )

pub all_in : (all left : List Entry) (es : Entries) → IsOnItsWay all left es → left ≡ [] → tree_view es ≡ members_view all
all_in all left es way none = way.2 ∙ ap members_view (sym (way.1 ∙ ap (λ r. way.0 ++ r) none ∙ append-nil way.0))

-- ---- what is taken out of a tree

-- the entries of a tree as pairs
abbrev pub pairs : Entries → List Entry
pairs es = map (λ e. (string_bytes e.0, e.1)) es

pub pairs_view : (es : Entries) → members_view (pairs es) ≡ tree_view es
pairs_view [] = refl
pairs_view (e ∷ es) = ap (member (string_bytes e.0) (view e.1)) (pairs_view es)

all_names : (k : String Global) (es : Entries) → AllByRecursion (λ y. string_cmp k y ≡ Less) (keys_of es) → AllByRecursion (λ y. slice_cmp nat_cmp (string_bytes k) y ≡ Less) (keys_of (pairs es))
all_names k [] h = tt
all_names k (e ∷ es) h = (h.0, all_names k es h.1)

-- the keys of a tree rise
pub rising_pairs : (es : Entries) → IsStrictlySortedBy string_cmp (keys_of es) → IsRising (keys_of (pairs es))
unfolding IsStrictlySortedBy
rising_pairs [] h = tt
rising_pairs (e ∷ es) h = (all_names e.0 es h.0, rising_pairs es h.1)

pub one_pair : (found : List Entry) (rest left : Entries) (e : String Global × Value) (k : List ℕ) (all : List Entry) → all ≡ found ++ pairs rest → rest ≡ e ∷ left → k ≡ string_bytes e.0
    → all ≡ (found ++ (k, e.1) ∷ []) ++ pairs left
one_pair found rest left e k all so_far is key =
    so_far ∙ ap (λ es. found ++ pairs es) is ∙ ap (λ n. found ++ (n, e.1) ∷ pairs left) (sym key) ∙ sym (append_assoc found ((k, e.1) ∷ []) (pairs left))

pub rising_so_far : (found : List Entry) (left : List Entry) (all : List Entry) → all ≡ found ++ left → IsRising (keys_of all) → IsRising (keys_of found)
rising_so_far found left all is h =
    rising_front (keys_of found) (keys_of left) (subst IsRising (ap keys_of is ∙ map-append (λ (e : Entry). e.0) found left) h)

-- ---- a key above the last one

-- the last of two or more is the last of those behind the first
last_later : (x y : Entry) (es : List Entry) → slice_get (x ∷ y ∷ es) (length (x ∷ y ∷ es) - 1) ≡ slice_get (y ∷ es) (length (y ∷ es) - 1)
last_later x y es =
    let two : length (x ∷ y ∷ es) - 1 ≡ suc (length es) = omega arith in
    let one : length (y ∷ es) - 1 ≡ length es = omega arith in
    ap (slice_get (x ∷ y ∷ es)) two ∙ ap (slice_get (y ∷ es)) (sym one)

all_below : (x : List ℕ) (es : List Entry) (last : Entry) (k : List ℕ) → AllByRecursion (λ y. slice_cmp nat_cmp x y ≡ Less) (keys_of es) → slice_get es (length es - 1) ≡ Some last → slice_cmp nat_cmp last.0 k ≡ Less
    → AllByRecursion (λ y. slice_cmp nat_cmp x y ≡ Less) (keys_of es ++ k ∷ [])
all_below x [] last k h is lt = absurd (cc)
all_below x (y ∷ []) last k h is lt = (h.0, (nat_list_cmp_total.trans x y.0 k h.0 (subst (λ (e : Entry). slice_cmp nat_cmp e.0 k ≡ Less) (sym (same_Some y last is)) lt), tt))
all_below x (y ∷ z ∷ es) last k h is lt = (h.0, all_below x (z ∷ es) last k h.1 (sym (last_later y z es) ∙ is) lt)

pub rising_last : (es : List Entry) (last : Entry) (k : List ℕ) → IsRising (keys_of es) → slice_get es (length es - 1) ≡ Some last → slice_cmp nat_cmp last.0 k ≡ Less → IsRising (keys_of es ++ k ∷ [])
unfolding IsStrictlySortedBy
rising_last [] last k h is lt = absurd (cc)
rising_last (y ∷ []) last k h is lt = ((subst (λ (e : Entry). slice_cmp nat_cmp e.0 k ≡ Less) (sym (same_Some y last is)) lt, tt), (tt, tt))
rising_last (y ∷ z ∷ es) last k h is lt = (all_below y.0 (z ∷ es) last k h.0 (sym (last_later y z es) ∙ is) lt, rising_last (z ∷ es) last k h.1 (sym (last_later y z es) ∙ is) lt)

pub rising_first : (es : List Entry) (k : List ℕ) → slice_get es (length es - 1) ≡ None → IsRising (keys_of es ++ k ∷ [])
unfolding IsStrictlySortedBy
rising_first [] k none = (tt, tt)
rising_first (y ∷ []) k none = absurd (cc)
rising_first (y ∷ z ∷ es) k none = absurd (some_last y (z ∷ es) none)
  where
    some_last : (x : Entry) (es : List Entry) → slice_get (x ∷ es) (length (x ∷ es) - 1) ≡ None → ⊥
    some_last x [] e = absurd (cc)
    some_last x (y ∷ es) e = some_last y es (sym (last_later x y es) ∙ e)

pub keys_more : (es : List Entry) (k : List ℕ) (v : Value) → IsRising (keys_of es ++ k ∷ []) → IsRising (keys_of (es ++ (k, v) ∷ []))
keys_more es k v h = subst IsRising (sym (map-append (λ (e : Entry). e.0) es ((k, v) ∷ []))) h
