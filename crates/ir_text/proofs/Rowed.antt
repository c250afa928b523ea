-- What stands at a key of an object that was made of rows.
use Rattle.std.proofs.Common.{◌≡◌, Bool, true, false, List, [], ◌∷◌, Option, Some, None, if◌then◌else◌, refl, sym, ap, subst, ◌∙◌, Less, Equal, Greater, Ordering, nat_cmp}
use Rattle.std.proofs.lemmas.Map.Lookups.{exact_bytes}
use Rattle.std.proofs.lemmas.Map.Text.{is_eq-slice_cmp}
use Rattle.std.proofs.lemmas.Slice.Eq.{bytes_eq-Decides}
use Rattle.std.specs.Cmp.Lexicographic.{slice_cmp}
use Rattle.std.specs.Ordering.{match_ordering, is_eq}
use Rattle.std.specs.Str.{bytes_eq}
use Rattle.serde_json.specs.Data.{Data}
use Rattle.serde_json.specs.Find.{get}
use Rattle.unum_json.specs.declared.value.Json.{Json}
use Rattle.unum_json.specs.Keys.{find_key, with_key}
use Rattle.asl_read.specs.Objects.{Key}
use Rattle.ir_text.specs.Printed.{Fields, Row, put_row, with_rows, object_of}
use Rattle.ir_text.proofs.Alike.{Shows, At, at_key}

-- ---------------------------------------------------------------- one field

twice : (b : Bool) (x y z : Option Json) → (if b then x else z) ≡ (if b then x else (if b then y else z))
twice true x y z = refl
twice false x y z = refl

either : (a b : Bool) (x y z : Option Json) → (a ≡ true → b ≡ true → ⊥)
    → (if b then y else (if a then x else z)) ≡ (if a then x else (if b then y else z))
either true true x y z never = absurd (never refl refl)
either true false x y z never = refl
either false true x y z never = refl
either false false x y z never = refl

apart : (key l k : Key) → slice_cmp nat_cmp key l ≡ Greater → bytes_eq key k ≡ true → bytes_eq l k ≡ true → ⊥
apart key l k is a b =
    let same : key ≡ l = (bytes_eq-Decides key k).0 a ∙ sym ((bytes_eq-Decides l k).0 b) in
    let told : is_eq (slice_cmp nat_cmp key l) ≡ true = is_eq-slice_cmp key l ∙ (bytes_eq-Decides key l).1 same in
    let other : false ≡ true = ap is_eq (sym is) ∙ told in
    cc

put_at : (k key : Key) (v : Json) (e : Key × Json) (es : Fields) (o : Ordering) → slice_cmp nat_cmp key e.0 ≡ o
    → find_key k (with_key key v es) ≡ (if bytes_eq key k then Some v else find_key k es)
    → find_key k (match_ordering o ((key, v) ∷ e ∷ es) ((e.0, v) ∷ es)
    (e ∷ with_key key v es)) ≡ (if bytes_eq key k then Some v else find_key k (e ∷ es))
put_at k key v e es Less is later = refl
put_at k key v e es Equal is later =
    twice (bytes_eq e.0 k) (Some v) (Some e.1) (find_key k es)
    ∙ ap (λ (l : Key). if bytes_eq l k then Some v else (if bytes_eq e.0 k then Some e.1 else find_key k es)) (sym
    (exact_bytes key e.0 is))
put_at k key v e es Greater is later =
    ap (λ (x : Option Json). if bytes_eq e.0 k then Some e.1 else x) later
    ∙ either (bytes_eq key k) (bytes_eq e.0 k) (Some v) (Some e.1) (find_key k es) (apart key e.0 k is)

pub find_with : (k key : Key) (v : Json) (fs : Fields) → find_key k (with_key key v fs) ≡ (if bytes_eq key k then Some v else find_key k fs)
find_with k key v [] = refl
find_with k key v (e ∷ es) = put_at k key v e es (slice_cmp nat_cmp key e.0) refl (find_with k key v es)

-- ---------------------------------------------------------------- rows

-- what a row puts over what was there
abbrev pub over : Bool → Option Json → Option Json → Option Json
over false v o = o
over true None o = o
over true (Some v) o = Some v

abbrev pub found : Key → List Row → Option Json → Option Json
found k [] o = o
found k (r ∷ rs) o = found k rs (over (bytes_eq r.0 k) r.1 o)

put_over : (b : Bool) (v : Json) (o : Option Json) → (if b then Some v else o) ≡ over b (Some v) o
put_over true v o = refl
put_over false v o = refl

left_over : (b : Bool) (o : Option Json) → o ≡ over b None o
left_over true o = refl
left_over false o = refl

row_found : (k key : Key) (v : Option Json) (fs : Fields) → find_key k (put_row key v fs) ≡ over (bytes_eq key k) v (find_key k fs)
row_found k key None fs = left_over (bytes_eq key k) (find_key k fs)
row_found k key (Some v) fs = find_with k key v fs ∙ put_over (bytes_eq key k) v (find_key k fs)

pub rows_found : (k : Key) (rs : List Row) (fs : Fields) → find_key k (with_rows fs rs) ≡ found k rs (find_key k fs)
rows_found k [] fs = refl
rows_found k (r ∷ rs) fs = rows_found k rs (put_row r.0 r.1 fs) ∙ ap (found k rs) (row_found k r.0 r.1 fs)

-- what stands at a key of the value of these rows
abbrev pub HasRows : Data → List Row → Type 0
HasRows d rs = (k : Key) → At (get k d) (found k rs None)

pub has_rows : (d : Data) (rs : List Row) → Shows d (object_of rs) → HasRows d rs
has_rows d rs h k = subst (At (get k d)) (rows_found k rs []) (at_key d (with_rows [] rs) k h)

-- a row that may be left out
pub kept : (x : Option Data) (v : Option Json) → At x (over true v None) → At x v
kept x None h = h
kept x (Some v) h = h
