-- The canonical form of a template's value reads as the same template, and is its own canonical form.
use Rattle.std.proofs.Common.{◌≡◌, ℕ, ◌+◌, ◌<◌, Bool, true, false, List, [], ◌∷◌, ◌++◌, map, take, drop, length, get_or, refl, sym, ap, ◌∙◌, subst, rules, codes, Option, Some, None, Result, Ok, Err, if◌then◌else◌, append_assoc}
use Rattle.std.specs.Prelude.{ℤ, flat_map, option_and_then}
use Rattle.std.specs.Prelude as Prelude
use Rattle.std.specs.List.{AllByRecursion, list_all}
use Rattle.std.specs.Map.{keys_of}
use Rattle.std.specs.Option.{option_map}
use Rattle.std.proofs.lemmas.List.{take_more}
use Rattle.std.specs.Str.{bytes_eq}
use Rattle.unum_json.specs.declared.value.Json.{Json, the_lemmas, Null, Bool as Truth, Int, Str, Arr, Obj, out-Json}
use Rattle.unum_json.specs.declared.value.Json.TheOpen.{Json-F}
use Rattle.unum_json.specs.Keys.{with_key}
use Rattle.unum_json.specs.Whole.{Place, key_step, under, then_ok}
use Rattle.unum_json.proofs.Laws.{each_value, out-Null, out-Bool, out-Int, out-Str, out-Arr, out-Obj}
use Rattle.asl_paths.specs.declared.path.PathStep.{PathStep}
use Rattle.asl_paths.specs.declared.path.PathStep.TheVariants.{Field, Index}
use Rattle.asl_paths.specs.declared.template.Part.{Part}
use Rattle.asl_paths.specs.declared.template.Part as part
use Rattle.asl_paths.specs.Grammar.{Spells, field_text, index_text, step_text, path_text}
use Rattle.asl_paths.specs.Reading.{start, advance, run, finish, path_of}
use Rattle.asl_paths.specs.Standing.{Standing}
use Rattle.asl_paths.specs.Steps.{is_plain_byte, IsPath}
use Rattle.asl_paths.specs.Templates.{path_name, has_key, plain_part, item_part, path_part, Seen, seen_of, all_seen, found_at, path_beside, named_field, read_field, go_on, read_items, read_fields, part_of, parts_of, fields_of, template_of}
use Rattle.asl_paths.specs.Canonical.{text_by, plain_text, into_item, item_text, canonical_text, at_path, value_by, canonical_field, canonical, canonical_items, canonical_fields, IsTemplate}
use Rattle.asl_paths.proofs.Machine.{finish_means}
use Rattle.asl_paths.proofs.Spellings.{path_spelled}
use Rattle.asl_paths.proofs.WholeTexts.{spelled_path, path_of-Spells, start_means, means_after}

-- ---------------------------------------------------------------- paths

abbrev Path : Type 0
Path = List PathStep

-- a text that reads as a path spells it
pub path_spells : (t : List ℕ) (path : Path) → path_of t ≡ Some path → Spells path t
path_spells t path e = by (run start t) refl e
  where
    by : (o : Option Standing) → run start t ≡ o → option_and_then finish o ≡ Some path → Spells path t
    by None is f = absurd (let none : Option Path = None in let g : none ≡ Some path = f in cc)
    by (Some s) is f = finish_means s t path (means_after start s [] t start_means is) f

-- so its canonical text reads as it
pub path_back : (path : Path) → IsPath path → path_of (path_text path) ≡ Some path
path_back path h = path_of-Spells path (path_text path) (path_spelled path h)

pub read_back : (t : List ℕ) (path : Path) → path_of t ≡ Some path → path_of (path_text path) ≡ Some path
read_back t path e = path_back path (spelled_path path t (path_spells t path e))

-- a path's text does not begin as one into an item does
not_step : (s : PathStep) (rest : List ℕ) → (bytes_eq (36 ∷ (step_text s ++ rest)) (codes "$$.Map.Item.Index") ≡ false) × (bytes_eq (take 17 (36 ∷ (step_text s ++ rest))) (codes "$$.Map.Item.Value") ≡ false)
not_step (Field n) rest = by (list_all is_plain_byte n)
  where
    by : (b : Bool) → (bytes_eq (36 ∷ ((if b then codes "." ++ n else codes "['" ++ n ++ codes "']") ++ rest)) (codes "$$.Map.Item.Index") ≡ false)
        × (bytes_eq (take 17 (36 ∷ ((if b then codes "." ++ n else codes "['" ++ n ++ codes "']") ++ rest))) (codes "$$.Map.Item.Value") ≡ false)
    by true = (refl, refl)
    by false = (refl, refl)
not_step (Index i) rest = (refl, refl)

not_item : (path : Path) → (bytes_eq (path_text path) (codes "$$.Map.Item.Index") ≡ false) × (bytes_eq (take 17 (path_text path)) (codes "$$.Map.Item.Value") ≡ false)
not_item [] = (refl, refl)
not_item (s ∷ ss) = not_step s (flat_map step_text ss)

-- ---------------------------------------------------------------- path texts

-- what is read by `read` of the canonical text, where the text is read as `found`
plain_reads : (t : List ℕ) (found : Option Path) → path_of t ≡ found → path_of (text_by t path_text found) ≡ found
plain_reads t None e = e
plain_reads t (Some path) e = read_back t path e

plain_back : (t : List ℕ) → path_of (plain_text t) ≡ path_of t
plain_back t = plain_reads t (path_of t) refl

plain_same : (t : List ℕ) → plain_text (plain_text t) ≡ plain_text t
plain_same t = by (path_of t) refl
  where
    by : (found : Option Path) → path_of t ≡ found → text_by (text_by t path_text found) path_text (path_of (text_by t path_text found)) ≡ text_by t path_text found
    by None e = ap (text_by t path_text) e
    by (Some path) e = ap (text_by (path_text path) path_text) (read_back t path e)

abbrev pick : {A : Type 0} → Bool → Bool → A → A → A → A
pick a b x y z = if a then x else (if b then y else z)

abbrev is_index : List ℕ → Bool
is_index t = bytes_eq t (codes "$$.Map.Item.Index")

abbrev is_value : List ℕ → Bool
is_value t = bytes_eq (take 17 t) (codes "$$.Map.Item.Value")

-- the steps of a path into an item, as a path
abbrev inner : List ℕ → Option Path
inner t = path_of (36 ∷ drop 17 t)

text_at : (t : List ℕ) (a b : Bool) → is_index t ≡ a → is_value t ≡ b → item_text t ≡ pick a b t (text_by t into_item (inner t)) (plain_text t)
text_at t a b i v = ap (λ x. pick x (is_value t) t (text_by t into_item (inner t)) (plain_text t)) i ∙ ap (λ x. pick a x t (text_by t into_item (inner t)) (plain_text t)) v

part_at : (t : List ℕ) (a b : Bool) → is_index t ≡ a → is_value t ≡ b → item_part t ≡ pick a b (Some part.ItemIndex) (option_map part.ItemValue (inner t)) (plain_part t)
part_at t a b i v =
    ap (λ x. pick x (is_value t) (Some part.ItemIndex) (option_map part.ItemValue (inner t)) (plain_part t)) i
    ∙ ap (λ x. pick a x (Some part.ItemIndex) (option_map part.ItemValue (inner t)) (plain_part t)) v

-- a text's canonical form, which reads as the text does and is its own
abbrev Stays : List ℕ → Type 0
Stays t = (item_part (item_text t) ≡ item_part t) × (item_text (item_text t) ≡ item_text t)

as_it_is : (t : List ℕ) → item_text t ≡ t → Stays t
as_it_is t e = (ap item_part e, ap item_text e)

value_stays : (t : List ℕ) → is_index t ≡ false → is_value t ≡ true → Stays t
value_stays t i v = by (inner t) refl
  where
    by : (found : Option Path) → inner t ≡ found → Stays t
    by None e = as_it_is t (text_at t false true i v ∙ ap (text_by t into_item) e)
    by (Some path) e =
        let text : item_text t ≡ into_item path = text_at t false true i v ∙ ap (text_by t into_item) e in
        let back : path_of (path_text path) ≡ Some path = read_back (36 ∷ drop 17 t) path e in (
          ap item_part text ∙ ap (option_map part.ItemValue) back ∙ ap (option_map part.ItemValue) (sym e) ∙ sym (part_at t false true i v),
          ap item_text text ∙ ap (text_by (into_item path) into_item) back ∙ sym text,
        )

plain_stays : (t : List ℕ) → is_index t ≡ false → is_value t ≡ false → Stays t
plain_stays t i v = by (path_of t) refl
  where
    by : (found : Option Path) → path_of t ≡ found → Stays t
    by None e = as_it_is t (text_at t false false i v ∙ ap (text_by t path_text) e)
    by (Some path) e =
        let text : item_text t ≡ path_text path = text_at t false false i v ∙ ap (text_by t path_text) e in
        let back : path_of (path_text path) ≡ Some path = read_back t path e in
        let no = not_item path in (
          ap item_part text ∙ part_at (path_text path) false false no.0 no.1 ∙ ap (option_map part.Found) back ∙ ap (option_map part.Found) (sym e) ∙ sym (part_at t false false i v),
          ap item_text text ∙ text_at (path_text path) false false no.0 no.1 ∙ ap (text_by (path_text path) path_text) back ∙ sym text,
        )

item_stays : (t : List ℕ) → Stays t
item_stays t = by (is_index t) (is_value t) refl refl
  where
    by : (a b : Bool) → is_index t ≡ a → is_value t ≡ b → Stays t
    by true b i v = as_it_is t (text_at t true b i v)
    by false true i v = value_stays t i v
    by false false i v = plain_stays t i v

same_part : (item : Bool) (t : List ℕ) → path_part item (canonical_text item t) ≡ path_part item t
same_part false t = ap (option_map part.Found) (plain_back t)
same_part true t = (item_stays t).0

same_text : (item : Bool) (t : List ℕ) → canonical_text item (canonical_text item t) ≡ canonical_text item t
same_text false t = plain_same t
same_text true t = (item_stays t).1

-- ---------------------------------------------------------------- equations of the folds

pub canonical-Null : (item : Bool) → canonical item Null ≡ Null
canonical-Null item = search (rules, the_lemmas)

pub canonical-Bool : (item : Bool) (b : Bool) → canonical item (Truth b) ≡ Truth b
canonical-Bool item b = search (rules, the_lemmas)

pub canonical-Int : (item : Bool) (n : ℤ) → canonical item (Int n) ≡ Int n
canonical-Int item n = search (rules, the_lemmas)

pub canonical-Str : (item : Bool) (s : List ℕ) → canonical item (Str s) ≡ Str s
canonical-Str item s = search (rules, the_lemmas)

pub canonical-Arr : (item : Bool) (vs : List Json) → canonical item (Arr vs) ≡ Arr (canonical_items item vs)
canonical-Arr item vs = search (rules, the_lemmas)

pub canonical-Obj : (item : Bool) (fs : List (List ℕ × Json)) → canonical item (Obj fs) ≡ Obj (canonical_fields item fs)
canonical-Obj item fs = search (rules, the_lemmas)

seen-Str : (item : Bool) (s : List ℕ) → seen_of item (Str s) ≡ record { text = Some s; part = Ok (part.Constant (Str s)) }
seen-Str item s = search (rules, the_lemmas)

seen-Arr : (item : Bool) (vs : List Json) → seen_of item (Arr vs) ≡ record { text = None; part = then_ok part.Array (parts_of item vs) }
seen-Arr item vs = search (rules, the_lemmas)

seen-Obj : (item : Bool) (fs : List (List ℕ × Json)) → seen_of item (Obj fs) ≡ record { text = None; part = then_ok part.Object (fields_of item fs) }
seen-Obj item fs = search (rules, the_lemmas)

-- ---------------------------------------------------------------- a field

-- what stands at a path's key, where its text was read
abbrev PathReads : Bool → Json → Type 0
PathReads item w = option_and_then (path_part item) (seen_of item (at_path item w (out-Json w))).text ≡ option_and_then (path_part item) (seen_of item w).text

path_reads : (item : Bool) (w : Json) → PathReads item w
path_reads item =
    each_value (PathReads item) (other Null Json-F.Null out-Null refl) (λ b. other (Truth b) (Json-F.Bool b) (out-Bool b) refl) (λ n. other (Int n) (Json-F.Int n) (out-Int n) refl) text
    (λ vs h. other (Arr vs) (Json-F.Arr vs) (out-Arr vs) refl) (λ fs h. other (Obj fs) (Json-F.Obj fs) (out-Obj fs) refl)
  where
    other : (w : Json) (layer : Json-F Json) → out-Json w ≡ layer → at_path item w layer ≡ w → PathReads item w
    other w layer is e = ap (λ x. option_and_then (path_part item) (seen_of item x).text) (ap (at_path item w) is ∙ e)

    text : (s : List ℕ) → PathReads item (Str s)
    text s =
        ap (λ x. option_and_then (path_part item) (seen_of item x).text) (ap (at_path item (Str s)) (out-Str s))
        ∙ ap (λ (x : Seen). option_and_then (path_part item) x.text) (seen-Str item (canonical_text item s)) ∙ same_part item s
        ∙ ap (λ (x : Seen). option_and_then (path_part item) x.text) (sym (seen-Str item s))

abbrev PathStays : Bool → Json → Type 0
PathStays item w = canonical item w ≡ w → at_path item (canonical item (at_path item w (out-Json w))) (out-Json (canonical item (at_path item w (out-Json w)))) ≡ at_path item w (out-Json w)

abbrev put_again : Bool → Json → Json
put_again item x = at_path item (canonical item x) (out-Json (canonical item x))

path_stays : (item : Bool) (w : Json) → PathStays item w
path_stays item =
    each_value (PathStays item) (other Null Json-F.Null out-Null refl) (λ b. other (Truth b) (Json-F.Bool b) (out-Bool b) refl) (λ n. other (Int n) (Json-F.Int n) (out-Int n) refl) text
    (λ vs h. other (Arr vs) (Json-F.Arr vs) (out-Arr vs) refl) (λ fs h. other (Obj fs) (Json-F.Obj fs) (out-Obj fs) refl)
  where
    other : (w : Json) (layer : Json-F Json) → out-Json w ≡ layer → at_path item w layer ≡ w → PathStays item w
    other w layer is e same =
        let here : at_path item w (out-Json w) ≡ w = ap (at_path item w) is ∙ e in
        ap (put_again item) here ∙ ap (λ x. at_path item x (out-Json x)) same

    text : (s : List ℕ) → PathStays item (Str s)
    text s same =
        let t = canonical_text item s in
        let here : at_path item (Str s) (out-Json (Str s)) ≡ Str t = ap (at_path item (Str s)) (out-Str s) in
        ap (put_again item) here ∙ ap (λ x. at_path item x (out-Json x)) (canonical-Str item t) ∙ ap (at_path item (Str t)) (out-Str t) ∙ ap Str (same_text item s) ∙ sym here

-- ---------------------------------------------------------------- what is seen

abbrev SeenSame : Bool → Json → Type 0
SeenSame item v = seen_of item (canonical item v) ≡ seen_of item v

module _ (item : Bool) where
  keys_same : (n : List ℕ) (fs : List (List ℕ × Json)) → has_key n (all_seen item (canonical_fields item fs)) ≡ has_key n (all_seen item fs)
  keys_same n [] = refl
  keys_same n (f ∷ fs) = ap (λ b. Prelude.◌||◌ (bytes_eq f.0 n) b) (keys_same n fs)

  go_same : {A B : Type 0} (k l : A → Result B Place) (r s : Result A Place) → r ≡ s → ((x : A) → k x ≡ l x) → go_on k r ≡ go_on l s
  go_same {A} {B} k l r s e h = ap (go_on k) e ∙ by s
    where
      by : (s : Result A Place) → go_on k s ≡ go_on l s
      by (Ok x) = h x
      by (Err at) = refl

  beside_same : (all other : List (List ℕ × Seen)) (key name : List ℕ) (t u : Option (List ℕ)) → has_key name other ≡ has_key name all → option_and_then (path_part item) u ≡ option_and_then (path_part item) t
      → path_beside item other key u name ≡ path_beside item all key t name
  beside_same all other key name t u has e =
      ap (λ b. if b then Err (key_step key) else found_at (key_step key) (option_and_then (path_part item) u)) has
      ∙ ap (λ o. if has_key name all then Err (key_step key) else found_at (key_step key) o) e

  module _ (all other : List (List ℕ × Seen)) (has : (n : List ℕ) → has_key n other ≡ has_key n all) where
    field_same : (f : List ℕ × Json) → SeenSame item f.1
        → read_field item other (f.0, seen_of item (value_by item (canonical item f.1) (path_name f.0))) ≡ read_field item all (f.0, seen_of item f.1)
    field_same f h = by (path_name f.0)
      where
        by : (name : Option (List ℕ)) → named_field item other (f.0, seen_of item (value_by item (canonical item f.1) name)) name ≡ named_field item all (f.0, seen_of item f.1) name
        by None = ap (λ (x : Seen). then_ok (λ p. (f.0, p)) (under (key_step f.0) x.part)) h
        by (Some name) =
            let w = canonical item f.1 in
            ap (then_ok (λ p. (name, p))) (beside_same all other f.0 name (seen_of item f.1).text (seen_of item (at_path item w (out-Json w))).text (has name)
            (path_reads item w ∙ ap (λ (x : Seen). option_and_then (path_part item) x.text) h))

    fields_same : (fs : List (List ℕ × Json)) → AllByRecursion (λ f. SeenSame item f.1) fs → (made : List (List ℕ × Part))
        → read_fields item other (all_seen item (canonical_fields item fs)) made ≡ read_fields item all (all_seen item fs) made
    fields_same [] h made = refl
    fields_same (f ∷ fs) h made = go_same _ _ _ _ (field_same f h.0) (λ p. fields_same fs h.1 (with_key p.0 p.1 made))

  object_same : (fs : List (List ℕ × Json)) → AllByRecursion (λ f. SeenSame item f.1) fs → fields_of item (canonical_fields item fs) ≡ fields_of item fs
  object_same fs h = fields_same (all_seen item fs) (all_seen item (canonical_fields item fs)) (λ n. keys_same n fs) fs h []

  items_same : (vs : List Json) → AllByRecursion (SeenSame item) vs → map (seen_of item) (canonical_items item vs) ≡ map (seen_of item) vs
  items_same [] h = refl
  items_same (v ∷ vs) h = ap (λ x. x ∷ map (seen_of item) (canonical_items item vs)) h.0 ∙ ap (λ xs. seen_of item v ∷ xs) (items_same vs h.1)

  abbrev an_array : List Seen → Seen
  an_array xs = record { text = None; part = then_ok part.Array (read_items 0 (map (λ (x : Seen). x.part) xs)) }

  abbrev an_object : Result (List (List ℕ × Part)) Place → Seen
  an_object r = record { text = None; part = then_ok part.Object r }

  seen_same : (v : Json) → SeenSame item v
  seen_same =
      each_value (SeenSame item) (ap (seen_of item) (canonical-Null item)) (λ b. ap (seen_of item) (canonical-Bool item b)) (λ n. ap (seen_of item) (canonical-Int item n)) (λ s. ap (seen_of item) (canonical-Str item s))
      (λ vs h. ap (seen_of item) (canonical-Arr item vs) ∙ seen-Arr item (canonical_items item vs) ∙ ap an_array (items_same vs h) ∙ sym (seen-Arr item vs))
      (λ fs h. ap (seen_of item) (canonical-Obj item fs) ∙ seen-Obj item (canonical_fields item fs) ∙ ap an_object (object_same fs h) ∙ sym (seen-Obj item fs))

  all_seen_same : (fs : List (List ℕ × Json)) → AllByRecursion (λ f. SeenSame item f.1) fs
  all_seen_same [] = tt
  all_seen_same (f ∷ fs) = (seen_same f.1, all_seen_same fs)

-- ---------------------------------------------------------------- its own canonical form

abbrev Kept : Bool → Json → Type 0
Kept item v = canonical item (canonical item v) ≡ canonical item v

module _ (item : Bool) where
  kept_items : (vs : List Json) → AllByRecursion (Kept item) vs → canonical_items item (canonical_items item vs) ≡ canonical_items item vs
  kept_items [] h = refl
  kept_items (v ∷ vs) h = ap (λ x. x ∷ canonical_items item (canonical_items item vs)) h.0 ∙ ap (λ xs. canonical item v ∷ xs) (kept_items vs h.1)

  kept_value : (v : Json) (name : Option (List ℕ)) → Kept item v → value_by item (canonical item (value_by item (canonical item v) name)) name ≡ value_by item (canonical item v) name
  kept_value v None h = h
  kept_value v (Some name) h = path_stays item (canonical item v) h

  kept_fields : (fs : List (List ℕ × Json)) → AllByRecursion (λ f. Kept item f.1) fs → canonical_fields item (canonical_fields item fs) ≡ canonical_fields item fs
  kept_fields [] h = refl
  kept_fields (f ∷ fs) h =
      ap (λ x. (f.0, x) ∷ canonical_fields item (canonical_fields item fs)) (kept_value f.1 (path_name f.0) h.0)
      ∙ ap (λ xs. (f.0, value_by item (canonical item f.1) (path_name f.0)) ∷ xs) (kept_fields fs h.1)

  again : (v w : Json) → canonical item v ≡ w → canonical item w ≡ w → Kept item v
  again v w e f = ap (canonical item) e ∙ f ∙ sym e

  pub kept : (v : Json) → Kept item v
  kept =
      each_value (Kept item) (again Null Null (canonical-Null item) (canonical-Null item)) (λ b. again (Truth b) (Truth b) (canonical-Bool item b) (canonical-Bool item b))
      (λ n. again (Int n) (Int n) (canonical-Int item n) (canonical-Int item n)) (λ s. again (Str s) (Str s) (canonical-Str item s) (canonical-Str item s))
      (λ vs h. again (Arr vs) (Arr (canonical_items item vs)) (canonical-Arr item vs) (canonical-Arr item (canonical_items item vs) ∙ ap Arr (kept_items vs h)))
      (λ fs h. again (Obj fs) (Obj (canonical_fields item fs)) (canonical-Obj item fs) (canonical-Obj item (canonical_fields item fs) ∙ ap Obj (kept_fields fs h)))

-- ---------------------------------------------------------------- fields, one by one

items-append : (item : Bool) (xs ys : List Json) → canonical_items item (xs ++ ys) ≡ canonical_items item xs ++ canonical_items item ys
items-append item [] ys = refl
items-append item (x ∷ xs) ys = ap (λ r. canonical item x ∷ r) (items-append item xs ys)

pub item_added : (item : Bool) (all made : List Json) (i : ℕ) (x v : Json) → made ≡ canonical_items item (take i all) → i < length all → x ≡ get_or all i x → v ≡ canonical item x
    → made ++ v ∷ [] ≡ canonical_items item (take (i + 1) all)
item_added item all made i x v so_far lt is e =
    ap (λ m. m ++ v ∷ []) so_far ∙ ap (λ z. canonical_items item (take i all) ++ z ∷ []) e ∙ sym (items-append item (take i all) (x ∷ []))
    ∙ ap (canonical_items item) (ap (λ z. take i all ++ z ∷ []) is ∙ sym (take_more all i x lt))

pub keys_kept : (item : Bool) (fs : List (List ℕ × Json)) → keys_of (canonical_fields item fs) ≡ keys_of fs
keys_kept item [] = refl
keys_kept item (f ∷ fs) = ap (λ ks. f.0 ∷ ks) (keys_kept item fs)

fields-append : (item : Bool) (fs gs : List (List ℕ × Json)) → canonical_fields item (fs ++ gs) ≡ canonical_fields item fs ++ canonical_fields item gs
fields-append item [] gs = refl
fields-append item (f ∷ fs) gs = ap (λ hs. (f.0, value_by item (canonical item f.1) (path_name f.0)) ∷ hs) (fields-append item fs gs)

pub field_added : (item : Bool) (all made : List (List ℕ × Json)) (i : ℕ) (f : List ℕ × Json) (v : Json) → made ≡ canonical_fields item (take i all) → i < length all → f ≡ get_or all i f
    → v ≡ value_by item (canonical item f.1) (path_name f.0) → made ++ (f.0, v) ∷ [] ≡ canonical_fields item (take (i + 1) all)
field_added item all made i f v so_far lt is e =
    ap (λ m. m ++ (f.0, v) ∷ []) so_far ∙ ap (λ x. canonical_fields item (take i all) ++ (f.0, x) ∷ []) e ∙ sym (fields-append item (take i all) (f ∷ []))
    ∙ ap (canonical_fields item) (ap (λ x. take i all ++ x ∷ []) is ∙ sym (take_more all i f lt))

-- ---------------------------------------------------------------- templates

template-Obj : (item : Bool) (fs : List (List ℕ × Json)) → template_of item (Obj fs) ≡ fields_of item fs
template-Obj item fs = search (rules, the_lemmas)

-- what was read of an object is a template of its canonical form
pub is_template : (item : Bool) (fs : List (List ℕ × Json)) (parts : List (List ℕ × Part)) → fields_of item fs ≡ Ok parts → IsTemplate parts item (canonical item (Obj fs))
is_template item fs parts e = record {
  read = ap (template_of item) (canonical-Obj item fs) ∙ template-Obj item (canonical_fields item fs) ∙ object_same item fs (all_seen_same item fs) ∙ e;
  same = kept item (Obj fs);
}

no_template : (r : Result (List (List ℕ × Part)) Place) (parts : List (List ℕ × Part)) → r ≡ Err [] → r ≡ Ok parts → ⊥
no_template r parts n e = let f : Err [] ≡ Ok parts = sym n ∙ e in cc

-- a value that reads as a template
pub whole_template : (item : Bool) (v : Json) (parts : List (List ℕ × Part)) → template_of item v ≡ Ok parts → IsTemplate parts item (canonical item v)
whole_template item v parts =
    each_value (λ z. template_of item z ≡ Ok parts → IsTemplate parts item (canonical item z))
    (λ e. absurd (no_template (template_of item Null) parts (search (rules, the_lemmas)) e))
    (λ b e. absurd (no_template (template_of item (Truth b)) parts (search (rules, the_lemmas)) e))
    (λ n e. absurd (no_template (template_of item (Int n)) parts (search (rules, the_lemmas)) e))
    (λ s e. absurd (no_template (template_of item (Str s)) parts (search (rules, the_lemmas)) e))
    (λ vs h e. absurd (no_template (template_of item (Arr vs)) parts (search (rules, the_lemmas)) e))
    (λ fs h e. is_template item fs parts (sym (template-Obj item fs) ∙ e))
    v

pub empty_template : (item : Bool) → IsTemplate [] item (Obj [])
empty_template item = record { read = template-Obj item []; same = canonical-Obj item [] }
