-- What paths find after a put.
use Rattle.std.proofs.Common.{◌≡◌, ◌≢◌, ℕ, ◌<◌, ◌≤◌, rules, Bool, true, false, List, [], ◌∷◌, ◌++◌, Option, Some, None, length, get_or, Less, Equal, Greater, Ordering, nat_cmp, refl, sym, ap, subst, ◌∙◌, inl, inr, if◌then◌else◌}
use Rattle.std.proofs.Math.ListN.{length-set}
use Rattle.std.proofs.lemmas.List.{get_or-set_same, get_or-set_other}
use Rattle.std.proofs.lemmas.Map.Lookups.{exact_bytes}
use Rattle.std.proofs.lemmas.Map.Text.{is_eq-slice_cmp}
use Rattle.std.proofs.lemmas.Option.{slice_get_within, slice_get_read, slice_get_cases, slice_get_past}
use Rattle.std.proofs.lemmas.Slice.Eq.{bytes_eq-Decides}
use Rattle.std.specs.Cmp.Lexicographic.{slice_cmp}
use Rattle.std.specs.Option.{option_map}
use Rattle.std.specs.Ordering.{match_ordering, is_eq}
use Rattle.std.specs.Prelude.{◌⊎◌, option_and_then, slice_get, slice_set}
use Rattle.std.specs.Str.{bytes_eq}
use Rattle.unum_json.specs.declared.value.Json.{Json, out-Json, the_lemmas}
use Rattle.unum_json.specs.declared.value.Json as json
use Rattle.unum_json.specs.declared.value.Json.TheOpen.{Json-F}
use Rattle.unum_json.specs.Keys.{find_key, with_key}
use Rattle.asl_paths.specs.declared.path.PathStep.{PathStep}
use Rattle.asl_paths.specs.declared.path.PathStep.TheVariants.{Field, Index}
use Rattle.asl_paths.specs.Laws.{Part}
use Rattle.asl_paths.specs.Lookup.{step_at, step_to, get, from_nothing, put_part, put_step, put}

abbrev Name : Type 0
Name = List ℕ

abbrev Fields : Type 0
Fields = List (Name × Json)

same_name : (a b : Name) → a ≡ b → bytes_eq a b ≡ true
same_name a b e = (bytes_eq-Decides a b).1 e

other_name : (a b : Name) → a ≢ b → bytes_eq a b ≡ false
other_name a b ne = by (bytes_eq a b) refl
  where
    by : (t : Bool) → bytes_eq a b ≡ t → t ≡ false
    by true e = absurd (ne ((bytes_eq-Decides a b).0 e))
    by false e = refl

-- what a test on names leads to
if_same : {A : Type 0} (a b : Name) (x y : A) → a ≡ b → (if bytes_eq a b then x else y) ≡ x
if_same a b x y e = rw (same_name a b e) refl

if_other : {A : Type 0} (a b : Name) (x y : A) → a ≢ b → (if bytes_eq a b then x else y) ≡ y
if_other a b x y ne = rw (other_name a b ne) refl

cmp_same : (a b : Name) → a ≡ b → slice_cmp nat_cmp a b ≡ Equal
cmp_same a b e = by (slice_cmp nat_cmp a b) refl
  where
    told : is_eq (slice_cmp nat_cmp a b) ≡ true
    told = is_eq-slice_cmp a b ∙ same_name a b e

    by : (o : Ordering) → slice_cmp nat_cmp a b ≡ o → o ≡ Equal
    by Less is = absurd (let f : false ≡ true = sym (ap is_eq is) ∙ told in cc)
    by Equal is = refl
    by Greater is = absurd (let f : false ≡ true = sym (ap is_eq is) ∙ told in cc)

found_at_key : (k : Name) (v : Json) (e : Name × Json) (es : Fields) (o : Ordering) → slice_cmp nat_cmp k e.0 ≡ o → find_key k (with_key k v es) ≡ Some v
    → find_key k (match_ordering o ((k, v) ∷ e ∷ es) ((e.0, v) ∷ es) (e ∷ with_key k v es)) ≡ Some v
found_at_key k v e es Less is later = if_same k k (Some v) (find_key k (e ∷ es)) refl
found_at_key k v e es Equal is later = if_same e.0 k (Some v) (find_key k es) (sym (exact_bytes k e.0 is))
found_at_key k v e es Greater is later =
    if_other e.0 k (Some e.1) (find_key k (with_key k v es)) (λ same. let f : Greater ≡ Equal = sym is ∙ cmp_same k e.0 (sym same) in cc) ∙ later

find_put_key : (k : Name) (v : Json) (fs : Fields) → find_key k (with_key k v fs) ≡ Some v
find_put_key k v [] = if_same k k (Some v) None refl
find_put_key k v (e ∷ es) = found_at_key k v e es (slice_cmp nat_cmp k e.0) refl (find_put_key k v es)

skipped_at_key : (k other : Name) (v : Json) (e : Name × Json) (es : Fields) (o : Ordering) → k ≢ other → slice_cmp nat_cmp k e.0 ≡ o → find_key other (with_key k v es) ≡ find_key other es
    → find_key other (match_ordering o ((k, v) ∷ e ∷ es) ((e.0, v) ∷ es) (e ∷ with_key k v es)) ≡ find_key other (e ∷ es)
skipped_at_key k other v e es Less ne is later = if_other k other (Some v) (find_key other (e ∷ es)) ne
skipped_at_key k other v e es Equal ne is later =
    let no : e.0 ≢ other = λ same. ne (exact_bytes k e.0 is ∙ same) in
    if_other e.0 other (Some v) (find_key other es) no ∙ sym (if_other e.0 other (Some e.1) (find_key other es) no)
skipped_at_key k other v e es Greater ne is later = ap (λ (f : Option Json). if bytes_eq e.0 other then Some e.1 else f) later

find_other_key : (k other : Name) (v : Json) (fs : Fields) → k ≢ other → find_key other (with_key k v fs) ≡ find_key other fs
find_other_key k other v [] ne = if_other k other (Some v) None ne
find_other_key k other v (e ∷ es) ne = skipped_at_key k other v e es (slice_cmp nat_cmp k e.0) ne refl (find_other_key k other v es ne)

find_put_item : (vs : List Json) (i : ℕ) (old v : Json) → slice_get vs i ≡ Some old → slice_get (slice_set vs i v) i ≡ Some v
find_put_item vs i old v is =
    let within : i < length vs = slice_get_within vs i old is in
    slice_get_read (slice_set vs i v) (length vs) i v (sym (length-set vs i v)) within (sym (get_or-set_same vs i v v within))

find_other_item : (vs : List Json) (i j : ℕ) (v : Json) → i ≢ j → slice_get (slice_set vs i v) j ≡ slice_get vs j
find_other_item vs i j v ne = by (slice_get_cases vs j).1
  where
    by : ((x : Json) × (j < length vs) × (slice_get vs j ≡ Some x) × (get_or vs j x ≡ x)) ⊎ ((length vs ≤ j) × (slice_get vs j ≡ None)) → slice_get (slice_set vs i v) j ≡ slice_get vs j
    by (inl h) =
        slice_get_read (slice_set vs i v) (length vs) j h.0 (sym (length-set vs i v)) h.1 (sym (get_or-set_other vs i j v h.0 (λ e. ne (sym e)) ∙ h.3)) ∙ sym h.2
    by (inr h) = slice_get_past (slice_set vs i v) j (subst (λ n. n ≤ j) (sym (length-set vs i v)) h.0) ∙ sym h.1

out-Obj : (fs : Fields) → out-Json (json.Obj fs) ≡ Json-F.Obj fs
out-Obj fs = search (rules, the_lemmas)

out-Arr : (vs : List Json) → out-Json (json.Arr vs) ≡ Json-F.Arr vs
out-Arr vs = search (rules, the_lemmas)

none_is_some : {A B : Type 0} (x : A) → let none : Option A = None in none ≡ Some x → B
none_is_some x e = absurd (cc)

-- what a mapped value comes from
from_map : (f : Json → Json) (o : Option Json) (after : Json) → option_map f o ≡ Some after → (v : Json) × (o ≡ Some v) × (f v ≡ after)
from_map f None after e = none_is_some after e
from_map f (Some v) after e = (v, refl, let g : Some (f v) ≡ Some after = e in let h : f v ≡ after = cc in h)

from_then : (f : Json → Option Json) (o : Option Json) (v : Json) → option_and_then f o ≡ Some v → (x : Json) × (o ≡ Some x) × (f x ≡ Some v)
from_then f None v e = none_is_some v e
from_then f (Some x) v e = (x, refl, e)

in_object : (k : Name) (fs : Fields) → step_to (Field k) (json.Obj fs) ≡ find_key k fs
in_object k fs = ap (step_at (Field k)) (out-Obj fs)

in_array : (i : ℕ) (vs : List Json) → step_to (Index i) (json.Arr vs) ≡ slice_get vs i
in_array i vs = ap (step_at (Index i)) (out-Arr vs)

-- what a step does in a put: it finds a part and puts into it, or makes one anew, and the step finds that then
pub record StepPuts (s : PathStep) (y : Json-F Json) (into : Json → Option Json) (anew : Option Json) (after : Json) : Type 0 where
  pub made : Json
  pub found : step_to s after ≡ Some made
  pub from : ((old : Json) × (step_at s y ≡ Some old) × (into old ≡ Some made)) ⊎ ((step_at s y ≡ None) × (anew ≡ Some made))
  pub others : (t : PathStep) → s ≢ t → step_to t after ≡ step_at t y

part_from : (into : Json → Option Json) (anew o : Option Json) (v : Json) → put_part into anew o ≡ Some v
    → ((old : Json) × (o ≡ Some old) × (into old ≡ Some v)) ⊎ ((o ≡ None) × (anew ≡ Some v))
part_from into anew (Some old) v e = inl (old, refl, e)
part_from into anew None v e = inr (refl, e)

others_of_object : (k : Name) (v : Json) (fs : Fields) (t : PathStep) → Field k ≢ t → step_to t (json.Obj (with_key k v fs)) ≡ step_at t (Json-F.Obj fs)
others_of_object k v fs (Field other) ne = in_object other (with_key k v fs) ∙ find_other_key k other v fs (λ e. ne (ap Field e))
others_of_object k v fs (Index j) ne = ap (step_at (Index j)) (out-Obj (with_key k v fs))

others_of_array : (i : ℕ) (v : Json) (vs : List Json) (t : PathStep) → Index i ≢ t → step_to t (json.Arr (slice_set vs i v)) ≡ step_at t (Json-F.Arr vs)
others_of_array i v vs (Field other) ne = ap (step_at (Field other)) (out-Arr (slice_set vs i v))
others_of_array i v vs (Index j) ne = in_array j (slice_set vs i v) ∙ find_other_item vs i j v (λ e. ne (ap Index e))

step_puts : (s : PathStep) (y : Json-F Json) (into : Json → Option Json) (anew : Option Json) (after : Json) → put_step s y into anew ≡ Some after → StepPuts s y into anew after
step_puts (Field k) (Json-F.Obj fs) into anew after e =
    let m = from_map (λ v. json.Obj (with_key k v fs)) (put_part into anew (find_key k fs)) after e in
    record {
      made = m.0;
      found = ap (step_to (Field k)) (sym m.2) ∙ in_object k (with_key k m.0 fs) ∙ find_put_key k m.0 fs;
      from = part_from into anew (find_key k fs) m.0 m.1;
      others = λ t ne. ap (step_to t) (sym m.2) ∙ others_of_object k m.0 fs t ne;
    }
step_puts (Index i) (Json-F.Arr vs) into anew after e =
    let m = from_map (λ v. json.Arr (slice_set vs i v)) (option_and_then into (slice_get vs i)) after e in
    let o = from_then into (slice_get vs i) m.0 m.1 in
    record {
      made = m.0;
      found = ap (step_to (Index i)) (sym m.2) ∙ in_array i (slice_set vs i m.0) ∙ find_put_item vs i o.0 m.0 o.1;
      from = inl (o.0, o.1, o.2);
      others = λ t ne. ap (step_to t) (sym m.2) ∙ others_of_array i m.0 vs t ne;
    }
step_puts (Field k) Json-F.Null into anew after e = none_is_some after e
step_puts (Field k) (Json-F.Bool b) into anew after e = none_is_some after e
step_puts (Field k) (Json-F.Int n) into anew after e = none_is_some after e
step_puts (Field k) (Json-F.Str s) into anew after e = none_is_some after e
step_puts (Field k) (Json-F.Arr vs) into anew after e = none_is_some after e
step_puts (Index i) Json-F.Null into anew after e = none_is_some after e
step_puts (Index i) (Json-F.Bool b) into anew after e = none_is_some after e
step_puts (Index i) (Json-F.Int n) into anew after e = none_is_some after e
step_puts (Index i) (Json-F.Str s) into anew after e = none_is_some after e
step_puts (Index i) (Json-F.Obj fs) into anew after e = none_is_some after e

abbrev one_field : Name → Json → Json
one_field k v = json.Obj ((k, v) ∷ [])

in_one : (k : Name) (v : Json) → step_to (Field k) (one_field k v) ≡ Some v
in_one k v = in_object k ((k, v) ∷ []) ∙ if_same k k (Some v) None refl

not_in_one : (k : Name) (v : Json) (t : PathStep) → Field k ≢ t → step_to t (one_field k v) ≡ None
not_in_one k v (Field other) ne = in_object other ((k, v) ∷ []) ∙ if_other k other (Some v) None (λ e. ne (ap Field e))
not_in_one k v (Index j) ne = ap (step_at (Index j)) (out-Obj ((k, v) ∷ []))

-- what is made from nothing has the value at the end of the steps, and nothing beside
made_found : (ss : List PathStep) (made m : Json) → from_nothing ss made ≡ Some m → get ss m ≡ Some made
made_found [] made m e = sym e
made_found (Field k ∷ ss) made m e =
    let v = from_map (one_field k) (from_nothing ss made) m e in
    ap (option_and_then (get ss)) (ap (step_to (Field k)) (sym v.2) ∙ in_one k v.0) ∙ made_found ss made v.0 v.1
made_found (Index i ∷ ss) made m e = none_is_some m e

made_misses : (front : List PathStep) (s t : PathStep) (rest others : List PathStep) (made m : Json) → s ≢ t → from_nothing (front ++ (s ∷ rest)) made ≡ Some m → get (front ++ (t ∷ others)) m ≡ None
made_misses [] (Field k) t rest others made m ne e =
    let v = from_map (one_field k) (from_nothing rest made) m e in
    ap (option_and_then (get others)) (ap (step_to t) (sym v.2) ∙ not_in_one k v.0 t ne)
made_misses [] (Index i) t rest others made m ne e = none_is_some m e
made_misses (Field k ∷ front) s t rest others made m ne e =
    let v = from_map (one_field k) (from_nothing (front ++ (s ∷ rest)) made) m e in
    ap (option_and_then (get (front ++ (t ∷ others)))) (ap (step_to (Field k)) (sym v.2) ∙ in_one k v.0) ∙ made_misses front s t rest others made v.0 ne v.1
made_misses (Index i ∷ front) s t rest others made m ne e = none_is_some m e

module _ (s : PathStep) (ss : List PathStep) (raw made after : Json) (p : StepPuts s (out-Json raw) (λ part. put ss part made) (from_nothing ss made) after) where
  abbrev From : Type 0
  From = ((old : Json) × (step_to s raw ≡ Some old) × (put ss old made ≡ Some p.made)) ⊎ ((step_to s raw ≡ None) × (from_nothing ss made ≡ Some p.made))

  found_in_part : ((old : Json) → put ss old made ≡ Some p.made → get ss p.made ≡ Some made) → From → get ss p.made ≡ Some made
  found_in_part below (inl h) = below h.0 h.2
  found_in_part below (inr h) = made_found ss made p.made h.1

  kept_in_part : (tail : List PathStep) → ((old : Json) → put ss old made ≡ Some p.made → get tail p.made ≡ get tail old)
      → (from_nothing ss made ≡ Some p.made → get tail p.made ≡ None) → From → get tail p.made ≡ option_and_then (get tail) (step_to s raw)
  kept_in_part tail below anew (inl h) = below h.0 h.2 ∙ ap (option_and_then (get tail)) (sym h.1)
  kept_in_part tail below anew (inr h) = anew h.1 ∙ ap (option_and_then (get tail)) (sym h.0)

pub put_found : (path : List PathStep) (raw made after : Json) → put path raw made ≡ Some after → get path after ≡ Some made
put_found [] raw made after e = sym e
put_found (s ∷ ss) raw made after e =
    let p = step_puts s (out-Json raw) (λ part. put ss part made) (from_nothing ss made) after e in
    ap (option_and_then (get ss)) p.found ∙ found_in_part s ss raw made after p (λ old. put_found ss old made p.made) p.from

kept : (front : List PathStep) (s t : PathStep) (rest others : List PathStep) (raw made after : Json) → s ≢ t → put (front ++ (s ∷ rest)) raw made ≡ Some after
    → get (front ++ (t ∷ others)) after ≡ get (front ++ (t ∷ others)) raw
kept [] s t rest others raw made after ne e =
    let p = step_puts s (out-Json raw) (λ part. put rest part made) (from_nothing rest made) after e in
    ap (option_and_then (get others)) (p.others t ne)
kept (f ∷ front) s t rest others raw made after ne e =
    let ss = front ++ (s ∷ rest) in
    let tail = front ++ (t ∷ others) in
    let p = step_puts f (out-Json raw) (λ part. put ss part made) (from_nothing ss made) after e in
    ap (option_and_then (get tail)) p.found
    ∙ kept_in_part f ss raw made after p tail (λ old. kept front s t rest others old made p.made ne) (made_misses front s t rest others made p.made ne) p.from

pub put_kept : (path other : List PathStep) (raw made after : Json) → Part path other → put path raw made ≡ Some after → get other after ≡ get other raw
put_kept path other raw made after parts e =
    let known : put (parts.0 ++ (parts.1 ∷ parts.3)) raw made ≡ Some after = ap (λ p. put p raw made) (sym parts.5) ∙ e in
    ap (λ o. get o after) parts.6 ∙ kept parts.0 parts.1 parts.2 parts.3 parts.4 raw made after parts.7 known ∙ ap (λ o. get o raw) (sym parts.6)
