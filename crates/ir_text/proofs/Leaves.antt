-- Numbers, texts, paths and templates are read back.
use Rattle.std.proofs.Common.{◌≡◌, ℕ, zero, suc, ◌<◌, arith, Bool, true, false, List, [], ◌∷◌, Option, Some, None, map, if◌then◌else◌, refl, sym, ap, subst, ◌∙◌}
use Rattle.std.proofs.lemmas.Bool.{leb-false}
use Rattle.std.specs.List.{AllByRecursion}
use Rattle.std.specs.Prelude.{ℤ, pos, nat_le, option_map, unwrap_or}
use Rattle.serde_json.specs.Data.{Data}
use Rattle.serde_json.specs.Find.{as_null}
use Rattle.unum_json.specs.declared.value.Json.{Json}
use Rattle.unum_json.specs.declared.value.Json as json
use Rattle.unum_json.specs.declared.value.Json.TheOpen.{Json-F}
use Rattle.unum_json.proofs.Laws.{out-Null, out-Bool, out-Int, out-Str, out-Arr}
use Rattle.asl_paths.specs.Grammar.{path_text}
use Rattle.asl_paths.specs.Steps.{IsPath}
use Rattle.asl_paths.specs.Templates.{template_of}
use Rattle.asl_paths.specs.declared.path.Path.{Path}
use Rattle.asl_paths.specs.declared.template.Part.{Part}
use Rattle.asl_paths.specs.declared.template.Template.{Template}
use Rattle.asl_paths.proofs.CanonicalLaws.{path_back}
use Rattle.asl_read.specs.Objects.{Key}
use Rattle.asl_read.specs.Parts.{text_of, truth_of, whole_of, json_or_null, json_of, path_in_text, path_at, path_or_null, template_by, template_at, items_of, within}
use Rattle.ir_text.specs.Printed.{number_value, number_or_null as null_or_number, unless_zero, texts_value, unless_none, path_value, unless_root, template_value, scopes_value}
use Rattle.ir_text.specs.Readable.{Fits, FitsIfAny, IsPathIfAny, IsRead, IsReadIfAny}
use Rattle.ir_text.specs.Spelled.{number_of, number_or_null_of, number_or_null_at}
use Rattle.ir_text.proofs.Alike.{Shows, At, Each, like, items_shown}

-- ---------------------------------------------------------------- texts and truth values

pub text_back : (d : Data) (t : List ℕ) → Shows d (json.Str t) → text_of d ≡ t
text_back d t h = ap text_of (like d (json.Str t) (Json-F.Str t) h (out-Str t))

pub truth_back : (d : Data) (b : Bool) → Shows d (json.Bool b) → truth_of d ≡ b
truth_back d b h = ap truth_of (like d (json.Bool b) (Json-F.Bool b) h (out-Bool b))

pub text_read : (o : Option Data) (t : List ℕ) → At o (Some (json.Str t)) → unwrap_or (option_map text_of o) [] ≡ t
text_read None t h = absurd h
text_read (Some d) t h = text_back d t h

-- ---------------------------------------------------------------- numbers

pub whole_back : (d : Data) (i : ℤ) → Shows d (json.Int i) → whole_of d ≡ i
whole_back d i h =
    let is = like d (json.Int i) (Json-F.Int i) h (out-Int i) in
    ap whole_of is.1 ∙ ap (λ o. unwrap_or o (pos 0)) is.2

not_null : (d : Data) (i : ℤ) → Shows d (json.Int i) → as_null d ≡ None
not_null d i h = ap as_null (like d (json.Int i) (Json-F.Int i) h (out-Int i)).1

fitting : (n : ℕ) → Fits n → within 4294967295 (pos n) ≡ n
fitting n h = by (nat_le n 4294967295) refl
  where
    by : (b : Bool) → nat_le n 4294967295 ≡ b → (if b then n else 4294967295) ≡ n
    by true e = refl
    by false e = absurd (let g : 4294967295 < n = leb-false n 4294967295 e in omega arith)

pub number_back : (d : Data) (n : ℕ) → Shows d (number_value n) → Fits n → number_of d ≡ n
number_back d n h fits = ap (within 4294967295) (whole_back d (pos n) h) ∙ fitting n fits

pub number_read : (o : Option Data) (n : ℕ) → At o (Some (number_value n)) → Fits n
    → unwrap_or (option_map (λ v. within 4294967295 (whole_of v)) o) 0 ≡ n
number_read None n h fits = absurd h
number_read (Some d) n h fits = number_back d n h fits

pub limit_read : (o : Option Data) (n : ℕ) → At o (unless_zero n) → Fits n
    → unwrap_or (option_map (λ v. within 4294967295 (whole_of v)) o) 0 ≡ n
limit_read None zero h fits = refl
limit_read (Some d) zero h fits = absurd h
limit_read o (suc n) h fits = number_read o (suc n) h fits

pub next_read : (o : Option Data) (n : Option ℕ) → At o (Some (null_or_number n)) → FitsIfAny n → number_or_null_at o ≡ n
next_read None n h fits = absurd h
next_read (Some d) None h fits = ap number_or_null_of (like d json.Null Json-F.Null h out-Null)
next_read (Some d) (Some n) h fits =
    ap (λ o. elim o as (λ v. Option ℕ) [ None ↦ Some (number_of d) | Some u ↦ None ]) (not_null d (pos n) h)
    ∙ ap Some (number_back d n h fits)

-- ---------------------------------------------------------------- lists

pub list_read : (o : Option Data) (vs : List Json) → At o (Some (json.Arr vs)) → Each (unwrap_or (option_map items_of o) []) vs
list_read None vs h = absurd h
list_read (Some d) vs h =
    let is = like d (json.Arr vs) (Json-F.Arr vs) h (out-Arr vs) in
    subst (λ x. Each (items_of x) vs) (sym is.1) (items_shown 0 is.0 vs is.2)

pub list_if_read : (o : Option Data) (vs : List Json) → At o (unless_none vs) → Each (unwrap_or (option_map items_of o) []) vs
list_if_read None [] h = tt
list_if_read (Some d) [] h = absurd h
list_if_read o (v ∷ vs) h = list_read o (v ∷ vs) h

pub each_back : {X : Type 0} (read : Data → X) (show : X → Json) (P : X → Type 0)
    → ((d : Data) (x : X) → Shows d (show x) → P x → read d ≡ x)
    → (ds : List Data) (xs : List X) → Each ds (map show xs) → AllByRecursion P xs → map read ds ≡ xs
each_back read show P back [] [] h all = refl
each_back read show P back [] (x ∷ xs) h all = absurd h
each_back read show P back (d ∷ ds) [] h all = absurd h
each_back read show P back (d ∷ ds) (x ∷ xs) h all =
    ap (λ y. y ∷ map read ds) (back d x h.0 all.0) ∙ ap (λ ys. x ∷ ys) (each_back read show P back ds xs h.1 all.1)

pub texts_back : (ds : List Data) (ts : List (List ℕ)) → Each ds (map json.Str ts) → map text_of ds ≡ ts
texts_back [] [] h = refl
texts_back [] (t ∷ ts) h = absurd h
texts_back (d ∷ ds) [] h = absurd h
texts_back (d ∷ ds) (t ∷ ts) h = ap (λ y. y ∷ map text_of ds) (text_back d t h.0) ∙ ap (λ ys. t ∷ ys) (texts_back ds ts h.1)

pub texts_read : (o : Option Data) (ts : List (List ℕ)) → At o (Some (texts_value ts))
    → map text_of (unwrap_or (option_map items_of o) []) ≡ ts
texts_read o ts h = texts_back (unwrap_or (option_map items_of o) []) ts (list_read o (map json.Str ts) h)

pub numbers_read : (o : Option Data) (ns : List ℕ) → At o (Some (scopes_value ns)) → AllByRecursion Fits ns
    → map number_of (unwrap_or (option_map items_of o) []) ≡ ns
numbers_read o ns h all
    = each_back number_of number_value Fits number_back (unwrap_or (option_map items_of o) []) ns (list_read o (map number_value ns) h) all

-- ---------------------------------------------------------------- paths

pub path_in_back : (d : Data) (path : Path) → Shows d (path_value path) → IsPath path → path_at d ≡ path
path_in_back d path h is = ap path_in_text (text_back d (path_text path) h) ∙ ap (λ o. unwrap_or o []) (path_back path is)

pub path_read : (o : Option Data) (path : Path) → At o (Some (path_value path)) → IsPath path → unwrap_or (option_map path_at o) [] ≡ path
path_read None path h is = absurd h
path_read (Some d) path h is = path_in_back d path h is

-- a text is not null
some_path : (d : Data) (t : List ℕ) → Shows d (json.Str t) → path_or_null d ≡ Some (path_at d)
some_path d t h =
    let is = like d (json.Str t) (Json-F.Str t) h (out-Str t) in
    ap path_or_null is ∙ ap (λ x. Some (path_at x)) (sym is)

pub path_if_read : (o : Option Data) (path : Option Path) → At o (unless_root path) → IsPathIfAny path
    → unwrap_or (option_map path_or_null o) (Some []) ≡ path
path_if_read None None h is = absurd h
path_if_read (Some d) None h is = ap path_or_null (like d json.Null Json-F.Null h out-Null)
path_if_read None (Some []) h is = refl
path_if_read (Some d) (Some []) h is = absurd h
path_if_read None (Some (s ∷ ss)) h is = absurd h
path_if_read (Some d) (Some (s ∷ ss)) h is = some_path d (path_text (s ∷ ss)) h ∙ ap Some (path_in_back d (s ∷ ss) h is)

-- ---------------------------------------------------------------- values and templates

pub json_back : (d : Data) (v : Json) → Shows d v → json_of d ≡ v
json_back d v h = ap json_or_null h

pub json_if_read : (o : Option Data) (v : Option Json) → At o v → option_map json_of o ≡ v
json_if_read None None h = refl
json_if_read None (Some v) h = absurd h
json_if_read (Some d) None h = absurd h
json_if_read (Some d) (Some v) h = ap Some (json_back d v h)

source_back : (item : Bool) (t : Template) → IsRead item t → template_by item t.source (template_of item t.source) ≡ t
source_back item t is =
    let made : List (Key × Part) → Bool → Json → Template = λ fs i v. record { fields = fs; item = i; source = v } in
    ap (template_by item t.source) is.back.read ∙ ap (made t.fields item) is.back.same ∙ ap (λ i. made t.fields i t.source) (sym is.kind)

pub template_back : (item : Bool) (d : Data) (t : Template) → Shows d t.source → IsRead item t → template_at item d ≡ t
template_back item d t h is = ap (λ v. template_by item v (template_of item v)) (json_back d t.source h) ∙ source_back item t is

pub template_read : (item : Bool) (o : Option Data) (t : Option Template) → At o (template_value t) → IsReadIfAny item t
    → option_map (template_at item) o ≡ t
template_read item None None h is = refl
template_read item None (Some t) h is = absurd h
template_read item (Some d) None h is = absurd h
template_read item (Some d) (Some t) h is = ap Some (template_back item d t h is)
