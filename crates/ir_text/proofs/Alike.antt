-- What a value is that is converted to a JSON value of some kind, and what stands in it.
use Rattle.std.proofs.Common.{◌≡◌, ℕ, ◌+◌, Bool, true, false, List, [], ◌∷◌, ◌++◌, Option, Some, None, Result, Ok, Err, if◌then◌else◌, refl, sym, ap, subst, ◌∙◌, Less, Equal, Greater, Ordering, nat_cmp}
use Rattle.std.proofs.lemmas.Map.Text.{is_eq-slice_cmp}
use Rattle.std.proofs.lemmas.Slice.Eq.{bytes_eq-Decides}
use Rattle.std.specs.Cmp.Lexicographic.{slice_cmp}
use Rattle.std.specs.Ordering.{match_ordering, is_eq}
use Rattle.std.specs.Prelude.{ℤ}
use Rattle.std.specs.Str.{bytes_eq}
use Rattle.serde_json.specs.Data.{Data, Num, null, boolean, number, string, array, object, Items, no_items, item, Members, no_members, member}
use Rattle.serde_json.specs.Find.{get, get_member, as_i64}
use Rattle.unum_json.specs.declared.value.Json.{Json, out-Json}
use Rattle.unum_json.specs.declared.value.Json as json
use Rattle.unum_json.specs.declared.value.Json.TheOpen.{Json-F}
use Rattle.unum_json.specs.Keys.{find_key}
use Rattle.unum_json.specs.Whole.{Place, index_step, key_step, under, also, then_ok, of_number, of_data, of_items, of_members}
use Rattle.unum_json.proofs.Laws.{out-Null, out-Bool, out-Int, out-Str, out-Arr, out-Obj}
use Rattle.asl_read.specs.Objects.{Key}
use Rattle.asl_read.specs.Parts.{items_in}

-- the value is converted to that one
abbrev pub Shows : Data → Json → Type 0
Shows d v = of_data d ≡ Ok v

-- ---------------------------------------------------------------- kinds

abbrev face : Result Json Place → Option (Json-F Json)
face (Ok v) = Some (out-Json v)
face (Err p) = None

abbrev of_array : Result (List Json) Place → Option (Json-F Json)
of_array (Ok vs) = Some (Json-F.Arr vs)
of_array (Err p) = None

abbrev of_object : Result (List (Key × Json)) Place → Option (Json-F Json)
of_object (Ok fs) = Some (Json-F.Obj fs)
of_object (Err p) = None

abbrev of_whole : Option ℤ → Option (Json-F Json)
of_whole None = None
of_whole (Some i) = Some (Json-F.Int i)

abbrev layer : Data → Option (Json-F Json)
layer null = Some Json-F.Null
layer (boolean b) = Some (Json-F.Bool b)
layer (number n) = of_whole (as_i64 n)
layer (string s) = Some (Json-F.Str s)
layer (array ds) = of_array (of_items 0 ds)
layer (object ms) = of_object (of_members ms)

whole_face : (o : Option ℤ) → face (of_number o) ≡ of_whole o
whole_face None = refl
whole_face (Some i) = ap Some (out-Int i)

array_face : (r : Result (List Json) Place) → face (then_ok json.Arr r) ≡ of_array r
array_face (Ok vs) = ap Some (out-Arr vs)
array_face (Err p) = refl

object_face : (r : Result (List (Key × Json)) Place) → face (then_ok json.Obj r) ≡ of_object r
object_face (Ok fs) = ap Some (out-Obj fs)
object_face (Err p) = refl

faced : (d : Data) → face (of_data d) ≡ layer d
faced null = ap Some out-Null
faced (boolean b) = ap Some (out-Bool b)
faced (number n) = whole_face (as_i64 n)
faced (string s) = ap Some (out-Str s)
faced (array ds) = array_face (of_items 0 ds)
faced (object ms) = object_face (of_members ms)

-- what a value is, by what it is converted to
abbrev pub IsLike : Data → Json-F Json → Type 0
IsLike d Json-F.Null = d ≡ null
IsLike d (Json-F.Bool b) = d ≡ boolean b
IsLike d (Json-F.Int i) = (n : Num) × (d ≡ number n) × (as_i64 n ≡ Some i)
IsLike d (Json-F.Str s) = d ≡ string s
IsLike d (Json-F.Arr vs) = (ds : Items) × (d ≡ array ds) × (of_items 0 ds ≡ Ok vs)
IsLike d (Json-F.Obj fs) = (ms : Members) × (d ≡ object ms) × (of_members ms ≡ Ok fs)

whole_like : (n : Num) (f : Json-F Json) (o : Option ℤ) → as_i64 n ≡ o → of_whole o ≡ Some f → IsLike (number n) f
whole_like n f None is h = absurd (let g : None ≡ Some f = h in cc)
whole_like n f (Some i) is h = let e : Json-F.Int i ≡ f
    = (let g : Some (Json-F.Int i) ≡ Some f = h in cc) in subst (IsLike (number n)) e (n, refl, is)

array_like : (ds : Items) (f : Json-F Json) (r : Result (List Json) Place) → of_items 0 ds ≡ r → of_array r ≡ Some f → IsLike (array ds) f
array_like ds f (Ok vs) is h = let e : Json-F.Arr vs ≡ f
    = (let g : Some (Json-F.Arr vs) ≡ Some f = h in cc) in subst (IsLike (array ds)) e (ds, refl, is)
array_like ds f (Err p) is h = absurd (let g : None ≡ Some f = h in cc)

object_like : (ms : Members) (f : Json-F Json) (r : Result (List (Key × Json)) Place) → of_members ms ≡ r → of_object r ≡ Some f
    → IsLike (object ms) f
object_like ms f (Ok fs) is h = let e : Json-F.Obj fs ≡ f
    = (let g : Some (Json-F.Obj fs) ≡ Some f = h in cc) in subst (IsLike (object ms)) e (ms, refl, is)
object_like ms f (Err p) is h = absurd (let g : None ≡ Some f = h in cc)

by_layer : (d : Data) (f : Json-F Json) → layer d ≡ Some f → IsLike d f
by_layer null f h = let e : Json-F.Null ≡ f = (let g : Some Json-F.Null ≡ Some f = h in cc) in subst (IsLike null) e refl
by_layer (boolean b) f h = let e : Json-F.Bool b ≡ f
    = (let g : Some (Json-F.Bool b) ≡ Some f = h in cc) in subst (IsLike (boolean b)) e refl
by_layer (number n) f h = whole_like n f (as_i64 n) refl h
by_layer (string s) f h = let e : Json-F.Str s ≡ f = (let g : Some (Json-F.Str s) ≡ Some f = h in cc) in subst (IsLike (string s)) e refl
by_layer (array ds) f h = array_like ds f (of_items 0 ds) refl h
by_layer (object ms) f h = object_like ms f (of_members ms) refl h

pub like : (d : Data) (v : Json) (f : Json-F Json) → Shows d v → out-Json v ≡ f → IsLike d f
like d v f h e = by_layer d f (sym (faced d) ∙ ap face h ∙ ap Some e)

-- ---------------------------------------------------------------- what was converted

abbrev pub ok : {A : Type 0} → A → Result A Place
ok x = Ok x

abbrev bad : {A : Type 0} → Place → Result A Place
bad p = Err p

pub one_ok : {A : Type 0} (a b : A) → ok a ≡ ok b → a ≡ b
one_ok a b h = cc

none_ok : {A : Type 0} (p : Place) (b : A) → bad p ≡ ok b → ⊥
none_ok p b h = cc

-- ---------------------------------------------------------------- arrays

-- each value is converted to the one at its place
abbrev pub Each : List Data → List Json → Type 0
Each [] [] = Unit {0}
Each (d ∷ ds) (v ∷ vs) = Shows d v × Each ds vs
Each _ _ = ⊥

item_shown : (step : Place) (d : Data) (ds : List Data) (p : Result Json Place) (r : Result (List Json) Place) (vs : List Json)
    → of_data d ≡ p → ((xs : List Json) → r ≡ Ok xs → Each ds xs)
    → also (λ x xs. x ∷ xs) (under step p) r ≡ Ok vs → Each (d ∷ ds) vs
item_shown step d ds (Ok x) (Ok xs) vs is rest h = let e : x ∷ xs ≡ vs = one_ok (x ∷ xs) vs h in subst (Each (d ∷ ds)) e (is, rest xs refl)
item_shown step d ds (Ok x) (Err q) vs is rest h = absurd (none_ok q vs h)
item_shown step d ds (Err q) r vs is rest h = absurd (none_ok (step ++ q) vs h)

pub items_shown : (i : ℕ) (ds : Items) (vs : List Json) → of_items i ds ≡ Ok vs → Each (items_in ds) vs
items_shown i no_items vs h = let e : [] ≡ vs = one_ok [] vs h in subst (Each []) e tt
items_shown i (item d ds) vs h
    = item_shown (index_step i) d (items_in ds) (of_data d) (of_items (i + 1) ds) vs refl (λ xs g. items_shown (i + 1) ds xs g) h

-- ---------------------------------------------------------------- objects

-- what stands there is converted to what is to stand there
abbrev pub At : Option Data → Option Json → Type 0
At None None = Unit {0}
At (Some d) (Some v) = Shows d v
At _ _ = ⊥

same_key : (k l : Key) (o : Ordering) → slice_cmp nat_cmp k l ≡ o → bytes_eq l k ≡ is_eq o
same_key k l o is = by (bytes_eq l k) refl
  where
    told : is_eq o ≡ bytes_eq k l
    told = ap is_eq (sym is) ∙ is_eq-slice_cmp k l

    by : (b : Bool) → bytes_eq l k ≡ b → b ≡ is_eq o
    by true e = sym (told ∙ (bytes_eq-Decides k l).1 (sym ((bytes_eq-Decides l k).0 e)))
    by false e = other (bytes_eq k l) refl
      where
        other : (b : Bool) → bytes_eq k l ≡ b → false ≡ is_eq o
        other true g = absurd (let f : true ≡ false = sym ((bytes_eq-Decides l k).1 (sym ((bytes_eq-Decides k l).0 g))) ∙ e in cc)
        other false g = sym (told ∙ g)

at_member : (o : Ordering) (d : Data) (x : Json) (rest : Option Data) (others : Option Json) → Shows d x → At rest others
    → At (match_ordering o rest (Some d) rest) (if is_eq o then Some x else others)
at_member Less d x rest others h r = r
at_member Equal d x rest others h r = h
at_member Greater d x rest others h r = r

abbrev AllAt : Members → List (Key × Json) → Type 0
AllAt ms fs = (k : Key) → At (get_member k ms) (find_key k fs)

member_shown : (l : Key) (d : Data) (ms : Members) (p : Result Json Place) (r : Result (List (Key × Json)) Place) (fs : List (Key × Json))
    → of_data d ≡ p → ((xs : List (Key × Json)) → r ≡ Ok xs → AllAt ms xs)
    → also (λ x xs. (l, x) ∷ xs) (under (key_step l) p) r ≡ Ok fs → AllAt (member l d ms) fs
member_shown l d ms (Ok x) (Ok xs) fs is rest h k =
    let e : (l, x) ∷ xs ≡ fs = one_ok ((l, x) ∷ xs) fs h in
    let test : bytes_eq l k ≡ is_eq (slice_cmp nat_cmp k l) = same_key k l (slice_cmp nat_cmp k l) refl in
    subst (λ gs. At (get_member k (member l d ms)) (find_key k gs)) e
    (subst (λ b. At (get_member k (member l d ms)) (if b then Some x else find_key k xs)) (sym test)
    (at_member (slice_cmp nat_cmp k l) d x (get_member k ms) (find_key k xs) is (rest xs refl k)))
member_shown l d ms (Ok x) (Err q) fs is rest h k = absurd (none_ok q fs h)
member_shown l d ms (Err q) r fs is rest h k = absurd (none_ok (key_step l ++ q) fs h)

members_shown : (ms : Members) (fs : List (Key × Json)) → of_members ms ≡ Ok fs → AllAt ms fs
members_shown no_members fs h k = let e : [] ≡ fs = one_ok [] fs h in subst (λ gs. At None (find_key k gs)) e tt
members_shown (member l d ms) fs h k = member_shown l d ms (of_data d) (of_members ms) fs refl (λ xs g. members_shown ms xs g) h k

-- what stands at a key of an object
pub at_key : (d : Data) (fs : List (Key × Json)) (k : Key) → Shows d (json.Obj fs) → At (get k d) (find_key k fs)
at_key d fs k h =
    let is = like d (json.Obj fs) (Json-F.Obj fs) h (out-Obj fs) in
    subst (λ x. At (get k x) (find_key k fs)) (sym is.1) (members_shown is.0 fs is.2 k)
