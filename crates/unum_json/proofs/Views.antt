-- A parsed value, level by level.
use Rattle.std.proofs.Common.{◌≡◌, ℕ, List, [], ◌∷◌, Option, Some, None, option_map, Vec, Global, Bor, Ordering, Less, Equal, Greater, Bool, true, false, bytes_eq, is_eq, if◌then◌else◌, nat_cmp, refl, ◌∙◌, rules}
use Rattle.std.proofs.lemmas.Map.Text.{is_eq-slice_cmp}
use Rattle.std.proofs.lemmas.Cmp.{nat_list_eq_equiv}
use Rattle.std.specs.Cmp.Lexicographic.{slice_cmp}
use Rattle.std.specs.Option.{option_copied}
use Rattle.std.specs.Ordering.{match_ordering}
use Rattle.serde_json.specs.Data.{Data, array, object, put}
use Rattle.serde_json.specs.Find.{get_member}
use Rattle.unum_json.specs.declared.parsed.Value.{Value, Array, Object, the_lemmas}
use Rattle.unum_json.specs.Parsed.{view, items_view, members_view}
use Rattle.unum_json.specs.Keys.{find_key, with_key}

abbrev pub Entry : Type 0
Entry = List ℕ × Value

pub view-Array : (v : Vec Value Global) → view (Array v) ≡ array (items_view v.items)
view-Array v = search (rules, the_lemmas)

pub view-Object : (ms : List Entry) → view (Object ms) ≡ object (members_view ms)
view-Object ms = search (rules, the_lemmas)

by_cases : (o : Ordering) (a b c : List Entry) → members_view (match_ordering o a b c) ≡ match_ordering o (members_view a) (members_view b) (members_view c)
by_cases Less a b c = refl
by_cases Equal a b c = refl
by_cases Greater a b c = refl

-- a key that is set stands among the members
pub members_view-with_key : (es : List Entry) (k : List ℕ) (v : Value) → members_view (with_key k v es) ≡ put k (view v) (members_view es)
members_view-with_key [] k v = refl
members_view-with_key (e ∷ es) k v = by_cases (slice_cmp nat_cmp k e.0) _ _ _ ∙ rw (members_view-with_key es k v)

found_at : (o : Ordering) (b : Bool) (v : Value) (rest : Option Value) (d : Option Data) → is_eq o ≡ b → option_map view rest ≡ d
    → option_map view (if b then Some v else rest) ≡ match_ordering o d (Some (view v)) d
found_at Less true v rest d e h = absurd (cc)
found_at Less false v rest d e h = h
found_at Equal true v rest d e h = refl
found_at Equal false v rest d e h = absurd (cc)
found_at Greater true v rest d e h = absurd (cc)
found_at Greater false v rest d e h = h

-- the value of a key
pub found : (k : List ℕ) (es : List Entry) → option_map view (find_key k es) ≡ get_member k (members_view es)
found k [] = refl
found k (e ∷ es) = found_at (slice_cmp nat_cmp k e.0) (bytes_eq e.0 k) e.1 _ _ (is_eq-slice_cmp k e.0 ∙ nat_list_eq_equiv.symm k e.0) (found k es)

pub view_of_ref : (r : Option (Bor Value)) → option_map (λ x. view x.now) r ≡ option_map view (option_copied r)
view_of_ref None = refl
view_of_ref (Some x) = refl
