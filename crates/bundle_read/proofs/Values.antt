-- What the values of an array and of an object are.
use Rattle.std.proofs.Common.{◌≡◌, ℕ, ◌+◌, ◌<◌, List, [], ◌∷◌, ◌++◌, length, drop, get_or, map, refl, sym, ap, ◌∙◌, subst, append_assoc}
use Rattle.std.specs.Map.{keys_of}
use Rattle.std.proofs.lemmas.List.{map-append}
use Rattle.serde_json.specs.Data.{Data}
use Rattle.unum_json.specs.Parsed.{view, items_view, members_view}
use Rattle.unum_json.specs.declared.parsed.Value.{Value}
use Rattle.unum_json.specs.Keys.{IsRising}
use Rattle.asl_read.specs.Parts.{items_in}
use Rattle.bundle_read.specs.Drafts.{each_member}
use Rattle.bundle_read.proofs.Steps.{rest_is}

pub items_seen : (vs : List Value) → map view vs ≡ items_in (items_view vs)
items_seen [] = refl
items_seen (v ∷ vs) = ap (λ ds. view v ∷ ds) (items_seen vs)

-- the pairs of an object
abbrev pub Entries : Type 0
Entries = List (List ℕ × Value)

-- the members so far, and those that are left
pub record Goes {V : Type 0} (f : Data → V) (all rest : Entries) (found : List (List ℕ × V)) : Type 0 where
  pub made : each_member f (members_view all) ≡ found ++ each_member f (members_view rest)
  pub rising : IsRising (keys_of found ++ keys_of rest)

module _ {V : Type 0} (f : Data → V) (all : Entries) where
  pub goes_first : (first : Entries) (found : List (List ℕ × V)) → found ≡ [] → first ≡ all → IsRising (keys_of all) → Goes f all first found
  goes_first first found e is h = record {
    made = ap (λ es. each_member f (members_view es)) (sym is) ∙ ap (λ xs. xs ++ each_member f (members_view first)) (sym e);
    rising = subst IsRising (ap keys_of (sym is) ∙ ap (λ xs. keys_of xs ++ keys_of first) (sym e)) h;
  }

  pub goes_on : (i : ℕ) (entries : Entries) (e : List ℕ × Value) (found : List (List ℕ × V)) (k : List ℕ) (x : V) → Goes f all (drop i entries) found → i < length entries → e ≡ get_or entries i e → k ≡ e.0 → x ≡ f (view e.1)
      → Goes f all (drop (i + 1) entries) (found ++ (k, x) ∷ [])
  goes_on i entries e found k x h lt at key same =
      let left : Entries = drop (i + 1) entries in
      let is : drop i entries ≡ e ∷ left = rest_is entries i e lt at in
      record {
        made = h.made ∙ ap (λ es. found ++ each_member f (members_view es)) is ∙ ap (λ (p : List ℕ × V). found ++ p ∷ each_member f (members_view left)) (λ j. (sym key j, sym same j))
            ∙ sym (append_assoc found ((k, x) ∷ []) (each_member f (members_view left)));
        rising =
            let one : keys_of found ++ keys_of (e ∷ left) ≡ keys_of (found ++ (k, x) ∷ []) ++ keys_of left
            = sym (append_assoc (keys_of found) (e.0 ∷ []) (keys_of left)) ∙ ap (λ n. (keys_of found ++ n ∷ []) ++ keys_of left) (sym key)
            ∙ ap (λ ks. ks ++ keys_of left) (sym (map-append (λ (p : List ℕ × V). p.0) found ((k, x) ∷ []))) in
            subst IsRising (ap (λ es. keys_of found ++ keys_of es) is ∙ one) h.rising;
      }
