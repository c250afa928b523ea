-- How the fields of an object are checked, by a table of its fields.
--
-- The members of a value stand in the byte order of their keys.
use Rattle.std.specs.Prelude.{ℕ, Bool, true, false, not, ◌&&◌, ◌||◌, if◌then◌else◌, List, [], ◌∷◌, ◌++◌, map, Option, Some, None, is_some}
use Rattle.std.specs.List.{flat_map}
use Rattle.std.specs.Str.{bytes_eq}
use Rattle.serde_json.specs.Data.{Data, object, Members, no_members, member}
use Rattle.serde_json.specs.Find.{get}
use Rattle.unum_json.specs.Whole.{Place, key_step}
use Rattle.asl_read.specs.declared.fault.LRule.{LRule}
use Rattle.asl_read.specs.declared.fault.LRule.TheVariants.{L3, L4, L5}
use Rattle.asl_read.specs.declared.objects.Need as written
use Rattle.asl_read.specs.declared.objects.Need.TheVariants as needs
use Rattle.asl_read.specs.declared.objects.Row as rows

abbrev pub Key : Type 0
Key = List ℕ

-- a broken rule, and the place of what breaks it
pub record Broken : Type 0 where
  pub rule : LRule
  pub at : Place

-- the value itself breaks a rule
abbrev pub here : LRule → List Broken
here rule = record { rule = rule; at = [] } ∷ []

-- the value of a key breaks a rule
abbrev pub at_key : LRule → Key → List Broken
at_key rule k = record { rule = rule; at = key_step k } ∷ []

-- broken unless the test holds
abbrev pub unless : Bool → List Broken → List Broken
unless b bs = if b then [] else bs

-- the same, as seen from the whole that has the value at this place
abbrev pub under : Place → List Broken → List Broken
under step bs = map (λ (b : Broken). record { rule = b.rule; at = step ++ b.at }) bs

-- ---------------------------------------------------------------- tables

-- When a field has to stand in its object: always, not at all, unless one of these fields stands there, or not at all
-- and never beside this field, whose alternative it is.
pub data Need : Type 0 where
  required : Need
  optional : Need
  required_unless : List Key → Need
  not_beside : Key → Need

-- a field: its key, when it has to be there, and how its value is read
pub record Row (H : Type 0) : Type 0 where
  pub key : Key
  pub need : Need
  pub how : H

abbrev pub must : {H : Type 0} → Key → H → Row H
must k how = record { key = k; need = required; how = how }

abbrev pub may : {H : Type 0} → Key → H → Row H
may k how = record { key = k; need = optional; how = how }

-- the row of a key
abbrev pub find_row : {H : Type 0} → Key → List (Row H) → Option (Row H)
find_row k [] = None
find_row k (r ∷ rs) = if bytes_eq r.key k then Some r else find_row k rs

-- how the value of a key is read, or else `other`
abbrev pub how_at : {H : Type 0} → List (Row H) → (other : H) → Key → H
how_at rows other k = elim (find_row k rows) [ None ↦ other | Some r ↦ r.how ]

-- ---------------------------------------------------------------- keys

abbrev pub has : Key → Data → Bool
has k d = is_some (get k d)

abbrev pub has_any : List Key → Data → Bool
has_any [] d = false
has_any (k ∷ ks) d = has k d || has_any ks d

abbrev pub keys_in : Members → List Key
keys_in no_members = []
keys_in (member k d ms) = k ∷ keys_in ms

-- the keys of an object
abbrev pub keys : Data → List Key
keys (object ms) = keys_in ms
keys _ = []

abbrev pub stands_beside : Need → Data → Bool
stands_beside (not_beside k) d = has k d
stands_beside _ d = false

-- A key of the table breaks L4 where its alternative stands beside it. One that is left out by name breaks L5, and
-- one that is unknown L4.
abbrev pub key_rule : {H : Type 0} → List (Row H) → (left_out : Key → Bool) → Data → Key → Option LRule
key_rule rows left_out d k = elim (find_row k rows) [
  | Some r ↦ if stands_beside r.need d then Some L4 else None
  | None ↦ if left_out k then Some L5 else Some L4
]

abbrev pub key_broken : Key → Option LRule → List Broken
key_broken k None = []
key_broken k (Some rule) = at_key rule k

-- each key is checked
abbrev pub key_faults : {H : Type 0} → List (Row H) → (left_out : Key → Bool) → Data → List Broken
key_faults rows left_out d = flat_map (λ k. key_broken k (key_rule rows left_out d k)) (keys d)

-- ---------------------------------------------------------------- required keys

abbrev pub is_needed : Need → Data → Bool
is_needed required d = true
is_needed optional d = false
is_needed (required_unless ks) d = not (has_any ks d)
is_needed (not_beside k) d = false

abbrev pub is_missing : {H : Type 0} → Data → Row H → Bool
is_missing d r = is_needed r.need d && not (has r.key d)

-- Each required key is checked. The rows of required fields stand in the byte order of their keys.
abbrev pub missing_faults : {H : Type 0} → List (Row H) → Data → List Broken
missing_faults rows d = flat_map (λ r. unless (not (is_missing d r)) (at_key L3 r.key)) rows

-- ---------------------------------------------------------------- rows of the code

abbrev pub need_of : written.Need → Need
need_of needs.Required = required
need_of needs.Optional = optional
need_of (needs.RequiredUnless ks) = required_unless (map (λ k. k.now) ks.now)
need_of (needs.NotBeside k) = not_beside k.now

abbrev pub row_of : {H : Type 0} → rows.Row H → Row H
row_of r = record { key = r.key.now; need = need_of r.need; how = r.how }
