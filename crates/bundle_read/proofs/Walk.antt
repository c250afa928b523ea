-- The first walk, one part after another: the first that breaks something answers it.
use Rattle.std.proofs.Common.{◌≡◌, ℕ, ◌+◌, ◌<◌, List, [], ◌∷◌, ◌++◌, length, drop, get_or, Some, Err, sym, ap, subst, ◌∙◌}
use Rattle.unum_json.specs.Parsed.{view, items_view, members_view}
use Rattle.unum_json.specs.declared.parsed.Value.{Value}
use Rattle.unum_json.specs.Whole.{index_step, key_step}
use Rattle.asl_read.specs.Objects.{Broken, under}
use Rattle.asl_read.specs.Checks.{Checks, first}
use Rattle.asl_read.specs.declared.fault.ReadFault.{ReadFault}
use Rattle.asl_read.specs.declared.fault.ReadFault.TheVariants as fault
use Rattle.bundle_read.specs.Faults.{part_faults, item_faults, member_faults, member_part}
use Rattle.bundle_read.specs.declared.kinds.Part.{Part}
use Rattle.bundle_read.specs.declared.reading.Form.{Form}
use Rattle.bundle_read.proofs.Steps.{rest_is}
use Rattle.bundle_read.proofs.Values.{Entries}

-- the answer of a check that refuses
abbrev pub Refuses : ReadFault → List Broken → Type 0
Refuses e due = Checks {A = Unit {0}} (Err e) due

first_front : (a b : List Broken) (x : Broken) → first a ≡ Some x → first (a ++ b) ≡ Some x
first_front [] b x h = absurd (cc)
first_front (y ∷ a) b x h = h

pub in_front : (e : ReadFault) (a b : List Broken) → Refuses e a → Refuses e (a ++ b)
in_front (fault.Refused rule at) a b h = first_front a b (record { rule = rule; at = at }) h
in_front fault.NoMemory a b h = tt

pub item_found : (p : Part) (whole : List Broken) (all : List Value) (i : ℕ) (item : Value) (e : ReadFault) → whole ≡ item_faults p i (items_view (drop i all)) → i < length all → item ≡ get_or all i item
    → Refuses e (under (index_step i) (part_faults p (view item))) → Refuses e whole
item_found p whole all i item e so_far lt is h =
    subst (Refuses e) (sym (so_far ∙ ap (λ vs. item_faults p i (items_view vs)) (rest_is all i item lt is)))
    (in_front e (under (index_step i) (part_faults p (view item))) (item_faults p (i + 1) (items_view (drop (i + 1) all))) h)

pub member_found : (form : Form) (whole : List Broken) (all : Entries) (i : ℕ) (m : List ℕ × Value) (e : ReadFault) → whole ≡ member_faults form (members_view (drop i all)) → i < length all → m ≡ get_or all i m
    → Refuses e (under (key_step m.0) (part_faults (member_part form m.0) (view m.1))) → Refuses e whole
member_found form whole all i m e so_far lt is h =
    subst (Refuses e) (sym (so_far ∙ ap (λ es. member_faults form (members_view es)) (rest_is all i m lt is)))
    (in_front e (under (key_step m.0) (part_faults (member_part form m.0) (view m.1))) (member_faults form (members_view (drop (i + 1) all))) h)
