-- Walks, one part after another: the first that finds something answers for the whole.
use Rattle.std.proofs.Common.{◌≡◌, ℕ, ◌+◌, ◌<◌, ◌≤◌, List, [], ◌∷◌, ◌++◌, length, drop, get_or, Some, Err, sym, ap, subst, ◌∙◌}
use Rattle.std.proofs.lemmas.List.{drop_more, drop_all}
use Rattle.unum_json.specs.Parsed.{view, items_view, members_view}
use Rattle.unum_json.specs.declared.parsed.Value.{Value}
use Rattle.unum_json.specs.declared.value.Json.{Json}
use Rattle.unum_json.specs.Keys.{find_key}
use Rattle.unum_json.specs.Whole.{index_step, key_step}
use Rattle.asl_read.specs.Objects.{Broken, under}
use Rattle.asl_read.specs.Checks.{Checks, first}
use Rattle.asl_read.specs.declared.fault.ReadFault.{ReadFault}
use Rattle.asl_read.specs.declared.fault.ReadFault.TheVariants as fault
use Rattle.ir_text.specs.Walks.{part_faults, item_faults, member_faults, member_part}
use Rattle.ir_text.specs.Texts.{unlike, items_unlike, members_unlike}
use Rattle.ir_text.specs.declared.kinds.Object.{Object}
use Rattle.ir_text.specs.declared.kinds.Part.{Part}
use Rattle.ir_text.specs.declared.walk.Walk.{Walk}

-- the answer of a check that refuses
abbrev pub Refuses : ReadFault → List Broken → Type 0
Refuses e due = Checks {A = Unit {0}} (Err e) due

first_front : (a b : List Broken) (x : Broken) → first a ≡ Some x → first (a ++ b) ≡ Some x
first_front [] b x h = absurd (cc)
first_front (y ∷ a) b x h = h

pub in_front : (e : ReadFault) (a b : List Broken) → Refuses e a → Refuses e (a ++ b)
in_front (fault.Refused rule at) a b h = first_front a b (record { rule = rule; at = at }) h
in_front fault.NoMemory a b h = tt

-- where nothing is found in the front, the rest decides
pub past : (a b : List Broken) → a ≡ [] → a ++ b ≡ b
past a b e = ap (λ l. l ++ b) e

rest_is : {A : Type 0} (all : List A) (i : ℕ) (item : A) → i < length all → item ≡ get_or all i item → drop i all ≡ item ∷ drop (i + 1) all
rest_is all i item lt is = drop_more all i item lt ∙ ap (λ x. x ∷ drop (i + 1) all) (sym is)

abbrev pub Entries : Type 0
Entries = List (List ℕ × Value)

-- ---------------------------------------------------------------- walks by the table

pub item_found : (w : Walk) (p : Part) (whole : List Broken) (all : List Value) (i : ℕ) (item : Value) (e : ReadFault)
    → whole ≡ item_faults w p i (items_view (drop i all)) → i < length all → item ≡ get_or all i item
    → Refuses e (under (index_step i) (part_faults w p (view item))) → Refuses e whole
item_found w p whole all i item e so_far lt is h =
    subst (Refuses e) (sym (so_far ∙ ap (λ vs. item_faults w p i (items_view vs)) (rest_is all i item lt is)))
    (in_front e (under (index_step i) (part_faults w p (view item))) (item_faults w p (i + 1) (items_view (drop (i + 1) all))) h)

pub member_found : (w : Walk) (kind : Object) (whole : List Broken) (all : Entries) (i : ℕ) (m : List ℕ × Value) (key : List ℕ) (part : Part) (e : ReadFault)
    → whole ≡ member_faults w kind (members_view (drop i all)) → i < length all → m ≡ get_or all i m
    → key ≡ m.0 → part ≡ member_part kind key
    → Refuses e (under (key_step key) (part_faults w part (view m.1))) → Refuses e whole
member_found w kind whole all i m key part e so_far lt is at how h =
    let here : under (key_step key) (part_faults w part (view m.1)) ≡ under (key_step m.0) (part_faults w (member_part kind m.0) (view m.1))
    = ap (λ q. under (key_step key) (part_faults w q (view m.1))) how
    ∙ ap (λ k. under (key_step k) (part_faults w (member_part kind k) (view m.1))) at in
    subst (Refuses e) (sym (so_far ∙ ap (λ es. member_faults w kind (members_view es)) (rest_is all i m lt is)))
    (in_front e (under (key_step m.0) (part_faults w (member_part kind m.0) (view m.1)))
    (member_faults w kind (members_view (drop (i + 1) all))) (subst (Refuses e) here h))

-- ---------------------------------------------------------------- what is printed

-- the items from i on, where both lists go on
both_go_on : (all : List Value) (printed : List Json) (i : ℕ) (item : Value) (v : Json) → i < length all → item ≡ get_or all i item
    → i < length printed → v ≡ get_or printed i v
    → items_unlike i (items_view (drop i all)) (drop i printed) ≡ under (index_step i) (unlike (view item) (Some v))
    ++ items_unlike (i + 1) (items_view (drop (i + 1) all)) (drop (i + 1) printed)
both_go_on all printed i item v lt is lp vs =
    ap (λ xs. items_unlike i (items_view xs) (drop i printed)) (rest_is all i item lt is)
    ∙ ap (items_unlike i (items_view (item ∷ drop (i + 1) all))) (rest_is printed i v lp vs)

pub text_found : (whole : List Broken) (all : List Value) (printed : List Json) (i : ℕ) (item : Value) (v : Json) (e : ReadFault)
    → whole ≡ items_unlike i (items_view (drop i all)) (drop i printed) → i < length all
    → item ≡ get_or all i item → i < length printed → v ≡ get_or printed i v
    → Refuses e (under (index_step i) (unlike (view item) (Some v))) → Refuses e whole
text_found whole all printed i item v e so_far lt is lp vs h =
    subst (Refuses e) (sym (so_far ∙ both_go_on all printed i item v lt is lp vs))
    (in_front e (under (index_step i) (unlike (view item) (Some v)))
    (items_unlike (i + 1) (items_view (drop (i + 1) all)) (drop (i + 1) printed)) h)

pub text_passed : (whole : List Broken) (all : List Value) (printed : List Json) (i : ℕ) (item : Value) (v : Json)
    → whole ≡ items_unlike i (items_view (drop i all)) (drop i printed) → i < length all
    → item ≡ get_or all i item → i < length printed → v ≡ get_or printed i v → under (index_step i) (unlike (view item) (Some v)) ≡ []
    → whole ≡ items_unlike (i + 1) (items_view (drop (i + 1) all)) (drop (i + 1) printed)
text_passed whole all printed i item v so_far lt is lp vs none =
    so_far ∙ both_go_on all printed i item v lt is lp vs
    ∙ past (under (index_step i) (unlike (view item) (Some v))) (items_unlike (i + 1) (items_view (drop (i + 1) all))
    (drop (i + 1) printed)) none

-- past what is printed
pub none_printed : (whole : List Broken) (all : List Value) (printed : List Json) (i : ℕ) (item : Value)
    → whole ≡ items_unlike i (items_view (drop i all)) (drop i printed) → i < length all
    → item ≡ get_or all i item → length printed ≤ i → whole ≡ []
none_printed whole all printed i item so_far lt is le =
    so_far ∙ ap (λ xs. items_unlike i (items_view xs) (drop i printed)) (rest_is all i item lt is)
    ∙ ap (items_unlike i (items_view (item ∷ drop (i + 1) all))) (drop_all i printed le)

pub field_found : (fs : List (List ℕ × Json)) (whole : List Broken) (all : Entries) (i : ℕ) (m : List ℕ × Value) (e : ReadFault)
    → whole ≡ members_unlike (members_view (drop i all)) fs → i < length all → m ≡ get_or all i m
    → Refuses e (under (key_step m.0) (unlike (view m.1) (find_key m.0 fs))) → Refuses e whole
field_found fs whole all i m e so_far lt is h =
    subst (Refuses e) (sym (so_far ∙ ap (λ es. members_unlike (members_view es) fs) (rest_is all i m lt is)))
    (in_front e (under (key_step m.0) (unlike (view m.1) (find_key m.0 fs))) (members_unlike (members_view (drop (i + 1) all)) fs) h)
