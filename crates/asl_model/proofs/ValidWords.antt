-- The words of validity against the tests of its rules: where states lead, and what their retriers and catchers are.
use Rattle.std.proofs.Common.{◌≡◌, ℕ, zero, suc, ◌<◌, ◌≤◌, Bool, true, false, ◌&&◌, ◌||◌, ◌==◌, nat_lt, map, length, slice_get, List, [], ◌∷◌, ◌++◌, Option, Some, None, refl, sym, ap, ◌∙◌, subst, inl, inr, arith, ◌⊎◌}
use Rattle.std.proofs.lemmas.Bool.{ltb-false, le-ltb, ne_eqb}
use Rattle.std.proofs.lemmas.Slice.Eq.{bytes_eq-Decides}
use Rattle.std.specs.List.{list_any}
use Rattle.std.specs.Str.{bytes_eq}
use Rattle.asl_model.specs.Data.{Text, all_errors}
use Rattle.asl_model.specs.Machine.{State, Task, Pass, Choice, Succeed, Fail, Parallel, Map, TopRule, Retrier, Care, Catcher, care_of, head_of}
use Rattle.asl_model.specs.Laws.{In}
use Rattle.asl_model.specs.Valid.{one_or_none, catch_labels, labels, has_bad_errors, has_bad_care, CatchesTo, LeadsTo, AreNamed, IsCareful}
use Rattle.asl_model.proofs.Lists.{In-left, In-right, In-cases}

-- ---- tests

pub or_false : (a b : Bool) → a || b ≡ false → (a ≡ false) × (b ≡ false)
or_false true b e = absurd (cc)
or_false false b e = (refl, e)

pub or_either : (a b : Bool) → a || b ≡ true → (a ≡ true) ⊎ (b ≡ true)
or_either true b e = inl refl
or_either false b e = inr e

pub or_right : (a : Bool) → a || true ≡ true
or_right true = refl
or_right false = refl

pub any_false : {X : Type 0} (t : X → Bool) (xs : List X) → list_any t xs ≡ false → (x : X) → In x xs → t x ≡ false
any_false t [] e x i = absurd i
any_false t (y ∷ ys) e x i =
    let p = or_false (t y) (list_any t ys) e in
    elim i [ inl q ↦ ap t q ∙ p.0 | inr k ↦ any_false t ys p.1 x k ]

pub any_none : {X : Type 0} (t : X → Bool) (xs : List X) → ((x : X) → In x xs → t x ≡ false) → list_any t xs ≡ false
any_none t [] h = refl
any_none t (y ∷ ys) h = rw (h y (inl refl)) (any_none t ys (λ x i. h x (inr i)))

pub zero_false : (n : ℕ) → (n == 0) ≡ false → 0 < n
zero_false zero e = absurd (cc)
zero_false (suc n) e = omega arith

pub some_false : (n : ℕ) → 0 < n → (n == 0) ≡ false
some_false n l = ne_eqb n 0 (λ e. omega arith)

-- ---- where a state leads

image_in : {X Y : Type 0} (f : X → Y) (xs : List X) (x : X) → In x xs → In (f x) (map f xs)
image_in f [] x i = absurd i
image_in f (y ∷ ys) x i = elim i [ inl e ↦ inl (ap f e) | inr t ↦ inr (image_in f ys x t) ]

pub image_of : {X Y : Type 0} (f : X → Y) (xs : List X) (y : Y) → In y (map f xs) → (x : X) × In x xs × (f x ≡ y)
image_of f [] y i = absurd i
image_of f (x ∷ xs) y i = elim i [ inl e ↦ (x, inl refl, sym e) | inr t ↦ let (z, j, n) = image_of f xs y t in (z, inr j, n) ]

one_in : (m : Option Text) (name : Text) → m ≡ Some name → In name (one_or_none m)
one_in None name e = absurd (cc)
one_in (Some l) name e = inl (cc)

one_is : (m : Option Text) (name : Text) → In name (one_or_none m) → m ≡ Some name
one_is None name i = absurd i
one_is (Some l) name i = elim i [ inl e ↦ ap (λ z. Some z) (sym e) | inr t ↦ absurd t ]

catch_in : (care : Care) (name : Text) → CatchesTo care name → In name (catch_labels care)
catch_in care name (c, i, e) = subst (λ z. In z (catch_labels care)) e (image_in (λ (c : Catcher). c.next) care.catch c i)

on_in : (m : Option Text) (care : Care) (name : Text) → (m ≡ Some name) ⊎ CatchesTo care name → In name (one_or_none m ++ catch_labels care)
on_in m care name h =
    elim h [
      | inl e ↦ In-left (one_or_none m) (catch_labels care) name (one_in m name e)
      | inr c ↦ In-right (one_or_none m) (catch_labels care) name (catch_in care name c)
    ]

on_is : (m : Option Text) (care : Care) (name : Text) → In name (one_or_none m ++ catch_labels care) → (m ≡ Some name) ⊎ CatchesTo care name
on_is m care name i =
    elim (In-cases (one_or_none m) (catch_labels care) name i) [
      | inl a ↦ inl (one_is m name a)
      | inr b ↦ inr (image_of (λ (c : Catcher). c.next) care.catch name b)
    ]

abbrev RuleLeads : List TopRule → Text → Type 0
RuleLeads rules name = (r : TopRule) × In r rules × (r.next ≡ name)

rule_in : (rules : List TopRule) (name : Text) → RuleLeads rules name → In name (map (λ (r : TopRule). r.next) rules)
rule_in rules name (r, i, e) = subst (λ z. In z (map (λ (r : TopRule). r.next) rules)) e (image_in (λ (r : TopRule). r.next) rules r i)

choice_in : (rules : List TopRule) (m : Option Text) (name : Text) → RuleLeads rules name ⊎ (m ≡ Some name) → In name (map (λ (r : TopRule). r.next) rules ++ one_or_none m)
choice_in rules m name h =
    elim h [
      | inl r ↦ In-left (map (λ (r : TopRule). r.next) rules) (one_or_none m) name (rule_in rules name r)
      | inr e ↦ In-right (map (λ (r : TopRule). r.next) rules) (one_or_none m) name (one_in m name e)
    ]

choice_is : (rules : List TopRule) (m : Option Text) (name : Text) → In name (map (λ (r : TopRule). r.next) rules ++ one_or_none m) → RuleLeads rules name ⊎ (m ≡ Some name)
choice_is rules m name i =
    elim (In-cases (map (λ (r : TopRule). r.next) rules) (one_or_none m) name i) [
      | inl a ↦ inl (image_of (λ (r : TopRule). r.next) rules name a)
      | inr b ↦ inr (one_is m name b)
    ]

-- the names that a state leads to are its labels
pub leads_in : (s : State) (name : Text) → LeadsTo s name → In name (labels (head_of s))
leads_in (Task shape resource after care) name h = on_in after.next care name h
leads_in (Pass shape result after) name h = one_in after.next name h
leads_in (Choice shape rules default) name h = choice_in rules default name h
leads_in (Succeed shape) name h = absurd h
leads_in (Fail error cause) name h = absurd h
leads_in (Parallel shape bs after care) name h = on_in after.next care name h
leads_in (Map shape items selector b after care limit) name h = on_in after.next care name h

pub label_leads : (s : State) (name : Text) → In name (labels (head_of s)) → LeadsTo s name
label_leads (Task shape resource after care) name i = on_is after.next care name i
label_leads (Pass shape result after) name i = one_is after.next name i
label_leads (Choice shape rules default) name i = choice_is rules default name i
label_leads (Succeed shape) name i = absurd i
label_leads (Fail error cause) name i = absurd i
label_leads (Parallel shape bs after care) name i = on_is after.next care name i
label_leads (Map shape items selector b after care limit) name i = on_is after.next care name i

-- ---- error names

abbrev has_all : List Text → Bool
has_all names = list_any (λ name. bytes_eq name all_errors) names

all_found : (names : List Text) → In all_errors names → has_all names ≡ true
all_found [] i = absurd i
all_found (n ∷ ns) i =
    elim i [ inl e ↦ rw ((bytes_eq-Decides n all_errors).1 (sym e)) refl | inr t ↦ rw (all_found ns t) (or_right (bytes_eq n all_errors)) ]

found_all : (names : List Text) → has_all names ≡ true → In all_errors names
found_all [] e = absurd (cc)
found_all (n ∷ ns) e =
    elim (or_either (bytes_eq n all_errors) (has_all ns) e) [ inl h ↦ inl (sym ((bytes_eq-Decides n all_errors).0 h)) | inr t ↦ inr (found_all ns t) ]

single : (names : List Text) → In all_errors names → length names ≤ 1 → names ≡ all_errors ∷ []
single [] i l = absurd i
single (n ∷ []) i l = elim i [ inl e ↦ ap (λ z. z ∷ []) (sym e) | inr t ↦ absurd t ]
single (n ∷ m ∷ ms) i l = absurd (omega arith)

and_both : (t a b : Bool) → t && (a || b) ≡ false → t ≡ true → (a ≡ false) × (b ≡ false)
and_both true a b e h = or_false a b e
and_both false a b e h = absurd (cc)

and_by : (t b : Bool) → (t ≡ true → b ≡ false) → t && b ≡ false
and_by true b h = h refl
and_by false b h = refl

-- States.ALL in the first list stands alone, and no list follows
first_only : (names : List Text) (later : List (List Text)) → has_all names && (nat_lt 1 (length names) || nat_lt 0 (length later)) ≡ false → In all_errors names → (names ≡ all_errors ∷ []) × (length later ≤ 0)
first_only names later e a =
    let p = and_both (has_all names) (nat_lt 1 (length names)) (nat_lt 0 (length later)) e (all_found names a) in
    (single names a (ltb-false 1 (length names) p.0), ltb-false 0 (length later) p.1)

last_is : (names : List Text) (later : List (List Text)) → (In all_errors names → (names ≡ all_errors ∷ []) × (length later ≤ 0)) → AreNamed later → (i : ℕ) (ns : List Text) → slice_get (names ∷ later) i ≡ Some ns → In all_errors ns → suc i ≡ length (names ∷ later)
last_is names later first rest zero ns g a =
    let same : names ≡ ns = cc in
    let l : length later ≤ 0 = (first (subst (In all_errors) (sym same) a)).1 in
    omega arith
last_is names later first rest (suc i) ns g a = let e : suc i ≡ length later = rest.last i ns g a in omega arith

are_named : (lists : List (List Text)) → has_bad_errors lists ≡ false → AreNamed lists
are_named [] e = record { some_name = λ ns i. absurd i; alone = λ ns i a. absurd i; last = λ i ns g a. absurd (cc) }
are_named (names ∷ later) e =
    let p = or_false ((length names == 0) || (has_all names && (nat_lt 1 (length names) || nat_lt 0 (length later)))) (has_bad_errors later) e in
    let q = or_false (length names == 0) (has_all names && (nat_lt 1 (length names) || nat_lt 0 (length later))) p.0 in
    let rest : AreNamed later = are_named later p.1 in
    let first = first_only names later q.1 in
    record {
      some_name = λ ns i. elim i [ inl s ↦ subst (λ z. 0 < length z) (sym s) (zero_false (length names) q.0) | inr t ↦ rest.some_name ns t ];
      alone = λ ns i a. elim i [ inl s ↦ s ∙ (first (subst (In all_errors) s a)).0 | inr t ↦ rest.alone ns t a ];
      last = last_is names later first rest;
    }

rest_named : (names : List Text) (later : List (List Text)) → AreNamed (names ∷ later) → AreNamed later
rest_named names later h = record {
  some_name = λ ns i. h.some_name ns (inr i);
  alone = λ ns i a. h.alone ns (inr i) a;
  last = λ i ns g a. let e : suc (suc i) ≡ length (names ∷ later) = h.last (suc i) ns g a in omega arith;
}

first_fine : (names : List Text) (later : List (List Text)) → AreNamed (names ∷ later) → has_all names ≡ true → nat_lt 1 (length names) || nat_lt 0 (length later) ≡ false
first_fine names later h e =
    let a = found_all names e in
    let one : length names ≡ 1 = ap length (h.alone names (inl refl) a) in
    let none : suc 0 ≡ length (names ∷ later) = h.last 0 names refl a in
    rw (le-ltb 1 (length names) (omega arith), le-ltb 0 (length later) (omega arith)) refl

not_bad : (lists : List (List Text)) → AreNamed lists → has_bad_errors lists ≡ false
not_bad [] h = refl
not_bad (names ∷ later) h =
    rw (some_false (length names) (h.some_name names (inl refl)), and_by (has_all names) (nat_lt 1 (length names) || nat_lt 0 (length later)) (first_fine names later h)) (not_bad later (rest_named names later h))

-- ---- retriers and catchers

record NoneOfFive (a b c d e : Bool) : Type 0 where
  first : a ≡ false
  second : b ≡ false
  third : c ≡ false
  fourth : d ≡ false
  fifth : e ≡ false

five_false : (a b c d e : Bool) → a || b || c || d || e ≡ false → NoneOfFive a b c d e
five_false a b c d e h =
    let p4 = or_false (a || b || c || d) e h in
    let p3 = or_false (a || b || c) d p4.0 in
    let p2 = or_false (a || b) c p3.0 in
    let p1 = or_false a b p2.0 in
    record { first = p1.0; second = p1.1; third = p2.1; fourth = p3.1; fifth = p4.1 }

five_none : (a b c d e : Bool) → NoneOfFive a b c d e → a || b || c || d || e ≡ false
five_none a b c d e h = rw (h.first, h.second, h.third, h.fourth, h.fifth) refl

pub careful : (s : State) → has_bad_care s ≡ false → IsCareful (care_of s)
careful s h =
    let care : Care = care_of s in
    let p = five_false
    (has_bad_errors (map (λ (r : Retrier). r.errors) care.retry))
    (has_bad_errors (map (λ (c : Catcher). c.errors) care.catch))
    (list_any (λ (r : Retrier). nat_lt 99999999 r.most) care.retry)
    (nat_lt 16 (length care.retry))
    (nat_lt 16 (length care.catch))
    h in
    record {
      retriers = are_named (map (λ (r : Retrier). r.errors) care.retry) p.first;
      catchers = are_named (map (λ (c : Catcher). c.errors) care.catch) p.second;
      attempts = λ r i. ltb-false 99999999 r.most (any_false (λ (r : Retrier). nat_lt 99999999 r.most) care.retry p.third r i);
      few_retriers = ltb-false 16 (length care.retry) p.fourth;
      few_catchers = ltb-false 16 (length care.catch) p.fifth;
    }

pub no_bad_care : (s : State) → IsCareful (care_of s) → has_bad_care s ≡ false
no_bad_care s h =
    let care : Care = care_of s in
    five_none
    (has_bad_errors (map (λ (r : Retrier). r.errors) care.retry))
    (has_bad_errors (map (λ (c : Catcher). c.errors) care.catch))
    (list_any (λ (r : Retrier). nat_lt 99999999 r.most) care.retry)
    (nat_lt 16 (length care.retry))
    (nat_lt 16 (length care.catch))
    (record {
      first = not_bad (map (λ (r : Retrier). r.errors) care.retry) h.retriers;
      second = not_bad (map (λ (c : Catcher). c.errors) care.catch) h.catchers;
      third = any_none (λ (r : Retrier). nat_lt 99999999 r.most) care.retry (λ r i. le-ltb 99999999 r.most (h.attempts r i));
      fourth = le-ltb 16 (length care.retry) h.few_retriers;
      fifth = le-ltb 16 (length care.catch) h.few_catchers;
    })
