-- The stops that are kept beside attempts, after each event.
use Rattle.std.proofs.Common.{ℕ, zero, suc, ◌+◌, ◌≡◌, ◌≢◌, ◌⊎◌, ◌<◌, refl, sym, ap, ◌∙◌, subst, inl, inr, arith, Bool, true, false, List, [], ◌∷◌, ◌++◌, length, slice_get, slice_set, Option, Some, None}
use Rattle.std.proofs.lemmas.Option.{same_Some}
use Rattle.std.proofs.lemmas.List.{length-set, length_push}
use Rattle.world_model.specs.AnyCode.Code.{Stop}
use Rattle.world_model.specs.AnyCode.Operations.{Kept, Invocation}
use Rattle.world_model.specs.AnyCode.Acts.{stop_of}
use Rattle.world_model.specs.AnyCode.Program.{Looking, Acting}
use Rattle.world_model.specs.AnyCode.World.{Attempt, Codes, code_of}
use Rattle.world_model.proofs.Gets.{get_pushed_at, get_append, place_of}
use Rattle.fn_wrapper.specs.Ready.{IsStopOf}
use Rattle.unum_world.specs.OneStep.{is_acting, stops_with}
use Rattle.unum_world.specs.Kept.{stop_in}

-- ---------------------------------------------------------------- lists

pub set_other : {A : Type 0} (xs : List A) (i k : ℕ) (y : A) → k ≢ i → slice_get (slice_set xs i y) k ≡ slice_get xs k
set_other [] i k y h = refl
set_other (x ∷ xs) zero zero y h = absurd (h refl)
set_other (x ∷ xs) zero (suc k) y h = refl
set_other (x ∷ xs) (suc i) zero y h = refl
set_other (x ∷ xs) (suc i) (suc k) y h = set_other xs i k y (λ e. h (ap suc e))

pub set_at : {A : Type 0} (xs : List A) (i : ℕ) (y : A) → i < length xs → slice_get (slice_set xs i y) i ≡ Some y
set_at [] i y h = absurd (omega arith)
set_at (x ∷ xs) zero y h = refl
set_at (x ∷ xs) (suc i) y h = set_at xs i y (omega arith)

pub append_left : {A : Type 0} (xs ys : List A) (k : ℕ) → k < length xs → slice_get (xs ++ ys) k ≡ slice_get xs k
append_left [] ys k h = absurd (omega arith)
append_left (x ∷ xs) ys zero h = refl
append_left (x ∷ xs) ys (suc k) h = append_left xs ys k (omega arith)

pub append_before : {A : Type 0} (xs : List A) (y : A) (k : ℕ) → k < length xs → slice_get (xs ++ y ∷ []) k ≡ slice_get xs k
append_before [] y k h = absurd (omega arith)
append_before (x ∷ xs) y zero h = refl
append_before (x ∷ xs) y (suc k) h = append_before xs y k (omega arith)

-- an element of a list with one changed: the new one at its number, or an old one elsewhere
pub set_cases : {A : Type 0} (xs : List A) (i : ℕ) (y : A) (k : ℕ) (x : A) → slice_get (slice_set xs i y) k ≡ Some x →
    ((k ≡ i) × (y ≡ x)) ⊎ ((k ≢ i) × (slice_get xs k ≡ Some x))
set_cases [] i y k x e = absurd (cc)
set_cases (z ∷ xs) zero y zero x e = inl (refl, same_Some y x e)
set_cases (z ∷ xs) zero y (suc k) x e = inr (λ q. omega arith, e)
set_cases (z ∷ xs) (suc i) y zero x e = inr (λ q. omega arith, e)
set_cases (z ∷ xs) (suc i) y (suc k) x e = elim (set_cases xs i y k x e) [
  | inl p ↦ inl (ap suc p.0, p.1)
  | inr p ↦ inr (λ q. p.0 (suc_is k i q), p.1)
]
  where
    suc_is : (m n : ℕ) → suc m ≡ suc n → m ≡ n
    suc_is m n q = omega arith

-- ---------------------------------------------------------------- what is kept

-- a place for each attempt, and in the place of each that lives and acts its stop
pub record AreStops (codes : Codes ℕ) (invs : List (Invocation ℕ)) (atts : List Attempt) (stops : List (Option (Stop ℕ))) : Type 0 where
  pub places : length stops ≡ length atts
  pub stops_are :
      (a : ℕ) (t : Attempt) (i : Invocation ℕ) → slice_get atts a ≡ Some t → t.live ≡ true → slice_get invs t.inv ≡ Some i →
      IsStopOf (code_of codes i) i t.phase (stop_in (slice_get stops a))

-- each attempt's invocation is there
abbrev ArePlaced : List (Invocation ℕ) → List Attempt → Type 0
ArePlaced invs atts = (a : ℕ) (t : Attempt) → slice_get atts a ≡ Some t → t.inv < length invs

-- a new attempt, which looks first
pub stops_push : (codes : Codes ℕ) (invs : List (Invocation ℕ)) (atts : List Attempt) (stops : List (Option (Stop ℕ))) →
    AreStops codes invs atts stops → (u : Attempt) → u.phase ≡ Looking → AreStops codes invs (atts ++ u ∷ []) (stops ++ None ∷ [])
stops_push codes invs atts stops h u e = record {
  places = length_push stops None ∙ ap (λ n. n + 1) h.places ∙ sym (length_push atts u);
  stops_are = λ a t i f l g. elim (get_pushed_at atts u a t f) [
    | inl p ↦
        let b : a < length atts = place_of atts a t p in
        let s : length stops ≡ length atts = h.places in
        subst (λ z. IsStopOf (code_of codes i) i t.phase (stop_in z)) (sym (append_before stops None a (omega arith))) (h.stops_are a t i p l g)
    | inr p ↦ λ k m q. absurd (let z : Looking ≡ Acting k m = sym e ∙ ap (λ (x : Attempt). x.phase) p.1 ∙ q in cc)
  ];
}

same_length : {A B : Type 0} (xs : List A) (ys : List B) (a : ℕ) (x : A) (y : B) → length ys ≡ length xs → length (slice_set ys a y) ≡ length (slice_set xs a x)
same_length xs ys a x y e = length-set ys a y ∙ e ∙ sym (length-set xs a x)

-- an attempt that ends, with its stop let go
pub stops_end : (codes : Codes ℕ) (invs : List (Invocation ℕ)) (atts : List Attempt) (stops : List (Option (Stop ℕ))) →
    AreStops codes invs atts stops → (a : ℕ) (u : Attempt) → u.live ≡ false →
    AreStops codes invs (slice_set atts a u) (slice_set stops a None)
stops_end codes invs atts stops h a u e = record {
  places = same_length atts stops a u None h.places;
  stops_are = λ b t i f l g. elim (set_cases atts a u b t f) [
    | inl p ↦ absurd (let z : false ≡ true = sym e ∙ ap (λ (x : Attempt). x.live) p.1 ∙ l in cc)
    | inr p ↦ subst (λ z. IsStopOf (code_of codes i) i t.phase (stop_in z)) (sym (set_other stops a b None p.0)) (h.stops_are b t i p.1 l g)
  ];
}

-- an attempt that moves and acts only if it acted before by the same checkpoint, with its stop as before
pub stops_stay : (codes : Codes ℕ) (invs : List (Invocation ℕ)) (atts : List Attempt) (stops : List (Option (Stop ℕ))) →
    AreStops codes invs atts stops → (a : ℕ) (t u : Attempt) (i : Invocation ℕ) → slice_get atts a ≡ Some t → t.live ≡ true →
    slice_get invs t.inv ≡ Some i → u.inv ≡ t.inv → ((k : Kept) (m : ℕ) → u.phase ≡ Acting k m → t.phase ≡ Acting k m) →
    AreStops codes invs (slice_set atts a u) stops
stops_stay codes invs atts stops h a t u i e l g j f = record {
  places = h.places ∙ sym (length-set atts a u);
  stops_are = λ b v k e2 l2 g2. elim (set_cases atts a u b v e2) [
    | inl p ↦
        let same : i ≡ k = same_Some i k (sym g ∙ ap (slice_get invs) (sym j ∙ ap (λ (x : Attempt). x.inv) p.1) ∙ g2) in
        subst (λ z. IsStopOf (code_of codes z) z v.phase (stop_in (slice_get stops b))) same
        (subst (λ z. IsStopOf (code_of codes i) i v.phase (stop_in (slice_get stops z))) (sym p.0)
        (subst (λ (z : Attempt). IsStopOf (code_of codes i) i z.phase (stop_in (slice_get stops a))) p.1 own))
    | inr p ↦ h.stops_are b v k p.1 l2 g2
  ];
}
  where
    own : IsStopOf (code_of codes i) i u.phase (stop_in (slice_get stops a))
    own k m q = h.stops_are a t i e l g k m (f k m q)

with_length : (stops : List (Option (Stop ℕ))) (a : ℕ) (s : Option (Stop ℕ)) (b : Bool) → length (stops_with stops a s b) ≡ length stops
with_length stops a (Some s) b = length-set stops a (Some s)
with_length stops a None true = refl
with_length stops a None false = length-set stops a None

with_other : (stops : List (Option (Stop ℕ))) (a : ℕ) (s : Option (Stop ℕ)) (b : Bool) (k : ℕ) → k ≢ a →
    slice_get (stops_with stops a s b) k ≡ slice_get stops k
with_other stops a (Some s) b k h = set_other stops a k (Some s) h
with_other stops a None true k h = refl
with_other stops a None false k h = set_other stops a k None h

-- an attempt that moves: where it acts now, it adopted a checkpoint of that stop, or it acted before by the same checkpoint
pub stops_move : (codes : Codes ℕ) (invs more : List (Invocation ℕ)) (atts : List Attempt) (stops : List (Option (Stop ℕ))) →
    AreStops codes invs atts stops → ArePlaced invs atts → (a : ℕ) (t u : Attempt) (i : Invocation ℕ) (s : Option (Stop ℕ)) → slice_get atts a ≡ Some t →
    t.live ≡ true → slice_get invs t.inv ≡ Some i → u.inv ≡ t.inv →
    ((k : Kept) (m : ℕ) → u.phase ≡ Acting k m → (s ≡ Some (stop_of (code_of codes i) i k)) ⊎ ((n : ℕ) × (t.phase ≡ Acting k n) × (s ≡ None))) →
    AreStops codes (invs ++ more) (slice_set atts a u) (stops_with stops a s (is_acting u.phase))
stops_move codes invs more atts stops h placed a t u i s e l g j f = record {
  places = with_length stops a s (is_acting u.phase) ∙ h.places ∙ sym (length-set atts a u);
  stops_are = λ b v k e2 l2 g2. elim (set_cases atts a u b v e2) [
    | inl p ↦
        let same : i ≡ k = same_Some i k (sym (get_append invs more t.inv i g) ∙ ap (slice_get (invs ++ more)) (sym j ∙ ap (λ (x : Attempt). x.inv) p.1) ∙ g2) in
        let own : IsStopOf (code_of codes i) i u.phase (stop_in (slice_get (stops_with stops a s (is_acting u.phase)) a)) = moved in
        subst (λ z. IsStopOf (code_of codes z) z v.phase (stop_in (slice_get (stops_with stops a s (is_acting u.phase)) b))) same
        (subst (λ z. IsStopOf (code_of codes i) i v.phase (stop_in (slice_get (stops_with stops a s (is_acting u.phase)) z))) (sym p.0)
        (subst (λ (z : Attempt). IsStopOf (code_of codes i) i z.phase (stop_in (slice_get (stops_with stops a s (is_acting u.phase)) a))) p.1 own))
    | inr p ↦
        subst (λ z. IsStopOf (code_of codes k) k v.phase (stop_in z)) (sym (with_other stops a s (is_acting u.phase) b p.0))
        (h.stops_are b v k p.1 l2 (sym (append_left invs more v.inv (placed b v p.1)) ∙ g2))
  ];
}
  where
    within : a < length stops
    within = let b : a < length atts = place_of atts a t e in let c : length stops ≡ length atts = h.places in omega arith

    moved : IsStopOf (code_of codes i) i u.phase (stop_in (slice_get (stops_with stops a s (is_acting u.phase)) a))
    moved k m q = elim (f k m q) [
      | inl r ↦
          ap (λ z. stop_in (slice_get (stops_with stops a z (is_acting u.phase)) a)) r
          ∙ ap stop_in (set_at stops a (Some (stop_of (code_of codes i) i k)) within)
      | inr r ↦
          ap (λ z. stop_in (slice_get (stops_with stops a z (is_acting u.phase)) a)) r.2
          ∙ ap (λ z. stop_in (slice_get (stops_with stops a None (is_acting z)) a)) q
          ∙ h.stops_are a t i e l g k r.0 r.1
    ]
