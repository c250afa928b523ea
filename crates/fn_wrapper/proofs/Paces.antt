-- The branches that a fan invokes itself, and the one that begins when a branch ends, by their indices.
use Rattle.std.proofs.Common.{◌≡◌, ◌≢◌, ℕ, zero, suc, ◌+◌, ◌≤◌, refl, ap, ◌∙◌, List, [], ◌∷◌, length, slice_get, Some, None, Bool, arith}
use Rattle.place_name.specs.Names.{Place}
use Rattle.world_model.specs.AnyCode.Operations.{Invoke}
use Rattle.world_model.specs.AnyCode.Acts.{enter_at, at_once, enter_ops, fan_ops}

-- ---------------------------------------------------------------- their Enters

enter_op_at : {S : Type 0} (p : Place) (i n : ℕ) (es : List S) (k : ℕ) (e : S) → slice_get es k ≡ Some e →
    slice_get (enter_ops {B = List Bool} p i n es) k ≡ Some (Invoke (enter_at e p (i + k) n))
enter_op_at p i n [] k e h = absurd (cc)
enter_op_at p i n (x ∷ es) zero e h =
    let same : x ≡ e = cc in
    let z : i ≡ i + 0 = omega arith in
    ap (λ y. Some (Invoke (enter_at y p i n))) same ∙ ap (λ j. Some (Invoke (enter_at e p j n))) z
enter_op_at p i n (x ∷ es) (suc k) e h =
    let z : suc i + k ≡ i + suc k = omega arith in
    enter_op_at p (suc i) n es k e h ∙ ap (λ j. Some (Invoke (enter_at e p j n))) z

enter_op_past : {S : Type 0} (p : Place) (i n : ℕ) (es : List S) (k : ℕ) → slice_get es k ≡ None →
    slice_get (enter_ops {B = List Bool} p i n es) k ≡ None
enter_op_past p i n [] k h = refl
enter_op_past p i n (x ∷ es) zero h = absurd (cc)
enter_op_past p i n (x ∷ es) (suc k) h = enter_op_past p (suc i) n es k h

enter_count : {S : Type 0} (p : Place) (i n : ℕ) (es : List S) → length (enter_ops {B = List Bool} p i n es) ≡ length es
enter_count p i n [] = refl
enter_count p i n (x ∷ es) = ap suc (enter_count p (suc i) n es)

-- the act of a fan with that number is the Enter of its branch with that index
pub fan_at : {S : Type 0} (w : ℕ) (p : Place) (j : S) (es : List S) (k : ℕ) (e : S) → slice_get (at_once w es) k ≡ Some e → es ≢ [] →
    slice_get (fan_ops {B = List Bool} w p j es) k ≡ Some (Invoke (enter_at e p k (length es)))
fan_at w p j [] k e h ne = absurd (ne refl)
fan_at w p j (x ∷ es) k e h ne = enter_op_at p 0 (suc (length es)) (at_once w (x ∷ es)) k e h
    ∙ ap (λ m. Some (Invoke (enter_at e p m (suc (length es))))) (let z : 0 + k ≡ k = omega arith in z)

pub fan_past : {S : Type 0} (w : ℕ) (p : Place) (j : S) (es : List S) (k : ℕ) → slice_get (at_once w es) k ≡ None → es ≢ [] →
    slice_get (fan_ops {B = List Bool} w p j es) k ≡ None
fan_past w p j [] k h ne = absurd (ne refl)
fan_past w p j (x ∷ es) k h ne = enter_op_past p 0 (suc (length es)) (at_once w (x ∷ es)) k h

pub fan_count : {S : Type 0} (w : ℕ) (p : Place) (j : S) (es : List S) → es ≢ [] →
    length (fan_ops {B = List Bool} w p j es) ≡ length (at_once w es)
fan_count w p j [] ne = absurd (ne refl)
fan_count w p j (x ∷ es) ne = enter_count p 0 (suc (length es)) (at_once w (x ∷ es))

-- so it is no longer than what the fan does
pub once_few : {S : Type 0} (w : ℕ) (p : Place) (j : S) (es : List S) (n : ℕ) → length (fan_ops {B = List Bool} w p j es) ≤ n →
    length (at_once w es) ≤ n
once_few zero p j [] n h = omega arith
once_few (suc w) p j [] n h = omega arith
once_few w p j (x ∷ es) n h = let e = enter_count p 0 (suc (length es)) (at_once w (x ∷ es)) in omega (arith, e, h)
