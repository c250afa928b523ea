-- The numbers of the elements that a test takes, as a list of elements changes.
use Rattle.std.proofs.Common.{ℕ, zero, suc, ◌+◌, ◌≡◌, ◌≢◌, refl, sym, ap, ap₂, ◌∙◌, Bool, List, [], ◌∷◌, ◌++◌, length, slice_get, slice_set, Some, arith}
use Rattle.std.proofs.lemmas.List.{length-set, length_push}
use Rattle.world_model.proofs.Gets.{get_last}
use Rattle.world_plans.specs.Three.{numbers_from}
use Rattle.world_plans.specs.Changes.{numbers_set}
use Rattle.world_plans.proofs.Putting.{takes, numbers_change}
use Rattle.invoke_queue.specs.Numbers.{NumberSet, IsNumbered}
use Rattle.invoke_queue.proofs.Ranks.{numbers_written, set_same}

push_other : {A : Type 0} (xs : List A) (y : A) (j : ℕ) → j ≢ length xs → slice_get xs j ≡ slice_get (xs ++ y ∷ []) j
push_other [] y zero h = absurd (h refl)
push_other [] y (suc j) h = refl
push_other (x ∷ xs) y zero h = refl
push_other (x ∷ xs) y (suc j) h = push_other xs y j (λ e. h (ap suc e))

-- one element more
pub numbers_pushed : {A : Type 0} (test : ℕ → A → Bool) (xs : List A) (y : A) → numbers_from test 0 (xs ++ y ∷ []) ≡ numbers_set (test (length xs) y) (length xs) (numbers_from test 0 xs)
numbers_pushed test xs y =
    let n = length xs in
    let z : 0 + length xs ≡ length xs = omega arith in
    let here : takes test 0 n (slice_get (xs ++ y ∷ []) n) ≡ test n y = ap (takes test 0 n) (get_last xs y) ∙ ap (λ k. test k y) z in
    numbers_change test test (length xs + 1) 0 n xs (xs ++ y ∷ []) (omega arith) (let q : length (xs ++ y ∷ []) ≡ length xs + 1 = length_push xs y in omega (arith, q))
    (λ j q. ap (takes test 0 j) (push_other xs y j q))
    ∙ ap₂ (λ (b : Bool) k. numbers_set b k (numbers_from test 0 xs)) here z

-- an element that the test takes as before
pub numbers_kept : {A : Type 0} (test : ℕ → A → Bool) (n : ℕ) (xs : List A) (x y : A) → slice_get xs n ≡ Some x → test n y ≡ test n x → numbers_from test 0 (slice_set xs n y) ≡ numbers_from test 0 xs
numbers_kept test n xs x y e q =
    numbers_written test n xs x y e ∙ ap (λ (b : Bool). numbers_set b n (numbers_from test 0 xs)) q ∙ sym (numbers_written test n xs x x e) ∙ ap (numbers_from test 0) (set_same xs n x e)

pub numbered_none : {A : Type 0} (test : ℕ → A → Bool) → IsNumbered test [] (record { numbers = []; room = 0 })
unfolding numbers_from
numbered_none test = record { numbers_are = refl; room_is = refl }

module _ {A : Type 0} (test : ℕ → A → Bool) (xs : List A) (s : NumberSet) (h : IsNumbered test xs s) where
  pub numbered_push : (y : A) (b : Bool) (n : ℕ) (t : NumberSet) → n ≡ length xs → b ≡ test n y → t ≡ record { numbers = numbers_set b n s.numbers; room = s.room + 1 } → IsNumbered test (xs ++ y ∷ []) t
  numbered_push y b n t i q e = record {
    numbers_are =
        ap (λ (u : NumberSet). u.numbers) e ∙ ap (numbers_set b n) h.numbers_are
        ∙ ap₂ (λ c k. numbers_set c k (numbers_from test 0 xs)) (q ∙ ap (λ k. test k y) i) i ∙ sym (numbers_pushed test xs y);
    room_is = let p : t.room ≡ s.room + 1 = ap (λ (u : NumberSet). u.room) e in let l : s.room ≡ length xs = h.room_is in let z : length (xs ++ y ∷ []) ≡ length xs + 1 = length_push xs y in omega (arith, p, l, z);
  }

  pub numbered_set : (n : ℕ) (x y : A) (b : Bool) (t : NumberSet) → slice_get xs n ≡ Some x → b ≡ test n y → t ≡ record s { numbers = numbers_set b n s.numbers } → IsNumbered test (slice_set xs n y) t
  numbered_set n x y b t g q e = record {
    numbers_are =
        ap (λ (u : NumberSet). u.numbers) e ∙ ap (numbers_set b n) h.numbers_are
        ∙ ap (λ c. numbers_set c n (numbers_from test 0 xs)) q ∙ sym (numbers_written test n xs x y g);
    room_is = ap (λ (u : NumberSet). u.room) e ∙ h.room_is ∙ sym (length-set xs n y);
  }

  pub numbered_kept : (n : ℕ) (x y : A) → slice_get xs n ≡ Some x → test n y ≡ test n x → IsNumbered test (slice_set xs n y) s
  numbered_kept n x y g q = record {
    numbers_are = h.numbers_are ∙ sym (numbers_kept test n xs x y g q);
    room_is = h.room_is ∙ sym (length-set xs n y);
  }
