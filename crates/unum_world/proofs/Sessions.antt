-- How sessions stand and are counted, session by session and invocation by invocation.
use Rattle.std.proofs.Common.{ℕ, zero, suc, ◌<◌, ◌≡◌, refl, sym, ap, ◌∙◌, true, false, not, ◌&&◌, ◌||◌, nat_eq, List, [], ◌∷◌, drop, length, slice_get, Some, None}
use Rattle.world_types.specs.declared.queue.InvState.{InvState}
use Rattle.world_model.specs.AnyCode.Operations.{Invocation}
use Rattle.world_model.specs.Numbered.{Numbered}
use Rattle.world_model.specs.World as model
use Rattle.world_plans.specs.declared.totals.Counts.{Counts}
use Rattle.world_plans.specs.Sessions.{is_over, all_over, standing, counts_with, count_from}
use Rattle.unum_world.proofs.Opened.{dropped, has_item}

-- ---------------------------------------------------------------- invocations

-- past the end of a list nothing is left of it
nothing_left : {A : Type 0} (xs : List A) (k : ℕ) → slice_get xs k ≡ None → drop k xs ≡ []
nothing_left [] zero e = refl
nothing_left [] (suc k) e = refl
nothing_left (x ∷ xs) zero e = absurd (cc)
nothing_left (x ∷ xs) (suc k) e = nothing_left xs k e

over_none : (s : ℕ) (is : List (Invocation ℕ)) → all_over s is [] ≡ true
unfolding all_over
over_none s [] = refl
over_none s (i ∷ is) = refl

module _ (s k : ℕ) (is : List (Invocation ℕ)) (ts : List InvState) where
  -- where an invocation has no state, all are over
  pub over_past : slice_get ts k ≡ None → all_over s (drop k is) (drop k ts) ≡ true
  over_past e = ap (all_over s (drop k is)) (nothing_left ts k e) ∙ over_none s (drop k is)

  module _ (i : Invocation ℕ) (t : InvState) (e : slice_get is k ≡ Some i) (f : slice_get ts k ≡ Some t) where
    over_here : all_over s (drop k is) (drop k ts) ≡ (not (nat_eq i.name.place.session s) || is_over t) && all_over s (drop (suc k) is) (drop (suc k) ts)
    unfolding all_over
    over_here = ap (λ xs. all_over s xs (drop k ts)) (dropped is k i e) ∙ ap (all_over s (i ∷ drop (suc k) is)) (dropped ts k t f)

    -- an invocation that is over, or of another session, says nothing
    pub over_more : (n : ℕ) → n ≡ suc k → not (nat_eq i.name.place.session s) || is_over t ≡ true →
        all_over s (drop k is) (drop k ts) ≡ all_over s (drop n is) (drop n ts)
    over_more n m b =
        over_here ∙ ap (λ z. z && all_over s (drop (suc k) is) (drop (suc k) ts)) b ∙ sym (ap (λ z. all_over s (drop z is) (drop z ts)) m)

    -- and any other shows that not all are
    pub over_not : not (nat_eq i.name.place.session s) || is_over t ≡ false → all_over s (drop k is) (drop k ts) ≡ false
    over_not b = over_here ∙ ap (λ z. z && all_over s (drop (suc k) is) (drop (suc k) ts)) b

-- ---------------------------------------------------------------- sessions

-- one session more is counted
module _ (w : Numbered) (k : ℕ) (xs : List model.Session) where
  pub count_more : (n : ℕ) (c d all : Counts) → n ≡ suc k → k < length xs → count_from w k (drop k xs) c ≡ all → d ≡ counts_with (standing w k) c →
      count_from w n (drop n xs) d ≡ all
  unfolding count_from
  count_more n c d all m l p q =
      let (x, e) = has_item xs k l in
      ap (λ z. count_from w z (drop z xs) d) m ∙ ap (count_from w (suc k) (drop (suc k) xs)) q
      ∙ sym (ap (λ ys. count_from w k ys c) (dropped xs k x e)) ∙ p
