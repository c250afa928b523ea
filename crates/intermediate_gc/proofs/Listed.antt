-- Where an object stands in the list of those that are due, and which scopes are a session's own.
use Rattle.std.proofs.Common.{◌≡◌, ◌≢◌, ℕ, zero, suc, ◌+◌, ◌-◌, ◌<◌, ◌≤◌, List, [], ◌∷◌, ◌++◌, slice_get, Option, Some, None}
use Rattle.std.proofs.Common.{refl, sym, ap, ◌∙◌, arith}
use Rattle.place_name.specs.declared.obj.Obj.{Obj}
use Rattle.place_name.specs.declared.obj.Obj.TheVariants.{Out}
use Rattle.place_name.specs.Names.{Seg, Scope, Place, Parent}
use Rattle.world_model.specs.AnyCode.Names.{child, Split, split_more, split_last, parent_in, parent_of}
use Rattle.world_model.specs.AnyCode.Acts.{out_objects}

-- ---------------------------------------------------------------- outcomes

-- the outcome at an index is that of the branch
pub out_at : (p : Place) (index count left i : ℕ) (rest : List Obj) → i < left →
    slice_get (out_objects p index count left ++ rest) i ≡ Some (Out (child p (index + i) count))
out_at p index count zero i rest h = absurd (omega arith)
out_at p index count (suc left) zero rest h = ap (λ k. Some (Out (child p k count))) (let e : index ≡ index + 0 = omega arith in e)
out_at p index count (suc left) (suc i) rest h =
    out_at p (suc index) count left i rest (omega arith)
    ∙ ap (λ k. Some (Out (child p k count))) (let e : suc index + i ≡ index + suc i = omega arith in e)

-- from the first branch on
pub first_out_at : (p q : Place) (count i : ℕ) (rest : List Obj) → i < count → p ≡ q →
    Some (Out (child p i count)) ≡ slice_get (out_objects q 0 count count ++ rest) i
first_out_at p q count i rest h e =
    ap (λ r. Some (Out (child r i count))) e
    ∙ (ap (λ k. Some (Out (child q k count))) (let z : i ≡ 0 + i = omega arith in z) ∙ sym (out_at q 0 count count i rest h))

-- past the outcomes stands the rest
pub after_outs : (p : Place) (index count left i : ℕ) (rest : List Obj) → left ≤ i →
    slice_get (out_objects p index count left ++ rest) i ≡ slice_get rest (i - left)
after_outs p index count zero i rest h = ap (slice_get rest) (let e : i ≡ i - 0 = omega arith in e)
after_outs p index count (suc left) zero rest h = absurd (omega arith)
after_outs p index count (suc left) (suc i) rest h =
    after_outs p (suc index) count left i rest (omega arith) ∙ ap (slice_get rest) (let e : i - left ≡ suc i - suc left = omega arith in e)

-- ---------------------------------------------------------------- a session's own scope

-- which has no branch that it is
pub no_parent : (s : Scope) → s.trail ≡ [] → parent_of s ≡ None
unfolding parent_of
no_parent s e = ap (λ t. parent_in s.session (split_last t)) e

-- any other is a branch
pub some_parent : (s : Scope) → s.trail ≢ [] → (q : Parent) × (parent_of s ≡ Some q)
unfolding parent_of
some_parent s ne = by s.trail refl
  where
    more : (g : Seg) (x : Option Split) → (q : Parent) × (parent_in s.session (split_more g x) ≡ Some q)
    more g None = (_, refl)
    more g (Some x) = (_, refl)

    by : (t : List Seg) → s.trail ≡ t → (q : Parent) × (parent_in s.session (split_last s.trail) ≡ Some q)
    by [] e = absurd (ne e)
    by (g ∷ t) e = let m = more g (split_last t) in (m.0, ap (λ t. parent_in s.session (split_last t)) e ∙ m.1)
