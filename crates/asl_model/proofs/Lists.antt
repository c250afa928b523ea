-- Membership.
use Rattle.std.proofs.Common.{◌⊎◌, List, [], ◌∷◌, ◌++◌, inl, inr}
use Rattle.asl_model.specs.Laws.{In}

pub In-left : {X : Type 0} (xs ys : List X) (x : X) → In x xs → In x (xs ++ ys)
In-left [] ys x h = absurd h
In-left (z ∷ zs) ys x h = elim h [ inl e ↦ inl e | inr t ↦ inr (In-left zs ys x t) ]

pub In-right : {X : Type 0} (xs ys : List X) (x : X) → In x ys → In x (xs ++ ys)
In-right [] ys x h = h
In-right (z ∷ zs) ys x h = inr (In-right zs ys x h)

pub In-cases : {X : Type 0} (xs ys : List X) (x : X) → In x (xs ++ ys) → In x xs ⊎ In x ys
In-cases [] ys x h = inr h
In-cases (z ∷ zs) ys x h =
    elim h [ inl e ↦ inl (inl e) | inr t ↦ elim (In-cases zs ys x t) [ inl a ↦ inl (inr a) | inr b ↦ inr b ] ]
