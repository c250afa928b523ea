-- Where a list of what is broken is empty.
use Rattle.std.proofs.Common.{◌≡◌, List, [], ◌∷◌, ◌++◌, Bool, true, false, refl}
use Rattle.bundle_read.specs.Bounds.{Place, broken_if}
use Rattle.bundle_read.specs.declared.refusal.BRule.{BRule}

pub front_none : {A : Type 0} (a b : List A) → a ++ b ≡ [] → a ≡ []
front_none [] b h = refl
front_none (x ∷ a) b h = absurd (cc)

pub rest_none : {A : Type 0} (a b : List A) → a ++ b ≡ [] → b ≡ []
rest_none [] b h = h
rest_none (x ∷ a) b h = absurd (cc)

pub not_broken : (b : Bool) (rule : BRule) (at : Place) → broken_if b rule at ≡ [] → b ≡ false
not_broken false rule at h = refl
not_broken true rule at h = absurd (cc)
