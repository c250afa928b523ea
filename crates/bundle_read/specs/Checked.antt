-- What a check of a bundle's parts answers, unless memory runs out: nothing, or the first of what is broken.
use Rattle.std.specs.Prelude.{◌≡◌, List, [], ◌∷◌, Option, Some, None, Result, Ok, Err}
use Rattle.bundle_read.specs.declared.refusal.Refusal.{Refusal}
use Rattle.bundle_read.specs.declared.refusal.BundleError.{BundleError}
use Rattle.bundle_read.specs.declared.refusal.BundleError.TheVariants as error

abbrev pub first : {A : Type 0} → List A → Option A
first [] = None
first (x ∷ xs) = Some x

abbrev pub Checks : Result (Unit {0}) BundleError → List Refusal → Type 0
Checks (Ok u) broken = broken ≡ []
Checks (Err (error.Refused r)) broken = first broken ≡ Some r
Checks (Err error.NoMemory) broken = Unit {0}

-- the same of a part that comes with a value
abbrev pub Makes : {A : Type 0} → Result A BundleError → List Refusal → A → Type 0
Makes (Ok x) broken due = (broken ≡ []) × (x ≡ due)
Makes (Err (error.Refused r)) broken due = first broken ≡ Some r
Makes (Err error.NoMemory) broken due = Unit {0}
