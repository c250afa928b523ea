-- Plans whose lists rise, so that they are searched by halving.
use Rattle.std.specs.Prelude.{ℕ, ◌<◌, List, length, slice_index_or}
use Rattle.world_plans.specs.declared.planning.Mishap.{Mishap}
use Rattle.world_plans.specs.declared.planning.Plan.{Plan}

-- the number of each element is less than those of all later ones
abbrev pub IsRisingBy : {A : Type 0} → (A → ℕ) → List A → Type 0
IsRisingBy {A} number xs = (i j : ℕ) (d : A) → i < j → j < length xs → number (slice_index_or xs i d) < number (slice_index_or xs j d)

-- the script is by rising attempts, and so are the twins
pub record IsRisingPlan (p : Plan) : Type 0 where
  pub script_rises : IsRisingBy (λ (m : Mishap). m.attempt) p.script
  pub twins_rise : IsRisingBy (λ n. n) p.twins
