-- The items of an array, as the code has them.
use Rattle.std.proofs.Common.{◌≡◌, ◌==◌, List, [], ◌∷◌, length, map, Some, refl, ap}
use Rattle.std.proofs.Math.Dec.{eqb-suc-zero}
use Rattle.serde_json.specs.Data.{array}
use Rattle.unum_json.specs.Parsed.{view, items_view}
use Rattle.unum_json.specs.declared.parsed.Value.{Value}
use Rattle.asl_read.specs.Choices.{is_empty_array}
use Rattle.asl_read.specs.Parts.{items_in}

pub items_seen : (vs : List Value) → map view vs ≡ items_in (items_view vs)
items_seen [] = refl
items_seen (v ∷ vs) = ap (λ ds. view v ∷ ds) (items_seen vs)

pub empty_seen : (vs : List Value) → (length vs == 0) ≡ is_empty_array (Some (array (items_view vs)))
empty_seen [] = refl
empty_seen (v ∷ vs) = eqb-suc-zero (length vs)
