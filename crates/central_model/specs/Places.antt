-- The order of places, and answers in it.
use Rattle.std.specs.Prelude.{◌≡◌, List}
use Rattle.std.specs.List.{AllByRecursion}
use Rattle.std.specs.List.Sorted.{IsStrictlySortedBy}
use Rattle.std.specs.Map.{keys_of}
use Rattle.std.specs.declared.cmp.Ordering.{Ordering}
use Rattle.std.specs.declared.cmp.Ordering.TheVariants.{Less}
use Rattle.place_name.specs.Order.{name_order}
use Rattle.asl_model.specs.Data.{Outcome}
use Rattle.asl_model.specs.Names.{Place, Task}

-- places come as the names of Tasks there
abbrev pub place_order : Place → Place → Ordering
place_order p q = name_order (record { place = p; kind = Task }) (record { place = q; kind = Task })

-- the places of these answers rise
abbrev pub AreRising : List (Place × Outcome) → Type 0
AreRising answers = IsStrictlySortedBy place_order (keys_of answers)

-- the place comes behind theirs
abbrev pub IsBehind : List (Place × Outcome) → Place → Type 0
IsBehind answers p = AllByRecursion (λ q. place_order q p ≡ Less) (keys_of answers)
