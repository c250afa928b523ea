-- What each built-in function answers.
use Rattle.std.specs.Prelude.{ℕ, ◌^◌, ◌%◌, nat_eq, nat_lt, Bool, if◌then◌else◌, List, [], ◌∷◌, Option, Some, None, ℤ, pos, negsuc, ◌+ℤ◌, codes, fold}
use Rattle.std.specs.List.{list_all}
use Rattle.std.specs.Option.{option_and_then, option_map}
use Rattle.unum_json.specs.declared.value.Json.{Json, out-Json}
use Rattle.unum_json.specs.declared.value.Json as json
use Rattle.unum_json.specs.declared.value.Json.TheOpen.{Json-F}
use Rattle.unum_json.specs.declared.outcome.Outcome.{Outcome}
use Rattle.unum_json.specs.declared.outcome.Outcome.TheVariants.{Done, Failed}
use Rattle.fn_table.specs.declared.kind.FnKind.{FnKind}
use Rattle.fn_table.specs.declared.kind.FnKind.TheVariants.{Echo, Const, Sum, Ticket, Flaky, Fail}

-- the failure of a function that broke
-- Source: Amazon States Language, "Errors", for the name of the error.
abbrev pub broken_with : List ℕ → Outcome
broken_with cause = Failed (record { error = codes "States.TaskFailed"; cause = cause })

-- the whole number that a value is
abbrev pub number_in : Json-F Json → Option ℤ
number_in (Json-F.Int n) = Some n
number_in _ = None

-- the whole numbers of an array, if it holds nothing else
abbrev pub numbers : List Json → Option (List ℤ)
numbers [] = Some []
numbers (v ∷ vs) = option_and_then (λ n. option_map (λ ns. n ∷ ns) (numbers vs)) (number_in (out-Json v))

-- the sums from the left, after s
abbrev pub sums_from : ℤ → List ℤ → List ℤ
sums_from s [] = []
sums_from s (n ∷ ns) = (s +ℤ n) ∷ sums_from (s +ℤ n) ns

-- whether a number is from -2^63 to 2^63 - 1
abbrev pub fits_i64 : ℤ → Bool
fits_i64 (pos n) = nat_lt n (2 ^ 63)
fits_i64 (negsuc n) = nat_lt n (2 ^ 63)

-- s and the numbers, if each sum from the left fits
abbrev pub sum_beyond : ℤ → List ℤ → Option ℤ
sum_beyond s ns = if list_all fits_i64 (sums_from s ns) then Some (fold ◌+ℤ◌ s ns) else None

-- s and the whole numbers of an array, if it holds nothing else and each sum from the left fits
abbrev pub total_from : ℤ → List Json → Option ℤ
total_from s vs = option_and_then (sum_beyond s) (numbers vs)

abbrev pub total_of : List Json → Option ℤ
total_of = total_from (pos 0)

-- the items of an array
abbrev pub items_in : Json-F Json → Option (List Json)
items_in (Json-F.Arr vs) = Some vs
items_in _ = None

abbrev pub sum_answer : Option ℤ → Outcome
sum_answer (Some n) = Done (json.Int n)
sum_answer None = broken_with (codes "sum")

-- what `sum` answers
abbrev pub summed : Json → Outcome
summed v = sum_answer (option_and_then total_of (items_in (out-Json v)))

-- what a function answers to an input, at a ticket: the number of the attempt that calls it
abbrev pub answer : FnKind → Json → ℕ → Outcome
answer Echo v t = Done v
answer (Const c) v t = Done c
answer Sum v t = summed v
answer Ticket v t = Done (json.Int (pos t))
answer (Flaky every) v t = if nat_eq (t % every) 0 then broken_with (codes "flaky") else Done v
answer (Fail f) v t = Failed f

-- a call: the function, its input and its ticket
pub record Asked : Type 0 where
  pub kind : FnKind
  pub input : Json
  pub ticket : ℕ
