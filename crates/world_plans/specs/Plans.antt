-- The plan of mishaps: which attempts crash and when, which have a twin, and which event is taken.
use Rattle.std.specs.Prelude.{ℕ, ◌+◌, ◌*◌, ◌%◌, ◌≡◌, Bool, false, ◌||◌, nat_eq, nat_lt, List, [], ◌∷◌, cond, Option, Some, None}
use Rattle.world_plans.specs.declared.planning.Mishap.{Mishap}
use Rattle.world_plans.specs.declared.planning.Plan.{Plan}

-- ---------------------------------------------------------------- the draw

-- the three numbers mixed into one
abbrev pub draw_seed : (seed n k : ℕ) → ℕ
draw_seed seed n k = (seed * 40503 + n * 9973 + k * 30011 + 1) % 65521

-- scattered once more
abbrev pub mixed_number : ℕ → ℕ
mixed_number x = (x * x * x + x) % 65521

-- a number below 65,521 that looks random
unfoldable pub draw : (seed n k : ℕ) → ℕ
draw seed n k = mixed_number (draw_seed seed n k)

-- ---------------------------------------------------------------- the plan

-- the step at which the script crashes an attempt
abbrev pub script_step : (attempt : ℕ) → List Mishap → Option ℕ
script_step n [] = None
script_step n (m ∷ ms) = cond (nat_eq m.attempt n) (Some m.step) (script_step n ms)

-- by the script, or else by the rate
abbrev pub or_by_rate : Plan → (attempt : ℕ) → Option ℕ → Option ℕ
or_by_rate p n (Some step) = Some step
or_by_rate p n None = cond (nat_lt (draw p.seed n 1 % 1000) p.crash) (Some (draw p.seed n 2 % 12)) None

-- after how many steps an attempt is to crash: by the script, and else by the rate of crashes
abbrev pub crash_step : Plan → (attempt : ℕ) → Option ℕ
crash_step p n = or_by_rate p n (script_step n p.script)

-- the number is in the list
abbrev pub has_number : ℕ → List ℕ → Bool
has_number n [] = false
has_number n (x ∷ xs) = nat_eq x n || has_number n xs

-- whether the invocation of an attempt is to be delivered again beside it: by the list of twins, or by the rate of repeats
abbrev pub twin : Plan → (attempt : ℕ) → Bool
twin p n = has_number n p.twins || nat_lt (draw p.seed n 3 % 1000) p.repeat

-- which of so many events is taken, where the history has that length
abbrev pub pick : Plan → (len of : ℕ) → ℕ
pick p len of = cond (nat_eq p.seed 0) 0 (draw p.seed len 0 % of)

-- a plan of no mishaps: no rates, no script and no twins
pub record HasNoMishap (p : Plan) : Type 0 where
  pub crash_none : p.crash ≡ 0
  pub repeat_none : p.repeat ≡ 0
  pub script_none : p.script ≡ []
  pub twins_none : p.twins ≡ []
