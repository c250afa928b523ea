-- What the queue counts: how often it tried each invocation, and how many of its attempts live.
use Rattle.std.specs.Prelude.{ℕ, ◌+◌, ◌≤◌, ◌≡◌, ◌&&◌, nat_eq, cond, List, [], ◌∷◌, slice_get, Some}
use Rattle.world_model.specs.AnyCode.World.{InvState, Attempt}

-- 1 where the attempt is a live one of that invocation
abbrev pub one_live : Attempt → (invocation : ℕ) → ℕ
one_live t k = cond (t.live && nat_eq t.inv k) 1 0

-- how many of an invocation's attempts live
abbrev pub live_count : (invocation : ℕ) → List Attempt → ℕ
live_count k [] = 0
live_count k (t ∷ ts) = one_live t k + live_count k ts

-- no invocation is tried more than 8 times, and how many of its attempts live is as the queue has it
pub record IsCounted (states : List InvState) (atts : List Attempt) : Type 0 where
  pub tries : (k : ℕ) (s : InvState) → slice_get states k ≡ Some s → s.tries ≤ 8
  pub live : (k : ℕ) (s : InvState) → slice_get states k ≡ Some s → s.live ≡ live_count k atts
