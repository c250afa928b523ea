-- Worked runs without mishaps, from their session's opening to the end, and what they cost.
use Rattle.std.specs.Prelude.{ℕ, zero, suc, ◌≡◌, [], ◌∷◌, length}
use Rattle.asl_model.specs.Head.{bare}
use Rattle.asl_model.specs.Machine.{Block}
use Rattle.world_model.specs.World.{World, codes as machines, effect, start}
use Rattle.world_model.specs.Rows.{opening, one_task, two_retries}
use Rattle.world_plans.specs.declared.planning.Plan.{Plan}
use Rattle.world_plans.specs.Chooser.{allowed_events}
use Rattle.calm_worlds.specs.Cost.{total_cost, total_marks}

-- how many events are allowed then, the events and the marks so far, and what the visits cost
pub record Tally : Type 0 where
  pub left : ℕ
  pub events : ℕ
  pub marks : ℕ
  pub cost : ℕ
  pub marks_cost : ℕ

-- a plan of no mishaps that takes the first event
abbrev pub calm_plan : Plan
calm_plan = record { seed = 0; crash = 0; repeat = 0; script = []; twins = [] }

-- the tally of a world after so many events
abbrev pub tally_at : World → (events : ℕ) → Tally
tally_at w n = record {
  left = length (allowed_events calm_plan machines w);
  events = n;
  marks = w.marks;
  cost = total_cost w;
  marks_cost = total_marks w;
}

-- the first event that is allowed, again and again, up to a bound
unfoldable pub tally_from : ℕ → World → (events : ℕ) → Tally
tally_from zero w n = tally_at w n
tally_from (suc f) w n = elim (allowed_events calm_plan machines w) [ [] ↦ tally_at w n | e ∷ es ↦ tally_from f (effect w e) (suc n) ]

-- the tally of that machine's run at its end
abbrev pub tally_of : Block → Tally
tally_of b = tally_from 60 (start (opening b)) 0

-- nothing is left, and the events and the marks are what the visits cost
abbrev pub Costs : (events marks : ℕ) → Tally → Type 0
Costs n m s = (s.left ≡ 0) × (s.events ≡ n) × (s.marks ≡ m) × (s.cost ≡ n) × (s.marks_cost ≡ m)

-- one Task: 9 events and 2 marks for its session's Enter, and as many for itself
abbrev pub OneTaskCosts : Type 0
OneTaskCosts = Costs 18 4 (tally_of (one_task bare))

-- with two more tries 10 and 2 more for each
abbrev pub RetriesCost : Type 0
RetriesCost = Costs 38 8 (tally_of (one_task two_retries))
