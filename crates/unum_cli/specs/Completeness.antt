-- When the limit of a world is spent, where its plan has no mishaps.
use Rattle.std.specs.Prelude.{ℕ, ◌≤◌, ◌<◌, Option, Some}
use Rattle.world_model.specs.Steady.{AllSteady}
use Rattle.world_plans.specs.Plans.{HasNoMishap}
use Rattle.central_model.specs.Asking.{functions_of}
use Rattle.unum_world.specs.declared.opening.Opening.{Opening}
use Rattle.unum_world.specs.Cost.{events_so_far, events_alone}
use Rattle.unum_cli.specs.declared.commands.Command.{Command}
use Rattle.unum_cli.specs.declared.commands.Command.TheVariants.{Bundle, Make}
use Rattle.unum_cli.specs.declared.commands.BundleCommand.TheVariants.{Simulate}
use Rattle.unum_cli.specs.declared.commands.RunOptions.{RunOptions}
use Rattle.unum_cli.specs.declared.answer.Status.{Status}
use Rattle.unum_cli.specs.declared.answer.Status.TheVariants.{Written, Spent}
use Rattle.unum_cli.specs.declared.answer.Desk.{Desk}
use Rattle.unum_cli.specs.declared.answer.Desk.TheVariants.{Empty, Open}
use Rattle.unum_cli.specs.Tool.{Due, World_due, OnDesk, made_opening}

-- ---------------------------------------------------------------- a limit and a cost

-- what the visits of the sequential runs of all sessions cost, on the answers of the functions
abbrev pub sequential_cost : Opening → ℕ
sequential_cost o = events_alone o (functions_of o.table)

-- with Spent, what the visits of the world on the desk cost so far reaches the limit
abbrev pub IsReached : Status → (limit : ℕ) → Desk → Type 0
IsReached Spent limit desk = OnDesk desk (λ p. limit ≤ events_so_far p)
IsReached _ limit desk = Unit {0}

-- with Spent the cost is above the limit, and with Written it is not
abbrev pub IsExact : Status → (limit cost : ℕ) → Type 0
IsExact Spent limit cost = limit < cost
IsExact Written limit cost = cost ≤ limit
IsExact _ limit cost = Unit {0}

-- The limit is spent only where what the visits cost so far reaches it; and where no function looks at its ticket, exactly where what
-- the visits of the sequential runs cost is above it.
pub record IsSpentByCost (o : Opening) (limit : ℕ) (status : Status) (desk : Desk) : Type 0 where
  pub reached : IsReached status limit desk
  pub exact : AllSteady o.table → IsExact status limit (sequential_cost o)

-- ---------------------------------------------------------------- what is answered

-- that is so of a world that is due, where its plan has no mishaps
abbrev pub Completes : Due → Status → Desk → Type 0
Completes (World_due told maker o limit) status desk = HasNoMishap o.plan → IsSpentByCost o limit status desk
Completes _ status desk = Unit {0}

-- and of the world on the desk, if there is one
abbrev pub DeskCompletes : (limit : ℕ) → Status → Desk → Type 0
DeskCompletes limit status Empty = Unit {0}
DeskCompletes limit status (Open p) = HasNoMishap p.opening.plan → IsSpentByCost p.opening limit status (Open p)

-- It is so whatever the bytes were: of the world that `simulate` leaves on the desk; and of that of `make`, whose plan has no mishaps
-- and whose functions do not look at their tickets.
abbrev pub SpendsByCost : Option Command → Status → Desk → Type 0
SpendsByCost (Some (Bundle (Simulate limit))) status desk = DeskCompletes limit status desk
SpendsByCost (Some (Make n)) status desk = IsReached status 1000000 desk × IsExact status 1000000 (sequential_cost (made_opening n))
SpendsByCost c status desk = Unit {0}

-- and of the world that `run` leaves on the desk
abbrev pub RunSpendsByCost : Option RunOptions → Status → Desk → Type 0
RunSpendsByCost (Some o) status desk = DeskCompletes o.limit status desk
RunSpendsByCost o status desk = Unit {0}
