-- One node of a walk, whatever follows it.
use Rattle.std.specs.Prelude.{◌≡◌, ℕ, Option}
use Rattle.asl_model.specs.Data.{Json}
use Rattle.asl_model.specs.Head.{Used}
use Rattle.unum_ir.specs.declared.walks.Step.{Step}
use Rattle.unum_ir.specs.declared.walks.Step.TheVariants as step
use Rattle.unum_ir.specs.Flat.{Ir, Stop, node_at, flat_in}

-- how a walk goes on
abbrev pub Going : Type 0
Going = ℕ → Json → Option Used → Stop

abbrev pub step_go : Step → Going → Stop
step_go (step.Goes next v again) go = go next v again
step_go (step.Stops stopped) go = stopped

-- the node with that number comes to this step
abbrev pub StepIs : Ir → Step → (label hop : ℕ) → Json → Option Used → Type 0
StepIs ir taken label hop raw again = (go : Going) → flat_in (node_at ir label) hop raw again go ≡ step_go taken go
