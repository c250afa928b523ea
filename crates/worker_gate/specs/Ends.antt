-- What an end of work says.
use Rattle.std.specs.Prelude.{◌≡◌, ℕ, List, Bool, true, false}
use Rattle.worker_gate.specs.declared.worker.WorkEnd.{WorkEnd}
use Rattle.worker_gate.specs.declared.worker.WorkEnd.TheVariants.{Idle, Spent}

-- an end with nothing to do or with no room is a fact of the log
abbrev pub Tells : (List ℕ → Type 0) → (List ℕ → Type 0) → WorkEnd → List ℕ → Type 0
Tells idle full ended log = (ended ≡ Idle → idle log) × (ended ≡ Spent → full log)

-- the first end or the second
abbrev pub one_of : WorkEnd → WorkEnd → Bool → WorkEnd
one_of first second true = first
one_of first second false = second
