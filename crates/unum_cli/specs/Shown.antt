-- Words and what command they are, by examples.
use Rattle.std.specs.Prelude.{◌≡◌, ℕ, List, Option, [], ◌∷◌, ◌++◌, Some, None, codes}
use Rattle.unum_cli.specs.declared.commands.Command.TheVariants.{Make}
use Rattle.unum_cli.specs.declared.commands.RunOptions.{RunOptions}
use Rattle.unum_cli.specs.Words.{command, central, simulation, run_command}

abbrev pub spaced : List ℕ → List (List ℕ)
spaced n = codes "simulate" ∷ codes "--limit" ∷ n ∷ []

abbrev pub joined : List ℕ → List (List ℕ)
joined n = codes "simulate" ∷ (codes "--limit=" ++ n) ∷ []

-- 1 to 10,000,000, and 1,000,000 where none is given
abbrev pub LimitBounds : Type 0
LimitBounds =
    (command (codes "simulate" ∷ []) ≡ Some (simulation 1000000))
    × (command (spaced (codes "0")) ≡ None) × (command (spaced (codes "1")) ≡ Some (simulation 1))
    × (command (spaced (codes "10000000")) ≡ Some (simulation 10000000)) × (command (spaced (codes "10000001")) ≡ None)
    × (command (joined (codes "10000000")) ≡ Some (simulation 10000000)) × (command (joined (codes "10000001")) ≡ None)

-- one to eight digits
abbrev pub LimitDigits : Type 0
LimitDigits =
    (command (spaced (codes "00000001")) ≡ Some (simulation 1)) × (command (spaced (codes "000000001")) ≡ None)
    × (command (spaced []) ≡ None) × (command (spaced (codes "+1")) ≡ None) × (command (spaced (codes "1a")) ≡ None)

-- the same limits are those of `central`
abbrev pub CentralWords : Type 0
CentralWords =
    (command (codes "central" ∷ []) ≡ Some (central 1000000))
    × (command (codes "central" ∷ codes "--limit" ∷ codes "7" ∷ []) ≡ Some (central 7))
    × (command (codes "central" ∷ codes "--limit=0" ∷ []) ≡ None) × (command (codes "central" ∷ codes "7" ∷ []) ≡ None)

-- 1 to 1,000 sessions
abbrev pub MakeWords : Type 0
MakeWords =
    (command (codes "make" ∷ codes "1" ∷ []) ≡ Some (Make 1)) × (command (codes "make" ∷ codes "1000" ∷ []) ≡ Some (Make 1000))
    × (command (codes "make" ∷ codes "00000007" ∷ []) ≡ Some (Make 7))
    × (command (codes "make" ∷ []) ≡ None) × (command (codes "make" ∷ codes "0" ∷ []) ≡ None)
    × (command (codes "make" ∷ codes "1001" ∷ []) ≡ None)
    × (command (codes "make" ∷ codes "--limit=7" ∷ []) ≡ None)

-- `run` with these words behind it
abbrev pub running : List (List ℕ) → Option RunOptions
running ws = run_command (codes "run" ∷ ws)

-- 1 to 32 workers, and the limits of `simulate`, in any order
abbrev pub RunWords : Type 0
RunWords =
    (running [] ≡ None) × (running (codes "--limit" ∷ codes "7" ∷ []) ≡ None)
    × (running (codes "--workers" ∷ codes "0" ∷ []) ≡ None) × (running (codes "--workers=33" ∷ []) ≡ None)
    × (running (codes "--workers" ∷ codes "1" ∷ []) ≡ Some (record { workers = 1; limit = 1000000 }))
    × (running (codes "--workers=32" ∷ []) ≡ Some (record { workers = 32; limit = 1000000 }))
    × (running (codes "--limit=7" ∷ codes "--workers" ∷ codes "2" ∷ []) ≡ Some (record { workers = 2; limit = 7 }))
    × (running (codes "--workers=2" ∷ codes "--limit" ∷ codes "10000001" ∷ []) ≡ None)
