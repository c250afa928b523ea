-- The words of the command line.
use Rattle.std.specs.Prelude.{ℕ, ◌+◌, ◌-◌, ◌*◌, ◌≤◌, ◌&&◌, nat_le, List, [], ◌∷◌, take, drop, length, codes, Option, Some, None, option_map, if◌then◌else◌}
use Rattle.std.specs.Str.{bytes_eq}
use Rattle.unum_cli.specs.declared.commands.Command.{Command}
use Rattle.unum_cli.specs.declared.commands.RunOptions.{RunOptions}
use Rattle.unum_cli.specs.declared.commands.Command.TheVariants.{Bundle, Ir, Make}
use Rattle.unum_cli.specs.declared.commands.BundleCommand.TheVariants.{Validate, Compile, Central, Simulate}

abbrev pub Word : Type 0
Word = List ℕ

-- the number that decimal digits spell after those that gave n
unfoldable pub number_from : ℕ → Word → Option ℕ
number_from n [] = Some n
number_from n (d ∷ ds) = if nat_le 48 d && nat_le d 57 then number_from (n * 10 + (d - 48)) ds else None

abbrev pub within : (low high : ℕ) → Option ℕ → Option ℕ
within low high None = None
within low high (Some n) = if nat_le low n && nat_le n high then Some n else None

-- one to eight digits, and a number from 1 to the most
unfoldable pub number_within : (most : ℕ) → Word → Option ℕ
number_within most w = if nat_le 1 (length w) && nat_le (length w) 8 then within 1 most (number_from 0 w) else None

-- a limit is at most 10,000,000
abbrev pub limit_of : Word → Option ℕ
limit_of w = number_within 10000000 w

-- the value of an option in the spelling with a sign
abbrev pub value_of : Word → Option Word
value_of w = if bytes_eq (take 8 w) (codes "--limit=") then Some (drop 8 w) else None

abbrev pub joined_limit : Option Word → Option ℕ
joined_limit None = None
joined_limit (Some n) = limit_of n

-- the limit of the options: none is given, or one in one of its two spellings
abbrev pub limit_in : List Word → Option ℕ
limit_in [] = Some 1000000
limit_in (w ∷ []) = joined_limit (value_of w)
limit_in (w ∷ n ∷ []) = if bytes_eq w (codes "--limit") then limit_of n else None
limit_in _ = None

-- ---------------------------------------------------------------- the table of commands

-- a command's word, and what it is with its options
pub record Row : Type 0 where
  pub word : Word
  pub with_options : List Word → Option Command

abbrev pub without_options : Command → List Word → Option Command
without_options c [] = Some c
without_options c (w ∷ ws) = None

abbrev pub with_limit : (ℕ → Command) → List Word → Option Command
with_limit c ws = option_map c (limit_in ws)

-- so many sessions, from 1 to 1,000
abbrev pub with_sessions : (ℕ → Command) → List Word → Option Command
with_sessions c (n ∷ []) = option_map c (number_within 1000 n)
with_sessions c _ = None

-- the sequential runs of a bundle's sessions, to a limit
abbrev pub central : ℕ → Command
central limit = Bundle (Central limit)

-- the simulation of a bundle, to a limit
abbrev pub simulation : ℕ → Command
simulation limit = Bundle (Simulate limit)

-- all commands
abbrev pub commands : List Row
commands =
    record { word = codes "validate"; with_options = without_options (Bundle Validate) }
    ∷ record { word = codes "compile"; with_options = without_options (Bundle Compile) }
    ∷ record { word = codes "ir"; with_options = without_options Ir }
    ∷ record { word = codes "central"; with_options = with_limit central }
    ∷ record { word = codes "simulate"; with_options = with_limit simulation }
    ∷ record { word = codes "make"; with_options = with_sessions Make } ∷ []

abbrev pub command_in : List Row → Word → List Word → Option Command
command_in [] w ws = None
command_in (r ∷ rs) w ws = if bytes_eq w r.word then r.with_options ws else command_in rs w ws

-- the command that the words are
unfoldable pub command : List Word → Option Command
command [] = None
command (w ∷ ws) = command_in commands w ws

-- ---------------------------------------------------------------- the words of `run`

-- the value of `--workers` in the spelling with a sign
abbrev pub workers_value : Word → Option Word
workers_value w = if bytes_eq (take 10 w) (codes "--workers=") then Some (drop 10 w) else None

abbrev pub joined_workers : Option Word → Option ℕ
joined_workers None = None
joined_workers (Some n) = number_within 32 n

-- the workers of the option, in one of its two spellings: from 1 to 32
abbrev pub workers_in : List Word → Option ℕ
workers_in (w ∷ []) = joined_workers (workers_value w)
workers_in (w ∷ n ∷ []) = if bytes_eq w (codes "--workers") then number_within 32 n else None
workers_in _ = None

-- both, where both are there
abbrev pub run_with : Option ℕ → Option ℕ → Option RunOptions
run_with (Some workers) (Some limit) = Some (record { workers = workers; limit = limit })
run_with _ _ = None

-- the workers stand in the first n words, and the limit in the others
abbrev pub workers_first : (n : ℕ) → List Word → Option RunOptions
workers_first n ws = run_with (workers_in (take n ws)) (limit_in (drop n ws))

-- the limit stands in the first n words, and the workers in the others
abbrev pub limit_first : (n : ℕ) → List Word → Option RunOptions
limit_first n ws = run_with (workers_in (drop n ws)) (limit_in (take n ws))

abbrev pub or_else : Option RunOptions → Option RunOptions → Option RunOptions
or_else (Some o) p = Some o
or_else None p = p

-- the workers and, if it is given, a limit, in any order, each in one or in two words
abbrev pub run_in : List Word → Option RunOptions
run_in ws = or_else (workers_first 1 ws) (or_else (workers_first 2 ws) (or_else (limit_first 1 ws) (limit_first 2 ws)))

-- the options of `run`, where the words are it
unfoldable pub run_command : List Word → Option RunOptions
run_command [] = None
run_command (w ∷ ws) = if bytes_eq w (codes "run") then run_in ws else None

-- there are 1 to 32 workers, and the limit is at most 10,000,000
pub record IsLimitedRun (o : RunOptions) : Type 0 where
  pub some : 1 ≤ o.workers
  pub few : o.workers ≤ 32
  pub limit : o.limit ≤ 10000000

-- a limit is at most 10,000,000, and there are at most 1,000 sessions
abbrev pub IsLimited : Command → Type 0
IsLimited (Bundle (Central limit)) = limit ≤ 10000000
IsLimited (Bundle (Simulate limit)) = limit ≤ 10000000
IsLimited (Make sessions) = sessions ≤ 1000
IsLimited _ = Unit {0}
