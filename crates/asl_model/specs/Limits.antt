-- Machines just within the bounds of validity, and just past them.
use Rattle.std.specs.Prelude.{◌≡◌, ℕ, zero, suc, ◌/◌, ◌%◌, replicate, List, [], ◌∷◌, None, Some, codes, false, true}
use Rattle.asl_model.specs.declared.validity.VRule.{VRule}
use Rattle.asl_model.specs.declared.validity.VRule.TheVariants.{V1, V2, V3, V4, V5, V6, V7, V8, V9, V10, V11}
use Rattle.asl_model.specs.Data.{Text}
use Rattle.asl_model.specs.Head.{Retrier, bare}
use Rattle.asl_model.specs.Machine.{Block, block, States, no_state, and_state, State, Task, Pass, Choice, Succeed, Parallel, Map, Blocks, no_block, and_block, Care, Catcher, After}
use Rattle.asl_model.specs.Valid.{Broken, broken, names_rule}
use Rattle.asl_model.specs.Examples.{whole, at_end, goes_to}

-- a block of one state
abbrev pub one_state : Text → State → Block
one_state name s = block name (and_state name s no_state)

abbrev pub ending : Text → Block
ending name = one_state name (Succeed whole)

-- one rule is broken, once
abbrev pub one : VRule → Text → Broken
one rule name = names_rule rule name ∷ []

-- ---- names

-- a name of so many characters of one byte
abbrev pub plain_name : ℕ → Text
plain_name n = replicate n 97

-- a name of so many characters of two bytes
abbrev pub wide_name : ℕ → Text
wide_name zero = []
wide_name (suc n) = 195 ∷ 169 ∷ wide_name n

abbrev pub NameLengths : Type 0
NameLengths =
    (broken (ending (plain_name 80)) ≡ [])
    × (broken (ending (plain_name 81)) ≡ one V4 (plain_name 81))
    × (broken (ending (wide_name 80)) ≡ [])
    × (broken (ending (wide_name 81)) ≡ one V4 (wide_name 81))
    × (broken (ending []) ≡ one V4 [])

-- ---- how many states, how many branches, and how deep

abbrev pub so_many : ℕ → States
so_many zero = no_state
so_many (suc n) = and_state (n / 100 ∷ n % 100 ∷ []) (Succeed whole) (so_many n)

abbrev pub StateCounts : Type 0
StateCounts =
    (broken (block (0 ∷ 0 ∷ []) (so_many 1000)) ≡ [])
    × (broken (block (0 ∷ 0 ∷ []) (so_many 1001)) ≡ one V9 (0 ∷ 0 ∷ []))

abbrev pub branches : ℕ → Blocks
branches zero = no_block
branches (suc n) = and_block (ending (n ∷ [])) (branches n)

abbrev pub parallel : ℕ → Block
parallel n = one_state (codes "Fan") (Parallel whole (branches n) at_end bare)

abbrev pub BranchCounts : Type 0
BranchCounts =
    (broken (parallel 0) ≡ one V7 (codes "Fan"))
    × (broken (parallel 1) ≡ [])
    × (broken (parallel 100) ≡ [])
    × (broken (parallel 101) ≡ one V7 (codes "Fan"))

-- so many Maps, each in the one before it: a block more than that
abbrev pub nest : ℕ → Block
nest zero = ending (codes "End")
nest (suc n) = one_state (n ∷ []) (Map whole [] None (nest n) at_end bare 0)

abbrev pub Depths : Type 0
Depths = (broken (nest 7) ≡ []) × (broken (nest 8) ≡ one V8 (0 ∷ []))

abbrev pub mapped : ℕ → Block
mapped limit = one_state (codes "Each") (Map whole [] None (ending (codes "End")) at_end bare limit)

abbrev pub Concurrency : Type 0
Concurrency = (broken (mapped 1000000) ≡ []) × (broken (mapped 1000001) ≡ one V11 (codes "Each"))

-- ---- retriers and catchers

abbrev pub task : Care → Block
task care = one_state (codes "T") (Task whole (codes "f") at_end care)

abbrev pub retrier : ℕ → List Text → Retrier
retrier most errors = record { errors = errors; most = most }

abbrev pub catcher : List Text → Catcher
catcher errors = record { errors = errors; result = Some []; next = codes "T" }

abbrev pub retried_by : List Retrier → Block
retried_by rs = task (record { retry = rs; catch = [] })

abbrev pub caught_by : List Catcher → Block
caught_by cs = task (record { retry = []; catch = cs })

abbrev pub an_error : List Text
an_error = codes "x" ∷ []

abbrev pub any_error : List Text
any_error = codes "States.ALL" ∷ []

abbrev pub CareCounts : Type 0
CareCounts =
    (broken (retried_by (replicate 16 (retrier 3 an_error))) ≡ [])
    × (broken (retried_by (replicate 17 (retrier 3 an_error))) ≡ one V10 (codes "T"))
    × (broken (caught_by (replicate 16 (catcher an_error))) ≡ [])
    × (broken (caught_by (replicate 17 (catcher an_error))) ≡ one V10 (codes "T"))

abbrev pub Attempts : Type 0
Attempts =
    (broken (retried_by (retrier 99999999 an_error ∷ [])) ≡ [])
    × (broken (retried_by (retrier 100000000 an_error ∷ [])) ≡ one V10 (codes "T"))

-- States.ALL stands alone, and last
abbrev pub ErrorNames : Type 0
ErrorNames =
    (broken (retried_by (retrier 3 an_error ∷ retrier 3 any_error ∷ [])) ≡ [])
    × (broken (retried_by (retrier 3 any_error ∷ retrier 3 an_error ∷ [])) ≡ one V10 (codes "T"))
    × (broken (retried_by (retrier 3 (codes "x" ∷ any_error) ∷ [])) ≡ one V10 (codes "T"))
    × (broken (retried_by (retrier 3 (codes "States.ALL" ∷ any_error) ∷ [])) ≡ one V10 (codes "T"))
    × (broken (retried_by (retrier 3 [] ∷ [])) ≡ one V10 (codes "T"))
    × (broken (caught_by (catcher an_error ∷ catcher any_error ∷ [])) ≡ [])
    × (broken (caught_by (catcher any_error ∷ catcher an_error ∷ [])) ≡ one V10 (codes "T"))
    × (broken (caught_by (catcher [] ∷ [])) ≡ one V10 (codes "T"))

-- ---- what leads where

-- a Pass with this Next and End
abbrev pub pass : After → Block
pass after = one_state (codes "P") (Pass whole None after)

abbrev pub Leads : Type 0
Leads =
    (broken (pass (goes_to (codes "P"))) ≡ [])
    × (broken (pass (goes_to (codes "Q"))) ≡ one V2 (codes "P"))
    × (broken (pass (record { next = Some (codes "P"); end = true })) ≡ one V5 (codes "P"))
    × (broken (pass (record { next = None; end = false })) ≡ one V5 (codes "P"))
    × (broken (task (record { retry = []; catch = record { errors = an_error; result = None; next = codes "Q" } ∷ [] }))
    ≡ one V2 (codes "T"))
    × (broken (one_state (codes "C") (Choice whole [] (Some (codes "C")))) ≡ one V6 (codes "C"))
    × (broken (one_state (codes "C") (Choice whole [] (Some (codes "Q")))) ≡ names_rule V2 (codes "C") ∷ names_rule V6 (codes "C") ∷ [])
    × (broken (block (codes "Q") (and_state (codes "P") (Succeed whole) no_state)) ≡ one V1 (codes "Q"))
    × (broken (one_state (codes "P") (Map whole [] None (ending (codes "P")) at_end bare 0)) ≡ one V3 (codes "P"))
