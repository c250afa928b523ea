-- What the numbers of a machine's functions stand for, and that a visit's place is a name's place.
use Rattle.std.specs.Prelude.{◌≡◌, ℕ, ◌<◌, ◌⊎◌, slice_get, Some}
use Rattle.place_name.specs.Names.{IsName}
use Rattle.place_name.specs.declared.limits.TheConstants.{SESSIONS}
use Rattle.asl_model.specs.Data.{Text, Json}
use Rattle.asl_model.specs.Names.{Answers}
use Rattle.asl_model.specs.Machine.{Block, State, state_of}
use Rattle.asl_model.specs.Step.{standard}
use Rattle.asl_model.specs.Central.{Visited, Entered, Visit, name_of, central}
use Rattle.asl_model.specs.Laws.{In}
use Rattle.asl_model.specs.Blocks.{Row, blocks, rows, visited_at, Function, function_at}
use Rattle.asl_model.specs.Walked.{HasRisingNames}
use Rattle.asl_model.specs.Valid.{IsValid}

-- function s is the Enter of scope s
abbrev pub EnterNumber : Type 0
EnterNumber = (root : Block) (s : ℕ) (b : Block) → slice_get (blocks root) s ≡ Some b → function_at root s ≡ Some (b, Entered)

-- what is visited in the block: its Enter, or what is visited at a state of it
abbrev pub IsVisitIn : Block → Visited → Type 0
IsVisitIn b v = (v ≡ Entered) ⊎ ((name : Text) × (s : State) × (state_of b name ≡ Some s) × In v (visited_at name s))

-- a number stands for a block of the machine with what is visited there
abbrev pub NumberMeans : Type 0
NumberMeans = (root : Block) → HasRisingNames root → (f : ℕ) (x : Function) → function_at root f ≡ Some x →
    In x.0 (blocks root) × IsVisitIn x.0 x.1

-- each block of the machine has a number for each that is visited there
abbrev pub EachHasNumber : Type 0
EachHasNumber = (root : Block) (b : Block) (v : Visited) → In b (blocks root) → IsVisitIn b v → (f : ℕ) × (function_at root f ≡ Some (b, v))

-- and it has one number
abbrev pub OneNumber : Type 0
OneNumber = (root : Block) → IsValid root → HasRisingNames root → (f g : ℕ) (x : Function) → function_at root f ≡ Some x →
    function_at root g ≡ Some x → f ≡ g

-- so each visit of a central run has a function
abbrev pub VisitHasNumber : Type 0
VisitHasNumber = (root : Block) (A : Answers) (session : ℕ) (input : Json) (v : Visit) →
    In v (central standard A root session input).visits → (f : ℕ) × (function_at root f ≡ Some (v.block, v.visited))

-- a state of the machine is found by its name
abbrev pub StateFound : Type 0
StateFound = (root : Block) → HasRisingNames root → (b : Block) → In b (blocks root) → (r : Row) → In r (rows b) → state_of b r.0 ≡ Some r.1

-- the name of each visit of a valid machine's central run is in the ranges of names
abbrev pub NamesInRange : Type 0
NamesInRange = (root : Block) → IsValid root → (A : Answers) (session : ℕ) → session < SESSIONS → (input : Json) (v : Visit) →
    In v (central standard A root session input).visits → IsName (name_of v)
