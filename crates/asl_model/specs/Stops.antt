-- What a stop stands for, and that each list used has one number for each retrier of its state.
use Rattle.std.specs.Prelude.{◌≡◌, ℕ, ◌<◌, length, List, Option, Some, None}
use Rattle.asl_model.specs.Data.{Text, Json, Outcome}
use Rattle.asl_model.specs.Names.{Scope, Answers}
use Rattle.asl_model.specs.Machine.{Used, Block, State, state_of, care_of}
use Rattle.asl_model.specs.Step.{Calls, Fans, standard}
use Rattle.asl_model.specs.Central.{hop_limit, Visited, Entered, Called, Joined, Visit, scope}
use Rattle.asl_model.specs.Stretch.{Stop, Call, Fan, Over, children, stretch, after}
use Rattle.asl_model.specs.Laws.{In}

-- one number for each retrier of the state of that name
abbrev pub FitsState : Block → Text → Used → Type 0
FitsState b name used = (s : State) → state_of b name ≡ Some s → length used ≡ length (care_of s).retry

abbrev pub FitsVisited : Block → Visited → Used → Type 0
FitsVisited b Entered used = Unit {0}
FitsVisited b (Called name resource) used = FitsState b name used
FitsVisited b (Joined name) used = FitsState b name used

-- a new entry has no list yet
abbrev pub FitsAgain : Block → Text → Option Used → Type 0
FitsAgain b name None = Unit {0}
FitsAgain b name (Some used) = FitsState b name used

-- a Call is of a Task, and a Fan of a fan with these branches, at a hop below 2,000
abbrev pub StopMeans : Block → Stop → Type 0
StopMeans b (Call name hop raw used) =
    (s : State) × (resource : Text) × (effective : Json) × (hop < hop_limit) × (state_of b name ≡ Some s)
    × (standard.begin name s raw ≡ Calls resource effective) × (length used ≡ length (care_of s).retry)
StopMeans b (Fan name hop raw used branches) =
    (s : State) × (inputs : List Json) × (hop < hop_limit) × (state_of b name ≡ Some s)
    × (standard.begin name s raw ≡ Fans inputs) × (branches ≡ children s inputs) × (length used ≡ length (care_of s).retry)
StopMeans b (Over o) = Unit {0}

abbrev pub StretchMeans : Type 0
StretchMeans = (b : Block) (name : Text) (hop : ℕ) (raw : Json) (again : Option Used) → FitsAgain b name again →
    StopMeans b (stretch standard b name hop raw again)

abbrev pub AfterMeans : Type 0
AfterMeans = (b : Block) (visited : Visited) (hop : ℕ) (raw : Json) (used : Used) (o : Outcome) → FitsVisited b visited used →
    StopMeans b (after standard b visited hop raw used o)

-- the list of each visit of a run fits
abbrev pub UsedFits : Type 0
UsedFits = (A : Answers) (b : Block) (s : Scope) (x : Json) (v : Visit) → In v (scope standard A b s x).visits →
    FitsVisited v.block v.visited v.used
