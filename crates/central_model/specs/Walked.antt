-- What a walk over a machine keeps, and what it makes.
use Rattle.std.specs.Prelude.{◌≡◌, ℕ, suc, ◌+◌, ◌<◌, ◌≤◌, List, [], ◌∷◌, ◌++◌, length, insert, map, Option, Some, None, Result, Ok, Err}
use Rattle.asl_model.specs.Data.{Text, Json, Null, Outcome, Done, combine, failure, no_state_error}
use Rattle.asl_model.specs.Names.{Scope, Answers, Join, at_hop}
use Rattle.asl_model.specs.Machine.{Block, State, Used, state_of, branches_of}
use Rattle.asl_model.specs.Step.{Ends, standard}
use Rattle.asl_model.specs.Central as c
use Rattle.asl_model.specs.Tree.{state_tree}
use Rattle.asl_model.proofs.Tree.{runners}
use Rattle.central_model.specs.declared.run.Visit.{Visit}
use Rattle.central_model.specs.declared.run.End.{End}
use Rattle.central_model.specs.declared.run.Run.{Run}
use Rattle.central_model.specs.declared.trouble.CentralError.{CentralError}
use Rattle.central_model.specs.declared.trouble.CentralError.TheVariants as error
use Rattle.central_model.specs.declared.source.Source.{Source}
use Rattle.central_model.specs.declared.source.Source.TheVariants as source
use Rattle.central_model.specs.declared.entering.Entry.{Entry}
use Rattle.central_model.specs.declared.gathering.Gathered.{Gathered}
use Rattle.central_model.specs.declared.onward.Then.{Then}
use Rattle.central_model.specs.declared.walk.Walk.{Walk}
use Rattle.central_model.specs.Asking.{tickets}
use Rattle.central_model.specs.Told.{told, told_end, told_run}
use Rattle.central_model.specs.Views.{then_of, gathered_of}

-- where functions answer, no ticket is past its range
abbrev pub HasTickets : Source → (limit : ℕ) → Type 0
HasTickets (source.Given answers) limit = Unit {0}
HasTickets (source.Functions table) limit = limit ≤ 4294967295

-- the walk is within its limit
pub record IsFit (w : Walk) : Type 0 where
  pub within : length w.visits.items ≤ w.limit
  pub counted : w.count ≤ length w.visits.items
  pub ranged : HasTickets w.source w.limit

-- the walk goes on within its limit
pub record Keeps (old new : Walk) : Type 0 where
  pub fit : IsFit new
  pub source : new.source ≡ old.source
  pub limit : new.limit ≡ old.limit
  pub grown : length old.visits.items ≤ length new.visits.items

-- these visits were added
pub record Adds (old new : Walk) (vs : List c.Visit) : Type 0 where
  pub visits : new.visits.items ≡ old.visits.items ++ map told vs
  pub count : new.count ≡ tickets old.count vs

-- a call added these visits and answered what it should, or they do not fit
abbrev pub Made : {X : Type 0} → Walk → Result X CentralError → Walk → List c.Visit → (X → Type 0) → Type 0
Made old (Ok x) new vs Is = Adds old new vs × Is x
Made old (Err error.TooLong) new vs Is = old.limit < length old.visits.items + length vs
Made old (Err error.NoMemory) new vs Is = Unit {0}

-- this run was made
abbrev pub Runs : Walk → Result End CentralError → Walk → c.Run → Type 0
Runs old result new r = Made old result new r.visits (λ e. e ≡ told_end r.end)

-- this turn was made
abbrev pub Turns : Walk → Result Then CentralError → Walk → c.Turn → Type 0
Turns old result new t = Made old result new t.visits (λ u. then_of u ≡ t.onward)

-- these runs of branches were made
abbrev pub Gathers : Walk → Result Gathered CentralError → Walk → List c.Run → Type 0
Gathers old result new rs = Made old result new (c.visits_of rs) (λ g. gathered_of g ≡ c.gather rs)

-- the states of a scope from one on, where so many may still be entered
abbrev pub walk_from : Answers → Block → ℕ → Scope → Text → ℕ → Json → Option Used → c.Run
walk_from A b left s name hop raw again = c.walk standard A b (runners standard A b) left s name hop raw again

-- what a state that is looked for adds to its scope's run
abbrev pub turn_in : Answers → Block → Text → Option State → Scope → ℕ → Json → Option Used → c.Turn
turn_in A b name None s hop raw again = record { visits = []; onward = c.Then_on (Ends (failure no_state_error name)) }
turn_in A b name (Some st) s hop raw again =
    c.turn standard A b name st (λ n. map (c.scope standard A) (branches_of st n)) (at_hop s hop) raw
    (c.used_by standard st again) (standard.begin name st raw)

-- what a state adds that was entered
abbrev pub turn_of : Block → Answers → Entry → c.Turn
turn_of b A e =
    c.turn standard A b e.name.now (state_tree e.state.now)
    (λ n. map (c.scope standard A) (branches_of (state_tree e.state.now) n)) e.place e.raw e.used
    (standard.begin e.name.now (state_tree e.state.now) e.raw)

-- the same of a Task with its effective input
abbrev pub called_of : Block → Answers → Entry → (resource : Text) → Json → c.Turn
called_of b A e resource x = c.called standard b e.name.now (state_tree e.state.now) e.place e.raw e.used resource x (A e.place)

-- the runs of the branches of a fan
abbrev pub branch_runs : Answers → Entry → List Json → List c.Run
branch_runs A e inputs =
    c.each e.place (length inputs) 0 (map (c.scope standard A) (branches_of (state_tree e.state.now) (length inputs))) inputs

-- the same of a fan with its inputs
abbrev pub joined_of : Block → Answers → Entry → List Json → c.Turn
joined_of b A e inputs =
    c.joined standard b e.name.now (state_tree e.state.now) e.place e.raw e.used (c.visits_of (branch_runs A e inputs))
    (c.gather (branch_runs A e inputs))

-- the state of that name was entered so
pub record IsEntry (b : Block) (s : Scope) (name : Text) (hop : ℕ) (raw : Json) (again : Option Used) (e : Entry) : Type 0 where
  pub name_is : e.name.now ≡ name
  pub found : state_of b name ≡ Some (state_tree e.state.now)
  pub place : e.place ≡ at_hop s hop
  pub raw_is : e.raw ≡ raw
  pub used_is : e.used ≡ c.used_by standard (state_tree e.state.now) again

-- how it goes on with an answer, or without one
abbrev pub follows : Entry → Option Outcome → c.Then
follows e None = c.Stays (e.place ∷ [])
follows e (Some o) = c.Then_on (standard.finish e.name.now (state_tree e.state.now) e.raw e.used o)

-- the Enter of a scope
abbrev pub enter_visit : Block → Scope → Json → c.Visit
enter_visit b s x = record { place = at_hop s 0; block = b; visited = c.Entered; raw = Null; used = []; given = x; answer = Some (Done x) }

-- the Join of a fan, as it is told
abbrev pub told_join : Entry → Outcome → Visit
told_join e o = record { name = record { place = e.place; kind = Join }; resource = None; given = e.raw; answer = Some o }

-- a call put a visit there, or it does not fit
abbrev pub Puts : {X : Type 0} → Walk → Result X CentralError → Walk → (at : ℕ) → Visit → Type 0
Puts old (Ok x) new at v = (new.visits.items ≡ insert old.visits.items at v) × (new.count ≡ old.count)
Puts old (Err error.TooLong) new at v = old.limit ≤ length old.visits.items
Puts old (Err error.NoMemory) new at v = Unit {0}

-- a call added the visit of a Task, or it does not fit
abbrev pub AddsTask : {X : Type 0} → Walk → Result X CentralError → Walk → Visit → Type 0
AddsTask old (Ok x) new v = (new.visits.items ≡ old.visits.items ++ v ∷ []) × (new.count ≡ suc old.count)
AddsTask old (Err error.TooLong) new v = old.limit ≤ length old.visits.items
AddsTask old (Err error.NoMemory) new v = Unit {0}

-- a call put the Join of a fan there and answered how its state goes on, or it does not fit
abbrev pub Joins : Walk → Result Then CentralError → Walk → Entry → (at : ℕ) → List Outcome → Type 0
Joins old (Ok u) new e at os =
    (new.visits.items ≡ insert old.visits.items at (told_join e (combine e.name.now os))) × (new.count ≡ old.count)
    × (then_of u ≡ follows e (Some (combine e.name.now os)))
Joins old (Err error.TooLong) new e at os = old.limit ≤ length old.visits.items
Joins old (Err error.NoMemory) new e at os = Unit {0}

-- what is told of a run, if it has at most so many visits
abbrev pub Tells : (limit : ℕ) → Result Run CentralError → c.Run → Type 0
Tells limit (Ok told) r = (told ≡ told_run r) × (length r.visits ≤ limit)
Tells limit (Err error.TooLong) r = limit < length r.visits
Tells limit (Err error.NoMemory) r = Unit {0}
