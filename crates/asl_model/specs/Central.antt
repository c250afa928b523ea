-- The central run: what a machine does for one session, by one recursion on the nested blocks.
-- Source: Amazon States Language, "Transitions", "Parallel State" and "Map State".
use Rattle.std.specs.Prelude.{ℕ, zero, suc, List, [], ◌∷◌, ◌++◌, Option, Some, None, if◌then◌else◌, length}
use Rattle.asl_model.specs.Data.{Text, Json, Null, Outcome, Done, combine, hop_limit_error, no_state_error, failure, same_text, repeat}
use Rattle.asl_model.specs.Names.{Scope, Place, Kind, Enter, Task as TaskKind, Join, Name, at_hop, child, Answers}
use Rattle.asl_model.specs.Machine.{Used, Block, block, States, no_state, and_state, State, Task, Pass, Choice, Succeed, Fail, Parallel, Map, Blocks, no_block, and_block, state_of}
use Rattle.asl_model.specs.Step.{Onward, Goes, Ends, Begun, On, Calls, Fans, Ways}

-- hops end here
unfoldable pub hop_limit : ℕ
hop_limit = 2000

-- what is visited in a block: its Enter, or the Task or the Join of a state
pub data Visited : Type 0 where
  Entered : Visited
  Called : (state resource : Text) → Visited
  Joined : (state : Text) → Visited

-- raw and used are what the state was entered with; for an Enter they are Null and the empty list
pub record Visit : Type 0 where
  pub place : Place
  pub block : Block
  pub visited : Visited
  pub raw : Json
  pub used : Used
  pub given : Json
  pub answer : Option Outcome

abbrev pub kind_of : Visited → Kind
kind_of Entered = Enter
kind_of (Called state resource) = TaskKind
kind_of (Joined state) = Join

abbrev pub name_of : Visit → Name
name_of v = record { place = v.place; kind = kind_of v.visited }

pub data End : Type 0 where
  Ended : Outcome → End
  Waits : List Place → End

pub record Run : Type 0 where
  pub visits : List Visit
  pub end : End

-- a block's runs, by scope and data
abbrev pub Runner : Type 0
Runner = Scope → Json → Run

-- what one state adds to its scope's run, and how that goes on
pub data Then : Type 0 where
  Then_on : Onward → Then
  Stays : List Place → Then

pub record Turn : Type 0 where
  pub visits : List Visit
  pub onward : Then

-- what a fan's branches came to
pub data Gathered : Type 0 where
  All_ended : List Outcome → Gathered
  Some_wait : List Place → Gathered

abbrev pub with_end : End → Gathered → Gathered
with_end (Ended o) (All_ended os) = All_ended (o ∷ os)
with_end (Ended o) (Some_wait ps) = Some_wait ps
with_end (Waits ps) (All_ended os) = Some_wait ps
with_end (Waits ps) (Some_wait qs) = Some_wait (ps ++ qs)

abbrev pub gather : List Run → Gathered
gather [] = All_ended []
gather (r ∷ rs) = with_end r.end (gather rs)

abbrev pub visits_of : List Run → List Visit
visits_of [] = []
visits_of (r ∷ rs) = r.visits ++ visits_of rs

-- each branch's run, at the child place of its index and the count
abbrev pub each : Place → ℕ → ℕ → List Runner → List Json → List Run
each p count index [] inputs = []
each p count index (r ∷ rs) [] = []
each p count index (r ∷ rs) (x ∷ xs) = r (child p index count) x ∷ each p count (suc index) rs xs

abbrev pub ends_with : Outcome → Run
ends_with o = record { visits = []; end = Ended o }

abbrev pub then_go : List Visit → Then → (Text → Json → Option Used → Run) → Run
then_go vs (Then_on (Goes next v again)) go = record { visits = vs ++ (go next v again).visits; end = (go next v again).end }
then_go vs (Then_on (Ends o)) go = record { visits = vs; end = Ended o }
then_go vs (Stays ps) go = record { visits = vs; end = Waits ps }

-- a Task's visit: without an answer the scope waits there
abbrev pub called : Ways → Block → Text → State → Place → (raw : Json) → Used → (resource : Text) → (effective : Json) →
    Option Outcome → Turn
called W b name s p raw used resource x None = record {
  visits = record { place = p; block = b; visited = Called name resource; raw = raw; used = used; given = x; answer = None } ∷ [];
  onward = Stays (p ∷ []);
}
called W b name s p raw used resource x (Some o) = record {
  visits = record { place = p; block = b; visited = Called name resource; raw = raw; used = used; given = x; answer = Some o } ∷ [];
  onward = Then_on (W.finish name s raw used o);
}

-- a fan: its Join stands before its branches, by name
abbrev pub joined : Ways → Block → Text → State → Place → (raw : Json) → Used → List Visit → Gathered → Turn
joined W b name s p raw used vs (Some_wait ps) = record { visits = vs; onward = Stays ps }
joined W b name s p raw used vs (All_ended os) = record {
  visits =
      record { place = p; block = b; visited = Joined name; raw = raw; used = used; given = raw; answer = Some (combine name os) } ∷ vs;
  onward = Then_on (W.finish name s raw used (combine name os));
}

abbrev pub entered : Block → Scope → Json → Run → Run
entered b s v r = record {
  visits = record { place = at_hop s 0; block = b; visited = Entered; raw = Null; used = []; given = v; answer = Some (Done v) } ∷ r.visits;
  end = r.end;
}

-- the list of an entry: a new one for a new entry
abbrev pub used_by : Ways → State → Option Used → Used
used_by W s None = W.fresh s
used_by W s (Some used) = used

module _ (W : Ways) (A : Answers) where
  abbrev pub turn : Block → Text → State → (ℕ → List Runner) → Place → Json → Used → Begun → Turn
  turn b name s branches p raw used (On o) = record { visits = []; onward = Then_on o }
  turn b name s branches p raw used (Calls resource x) = called W b name s p raw used resource x (A p)
  turn b name s branches p raw used (Fans inputs) =
      let runs = each p (length inputs) 0 (branches (length inputs)) inputs in
      joined W b name s p raw used (visits_of runs) (gather runs)

  abbrev pub enter : Block → Text → Option State → (ℕ → List Runner) → Scope → ℕ → Json → Option Used →
      (Text → Json → Option Used → Run) → Run
  enter b name None branches s hop raw again go = ends_with (failure no_state_error name)
  enter b name (Some st) branches s hop raw again go =
      let t = turn b name st branches (at_hop s hop) raw (used_by W st again) (W.begin name st raw) in
      then_go t.visits t.onward go

  -- the states of a scope from one on, where so many may still be entered
  abbrev pub walk : Block → (Text → ℕ → List Runner) → ℕ → Scope → Text → ℕ → Json → Option Used → Run
  walk b branches zero s name hop raw again = ends_with (failure hop_limit_error name)
  walk b branches (suc left) s name hop raw again =
      enter b name (state_of b name) (branches name) s hop raw again (λ next v again. walk b branches left s next (suc hop) v again)

  unfoldable mutual
    pub scope : Block → Runner
    scope (block start states) s v =
        entered (block start states) s v (walk (block start states) (branches_in states) hop_limit s start 0 v None)

    -- the runners of the branches of the state of that name, for that many inputs
    pub branches_in : States → Text → ℕ → List Runner
    branches_in no_state name n = []
    branches_in (and_state m s rest) name n = if same_text m name then branches s n else branches_in rest name n

    pub branches : State → ℕ → List Runner
    branches (Task shape resource after care) n = []
    branches (Pass shape result after) n = []
    branches (Choice shape rules default) n = []
    branches (Succeed shape) n = []
    branches (Fail error cause) n = []
    branches (Parallel shape bs after care) n = scopes bs
    branches (Map shape items selector b after care limit) n = repeat n (scope b)

    pub scopes : Blocks → List Runner
    scopes no_block = []
    scopes (and_block b bs) = scope b ∷ scopes bs

  -- the central run of a machine with this root, for session and input
  abbrev pub central : Block → (session : ℕ) → (input : Json) → Run
  central root session input = scope root (record { session = session; trail = [] }) input
