-- A whole machine as code by its functions' numbers: function s is the Enter of scope s, and after these come the Tasks and
-- Joins, scope by scope and by name.
use Rattle.std.specs.Prelude.{ℕ, ◌≡◌, ◌<◌, ◌+◌, zero, suc, map, flat_map, List, [], ◌∷◌, ◌++◌, length, slice_get, Option, Some, None, if◌then◌else◌}
use Rattle.asl_model.specs.Data.{Text, Json, Outcome, combine, same_text, repeat}
use Rattle.asl_model.specs.Machine.{Used, Block, block, States, no_state, and_state, State, Task, Pass, Choice, Succeed, Fail, Parallel, Map, Blocks, no_block, and_block, state_of, states_of}
use Rattle.asl_model.specs.Central.{Visited}
use Rattle.asl_model.specs.Stretch as model
use Rattle.asl_model.specs.Blocks.{Row, rows_of, visited_at, Function, functions}
use Rattle.world_model.specs.AnyCode.Code as any_code
use Rattle.world_model.specs.AnyCode.Code.{Code, flags}
use Rattle.world_model.specs.AnyCode.Acts.{firsts}
use Rattle.world_model.specs.AnyCode.World.{Codes, run}
use Rattle.world_model.specs.AnyCode.Maps.{Maps}
use Rattle.world_model.specs.Sites.{rules, Spot, spot_of, visited_at as visit_on, state_at, Frame, Site, enter_site, call_of, width_at, branch_input_of, machine_code}
use Rattle.world_model.specs.World.{Session, Opening, World, Event, run as run_of_machines}
use Rattle.world_model.specs.Numbered.{Numbered, first_number, IsSoundWorld}

-- ---------------------------------------------------------------- scopes

-- the fan that a scope is a branch of: the scope that it stands in, and which of the Tasks and Joins there its Join is
pub record Up : Type 0 where
  pub scope : ℕ
  pub visit : ℕ

-- a scope: its block, the fans around it, and the fan that it is a branch of
pub record ScopeRow : Type 0 where
  pub around : List Frame
  pub block : Block
  pub up : Option Up

-- how many scopes there are
abbrev mutual
  pub size_of : Block → ℕ
  size_of (block start states) = suc (size_within states)

  pub size_within : States → ℕ
  size_within no_state = 0
  size_within (and_state name s rest) = size_under s + size_within rest

  pub size_under : State → ℕ
  size_under (Task shape resource after care) = 0
  size_under (Pass shape result after) = 0
  size_under (Choice shape choices default) = 0
  size_under (Succeed shape) = 0
  size_under (Fail error cause) = 0
  size_under (Parallel shape bs after care) = size_all bs
  size_under (Map shape items selector b after care limit) = size_of b

  pub size_all : Blocks → ℕ
  size_all no_block = 0
  size_all (and_block b bs) = size_of b + size_all bs

-- the scopes from number n on that a block has; those inside its states are counted from m on, and its visits from v on
abbrev mutual
  pub scopes_at : (n : ℕ) → List Frame → Option Up → Block → List ScopeRow
  scopes_at n around up (block start states) =
      record { around = around; block = block start states; up = up } ∷ scopes_within n (suc n) 0 around (block start states) states

  pub scopes_within : (n m v : ℕ) → List Frame → Block → States → List ScopeRow
  scopes_within n m v around b no_state = []
  scopes_within n m v around b (and_state name s rest) =
      scopes_under m (record { block = b; name = name } ∷ around) (record { scope = n; visit = v }) s
      ++ scopes_within n (m + size_under s) (v + length (visited_at name s)) around b rest

  pub scopes_under : (m : ℕ) → List Frame → Up → State → List ScopeRow
  scopes_under m around u (Task shape resource after care) = []
  scopes_under m around u (Pass shape result after) = []
  scopes_under m around u (Choice shape choices default) = []
  scopes_under m around u (Succeed shape) = []
  scopes_under m around u (Fail error cause) = []
  scopes_under m around u (Parallel shape bs after care) = scopes_all m around u bs
  scopes_under m around u (Map shape items selector b after care limit) = scopes_at m around (Some u) b

  pub scopes_all : (m : ℕ) → List Frame → Up → Blocks → List ScopeRow
  scopes_all m around u no_block = []
  scopes_all m around u (and_block b bs) = scopes_at m around (Some u) b ++ scopes_all (m + size_of b) around u bs

-- the scopes of a machine by their numbers
abbrev pub scopes : Block → List ScopeRow
scopes root = scopes_at 0 [] None root

-- the scopes of a state's branches, for that many
abbrev pub starts_all : ℕ → Blocks → List ℕ
starts_all m no_block = []
starts_all m (and_block b bs) = m ∷ starts_all (m + size_of b) bs

-- the scopes of the branches of a fan state, where its first scope has that number
abbrev pub starts_of : ℕ → State → (count : ℕ) → List ℕ
starts_of m (Parallel shape bs after care) c = firsts c (starts_all m bs)
starts_of m (Map shape items selector b after care limit) c = repeat c m
starts_of m _ c = []

-- the same, of the state of that name
abbrev pub starts_in : ℕ → States → Text → (count : ℕ) → List ℕ
starts_in m no_state name c = []
starts_in m (and_state n s rest) name c = if same_text n name then starts_of m s c else starts_in (m + size_under s) rest name c

-- ---------------------------------------------------------------- functions

-- the Tasks and Joins of some states, by name
abbrev pub visits_in : States → List Visited
visits_in states = flat_map (λ (r : Row). visited_at r.0 r.1) (rows_of states)

-- the site of a visit in a scope
abbrev pub site_at : ScopeRow → Visited → Site
site_at r v = record { block = r.block; around = r.around; spot = spot_of v }

-- the sites of the Tasks and Joins of a scope
abbrev pub visit_sites : ScopeRow → List Site
visit_sites r = map (site_at r) (visits_in (states_of r.block))

-- which of the visits is that of the state of a name
abbrev pub visit_in : List Row → Text → ℕ
visit_in [] name = 0
visit_in (r ∷ rs) name = if same_text r.0 name then 0 else length (visited_at r.0 r.1) + visit_in rs name

-- how many visits the scopes below one have
abbrev pub visits_below : ℕ → List ScopeRow → ℕ
visits_below zero rs = 0
visits_below (suc k) [] = 0
visits_below (suc k) (r ∷ rs) = length (visit_sites r) + visits_below k rs

-- the function of that visit of that scope
abbrev pub number_at : List ScopeRow → (scope visit : ℕ) → ℕ
number_at rs k v = length rs + (visits_below k rs + v)

-- a function: its scope, and its site
abbrev pub Entry : Type 0
Entry = ℕ × Site

-- the Enters of the scopes, from that number on
abbrev pub enters_from : ℕ → List ScopeRow → List Entry
enters_from k [] = []
enters_from k (r ∷ rs) = (k, enter_site r.around r.block) ∷ enters_from (suc k) rs

-- a site in that scope
abbrev pub with_scope : ℕ → Site → Entry
with_scope k s = (k, s)

-- the Tasks and Joins of the scopes, from that number on
abbrev pub visits_from : ℕ → List ScopeRow → List Entry
visits_from k [] = []
visits_from k (r ∷ rs) = map (with_scope k) (visit_sites r) ++ visits_from (suc k) rs

-- the functions of a machine by their numbers
abbrev pub table : Block → List Entry
table root = enters_from 0 (scopes root) ++ visits_from 0 (scopes root)

-- past the last one the first Enter
abbrev pub entry_or : Block → Option Entry → Entry
entry_or root None = (0, enter_site [] root)
entry_or root (Some x) = x

-- the function of that number
unfoldable pub entry_at : Block → (func : ℕ) → Entry
entry_at root f = entry_or root (slice_get (table root) f)

-- what the function of that number runs
abbrev pub flat_site : Block → (func : ℕ) → Site
flat_site root f = (entry_at root f).1

-- how many functions there are
unfoldable pub flat_size : Block → ℕ
flat_size root = length (table root)

-- ---------------------------------------------------------------- code

-- a stop in that scope, of that block
abbrev pub stop_at : List ScopeRow → (scope : ℕ) → Block → model.Stop → any_code.Stop ℕ
stop_at rs k b (model.Call name hop raw used) = any_code.Call (number_at rs k (visit_in (rows_of (states_of b)) name)) hop raw used
stop_at rs k b (model.Fan name hop raw used cs) =
    any_code.Fan (number_at rs k (visit_in (rows_of (states_of b)) name)) hop raw used (starts_in (suc k) (states_of b) name (length cs))
stop_at rs k b (model.Over o) = any_code.Over o

-- where a function's scope stops after an answer
abbrev pub stop_of : List ScopeRow → Entry → (hop : ℕ) → (raw : Json) → Used → Outcome → any_code.Stop ℕ
stop_of rs e hop raw used o = stop_at rs e.0 e.1.block (model.after rules e.1.block (visit_on e.1.spot) hop raw used o)

-- the fan that a scope is a branch of
abbrev pub up_of : Option ScopeRow → Option Up
up_of None = None
up_of (Some r) = r.up

-- the number of its Join
abbrev pub join_number : List ScopeRow → Option Up → Option ℕ
join_number rs None = None
join_number rs (Some u) = Some (number_at rs u.scope u.visit)

-- a machine's code by functions' numbers
abbrev pub flat_code : Block → Code ℕ
flat_code root = record {
  after = λ f hop raw used o. stop_of (scopes root) (entry_at root f) hop raw used o;
  call_of = λ f raw. call_of (flat_site root f) raw;
  join_around = λ f. join_number (scopes root) (up_of (slice_get (scopes root) (entry_at root f).0));
  enter_of = λ f. (entry_at root f).0;
  width = λ f. width_at (state_of (flat_site root f).block (state_at (flat_site root f).spot));
  input_of = λ f index raw. branch_input_of (flat_site root f) index raw;
  combine = λ f outs. combine (state_at (flat_site root f).spot) outs;
}

-- Every machine's code by numbers is its code by the sites that they stand for.
abbrev pub NumbersMap : Type 0
NumbersMap = (root : Block) → Maps (λ f. f < flat_size root) (flat_code root) machine_code (flat_site root)

-- a site without its fans
abbrev pub Visiting : Type 0
Visiting = Block × Spot

-- what a function of the table visits
abbrev pub of_entry : Entry → Visiting
of_entry e = (e.1.block, e.1.spot)

-- what a function of the machine visits
abbrev pub of_function : Function → Visiting
of_function f = (f.0, spot_of f.1)

-- The functions of the table are those that a machine has, in the order of their numbers.
abbrev pub NumbersAreRight : Type 0
NumbersAreRight = (root : Block) → map of_entry (table root) ≡ map of_function (functions root)

-- ---------------------------------------------------------------- worlds of whole machines

-- where there is no session
abbrev pub block_at : Option Session → Block
block_at None = block [] no_state
block_at (Some x) = x.machine

-- the machine of a session
abbrev pub block_of : Opening → (session : ℕ) → Block
block_of o s = block_at (slice_get o.sessions s)

-- each session's machine by numbers is its code
abbrev pub flat_codes : Opening → Codes ℕ
flat_codes o s = flat_code (block_of o s)

-- what the numbers of a session stand for
abbrev pub flat_sites : Opening → (session func : ℕ) → Site
flat_sites o s f = flat_site (block_of o s) f

-- A world that runs its machines by numbers is sound, whatever machines they are.
abbrev pub EveryFlatRunIsSound : Type 0
EveryFlatRunIsSound =
    (o : Opening) (events : List Event) (w : Numbered) → run flags (flat_codes o) first_number o events ≡ Some w →
    IsSoundWorld o (flat_codes o) (flat_sites o) events w

-- And what may happen in turn in the world of machines may happen there.
abbrev pub EveryRunIsFlat : Type 0
EveryRunIsFlat =
    (o : Opening) (events : List Event) (v : World) → run_of_machines o events ≡ Some v →
    (w : Numbered) × (run flags (flat_codes o) first_number o events ≡ Some w)
