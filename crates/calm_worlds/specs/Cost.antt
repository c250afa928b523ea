-- What a visit costs, in events and in marks, where no mishap happens.
use Rattle.std.specs.Prelude.{ℕ, zero, suc, ◌+◌, ◌≤◌, ◌≡◌, List, [], ◌∷◌, length, slice_get, nat_lt, cond, Option, Some, None}
use Rattle.fn_table.specs.declared.kind.FnKind.{FnKind}
use Rattle.place_name.specs.Names.{Parent}
use Rattle.place_name.specs.Same.{place_same}
use Rattle.asl_model.specs.Data.{Text, Outcome}
use Rattle.asl_model.specs.Names as names
use Rattle.asl_model.specs.Names.{Place, Kind, at_hop, scope_of}
use Rattle.asl_model.specs.Machine.{Block, state_of}
use Rattle.asl_model.specs.Central.{Called, Visit, kind_of}
use Rattle.asl_model.specs.Stretch.{Stop, Call, Fan, Over, after}
use Rattle.asl_model.specs.Blocks.{function_at}
use Rattle.world_model.specs.Acts.{rules, parent_of, width_at, at_once}
use Rattle.world_model.specs.AnyCode.World as any_code
use Rattle.world_model.specs.World.{Opening, Session, Entry, World, Event, function_of, start, run}
use Rattle.world_model.specs.Journals.{run_of}
use Rattle.calm_worlds.specs.Calm.{AreCalm}

-- ---------------------------------------------------------------- the fan of a place

-- the limit of a fan, 0 for none, and the number of its branches
pub record Size : Type 0 where
  pub limit : ℕ
  pub count : ℕ

-- the size of the fan at that place, where the visit stops there
abbrev pub size_at : Place → Visit → Stop → Option Size
size_at p v (Fan name hop raw used cs) =
    cond (place_same (at_hop (scope_of v.place) hop) p) (Some (record { limit = width_at (state_of v.block name); count = length cs })) None
size_at p v _ = None

-- the same, after the answer of the visit
abbrev pub size_after : Place → Visit → Option Outcome → Option Size
size_after p v None = None
size_after p v (Some o) = size_at p v (after rules v.block v.visited v.place.hop v.raw v.used o)

-- the first of the two
abbrev pub or_size : Option Size → Option Size → Option Size
or_size None z = z
or_size (Some x) z = Some x

-- the fan at that place, to which the answer of one of these visits leads
abbrev pub fan_in : Place → List Visit → Option Size
fan_in p [] = None
fan_in p (v ∷ vs) = or_size (size_after p v v.answer) (fan_in p vs)

-- its limit
abbrev pub limit_of_size : Option Size → ℕ
limit_of_size None = 0
limit_of_size (Some x) = x.limit

-- its number of branches
abbrev pub count_of_size : Option Size → ℕ
count_of_size None = 0
count_of_size (Some x) = x.count

-- ---------------------------------------------------------------- the cost of a visit, among the visits of its session

-- 1 where the end of that branch invokes another one
abbrev pub pace_cost : (limit : ℕ) → Parent → ℕ
pace_cost zero q = 0
pace_cost (suc w) q = cond (nat_lt (q.index + suc w) q.count) 1 0

-- the acts of a scope's end
abbrev pub end_cost : List Visit → Option Parent → ℕ
end_cost vs None = 1
end_cost vs (Some q) = 2 + pace_cost (limit_of_size (fan_in q.place vs)) q

-- a call 2, a fan 1 and 1 for each branch that it invokes, an end 1 for a session and 2 for a branch, with 1 more where it
-- invokes another branch
abbrev pub acts_cost : List Visit → Visit → Stop → ℕ
acts_cost vs v (Call name hop raw used) = 2
acts_cost vs v (Fan name hop raw used cs) = 1 + length (at_once (width_at (state_of v.block name)) cs)
acts_cost vs v (Over o) = end_cost vs (parent_of (scope_of v.place))

-- 1 where there is a branch, since only then is there a bitmap
abbrev pub more_if : ℕ → ℕ
more_if zero = 0
more_if (suc n) = 1

-- of an Enter, its acts left out
abbrev pub enter_cost : Option Parent → ℕ
enter_cost None = 7
enter_cost (Some q) = 6

-- the Enter of a session 7, that of a branch 6, a Task 8, and the Join of c branches 8 + 2 c and 1 more where c is not 0
abbrev pub own_cost : List Visit → Place → Kind → ℕ
own_cost vs p names.Enter = enter_cost (parent_of (scope_of p))
own_cost vs p names.Task = 8
own_cost vs p names.Join = let c = count_of_size (fan_in p vs) in 8 + (c + c) + more_if c

-- of a visit with that answer
abbrev pub cost_at : List Visit → Visit → Option Outcome → ℕ
cost_at vs v None = 4
cost_at vs v (Some o) = own_cost vs v.place (kind_of v.visited) + acts_cost vs v (after rules v.block v.visited v.place.hop v.raw v.used o)

-- a Task without an answer 4 in all
abbrev pub cost : List Visit → Visit → ℕ
cost vs v = cost_at vs v v.answer

-- how many objects an Enter marks
abbrev pub enter_marks : Option Parent → ℕ
enter_marks None = 2
enter_marks (Some q) = 1

-- how many objects a visit marks
abbrev pub own_marks : List Visit → Place → Kind → ℕ
own_marks vs p names.Enter = enter_marks (parent_of (scope_of p))
own_marks vs p names.Task = 2
own_marks vs p names.Join = let c = count_of_size (fan_in p vs) in c + 2 + more_if c

-- of a visit with that answer
abbrev pub marks_with : List Visit → Visit → Option Outcome → ℕ
marks_with vs v None = 0
marks_with vs v (Some o) = own_marks vs v.place (kind_of v.visited)

-- how many steps of a visit are a Mark
abbrev pub marks : List Visit → Visit → ℕ
marks vs v = marks_with vs v v.answer

-- ---------------------------------------------------------------- sums

-- over these visits
abbrev pub sum_of : (Visit → ℕ) → List Visit → ℕ
sum_of f [] = 0
sum_of f (v ∷ vs) = f v + sum_of f vs

-- over the visits of the central runs of these sessions, on the answers of the journal
abbrev pub total : (List Visit → Visit → ℕ) → Opening → List Entry → (session : ℕ) → List Session → ℕ
total f o j s [] = 0
total f o j s (x ∷ xs) = sum_of (f (run_of o j s).visits) (run_of o j s).visits + total f o j (suc s) xs

-- what the central runs of a world cost
abbrev pub total_cost : {S B : Type 0} → any_code.World Block S B → ℕ
total_cost w = total cost w.opening w.journal 0 w.opening.sessions

-- how many marks they make
abbrev pub total_marks : {S B : Type 0} → any_code.World Block S B → ℕ
total_marks w = total marks w.opening w.journal 0 w.opening.sessions

-- each Task of the sessions' machines has a function in the table
abbrev pub HasFunctions : Opening → Type 0
HasFunctions o =
    (s : ℕ) (x : Session) → slice_get o.sessions s ≡ Some x → (n : ℕ) (b : Block) (state resource : Text) →
    function_at x.machine n ≡ Some (b, Called state resource) →
    (kind : FnKind) × (function_of o.functions resource ≡ Some kind)

-- After every list of events without a mishap there are at most as many events, and marks among them, as the visits of all
-- sessions' central runs cost.
abbrev pub EveryCalmWorldCosts : Type 0
EveryCalmWorldCosts =
    (o : Opening) (events : List Event) (w : World) → run o events ≡ Some w → AreCalm (start o) events → HasFunctions o →
    (length events ≤ total_cost w) × (w.marks ≤ total_marks w)
