-- The laws of the central run and of where it stops.
use Rattle.std.specs.Prelude.{◌≡◌, ℕ, suc, ◌<◌, ◌⊎◌, List, [], ◌∷◌, ◌++◌, Option, Some, None, length, slice_get}
use Rattle.asl_model.specs.Data.{Text, Json, Null, Outcome, Done, combine}
use Rattle.std.specs.declared.cmp.Ordering.TheVariants.{Less}
use Rattle.place_name.specs.Order.{name_order}
use Rattle.asl_model.specs.Names.{Seg, Scope, Place, at_hop, scope_of, child, Answers, Holds, answers_of}
use Rattle.asl_model.specs.Machine.{Used, Block, State, state_of, depth}
use Rattle.asl_model.specs.Step.{Calls, Fans, Ways}
use Rattle.asl_model.specs.Central.{End, hop_limit, Visited, Entered, Called, Joined, Visit, name_of, Ended, Waits, Run, All_ended, Some_wait, gather, scope, central}
use Rattle.asl_model.specs.Stretch.{Stop, Call, Fan, Over, children, after}

-- x stands in the list
abbrev pub In : {X : Type 0} → X → List X → Type 0
In x [] = ⊥
In x (y ∷ ys) = (x ≡ y) ⊎ In x ys

abbrev pub Within : {X : Type 0} → List X → List X → Type 0
Within {X} xs ys = (x : X) → In x xs → In x ys

-- w is the visit v, with v's answer where v has one
pub record IsGrown (v w : Visit) : Type 0 where
  pub place : w.place ≡ v.place
  pub block : w.block ≡ v.block
  pub visited : w.visited ≡ v.visited
  pub raw : w.raw ≡ v.raw
  pub used : w.used ≡ v.used
  pub given : w.given ≡ v.given
  pub answer : (o : Outcome) → v.answer ≡ Some o → w.answer ≡ Some o

abbrev pub Grows : List Visit → List Visit → Type 0
Grows vs ws = (v : Visit) → In v vs → (w : Visit) × In w ws × IsGrown v w

pub record GrowsTo (r q : Run) : Type 0 where
  pub visits : Grows r.visits q.visits
  pub end : (o : Outcome) → r.end ≡ Ended o → q.end ≡ Ended o

abbrev pub Growth : Ways → Type 0
Growth W = (A B : Answers) → Holds A B → (b : Block) (s : Scope) (v : Json) → GrowsTo (scope W A b s v) (scope W B b s v)

-- the runs of a fan's branches, from this index on
abbrev pub runs_of : Ways → Answers → Place → (count index : ℕ) → List (Block × Json) → List Run
runs_of W A p count index [] = []
runs_of W A p count index (c ∷ cs) = scope W A c.0 (child p index count) c.1 ∷ runs_of W A p count (suc index) cs

abbrev pub fan_runs : Ways → Answers → Place → List (Block × Json) → List Run
fan_runs W A p cs = runs_of W A p (length cs) 0 cs

-- a Task of that name is visited at that hop of the scope, with the state's effective input
pub record MeetsCall (W : Ways) (b : Block) (s : Scope) (r : Run) (name : Text) (hop : ℕ) (raw : Json) (used : Used) : Type 0 where
  pub visit : Visit
  pub in_run : In visit r.visits
  pub state : State
  pub resource : Text
  pub place : visit.place ≡ at_hop s hop
  pub block : visit.block ≡ b
  pub visited : visit.visited ≡ Called name resource
  pub raw_is : visit.raw ≡ raw
  pub used_is : visit.used ≡ used
  pub found : state_of b name ≡ Some state
  pub begins : W.begin name state raw ≡ Calls resource visit.given

-- a Join of that name is visited there, with that answer
pub record MeetsJoin (b : Block) (s : Scope) (r : Run) (name : Text) (hop : ℕ) (raw : Json) (used : Used) (o : Outcome) : Type 0 where
  pub visit : Visit
  pub in_run : In visit r.visits
  pub place : visit.place ≡ at_hop s hop
  pub block : visit.block ≡ b
  pub visited : visit.visited ≡ Joined name
  pub raw_is : visit.raw ≡ raw
  pub used_is : visit.used ≡ used
  pub given : visit.given ≡ raw
  pub answer : visit.answer ≡ Some o

-- the branches' runs stand in this run, and once all of them have ended the Join does
pub record MeetsFan (W : Ways) (A : Answers) (b : Block) (s : Scope) (r : Run) (name : Text) (hop : ℕ) (raw : Json)
    (used : Used) (cs : List (Block × Json)) : Type 0 where
  pub state : State
  pub inputs : List Json
  pub found : state_of b name ≡ Some state
  pub begins : W.begin name state raw ≡ Fans inputs
  pub children_are : cs ≡ children state inputs
  pub branches : (i : ℕ) (c : Block) (x : Json) → slice_get cs i ≡ Some (c, x) →
      Within (scope W A c (child (at_hop s hop) i (length cs)) x).visits r.visits
  pub join : (os : List Outcome) → gather (fan_runs W A (at_hop s hop) cs) ≡ All_ended os →
      MeetsJoin b s r name hop raw used (combine name os)
  pub waits : (ps : List Place) → gather (fan_runs W A (at_hop s hop) cs) ≡ Some_wait ps → r.end ≡ Waits ps

-- the run of the scope does what the stop says
abbrev pub Meets : Ways → Answers → Block → Scope → Run → Stop → Type 0
Meets W A b s r (Call name hop raw used) = MeetsCall W b s r name hop raw used
Meets W A b s r (Fan name hop raw used cs) = MeetsFan W A b s r name hop raw used cs
Meets W A b s r (Over o) = r.end ≡ Ended o

-- what is true of a visit by its kind
pub record IsTask (W : Ways) (A : Answers) (v : Visit) (name resource : Text) : Type 0 where
  pub answer : v.answer ≡ A v.place
  pub state : State
  pub found : state_of v.block name ≡ Some state
  pub begins : W.begin name state v.raw ≡ Calls resource v.given

pub record IsJoin (W : Ways) (A : Answers) (v : Visit) (name : Text) : Type 0 where
  pub state : State
  pub inputs : List Json
  pub outcomes : List Outcome
  pub found : state_of v.block name ≡ Some state
  pub begins : W.begin name state v.raw ≡ Fans inputs
  pub all_ended : gather (fan_runs W A v.place (children state inputs)) ≡ All_ended outcomes
  pub given : v.given ≡ v.raw
  pub answer : v.answer ≡ Some (combine name outcomes)

abbrev pub IsSound : Ways → Answers → Visit → Visited → Type 0
IsSound W A v Entered = (v.place.hop ≡ 0) × (v.raw ≡ Null) × (v.used ≡ []) × (v.answer ≡ Some (Done v.given))
IsSound W A v (Called name resource) = IsTask W A v name resource
IsSound W A v (Joined name) = IsJoin W A v name

-- where a visit stands: its scope was entered, all of that scope's run is here, and it does what follows each answer
pub record Stands (W : Ways) (A : Answers) (vs : List Visit) (v : Visit) : Type 0 where
  pub at_block : Block
  pub at_scope : Scope
  pub enter : Visit
  pub block : v.block ≡ at_block
  pub scope_is : scope_of v.place ≡ at_scope
  pub entered : In enter vs
  pub enter_place : enter.place ≡ at_hop at_scope 0
  pub enter_block : enter.block ≡ at_block
  pub enter_visited : enter.visited ≡ Entered
  pub within : Within (scope W A at_block at_scope enter.given).visits vs
  pub own : In v (scope W A at_block at_scope enter.given).visits
  pub sound : IsSound W A v v.visited
  pub next : (o : Outcome) → v.answer ≡ Some o →
      Meets W A at_block at_scope (scope W A at_block at_scope enter.given) (after W at_block v.visited v.place.hop v.raw v.used o)

abbrev pub Standing : Ways → Type 0
Standing W = (A : Answers) (b : Block) (s : Scope) (x : Json) (v : Visit) → In v (scope W A b s x).visits →
    Stands W A (scope W A b s x).visits v

-- in the order of names
abbrev pub IsRising : List Visit → Type 0
IsRising [] = Unit {0}
IsRising (v ∷ vs) = ((w : Visit) → In w vs → name_order (name_of v) (name_of w) ≡ Less) × IsRising vs

-- names are pairwise different
abbrev pub AreDistinct : List Visit → Type 0
AreDistinct [] = Unit {0}
AreDistinct (v ∷ vs) = ((w : Visit) → In w vs → name_of v ≡ name_of w → ⊥) × AreDistinct vs

abbrev pub Order : Ways → Type 0
Order W = (A : Answers) (b : Block) (s : Scope) (x : Json) → IsRising (scope W A b s x).visits

abbrev pub Distinct : Ways → Type 0
Distinct W = (A : Answers) (b : Block) (s : Scope) (x : Json) → AreDistinct (scope W A b s x).visits

-- in one run a name has one visit
abbrev pub OneVisit : Ways → Type 0
OneVisit W = (A : Answers) (b : Block) (s : Scope) (x : Json) (v w : Visit) → In v (scope W A b s x).visits →
    In w (scope W A b s x).visits → name_of v ≡ name_of w → v ≡ w

-- with more answers a name's visit keeps what it has
abbrev pub SameVisit : Ways → Type 0
SameVisit W = (A B : Answers) → Holds A B → (b : Block) (s : Scope) (x : Json) (v w : Visit) → In v (scope W A b s x).visits →
    In w (scope W B b s x).visits → name_of v ≡ name_of w → IsGrown v w

-- what follows an answer of a visit stands in the run: a Call is a Task of it, a Fan has its branches there (or, with none, its Join),
-- an End is the end of the visit's scope
abbrev pub FollowedBy : Ways → Answers → List Visit → Visit → Stop → Type 0
FollowedBy W A vs v (Call name hop raw used) =
    (w : Visit) × In w vs × (st : State) × (resource : Text) × (w.place ≡ at_hop (scope_of v.place) hop) × (w.block ≡ v.block)
    × (w.visited ≡ Called name resource) × (state_of v.block name ≡ Some st) × (W.begin name st raw ≡ Calls resource w.given)
    × (w.raw ≡ raw) × (w.used ≡ used)
FollowedBy W A vs v (Fan name hop raw used cs) =
    ((i : ℕ) (c : Block) (x : Json) → slice_get cs i ≡ Some (c, x) →
    (w : Visit) × In w vs × (w.place ≡ at_hop (child (at_hop (scope_of v.place) hop) i (length cs)) 0) × (w.block ≡ c)
    × (w.visited ≡ Entered) × (w.given ≡ x))
    × (cs ≡ [] → (w : Visit) × In w vs × (w.place ≡ at_hop (scope_of v.place) hop) × (w.block ≡ v.block)
    × (w.visited ≡ Joined name) × (w.given ≡ raw) × (w.used ≡ used))
FollowedBy W A vs v (Over o) =
    (w : Visit) × In w vs × (w.place ≡ at_hop (scope_of v.place) 0) × (w.block ≡ v.block) × (w.visited ≡ Entered)
    × ((scope W A v.block (scope_of v.place) w.given).end ≡ Ended o)

abbrev pub Next : Ways → Type 0
Next W = (A : Answers) (root : Block) (session : ℕ) (input : Json) (v : Visit) (o : Outcome) →
    In v (central W A root session input).visits → v.answer ≡ Some o →
    FollowedBy W A (central W A root session input).visits v (after W v.block v.visited v.place.hop v.raw v.used o)

-- with more answers a machine's central run only grows
abbrev pub CentralGrowth : Ways → Type 0
CentralGrowth W = (A B : Answers) → Holds A B → (root : Block) (session : ℕ) (input : Json) →
    GrowsTo (central W A root session input) (central W B root session input)

-- where a run waits: at its visits with no answer, and there is one
pub record WaitsAre (r : Run) : Type 0 where
  pub open_waits : (v : Visit) → In v r.visits → v.answer ≡ None → (ps : List Place) × (r.end ≡ Waits ps) × In v.place ps
  pub waits_open : (ps : List Place) → r.end ≡ Waits ps → (p : Place) → In p ps →
      (v : Visit) × In v r.visits × (v.place ≡ p) × (v.answer ≡ None)
  pub some : (ps : List Place) → r.end ≡ Waits ps → (p : Place) × In p ps

abbrev pub Waiting : Ways → Type 0
Waiting W = (A : Answers) (b : Block) (s : Scope) (x : Json) → WaitsAre (scope W A b s x)

-- every branch has ended exactly where the fan's outcomes are there, each at its index
abbrev pub AllAre : Ways → Answers → Place → List (Block × Json) → List Outcome → Type 0
AllAre W A p cs os =
    (length os ≡ length cs)
    × ((i : ℕ) (c : Block) (x : Json) → slice_get cs i ≡ Some (c, x) →
    (o : Outcome) × (slice_get os i ≡ Some o) × ((scope W A c (child p i (length cs)) x).end ≡ Ended o))

abbrev pub BranchEnds : Ways → Type 0
BranchEnds W = (A : Answers) (p : Place) (cs : List (Block × Json)) →
    ((os : List Outcome) → gather (fan_runs W A p cs) ≡ All_ended os → AllAre W A p cs os)
    × (((i : ℕ) (c : Block) (x : Json) → slice_get cs i ≡ Some (c, x) →
    (o : Outcome) × ((scope W A c (child p i (length cs)) x).end ≡ Ended o)) →
    (os : List Outcome) × (gather (fan_runs W A p cs) ≡ All_ended os) × AllAre W A p cs os)

-- a Join is visited exactly where every branch of its fan has ended
abbrev pub JoinExactly : Ways → Type 0
JoinExactly W = (A : Answers) (b : Block) (s : Scope) (x : Json) (v : Visit) (o : Outcome) (name : Text) (hop : ℕ) (raw : Json)
    (used : Used) (cs : List (Block × Json)) →
    In v (scope W A b s x).visits → v.answer ≡ Some o → after W v.block v.visited v.place.hop v.raw v.used o ≡ Fan name hop raw used cs →
    let p = at_hop (scope_of v.place) hop in
    ((os : List Outcome) → gather (fan_runs W A p cs) ≡ All_ended os →
    (w : Visit) × In w (scope W A b s x).visits × (w.place ≡ p) × (w.block ≡ v.block) × (w.visited ≡ Joined name)
    × (w.raw ≡ raw) × (w.used ≡ used) × (w.answer ≡ Some (combine name os)))
    × ((w : Visit) → In w (scope W A b s x).visits → (n : Text) → w.place ≡ p → w.visited ≡ Joined n →
    (os : List Outcome) × (gather (fan_runs W A p cs) ≡ All_ended os) × (n ≡ name) × (w.raw ≡ raw) × (w.used ≡ used)
    × (w.answer ≡ Some (combine name os)))

abbrev pub AreInRange : List Seg → Type 0
AreInRange [] = Unit {0}
AreInRange (g ∷ gs) = (g.hop < hop_limit) × (g.index < g.count) × AreInRange gs

-- a visit of a scope stands below it, no deeper than the block, and its numbers are in range
pub record IsBelowScope (b : Block) (s : Scope) (p : Place) : Type 0 where
  pub rest : List Seg
  pub session : p.session ≡ s.session
  pub trail : p.trail ≡ s.trail ++ rest
  pub depth_is : length rest < depth b
  pub ranges : AreInRange rest
  pub hop : p.hop < hop_limit

abbrev pub Ranges : Ways → Type 0
Ranges W = (A : Answers) (b : Block) (s : Scope) (x : Json) (v : Visit) → In v (scope W A b s x).visits → IsBelowScope b s v.place

-- an answer that is added at the end of a list extends its map
abbrev pub Adding : Type 0
Adding = (es : List (Place × Outcome)) (p : Place) (o : Outcome) → Holds (answers_of es) (answers_of (es ++ (p, o) ∷ []))

-- with an answer for a Task its visit has that answer
abbrev pub Answering : Ways → Type 0
Answering W = (A B : Answers) → Holds A B → (b : Block) (s : Scope) (x : Json) (v : Visit) (name resource : Text)
    (o : Outcome) →
    In v (scope W A b s x).visits → v.visited ≡ Called name resource → B v.place ≡ Some o →
    (w : Visit) × In w (scope W B b s x).visits × IsGrown v w × (w.answer ≡ Some o)

-- the places of the visits with no answer, in their order
abbrev pub place_if_open : Option Outcome → Place → List Place
place_if_open None p = p ∷ []
place_if_open (Some o) p = []

abbrev pub open_places : List Visit → List Place
open_places [] = []
open_places (v ∷ vs) = place_if_open v.answer v.place ++ open_places vs

-- a run waits at exactly these, and ends where there is none
abbrev pub WaitsAt : List Visit → End → Type 0
WaitsAt vs (Ended o) = open_places vs ≡ []
WaitsAt vs (Waits ps) = open_places vs ≡ ps

abbrev pub OpenPlaces : Ways → Type 0
OpenPlaces W = (A : Answers) (b : Block) (s : Scope) (x : Json) → WaitsAt (scope W A b s x).visits (scope W A b s x).end

-- ---- as an invariant over a world uses them: R is the run on the journal's answers

-- the end of a scope that was entered, as its Out holds it
abbrev pub EndsAs : Ways → Answers → List Visit → Scope → Outcome → Type 0
EndsAs W A vs s o = (u : Visit) × In u vs × (u.place ≡ at_hop s 0) × (u.visited ≡ Entered) × ((scope W A u.block s u.given).end ≡ Ended o)

-- a fan that some answer leads to, as its Saved holds it
abbrev pub LeadsTo : Ways → Answers → List Visit → Place → Block → (state : Text) → (raw : Json) → Used → List (Block × Json) → Type 0
LeadsTo W A vs p fb name raw used cs = (v : Visit) × In v vs × (v.block ≡ fb) × (o : Outcome) × (v.answer ≡ Some o)
    × (after W v.block v.visited v.place.hop v.raw v.used o ≡ Fan name p.hop raw used cs) × (p ≡ at_hop (scope_of v.place) p.hop)

-- an Out that holds an end goes on holding it
abbrev pub EndKept : Ways → Type 0
EndKept W = (A B : Answers) → Holds A B → (b : Block) (s : Scope) (x : Json) (at : Scope) (o : Outcome) →
    EndsAs W A (scope W A b s x).visits at o → EndsAs W B (scope W B b s x).visits at o

-- a Saved that holds a fan goes on holding it
abbrev pub FanKept : Ways → Type 0
FanKept W = (A B : Answers) → Holds A B → (b : Block) (s : Scope) (x : Json) (p : Place) (fb : Block) (name : Text) (raw : Json)
    (used : Used) (cs : List (Block × Json)) →
    LeadsTo W A (scope W A b s x).visits p fb name raw used cs → LeadsTo W B (scope W B b s x).visits p fb name raw used cs

-- once the Out of each branch is there the Join is, with their outcomes combined as its answer
abbrev pub JoinReady : Ways → Type 0
JoinReady W = (A : Answers) (b : Block) (s : Scope) (x : Json) (p : Place) (fb : Block) (name : Text) (raw : Json) (used : Used)
    (cs : List (Block × Json)) → LeadsTo W A (scope W A b s x).visits p fb name raw used cs →
    ((i : ℕ) → i < length cs → (o : Outcome) × EndsAs W A (scope W A b s x).visits (child p i (length cs)) o) →
    (os : List Outcome) × (length os ≡ length cs)
    × ((i : ℕ) (o : Outcome) → EndsAs W A (scope W A b s x).visits (child p i (length cs)) o → i < length cs → slice_get os i ≡ Some o)
    × (w : Visit) × In w (scope W A b s x).visits × (w.place ≡ p) × (w.block ≡ fb) × (w.visited ≡ Joined name) × (w.raw ≡ raw)
    × (w.used ≡ used) × (w.answer ≡ Some (combine name os))
