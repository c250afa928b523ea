-- What pushes a run to its end: if each name that was invoked has its answer and has led to what comes after it,
-- then every visit of the run was invoked, and its scopes have ended.
use Rattle.std.proofs.Common.{◌≡◌, ℕ, zero, suc, ◌+◌, ◌-◌, ◌<◌, ◌≤◌, List, [], ◌∷◌, map, Bool, true, false, nat_lt, Option, Some, None, length, slice_get, refl, sym, ap, ap₂, ◌∙◌, subst, inl, inr, arith}
use Rattle.std.proofs.lemmas.Option.{same_Some}
use Rattle.std.proofs.lemmas.Bool.{ltb-true, ltb-false}
use Rattle.asl_model.specs.Data.{Text, Json, Outcome, Done, combine}
use Rattle.asl_model.specs.Names.{Scope, Place, Enter, Task as TaskKind, Join, Name, Answers, at_hop, scope_of, child}
use Rattle.asl_model.specs.Machine.{Used, Block, State, start_of, state_of, branches_of}
use Rattle.asl_model.specs.Step.{Onward, Goes, Ends, Begun, On, Calls, Fans, Ways, HasOneEach}
use Rattle.asl_model.specs.Central.{hop_limit, used_by, Visited, Called, Joined, Visit, name_of, kind_of, Ended, Waits, Run, Then_on, Gathered, All_ended, Some_wait, gather, visits_of, then_go, called, joined, entered, turn, enter, walk, scope}
use Rattle.asl_model.specs.Stretch.{Stop, Call, Fan, Over, pairs, children, stop_on, stop_at, stop_in, first_stop, after_in, after}
use Rattle.asl_model.specs.Laws.{In, Within, runs_of, fan_runs, Meets, MeetsFan, Stands, LeadsTo}
use Rattle.asl_model.proofs.Lists.{In-left, In-right, In-cases}
use Rattle.asl_model.proofs.Tree.{branches_at, runners, unroll, by_branches}
use Rattle.asl_model.proofs.Fans.{fan_runs_are, branch_visits}
use Rattle.asl_model.proofs.StandsLaw.{stands_lem, the_enter}
use Rattle.asl_model.proofs.Uses.{branch_ends_lem}
use Rattle.asl_model.proofs.WaitLaw.{waiting_lem}
use Rattle.asl_model.proofs.WorldUse.{item_at, at_item}

-- ---------------------------------------------------------------- words

abbrev pub enter_name : Scope → Name
enter_name s = record { place = at_hop s 0; kind = Enter }

abbrev pub task_name : Place → Name
task_name p = record { place = p; kind = TaskKind }

abbrev pub joins_name : Place → Name
joins_name p = record { place = p; kind = Join }

-- the branches with which a fan begins, where so many may run at once, 0 for any number
abbrev pub At_once : (width index : ℕ) → Type 0
At_once zero i = Unit {0}
At_once (suc w) i = i < suc w

-- what a stop leads to, where I holds of names that were invoked, and O of scopes that have ended
abbrev pub Led : (Block → Text → ℕ) → (Name → Type 0) → (Scope → Type 0) → Block → Scope → Stop → Type 0
Led width I O b s (Call name hop raw used) = I (task_name (at_hop s hop))
Led width I O b s (Fan name hop raw used cs) =
    (cs ≡ [] → I (joins_name (at_hop s hop))) × ((i : ℕ) → i < length cs → At_once (width b name) i → I (enter_name (child (at_hop s hop) i (length cs))))
Led width I O b s (Over o) = O s

-- Each name that was invoked has its answer and has led to what comes after it. The end of a branch leads to the branch
-- that lies the width of its fan further on, and branches that have all ended have led to their Join.
pub record Pushes (W : Ways) (A : Answers) (width : Block → Text → ℕ) (vs : List Visit) (I : Name → Type 0) (O : Scope → Type 0) : Type 0 where
  pub answered : (p : Place) → I (task_name p) → (o : Outcome) × (A p ≡ Some o)
  pub goes : (v : Visit) (o : Outcome) → In v vs → v.answer ≡ Some o → I (name_of v) → Led width I O v.block (scope_of v.place) (after W v.block v.visited v.place.hop v.raw v.used o)
  pub paces : (p : Place) (fb : Block) (name : Text) (raw : Json) (used : Used) (cs : List (Block × Json)) → LeadsTo W A vs p fb name raw used cs → (w : ℕ) → width fb name ≡ suc w →
      (i : ℕ) → i + suc w < length cs → O (child p i (length cs)) → I (enter_name (child p (i + suc w) (length cs)))
  pub joins : (p : Place) (count : ℕ) → 0 < count → ((i : ℕ) → i < count → O (child p i count)) → I (joins_name p)

-- the scope has ended, and each of its visits was invoked
pub record Reached (I : Name → Type 0) (O : Scope → Type 0) (s : Scope) (r : Run) : Type 0 where
  pub ended : (o : Outcome) × (r.end ≡ Ended o)
  pub out : O s
  pub visits : (v : Visit) → In v r.visits → I (name_of v)

-- ---------------------------------------------------------------- branches by their index

pair_in : (bs : List Block) (xs : List Json) (i : ℕ) (c : Block) (x : Json) → slice_get (pairs bs xs) i ≡ Some (c, x) → In c bs
pair_in [] xs i c x e = absurd (cc)
pair_in (b ∷ bs) [] i c x e = absurd (cc)
pair_in (b ∷ bs) (y ∷ ys) zero c x e = inl (ap (λ (z : Block × Json). z.0) (sym (same_Some (b, y) (c, x) e)))
pair_in (b ∷ bs) (y ∷ ys) (suc i) c x e = inr (pair_in bs ys i c x e)

none_in : (cs : List (Block × Json)) → length cs ≡ 0 → cs ≡ []
none_in [] e = refl
none_in (c ∷ cs) e = absurd (omega arith)

-- a visit of a fan's branches is one of a branch
record At_branch (W : Ways) (A : Answers) (p : Place) (count index : ℕ) (cs : List (Block × Json)) (v : Visit) : Type 0 where
  number : ℕ
  inner : Block
  input : Json
  item : slice_get cs number ≡ Some (inner, input)
  own : In v (scope W A inner (child p (index + number) count) input).visits

at_branch : (W : Ways) (A : Answers) (p : Place) (count index : ℕ) (cs : List (Block × Json)) (v : Visit) → In v (visits_of (runs_of W A p count index cs)) → At_branch W A p count index cs v
at_branch W A p count index [] v h = absurd h
at_branch W A p count index (c ∷ cs) v h =
    elim (In-cases (scope W A c.0 (child p index count) c.1).visits (visits_of (runs_of W A p count (suc index) cs)) v h) [
      | inl a ↦
          let n : index ≡ index + 0 = omega arith in
          record { number = 0; inner = c.0; input = c.1; item = refl; own = subst (λ k. In v (scope W A c.0 (child p k count) c.1).visits) n a }
      | inr t ↦
          let r = at_branch W A p count (suc index) cs v t in
          let n : suc index + r.number ≡ index + suc r.number = omega arith in
          record { number = suc r.number; inner = r.inner; input = r.input; item = r.item; own = subst (λ k. In v (scope W A r.inner (child p k count) r.input).visits) n r.own }
    ]

-- ---------------------------------------------------------------- one scope

within_go : (vs : List Visit) (o : Onward) (go : Text → Json → Option Used → Run) → Within vs (then_go vs (Then_on o) go).visits
within_go vs (Goes next v again) go w h = In-left vs (go next v again).visits w h
within_go vs (Ends o) go w h = h

module _ (W : Ways) (one : HasOneEach W) (A : Answers) (width : Block → Text → ℕ) (vs : List Visit) (I : Name → Type 0) (O : Scope → Type 0) (P : Pushes W A width vs I O) where
  -- a stop that an answer of a visit leads to
  record Follow (b : Block) (s : Scope) (stop : Stop) : Type 0 where
    led : Led width I O b s stop
    fan : (name : Text) (hop : ℕ) (raw : Json) (used : Used) (cs : List (Block × Json)) → stop ≡ Fan name hop raw used cs → LeadsTo W A vs (at_hop s hop) b name raw used cs

  follow : (v : Visit) (o : Outcome) → In v vs → v.answer ≡ Some o → I (name_of v) → Follow v.block (scope_of v.place) (after W v.block v.visited v.place.hop v.raw v.used o)
  follow v o i e k = record { led = P.goes v o i e k; fan = λ name hop raw used cs q. (v, i, refl, o, e, q, refl) }

  abbrev Fits : Block → Type 0
  Fits b = (s : Scope) (x : Json) → Within (scope W A b s x).visits vs → I (enter_name s) → Reached I O s (scope W A b s x)

  -- the branches of a fan
  module _ (b : Block) (s : Scope) (name : Text) (hop : ℕ) (raw : Json) (used : Used) (cs : List (Block × Json)) (ih : (i : ℕ) (c : Block) (x : Json) → slice_get cs i ≡ Some (c, x) → Fits c)
      (within : Within (visits_of (fan_runs W A (at_hop s hop) cs)) vs) (follows : Follow b s (Fan name hop raw used cs)) where
    abbrev branch : ℕ → Scope
    branch i = child (at_hop s hop) i (length cs)

    item_reached : (i : ℕ) (c : Block) (x : Json) → slice_get cs i ≡ Some (c, x) → I (enter_name (branch i)) → Reached I O (branch i) (scope W A c (branch i) x)
    item_reached i c x e k =
        let n : i ≡ 0 + i = omega arith in
        ih i c x e (branch i) x (λ v h. within v (branch_visits W A (at_hop s hop) (length cs) 0 cs i c x e v (subst (λ z. In v (scope W A c (child (at_hop s hop) z (length cs)) x).visits) n h))) k

    -- the branches below a number were invoked
    invoked : (m i : ℕ) → i < m → i < length cs → I (enter_name (branch i))
    invoked zero i l h = absurd (omega arith)
    invoked (suc m) i l h = by (λ k lk hk. invoked m k lk hk) (width b name) refl
      where
        later : ((k : ℕ) → k < m → k < length cs → I (enter_name (branch k))) → (w : ℕ) → width b name ≡ suc w → (t : Bool) → nat_lt i (suc w) ≡ t → I (enter_name (branch i))
        later rec w e true q = follows.led.1 i h (subst (λ z. At_once z i) (sym e) (ltb-true i (suc w) q))
        later rec w e false q =
            let far : suc w ≤ i = ltb-false i (suc w) q in
            let k : ℕ = i - suc w in
            let back : k + suc w ≡ i = omega arith in
            let (c, at) = item_at cs k (omega arith) in
            let ended : O (branch k) = (item_reached k c.0 c.1 at (rec k (omega arith) (omega arith))).out in
            subst (λ z. I (enter_name (branch z))) back (P.paces (at_hop s hop) b name raw used cs (follows.fan name hop raw used cs refl) w e k (omega arith) ended)

        by : ((k : ℕ) → k < m → k < length cs → I (enter_name (branch k))) → (w : ℕ) → width b name ≡ w → I (enter_name (branch i))
        by rec zero e = follows.led.1 i h (subst (λ z. At_once z i) (sym e) tt)
        by rec (suc w) e = later rec w e (nat_lt i (suc w)) refl

    reached_at : (i : ℕ) (c : Block) (x : Json) → slice_get cs i ≡ Some (c, x) → Reached I O (branch i) (scope W A c (branch i) x)
    reached_at i c x e = let l : i < length cs = at_item cs i (c, x) e in item_reached i c x e (invoked (suc i) i (omega arith) l)

    all_ended : (os : List Outcome) × (gather (fan_runs W A (at_hop s hop) cs) ≡ All_ended os)
    all_ended = let r = (branch_ends_lem W A (at_hop s hop) cs).1 (λ i c x e. (reached_at i c x e).ended) in (r.0, r.1)

    join_invoked : I (joins_name (at_hop s hop))
    join_invoked = by (length cs) refl
      where
        by : (n : ℕ) → length cs ≡ n → I (joins_name (at_hop s hop))
        by zero e = follows.led.0 (none_in cs e)
        by (suc n) e = P.joins (at_hop s hop) (length cs) (omega arith) (λ i l. let (c, at) = item_at cs i l in (reached_at i c.0 c.1 at).out)

    inner_visits : (v : Visit) → In v (visits_of (fan_runs W A (at_hop s hop) cs)) → I (name_of v)
    inner_visits v h =
        let r = at_branch W A (at_hop s hop) (length cs) 0 cs v h in
        let n : 0 + r.number ≡ r.number = omega arith in
        (reached_at r.number r.inner r.input r.item).visits v (subst (λ z. In v (scope W A r.inner (child (at_hop s hop) z (length cs)) r.input).visits) n r.own)

  -- a turn at one state, and all that follows it
  module _ (b : Block) (s : Scope) (name : Text) (st : State) (found : state_of b name ≡ Some st) (hop left : ℕ) (rest : left ≡ hop_limit - suc hop) (raw : Json) (used : Used) (go : Text → Json → Option Used → Run)
      (reach : (n : Text) (x : Json) (a : Option Used) → Within (go n x a).visits vs → Follow b s (first_stop W b left n (suc hop) x a) → Reached I O s (go n x a)) where
    abbrev next_stop : Text → Json → Option Used → Stop
    next_stop n x a = first_stop W b left n (suc hop) x a

    on_reached : (us : List Visit) (o : Onward) → ((v : Visit) → In v us → I (name_of v)) → Within (then_go us (Then_on o) go).visits vs → Follow b s (stop_on o next_stop) → Reached I O s (then_go us (Then_on o) go)
    on_reached us (Goes n x a) h within f =
        let r : Reached I O s (go n x a) = reach n x a (λ v i. within v (In-right us (go n x a).visits v i)) f in
        record { ended = r.ended; out = r.out; visits = λ v i. elim (In-cases us (go n x a).visits v i) [ inl k ↦ h v k | inr k ↦ r.visits v k ] }
    on_reached us (Ends o) h within f = record { ended = (o, refl); out = f.led; visits = h }

    -- after an answer of the state's visit
    answered_reached : (it : Visit) (us : List Visit) (o : Outcome) → it.answer ≡ Some o → it.block ≡ b → scope_of it.place ≡ s → after W it.block it.visited it.place.hop it.raw it.used o ≡ after_in W b name (state_of b name) hop raw used o → I (name_of it) →
        ((v : Visit) → In v us → I (name_of v)) → Within (then_go (it ∷ us) (Then_on (W.finish name st raw used o)) go).visits vs → Reached I O s (then_go (it ∷ us) (Then_on (W.finish name st raw used o)) go)
    answered_reached it us o e eb es ea k h within =
        let i : In it vs = within it (within_go (it ∷ us) (W.finish name st raw used o) go it (inl refl)) in
        let f : Follow it.block (scope_of it.place) (after W it.block it.visited it.place.hop it.raw it.used o) = follow it o i e k in
        let g : Follow b s (after_in W b name (state_of b name) hop raw used o) = subst (λ z. Follow b s z) ea (subst (λ z. Follow b z (after W it.block it.visited it.place.hop it.raw it.used o)) es (subst (λ z. Follow z (scope_of it.place) (after W it.block it.visited it.place.hop it.raw it.used o)) eb f)) in
        let at : Follow b s (after_in W b name (Some st) hop raw used o) = subst (λ z. Follow b s (after_in W b name z hop raw used o)) found g in
        on_reached (it ∷ us) (W.finish name st raw used o) (λ v j. elim j [ inl q ↦ subst (λ (z : Visit). I (name_of z)) (sym q) k | inr q ↦ h v q ]) within
        (subst (λ l. Follow b s (stop_on (W.finish name st raw used o) (λ n x a. first_stop W b l n (suc hop) x a))) (sym rest) at)

    called_reached : (resource : Text) (x : Json) (m : Option Outcome) (o : Outcome) → m ≡ Some o → I (task_name (at_hop s hop)) →
        Within (then_go (called W b name st (at_hop s hop) raw used resource x m).visits (called W b name st (at_hop s hop) raw used resource x m).onward go).visits vs →
        Reached I O s (then_go (called W b name st (at_hop s hop) raw used resource x m).visits (called W b name st (at_hop s hop) raw used resource x m).onward go)
    called_reached resource x None o e k within = absurd (cc)
    called_reached resource x (Some y) o e k within =
        answered_reached (record { place = at_hop s hop; block = b; visited = Called name resource; raw = raw; used = used; given = x; answer = Some y }) [] y refl refl refl refl k (λ v i. absurd i) within

    joined_reached : (us : List Visit) (g : Gathered) (os : List Outcome) → g ≡ All_ended os → I (joins_name (at_hop s hop)) → ((v : Visit) → In v us → I (name_of v)) →
        Within (then_go (joined W b name st (at_hop s hop) raw used us g).visits (joined W b name st (at_hop s hop) raw used us g).onward go).visits vs →
        Reached I O s (then_go (joined W b name st (at_hop s hop) raw used us g).visits (joined W b name st (at_hop s hop) raw used us g).onward go)
    joined_reached us (Some_wait ps) os e k h within = absurd (cc)
    joined_reached us (All_ended qs) os e k h within =
        answered_reached (record { place = at_hop s hop; block = b; visited = Joined name; raw = raw; used = used; given = raw; answer = Some (combine name qs) }) us (combine name qs) refl refl refl refl k h within

    -- the branches stand in what a fan does
    inside_joined : (us : List Visit) (g : Gathered) → Within us (then_go (joined W b name st (at_hop s hop) raw used us g).visits (joined W b name st (at_hop s hop) raw used us g).onward go).visits
    inside_joined us (Some_wait ps) v h = h
    inside_joined us (All_ended os) v h =
        within_go (record { place = at_hop s hop; block = b; visited = Joined name; raw = raw; used = used; given = raw; answer = Some (combine name os) } ∷ us) (W.finish name st raw used (combine name os)) go v (inr h)

    fan_reached : (inputs : List Json) → ((n : ℕ) (c : Block) → In c (branches_of st n) → Fits c) → (rs : List Run) → rs ≡ fan_runs W A (at_hop s hop) (children st inputs) →
        Within (then_go (joined W b name st (at_hop s hop) raw used (visits_of rs) (gather rs)).visits (joined W b name st (at_hop s hop) raw used (visits_of rs) (gather rs)).onward go).visits vs →
        Follow b s (Fan name hop raw used (children st inputs)) → Reached I O s (then_go (joined W b name st (at_hop s hop) raw used (visits_of rs) (gather rs)).visits (joined W b name st (at_hop s hop) raw used (visits_of rs) (gather rs)).onward go)
    fan_reached inputs ih rs same within f =
        let cs : List (Block × Json) = children st inputs in
        let n : ℕ = length inputs in
        let each_fits : (i : ℕ) (c : Block) (x : Json) → slice_get cs i ≡ Some (c, x) → Fits c = λ i c x e. ih n c (pair_in (branches_of st n) inputs i c x e) in
        let inside : Within (visits_of (fan_runs W A (at_hop s hop) cs)) vs = λ v h. within v (inside_joined (visits_of rs) (gather rs) v (subst (λ z. In v (visits_of z)) (sym same) h)) in
        let all = all_ended b s name hop raw used cs each_fits inside f in
        joined_reached (visits_of rs) (gather rs) all.0 (ap gather same ∙ all.1) (join_invoked b s name hop raw used cs each_fits inside f)
        (λ v h. inner_visits b s name hop raw used cs each_fits inside f v (subst (λ z. In v (visits_of z)) same h)) within

    turn_reached : ((n : ℕ) (c : Block) → In c (branches_of st n) → Fits c) → (u : Begun) → W.begin name st raw ≡ u →
        let t = turn W A b name st (λ n. map (scope W A) (branches_of st n)) (at_hop s hop) raw used u in
        Within (then_go t.visits t.onward go).visits vs → Follow b s (stop_at name st hop raw used u next_stop) → Reached I O s (then_go t.visits t.onward go)
    turn_reached ih (On o) e within f = on_reached [] o (λ v i. absurd i) within f
    turn_reached ih (Calls resource x) e within f = let a = P.answered (at_hop s hop) f.led in called_reached resource x (A (at_hop s hop)) a.0 a.1 f.led within
    turn_reached ih (Fans inputs) e within f = fan_reached inputs ih _ (fan_runs_are W one A (at_hop s hop) name st raw inputs e) within f

  over_reached : (b : Block) (s : Scope) (o : Outcome) → Follow b s (Over o) → Reached I O s (record { visits = []; end = Ended o })
  over_reached b s o f = record { ended = (o, refl); out = f.led; visits = λ v i. absurd i }

  enter_reached : (b : Block) (s : Scope) (name : Text) (hop left : ℕ) → left ≡ hop_limit - suc hop → (raw : Json) (again : Option Used) (go : Text → Json → Option Used → Run) →
      ((n : Text) (x : Json) (a : Option Used) → Within (go n x a).visits vs → Follow b s (first_stop W b left n (suc hop) x a) → Reached I O s (go n x a)) → (m : Option State) → state_of b name ≡ m → ((n : ℕ) (c : Block) → In c (branches_at m n) → Fits c) →
      Within (enter W A b name m (λ n. map (scope W A) (branches_at m n)) s hop raw again go).visits vs → Follow b s (stop_in W name m hop raw again (λ n x a. first_stop W b left n (suc hop) x a)) →
      Reached I O s (enter W A b name m (λ n. map (scope W A) (branches_at m n)) s hop raw again go)
  enter_reached b s name hop left rest raw again go reach None found ih within f = over_reached b s _ f
  enter_reached b s name hop left rest raw again go reach (Some st) found ih within f = turn_reached b s name st found hop left rest raw (used_by W st again) go reach ih (W.begin name st raw) refl within f

  walk_reached : (b : Block) → ((name : Text) (n : ℕ) (c : Block) → In c (branches_at (state_of b name) n) → Fits c) → (s : Scope) (left : ℕ) (name : Text) (hop : ℕ) (raw : Json) (again : Option Used) → hop + left ≡ hop_limit →
      Within (walk W A b (runners W A b) left s name hop raw again).visits vs → Follow b s (first_stop W b left name hop raw again) → Reached I O s (walk W A b (runners W A b) left s name hop raw again)
  walk_reached b ih s zero name hop raw again e within f = over_reached b s _ f
  walk_reached b ih s (suc left) name hop raw again e within f =
      enter_reached b s name hop left (omega arith) raw again _ (λ n x a w g. walk_reached b ih s left n (suc hop) x a (omega arith) w g) (state_of b name) refl (ih name) within f

  entered_reached : (b : Block) (s : Scope) (x : Json) (r : Run) → I (enter_name s) → Reached I O s r → Reached I O s (entered b s x r)
  entered_reached b s x r k d = record { ended = d.ended; out = d.out; visits = λ v i. elim i [ inl e ↦ subst (λ (z : Visit). I (name_of z)) (sym e) k | inr t ↦ d.visits v t ] }

  block_reached : (b : Block) → ((name : Text) (n : ℕ) (c : Block) → In c (branches_at (state_of b name) n) → Fits c) → Fits b
  block_reached b ih s x within k =
      let r : Run = walk W A b (runners W A b) hop_limit s (start_of b) 0 x None in
      let it : Visit = the_enter W one A b s x in
      let inside : Within (entered b s x r).visits vs = subst (λ (z : Run). Within z.visits vs) (unroll W A b s x) within in
      let f : Follow b s (first_stop W b (hop_limit - 0) (start_of b) 0 x None) = follow it (Done x) (inside it (inl refl)) refl k in
      let n : hop_limit - 0 ≡ hop_limit = omega arith in
      subst (λ (z : Run). Reached I O s z) (sym (unroll W A b s x))
      (entered_reached b s x r k (walk_reached b ih s hop_limit (start_of b) 0 x None (omega arith) (λ v i. inside v (inr i)) (subst (λ l. Follow b s (first_stop W b l (start_of b) 0 x None)) n f)))

  pub block_reach : (b : Block) → Fits b
  block_reach = by_branches Fits block_reached

-- where a run is pushed on, it has ended, and each of its visits was invoked
pub reach_lem : (W : Ways) → HasOneEach W → (A : Answers) (width : Block → Text → ℕ) (I : Name → Type 0) (O : Scope → Type 0) (b : Block) (s : Scope) (x : Json) →
    Pushes W A width (scope W A b s x).visits I O → I (enter_name s) → Reached I O s (scope W A b s x)
reach_lem W one A width I O b s x P k = block_reach W one A width (scope W A b s x).visits I O P b s x (λ v i. i) k

-- ---------------------------------------------------------------- the fans of a run that has ended

-- a scope in a run that has ended has the Join of its fan
joined_in : (W : Ways) (A : Answers) (b : Block) (s : Scope) (x : Json) (o : Outcome) → (scope W A b s x).end ≡ Ended o → (c : Block) (u : Scope) (y : Json) → Within (scope W A c u y).visits (scope W A b s x).visits →
    (name : Text) (hop : ℕ) (raw : Json) (used : Used) (cs : List (Block × Json)) → MeetsFan W A c u (scope W A c u y) name hop raw used cs → (g : Gathered) → gather (fan_runs W A (at_hop u hop) cs) ≡ g →
    (w : Visit) × In w (scope W A b s x).visits × (name_of w ≡ joins_name (at_hop u hop))
joined_in W A b s x o e c u y within name hop raw used cs fan (All_ended os) q =
    let j = fan.join os q in
    (j.visit, within j.visit j.in_run, ap₂ (λ (p : Place) (z : Visited). let n : Name = record { place = p; kind = kind_of z } in n) j.place j.visited)
joined_in W A b s x o e c u y within name hop raw used cs fan (Some_wait ps) q =
    let stays : (scope W A c u y).end ≡ Waits ps = fan.waits ps q in
    let (h, k) = (waiting_lem W A c u y).some ps stays in
    let (v, i, vp, vn) = (waiting_lem W A c u y).waits_open ps stays h k in
    let (qs, waits, m) = (waiting_lem W A b s x).open_waits v (within v i) vn in
    absurd (let z : Ended o ≡ Waits qs = sym e ∙ waits in cc)

-- each fan of a run that has ended has its Join there
pub fan_joined_lem : (W : Ways) → HasOneEach W → (A : Answers) (b : Block) (s : Scope) (x : Json) (o : Outcome) → (scope W A b s x).end ≡ Ended o →
    (p : Place) (fb : Block) (name : Text) (raw : Json) (used : Used) (cs : List (Block × Json)) → LeadsTo W A (scope W A b s x).visits p fb name raw used cs →
    (w : Visit) × In w (scope W A b s x).visits × (name_of w ≡ joins_name p)
fan_joined_lem W one A b s x o e p fb name raw used cs (v, i, vb, r, ve, vf, vp) =
    let t : Stands W A (scope W A b s x).visits v = stands_lem W one A b s x v i in
    let fan : MeetsFan W A t.at_block t.at_scope (scope W A t.at_block t.at_scope t.enter.given) name p.hop raw used cs =
    subst (Meets W A t.at_block t.at_scope (scope W A t.at_block t.at_scope t.enter.given)) (ap (λ z. after W z v.visited v.place.hop v.raw v.used r) (sym t.block) ∙ vf) (t.next r ve) in
    let at : at_hop t.at_scope p.hop ≡ p = ap (λ z. at_hop z p.hop) (sym t.scope_is) ∙ sym vp in
    subst (λ (q : Place). (w : Visit) × In w (scope W A b s x).visits × (name_of w ≡ joins_name q)) at
    (joined_in W A b s x o e t.at_block t.at_scope t.enter.given t.within name p.hop raw used cs fan (gather (fan_runs W A (at_hop t.at_scope p.hop) cs)) refl)
