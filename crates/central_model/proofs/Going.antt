-- What is left of a run, while it is made.
use Rattle.std.proofs.Common.{◌≡◌, ℕ, zero, suc, ◌+◌, ◌-◌, ◌<◌, ◌≤◌, List, [], ◌∷◌, ◌++◌, map, drop, length, get_or, slice_get, Option, Some, None, Result, Ok, Err, refl, sym, ap, ◌∙◌, subst, arith, add-one, append-nil, append_assoc}
use Rattle.std.proofs.lemmas.List.{drop_more}
use Rattle.asl_model.specs.Data.{Text, Json, Outcome, failure, hop_limit_error}
use Rattle.asl_model.specs.Names.{Scope, Answers, child}
use Rattle.asl_model.specs.Machine.{Block, State, Used, start_of, state_of, branches_of}
use Rattle.asl_model.specs.Step.{Goes, Ends, standard}
use Rattle.asl_model.specs.Central as c
use Rattle.asl_model.specs.Tree.{state_tree}
use Rattle.asl_model.proofs.Tree.{branches_at, unroll}
use Rattle.central_model.specs.declared.run.End.{End}
use Rattle.central_model.specs.declared.run.End.TheVariants as end
use Rattle.central_model.specs.declared.entering.Entry.{Entry}
use Rattle.central_model.specs.declared.gathering.Gathered.{Gathered}
use Rattle.central_model.specs.declared.trouble.CentralError.{CentralError}
use Rattle.central_model.specs.declared.trouble.CentralError.TheVariants as error
use Rattle.central_model.specs.declared.walk.Walk.{Walk}
use Rattle.central_model.specs.Asking.{Asking, asking_of, AreAnswered}
use Rattle.central_model.specs.Gathering.{and_end, both}
use Rattle.central_model.specs.Told.{told_end}
use Rattle.central_model.specs.Views.{gathered_of}
use Rattle.central_model.specs.Walked.{Adds, Made, Runs, Gathers, IsEntry, enter_visit, walk_from, turn_in, turn_of}
use Rattle.central_model.proofs.Steps.{answered_parts, adds_none, made_after, failed_before}

-- Where the whole run has its answers the rest has them, and what makes the rest makes the whole.
abbrev pub Rests : Walk → Walk → (whole rest : c.Run) → Type 0
Rests old here whole rest =
    AreAnswered (asking_of old.source) old.count whole.visits →
    AreAnswered (asking_of old.source) here.count rest.visits
    × ((result : Result End CentralError) (new : Walk) → Runs here result new rest → Runs old result new whole)

-- the runs of the branches from an index on
abbrev pub rest_runs : Answers → Entry → List Json → ℕ → List c.Run
rest_runs A e inputs index =
    c.each e.place (length inputs) index (drop index (map (c.scope standard A) (branches_of (state_tree e.state.now) (length inputs)))) (drop index inputs)

-- these runs of branches were made after the others
abbrev pub GathersMore : Gathered → Walk → Result Gathered CentralError → Walk → List c.Run → Type 0
GathersMore g old result new rs = Made old result new (c.visits_of rs) (λ k. gathered_of k ≡ both (gathered_of g) (c.gather rs))

-- the same for branches
abbrev pub GathersRest : Walk → Walk → Gathered → (whole rest : List c.Run) → Type 0
GathersRest old here g whole rest =
    AreAnswered (asking_of old.source) old.count (c.visits_of whole) →
    AreAnswered (asking_of old.source) here.count (c.visits_of rest)
    × ((result : Result Gathered CentralError) (new : Walk) → GathersMore g here result new rest → Gathers old result new whole)

made_as : {X : Type 0} (old new : Walk) (r : Result X CentralError) (vs : List c.Visit) (Is Are : X → Type 0) → ((x : X) → Is x → Are x) → Made old r new vs Is → Made old r new vs Are
made_as old new (Ok x) vs Is Are h m = (m.0, h x m.1)
made_as old new (Err error.TooLong) vs Is Are h m = m
made_as old new (Err error.NoMemory) vs Is Are h m = m

failed_as : {X Y : Type 0} (old new more : Walk) (e : CentralError) (vs : List c.Visit) (Is : X → Type 0) (Are : Y → Type 0) → Made old (Err e) new vs Is → Made old (Err e) more vs Are
failed_as old new more error.TooLong vs Is Are m = m
failed_as old new more error.NoMemory vs Is Are m = tt

-- ---- a scope

module _ (A : Answers) (b : Block) (s : Scope) (x : Json) (old mid new : Walk) where
  abbrev walked : c.Run
  walked = walk_from A b c.hop_limit s (start_of b) 0 x None

  pub scope_made : (r : Result End CentralError) → Adds old mid (enter_visit b s x ∷ []) → mid.source ≡ old.source → mid.limit ≡ old.limit → (AreAnswered (asking_of mid.source) mid.count walked.visits → Runs mid r new walked) →
      AreAnswered (asking_of old.source) old.count (c.scope standard A b s x).visits → Runs old r new (c.scope standard A b s x)
  scope_made r a e l h =
      subst (λ (q : c.Run). AreAnswered (asking_of old.source) old.count q.visits → Runs old r new q) (sym (unroll standard A b s x)) (λ asked.
      made_after old mid new r (enter_visit b s x ∷ []) walked.visits (λ k. k ≡ told_end walked.end) a l
      (h (subst (λ n. AreAnswered (asking_of mid.source) n walked.visits) (sym a.count) (subst (λ z. AreAnswered (asking_of z) old.count walked.visits) (sym e) asked.1))))

  pub scope_failed : {X : Type 0} (e : CentralError) (Is : X → Type 0) → Made old (Err e) mid (enter_visit b s x ∷ []) Is → Runs old (Err e) mid (c.scope standard A b s x)
  scope_failed e Is m =
      subst (λ (q : c.Run). Runs old (Err e) mid q) (sym (unroll standard A b s x)) (failed_before old mid mid e (enter_visit b s x ∷ []) walked.visits Is (λ k. k ≡ told_end walked.end) m)

-- ---- a state of a scope

pub same_turn : (A : Answers) (b : Block) (s : Scope) (name : Text) (hop : ℕ) (raw : Json) (again : Option Used) (e : Entry) → IsEntry b s name hop raw again e → turn_in A b name (state_of b name) s hop raw again ≡ turn_of b A e
same_turn A b s name hop raw again e is =
    let st = state_tree e.state.now in
    let turned : Text → Json → Used → c.Turn = λ n x u. c.turn standard A b n st (λ k. map (c.scope standard A) (branches_of st k)) e.place x u (standard.begin n st x) in
    ap (λ m. turn_in A b name m s hop raw again) is.found
    ∙ ap (λ p. c.turn standard A b name st (λ k. map (c.scope standard A) (branches_of st k)) p raw (c.used_by standard st again) (standard.begin name st raw)) (sym is.place)
    ∙ ap (λ n. turned n raw (c.used_by standard st again)) (sym is.name_is)
    ∙ ap (λ x. turned e.name.now x (c.used_by standard st again)) (sym is.raw_is)
    ∙ ap (λ u. turned e.name.now e.raw u) (sym is.used_is)

enter_is : (A : Answers) (b : Block) (name : Text) (m : Option State) (s : Scope) (hop : ℕ) (raw : Json) (again : Option Used) (go : Text → Json → Option Used → c.Run) →
    c.enter standard A b name m (λ n. map (c.scope standard A) (branches_at m n)) s hop raw again go ≡ c.then_go (turn_in A b name m s hop raw again).visits (turn_in A b name m s hop raw again).onward go
enter_is A b name None s hop raw again go = refl
enter_is A b name (Some st) s hop raw again go = refl

go_front : (ask : Asking) (n : ℕ) (vs : List c.Visit) (w : c.Then) (go : Text → Json → Option Used → c.Run) → AreAnswered ask n (c.then_go vs w go).visits → AreAnswered ask n vs
go_front ask n vs (c.Then_on (Goes k x a)) go h = (answered_parts ask n vs (go k x a).visits h).0
go_front ask n vs (c.Then_on (Ends o)) go h = h
go_front ask n vs (c.Stays ps) go h = h

failed_go : {X : Type 0} (old new : Walk) (e : CentralError) (vs : List c.Visit) (Is : X → Type 0) (w : c.Then) (go : Text → Json → Option Used → c.Run) → Made old (Err e) new vs Is → Runs old (Err e) new (c.then_go vs w go)
failed_go old new e vs Is (c.Then_on (Goes k x a)) go m = failed_before old new new e vs (go k x a).visits Is _ m
failed_go old new e vs Is (c.Then_on (Ends o)) go m = failed_as old new new e vs Is _ m
failed_go old new e vs Is (c.Stays ps) go m = failed_as old new new e vs Is _ m

module _ (A : Answers) (b : Block) (s : Scope) (old here next : Walk) (whole : c.Run) (at : ℕ) (name : Text) (v : Json) (again : Option Used) (below : at < 2000) (source : here.source ≡ old.source) where
  abbrev here_run : c.Run
  here_run = walk_from A b (2000 - at) s name at v again

  abbrev turned : c.Turn
  turned = turn_in A b name (state_of b name) s at v again

  abbrev goes : Text → Json → Option Used → c.Run
  goes n w a = walk_from A b (2000 - (at + 1)) s n (at + 1) w a

  one_more : here_run ≡ c.then_go turned.visits turned.onward goes
  one_more =
      let left : 2000 - at ≡ suc (2000 - (at + 1)) = omega arith in
      ap (λ n. walk_from A b n s name at v again) left
      ∙ enter_is A b name (state_of b name) s at v again (λ n w a. walk_from A b (2000 - (at + 1)) s n (suc at) w a)
      ∙ ap (λ k. c.then_go turned.visits turned.onward (λ n w a. walk_from A b (2000 - (at + 1)) s n k w a)) (sym (add-one at))

  asked_turn : AreAnswered (asking_of old.source) here.count here_run.visits → AreAnswered (asking_of here.source) here.count turned.visits
  asked_turn h =
      subst (λ z. AreAnswered (asking_of z) here.count turned.visits) (sym source)
      (go_front (asking_of old.source) here.count turned.visits turned.onward goes (subst (λ (q : c.Run). AreAnswered (asking_of old.source) here.count q.visits) one_more h))

  -- it goes on to another state
  pub rests_on : (n : Text) (w : Json) (a : Option Used) → next.limit ≡ here.limit → Rests old here whole here_run →
      (AreAnswered (asking_of here.source) here.count turned.visits → Adds here next turned.visits × (c.Then_on (Goes n w a) ≡ turned.onward)) → Rests old next whole (goes n w a)
  rests_on n w a limit rests turn = λ asked.
      let (r, f) = rests asked in
      let (adds, on) = turn (asked_turn r) in
      let is : here_run ≡ c.then_go turned.visits (c.Then_on (Goes n w a)) goes = one_more ∙ ap (λ z. c.then_go turned.visits z goes) (sym on) in
      let parts = answered_parts (asking_of old.source) here.count turned.visits (goes n w a).visits (subst (λ (q : c.Run). AreAnswered (asking_of old.source) here.count q.visits) is r) in (
        subst (λ k. AreAnswered (asking_of old.source) k (goes n w a).visits) (sym adds.count) parts.1,
        λ res new m.
            f res new (subst (λ (q : c.Run). Runs here res new q) (sym is) (made_after here next new res turned.visits (goes n w a).visits (λ k. k ≡ told_end (goes n w a).end) adds limit m)),
      )

  -- the scope stops there
  pub rests_stay : (e : End) (w : c.Then) → told_end (c.then_go turned.visits w goes).end ≡ e → (c.then_go turned.visits w goes).visits ≡ turned.visits → Rests old here whole here_run →
      (AreAnswered (asking_of here.source) here.count turned.visits → Adds here next turned.visits × (w ≡ turned.onward)) → AreAnswered (asking_of old.source) old.count whole.visits → Runs old (Ok e) next whole
  rests_stay e w ends same rests turn asked =
      let (r, f) = rests asked in
      let (adds, on) = turn (asked_turn r) in
      let is : here_run ≡ c.then_go turned.visits w goes = one_more ∙ ap (λ z. c.then_go turned.visits z goes) (sym on) in
      f (Ok e) next (subst (λ (q : c.Run). Runs here (Ok e) next q) (sym is) (subst (λ vs. Adds here next vs) (sym same) adds, sym ends))

  pub rests_failed : {X : Type 0} (e : CentralError) (Is : X → Type 0) → Rests old here whole here_run → (AreAnswered (asking_of here.source) here.count turned.visits → Made here (Err e) next turned.visits Is) →
      AreAnswered (asking_of old.source) old.count whole.visits → Runs old (Err e) next whole
  rests_failed e Is rests turn asked =
      let (r, f) = rests asked in
      f (Err e) next (subst (λ (q : c.Run). Runs here (Err e) next q) (sym one_more) (failed_go here next e turned.visits Is turned.onward goes (turn (asked_turn r))))

pub rests_first : (A : Answers) (b : Block) (s : Scope) (old : Walk) (name : Text) (v : Json) → start_of b ≡ name → Rests old old (walk_from A b c.hop_limit s (start_of b) 0 v None) (walk_from A b (2000 - 0) s name 0 v None)
unfolding c.hop_limit
rests_first A b s old name v e = subst (λ n. Rests old old (walk_from A b 2000 s (start_of b) 0 v None) (walk_from A b 2000 s n 0 v None)) e (λ asked. (asked, λ res new m. m))

-- no state is entered past the limit
pub rests_over : (A : Answers) (b : Block) (s : Scope) (old here : Walk) (whole : c.Run) (at : ℕ) (name : Text) (v : Json) (again : Option Used) (o : Outcome) → 2000 ≤ at → o ≡ failure hop_limit_error name →
    Rests old here whole (walk_from A b (2000 - at) s name at v again) → AreAnswered (asking_of old.source) old.count whole.visits → Runs old (Ok (end.Ended o)) here whole
rests_over A b s old here whole at name v again o past is rests asked =
    let none : 2000 - at ≡ 0 = omega arith in
    let (r, f) = rests asked in
    f (Ok (end.Ended o)) here (subst (λ n. Runs here (Ok (end.Ended o)) here (walk_from A b n s name at v again)) (sym none) (adds_none here, ap (λ z. end.Ended z) is))

-- ---- branches

drop_mapped : {X Y : Type 0} (f : X → Y) (xs : List X) (i : ℕ) (x : X) → slice_get xs i ≡ Some x → drop i (map f xs) ≡ f x ∷ drop (i + 1) (map f xs)
drop_mapped f [] i x e = absurd (cc)
drop_mapped f (y ∷ ys) zero x e = let same : y ≡ x = cc in ap (λ z. f z ∷ map f ys) same
drop_mapped f (y ∷ ys) (suc i) x e = drop_mapped f ys i x e ∙ ap (λ n. f x ∷ drop n (f y ∷ map f ys)) (let k : suc (i + 1) ≡ suc i + 1 = omega arith in k)

drop_end : {X : Type 0} (xs : List X) (i : ℕ) → length xs ≤ i → drop i xs ≡ []
drop_end [] zero h = refl
drop_end [] (suc i) h = refl
drop_end (x ∷ xs) zero h = absurd (omega arith)
drop_end (x ∷ xs) (suc i) h = drop_end xs i (omega arith)

drop_past : {X Y : Type 0} (f : X → Y) (xs : List X) (i : ℕ) → slice_get xs i ≡ None → (drop i (map f xs) ≡ []) × (drop (i + 1) (map f xs) ≡ [])
drop_past {X} {Y} f [] i e = (drop_end {X = Y} [] i (omega arith), drop_end {X = Y} [] (i + 1) (omega arith))
drop_past f (y ∷ ys) zero e = absurd (cc)
drop_past f (y ∷ ys) (suc i) e = let (a, b) = drop_past f ys i e in (a, ap (λ n. drop n (f y ∷ map f ys)) (let k : suc i + 1 ≡ suc (i + 1) = omega arith in k) ∙ b)

both_more : (g : c.Gathered) (e : c.End) (h : c.Gathered) → both (and_end g e) h ≡ both g (c.with_end e h)
both_more (c.All_ended os) (c.Ended o) (c.All_ended more) = ap (λ l. c.All_ended l) (append_assoc os (o ∷ []) more)
both_more (c.All_ended os) (c.Ended o) (c.Some_wait ps) = refl
both_more (c.All_ended os) (c.Waits ps) (c.All_ended more) = refl
both_more (c.All_ended os) (c.Waits ps) (c.Some_wait qs) = refl
both_more (c.Some_wait ps) (c.Ended o) (c.All_ended more) = refl
both_more (c.Some_wait ps) (c.Ended o) (c.Some_wait qs) = refl
both_more (c.Some_wait ps) (c.Waits qs) (c.All_ended more) = refl
both_more (c.Some_wait ps) (c.Waits qs) (c.Some_wait more) = ap (λ l. c.Some_wait l) (append_assoc ps qs more)

both_none : (g : c.Gathered) → both g (c.All_ended []) ≡ g
both_none (c.All_ended os) = ap (λ l. c.All_ended l) (append-nil os)
both_none (c.Some_wait ps) = refl

each_none : (e : Entry) (n i : ℕ) (rs : List c.Runner) → c.each e.place n i rs [] ≡ []
each_none e n i [] = refl
each_none e n i (r ∷ rs) = refl

-- the branch with that index has this block and this input
pub record IsBranch (e : Entry) (inputs : List Json) (i : ℕ) (b : Block) (x : Json) : Type 0 where
  pub below : i < length inputs
  pub is : x ≡ get_or inputs i x
  pub found : slice_get (branches_of (state_tree e.state.now) (length inputs)) i ≡ Some b

pub is_branch : (e : Entry) (inputs items : List Json) (i n : ℕ) (b : Block) (x : Json) → items ≡ inputs → i < length items → x ≡ get_or items i x → n ≡ length inputs → Some b ≡ slice_get (branches_of (state_tree e.state.now) n) i → IsBranch e inputs i b x
is_branch e inputs items i n b x same below is count found = record {
  below = subst (λ l. i < length l) same below;
  is = subst (λ l. x ≡ get_or l i x) same is;
  found = subst (λ k. slice_get (branches_of (state_tree e.state.now) k) i ≡ Some b) count (sym found);
}

module _ (A : Answers) (e : Entry) (inputs : List Json) where
  abbrev blocks : List Block
  blocks = branches_of (state_tree e.state.now) (length inputs)

  abbrev run_at : Block → ℕ → Json → c.Run
  run_at b i x = c.scope standard A b (child e.place i (length inputs)) x

  one_run : (i : ℕ) (b : Block) (x : Json) → IsBranch e inputs i b x → rest_runs A e inputs i ≡ run_at b i x ∷ rest_runs A e inputs (i + 1)
  one_run i b x t =
      ap (λ rs. c.each e.place (length inputs) i rs (drop i inputs)) (drop_mapped (c.scope standard A) blocks i b t.found)
      ∙ ap (λ xs. c.each e.place (length inputs) i (c.scope standard A b ∷ drop (i + 1) (map (c.scope standard A) blocks)) xs) (drop_more inputs i x t.below ∙ ap (λ z. z ∷ drop (i + 1) inputs) (sym t.is))
      ∙ ap (λ k. run_at b i x ∷ c.each e.place (length inputs) k (drop (i + 1) (map (c.scope standard A) blocks)) (drop (i + 1) inputs)) (sym (add-one i))

  module _ (old here next : Walk) (g : Gathered) (whole : List c.Run) (source : here.source ≡ old.source) where
    asked_run : (r : c.Run) (rest : List c.Run) → AreAnswered (asking_of old.source) here.count (c.visits_of (r ∷ rest)) → AreAnswered (asking_of here.source) here.count r.visits
    asked_run r rest h = subst (λ z. AreAnswered (asking_of z) here.count r.visits) (sym source) (answered_parts (asking_of old.source) here.count r.visits (c.visits_of rest) h).0

    -- one branch more
    pub gathers_on : (k : Gathered) (i : ℕ) (b : Block) (x : Json) (t : End) → IsBranch e inputs i b x → next.limit ≡ here.limit → GathersRest old here g whole (rest_runs A e inputs i) →
        (AreAnswered (asking_of here.source) here.count (run_at b i x).visits → Adds here next (run_at b i x).visits × (t ≡ told_end (run_at b i x).end)) → ((z : c.End) → t ≡ told_end z → gathered_of k ≡ and_end (gathered_of g) z) →
        GathersRest old next k whole (rest_runs A e inputs (i + 1))
    gathers_on k i b x t taken limit rests run gathered = λ asked.
        let q = run_at b i x in
        let rest = rest_runs A e inputs (i + 1) in
        let (r, f) = subst (λ rs. GathersRest old here g whole rs) (one_run i b x taken) rests asked in
        let (adds, ends) = run (asked_run q rest r) in
        let parts = answered_parts (asking_of old.source) here.count q.visits (c.visits_of rest) r in (
          subst (λ n. AreAnswered (asking_of old.source) n (c.visits_of rest)) (sym adds.count) parts.1,
          λ res new m.
              f res new (made_as here new res (q.visits ++ c.visits_of rest) (λ y. gathered_of y ≡ both (gathered_of k) (c.gather rest)) (λ y. gathered_of y ≡ both (gathered_of g) (c.with_end q.end (c.gather rest))) (λ y h. h ∙ ap (λ z. both z (c.gather rest)) (gathered q.end ends) ∙ both_more (gathered_of g) q.end (c.gather rest))
              (made_after here next new res q.visits (c.visits_of rest) (λ y. gathered_of y ≡ both (gathered_of k) (c.gather rest)) adds limit m)),
        )

    pub gathers_failed : {X : Type 0} (Is : X → Type 0) (i : ℕ) (b : Block) (x : Json) (t : CentralError) → IsBranch e inputs i b x → GathersRest old here g whole (rest_runs A e inputs i) →
        (AreAnswered (asking_of here.source) here.count (run_at b i x).visits → Made here (Err t) next (run_at b i x).visits Is) → AreAnswered (asking_of old.source) old.count (c.visits_of whole) → Gathers old (Err t) next whole
    gathers_failed Is i b x t taken rests run asked =
        let q = run_at b i x in
        let rest = rest_runs A e inputs (i + 1) in
        let (r, f) = subst (λ rs. GathersRest old here g whole rs) (one_run i b x taken) rests asked in
        f (Err t) next (failed_before here next next t q.visits (c.visits_of rest) Is _ (run (asked_run q rest r)))

    -- no branch is there
    pub gathers_past : (i : ℕ) → slice_get blocks i ≡ None → GathersRest old here g whole (rest_runs A e inputs i) → GathersRest old here g whole (rest_runs A e inputs (i + 1))
    gathers_past i none rests =
        let (a, b) = drop_past (c.scope standard A) blocks i none in
        let here_none : rest_runs A e inputs i ≡ [] = ap (λ rs. c.each e.place (length inputs) i rs (drop i inputs)) a in
        let next_none : rest_runs A e inputs (i + 1) ≡ [] = ap (λ rs. c.each e.place (length inputs) (i + 1) rs (drop (i + 1) inputs)) b in
        subst (λ rs. GathersRest old here g whole rs) (here_none ∙ sym next_none) rests

    pub gathers_all : (i : ℕ) → length inputs ≤ i → GathersRest old here g whole (rest_runs A e inputs i) → AreAnswered (asking_of old.source) old.count (c.visits_of whole) → Gathers old (Ok g) here whole
    gathers_all i past rests asked =
        let none : rest_runs A e inputs i ≡ [] = ap (λ xs. c.each e.place (length inputs) i (drop i (map (c.scope standard A) blocks)) xs) (drop_end inputs i past) ∙ each_none e (length inputs) i (drop i (map (c.scope standard A) blocks)) in
        let (r, f) = subst (λ rs. GathersRest old here g whole rs) none rests asked in
        f (Ok g) here (adds_none here, sym (both_none (gathered_of g)))
