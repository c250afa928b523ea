-- Stops, and lists used.
use Rattle.std.proofs.Common.{◌≡◌, ℕ, zero, suc, ◌-◌, ◌<◌, length, List, [], ◌∷◌, ◌++◌, Option, Some, None, Result, Ok, Err, Bool, true, false, refl, sym, ap, ◌∙◌, subst, inl, inr, arith, if◌then◌else◌, nat_lt, option_map, map}
use Rattle.asl_model.specs.Data.{Text, Json, Outcome, Done, Failed, Shape, Made, prepared, handed_on, output, chosen, parallel_inputs, map_inputs, match_error, put_error, combine}
use Rattle.asl_model.specs.Names.{Scope, Answers, at_hop}
use Rattle.asl_model.specs.Machine.{Used, Block, State, Task, Pass, Choice, Succeed, Fail, Parallel, Map, Care, Catcher, Retrier, start_of, state_of, blocks_in, head_of, care_of, branches_of}
use Rattle.asl_model.specs.Head.{begins, finishes, or_fails, or_none, picked, or_caught, leaves, leaves_or_caught, result_or, caught, retried, again_or, settled, zeros}
use Rattle.asl_model.specs.Step.{Onward, Goes, Ends, Begun, On, Calls, Fans, standard}
use Rattle.asl_model.specs.Central.{hop_limit, used_by, Visited, Entered, Called, Joined, Visit, Then_on, Gathered, All_ended, Some_wait, called, joined, scope, turn}
use Rattle.asl_model.specs.Stretch.{Stop, stop_on, stop_at, stop_in, first_stop, after_in, after}
use Rattle.asl_model.specs.Laws.{In}
use Rattle.asl_model.specs.Stops.{FitsState, FitsVisited, FitsAgain, StopMeans, StretchMeans, AfterMeans, UsedFits}
use Rattle.asl_model.proofs.StandsLaw.{stands_lem}
use Rattle.asl_model.proofs.ExactLaw.{Entry, EntryIs, on_states, states_at, entry_at, walk_states, scope_states, scope_known}
use Rattle.asl_model.proofs.Ones.{standard_one}

-- ---- how states go on

-- a new entry, or the end
abbrev IsNew : Onward → Type 0
IsNew (Goes next v again) = again ≡ None
IsNew (Ends o) = Unit {0}

fails_new : {X : Type 0} (name : Text) (m : Result X Text) (go : X → Onward) → ((x : X) → IsNew (go x)) → IsNew (or_fails name m go)
fails_new name (Ok x) go h = h x
fails_new name (Err e) go h = tt

leaves_new : (after : Option Text) (v : Json) → IsNew (leaves after v)
leaves_new None v = tt
leaves_new (Some next) v = refl

caught_by : (t : Bool) (yes no : Onward) → IsNew yes → IsNew no → IsNew (if t then yes else no)
caught_by true o p h k = h
caught_by false o p h k = k

caught_new : (name : Text) (raw : Json) (error cause : Text) (answered : Bool) (cs : List Catcher) → IsNew (caught name raw error cause answered cs)
caught_new name raw error cause answered [] = tt
caught_new name raw error cause answered (c ∷ cs) =
    caught_by (match_error c.errors error answered) _ _ (fails_new name (put_error c.result raw error cause) (λ v. Goes c.next v None) (λ v. refl)) (caught_new name raw error cause answered cs)

none_new : (name : Text) (m : Option Text) (go : Text → Onward) → ((x : Text) → IsNew (go x)) → IsNew (or_none name m go)
none_new name None go h = tt
none_new name (Some l) go h = h l

abbrev BeginsNew : Begun → Type 0
BeginsNew (On o) = IsNew o
BeginsNew (Calls resource x) = Unit {0}
BeginsNew (Fans inputs) = Unit {0}

or_caught_new : {X : Type 0} (name : Text) (raw : Json) (care : Care) (m : Result X Text) (go : X → Begun) → ((x : X) → BeginsNew (go x)) → BeginsNew (or_caught name raw care m go)
or_caught_new name raw care (Ok x) go h = h x
or_caught_new name raw care (Err e) go h = caught_new name raw e name false care.catch

begins_new : (name : Text) (s : State) (raw : Json) → BeginsNew (begins name (head_of s) raw)
begins_new name (Task shape resource after care) raw = or_caught_new name raw care (prepared shape raw) (λ x. Calls resource x) (λ x. tt)
begins_new name (Pass shape result after) raw =
    fails_new name (prepared shape raw) _ (λ x. fails_new name (handed_on shape raw (result_or result x)) _ (λ v. leaves_new after.next v))
begins_new name (Choice shape rules default) raw =
    fails_new name (prepared shape raw) _ (λ x. fails_new name (chosen _ x) _ (λ i. none_new name (picked _ default i) _ (λ next. fails_new name (output shape x) (λ v. Goes next v None) (λ v. refl))))
begins_new name (Succeed shape) raw = fails_new name (prepared shape raw) _ (λ x. fails_new name (output shape x) _ (λ v. tt))
begins_new name (Fail error cause) raw = tt
begins_new name (Parallel shape bs after care) raw =
    or_caught_new name raw care (prepared shape raw) _ (λ x. or_caught_new name raw care (parallel_inputs (length (blocks_in bs)) x) (λ inputs. Fans inputs) (λ i. tt))
begins_new name (Map shape items selector b after care limit) raw =
    or_caught_new name raw care (prepared shape raw) _ (λ x. or_caught_new name raw care (map_inputs items selector x) (λ inputs. Fans inputs) (λ i. tt))

abbrev OnwardFits : Block → Onward → Type 0
OnwardFits b (Goes next v again) = FitsAgain b next again
OnwardFits b (Ends o) = Unit {0}

new_fits : (b : Block) (o : Onward) → IsNew o → OnwardFits b o
new_fits b (Goes next v again) h = subst (FitsAgain b next) (sym h) tt
new_fits b (Ends o) h = tt

later_length : (u : ℕ) (us : Used) (m : Option Used) (ws : Used) → ((vs : Used) → m ≡ Some vs → length vs ≡ length us) → option_map (λ l. u ∷ l) m ≡ Some ws → length ws ≡ suc (length us)
later_length u us None ws h e = absurd (cc)
later_length u us (Some vs) ws h e = let same : u ∷ vs ≡ ws = cc in sym (ap length same) ∙ ap suc (h vs refl)

taken_length : (u : ℕ) (us ws : Used) (t : Bool) → (if t then Some (suc u ∷ us) else None) ≡ Some ws → length ws ≡ suc (length us)
taken_length u us ws true e = let same : suc u ∷ us ≡ ws = cc in sym (ap length same)
taken_length u us ws false e = absurd (cc)

retried_by : (u : ℕ) (us ws : Used) (m : Option Used) (more t : Bool) → ((vs : Used) → m ≡ Some vs → length vs ≡ length us) → (if t then (if more then Some (suc u ∷ us) else None) else option_map (λ l. u ∷ l) m) ≡ Some ws → length ws ≡ suc (length us)
retried_by u us ws m more true h e = taken_length u us ws more e
retried_by u us ws m more false h e = later_length u us m ws h e

retried_length : (error : Text) (answered : Bool) (rs : List Retrier) (us ws : Used) → retried error answered rs us ≡ Some ws → length ws ≡ length us
retried_length error answered [] us ws e = absurd (cc)
retried_length error answered (r ∷ rs) [] ws e = absurd (cc)
retried_length error answered (r ∷ rs) (u ∷ us) ws e =
    retried_by u us ws (retried error answered rs us) (nat_lt u r.most) (match_error r.errors error answered) (λ vs k. retried_length error answered rs us vs k) e

again_fits : (b : Block) (name : Text) (raw : Json) (used : Used) (m : Option Used) (other : Onward) → FitsState b name used → ((ws : Used) → m ≡ Some ws → length ws ≡ length used) → IsNew other → OnwardFits b (again_or name raw m other)
again_fits b name raw used None other h k n = new_fits b other n
again_fits b name raw used (Some ws) other h k n = λ s e. k ws refl ∙ h s e

handed_new : (name : Text) (raw : Json) (after : Option Text) (care : Care) (m : Made) → IsNew (leaves_or_caught name raw after care m)
handed_new name raw after care (Ok v) = leaves_new after v
handed_new name raw after care (Err e) = caught_new name raw e name false care.catch

settled_fits : (b : Block) (name : Text) (shape : Shape) (after : Option Text) (care : Care) (answered : Bool) (raw : Json) (used : Used) (o : Outcome) → FitsState b name used → OnwardFits b (settled name name shape after care answered raw used o)
settled_fits b name shape after care answered raw used (Done r) h = new_fits b _ (handed_new name raw after care (handed_on shape raw r))
settled_fits b name shape after care answered raw used (Failed f) h =
    again_fits b name raw used (retried f.error answered care.retry used) _ h (λ ws e. retried_length f.error answered care.retry used ws e) (caught_new name raw f.error f.cause answered care.catch)

finishes_fits : (b : Block) (name : Text) (s : State) (raw : Json) (used : Used) (o : Outcome) → FitsState b name used → OnwardFits b (finishes name name (head_of s) raw used o)
finishes_fits b name (Task shape resource after care) raw used o h = settled_fits b name shape after.next care true raw used o h
finishes_fits b name (Pass shape result after) raw used o h = tt
finishes_fits b name (Choice shape rules default) raw used o h = tt
finishes_fits b name (Succeed shape) raw used o h = tt
finishes_fits b name (Fail error cause) raw used o h = tt
finishes_fits b name (Parallel shape bs after care) raw used o h = settled_fits b name shape after.next care false raw used o h
finishes_fits b name (Map shape items selector bl after care limit) raw used o h = settled_fits b name shape after.next care false raw used o h

abbrev BegunFits : Block → Begun → Type 0
BegunFits b (On o) = OnwardFits b o
BegunFits b (Calls resource x) = Unit {0}
BegunFits b (Fans inputs) = Unit {0}

begun_fits : (b : Block) (u : Begun) → BeginsNew u → BegunFits b u
begun_fits b (On o) h = new_fits b o h
begun_fits b (Calls resource x) h = tt
begun_fits b (Fans inputs) h = tt

begin_fits : (b : Block) (name : Text) (s : State) (raw : Json) → BegunFits b (standard.begin name s raw)
unfolding standard
begin_fits b name s raw = begun_fits b (begins name (head_of s) raw) (begins_new name s raw)

finish_fits : (b : Block) (name : Text) (s : State) (raw : Json) (used : Used) (o : Outcome) → FitsState b name used → OnwardFits b (standard.finish name s raw used o)
unfolding standard
finish_fits b name s raw used o h = finishes_fits b name s raw used o h

zeros_length : (rs : List Retrier) → length (zeros rs) ≡ length rs
zeros_length [] = refl
zeros_length (r ∷ rs) = ap suc (zeros_length rs)

used_fits : (b : Block) (name : Text) (s : State) → state_of b name ≡ Some s → (again : Option Used) → FitsAgain b name again → length (used_by standard s again) ≡ length (care_of s).retry
unfolding standard
used_fits b name s e None h = zeros_length (care_of s).retry
used_fits b name s e (Some used) h = h s e

-- ---- stops

on_means : (b : Block) (o : Onward) (go : Text → Json → Option Used → Stop) → OnwardFits b o → ((next : Text) (v : Json) (again : Option Used) → FitsAgain b next again → StopMeans b (go next v again)) → StopMeans b (stop_on o go)
on_means b (Goes next v again) go h k = k next v again h
on_means b (Ends o) go h k = tt

at_means : (b : Block) (name : Text) (s : State) (hop : ℕ) (raw : Json) (used : Used) (go : Text → Json → Option Used → Stop) → state_of b name ≡ Some s → hop < hop_limit → length used ≡ length (care_of s).retry → ((next : Text) (v : Json) (again : Option Used) → FitsAgain b next again → StopMeans b (go next v again)) → (u : Begun) → standard.begin name s raw ≡ u → BegunFits b u → StopMeans b (stop_at name s hop raw used u go)
at_means b name s hop raw used go e l f k (On o) g h = on_means b o go h k
at_means b name s hop raw used go e l f k (Calls resource x) g h = (s, resource, x, l, e, g, f)
at_means b name s hop raw used go e l f k (Fans inputs) g h = (s, inputs, l, e, g, refl, f)

stop_means : (b : Block) (name : Text) (hop : ℕ) (raw : Json) (again : Option Used) (go : Text → Json → Option Used → Stop) → hop < hop_limit → FitsAgain b name again → ((next : Text) (v : Json) (a : Option Used) → FitsAgain b next a → StopMeans b (go next v a)) → (m : Option State) → state_of b name ≡ m → StopMeans b (stop_in standard name m hop raw again go)
stop_means b name hop raw again go l f k None e = tt
stop_means b name hop raw again go l f k (Some s) e =
    at_means b name s hop raw (used_by standard s again) go e l (used_fits b name s e again f) k (standard.begin name s raw) refl (begin_fits b name s raw)

first_means : (b : Block) (left : ℕ) (name : Text) (hop : ℕ) (raw : Json) (again : Option Used) → left ≡ hop_limit - hop → FitsAgain b name again → StopMeans b (first_stop standard b left name hop raw again)
first_means b zero name hop raw again e f = tt
first_means b (suc left) name hop raw again e f =
    stop_means b name hop raw again _ (omega arith) f (λ next v a g. first_means b left next (suc hop) v a (omega arith) g) (state_of b name) refl

pub stretch_means_lem : StretchMeans
stretch_means_lem b name hop raw again f = first_means b (hop_limit - hop) name hop raw again refl f

after_means : (b : Block) (name : Text) (hop : ℕ) (raw : Json) (used : Used) (o : Outcome) → FitsState b name used → (m : Option State) → StopMeans b (after_in standard b name m hop raw used o)
after_means b name hop raw used o f None = tt
after_means b name hop raw used o f (Some s) =
    on_means b (standard.finish name s raw used o) _ (finish_fits b name s raw used o f) (λ next v again g. stretch_means_lem b next (suc hop) v again g)

pub after_means_lem : AfterMeans
after_means_lem b Entered hop raw used (Done v) f = stretch_means_lem b (start_of b) 0 v None tt
after_means_lem b Entered hop raw used (Failed e) f = tt
after_means_lem b (Called name resource) hop raw used o f = after_means b name hop raw used o f (state_of b name)
after_means_lem b (Joined name) hop raw used o f = after_means b name hop raw used o f (state_of b name)

-- ---- visits

on_fit : (b : Block) (o : Onward) (go : Text → Json → Option Used → List Entry) → OnwardFits b o → ((n : Text) (v : Json) (a : Option Used) → FitsAgain b n a → (e : Entry) → In e (go n v a) → FitsState b e.1 e.3) → (e : Entry) → In e (on_states (Then_on o) go) → FitsState b e.1 e.3
on_fit b (Goes n v a) go h k e i = k n v a h e i
on_fit b (Ends o) go h k e i = absurd i

module _ (A : Answers) (b : Block) (s : Scope) where
  called_fit : (name : Text) (st : State) (hop : ℕ) (raw : Json) (used : Used) (resource : Text) (x : Json) (go : Text → Json → Option Used → List Entry) → FitsState b name used → ((n : Text) (v : Json) (a : Option Used) → FitsAgain b n a → (e : Entry) → In e (go n v a) → FitsState b e.1 e.3) → (m : Option Outcome) (e : Entry) → In e (on_states (called standard b name st (at_hop s hop) raw used resource x m).onward go) → FitsState b e.1 e.3
  called_fit name st hop raw used resource x go h k None e i = absurd i
  called_fit name st hop raw used resource x go h k (Some o) e i = on_fit b (standard.finish name st raw used o) go (finish_fits b name st raw used o h) k e i

  joined_fit : (name : Text) (st : State) (hop : ℕ) (raw : Json) (used : Used) (go : Text → Json → Option Used → List Entry) → FitsState b name used → ((n : Text) (v : Json) (a : Option Used) → FitsAgain b n a → (e : Entry) → In e (go n v a) → FitsState b e.1 e.3) → (vs : List Visit) (g : Gathered) (e : Entry) → In e (on_states (joined standard b name st (at_hop s hop) raw used vs g).onward go) → FitsState b e.1 e.3
  joined_fit name st hop raw used go h k vs (Some_wait ps) e i = absurd i
  joined_fit name st hop raw used go h k vs (All_ended os) e i =
      on_fit b (standard.finish name st raw used (combine name os)) go (finish_fits b name st raw used (combine name os) h) k e i

  turn_fit : (name : Text) (st : State) (hop : ℕ) (raw : Json) (used : Used) (go : Text → Json → Option Used → List Entry) → FitsState b name used → ((n : Text) (v : Json) (a : Option Used) → FitsAgain b n a → (e : Entry) → In e (go n v a) → FitsState b e.1 e.3) → (u : Begun) → BegunFits b u → (e : Entry) → In e (on_states (turn standard A b name st (λ n. map (scope standard A) (branches_of st n)) (at_hop s hop) raw used u).onward go) → FitsState b e.1 e.3
  turn_fit name st hop raw used go h k (On o) f e i = on_fit b o go f k e i
  turn_fit name st hop raw used go h k (Calls resource x) f e i = called_fit name st hop raw used resource x go h k (A (at_hop s hop)) e i
  turn_fit name st hop raw used go h k (Fans inputs) f e i = joined_fit name st hop raw used go h k _ _ e i

  state_fit : (name : Text) (hop : ℕ) (raw : Json) (again : Option Used) (go : Text → Json → Option Used → List Entry) → FitsAgain b name again → ((n : Text) (v : Json) (a : Option Used) → FitsAgain b n a → (e : Entry) → In e (go n v a) → FitsState b e.1 e.3) → (m : Option State) → state_of b name ≡ m → (e : Entry) → In e (entry_at standard A b s m name hop raw again ++ states_at standard A b s m name hop raw again go) → FitsState b e.1 e.3
  state_fit name hop raw again go h k None f e i = absurd i
  state_fit name hop raw again go h k (Some st) f e i =
      let used = used_by standard st again in
      let own : FitsState b name used = λ z q. used_fits b name st f again h ∙ (let same : st ≡ z = cc in ap (λ (y : State). length (care_of y).retry) same) in
      elim i [
        | inl q ↦ subst (λ (y : Entry). FitsState b y.1 y.3) (sym q) own
        | inr t ↦ turn_fit name st hop raw used go own k (standard.begin name st raw) (begin_fits b name st raw) e t
      ]

  walk_fit : (left : ℕ) (name : Text) (hop : ℕ) (raw : Json) (again : Option Used) → FitsAgain b name again → (e : Entry) → In e (walk_states standard A b s left name hop raw again) → FitsState b e.1 e.3
  walk_fit zero name hop raw again h e i = absurd i
  walk_fit (suc left) name hop raw again h e i =
      state_fit name hop raw again _ h (λ n v a g d j. walk_fit left n (suc hop) v a g d j) (state_of b name) refl e i

  entry_fits : (x : Json) (z : Visited) (hop : ℕ) (raw : Json) (used : Used) → EntryIs (scope_states standard A b s x) z hop raw used → FitsVisited b z used
  entry_fits x Entered hop raw used i = tt
  entry_fits x (Called name resource) hop raw used i = walk_fit hop_limit (start_of b) 0 x None tt (hop, name, raw, used) i
  entry_fits x (Joined name) hop raw used i = walk_fit hop_limit (start_of b) 0 x None tt (hop, name, raw, used) i

pub used_fits_lem : UsedFits
used_fits_lem A b s x v i =
    let t = stands_lem standard standard_one A b s x v i in
    let known = scope_known standard A t.at_block t.at_scope t.enter.given v t.own t.scope_is in
    subst (λ c. FitsVisited c v.visited v.used) (sym t.block) (entry_fits A t.at_block t.at_scope t.enter.given v.visited v.place.hop v.raw v.used known.here)
