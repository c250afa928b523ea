-- A run waits at the places of its visits with no answer, in their order.
use Rattle.std.proofs.Common.{◌≡◌, ℕ, zero, suc, List, [], ◌∷◌, ◌++◌, map, Option, Some, None, length, refl, sym, ap, ap₂, ◌∙◌, subst, append_assoc, append-nil, inl, inr}
use Rattle.asl_model.specs.Data.{Text, Json, Outcome}
use Rattle.asl_model.specs.Names.{Scope, Place, Answers, child, at_hop}
use Rattle.asl_model.specs.Machine.{Used, Block, State, start_of, state_of, branches_of}
use Rattle.asl_model.specs.Step.{Goes, Ends, Begun, On, Calls, Fans, Ways}
use Rattle.asl_model.specs.Central.{hop_limit, used_by, Visit, End, Ended, Waits, Run, Then, Then_on, Stays, Gathered, All_ended, Some_wait, with_end, gather, visits_of, each, then_go, called, joined, entered, turn, enter, walk, scope}
use Rattle.asl_model.specs.Laws.{In, place_if_open, open_places, WaitsAt, OpenPlaces}
use Rattle.asl_model.proofs.Tree.{branches_at, runners, unroll, by_branches}

open_places-append : (vs ws : List Visit) → open_places (vs ++ ws) ≡ open_places vs ++ open_places ws
open_places-append [] ws = refl
open_places-append (v ∷ vs) ws = ap (λ l. place_if_open v.answer v.place ++ l) (open_places-append vs ws) ∙ sym (append_assoc (place_if_open v.answer v.place) (open_places vs) (open_places ws))

both : (vs ws : List Visit) (ps qs : List Place) → open_places vs ≡ ps → open_places ws ≡ qs → open_places (vs ++ ws) ≡ ps ++ qs
both vs ws ps qs e f = open_places-append vs ws ∙ ap₂ (λ x y. x ++ y) e f

abbrev ThenAt : List Visit → Then → Type 0
ThenAt vs (Then_on o) = open_places vs ≡ []
ThenAt vs (Stays ps) = open_places vs ≡ ps

abbrev GatheredAt : List Visit → Gathered → Type 0
GatheredAt vs (All_ended os) = open_places vs ≡ []
GatheredAt vs (Some_wait ps) = open_places vs ≡ ps

gather_at : (vs ws : List Visit) (e : End) (g : Gathered) → WaitsAt vs e → GatheredAt ws g → GatheredAt (vs ++ ws) (with_end e g)
gather_at vs ws (Ended o) (All_ended os) a b = both vs ws [] [] a b
gather_at vs ws (Ended o) (Some_wait ps) a b = both vs ws [] ps a b
gather_at vs ws (Waits ps) (All_ended os) a b = both vs ws ps [] a b ∙ append-nil ps
gather_at vs ws (Waits ps) (Some_wait qs) a b = both vs ws ps qs a b

go_at : (vs : List Visit) (t : Then) (go : Text → Json → Option Used → Run) → ThenAt vs t → ((n : Text) (v : Json) (a : Option Used) → WaitsAt (go n v a).visits (go n v a).end) → WaitsAt (then_go vs t go).visits (then_go vs t go).end
go_at vs (Then_on (Goes n x u)) go a h = on_end (go n x u).end (h n x u)
  where
    on_end : (e : End) → WaitsAt (go n x u).visits e → WaitsAt (vs ++ (go n x u).visits) e
    on_end (Ended o) k = both vs (go n x u).visits [] [] a k
    on_end (Waits ps) k = both vs (go n x u).visits [] ps a k
go_at vs (Then_on (Ends o)) go a h = a
go_at vs (Stays ps) go a h = a

called_at : (W : Ways) (b : Block) (name : Text) (st : State) (p : Place) (raw : Json) (used : Used) (resource : Text) (x : Json) (o : Option Outcome) → ThenAt (called W b name st p raw used resource x o).visits (called W b name st p raw used resource x o).onward
called_at W b name st p raw used resource x (Some o) = refl
called_at W b name st p raw used resource x None = refl

joined_at : (W : Ways) (b : Block) (name : Text) (st : State) (p : Place) (raw : Json) (used : Used) (vs : List Visit) (g : Gathered) → GatheredAt vs g → ThenAt (joined W b name st p raw used vs g).visits (joined W b name st p raw used vs g).onward
joined_at W b name st p raw used vs (All_ended os) w = w
joined_at W b name st p raw used vs (Some_wait ps) w = w

module _ (W : Ways) (A : Answers) where
  abbrev Fits : Block → Type 0
  Fits b = (s : Scope) (x : Json) → WaitsAt (scope W A b s x).visits (scope W A b s x).end

  each_at : (p : Place) (count index : ℕ) (bs : List Block) (xs : List Json) → ((c : Block) → In c bs → Fits c) → GatheredAt (visits_of (each p count index (map (scope W A) bs) xs)) (gather (each p count index (map (scope W A) bs) xs))
  each_at p count index [] xs ih = refl
  each_at p count index (b ∷ bs) [] ih = refl
  each_at p count index (b ∷ bs) (x ∷ xs) ih = gather_at (scope W A b (child p index count) x).visits (visits_of (each p count (suc index) (map (scope W A) bs) xs)) _ _ (ih b (inl refl) (child p index count) x) (each_at p count (suc index) bs xs (λ c i. ih c (inr i)))

  turn_at : (b : Block) (name : Text) (st : State) (bs : ℕ → List Block) → ((n : ℕ) (c : Block) → In c (bs n) → Fits c) → (p : Place) (raw : Json) (used : Used) (u : Begun) → let t = turn W A b name st (λ n. map (scope W A) (bs n)) p raw used u in ThenAt t.visits t.onward
  turn_at b name st bs ih p raw used (On o) = refl
  turn_at b name st bs ih p raw used (Calls resource x) = called_at W b name st p raw used resource x (A p)
  turn_at b name st bs ih p raw used (Fans inputs) = let runs = each p (length inputs) 0 (map (scope W A) (bs (length inputs))) inputs in joined_at W b name st p raw used (visits_of runs) (gather runs) (each_at p (length inputs) 0 (bs (length inputs)) inputs (ih (length inputs)))

  enter_at : (b : Block) (name : Text) (m : Option State) → ((n : ℕ) (c : Block) → In c (branches_at m n) → Fits c) → (s : Scope) (hop : ℕ) (raw : Json) (again : Option Used) (go : Text → Json → Option Used → Run) → ((n : Text) (v : Json) (a : Option Used) → WaitsAt (go n v a).visits (go n v a).end) → let r = enter W A b name m (λ n. map (scope W A) (branches_at m n)) s hop raw again go in WaitsAt r.visits r.end
  enter_at b name None ih s hop raw again go h = refl
  enter_at b name (Some st) ih s hop raw again go h = let t = turn W A b name st (λ n. map (scope W A) (branches_of st n)) (at_hop s hop) raw (used_by W st again) (W.begin name st raw) in go_at t.visits t.onward go (turn_at b name st (branches_of st) ih (at_hop s hop) raw (used_by W st again) (W.begin name st raw)) h

  walk_at : (b : Block) → ((name : Text) (n : ℕ) (c : Block) → In c (branches_at (state_of b name) n) → Fits c) → (left : ℕ) (s : Scope) (name : Text) (hop : ℕ) (raw : Json) (again : Option Used) → let r = walk W A b (runners W A b) left s name hop raw again in WaitsAt r.visits r.end
  walk_at b ih zero s name hop raw again = refl
  walk_at b ih (suc left) s name hop raw again = enter_at b name (state_of b name) (ih name) s hop raw again _ (λ n v a. walk_at b ih left s n (suc hop) v a)

  entered_at : (b : Block) (s : Scope) (x : Json) (vs : List Visit) (e : End) → WaitsAt vs e → WaitsAt (entered b s x (record { visits = vs; end = e })).visits e
  entered_at b s x vs (Ended o) w = w
  entered_at b s x vs (Waits ps) w = w

  fits : (b : Block) → Fits b
  fits = by_branches Fits (λ b ih s x. subst (λ (r : Run). WaitsAt r.visits r.end) (sym (unroll W A b s x)) (let r = walk W A b (runners W A b) hop_limit s (start_of b) 0 x None in entered_at b s x r.visits r.end (walk_at b ih hop_limit s (start_of b) 0 x None)))

pub open_places_lem : (W : Ways) → OpenPlaces W
open_places_lem W A b s x = fits W A b s x
