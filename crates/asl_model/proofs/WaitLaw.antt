-- Where a run waits.
use Rattle.std.proofs.Common.{◌≡◌, ℕ, zero, suc, List, [], ◌∷◌, ◌++◌, map, Option, Some, None, length, refl, sym, ap, ◌∙◌, subst, inl, inr}
use Rattle.asl_model.specs.Data.{Text, Json, Outcome, combine}
use Rattle.asl_model.specs.Names.{Scope, Place, Answers, child, at_hop}
use Rattle.asl_model.specs.Machine.{Used, Block, State, start_of, state_of, branches_of}
use Rattle.asl_model.specs.Step.{Goes, Ends, Begun, On, Calls, Fans, Ways}
use Rattle.asl_model.specs.Central.{hop_limit, used_by, Visit, Entered, End, Ended, Waits, Run, Then, Then_on, Stays, Gathered, All_ended, Some_wait, with_end, gather, visits_of, each, then_go, called, joined, entered, turn, enter, walk, scope}
use Rattle.asl_model.specs.Laws.{In, WaitsAre, Waiting}
use Rattle.asl_model.proofs.Lists.{In-left, In-right, In-cases}
use Rattle.asl_model.proofs.Tree.{branches_at, runners, unroll, by_branches}

-- visits, and the places where they wait
record WaitAt (vs : List Visit) (ps : List Place) : Type 0 where
  open_waits : (v : Visit) → In v vs → v.answer ≡ None → In v.place ps
  waits_open : (p : Place) → In p ps → (v : Visit) × In v vs × (v.place ≡ p) × (v.answer ≡ None)

-- no visit waits
abbrev AllAnswered : List Visit → Type 0
AllAnswered vs = (v : Visit) → In v vs → v.answer ≡ None → ⊥

abbrev TurnWaits : List Visit → Then → Type 0
TurnWaits vs (Then_on o) = AllAnswered vs
TurnWaits vs (Stays ps) = WaitAt vs ps × ((p : Place) × In p ps)

abbrev EndWaits : List Visit → End → Type 0
EndWaits vs (Ended o) = AllAnswered vs
EndWaits vs (Waits ps) = WaitAt vs ps × ((p : Place) × In p ps)

abbrev GatherWaits : List Visit → Gathered → Type 0
GatherWaits vs (All_ended os) = AllAnswered vs
GatherWaits vs (Some_wait ps) = WaitAt vs ps × ((p : Place) × In p ps)

answered_both : (vs ws : List Visit) → AllAnswered vs → AllAnswered ws → AllAnswered (vs ++ ws)
answered_both vs ws a b v i e = elim (In-cases vs ws v i) [ inl h ↦ a v h e | inr h ↦ b v h e ]

waits_right : (vs ws : List Visit) (ps : List Place) → AllAnswered vs → WaitAt ws ps → WaitAt (vs ++ ws) ps
waits_right vs ws ps a w = record {
  open_waits = λ v i e. elim (In-cases vs ws v i) [ inl h ↦ absurd (a v h e) | inr h ↦ w.open_waits v h e ];
  waits_open = λ p i. let (v, k, e, n) = w.waits_open p i in (v, In-right vs ws v k, e, n);
}

waits_left : (vs ws : List Visit) (ps : List Place) → WaitAt vs ps → AllAnswered ws → WaitAt (vs ++ ws) ps
waits_left vs ws ps w a = record {
  open_waits = λ v i e. elim (In-cases vs ws v i) [ inl h ↦ w.open_waits v h e | inr h ↦ absurd (a v h e) ];
  waits_open = λ p i. let (v, k, e, n) = w.waits_open p i in (v, In-left vs ws v k, e, n);
}

waits_both : (vs ws : List Visit) (ps qs : List Place) → WaitAt vs ps → WaitAt ws qs → WaitAt (vs ++ ws) (ps ++ qs)
waits_both vs ws ps qs w u = record {
  open_waits = λ v i e. elim (In-cases vs ws v i) [ inl h ↦ In-left ps qs v.place (w.open_waits v h e) | inr h ↦ In-right ps qs v.place (u.open_waits v h e) ];
  waits_open = λ p i. elim (In-cases ps qs p i) [
    | inl h ↦ let (v, k, e, n) = w.waits_open p h in (v, In-left vs ws v k, e, n)
    | inr h ↦ let (v, k, e, n) = u.waits_open p h in (v, In-right vs ws v k, e, n)
  ];
}

gather_both : (vs ws : List Visit) (e : End) (g : Gathered) → EndWaits vs e → GatherWaits ws g → GatherWaits (vs ++ ws) (with_end e g)
gather_both vs ws (Ended o) (All_ended os) a b = answered_both vs ws a b
gather_both vs ws (Ended o) (Some_wait ps) a b = (waits_right vs ws ps a b.0, b.1)
gather_both vs ws (Waits ps) (All_ended os) a b = (waits_left vs ws ps a.0 b, a.1)
gather_both vs ws (Waits ps) (Some_wait qs) a b = (waits_both vs ws ps qs a.0 b.0, let (p, i) = a.1 in (p, In-left ps qs p i))

go_waits : (vs : List Visit) (t : Then) (go : Text → Json → Option Used → Run) → TurnWaits vs t → ((n : Text) (v : Json) (a : Option Used) → EndWaits (go n v a).visits (go n v a).end) → EndWaits (then_go vs t go).visits (then_go vs t go).end
go_waits vs (Then_on (Goes n x u)) go a h = onto (go n x u).end (h n x u)
  where
    onto : (e : End) → EndWaits (go n x u).visits e → EndWaits (vs ++ (go n x u).visits) e
    onto (Ended o) k = answered_both vs (go n x u).visits a k
    onto (Waits ps) k = (waits_right vs (go n x u).visits ps a k.0, k.1)
go_waits vs (Then_on (Ends o)) go a h = a
go_waits vs (Stays ps) go a h = a

one_answered : (v : Visit) (vs : List Visit) (o : Outcome) → v.answer ≡ Some o → AllAnswered vs → AllAnswered (v ∷ vs)
one_answered v vs o e a w i n = elim i [ inl p ↦ let q = ap (λ (u : Visit). u.answer) p in let r : None ≡ Some o = sym n ∙ q ∙ e in absurd (cc) | inr t ↦ a w t n ]

called_waits : (W : Ways) (b : Block) (name : Text) (st : State) (p : Place) (raw : Json) (used : Used) (resource : Text) (x : Json) (o : Option Outcome) → TurnWaits (called W b name st p raw used resource x o).visits (called W b name st p raw used resource x o).onward
called_waits W b name st p raw used resource x (Some o) = one_answered _ [] o refl (λ v i e. i)
called_waits W b name st p raw used resource x None = (
  record {
    open_waits = λ v i e. elim i [ inl q ↦ inl (ap (λ (u : Visit). u.place) q) | inr t ↦ absurd t ];
    waits_open = λ q i. elim i [ inl e ↦ (_, inl refl, sym e, refl) | inr t ↦ absurd t ];
  },
  (p, inl refl),
)

joined_waits : (W : Ways) (b : Block) (name : Text) (st : State) (p : Place) (raw : Json) (used : Used) (vs : List Visit) (g : Gathered) → GatherWaits vs g → TurnWaits (joined W b name st p raw used vs g).visits (joined W b name st p raw used vs g).onward
joined_waits W b name st p raw used vs (All_ended os) w = one_answered _ vs (combine name os) refl w
joined_waits W b name st p raw used vs (Some_wait ps) w = w

module _ (W : Ways) (A : Answers) where
  abbrev Fits : Block → Type 0
  Fits b = (s : Scope) (x : Json) → EndWaits (scope W A b s x).visits (scope W A b s x).end

  each_waits : (p : Place) (count index : ℕ) (bs : List Block) (xs : List Json) → ((c : Block) → In c bs → Fits c) → GatherWaits (visits_of (each p count index (map (scope W A) bs) xs)) (gather (each p count index (map (scope W A) bs) xs))
  each_waits p count index [] xs ih = λ v i e. i
  each_waits p count index (b ∷ bs) [] ih = λ v i e. i
  each_waits p count index (b ∷ bs) (x ∷ xs) ih = gather_both _ _ _ _ (ih b (inl refl) (child p index count) x) (each_waits p count (suc index) bs xs (λ c i. ih c (inr i)))

  turn_waits : (b : Block) (name : Text) (st : State) (bs : ℕ → List Block) → ((n : ℕ) (c : Block) → In c (bs n) → Fits c) → (p : Place) (raw : Json) (used : Used) (u : Begun) → TurnWaits (turn W A b name st (λ n. map (scope W A) (bs n)) p raw used u).visits (turn W A b name st (λ n. map (scope W A) (bs n)) p raw used u).onward
  turn_waits b name st bs ih p raw used (On o) = λ v i e. i
  turn_waits b name st bs ih p raw used (Calls resource x) = called_waits W b name st p raw used resource x (A p)
  turn_waits b name st bs ih p raw used (Fans inputs) = joined_waits W b name st p raw used _ _ (each_waits p (length inputs) 0 (bs (length inputs)) inputs (ih (length inputs)))

  enter_waits : (b : Block) (name : Text) (m : Option State) → ((n : ℕ) (c : Block) → In c (branches_at m n) → Fits c) → (s : Scope) (hop : ℕ) (raw : Json) (again : Option Used) (go : Text → Json → Option Used → Run) → ((n : Text) (v : Json) (a : Option Used) → EndWaits (go n v a).visits (go n v a).end) → let r = enter W A b name m (λ n. map (scope W A) (branches_at m n)) s hop raw again go in EndWaits r.visits r.end
  enter_waits b name None ih s hop raw again go h = λ v i e. i
  enter_waits b name (Some st) ih s hop raw again go h = go_waits _ _ go (turn_waits b name st (branches_of st) ih (at_hop s hop) raw (used_by W st again) (W.begin name st raw)) h

  walk_waits : (b : Block) → ((name : Text) (n : ℕ) (c : Block) → In c (branches_at (state_of b name) n) → Fits c) → (left : ℕ) (s : Scope) (name : Text) (hop : ℕ) (raw : Json) (again : Option Used) → let r = walk W A b (runners W A b) left s name hop raw again in EndWaits r.visits r.end
  walk_waits b ih zero s name hop raw again = λ v i e. i
  walk_waits b ih (suc left) s name hop raw again = enter_waits b name (state_of b name) (ih name) s hop raw again _ (λ n v a. walk_waits b ih left s n (suc hop) v a)

  entered_waits : (b : Block) (s : Scope) (x : Json) (r : Run) → EndWaits r.visits r.end → EndWaits (entered b s x r).visits (entered b s x r).end
  entered_waits b s x r w = onto r.end w
    where
      it : Visit
      it = record { place = at_hop s 0; block = b; visited = Entered; raw = Rattle.asl_model.specs.Data.Null; used = []; given = x; answer = Some (Rattle.asl_model.specs.Data.Done x) }

      onto : (e : End) → EndWaits r.visits e → EndWaits (it ∷ r.visits) e
      onto (Ended o) k = one_answered it r.visits (Rattle.asl_model.specs.Data.Done x) refl k
      onto (Waits ps) k = (waits_right (it ∷ []) r.visits ps (one_answered it [] (Rattle.asl_model.specs.Data.Done x) refl (λ v i e. i)) k.0, k.1)

  fits : (b : Block) → Fits b
  fits = by_branches Fits (λ b ih s x. subst (λ (r : Run). EndWaits r.visits r.end) (sym (unroll W A b s x)) (entered_waits b s x _ (walk_waits b ih hop_limit s (start_of b) 0 x None)))

by_end : (r : Run) (e : End) → r.end ≡ e → EndWaits r.visits e → WaitsAre r
by_end r (Ended o) is w = record {
  open_waits = λ v i e. absurd (w v i e);
  waits_open = λ ps e. absurd (cc);
  some = λ ps e. absurd (cc);
}
by_end r (Waits qs) is w = record {
  open_waits = λ v i e. (qs, is, w.0.open_waits v i e);
  waits_open = λ ps e p i. let same : ps ≡ qs = cc in w.0.waits_open p (subst (In p) same i);
  some = λ ps e. let same : qs ≡ ps = cc in let (p, i) = w.1 in (p, subst (In p) same i);
}

pub waiting_lem : (W : Ways) → Waiting W
waiting_lem W A b s x = by_end (scope W A b s x) (scope W A b s x).end refl (fits W A b s x)
