-- No number of a world is above the sessions and the events.
use Rattle.std.proofs.Common.{ℕ, suc, ◌+◌, ◌≤◌, ◌≡◌, refl, sym, ap, subst, inl, inr, arith, true, false, Bool, List, [], ◌∷◌, ◌++◌, length, slice_get, slice_set, Option, Some, None}
use Rattle.std.proofs.lemmas.List.{length-set, length_push}
use Rattle.fn_table.specs.declared.kind.FnKind.{FnKind}
use Rattle.fn_table.specs.Answers.{answer}
use Rattle.world_types.specs.declared.queue.Event.{Event}
use Rattle.world_model.specs.AnyCode.Code.{Json, flags}
use Rattle.world_model.specs.AnyCode.Operations.{Invocation, Op, Look, Create, Set, Invoke, Mark, Ack}
use Rattle.world_model.specs.AnyCode.Program.{Phase, Looking, absorb, called_phase}
use Rattle.world_model.specs.AnyCode.World.{Attempt, Codes, root_invs, start, code_of, function_of, reply_to, lives_on, invs_after, marks_after, answered_world, enabled, effect, run}
use Rattle.world_model.specs.World as model
use Rattle.world_model.specs.Numbered.{Numbered, first_number}
use Rattle.world_model.proofs.Gets.{get_pushed, get_set}
use Rattle.world_model.proofs.Queues.{Cases, by_event}
use Rattle.unum_world.specs.Kept.{IsBounded}
use Rattle.unum_world.proofs.Runs.{run_counts}

-- no attempt made more steps
abbrev FewSteps : ℕ → List Attempt → Type 0
FewSteps n atts = (a : ℕ) (t : Attempt) → slice_get atts a ≡ Some t → t.steps ≤ n

more_steps : (n : ℕ) (atts : List Attempt) → FewSteps n atts → FewSteps (suc n) atts
more_steps n atts f = λ a t e. let h : t.steps ≤ n = f a t e in omega arith

-- an attempt in place of another
few_set : (n : ℕ) (atts : List Attempt) (a : ℕ) (u : Attempt) → FewSteps n atts → u.steps ≤ n → FewSteps n (slice_set atts a u)
few_set n atts a u f h = λ b t e. elim (get_set atts a u b t e) [
  | inl p ↦ subst (λ (z : Attempt). z.steps ≤ n) p.1 h
  | inr q ↦ f b t q
]

few_push : (n : ℕ) (atts : List Attempt) (u : Attempt) → FewSteps n atts → u.steps ≤ n → FewSteps n (atts ++ u ∷ [])
few_push n atts u f h = λ b t e. elim (get_pushed atts u b t e) [
  | inl p ↦ f b t p
  | inr p ↦ subst (λ (z : Attempt). z.steps ≤ n) p h
]

-- an operation sends one message at most, and is one Mark at most
one_message : (invs : List (Invocation ℕ)) (op : Op ℕ (List Bool)) → length (invs_after invs op) ≤ suc (length invs)
one_message invs (Invoke i) = let k = length_push invs i in omega (arith, k)
one_message invs (Look o) = omega arith
one_message invs (Create o h) = omega arith
one_message invs (Set p index count) = omega arith
one_message invs (Mark o) = omega arith
one_message invs Ack = omega arith

one_mark : (marks : ℕ) (op : Op ℕ (List Bool)) → marks_after marks op ≤ suc marks
one_mark marks (Mark o) = omega arith
one_mark marks (Look o) = omega arith
one_mark marks (Create o h) = omega arith
one_mark marks (Set p index count) = omega arith
one_mark marks (Invoke i) = omega arith
one_mark marks Ack = omega arith

module _ (codes : Codes ℕ) (n : ℕ) (w : Numbered) (b : IsBounded n w) where
  bounded_more : IsBounded (suc n) w
  bounded_more = record {
    invs = let h : length w.invs ≤ n = b.invs in omega arith;
    atts = let h : length w.atts ≤ n = b.atts in omega arith;
    steps = more_steps n w.atts b.steps;
    marks = let h : w.marks ≤ n = b.marks in omega arith;
  }

  bounded_answer : (a : ℕ) (t : Attempt) → slice_get w.atts a ≡ Some t → (x : Json) (f : Option FnKind) → IsBounded (suc n) (answered_world w a t x f)
  bounded_answer a t e x None = bounded_more
  bounded_answer a t e x (Some kind) =
      let u : Attempt = record { inv = t.inv; live = true; steps = suc t.steps; phase = called_phase a t.phase (answer kind x a) } in
      let h : t.steps ≤ n = b.steps a t e in
      record {
        invs = bounded_more.invs;
        atts = let k = length-set w.atts a u in let m : length w.atts ≤ suc n = bounded_more.atts in subst (λ z. z ≤ suc n) (sym k) m;
        steps = few_set (suc n) w.atts a u (more_steps n w.atts b.steps) (omega arith);
        marks = bounded_more.marks;
      }

  bounded_cases : Cases flags codes w (λ e v. IsBounded (suc n) v)
  bounded_cases = record {
    deliver = λ k s e d l.
        let u : Attempt = record { inv = k; live = true; steps = 0; phase = Looking } in
        let h : length w.atts ≤ n = b.atts in
        record {
          invs = bounded_more.invs;
          atts = let k : length (w.atts ++ u ∷ []) ≡ length w.atts + 1 = length_push w.atts u in omega arith;
          steps = few_push (suc n) w.atts u (more_steps n w.atts b.steps) (omega arith);
          marks = bounded_more.marks;
        };
    crash = λ a t e l.
        let u : Attempt = record t { live = false } in
        let h : t.steps ≤ n = b.steps a t e in
        let g : length w.atts ≤ n = b.atts in
        record {
          invs = bounded_more.invs;
          atts = let k : length (slice_set w.atts a u) ≡ length w.atts = length-set w.atts a u in omega arith;
          steps = few_set (suc n) w.atts a u (more_steps n w.atts b.steps) (omega arith);
          marks = bounded_more.marks;
        };
    step = λ a t i e l at op q.
        let p : Phase = absorb (code_of codes i) i a t.phase (reply_to flags w.objects op) in
        let u : Attempt = record { inv = t.inv; live = lives_on op; steps = suc t.steps; phase = p } in
        let h : t.steps ≤ n = b.steps a t e in
        let g : length w.atts ≤ n = b.atts in
        record {
          invs = let k : length (invs_after w.invs op) ≤ suc (length w.invs) = one_message w.invs op in let h : length w.invs ≤ n = b.invs in omega arith;
          atts = let k : length (slice_set w.atts a u) ≡ length w.atts = length-set w.atts a u in omega arith;
          steps = few_set (suc n) w.atts a u (more_steps n w.atts b.steps) (omega arith);
          marks = let k : marks_after w.marks op ≤ suc w.marks = one_mark w.marks op in let h : w.marks ≤ n = b.marks in omega arith;
        };
    answer = λ a t i e l at r x q. bounded_answer a t e x (function_of w.opening.functions r);
    give_up = λ k s e x. record { invs = bounded_more.invs; atts = bounded_more.atts; steps = bounded_more.steps; marks = bounded_more.marks };
  }

  pub effect_bounded : (e : Event) → enabled codes w e ≡ true → IsBounded (suc n) (effect flags codes w e)
  effect_bounded e q = by_event flags codes w (λ e v. IsBounded (suc n) v) bounded_cases e q

-- ---------------------------------------------------------------- runs

pub roots_many : (s : ℕ) (xs : List model.Session) → length (root_invs first_number s xs) ≡ length xs
unfolding root_invs
roots_many s [] = refl
roots_many s (x ∷ xs) = ap suc (roots_many (suc s) xs)

pub start_bounded : (o : model.Opening) → IsBounded (length o.sessions) (start first_number o)
start_bounded o = record {
  invs = let k = roots_many 0 o.sessions in omega (arith, k);
  atts = omega arith;
  steps = λ a t e. absurd (cc);
  marks = omega arith;
}

pub run_bounded : (o : model.Opening) (codes : Codes ℕ) (es : List Event) (w : Numbered) (n : ℕ) →
    run flags codes first_number o es ≡ Some w → length o.sessions + length es ≤ n → IsBounded n w
run_bounded o codes es w n e l =
    let b : IsBounded (length o.sessions + length es) w = run_counts codes IsBounded (λ k v x q h. effect_bounded codes k v h x q) es (start first_number o) w (length o.sessions) (start_bounded o) e in
    record {
      invs = let h : length w.invs ≤ length o.sessions + length es = b.invs in omega arith;
      atts = let h : length w.atts ≤ length o.sessions + length es = b.atts in omega arith;
      steps = λ a t q. let h : t.steps ≤ length o.sessions + length es = b.steps a t q in omega arith;
      marks = let h : w.marks ≤ length o.sessions + length es = b.marks in omega arith;
    }
