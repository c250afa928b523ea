-- How often an object was to be marked, event by event.
use Rattle.world_model.specs.AnyCode.World as worlds
use Rattle.std.proofs.Common.{ℕ, ◌+◌, ◌≡◌, refl, sym, ap, Bool, true, false, cond, List, [], ◌∷◌, slice_get, slice_set, Option, Some, None, arith}
use Rattle.std.proofs.lemmas.Option.{same_Some}
use Rattle.fn_table.specs.declared.kind.FnKind.{FnKind}
use Rattle.asl_model.specs.Data.{Json}
use Rattle.world_model.specs.Operations.{Invocation, Op, Look, Create, Set, Invoke, Mark, Ack}
use Rattle.world_model.specs.Program.{Phase, Doing, Do, Ask, Nothing, next_of}
use Rattle.world_model.specs.World.{Opening, InvState, Attempt, World, Event, Deliver, Crash, Step, Answer, GiveUp, function_of, with_state, with_inv, with_att, state_after_crash, stepped_world, asked_world, answered_world, delivered_world, crashed_world, effect, enabled, run_from, start, run}
use Rattle.world_model.proofs.Every.{run_none}

-- ---------------------------------------------------------------- how often an object was to be marked

abbrev pub marks_in : Doing → ℕ
marks_in (Do (Mark x)) = 1
marks_in _ = 0

abbrev pub marks_by : Phase → Option Invocation → ℕ
marks_by p None = 0
marks_by p (Some i) = marks_in (next_of i p)

abbrev pub marks_at : World → Option Attempt → ℕ
marks_at w None = 0
marks_at w (Some t) = marks_by t.phase (slice_get w.invs t.inv)

-- 1 where the event is a step whose operation is a Mark
abbrev pub marks_of : World → Event → ℕ
marks_of w (Step a) = marks_at w (slice_get w.atts a)
marks_of w _ = 0

-- the marks of these events in turn
abbrev pub marks_from : World → List Event → ℕ
marks_from w [] = 0
marks_from w (e ∷ es) = marks_of w e + marks_from (effect w e) es

-- ---------------------------------------------------------------- the world counts them

state_marks : (w : World) (k : ℕ) (f : InvState → InvState) (x : Option InvState) → (with_state w k f x).marks ≡ w.marks
state_marks w k f None = refl
state_marks w k f (Some s) = refl

op_marks : (w : World) (a : ℕ) (t : Attempt) (i : Invocation) (p : Phase) (op : Op) → (stepped_world w a t i p (Do op)).marks ≡ w.marks + marks_in (Do op)
op_marks w a t i p (Look o) = omega arith
op_marks w a t i p (Create o h) = omega arith
op_marks w a t i p (Set q m c) = omega arith
op_marks w a t i p (Invoke v) = omega arith
op_marks w a t i p (Mark o) = omega arith
op_marks w a t i p Ack = omega arith

did_marks : (w : World) (a : ℕ) (t : Attempt) (i : Invocation) (p : Phase) (d : Doing) → (stepped_world w a t i p d).marks ≡ w.marks + marks_in d
did_marks w a t i p (Do op) = op_marks w a t i p op
did_marks w a t i p (Ask r x) = omega arith
did_marks w a t i p Nothing = omega arith

step_marks : (w : World) (a : ℕ) (t : Attempt) (x : Option Invocation) → (with_inv w t (λ i. stepped_world w a t i t.phase (next_of i t.phase)) x).marks ≡ w.marks + marks_by t.phase x
step_marks w a t None = omega arith
step_marks w a t (Some i) = did_marks w a t i t.phase (next_of i t.phase)

at_marks : (w : World) (a : ℕ) (x : Option Attempt) → (with_att w (λ t. with_inv w t (λ i. stepped_world w a t i t.phase (next_of i t.phase)) (slice_get w.invs t.inv)) x).marks ≡ w.marks + marks_at w x
at_marks w a None = omega arith
at_marks w a (Some t) = step_marks w a t (slice_get w.invs t.inv)

answered_marks : (w : World) (a : ℕ) (t : Attempt) (i : Invocation) (x : Json) (f : Option FnKind) → (answered_world w a t i x f).marks ≡ w.marks
answered_marks w a t i x None = refl
answered_marks w a t i x (Some k) = refl

asked_marks : (w : World) (a : ℕ) (t : Attempt) (i : Invocation) (d : Doing) → (asked_world w a t i d).marks ≡ w.marks
asked_marks w a t i (Do op) = refl
asked_marks w a t i (Ask r x) = answered_marks w a t i x (function_of w.opening.functions r)
asked_marks w a t i Nothing = refl

inv_marks : (w : World) (a : ℕ) (t : Attempt) (x : Option Invocation) → (with_inv w t (λ i. asked_world w a t i (next_of i t.phase)) x).marks ≡ w.marks
inv_marks w a t None = refl
inv_marks w a t (Some i) = asked_marks w a t i (next_of i t.phase)

answer_marks : (w : World) (a : ℕ) (x : Option Attempt) → (with_att w (λ t. with_inv w t (λ i. asked_world w a t i (next_of i t.phase)) (slice_get w.invs t.inv)) x).marks ≡ w.marks
answer_marks w a None = refl
answer_marks w a (Some t) = inv_marks w a t (slice_get w.invs t.inv)

deliver_marks : (w : World) (k : ℕ) (x : Option InvState) → (delivered_world w k x).marks ≡ w.marks
deliver_marks w k None = refl
deliver_marks w k (Some s) = refl

crash_marks : (w : World) (a : ℕ) (x : Option Attempt) → (with_att w (λ t. crashed_world w a t) x).marks ≡ w.marks
crash_marks w a None = refl
crash_marks w a (Some t) = state_marks (record w { atts = slice_set w.atts a (record t { live = false }) }) t.inv state_after_crash (slice_get w.states t.inv)

none_more : (n m : ℕ) → n ≡ m → n ≡ m + 0
none_more n m e = omega arith

event_marks : (w : World) (e : Event) → (effect w e).marks ≡ w.marks + marks_of w e
unfolding worlds.effect
event_marks w (Deliver k) = none_more _ w.marks (deliver_marks w k (slice_get w.states k))
event_marks w (Crash a) = none_more _ w.marks (crash_marks w a (slice_get w.atts a))
event_marks w (Step a) = at_marks w a (slice_get w.atts a)
event_marks w (Answer a) = none_more _ w.marks (answer_marks w a (slice_get w.atts a))
event_marks w (GiveUp k) = none_more _ w.marks (state_marks w k (λ s. record s { dead = true }) (slice_get w.states k))

run_marks : (es : List Event) (w v : World) → run_from (Some w) es ≡ Some v → v.marks ≡ w.marks + marks_from w es
unfolding worlds.run_from
run_marks [] w v e = none_more _ w.marks (ap (λ (z : World). z.marks) (sym (same_Some w v e)))
run_marks (x ∷ es) w v e = go (λ q. run_marks es (effect w x) v q) (enabled w x) e
  where
    go : (run_from (Some (effect w x)) es ≡ Some v → v.marks ≡ (effect w x).marks + marks_from (effect w x) es) → (b : Bool) → run_from (cond b (Some (effect w x)) None) es ≡ Some v →
        v.marks ≡ w.marks + (marks_of w x + marks_from (effect w x) es)
    go r true q = let a = r q in let b = event_marks w x in omega (arith, a, b)
    go r false q = absurd (run_none es v q)

-- a run's marks are those that its world has
pub marks_are : (o : Opening) (es : List Event) (w : World) → run o es ≡ Some w → marks_from (start o) es ≡ w.marks
marks_are o es w e = let a : w.marks ≡ 0 + marks_from (start o) es = run_marks es (start o) w e in omega arith
