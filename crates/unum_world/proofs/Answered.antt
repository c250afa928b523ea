-- Answers of functions: the queue after them, the world, and what stays kept beside it.
use Rattle.std.proofs.Common.{ℕ, ◌<◌, ◌≡◌, refl, sym, ap, ◌∙◌, subst, Bool, true, List, slice_get, slice_set, Option, Some, None, option_map}
use Rattle.std.proofs.lemmas.Option.{same_Some, slice_get_within}
use Rattle.unum_json.specs.Keys.{find_key}
use Rattle.unum_ir.specs.declared.ir.Ir.{Ir}
use Rattle.fn_table.specs.declared.kind.FnKind.{FnKind}
use Rattle.fn_table.specs.Answers.{Asked, answer}
use Rattle.world_types.specs.declared.queue.Attempt.{Attempt}
use Rattle.world_model.specs.AnyCode.Code.{Text, Json, Outcome, flags}
use Rattle.world_model.specs.AnyCode.Operations.{Invocation}
use Rattle.world_model.specs.AnyCode.Program.{Phase, Doing, Do, Ask, Nothing, next_of, called_phase}
use Rattle.world_model.specs.AnyCode.World.{Answer, Table, code_of, is_ask, function_of, answered_world, enabled, effect}
use Rattle.world_plans.specs.Changes.{inv_at}
use Rattle.invoke_queue.specs.Numbers.{NumberSet}
use Rattle.invoke_queue.specs.Queue.{Lists, atts_with, with_attempt, attempt_at, attempt_after_move}
use Rattle.unum_world.specs.declared.opening.Opening.{Opening}
use Rattle.unum_world.specs.declared.world_state.WorldState.{WorldState}
use Rattle.unum_world.specs.Openings.{codes_of}
use Rattle.unum_world.specs.Traces.{world_of}
use Rattle.unum_world.specs.Calls.{function_call, outcome_of, call_in}
use Rattle.unum_world.specs.Kept.{Keeps, Holds}
use Rattle.unum_world.specs.Instances.{Runs, CanAnswer, next_at, outcome_at, queue_answered}
use Rattle.unum_world.proofs.Parts.{answer_is, answered_is}
use Rattle.unum_world.proofs.EventEffects.{from_queue, room_stays, ArePut}
use Rattle.unum_world.proofs.StopLists.{stops_stay, set_at}
use Rattle.unum_world.proofs.TwinLists.{twins_follow}
use Rattle.unum_world.proofs.Givens.{next_is, asks_answer}
use Rattle.unum_world.proofs.Keeps.{are_stops, has_stops}
use Rattle.unum_world.proofs.Adopting.{called_not}
use Rattle.unum_world.proofs.Moving.{phase_is, advanced}

-- ---------------------------------------------------------------- the queue

-- an attempt whose phase was taken out
pub taken_at : (q p : Lists) (a : ℕ) (t : Attempt) (x : Phase) → slice_get q.atts a ≡ Some t → p ≡ with_attempt q a (attempt_at x) →
    slice_get p.atts a ≡ Some (attempt_at x t)
taken_at q p a t x e f =
    ap (λ (z : Lists). slice_get z.atts a) f
    ∙ ap (λ z. slice_get (atts_with q.atts a (attempt_at x) z) a) e
    ∙ set_at q.atts a (attempt_at x t) (slice_get_within q.atts a t e)

-- its steps are those from before
pub taken_steps : (q p : Lists) (a : ℕ) (x : Phase) → CanAnswer q a → p ≡ with_attempt q a (attempt_at x) → (t : Attempt) →
    slice_get p.atts a ≡ Some t → t.live ≡ true → t.steps < 4294967295
taken_steps q p a x c f t e l =
    subst (λ (z : Attempt). z.steps < 4294967295) (same_Some (attempt_at x c.att) t (sym (taken_at q p a c.att x c.attempt_is f) ∙ e)) c.steps

pub answered_queue : (q p n : Lists) (a : ℕ) (o : Outcome) (before x y : Phase) → CanAnswer q a → p ≡ with_attempt q a (attempt_at x) →
    option_map (λ (u : Attempt). u.phase) (slice_get q.atts a) ≡ Some before → y ≡ called_phase a before o →
    n ≡ with_attempt p a (attempt_after_move y) → n ≡ queue_answered q a o (slice_get q.atts a)
answered_queue q p n a o before x y c f b k g =
    advanced q a c.att c.attempt_is p n x y f g
    ∙ ap (λ z. with_attempt q a (attempt_after_move z))
    (k ∙ ap (λ z. called_phase a z o) (phase_is q a c.att c.attempt_is before b))
    ∙ sym (ap (queue_answered q a o) c.attempt_is)

-- ---------------------------------------------------------------- calls

asked : (d : Doing ℕ (List Bool)) → is_ask d ≡ true → (resource : Text) × (x : Json) × (d ≡ Ask resource x)
asked (Do op) k = absurd (cc)
asked (Ask resource x) k = (resource, x, refl)
asked Nothing k = absurd (cc)

found : (table : Table) (resource : Text) → function_of table resource ≡ find_key resource table
unfolding function_of
found table resource = refl

-- the call of that function, if there is one
abbrev call_of : Json → (attempt : ℕ) → Option FnKind → Option Asked
call_of y a = option_map (λ (f : FnKind). record { kind = f; input = y; ticket = a })

no_function : (x : Option FnKind) (y : Json) (a : ℕ) → outcome_of (call_of y a x) ≡ None → x ≡ None
no_function None y a k = refl
no_function (Some f) y a k = absurd (cc)

its_function : (x : Option FnKind) (y : Json) (a : ℕ) (out : Outcome) → outcome_of (call_of y a x) ≡ Some out →
    (f : FnKind) × (x ≡ Some f) × (answer f y a ≡ out)
its_function None y a out k = absurd (cc)
its_function (Some f) y a out k = (f, refl, same_Some _ _ k)

-- what is answered where a call is next, and where none is
pub ask_outcome : (table : Table) (ir : Ir) (i : Invocation ℕ) (q : Lists) (a : ℕ) (resource : Text) (x : Json) →
    ◌≡◌ {A = Doing ℕ (List Bool)} (Ask resource x) (next_at ir i q a) → outcome_of (function_call table resource x a) ≡ outcome_at table ir i q a
ask_outcome table ir i q a resource x e = ap (λ d. outcome_of (call_in table a d)) e

none_asked : (table : Table) (a : ℕ) (d : Doing ℕ (List Bool)) → ((resource : Text) (x : Json) → d ≡ Ask resource x → ⊥) →
    outcome_of (call_in table a d) ≡ None
none_asked table a (Do op) h = refl
none_asked table a (Ask resource x) h = absurd (h resource x refl)
none_asked table a Nothing h = refl

pub no_outcome : (table : Table) (ir : Ir) (i : Invocation ℕ) (q : Lists) (a : ℕ) (d : Doing ℕ (List Bool)) →
    ((resource : Text) (x : Json) → d ≡ Ask resource x → ⊥) → d ≡ next_at ir i q a → outcome_at table ir i q a ≡ None
no_outcome table ir i q a d h e = ap (λ z. outcome_of (call_in table a z)) (sym e) ∙ none_asked table a d h

module _ (o : Opening) (m n : WorldState) (h : Holds o m) (a inv : ℕ) (i : Invocation ℕ) (ir : Ir) (r : Runs o m a inv i ir)
    (e : enabled (codes_of o) (world_of o m) (Answer a) ≡ true) where
  abbrev q : Lists
  q = m.hub.queue

  -- the call that it waits for
  its_call : (resource : Text) × (x : Json) × (next_of {B = List Bool} (code_of (codes_of o) i) i r.att.phase ≡ Ask resource x)
  its_call = asked (next_of (code_of (codes_of o) i) i r.att.phase) (asks_answer o m h a inv i ir r e)

  outcome_is : (out : Option Outcome) → outcome_at o.table ir i q a ≡ out → outcome_of (function_call o.table its_call.0 its_call.1 a) ≡ out
  outcome_is out k = ap (λ d. outcome_of (call_in o.table a d)) (sym its_call.2 ∙ next_is o m h a inv i ir r _ refl) ∙ k

  effect_is : effect flags (codes_of o) (world_of o m) (Answer a) ≡ answered_world (world_of o m) a r.att its_call.1 (function_of o.table its_call.0)
  effect_is = answer_is (codes_of o) (world_of o m) a r.att i its_call.0 its_call.1 r.placed.attempt_is r.placed.invocation_is its_call.2

  -- where there is no such function nothing changes
  pub none_world : outcome_at o.table ir i q a ≡ None → world_of o m ≡ effect flags (codes_of o) (world_of o m) (Answer a)
  none_world k =
      sym (effect_is
      ∙ ap (answered_world (world_of o m) a r.att its_call.1)
      (found o.table its_call.0 ∙ no_function (find_key its_call.0 o.table) its_call.1 a (outcome_is None k)))

  module _ (out : Outcome) (queue : n.hub.queue ≡ queue_answered q a out (slice_get q.atts a)) where
    abbrev moved : Attempt
    moved = attempt_after_move (called_phase a r.att.phase out) r.att

    queue_is : n.hub.queue ≡ with_attempt q a (attempt_after_move (called_phase a r.att.phase out))
    queue_is = queue ∙ ap (queue_answered q a out) r.placed.attempt_is

    pub answer_world : outcome_at o.table ir i q a ≡ Some out → n.hub.store ≡ m.hub.store → n.journal.items ≡ m.journal.items →
        n.marks ≡ m.marks → world_of o n ≡ effect flags (codes_of o) (world_of o m) (Answer a)
    answer_world k store journal marks =
        let (f, g, s) = its_function (find_key its_call.0 o.table) its_call.1 a out (outcome_is (Some out) k) in
        from_queue o m n _ store (queue_is ∙ ap (λ z. with_attempt q a (attempt_after_move (called_phase a r.att.phase z))) (sym s)) journal marks
        ∙ answered_is (world_of o m) a r.att its_call.1 f r.placed.attempt_is r.alive
        ∙ ap (answered_world (world_of o m) a r.att its_call.1) (sym (found o.table its_call.0 ∙ g)) ∙ sym effect_is

    pub answer_keeps : world_of o n ≡ effect flags (codes_of o) (world_of o m) (Answer a) → n.stops.items ≡ m.stops.items → ArePut o m n inv →
        Keeps o n
    answer_keeps w s t =
        let j : n.hub.queue.invs ≡ q.invs = ap (λ (x : Lists). x.invs) queue_is in
        record {
          stops =
              has_stops o n q.invs (slice_set q.atts a moved) m.stops.items
              (stops_stay (codes_of o) q.invs q.atts m.stops.items (are_stops o m h.kept.stops) a r.att moved i r.placed.attempt_is r.alive
              r.placed.invocation_is refl (λ k l p. called_not a r.att.phase out k l p))
              j
              (ap (λ (x : Lists). x.atts) queue_is
              ∙ ap (atts_with q.atts a (attempt_after_move (called_phase a r.att.phase out))) r.placed.attempt_is)
              s;
          twins =
              twins_follow o m n (Answer a) inv h.kept.twins e w (r.inv_is ∙ ap (inv_at (codes_of o) (world_of o m)) (sym r.placed.attempt_is))
              (ap (λ (x : NumberSet). x.numbers) t) (room_stays o m n inv h t j);
        }
