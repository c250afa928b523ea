-- Steps that are no Ack, and Acks: the world after them, and what stays kept beside it.
use Rattle.std.proofs.Common.{ℕ, ◌+◌, ◌≤◌, ◌≡◌, ◌≢◌, refl, sym, ap, ◌∙◌, subst, arith, Bool, true, false, ◌&&◌, List, [], ◌∷◌, ◌++◌, length, slice_get, slice_set, Some, None}
use Rattle.std.proofs.lemmas.Option.{slice_get_within}
use Rattle.std.proofs.lemmas.List.{append-nil, length_push}
use Rattle.unum_ir.specs.declared.ir.Ir.{Ir}
use Rattle.world_types.specs.declared.queue.Attempt.{Attempt}
use Rattle.world_model.specs.AnyCode.Code.{flags}
use Rattle.world_model.specs.AnyCode.Operations.{Invocation, Look, Create, Set, Invoke, Mark, Ack, Reply, Finished}
use Rattle.world_model.specs.AnyCode.Program.{Phase, Do, next_of, absorb}
use Rattle.world_model.specs.AnyCode.World.{Codes, Step, code_of, objects_after, journal_after, reply_to, state_after_ack, stepped_world, enabled, effect, att_lets, is_do, lives}
use Rattle.world_model.specs.Numbered.{Numbered}
use Rattle.world_plans.specs.Changes.{numbers_set, inv_of, inv_of_step, inv_of_next, stepped_inv}
use Rattle.continuation_gen.specs.Coded.{code_of_ir}
use Rattle.checkpoint_store.specs.Entries.{objects_of}
use Rattle.invoke_queue.specs.Numbers.{NumberSet}
use Rattle.invoke_queue.specs.Queue.{Lists, atts_with, with_attempt, with_end, attempt_after_move, attempt_after_end}
use Rattle.unum_hub.specs.Holding.{NumberedOp, queue_after}
use Rattle.unum_world.specs.declared.opening.Opening.{Opening}
use Rattle.unum_world.specs.declared.world_state.WorldState.{WorldState}
use Rattle.unum_world.specs.Openings.{opening_as, codes_of}
use Rattle.unum_world.specs.Traces.{world_of}
use Rattle.unum_world.specs.OneStep.{entry_of, is_won, entries_won, one_mark, inv_of_op, messages_after, is_acting, phase_acts, stops_with}
use Rattle.unum_world.specs.Kept.{Keeps, Holds}
use Rattle.unum_world.specs.Instances.{Runs, doing_at, queue_moved, adopted_stop, ReadsAt}
use Rattle.unum_world.proofs.Parts.{world_from, moved_is, acked_is, step_is}
use Rattle.unum_world.proofs.EventEffects.{from_queue, room_stays, ArePut}
use Rattle.unum_world.proofs.StopLists.{stops_end, stops_move, set_at}
use Rattle.unum_world.proofs.TwinLists.{wants, twins_follow}
use Rattle.unum_world.proofs.Givens.{next_is}
use Rattle.unum_world.proofs.Keeps.{are_stops, has_stops, step_stops}
use Rattle.unum_world.proofs.Moving.{atts_stay, set_twice}
use Rattle.unum_world.proofs.Journals.{marks_are, journal_are, reads_take}

-- ---------------------------------------------------------------- the queue after an operation that is no Ack

-- what is sent
abbrev sent : NumberedOp → List (Invocation ℕ)
sent (Invoke i) = i ∷ []
sent _ = []

pub sent_invs : (q : Lists) (a : ℕ) (op : NumberedOp) → op ≢ Ack → (queue_after q a op).invs ≡ q.invs ++ sent op
sent_invs q a (Look o) h = sym (append-nil q.invs)
sent_invs q a (Create o x) h = sym (append-nil q.invs)
sent_invs q a (Set p index count) h = sym (append-nil q.invs)
sent_invs q a (Invoke i) h = refl
sent_invs q a (Mark o) h = sym (append-nil q.invs)
sent_invs q a Ack h = absurd (h refl)

-- how many messages there are then
sent_many : (xs : List (Invocation ℕ)) (op : NumberedOp) → length (xs ++ sent op) ≡ messages_after op (length xs)
sent_many xs (Look o) = ap length (append-nil xs)
sent_many xs (Create o x) = ap length (append-nil xs)
sent_many xs (Set p index count) = ap length (append-nil xs)
sent_many xs (Invoke i) = let e : length (xs ++ i ∷ []) ≡ length xs + 1 = length_push xs i in omega arith
sent_many xs (Mark o) = ap length (append-nil xs)
sent_many xs Ack = ap length (append-nil xs)

-- the invocation that the step is of, by the code
inv_by : (messages states inv : ℕ) (w : Numbered) (t : Attempt) (codes : Codes ℕ) (op : NumberedOp) → states ≡ length w.states → messages ≡ states → inv ≡ t.inv →
    inv_of_op messages inv op ≡ inv_of_step codes w t (Do op)
inv_by messages states inv w t codes (Invoke i) e f g = f ∙ e
inv_by messages states inv w t codes (Look o) e f g = g
inv_by messages states inv w t codes (Create o h) e f g = g
inv_by messages states inv w t codes (Set p index count) e f g = g
inv_by messages states inv w t codes (Mark o) e f g = g
inv_by messages states inv w t codes Ack e f g = g

module _ (o : Opening) (m n : WorldState) (h : Holds o m) (a inv : ℕ) (i : Invocation ℕ) (ir : Ir) (r : Runs o m a inv i ir) (op : NumberedOp)
    (d : doing_at ir i (slice_get m.hub.queue.atts a) ≡ Do op) where
  abbrev q : Lists
  q = m.hub.queue

  abbrev reply : Reply (List Bool)
  reply = reply_to flags (objects_of m.hub.store) op

  -- where the attempt stands then
  abbrev phase : Phase
  phase = absorb (code_of_ir ir) i a r.att.phase reply

  abbrev moved : Attempt
  moved = attempt_after_move phase r.att

  pub next : next_of (code_of (codes_of o) i) i r.att.phase ≡ Do op
  next = next_is o m h a inv i ir r (Do op) d

  -- the step may happen
  pub may_step : enabled (codes_of o) (world_of o m) (Step a) ≡ true
  unfolding enabled
  may_step =
      ap (att_lets (codes_of o) (world_of o m) is_do) r.placed.attempt_is
      ∙ ap (λ z. r.att.live && elim z [ None ↦ false | Some j ↦ is_do (next_of {B = List Bool} (code_of (codes_of o) j) j r.att.phase) ]) r.placed.invocation_is
      ∙ ap (λ z. z && is_do (next_of {B = List Bool} (code_of (codes_of o) i) i r.att.phase)) r.alive
      ∙ ap (λ z. is_do z) next

  effect_is : effect flags (codes_of o) (world_of o m) (Step a) ≡ stepped_world flags (codes_of o) (world_of o m) a r.att i r.att.phase (Do op)
  effect_is = step_is (codes_of o) (world_of o m) a r.att i op r.placed.attempt_is r.placed.invocation_is next

  -- it is the world's own invocation
  pub inv_is : inv_of_op (length q.invs) inv op ≡ inv_of (codes_of o) (world_of o m) (Step a)
  inv_is =
      inv_by (length q.invs) (length q.states) inv (world_of o m) r.att (codes_of o) op refl (sym h.range.world.states) r.inv_is
      ∙ ap (inv_of_step (codes_of o) (world_of o m) r.att) (sym next)
      ∙ ap (inv_of_next (codes_of o) (world_of o m) r.att) (sym r.placed.invocation_is)
      ∙ ap (stepped_inv (codes_of o) (world_of o m)) (sym r.placed.attempt_is)

  module _ (not_ack : op ≢ Ack)
      (queue : n.hub.queue ≡ queue_moved ir i (queue_after q a op) a reply (slice_get q.atts a)) where
    queue_is : n.hub.queue ≡ with_attempt (queue_after q a op) a (attempt_after_move phase)
    queue_is = queue ∙ ap (queue_moved ir i (queue_after q a op) a reply) r.placed.attempt_is

    -- the messages then, and their number
    pub invs_are : n.hub.queue.invs ≡ q.invs ++ sent op
    invs_are = ap (λ (x : Lists). x.invs) queue_is ∙ sent_invs q a op not_ack

    pub messages_are : length n.hub.queue.invs ≡ messages_after op (length q.invs)
    messages_are = ap length invs_are ∙ sent_many q.invs op

    pub step_world : objects_of n.hub.store ≡ objects_after flags (objects_of m.hub.store) op →
        n.journal.items ≡ m.journal.items ++ entries_won (is_won reply) (entry_of op a) → n.marks ≡ m.marks + one_mark op →
        world_of o n ≡ effect flags (codes_of o) (world_of o m) (Step a)
    step_world objects journal marks =
        ap (λ z. world_from (opening_as o) z n.hub.queue n.journal.items n.marks) objects
        ∙ ap (λ z. world_from (opening_as o) (objects_after flags (objects_of m.hub.store) op) z n.journal.items n.marks)
        (queue_is ∙ ap (λ z. with_attempt (queue_after q a op) a (attempt_after_move (absorb (code_of_ir z) i a r.att.phase reply))) r.form)
        ∙ ap (λ z. world_from (opening_as o) (objects_after flags (objects_of m.hub.store) op) (with_attempt (queue_after q a op) a (attempt_after_move (absorb (code_of (codes_of o) i) i a r.att.phase reply))) z n.marks)
        (journal ∙ sym (journal_are (objects_of m.hub.store) m.journal.items a op))
        ∙ ap (λ z. world_from (opening_as o) (objects_after flags (objects_of m.hub.store) op) (with_attempt (queue_after q a op) a (attempt_after_move (absorb (code_of (codes_of o) i) i a r.att.phase reply))) (journal_after (objects_of m.hub.store) m.journal.items a op) z)
        (marks ∙ sym (marks_are m.marks op))
        ∙ moved_is (codes_of o) (world_of o m) a r.att i op r.placed.attempt_is r.alive not_ack ∙ sym effect_is

    atts_are : n.hub.queue.atts ≡ slice_set q.atts a moved
    atts_are =
        ap (λ (x : Lists). x.atts) queue_is
        ∙ ap (λ z. atts_with z a (attempt_after_move phase) (slice_get z a)) (atts_stay q a op not_ack)
        ∙ ap (atts_with q.atts a (attempt_after_move phase)) r.placed.attempt_is

    own_place : slice_get (slice_set q.atts a moved) a ≡ Some moved
    own_place = set_at q.atts a moved (slice_get_within q.atts a r.att r.placed.attempt_is)

    pub step_keeps : enabled (codes_of o) (world_of o m) (Step a) ≡ true → world_of o n ≡ effect flags (codes_of o) (world_of o m) (Step a) →
        n.stops.items ≡ stops_with m.stops.items a (adopted_stop ir i m (slice_get q.atts a)) (phase_acts (slice_get n.hub.queue.atts a)) →
        n.twins.numbers ≡ numbers_set (wants o n (inv_of_op (length q.invs) inv op)) (inv_of_op (length q.invs) inv op) m.twins.numbers →
        length n.hub.queue.invs ≤ n.twins.room → Keeps o n
    step_keeps e w s t room = record {
      stops =
          has_stops o n (q.invs ++ sent op) (slice_set q.atts a moved) (stops_with m.stops.items a (adopted_stop ir i m (slice_get q.atts a)) (is_acting phase))
          (stops_move (codes_of o) q.invs (sent op) q.atts m.stops.items (are_stops o m h.kept.stops)
          (λ b u g. let k = h.range.world.atts b u g in slice_get_within q.invs u.inv k.i k.there)
          a r.att moved i (adopted_stop ir i m (slice_get q.atts a)) r.placed.attempt_is r.alive r.placed.invocation_is refl
          (λ k l p. step_stops o m h a inv i ir r op k l d p))
          invs_are atts_are
          (s ∙ ap (λ z. stops_with m.stops.items a (adopted_stop ir i m (slice_get q.atts a)) (phase_acts (slice_get z a))) atts_are ∙ ap (λ z. stops_with m.stops.items a (adopted_stop ir i m (slice_get q.atts a)) (phase_acts z)) own_place);
      twins = twins_follow o m n (Step a) (inv_of_op (length q.invs) inv op) h.kept.twins e w inv_is t room;
    }

-- ---------------------------------------------------------------- an Ack

module _ (o : Opening) (m : WorldState) (h : Holds o m) (a inv : ℕ) (i : Invocation ℕ) (ir : Ir) (r : Runs o m a inv i ir)
    (d : doing_at ir i (slice_get m.hub.queue.atts a) ≡ Do Ack) where
  -- who acknowledges reads no data
  pub no_read : ReadsAt (slice_get m.hub.queue.atts a) → ⊥
  no_read k =
      let (x, e) = reads_take (code_of_ir ir) i r.att.phase Ack (subst ReadsAt r.placed.attempt_is k) (ap (doing_at ir i) (sym r.placed.attempt_is) ∙ d) in
      absurd (cc)

  module _ (p : Lists) (first : p ≡ queue_moved ir i m.hub.queue a Finished (slice_get m.hub.queue.atts a)) where
    abbrev over : Phase
    over = absorb {B = List Bool} (code_of_ir ir) i a r.att.phase Finished

    abbrev ended : Attempt
    ended = attempt_after_move over r.att

    first_is : p ≡ with_attempt m.hub.queue a (attempt_after_move over)
    first_is = first ∙ ap (queue_moved ir i m.hub.queue a Finished) r.placed.attempt_is

    first_atts : p.atts ≡ slice_set m.hub.queue.atts a ended
    first_atts = ap (λ (x : Lists). x.atts) first_is ∙ ap (atts_with m.hub.queue.atts a (attempt_after_move over)) r.placed.attempt_is

    ended_at : slice_get p.atts a ≡ Some ended
    ended_at =
        ap (λ z. slice_get z a) first_atts
        ∙ set_at m.hub.queue.atts a ended (slice_get_within m.hub.queue.atts a r.att r.placed.attempt_is)

    -- it still lives when it acknowledges
    pub still_lives : lives (slice_get p.atts a) ≡ true
    still_lives = ap lives ended_at ∙ r.alive

    module _ (n : WorldState) (queue : n.hub.queue ≡ with_end p a state_after_ack (slice_get p.atts a)) where
      acked_queue : n.hub.queue ≡ with_end (with_attempt m.hub.queue a (attempt_after_move over)) a state_after_ack (Some ended)
      acked_queue = queue ∙ ap (with_end p a state_after_ack) ended_at ∙ ap (λ z. with_end z a state_after_ack (Some ended)) first_is

      pub ack_world : n.hub.store ≡ m.hub.store → n.journal.items ≡ m.journal.items → n.marks ≡ m.marks →
          world_of o n ≡ effect flags (codes_of o) (world_of o m) (Step a)
      ack_world s j k =
          from_queue o m n _ s acked_queue j k
          ∙ acked_is (codes_of o) (world_of o m) a r.att i over r.placed.attempt_is
          (ap (λ z. absorb {B = List Bool} (code_of_ir z) i a r.att.phase Finished) r.form)
          ∙ sym (effect_is o m n h a inv i ir r Ack d)

      pub ack_keeps : world_of o n ≡ effect flags (codes_of o) (world_of o m) (Step a) → n.stops.items ≡ slice_set m.stops.items a None →
          ArePut o m n inv → Keeps o n
      ack_keeps w s t =
          let j : n.hub.queue.invs ≡ m.hub.queue.invs = ap (λ (x : Lists). x.invs) acked_queue in
          record {
            stops =
                has_stops o n m.hub.queue.invs (slice_set m.hub.queue.atts a (attempt_after_end ended)) (slice_set m.stops.items a None)
                (stops_end (codes_of o) m.hub.queue.invs m.hub.queue.atts m.stops.items (are_stops o m h.kept.stops) a (attempt_after_end ended) refl)
                j
                (ap (λ (x : Lists). x.atts) acked_queue
                ∙ ap (λ z. slice_set (atts_with m.hub.queue.atts a (attempt_after_move over) z) a (attempt_after_end ended)) r.placed.attempt_is
                ∙ set_twice m.hub.queue.atts a ended (attempt_after_end ended))
                s;
            twins =
                twins_follow o m n (Step a) inv h.kept.twins (may_step o m n h a inv i ir r Ack d) w (inv_is o m n h a inv i ir r Ack d)
                (ap (λ (x : NumberSet). x.numbers) t) (room_stays o m n inv h t j);
          }
