-- Steps as the code carries them out: what was made before is what the step needs, and the world after all its parts have changed.
use Rattle.std.proofs.Common.{ℕ, ◌+◌, ◌^◌, ◌<◌, ◌≤◌, ◌≡◌, ◌≢◌, ◌⊎◌, refl, sym, ap, ◌∙◌, subst, inl, inr, arith, Bool, true, List, ◌++◌, length, slice_get, Option, Some, None, option_map}
use Rattle.std.specs.Prelude.{is_some, IsSome, IsTrue}
use Rattle.std.proofs.lemmas.Option.{slice_get_within}
use Rattle.place_name.specs.declared.obj.Obj.TheVariants.{Check}
use Rattle.unum_ir.specs.declared.ir.Ir.{Ir}
use Rattle.world_types.specs.declared.queue.Attempt.{Attempt}
use Rattle.world_model.specs.AnyCode.Code.{Stop, flags}
use Rattle.world_model.specs.AnyCode.Operations.{Invocation, Look, Create, Set, Invoke, Mark, Ack, Reply}
use Rattle.world_model.specs.AnyCode.Acts.{stop_of}
use Rattle.world_model.specs.AnyCode.Program.{Doing, Do, Ask, Nothing}
use Rattle.world_model.specs.AnyCode.World.{Step, code_of, objects_after, reply_to, is_do, state_lets, effect}
use Rattle.world_plans.specs.Chooser.{wants_twin}
use Rattle.world_plans.specs.Changes.{numbers_set}
use Rattle.continuation_gen.specs.Coded.{code_of_ir}
use Rattle.checkpoint_store.specs.Entries.{objects_of}
use Rattle.invoke_queue.specs.Numbers.{NumberSet}
use Rattle.invoke_queue.specs.Queue.{Lists}
use Rattle.unum_hub.specs.declared.hub.Hub.{Hub}
use Rattle.unum_hub.specs.Holding.{IsFit, NumberedOp, queue_after}
use Rattle.fn_wrapper.specs.Actions.{IsCountOfActs}
use Rattle.fn_wrapper.specs.Ready.{CopiesData}
use Rattle.unum_world.specs.declared.opening.Opening.{Opening}
use Rattle.unum_world.specs.declared.world_state.WorldState.{WorldState}
use Rattle.unum_world.specs.declared.prepared.Prepared.{Prepared}
use Rattle.unum_world.specs.Openings.{opening_as, codes_of}
use Rattle.unum_world.specs.Traces.{world_of}
use Rattle.unum_world.specs.OneStep.{is_won, entries_won, one_mark, inv_of_op, messages_after, phase_acts, stops_with, op_takes_memory, doing_takes_memory, inv_takes_memory, att_takes_memory, takes_memory}
use Rattle.unum_world.specs.Kept.{ChangesRoom, Keeps, Holds, twins_with}
use Rattle.unum_world.specs.Instances.{Runs, CanMove, IsGiven, IsDo, IsPrepared, MayAdopt, doing_at, next_at, queue_moved, queue_operated, adopted_stop}
use Rattle.unum_world.proofs.Parts.{world_from}
use Rattle.unum_world.proofs.TwinLists.{twins_stay}
use Rattle.unum_world.proofs.Givens.{next_is, fit_at, can_move, runs_within}
use Rattle.unum_world.proofs.Inputs.{given_at}
use Rattle.unum_world.proofs.Keeps.{are_stops, has_stops}
use Rattle.unum_world.proofs.Journals.{copies_take, adopts_take}
use Rattle.unum_world.proofs.OneSteps.{may_step, messages_are, step_world, step_keeps}

-- ---------------------------------------------------------------- where nothing changes but room in lists

module _ (o : Opening) (m n : WorldState) where
  pub same_world : objects_of n.hub.store ≡ objects_of m.hub.store → n.hub.queue ≡ m.hub.queue → n.journal.items ≡ m.journal.items →
      n.marks ≡ m.marks → world_of o n ≡ world_of o m
  same_world a b c d =
      ap (λ z. world_from (opening_as o) z n.hub.queue n.journal.items n.marks) a
      ∙ ap (λ z. world_from (opening_as o) (objects_of m.hub.store) z n.journal.items n.marks) b
      ∙ ap (λ z. world_from (opening_as o) (objects_of m.hub.store) m.hub.queue z n.marks) c
      ∙ ap (λ z. world_from (opening_as o) (objects_of m.hub.store) m.hub.queue m.journal.items z) d

  pub same_keeps : Keeps o m → world_of o n ≡ world_of o m → n.hub.queue ≡ m.hub.queue → n.stops.items ≡ m.stops.items →
      n.twins.numbers ≡ m.twins.numbers → length m.hub.queue.invs ≤ n.twins.room → Keeps o n
  same_keeps k w q s t room = record {
    stops =
        has_stops o n m.hub.queue.invs m.hub.queue.atts m.stops.items (are_stops o m k.stops) (ap (λ (x : Lists). x.invs) q)
        (ap (λ (x : Lists). x.atts) q) s;
    twins = twins_stay o m n k.twins w t room;
  }

  pub room_world : ChangesRoom m n → world_of o n ≡ world_of o m
  room_world c = same_world (ap (λ (x : Hub). objects_of x.store) c.hub) (ap (λ (x : Hub). x.queue) c.hub) c.journal c.marks

  pub room_keeps : Keeps o m → ChangesRoom m n → Keeps o n
  room_keeps k c = same_keeps k (room_world c) (ap (λ (x : Hub). x.queue) c.hub) c.stops c.numbers c.room

-- the same where an operation was refused after that
module _ (o : Opening) (m p n : WorldState) (c : ChangesRoom m p) (objects : objects_of n.hub.store ≡ objects_of p.hub.store)
    (queue : n.hub.queue ≡ p.hub.queue) where
  pub refused_world : n.journal.items ≡ p.journal.items → n.marks ≡ p.marks → world_of o n ≡ world_of o m
  refused_world j k =
      same_world o m n (objects ∙ ap (λ (x : Hub). objects_of x.store) c.hub) (queue ∙ ap (λ (x : Hub). x.queue) c.hub) (j ∙ c.journal) (k ∙ c.marks)

  pub refused_keeps : Keeps o m → world_of o n ≡ world_of o m → n.stops.items ≡ p.stops.items → n.twins ≡ p.twins → Keeps o n
  refused_keeps k w s t =
      same_keeps o m n k w (queue ∙ ap (λ (x : Hub). x.queue) c.hub) (s ∙ c.stops) (ap (λ (x : NumberSet). x.numbers) t ∙ c.numbers)
      (subst (λ (x : NumberSet). length m.hub.queue.invs ≤ x.room) (sym t) c.room)

-- ---------------------------------------------------------------- tests of operations

mark_small : (op : NumberedOp) → one_mark op ≤ 1
mark_small (Mark o) = omega arith
mark_small (Look o) = omega arith
mark_small (Create o h) = omega arith
mark_small (Set p index count) = omega arith
mark_small (Invoke i) = omega arith
mark_small Ack = omega arith

sum_fits : (x y : ℕ) → x ≤ 4294967294 → y ≤ 1 → x + y < 2 ^ 64
sum_fits x y e f = omega arith

-- the invocation that an operation is of has room for a twin
inv_below : (op : NumberedOp) (n inv room : ℕ) → inv < n → messages_after op n ≤ room → inv_of_op n inv op < room
inv_below (Invoke i) n inv room e f = omega arith
inv_below (Look o) n inv room e f = omega arith
inv_below (Create o h) n inv room e f = omega arith
inv_below (Set p index count) n inv room e f = omega arith
inv_below (Mark o) n inv room e f = omega arith
inv_below Ack n inv room e f = omega arith

mapped_some : {A B : Type 0} (f : A → B) (x : Option A) → is_some (option_map f x) ≡ true → is_some x ≡ true
mapped_some f None e = absurd (cc)
mapped_some f (Some x) e = refl

operation_in : (d : Doing ℕ (List Bool)) → is_do d ≡ true → (op : NumberedOp) × (d ≡ Do op)
operation_in (Do op) e = (op, refl)
operation_in (Ask r x) e = absurd (cc)
operation_in Nothing e = absurd (cc)

-- ---------------------------------------------------------------- a step

module _ (o : Opening) (m : WorldState) (h : Holds o m) (a inv : ℕ) (i : Invocation ℕ) (ir : Ir) (r : Runs o m a inv i ir) where
  abbrev q : Lists
  q = m.hub.queue

  pub is_there : IsSome (slice_get q.atts a)
  is_there = ap is_some r.placed.attempt_is

  pub few_messages : length q.invs < 4294967295
  few_messages = let b : length q.invs ≤ 4294967294 = h.bounded.invs in omega arith

  -- whether the step may take memory, by its operation
  pub memory_is : (op : NumberedOp) → doing_at ir i (slice_get q.atts a) ≡ Do op → op_takes_memory op ≡ true →
      takes_memory (codes_of o) (world_of o m) (Step a) ≡ true
  memory_is op d t =
      ap (att_takes_memory (codes_of o) (world_of o m)) r.placed.attempt_is
      ∙ ap (inv_takes_memory (codes_of o) (world_of o m) r.att) r.placed.invocation_is
      ∙ ap doing_takes_memory (next_is o m h a inv i ir r (Do op) d) ∙ t

  -- what copies data may take memory
  pub copied_memory : IsDo (doing_at ir i (slice_get q.atts a)) → ((t : Attempt) → slice_get q.atts a ≡ Some t → CopiesData t.phase) →
      takes_memory (codes_of o) (world_of o m) (Step a) ≡ true
  copied_memory k f =
      let (op, d) = operation_in (doing_at ir i (slice_get q.atts a)) k in
      memory_is op d (copies_take (code_of (codes_of o) i) i r.att.phase op (f r.att r.placed.attempt_is) (next_is o m h a inv i ir r (Do op) d))

  module _ (op : NumberedOp) (d : doing_at ir i (slice_get q.atts a) ≡ Do op) where
    -- so may what is made before the operation
    pub prepared_memory : MayAdopt ir i a m ⊎ IsTrue (op_takes_memory op) → op_takes_memory op ≡ true
    prepared_memory k = elim k [
      | inl e ↦
          let s : is_some (adopted_stop ir i m (Some r.att)) ≡ true = ap (λ z. is_some (adopted_stop ir i m z)) (sym r.placed.attempt_is) ∙ e in
          adopts_take (code_of_ir ir) i r.att.phase (objects_of m.hub.store (Check i.name)) op (mapped_some (stop_of (code_of_ir ir) i) _ s)
          (ap (doing_at ir i) (sym r.placed.attempt_is) ∙ d)
      | inr e ↦ e
    ]

    module _ (p : WorldState) (c : ChangesRoom m p) where
      pub still_fit : IsFit p.hub.queue a op
      still_fit = subst (λ (x : Hub). IsFit x.queue a op) (sym c.hub) (fit_at o m h a inv i ir r op d)

      pub still_moves : (acts : ℕ) → ((t : Attempt) → slice_get q.atts a ≡ Some t → IsCountOfActs (code_of_ir ir) i t.phase acts) →
          CanMove ir i p.hub.queue a acts
      still_moves acts f = subst (λ (x : Hub). CanMove ir i x.queue a acts) (sym c.hub) (can_move o m h a inv i ir r acts f)

      pub still_given : IsGiven ir i (slice_get p.hub.queue.atts a) (reply_to flags (objects_of p.hub.store) op)
      still_given =
          subst (λ (x : Hub). IsGiven ir i (slice_get x.queue.atts a) (reply_to flags (objects_of x.store) op)) (sym c.hub)
          (given_at o m h a inv i ir r op d)

      pub still_does : next_at ir i p.hub.queue a ≡ Do op
      still_does = ap (λ (x : Hub). next_at ir i x.queue a) c.hub ∙ d

      pub still_within : a < length p.stops.items
      still_within = subst (λ (xs : List (Option (Stop ℕ))). a < length xs) (sym c.stops) (runs_within o m h a inv i ir r)

      module _ (s : Prepared) (made : IsPrepared ir i a inv op m s) where
        pub marks_fit : p.marks + s.marks < 2 ^ 64
        marks_fit =
            let e : p.marks ≡ m.marks = c.marks in
            let f : s.marks ≡ one_mark op = made.marks_are in
            let g : m.marks ≤ 4294967294 = h.bounded.marks in
            sum_fits p.marks s.marks (omega (arith, e, g)) (omega (arith, f, mark_small op))

        pub twin_room : messages_after op (length q.invs) ≤ p.twins.room → s.inv < p.twins.room
        twin_room l =
            let b : r.att.inv < length q.invs = slice_get_within q.invs r.att.inv i r.placed.invocation_is in
            subst (λ z. z < p.twins.room) (sym made.inv_is)
            (inv_below op (length q.invs) inv p.twins.room (subst (λ z. z < length q.invs) (sym r.inv_is) b) l)

        -- all has changed
        module _ (not_ack : op ≢ Ack) (x : Hub) (n : WorldState) (won : Bool)
            (objects : objects_of x.store ≡ objects_after flags (objects_of p.hub.store) op) (queue : x.queue ≡ queue_operated ir i p.hub a op)
            (won_is : won ≡ is_won (reply_to flags (objects_of p.hub.store) op)) (hub : n.hub ≡ x) where
          abbrev adopted : Option (Stop ℕ)
          adopted = adopted_stop ir i m (slice_get q.atts a)

          abbrev reply : Reply (List Bool)
          reply = reply_to flags (objects_of m.hub.store) op

          queue_is : n.hub.queue ≡ queue_moved ir i (queue_after q a op) a reply (slice_get q.atts a)
          queue_is = ap (λ (z : Hub). z.queue) hub ∙ queue ∙ ap (λ z. queue_operated ir i z a op) c.hub

          objects_are : objects_of n.hub.store ≡ objects_after flags (objects_of m.hub.store) op
          objects_are =
              ap (λ (z : Hub). objects_of z.store) hub ∙ objects ∙ ap (λ (z : Hub). objects_after flags (objects_of z.store) op) c.hub

          reply_won : won ≡ is_won reply
          reply_won = won_is ∙ ap (λ (z : Hub). is_won (reply_to flags (objects_of z.store) op)) c.hub

          pub carried_world : n.journal.items ≡ p.journal.items ++ entries_won won s.entry → n.marks ≡ p.marks + s.marks →
              world_of o n ≡ effect flags (codes_of o) (world_of o m) (Step a)
          carried_world journal marks =
              step_world o m n h a inv i ir r op d not_ack queue_is objects_are
              (journal ∙ ap (λ z. z ++ entries_won won s.entry) c.journal ∙ ap (λ z. m.journal.items ++ entries_won z s.entry) reply_won
              ∙ ap (λ z. m.journal.items ++ entries_won (is_won reply) z) made.entry_is)
              (marks ∙ ap (λ z. z + s.marks) c.marks ∙ ap (λ z. m.marks + z) made.marks_are)

          -- the numbers with that one put in or out, by whether it is to have a twin in the queue
          abbrev put_by : Hub → (inv : ℕ) → List ℕ → List ℕ
          put_by z k ns = numbers_set (state_lets (wants_twin o.plan z.queue.atts k) (slice_get z.queue.states k)) k ns

          pub carried_keeps : world_of o n ≡ effect flags (codes_of o) (world_of o m) (Step a) →
              n.stops.items ≡ stops_with p.stops.items a s.stop (phase_acts (slice_get x.queue.atts a)) →
              n.twins ≡ twins_with o.plan x.queue p.twins s.inv → messages_after op (length q.invs) ≤ p.twins.room → Keeps o n
          carried_keeps w stops twins room =
              step_keeps o m n h a inv i ir r op d not_ack queue_is (may_step o m n h a inv i ir r op d) w
              (stops ∙ ap (λ z. stops_with z a s.stop (phase_acts (slice_get x.queue.atts a))) c.stops
              ∙ ap (λ z. stops_with m.stops.items a z (phase_acts (slice_get x.queue.atts a))) made.stop_is
              ∙ ap (λ (z : Hub). stops_with m.stops.items a adopted (phase_acts (slice_get z.queue.atts a))) (sym hub))
              (ap (λ (z : NumberSet). z.numbers) twins ∙ ap (λ z. put_by z s.inv p.twins.numbers) (sym hub)
              ∙ ap (λ z. put_by n.hub z p.twins.numbers) made.inv_is
              ∙ ap (put_by n.hub (inv_of_op (length q.invs) inv op)) c.numbers)
              (subst (λ z. length n.hub.queue.invs ≤ z) (sym (ap (λ (z : NumberSet). z.room) twins))
              (subst (λ z. z ≤ p.twins.room) (sym (messages_are o m n h a inv i ir r op d not_ack queue_is)) room))
