-- Deliveries, crashes and giving up: the world after them, and what stays kept beside it.
use Rattle.std.proofs.Common.{ℕ, ◌≡◌, ◌≤◌, refl, sym, ap, ◌∙◌, arith, true, [], ◌∷◌, ◌++◌, length, slice_get, slice_set, Some, None, Result, Ok, Err, is_err}
use Rattle.world_model.specs.AnyCode.Code.{flags}
use Rattle.world_model.specs.AnyCode.Operations.{Invocation}
use Rattle.world_model.specs.AnyCode.World.{Deliver, Crash, GiveUp, state_after_crash, enabled, effect}
use Rattle.world_plans.specs.Chooser.{can_deliver}
use Rattle.world_plans.specs.Changes.{numbers_set, inv_at}
use Rattle.checkpoint_store.specs.Entries.{objects_of}
use Rattle.invoke_queue.specs.Numbers.{NumberSet}
use Rattle.invoke_queue.specs.Queue.{Lists, with_delivery, with_end, with_giving_up, first_attempt, attempt_after_end}
use Rattle.unum_world.specs.declared.opening.Opening.{Opening}
use Rattle.unum_world.specs.declared.world_state.WorldState.{WorldState}
use Rattle.unum_world.specs.Openings.{opening_as, codes_of}
use Rattle.unum_world.specs.Traces.{world_of}
use Rattle.unum_world.specs.Kept.{Keeps, Holds}
use Rattle.unum_world.specs.Instances.{IsMessageOf}
use Rattle.unum_world.proofs.Parts.{world_from, with_queue, deliver_is, crash_is, give_up_is}
use Rattle.unum_world.proofs.StopLists.{stops_push, stops_end}
use Rattle.unum_world.proofs.TwinLists.{wants, twins_follow}
use Rattle.unum_world.proofs.Givens.{some_state, delivers}
use Rattle.unum_world.proofs.Keeps.{are_stops, has_stops}

-- an error that there is
pub err_is : {A E : Type 0} (r : Result A E) → is_err r ≡ true → (e : E) × (r ≡ Err e)
err_is (Ok x) h = absurd (cc)
err_is (Err e) h = (e, refl)

module _ (o : Opening) (m n : WorldState) where
  -- the world with another queue
  pub from_queue : (q : Lists) → n.hub.store ≡ m.hub.store → n.hub.queue ≡ q → n.journal.items ≡ m.journal.items → n.marks ≡ m.marks →
      world_of o n ≡ with_queue (world_of o m) q
  from_queue q a b c d =
      ap (λ z. world_from (opening_as o) (objects_of z) n.hub.queue n.journal.items n.marks) a
      ∙ ap (λ z. world_from (opening_as o) (objects_of m.hub.store) z n.journal.items n.marks) b
      ∙ ap (λ z. world_from (opening_as o) (objects_of m.hub.store) q z n.marks) c
      ∙ ap (λ z. world_from (opening_as o) (objects_of m.hub.store) q m.journal.items z) d

  pub deliver_world : (inv : ℕ) → n.hub.store ≡ m.hub.store → n.hub.queue ≡ with_delivery m.hub.queue inv (slice_get m.hub.queue.states inv) →
      n.journal.items ≡ m.journal.items → n.marks ≡ m.marks → world_of o n ≡ effect flags (codes_of o) (world_of o m) (Deliver inv)
  deliver_world inv a b c d = from_queue _ a b c d ∙ deliver_is (codes_of o) (world_of o m) inv

  pub crash_world : (a : ℕ) → n.hub.store ≡ m.hub.store → n.hub.queue ≡ with_end m.hub.queue a state_after_crash (slice_get m.hub.queue.atts a) →
      n.journal.items ≡ m.journal.items → n.marks ≡ m.marks → world_of o n ≡ effect flags (codes_of o) (world_of o m) (Crash a)
  crash_world a s b c d = from_queue _ s b c d ∙ crash_is (codes_of o) (world_of o m) a

  pub give_up_world : (inv : ℕ) → n.hub.store ≡ m.hub.store → n.hub.queue ≡ with_giving_up m.hub.queue inv → n.journal.items ≡ m.journal.items →
      n.marks ≡ m.marks → world_of o n ≡ effect flags (codes_of o) (world_of o m) (GiveUp inv)
  give_up_world inv a b c d = from_queue _ a b c d ∙ give_up_is (codes_of o) (world_of o m) inv

  -- the twins that `put_twin` leaves
  abbrev pub ArePut : (inv : ℕ) → Type 0
  ArePut inv = n.twins ≡ record m.twins { numbers = numbers_set (wants o n inv) inv m.twins.numbers }

  -- there is room as before, where no message is new
  pub room_stays : (inv : ℕ) → Holds o m → ArePut inv → n.hub.queue.invs ≡ m.hub.queue.invs → length n.hub.queue.invs ≤ n.twins.room
  room_stays inv h t e =
      let a : length m.hub.queue.invs ≤ m.twins.room = h.kept.twins.room in
      let b : length n.hub.queue.invs ≡ length m.hub.queue.invs = ap length e in
      let c : n.twins.room ≡ m.twins.room = ap (λ (x : NumberSet). x.room) t in
      omega arith

  pub deliver_keeps : (inv : ℕ) → Holds o m → enabled (codes_of o) (world_of o m) (Deliver inv) ≡ true →
      world_of o n ≡ effect flags (codes_of o) (world_of o m) (Deliver inv) →
      n.hub.queue ≡ with_delivery m.hub.queue inv (slice_get m.hub.queue.states inv) → n.stops.items ≡ m.stops.items ++ None ∷ [] → ArePut inv →
      Keeps o n
  deliver_keeps inv h e r b c t =
      let (s, g, l) = some_state can_deliver (slice_get m.hub.queue.states inv) (delivers o m h inv e) in
      let d : n.hub.queue ≡ with_delivery m.hub.queue inv (Some s) = b ∙ ap (with_delivery m.hub.queue inv) g in
      let i : n.hub.queue.invs ≡ m.hub.queue.invs = ap (λ (x : Lists). x.invs) d in
      record {
        stops =
            has_stops o n m.hub.queue.invs (m.hub.queue.atts ++ first_attempt inv ∷ []) (m.stops.items ++ None ∷ [])
            (stops_push (codes_of o) m.hub.queue.invs m.hub.queue.atts m.stops.items (are_stops o m h.kept.stops) (first_attempt inv) refl)
            i (ap (λ (x : Lists). x.atts) d) c;
        twins = twins_follow o m n (Deliver inv) inv h.kept.twins e r refl (ap (λ (x : NumberSet). x.numbers) t) (room_stays inv h t i);
      }

  pub crash_keeps : (a inv : ℕ) (i : Invocation ℕ) → Holds o m → enabled (codes_of o) (world_of o m) (Crash a) ≡ true → IsMessageOf m.hub.queue a inv i →
      world_of o n ≡ effect flags (codes_of o) (world_of o m) (Crash a) →
      n.hub.queue ≡ with_end m.hub.queue a state_after_crash (slice_get m.hub.queue.atts a) → n.stops.items ≡ slice_set m.stops.items a None →
      ArePut inv → Keeps o n
  crash_keeps a inv i h e k r b c t =
      let d : n.hub.queue ≡ with_end m.hub.queue a state_after_crash (Some k.att) = b ∙ ap (with_end m.hub.queue a state_after_crash) k.placed.attempt_is in
      let j : n.hub.queue.invs ≡ m.hub.queue.invs = ap (λ (x : Lists). x.invs) d in
      record {
        stops =
            has_stops o n m.hub.queue.invs (slice_set m.hub.queue.atts a (attempt_after_end k.att)) (slice_set m.stops.items a None)
            (stops_end (codes_of o) m.hub.queue.invs m.hub.queue.atts m.stops.items (are_stops o m h.kept.stops) a (attempt_after_end k.att) refl)
            j (ap (λ (x : Lists). x.atts) d) c;
        twins =
            twins_follow o m n (Crash a) inv h.kept.twins e r
            (k.inv_is ∙ ap (inv_at (codes_of o) (world_of o m)) (sym k.placed.attempt_is))
            (ap (λ (x : NumberSet). x.numbers) t) (room_stays inv h t j);
      }

  pub give_up_keeps : (inv : ℕ) → Holds o m → enabled (codes_of o) (world_of o m) (GiveUp inv) ≡ true →
      world_of o n ≡ effect flags (codes_of o) (world_of o m) (GiveUp inv) → n.hub.queue ≡ with_giving_up m.hub.queue inv →
      n.stops.items ≡ m.stops.items → ArePut inv → Keeps o n
  give_up_keeps inv h e r b c t =
      let j : n.hub.queue.invs ≡ m.hub.queue.invs = ap (λ (x : Lists). x.invs) b in
      record {
        stops =
            has_stops o n m.hub.queue.invs m.hub.queue.atts m.stops.items (are_stops o m h.kept.stops) j (ap (λ (x : Lists). x.atts) b) c;
        twins = twins_follow o m n (GiveUp inv) inv h.kept.twins e r refl (ap (λ (x : NumberSet). x.numbers) t) (room_stays inv h t j);
      }
