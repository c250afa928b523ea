-- What stays kept beside a world after each event.
use Rattle.std.proofs.Common.{ℕ, ◌≡◌, ◌⊎◌, sym, ap, ◌∙◌, subst, inl, inr, List, length, slice_get, Option, Some, None, option_map}
use Rattle.unum_ir.specs.declared.ir.Ir.{Ir}
use Rattle.place_name.specs.declared.obj.Obj.TheVariants.{Check}
use Rattle.world_types.specs.declared.queue.Attempt.{Attempt}
use Rattle.world_model.specs.AnyCode.Code.{Stop, flags}
use Rattle.world_model.specs.AnyCode.Operations.{Kept, Invocation}
use Rattle.world_model.specs.AnyCode.Acts.{stop_of}
use Rattle.world_model.specs.AnyCode.Program.{Acting, Do, next_of, absorb}
use Rattle.world_model.specs.AnyCode.World.{code_of, reply_to}
use Rattle.continuation_gen.specs.Coded.{code_of_ir}
use Rattle.checkpoint_store.specs.Entries.{objects_of}
use Rattle.unum_hub.specs.Holding.{NumberedOp}
use Rattle.fn_wrapper.specs.Ready.{IsStopOf}
use Rattle.unum_world.specs.declared.opening.Opening.{Opening}
use Rattle.unum_world.specs.declared.world_state.WorldState.{WorldState}
use Rattle.unum_world.specs.Openings.{codes_of}
use Rattle.unum_world.specs.OneStep.{adopted_kept}
use Rattle.unum_world.specs.Kept.{HasStops, Holds, stop_in}
use Rattle.unum_world.specs.Instances.{Runs, doing_at, adopted_stop}
use Rattle.unum_world.proofs.StopLists.{AreStops}
use Rattle.unum_world.proofs.Adopting.{acting_is}

-- the stops of a world, as lists
pub are_stops : (o : Opening) (m : WorldState) → HasStops o m → AreStops (codes_of o) m.hub.queue.invs m.hub.queue.atts m.stops.items
are_stops o m h = record { places = h.places; stops_are = h.stops }

-- and back, after an event
pub has_stops : (o : Opening) (n : WorldState) (invs : List (Invocation ℕ)) (atts : List Attempt) (stops : List (Option (Stop ℕ))) →
    AreStops (codes_of o) invs atts stops → n.hub.queue.invs ≡ invs → n.hub.queue.atts ≡ atts → n.stops.items ≡ stops → HasStops o n
has_stops o n invs atts stops h a b c = record {
  places = ap length c ∙ h.places ∙ sym (ap length b);
  stops = λ k t i e l g.
      subst (λ z. IsStopOf (code_of (codes_of o) i) i t.phase (stop_in (slice_get z k))) (sym c)
      (h.stops_are k t i (sym (ap (λ z. slice_get z k) b) ∙ e) l (sym (ap (λ z. slice_get z t.inv) a) ∙ g));
}

-- After a step an attempt acts by the checkpoint that it adopted, whose stop was found, or by its own as before.
pub step_stops : (o : Opening) (m : WorldState) (h : Holds o m) (a inv : ℕ) (i : Invocation ℕ) (ir : Ir) (r : Runs o m a inv i ir) (op : NumberedOp)
    (k : Kept) (l : ℕ) → doing_at ir i (slice_get m.hub.queue.atts a) ≡ Do op →
    absorb (code_of_ir ir) i a r.att.phase (reply_to flags (objects_of m.hub.store) op) ≡ Acting k l →
    (adopted_stop ir i m (slice_get m.hub.queue.atts a) ≡ Some (stop_of (code_of (codes_of o) i) i k))
    ⊎ ((n : ℕ) × (r.att.phase ≡ Acting k n) × (adopted_stop ir i m (slice_get m.hub.queue.atts a) ≡ None))
step_stops o m h a inv i ir r op k l d e = elim (acting_is (code_of_ir ir) i a r.att.phase (objects_of m.hub.store) op k l next e) [
  | inl p ↦
      inl (ap (adopted_stop ir i m) r.placed.attempt_is ∙ ap (option_map (stop_of (code_of_ir ir) i)) p
      ∙ ap (λ z. Some (stop_of (code_of_ir z) i k)) r.form)
  | inr p ↦
      inr (
        p.0,
        p.1,
        ap (adopted_stop ir i m) r.placed.attempt_is
            ∙ ap (λ z. option_map (stop_of (code_of_ir ir) i) (adopted_kept z (objects_of m.hub.store (Check i.name)))) p.1,
      )
]
  where
    next : next_of (code_of_ir ir) i r.att.phase ≡ Do op
    next = ap (doing_at ir i) (sym r.placed.attempt_is) ∙ d
