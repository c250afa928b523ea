-- The event that is due, in the code's lists.
use Rattle.std.proofs.Common.{ℕ, ◌≡◌, refl, sym, ap, ◌∙◌, subst, true, false, slice_get, Option, Some, None, option_map}
use Rattle.std.specs.Option.{option_or}
use Rattle.asl_model.specs.Laws.{In}
use Rattle.world_types.specs.declared.queue.Event.{Event}
use Rattle.world_types.specs.declared.queue.Event.TheVariants.{Deliver, Answer}
use Rattle.world_model.specs.AnyCode.World.{lives}
use Rattle.world_plans.specs.Chooser.{allowed_events}
use Rattle.world_plans.specs.Three.{twin_numbers, move, rest}
use Rattle.invoke_queue.specs.Queue.{open_numbers}
use Rattle.unum_world.specs.declared.opening.Opening.{Opening}
use Rattle.unum_world.specs.declared.world_state.WorldState.{WorldState}
use Rattle.unum_world.specs.Openings.{codes_of}
use Rattle.unum_world.specs.Traces.{Trace, world_of, now}
use Rattle.unum_world.specs.Kept.{Holds}
use Rattle.unum_world.specs.Turns.{due_in, due_event, allowed, own_attempt, is_for}
use Rattle.unum_world.proofs.Dues.{found, answer_of, due_none, due_own, due_other, move_allowed, answer_allowed}

module _ (o : Opening) (m : WorldState) (h : Holds o m) where
  -- what is due without an attempt, by the heads of two lists
  heads : (x y : Option ℕ) → x ≡ slice_get m.twins.numbers 0 → y ≡ slice_get (open_numbers m.hub.queue.states) 0 →
      option_or (option_map Deliver x) (option_map (rest o.plan (codes_of o) (world_of o m)) y) ≡ due_in o.plan (codes_of o) (world_of o m) None
  heads x y a b =
      let t : x ≡ slice_get (twin_numbers o.plan (codes_of o) (world_of o m)) 0 = a ∙ ap (λ ns. slice_get ns 0) h.kept.twins.numbers in
      ap (λ z. option_or (option_map Deliver z) (option_map (rest o.plan (codes_of o) (world_of o m)) y)) t
      ∙ ap (λ z. option_or (option_map Deliver (slice_get (twin_numbers o.plan (codes_of o) (world_of o m)) 0)) (option_map (rest o.plan (codes_of o) (world_of o m)) z)) b
      ∙ sym (due_none o.plan (codes_of o) (world_of o m) h.running)

  -- the first twin is delivered,
  pub twin_due : (i : ℕ) → Some i ≡ slice_get m.twins.numbers 0 → Some (Deliver i) ≡ due_in o.plan (codes_of o) (world_of o m) None
  twin_due i a = heads (Some i) _ a refl

  -- or else the first open invocation makes its event,
  pub open_due : (k : ℕ) → None ≡ slice_get m.twins.numbers 0 → Some k ≡ slice_get (open_numbers m.hub.queue.states) 0 →
      Some (rest o.plan (codes_of o) (world_of o m) k) ≡ due_in o.plan (codes_of o) (world_of o m) None
  open_due k a b = heads None (Some k) a b

  -- or else nothing is due
  pub nothing_due : None ≡ slice_get m.twins.numbers 0 → None ≡ slice_get (open_numbers m.hub.queue.states) 0 → None ≡ due_in o.plan (codes_of o) (world_of o m) None
  nothing_due a b = heads None None a b

  -- a live attempt's own event is due,
  pub own_due : (a : ℕ) → lives (slice_get m.hub.queue.atts a) ≡ true → Some (move o.plan (codes_of o) (world_of o m) a) ≡ due_in o.plan (codes_of o) (world_of o m) (Some a)
  own_due a l = sym (due_own o.plan (codes_of o) (world_of o m) h.running a l)

  -- and that of none for an attempt that does not live
  pub other_due : (a : ℕ) → lives (slice_get m.hub.queue.atts a) ≡ false → due_in o.plan (codes_of o) (world_of o m) None ≡ due_in o.plan (codes_of o) (world_of o m) (Some a)
  other_due a l = sym (due_other o.plan (codes_of o) (world_of o m) h.running a l)

  -- the plan allows an Answer where the attempt lives and that is its event,
  pub allows_it : (a b : ℕ) → lives (slice_get m.hub.queue.atts a) ≡ true → move o.plan (codes_of o) (world_of o m) a ≡ Answer b →
      In (Answer a) (allowed_events o.plan (codes_of o) (world_of o m))
  allows_it a b l e =
      let same : b ≡ a = answer_of o.plan (codes_of o) (world_of o m) a b (sym e) in
      subst (λ z. In z (allowed_events o.plan (codes_of o) (world_of o m))) (e ∙ ap Answer same) (move_allowed o.plan (codes_of o) (world_of o m) h.running a l)

  -- and nowhere else
  pub allowed_lives : (a : ℕ) → In (Answer a) (allowed_events o.plan (codes_of o) (world_of o m)) → lives (slice_get m.hub.queue.atts a) ≡ true
  allowed_lives a i = (answer_allowed o.plan (codes_of o) (world_of o m) h.running a i).0

  pub allowed_moves : (a : ℕ) → In (Answer a) (allowed_events o.plan (codes_of o) (world_of o m)) → move o.plan (codes_of o) (world_of o m) a ≡ Answer a
  allowed_moves a i = (answer_allowed o.plan (codes_of o) (world_of o m) h.running a i).1

-- what is due is allowed
pub due_allowed : (p : Trace) (mine : Option ℕ) (e : Event) → due_event p mine ≡ Some e → In e (allowed p)
due_allowed p mine e q = (found (is_for (own_attempt (now p) mine)) (allowed p) e q).0
