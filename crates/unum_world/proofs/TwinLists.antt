-- The invocations that are to have a twin, after an event: they change at the event's own invocation.
use Rattle.std.proofs.Common.{ℕ, ◌≡◌, ◌≤◌, sym, ap, ◌∙◌, subst, Bool, true, length, slice_get}
use Rattle.world_types.specs.declared.queue.Event.{Event}
use Rattle.world_model.specs.AnyCode.Code.{flags}
use Rattle.world_model.specs.AnyCode.World.{enabled, effect, state_lets}
use Rattle.world_model.specs.Numbered.{Numbered}
use Rattle.world_plans.specs.Chooser.{wants_twin}
use Rattle.world_plans.specs.Three.{twin_numbers}
use Rattle.world_plans.specs.Changes.{numbers_set, inv_of, att_of, ChangesLists}
use Rattle.world_plans.proofs.Changing.{event_changes}
use Rattle.unum_world.specs.declared.opening.Opening.{Opening}
use Rattle.unum_world.specs.declared.world_state.WorldState.{WorldState}
use Rattle.unum_world.specs.Openings.{codes_of}
use Rattle.unum_world.specs.Traces.{world_of}
use Rattle.unum_world.specs.Kept.{HasTwins}

-- whether an invocation is to have a twin
abbrev pub wants : Opening → WorldState → (inv : ℕ) → Bool
wants o m inv = state_lets (wants_twin o.plan m.hub.queue.atts inv) (slice_get m.hub.queue.states inv)

-- the same in a world
abbrev wants_in : Opening → Numbered → (inv : ℕ) → Bool
wants_in o w inv = state_lets (wants_twin o.plan w.atts inv) (slice_get w.states inv)

pub twins_follow : (o : Opening) (m n : WorldState) (e : Event) (inv : ℕ) → HasTwins o m → enabled (codes_of o) (world_of o m) e ≡ true →
    world_of o n ≡ effect flags (codes_of o) (world_of o m) e → inv ≡ inv_of (codes_of o) (world_of o m) e →
    n.twins.numbers ≡ numbers_set (wants o n inv) inv m.twins.numbers → length n.hub.queue.invs ≤ n.twins.room → HasTwins o n
twins_follow o m n e inv h q r k s room =
    let w : Numbered = world_of o m in
    let v : Numbered = effect flags (codes_of o) w e in
    let C : ChangesLists o.plan (codes_of o) w v (inv_of (codes_of o) w e) (att_of (codes_of o) w e) = event_changes o.plan flags (codes_of o) w e q in
    record {
      numbers =
          s ∙ ap (λ z. numbers_set (wants_in o z inv) inv m.twins.numbers) r
          ∙ ap (λ z. numbers_set (wants_in o v z) z m.twins.numbers) k
          ∙ ap (numbers_set (wants_in o v (inv_of (codes_of o) w e)) (inv_of (codes_of o) w e)) h.numbers
          ∙ sym C.to_twin_is ∙ ap (λ z. twin_numbers o.plan (codes_of o) z) (sym r);
      room = room;
    }

-- where queue and twins stay, so do they
pub twins_stay : (o : Opening) (m n : WorldState) → HasTwins o m → world_of o n ≡ world_of o m → n.twins.numbers ≡ m.twins.numbers →
    length m.hub.queue.invs ≤ n.twins.room → HasTwins o n
twins_stay o m n h q t room = record {
  numbers = t ∙ h.numbers ∙ ap (λ z. twin_numbers o.plan (codes_of o) z) (sym q);
  room = subst (λ (z : Numbered). length z.invs ≤ n.twins.room) (sym q) room;
}
