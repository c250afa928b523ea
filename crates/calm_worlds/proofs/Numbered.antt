-- The laws of worlds of machines without mishaps, by numbers.
use Rattle.std.proofs.Common.{ℕ, ◌≡◌, refl, sym, ap, ◌∙◌, subst, List, [], ◌∷◌, map, slice_get, Some, option_map}
use Rattle.std.proofs.lemmas.Option.{slice_get-map}
use Rattle.world_model.specs.AnyCode.Code.{flags}
use Rattle.world_model.specs.AnyCode.World as any_code
use Rattle.world_model.specs.AnyCode.World.{Codes, Deliver, Crash, Step, Answer, GiveUp}
use Rattle.world_model.specs.AnyCode.Operations as operations
use Rattle.world_model.specs.AnyCode.Maps.{inv_as, image}
use Rattle.world_model.specs.Sites.{Site}
use Rattle.world_model.specs.World.{Opening, World, Event, effect, enabled, start, run}
use Rattle.world_model.specs.Numbered.{Numbered, first_number, StandsFor}
use Rattle.world_model.specs.Flat.{flat_codes, flat_sites, flat_size, block_of}
use Rattle.world_model.proofs.Numbers.{Comes, machine_run, starts, enabled_same, effect_same}
use Rattle.world_model.proofs.Flat.{stands}
use Rattle.world_plans.proofs.Alike.{obeys_as}
use Rattle.calm_worlds.specs.Calm.{IsCalm, StaysCalm, AreCalm, IsSingle}
use Rattle.calm_worlds.specs.Numbered.{IsCalmlySound, EveryCalmNumberedRunIsSound, EveryCalmFlatRunIsSound, EveryObeyingNumberedRunIsCalm}
use Rattle.calm_worlds.proofs.Good.{every_calm_world_is_single}
use Rattle.calm_worlds.proofs.Totals.{every_calm_world_costs}
use Rattle.calm_worlds.proofs.Ends.{every_calm_end_is_complete, every_calm_end_costs}
use Rattle.calm_worlds.proofs.Alones.{every_calm_end_is_sequential, every_calm_end_costs_alike}
use Rattle.calm_worlds.proofs.Grow.{every_calm_world_stays_within}
use Rattle.calm_worlds.proofs.Busy.{every_calm_world_goes_on}
use Rattle.calm_worlds.proofs.Plans.{every_obeying_run_is_calm}

module _ (o : Opening) (codes : Codes ℕ) (sites : ℕ → ℕ → Site) (size : ℕ → ℕ) (k : StandsFor o codes sites size) where
  abbrev Here : World → Numbered → Type 0
  Here v w = Comes o codes sites size k v w

  -- an event is a mishap in both or in none
  calm_there : (w : Numbered) (v : World) → Here v w → (e : Event) → IsCalm w e → IsCalm v e
  calm_there w v c (Deliver i) h = subst (λ (z : World). IsCalm z (Deliver i)) (sym c.is) h
  calm_there w v c (Crash a) h = h
  calm_there w v c (Step a) h = h
  calm_there w v c (Answer a) h = h
  calm_there w v c (GiveUp i) h = h

  calm_here : (w : Numbered) (v : World) → Here v w → (e : Event) → IsCalm v e → IsCalm w e
  calm_here w v c (Deliver i) h = subst (λ (z : World). IsCalm z (Deliver i)) c.is h
  calm_here w v c (Crash a) h = h
  calm_here w v c (Step a) h = h
  calm_here w v c (Answer a) h = h
  calm_here w v c (GiveUp i) h = h

  stays_there : (es : List Event) (w : Numbered) (v : World) → Here v w → StaysCalm flags codes w es → AreCalm v es
  stays_there [] w v c h = tt
  stays_there (e ∷ es) w v c (h, r) = (calm_there w v c e h, stays_there es (any_code.effect flags codes w e) (effect v e) (effect_same o codes sites size k v w c e) r)

  stays_here : (es : List Event) (w : Numbered) (v : World) → Here v w → AreCalm v es → StaysCalm flags codes w es
  stays_here [] w v c h = tt
  stays_here (e ∷ es) w v c (h, r) = (calm_here w v c e h, stays_here es (any_code.effect flags codes w e) (effect v e) (effect_same o codes sites size k v w c e) r)

  single_here : (w : Numbered) (v : World) → Here v w → IsSingle v → IsSingle w
  single_here w v c s =
      let z : IsSingle (image sites w c.objects) = subst (λ (z : World). IsSingle z) c.is s in
      record {
        invocations = λ m l i j e f q. z.invocations m l (inv_as sites i) (inv_as sites j) (there m i e) (there l j f) q;
        attempts = λ a b t u i j e f g h q. z.attempts a b t u (inv_as sites i) (inv_as sites j) e f (there t.inv i g) (there u.inv j h) q;
        alive = z.alive;
      }
    where
      there : (m : ℕ) (i : operations.Invocation ℕ) → slice_get w.invs m ≡ Some i → slice_get (map (inv_as sites) w.invs) m ≡ Some (inv_as sites i)
      there m i e = slice_get-map (inv_as sites) w.invs m ∙ ap (option_map (inv_as sites)) e

  module _ (es : List Event) (w : Numbered) (e : any_code.run flags codes first_number o es ≡ Some w) (h : StaysCalm flags codes (any_code.start first_number o) es) where
    sound_of : (v : World) → run o es ≡ Some v → Here v w → IsCalmlySound o codes sites es w
    sound_of v r c =
        let z : World = image sites w c.objects in
        let q : run o es ≡ Some z = r ∙ ap Some c.is in
        let d : Here z w = record { objects = c.objects; alike = c.alike; goods = c.goods; is = refl } in
        let calm : AreCalm (start o) es = stays_there es (any_code.start first_number o) (start o) (starts o codes sites size k) h in
        let same : (x : Event) → enabled z x ≡ any_code.enabled codes w x = enabled_same o codes sites size k z w d in
        record {
          objects = c.objects;
          alike = c.alike;
          is_run = q;
          calm = calm;
          single = single_here w z d (every_calm_world_is_single o es z q calm);
          within = λ f. every_calm_world_costs o es z q calm f;
          complete = λ n. every_calm_end_is_complete o es z q calm (λ x. same x ∙ n x);
          exact = λ n. every_calm_end_costs o es z q calm (λ x. same x ∙ n x);
          sequential = λ n steady call answers. every_calm_end_is_sequential o es z q calm (λ x. same x ∙ n x) steady call answers;
          exact_alone = λ n steady call answers. every_calm_end_costs_alike o es z q calm (λ x. same x ∙ n x) steady call answers;
          stays_within = λ f steady call answers.
              let b = every_calm_world_stays_within o es z q calm f steady call answers in
              record { events_within = b.events_within; marks_within = b.marks_within; room = λ x y. b.room x (same x ∙ y) };
          goes_on = λ x y. let (a, b, g) = every_calm_world_goes_on o es z q calm x (same x ∙ y) in (a, sym (same a) ∙ b, calm_here w z d a g);
        }

    sound : IsCalmlySound o codes sites es w
    sound = let (v, r, c) = machine_run o codes sites size k es w e in sound_of v r c

pub every_calm_numbered_run_is_sound : EveryCalmNumberedRunIsSound
every_calm_numbered_run_is_sound o codes sites size k es w e h = sound o codes sites size k es w e h

pub every_calm_flat_run_is_sound : EveryCalmFlatRunIsSound
every_calm_flat_run_is_sound o es w e h = sound o (flat_codes o) (flat_sites o) (λ s. flat_size (block_of o s)) (stands o) es w e h

pub every_obeying_numbered_run_is_calm : EveryObeyingNumberedRunIsCalm
every_obeying_numbered_run_is_calm p h o codes sites size k es w e i =
    let c : Comes o codes sites size k (start o) (any_code.start first_number o) = starts o codes sites size k in
    let (v, r, d) = machine_run o codes sites size k es w e in
    stays_here o codes sites size k es (any_code.start first_number o) (start o) c (every_obeying_run_is_calm p h o es v r (obeys_as o codes sites size k p es (start o) (any_code.start first_number o) c i))
