-- Each run of a world that runs machines by functions' numbers is one of the world of machines.
use Rattle.std.proofs.Common.{ℕ, ◌≡◌, ◌<◌, sym, ap, ◌∙◌, subst, Bool, List, Some}
use Rattle.place_name.specs.declared.obj.Obj.TheVariants.{Out}
use Rattle.asl_model.specs.Data.{Outcome}
use Rattle.asl_model.specs.Machine.{Block}
use Rattle.asl_model.specs.Central.{Ended}
use Rattle.world_model.specs.AnyCode.Operations as operations
use Rattle.world_model.specs.AnyCode.Code.{flags, in_order}
use Rattle.world_model.specs.AnyCode.World as any_code
use Rattle.world_model.specs.AnyCode.World.{Codes}
use Rattle.world_model.specs.AnyCode.Maps.{AreFlagsOf, ConditionAlike, image}
use Rattle.world_model.specs.Sites.{Site}
use Rattle.world_model.specs.Operations.{root, Held, Condition, Absent, Live, Tombstone, KeptAs, OutcomeIs, SavedAs, BitsAre, ArgIs}
use Rattle.world_model.specs.Journals.{run_of}
use Rattle.world_model.specs.World.{Opening, World, Event, codes as machines, first, start, effect, enabled, run}
use Rattle.world_model.specs.Numbered.{Numbered, first_number, StandsFor, IsSoundWorld, EveryNumberedRunIsSound, EveryRunIsNumbered}
use Rattle.world_model.proofs.Flags.{flags_in_order}
use Rattle.world_model.proofs.Images as images
use Rattle.world_model.proofs.Every.{every_run_agrees}
use Rattle.world_model.proofs.Finishes.{every_run_takes_nothing_early}
use Rattle.world_model.proofs.Pace.{every_run_keeps_pace}
use Rattle.world_model.proofs.Asks.{every_call_is_one}
use Rattle.world_model.proofs.Inputs.{every_branch_has_input}
use Rattle.world_model.proofs.Alike.{every_run_ends_alike}
use Rattle.world_model.proofs.Quiets.{every_quiet_session_has_ended}
use Rattle.world_model.proofs.Drains.{every_drained_world_rests}

abbrev flags_condition : Type 0
flags_condition = operations.Condition (List Bool)

-- what is alike to an outcome is that outcome
out_is : (r : Outcome) (d : Condition) → ConditionAlike AreFlagsOf 0 (operations.Live (operations.OutcomeIs r)) d → d ≡ Live (OutcomeIs r)
out_is r (Live (OutcomeIs q)) p = ap (λ (z : Outcome). let h : Held = OutcomeIs z in Live h) (sym p)
out_is r (Live (KeptAs k)) p = absurd p
out_is r (Live (SavedAs n x u)) p = absurd p
out_is r (Live (BitsAre is)) p = absurd p
out_is r (Live (ArgIs x u)) p = absurd p
out_is r Absent p = absurd p
out_is r Tombstone p = absurd p

module _ (o : Opening) (codes : Codes ℕ) (sites : ℕ → ℕ → Site) (size : ℕ → ℕ) (stands : StandsFor o codes sites size) where
  -- a function of its session's machine
  abbrev pub good : ℕ → ℕ → Type 0
  good s f = f < size s

  abbrev pub Comes : World → Numbered → Type 0
  Comes v w = images.ComesTo Block ℕ Site (List Bool) (List ℕ) AreFlagsOf flags in_order flags_in_order sites good codes machines stands.maps v w

  -- the run of the same events in the world of machines
  pub machine_run : (events : List Event) (w : Numbered) → any_code.run flags codes first_number o events ≡ Some w → (v : World) × (run o events ≡ Some v) × Comes v w
  machine_run events w e = images.run_as Block ℕ Site (List Bool) (List ℕ) AreFlagsOf flags in_order flags_in_order sites good codes machines stands.maps first_number first o stands.begins events w e

  pub starts : Comes (start o) (any_code.start first_number o)
  starts = images.start_as Block ℕ Site (List Bool) (List ℕ) AreFlagsOf flags in_order flags_in_order sites good codes machines stands.maps first_number first o stands.begins

  pub enabled_same : (v : World) (w : Numbered) → Comes v w → (e : Event) → enabled v e ≡ any_code.enabled codes w e
  enabled_same v w c e =
      ap (λ (z : World). enabled z e) c.is
      ∙ images.enabled_as Block ℕ Site (List Bool) (List ℕ) AreFlagsOf flags in_order flags_in_order sites good codes machines stands.maps w c.objects c.alike c.goods e

  pub effect_same : (v : World) (w : Numbered) → Comes v w → (e : Event) → Comes (effect v e) (any_code.effect flags codes w e)
  effect_same v w c e =
      subst (λ (z : World). Comes (effect z e) (any_code.effect flags codes w e)) (sym c.is)
      (images.effect_as Block ℕ Site (List Bool) (List ℕ) AreFlagsOf flags in_order flags_in_order sites good codes machines stands.maps w c.objects c.alike c.goods e)

  sound_of : (events : List Event) (w : Numbered) (v : World) → run o events ≡ Some v → Comes v w → IsSoundWorld o codes sites events w
  sound_of events w v r c =
      let z : World = image sites w c.objects in
      let q : run o events ≡ Some z = r ∙ ap Some c.is in
      record {
        objects = c.objects;
        alike = c.alike;
        is_run = q;
        agrees = (every_run_agrees o events z q).1;
        ended = λ s x e.
            let there : c.objects (Out (root s)) ≡ Live (OutcomeIs x) = out_is x (c.objects (Out (root s))) (subst (λ (y : flags_condition). ConditionAlike AreFlagsOf 0 y (c.objects (Out (root s)))) e (c.alike (Out (root s)))) in
            let a = every_run_agrees o events z q in
            subst (λ (y : Opening). (run_of y w.journal s).end ≡ Ended x) a.0 (a.1.ended s x there);
        nothing_early = every_run_takes_nothing_early o events z q;
        keeps_pace = every_run_keeps_pace o events z q;
        calls = every_call_is_one o events z q;
        inputs = every_branch_has_input o events z q;
        ends = λ steady call answers s x e. every_run_ends_alike o events z q steady call answers s x e;
        quiet_ended = λ s x e. every_quiet_session_has_ended o events z q s x e;
        at_rest = λ f. every_drained_world_rests o events z q
            (λ e. ap (λ (y : World). enabled y e) (sym c.is) ∙ enabled_same v w c e ∙ f e);
      }

  sound : (events : List Event) (w : Numbered) → any_code.run flags codes first_number o events ≡ Some w → IsSoundWorld o codes sites events w
  sound events w e =
      let (v, r, c) = machine_run events w e in
      sound_of events w v r c

  numbered : (events : List Event) (v : World) → run o events ≡ Some v → (w : Numbered) × (any_code.run flags codes first_number o events ≡ Some w)
  numbered events v e =
      images.run_back Block ℕ Site (List Bool) (List ℕ) AreFlagsOf flags in_order flags_in_order sites good codes machines stands.maps first_number first o stands.begins events v e

pub every_run_is_numbered : EveryRunIsNumbered
every_run_is_numbered o codes sites size stands events v e = numbered o codes sites size stands events v e

pub every_numbered_run_is_sound : EveryNumberedRunIsSound
every_numbered_run_is_sound o codes sites size stands events w e = sound o codes sites size stands events w e
