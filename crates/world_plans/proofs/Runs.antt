-- Worlds that run other code by numbers are running too.
use Rattle.std.proofs.Common.{ℕ, inl, inr, sym, ap, ◌∙◌, subst}
use Rattle.world_model.specs.AnyCode.Maps.{image}
use Rattle.world_model.specs.AnyCode.World as any_code
use Rattle.world_model.specs.AnyCode.World.{Codes, Step, Answer}
use Rattle.world_model.specs.Sites.{Site}
use Rattle.world_model.specs.World.{Opening, World, codes as machines}
use Rattle.world_model.specs.Numbered.{Numbered, StandsFor}
use Rattle.world_model.specs.Flat.{flat_codes, flat_sites, flat_size, block_of}
use Rattle.world_model.proofs.Numbers.{Comes, machine_run, enabled_same}
use Rattle.world_model.proofs.Flat.{stands}
use Rattle.world_plans.specs.Three.{IsRunning}
use Rattle.world_plans.specs.Running.{EveryNumberedWorldRuns, EveryFlatWorldRuns}
use Rattle.world_plans.proofs.Busy.{every_machine_world_runs}

pub running_as : (o : Opening) (codes : Codes ℕ) (sites : ℕ → ℕ → Site) (size : ℕ → ℕ) (k : StandsFor o codes sites size) (v : World) (w : Numbered) → Comes o codes sites size k v w → IsRunning machines v → IsRunning codes w
running_as o codes sites size k v w c R =
    let z : World = image sites w c.objects in
    let Q : IsRunning machines z = subst (IsRunning machines) c.is R in
    record {
      counted = Q.counted;
      goes_on = λ a t e l. elim (Q.goes_on a t e l) [
        | inl q ↦ inl (sym (ap (λ (y : World). any_code.enabled machines y (Step a)) (sym c.is) ∙ enabled_same o codes sites size k v w c (Step a)) ∙ q)
        | inr q ↦ inr (sym (ap (λ (y : World). any_code.enabled machines y (Answer a)) (sym c.is) ∙ enabled_same o codes sites size k v w c (Answer a)) ∙ q)
      ];
    }

pub every_numbered_world_runs : EveryNumberedWorldRuns
every_numbered_world_runs o codes sites size k es w e =
    let (v, r, c) = machine_run o codes sites size k es w e in
    running_as o codes sites size k v w c (every_machine_world_runs o es v r)

pub every_flat_world_runs : EveryFlatWorldRuns
every_flat_world_runs o es w e = every_numbered_world_runs o (flat_codes o) (flat_sites o) (λ s. flat_size (block_of o s)) (stands o) es w e
