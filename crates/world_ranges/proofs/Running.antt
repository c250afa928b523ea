-- Worlds that run the flat forms of valid machines are in range.
use Rattle.std.proofs.Common.{◌≡◌, ℕ, zero, suc, ◌<◌, List, [], ◌∷◌, Option, Some, length, slice_get, refl, sym, subst, arith}
use Rattle.std.proofs.lemmas.Option.{slice_get_within}
use Rattle.asl_model.specs.Machine.{Block}
use Rattle.place_name.specs.declared.kind.Kind.TheVariants as kinds
use Rattle.unum_ir.specs.WellFormed.{IsWellFormed}
use Rattle.world_model.specs.World.{Session, Opening}
use Rattle.world_model.specs.Flat.{block_at, block_of}
use Rattle.world_model.specs.Numbered.{first_number}
use Rattle.continuation_gen.specs.Numbering.{flat_form}
use Rattle.continuation_gen.specs.Laws.{ir_codes, AreValid}
use Rattle.continuation_gen.proofs.Formed.{form_is_well_formed}
use Rattle.world_ranges.specs.Roles.{IsSite}
use Rattle.world_ranges.specs.Ranges.{IsInRange}
use Rattle.world_ranges.specs.Worlds.{AllStay}
use Rattle.world_ranges.specs.Flat.{ir_roles, EverySiteIsFunction, EveryOpeningIsInRange, EveryIrRunIsInRange}
use Rattle.world_ranges.proofs.Tables.{role_back}
use Rattle.world_ranges.proofs.Fans.{first_round}
use Rattle.world_ranges.proofs.Walks.{form_stays}
use Rattle.world_ranges.proofs.Events.{every_instance_does_few, every_next_is_in_range, every_run_is_in_range}

module _ (o : Opening) (valid : AreValid o) where
  well_formed : (s : ℕ) (x : Session) → slice_get o.sessions s ≡ Some x → IsWellFormed (flat_form (block_of o s))
  well_formed s x e =
      let (v, r) = valid s x e in
      subst (λ (z : Option Session). IsWellFormed (flat_form (block_at z))) (sym e) (form_is_well_formed x.machine v r)

  has_item : (xs : List Session) (i : ℕ) → i < length xs → (x : Session) × (slice_get xs i ≡ Some x)
  has_item [] i l = absurd (omega arith)
  has_item (y ∷ xs) zero l = (y, refl)
  has_item (y ∷ xs) (suc i) l = has_item xs i (omega arith)

  formed : (s : ℕ) → s < length o.sessions → IsWellFormed (flat_form (block_of o s))
  formed s l = let (x, e) = has_item o.sessions s l in well_formed s x e

  pub all_stay : AllStay (length o.sessions) (ir_roles o) (ir_codes o)
  all_stay s l = form_stays (flat_form (block_of o s)) (formed s l)

  -- function 0 is an Enter with no fan round it
  pub begins : (s : ℕ) → s < length o.sessions → IsSite (ir_roles o s) 0 kinds.Enter 0
  begins s l = first_round (flat_form (block_of o s)) (formed s l)

pub every_site_is_function : EverySiteIsFunction
every_site_is_function o i h =
    let (x, there, r, m) = role_back (flat_form (block_of o i.name.place.session)) i.site i.name.kind (length i.name.place.trail) h.site in
    record { func = x; found = there; kind = sym r; fans = sym m }

pub every_opening_is_in_range : EveryOpeningIsInRange
every_opening_is_in_range o valid few = (all_stay o valid, record { few = few; begins = λ s x q. begins o valid s (slice_get_within o.sessions s x q) })

pub every_ir_run_is_in_range : EveryIrRunIsInRange
every_ir_run_is_in_range o valid few events w e =
    let (stays, opens) = every_opening_is_in_range o valid few in
    let k : IsInRange (length o.sessions) (ir_roles o) (ir_codes o) w = every_run_is_in_range Block ℕ (ir_roles o) (ir_codes o) first_number o stays opens events w e in
    record {
      world = k;
      functions = λ n i q. every_site_is_function o i (k.invs n i q);
      few = λ n i q. every_instance_does_few ℕ (length o.sessions) (ir_roles o) (ir_codes o) stays i (k.invs n i q);
      nexts = λ a t i q p. every_next_is_in_range Block ℕ (length o.sessions) (ir_roles o) (ir_codes o) stays w k a t q i p;
    }
