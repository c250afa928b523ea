-- Worlds that run flat forms.
use Rattle.std.proofs.Common.{◌≡◌, ℕ, ◌<◌, Option, Some, None, slice_get, refl, ◌∙◌, ap, arith}
use Rattle.std.proofs.lemmas.Option.{same_Some}
use Rattle.asl_model.specs.Walked.{HasRisingNames}
use Rattle.asl_model.specs.Valid.{IsValid}
use Rattle.world_model.specs.AnyCode.Maps.{Maps}
use Rattle.world_model.specs.Sites.{machine_code}
use Rattle.world_model.specs.World.{Session, Opening, first}
use Rattle.world_model.specs.Numbered.{StandsFor}
use Rattle.world_model.specs.Flat.{block_at, flat_site, flat_sites}
use Rattle.world_model.proofs.Flat.{first_is}
use Rattle.world_model.proofs.Numbers.{every_numbered_run_is_sound, every_run_is_numbered}
use Rattle.continuation_gen.specs.Numbering.{flat_form}
use Rattle.continuation_gen.specs.Coded.{code_of_ir}
use Rattle.continuation_gen.specs.Laws.{ir_size, ir_codes, AreValid, EveryIrRunIsSound, EveryRunIsOfIr}
use Rattle.continuation_gen.proofs.Sites.{same_size}
use Rattle.continuation_gen.proofs.Maps.{ir_maps}

-- a session that is not there has no function
abbrev pub size_at : Option Session → ℕ
size_at None = 0
size_at (Some x) = ir_size x.machine

maps_at : (z : Option Session) → ((x : Session) → z ≡ Some x → IsValid x.machine × HasRisingNames x.machine) → Maps (λ f. f < size_at z) (code_of_ir (flat_form (block_at z))) machine_code (flat_site (block_at z))
maps_at (Some x) h = let (v, r) = h x refl in ir_maps x.machine v r
maps_at None h = record {
  after = λ f l hop raw used o. absurd (omega arith);
  call_of = λ f l raw. absurd (omega arith);
  join_around = λ f l. absurd (omega arith);
  enter_of = λ f l. absurd (omega arith);
  width = λ f l. absurd (omega arith);
  input_of = λ f l index raw. absurd (omega arith);
  combine = λ f l outs. absurd (omega arith);
  leads = λ f l hop raw used o. absurd (omega arith);
  around = λ f j l e. absurd (omega arith);
  enters = λ f l. absurd (omega arith);
}

begins_at : (z : Option Session) (x : Session) → z ≡ Some x → (0 < size_at z) × (flat_site (block_at z) 0 ≡ first x.machine)
begins_at None x e = absurd (cc)
begins_at (Some y) x e =
    let (l, h) = first_is y.machine in
    let k = same_size y.machine in
    (omega (arith, l, k), h ∙ ap (λ (v : Session). first v.machine) (same_Some y x e))

abbrev pub sizes : Opening → ℕ → ℕ
sizes o s = size_at (slice_get o.sessions s)

pub stands : (o : Opening) → AreValid o → StandsFor o (ir_codes o) (flat_sites o) (sizes o)
stands o h = record { maps = λ s. maps_at (slice_get o.sessions s) (h s); begins = λ s x q. begins_at (slice_get o.sessions s) x q }

pub every_ir_run_is_sound : EveryIrRunIsSound
every_ir_run_is_sound o h events w e = every_numbered_run_is_sound o (ir_codes o) (flat_sites o) (sizes o) (stands o h) events w e

pub every_run_is_of_ir : EveryRunIsOfIr
every_run_is_of_ir o h events v e = every_run_is_numbered o (ir_codes o) (flat_sites o) (sizes o) (stands o h) events v e
