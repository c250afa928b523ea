-- Attempts of worlds that run flat forms are ready.
use Rattle.std.proofs.Common.{◌≡◌, ℕ, zero, suc, ◌<◌, Bool, List, [], ◌∷◌, Option, Some, length, slice_get, refl, sym, ap, ◌∙◌, subst}
use Rattle.std.proofs.Common.{option_map, arith}
use Rattle.std.proofs.lemmas.Option.{same_Some, slice_get-map, slice_get_within}
use Rattle.std.specs.Prelude.{IsSome}
use Rattle.world_model.specs.AnyCode.Code.{Json, Used}
use Rattle.world_model.specs.AnyCode.Operations.{Invocation, Op, Look, Create, Set, Invoke, Mark, Ack}
use Rattle.world_model.specs.AnyCode.Program.{Calling}
use Rattle.world_model.specs.AnyCode.Maps.{Maps, inv_as}
use Rattle.world_model.specs.AnyCode.World.{code_of}
use Rattle.world_model.specs.Sites.{machine_code}
use Rattle.world_model.specs.World.{Session, Opening}
use Rattle.world_model.specs.Flat.{block_at, block_of, flat_site, flat_sites}
use Rattle.continuation_gen.specs.Numbering.{flat_form}
use Rattle.continuation_gen.specs.Coded.{code_of_ir}
use Rattle.continuation_gen.specs.Laws.{ir_size, ir_codes, AreValid}
use Rattle.continuation_gen.proofs.Maps.{ir_maps}
use Rattle.continuation_gen.proofs.Running.{every_ir_run_is_sound}
use Rattle.world_ranges.specs.Roles.{Role}
use Rattle.world_ranges.specs.Ranges.{IsOperation, IsPhase, IsAttempt}
use Rattle.world_ranges.proofs.Running.{every_ir_run_is_in_range}
use Rattle.fn_wrapper.specs.Ready.{IsNamed}
use Rattle.fn_wrapper.specs.Laws.{EveryAttemptIsReady}

-- what is in range has its names in range
named : (sessions : ℕ) (roles : (session func : ℕ) → Option Role) (op : Op ℕ (List Bool)) → IsOperation sessions roles op → IsNamed op
named sessions roles (Look o) h = h
named sessions roles (Create o x) h = h
named sessions roles (Set p index count) h = h
named sessions roles (Invoke i) h = h.name
named sessions roles (Mark o) h = h
named sessions roles Ack h = tt

has_item : (xs : List Session) (k : ℕ) → k < length xs → (x : Session) × (slice_get xs k ≡ Some x)
has_item [] k l = absurd (omega arith)
has_item (y ∷ xs) zero l = (y, refl)
has_item (y ∷ xs) (suc k) l = has_item xs k (omega arith)

pub some_is : {A : Type 0} (z : Option A) (x : A) → z ≡ Some x → IsSome z
some_is z x e = subst IsSome (sym e) refl

-- the flat form of a session that is there does what its machine does
pub maps_in : (o : Opening) → AreValid o → (s : ℕ) → s < length o.sessions →
    Maps (λ f. f < ir_size (block_of o s)) (code_of_ir (flat_form (block_of o s))) machine_code (flat_site (block_of o s))
maps_in o valid s l =
    let (x, e) = has_item o.sessions s l in
    let (v, r) = valid s x e in
    let P : Option Session → Type 0 =
    λ z. Maps (λ f. f < ir_size (block_at z)) (code_of_ir (flat_form (block_at z))) machine_code (flat_site (block_at z)) in
    subst P (sym e) (ir_maps x.machine v r)

pub every_attempt_is_ready : EveryAttemptIsReady
every_attempt_is_ready o valid few events w e a t i there found =
    let k = every_ir_run_is_in_range o valid few events w e in
    let v = k.world.invs t.inv i found in
    let f = k.functions t.inv i found in
    let p : IsAttempt (ir_codes o) w.invs t = k.world.atts a t there in
    record {
      next = λ op n. named _ _ op (k.nexts a t i there found op n);
      few = k.few t.inv i found;
      room = v.room;
      phase = subst (λ (z : Invocation ℕ). IsPhase (code_of (ir_codes o) z) z t.phase) (same_Some p.i i (sym p.there ∙ found)) p.phase;
      calls = λ raw used q. called v.session (slice_get_within _ i.site f.func f.found) raw used q;
    }
  where
    called : i.name.place.session < length o.sessions → i.site < ir_size (block_of o i.name.place.session) → (raw : Json) (used : Used) →
        t.phase ≡ Calling raw used →
        IsSome ((code_of (ir_codes o) i).call_of i.site raw)
    called l good raw used q =
        let (c, call) = (every_ir_run_is_sound o valid events w e).calls a (inv_as (flat_sites o) i) raw used (record {
          attempt = t;
          attempt_is = there;
          invocation_is = slice_get-map (inv_as (flat_sites o)) w.invs t.inv ∙ ap (option_map (inv_as (flat_sites o))) found;
          phase_is = q;
        }) in
        let same = (maps_in o valid i.name.place.session l).call_of i.site good raw in
        some_is ((code_of (ir_codes o) i).call_of i.site raw) c (sym same ∙ call)
