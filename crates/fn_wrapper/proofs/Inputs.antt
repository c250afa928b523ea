-- In worlds that run flat forms, what a fan saved gives each of its branches an input.
use Rattle.std.proofs.Common.{◌≡◌, ℕ, ◌<◌, Bool, List, Some, sym, ap, ◌∙◌, subst, option_map}
use Rattle.std.proofs.lemmas.Option.{slice_get-map, slice_get_within}
use Rattle.place_name.specs.declared.obj.Obj.TheVariants.{Saved}
use Rattle.world_model.specs.AnyCode.Code.{Json, Used, Code}
use Rattle.world_model.specs.AnyCode.Operations as operations
use Rattle.world_model.specs.AnyCode.Program.{branch_input}
use Rattle.world_model.specs.AnyCode.Maps.{AreFlagsOf, ConditionAlike, inv_as}
use Rattle.world_model.specs.AnyCode.World.{code_of}
use Rattle.world_model.specs.Operations.{Condition, Absent, Live, Tombstone, KeptAs, OutcomeIs, SavedAs, BitsAre, ArgIs}
use Rattle.world_model.specs.Sites.{machine_code}
use Rattle.world_model.specs.Flat.{block_of, flat_site, flat_sites}
use Rattle.world_model.proofs.Mapping.{same_input}
use Rattle.continuation_gen.specs.Laws.{ir_size, ir_codes}
use Rattle.continuation_gen.proofs.Running.{every_ir_run_is_sound}
use Rattle.world_ranges.proofs.Running.{every_ir_run_is_in_range}
use Rattle.fn_wrapper.specs.Ready.{input_by}
use Rattle.fn_wrapper.specs.Laws.{EveryBranchHasInput}
use Rattle.fn_wrapper.proofs.Given.{some_is, maps_in}

abbrev flags_condition : Type 0
flags_condition = operations.Condition (List Bool)

-- what is alike to what a fan saved is that
saved_is : (count : ℕ) (raw : Json) (used : Used) (d : Condition) → ConditionAlike AreFlagsOf 0 (operations.Live (operations.SavedAs count raw used)) d →
    d ≡ Live (SavedAs count raw used)
saved_is count raw used (Live (SavedAs n x u)) p =
    sym (subst (λ m. ◌≡◌ {A = Condition} (Live (SavedAs count raw used)) (Live (SavedAs m x u))) p.0
    (subst (λ y. ◌≡◌ {A = Condition} (Live (SavedAs count raw used)) (Live (SavedAs count y u))) p.1
    (ap (λ (v : Used). let c : Condition = Live (SavedAs count raw v) in c) p.2)))
saved_is count raw used (Live (OutcomeIs q)) p = absurd p
saved_is count raw used (Live (KeptAs k)) p = absurd p
saved_is count raw used (Live (BitsAre is)) p = absurd p
saved_is count raw used (Live (ArgIs x u)) p = absurd p
saved_is count raw used Absent p = absurd p
saved_is count raw used Tombstone p = absurd p

pub every_branch_has_input : EveryBranchHasInput
every_branch_has_input o valid few events w e n i q count raw used s =
    let k = every_ir_run_is_in_range o valid few events w e in
    let sound = every_ir_run_is_sound o valid events w e in
    let session = i.name.place.session in
    let there = sound.objects (Saved q.place) in
    let (x, made) = sound.inputs n (inv_as (flat_sites o) i) q count raw used (record {
      invocation_is = slice_get-map (inv_as (flat_sites o)) w.invs n ∙ ap (option_map (inv_as (flat_sites o))) s.invocation_is;
      branch_is = s.branch_is;
      saved_is = saved_is count raw used there (subst (λ (c : flags_condition). ConditionAlike AreFlagsOf 0 c there) s.saved_is (sound.alike (Saved q.place)));
    }) in
    let code : Code ℕ = code_of (ir_codes o) i in
    let f = k.functions n i s.invocation_is in
    let good = slice_get_within _ i.site f.func f.found in
    let maps = maps_in o valid session (k.world.invs n i s.invocation_is).session in
    let same = same_input (λ g. g < ir_size (block_of o session)) code machine_code (flat_site (block_of o session)) maps i.site good raw (Some q) in
    some_is (input_by code i raw) x (ap (branch_input code (code.join_around i.site) raw) s.branch_is ∙ sym same ∙ made)
