-- What the compiler rests on: the numbers of a valid machine fit, and its flat form keeps what it means.
use Rattle.std.proofs.Common.{◌≡◌, ℕ, ◌+◌, List, [], ◌∷◌, Option, Some, None, length, slice_get, option_map, refl, sym, ap, ◌∙◌, length-append, arith}
use Rattle.std.proofs.lemmas.List.{length-map}
use Rattle.std.proofs.lemmas.Option.{slice_get-map, same_Some}
use Rattle.asl_model.specs.Machine.{Block, states_of}
use Rattle.asl_model.specs.Central.{Visited}
use Rattle.asl_model.specs.Blocks.{functions}
use Rattle.asl_model.specs.Walked.{HasRisingNames}
use Rattle.asl_model.specs.Valid.{IsValid}
use Rattle.world_model.specs.Sites.{spot_of}
use Rattle.world_model.specs.Flat.{Entry, Visiting, table, entry_at, entry_or, of_entry, of_function}
use Rattle.world_model.proofs.FlatNumbers.{numbers_are_right}
use Rattle.continuation_gen.specs.Numbering.{At, IsSmall, plus, own, size, Placed, first_at, placed, all_of, nodes_of, funcs_of, scope_of, enters, flat_form, node_number}
use Rattle.continuation_gen.specs.Laws.{HasItsSites, KeepsMachine}
use Rattle.continuation_gen.proofs.Place.{Runs}
use Rattle.continuation_gen.proofs.InBlock.{length-nodes_from, length-funcs_from}
use Rattle.continuation_gen.proofs.Stands.{last_at, all_run, many, length-enters}
use Rattle.continuation_gen.proofs.Small.{small_numbers}
use Rattle.continuation_gen.proofs.Counted.{same_functions}
use Rattle.continuation_gen.proofs.Stops.{flat_is_stretch, flat_after_is_after}
use Rattle.continuation_gen.proofs.Maps.{reads_alike, ir_maps}

-- ---------------------------------------------------------------- numbers

module _ {X : Type 0} (f : Placed → List X) (u : At → ℕ) (add : (a b : At) → u (plus a b) ≡ u a + u b) (fits : (p : Placed) → length (f p) ≡ u (own p.block)) where
  part_length : (a c : At) (ps : List Placed) → Runs a ps c → u c ≡ u a + length (all_of f ps)
  part_length a c [] r = let e = ap u r in omega (arith, e)
  part_length a c (p ∷ ps) r =
      let k = part_length (plus a (own p.block)) c ps r.1 in
      omega (arith, k, add a (own p.block), fits p, length-append (f p) (all_of f ps))

-- all numbers of a valid machine fit
pub small_form : (root : Block) → IsValid root → IsSmall (plus (first_at root) (size root))
small_form root valid =
    let k = small_numbers root valid in
    let nodes = part_length nodes_of (λ a. a.node) (λ a b. refl) (λ q. length-nodes_from (node_number q) q.at.scope q.at.func (plus q.at (own q.block)) (states_of q.block)) (first_at root) (last_at root) (placed root) (all_run root) in
    let funcs = part_length funcs_of (λ a. a.func) (λ a b. refl) (λ q. length-funcs_from q.at.node (states_of q.block)) (first_at root) (last_at root) (placed root) (all_run root) in
    let all = length-append (enters 0 (size root).scope) (all_of funcs_of (placed root)) in
    let first = length-enters 0 (size root).scope in
    let s : length (flat_form root).scopes ≡ length (placed root) = length-map (placed root) scope_of in
    let m = many root in
    (omega (arith, k.1, s, m), omega (arith, k.0, nodes), omega (arith, k.2, funcs, all, first))

-- ---------------------------------------------------------------- meaning

site_is : (root b : Block) (visited : Visited) (x : Option Entry) → option_map of_entry x ≡ Some (b, spot_of visited) → ((entry_or root x).1.block ≡ b) × ((entry_or root x).1.spot ≡ spot_of visited)
site_is root b visited None e = absurd (cc)
site_is root b visited (Some x) e =
    let k : of_entry x ≡ (b, spot_of visited) = same_Some (of_entry x) (b, spot_of visited) e in
    (ap (λ (z : Visiting). z.0) k, ap (λ (z : Visiting). z.1) k)

its_sites : (root : Block) → HasItsSites root
unfolding entry_at
its_sites root f b visited e =
    let found : option_map of_entry (slice_get (table root) f) ≡ Some (b, spot_of visited) =
    sym (slice_get-map of_entry (table root) f)
    ∙ ap (λ (l : List Visiting). slice_get l f) (numbers_are_right root)
    ∙ slice_get-map of_function (functions root) f
    ∙ ap (option_map of_function) e in
    site_is root b visited (slice_get (table root) f) found

pub keeps_machine : (root : Block) → IsValid root → HasRisingNames root → KeepsMachine root
keeps_machine root valid rise = record {
  functions = same_functions root rise;
  walks = flat_is_stretch root valid rise;
  resumes = flat_after_is_after root valid rise;
  gives = reads_alike root valid rise;
  sites = its_sites root;
  maps = ir_maps root valid rise;
}
