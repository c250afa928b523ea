use Rattle.std.proofs.Common.{map, ◌++◌, [], ◌∷◌, sym, ap, ◌∙◌, arith}
use Rattle.std.specs.List.{range_with_len}
use Rattle.std.proofs.lemmas.List.FromFn.{map-range_with_len_more}
use Rattle.unum_json.specs.declared.value.Json.{Json}
use Rattle.unum_world.specs.declared.opening.Session.{Session}
use Rattle.bundle_read.specs.Generated.{session}
use Rattle.bundle_read.proofs.generating.sessions.Goals as goal

abbrev of_input : Json → Session
of_input v = record { machine = 0; input = v }

-- src/generating.rt:187:5
pub loop-i-preserved : goal.loop-i-preserved
loop-i-preserved c =
    c.in_ok-push.ensures.ok ∙ ap (λ l. l ++ of_input c.in_ok-items_of.field-0 ∷ []) c.loop-i.invariant ∙ ap (λ v. map session (range_with_len 0 c.loop-i.i) ++ of_input v ∷ []) c.in_ok-items_of.ensures
    ∙ sym (map-range_with_len_more session 0 c.loop-i.i c.loop-i.i (omega arith))
