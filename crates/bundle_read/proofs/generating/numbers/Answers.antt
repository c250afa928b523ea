use Rattle.std.proofs.Common.{rules, SFits, w64, ℕ, map, pos, ◌++◌, [], ◌∷◌, sym, ap, ◌∙◌, arith}
use Rattle.std.specs.List.{range_with_len}
use Rattle.std.proofs.lemmas.Int.{to_z-of_z}
use Rattle.std.proofs.lemmas.List.FromFn.{map-range_with_len_more}
use Rattle.unum_json.specs.declared.value.Json.{Json}
use Rattle.unum_json.specs.declared.value.Json.TheVariants.{Int}
use Rattle.bundle_read.proofs.generating.numbers.Goals as goal

abbrev number : ℕ → Json
number k = Int (pos k)

-- src/generating.rt:166:5
pub loop-k-preserved : goal.loop-k-preserved
loop-k-preserved c =
    let fits : SFits w64 c.from.result = search rules in
    c.in_ok-push.ensures.ok ∙ ap (λ l. l ++ c.whole.result ∷ []) c.loop-k.invariant
    ∙ ap (λ v. map number (range_with_len 0 c.loop-k.k) ++ v ∷ []) ((rw (to_z-of_z w64 c.from.result fits) at c.whole.ensures) ∙ ap Int c.from.ensures)
    ∙ sym (map-range_with_len_more number 0 c.loop-k.k c.loop-k.k (omega arith))
