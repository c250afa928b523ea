-- A value's text and part go by its variant.
use Rattle.std.proofs.Common.{◌≡◌, ℕ, List, Bool, rules}
use Rattle.std.specs.Prelude as Prelude
use Rattle.unum_json.specs.declared.value.Json.{Json, out-Json, the_lemmas}
use Rattle.unum_json.proofs.Laws.{each_value}
use Rattle.asl_paths.specs.Templates.{seen_of, part_of, text_at, part_at}

pub text_by_variant : (item : Bool) (v : Json) → (seen_of item v).text ≡ text_at (out-Json v)
text_by_variant item =
    each_value (λ v. (seen_of item v).text ≡ text_at (out-Json v)) (search (rules, the_lemmas)) (λ b. search (rules, the_lemmas)) (λ n. search (rules, the_lemmas)) (λ s. search (rules, the_lemmas))
    (λ vs h. search (rules, the_lemmas)) (λ fs h. search (rules, the_lemmas))

pub part_by_variant : (item : Bool) (v : Json) → part_of item v ≡ part_at item (out-Json v)
part_by_variant item =
    each_value (λ v. part_of item v ≡ part_at item (out-Json v)) (search (rules, the_lemmas)) (λ b. search (rules, the_lemmas)) (λ n. search (rules, the_lemmas)) (λ s. search (rules, the_lemmas))
    (λ vs h. search (rules, the_lemmas)) (λ fs h. search (rules, the_lemmas))
