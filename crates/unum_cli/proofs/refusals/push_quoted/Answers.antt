use Rattle.std.proofs.Common.{◌≡◌, [], ◌∷◌, ◌++◌, string_bytes, ap, ◌∙◌}
use Rattle.unum_json.specs.declared.value.Json.{Str}
use Rattle.unum_json.specs.Written.{text, quoted}
use Rattle.unum_json.proofs.Laws.{text-Str}
use Rattle.unum_cli.proofs.refusals.push_quoted.Goals as goal

pub returns : goal.returns
returns c =
    let q : c.in_ok-text.text ≡ quoted c.args.text.now = c.in_ok-text.ensures ∙ ap text (c.string-json.ensures ∙ ap Str c.in_ok-copy_text.ensures) ∙ text-Str c.args.text.now in
    c.in_ok-push_str-2.ensures.bytes ∙ ap (λ m. m ++ c.as_str.result.now) c.in_ok-push_str.ensures.bytes ∙ ap (λ z. string_bytes c.args.out.now ++ 32 ∷ [] ++ z) (c.as_str.ensures ∙ q)
