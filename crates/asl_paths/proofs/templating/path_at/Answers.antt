use Rattle.std.proofs.Common.{ap, subst, sym, ◌∙◌}
use Rattle.std.specs.Prelude.{option_and_then}
use Rattle.unum_json.specs.Whole.{key_step}
use Rattle.asl_paths.specs.Templates.{Reads, found_at, path_part, text_at}
use Rattle.asl_paths.proofs.PartLaws.{text_by_variant}
use Rattle.asl_paths.proofs.templating.path_at.Goals as goal

pub returns : goal.returns
returns c =
    subst (λ t. Reads (λ v. v) c.path_of_text.result (found_at (key_step c.args.key.now) (option_and_then (path_part c.args.item) t)))
    (c.text_in.ensures ∙ ap text_at (sym c.seen.ensures.shape) ∙ sym (text_by_variant c.args.item c.args.value.now)) c.path_of_text.ensures
