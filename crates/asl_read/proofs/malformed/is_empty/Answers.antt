use Rattle.std.proofs.Common.{◌==◌, length, Some, sym, ap, ◌∙◌}
use Rattle.unum_json.specs.Parsed.{view}
use Rattle.unum_json.proofs.Views.{view-Array}
use Rattle.asl_read.specs.Choices.{is_empty_array}
use Rattle.asl_read.proofs.Lists.{empty_seen}
use Rattle.asl_read.proofs.malformed.is_empty.Goals as goal

pub returns-in-Array : goal.returns-in-Array
returns-in-Array c =
    c.is_empty.ensures ∙ ap (λ vs. length vs == 0) c.as_slice.ensures.value ∙ empty_seen c.in-Array.items.items
    ∙ ap (λ d. is_empty_array (Some d)) (sym (view-Array c.in-Array.items)) ∙ ap (λ v. is_empty_array (Some (view v))) (sym c.in-Array.is)
