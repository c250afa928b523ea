use Rattle.std.proofs.Common.{[], ap, subst, sym, ◌∙◌}
use Rattle.unum_json.specs.declared.value.Json.{Obj}
use Rattle.asl_paths.specs.Canonical.{IsTemplate}
use Rattle.asl_paths.proofs.CanonicalLaws.{empty_template}
use Rattle.asl_paths.proofs.template.Template.empty.Goals as goal

pub from_parts-requires : goal.from_parts-requires
from_parts-requires c =
    subst (λ fs. IsTemplate fs c.args.item c.in_ok-source.source) (sym c.new-2.ensures)
    (subst (IsTemplate [] c.args.item) (sym (c.in_ok-source.ensures ∙ ap Obj c.new.ensures)) (empty_template c.args.item))
