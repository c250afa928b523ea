use Rattle.std.proofs.Common.{ap, sym, subst, ◌∙◌}
use Rattle.asl_paths.specs.Canonical.{IsTemplate}
use Rattle.asl_paths.specs.Templates.{template_at}
use Rattle.asl_paths.proofs.CanonicalLaws.{whole_template}
use Rattle.asl_paths.proofs.template.Template.read.Goals as goal

pub from_parts-requires : goal.from_parts-requires
from_parts-requires c =
    subst (IsTemplate c.in_ok-parts.parts c.args.item) (sym c.in-Ok.ensures)
    (whole_template c.args.item c.args.value.now c.in_ok-parts.parts (ap (template_at c.args.item) c.seen.ensures.shape ∙ c.in_ok-parts.ensures))
