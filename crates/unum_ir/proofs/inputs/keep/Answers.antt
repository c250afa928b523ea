use Rattle.unum_ir.proofs.Keeping.{let_go, kept_more}
use Rattle.unum_ir.proofs.inputs.keep.Goals as goal

pub returns-then-total-gt-MOST_NODES : goal.returns-then-total-gt-MOST_NODES
returns-then-total-gt-MOST_NODES c made k = let_go _ made _ _ _ _ k c.nodes.ensures c.saturating_add-total.ensures c.if-total-gt-MOST_NODES.true

pub returns : goal.returns
returns c made k = kept_more _ _ made _ _ _ _ k c.nodes.ensures c.saturating_add-total.ensures c.in_ok-push.ensures.ok
