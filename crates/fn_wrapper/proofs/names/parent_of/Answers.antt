use Rattle.std.proofs.Common.{subst}
use Rattle.place_name.specs.Names.{Scope, IsTrail}
use Rattle.fn_wrapper.proofs.Branches.{parent_is, parent_room}
use Rattle.fn_wrapper.proofs.names.parent_of.Goals as goal

pub returns-clause-branch : goal.returns-clause-branch
returns-clause-branch c = parent_is c.args.scope.now c.up.result c.up.ensures.none c.up.ensures.some

pub returns-clause-room : goal.returns-clause-room
returns-clause-room c =
    parent_room c.args.scope.now c.up.result (subst (λ (s : Scope). IsTrail s.trail) c.scope.view_is c.len-len.ensures.is_trail)
    c.up.ensures.some
