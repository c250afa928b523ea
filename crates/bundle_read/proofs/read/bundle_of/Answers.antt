use Rattle.std.proofs.Common.{sym, subst}
use Rattle.bundle_read.specs.Accepted.{IsAccepted}
use Rattle.bundle_read.proofs.Acceptance.{accepted_is}
use Rattle.bundle_read.proofs.read.bundle_of.Goals as goal

pub new-requires : goal.new-requires
new-requires c =
    subst IsAccepted
    (λ i. record { machines = c.args.draft.machines; functions = sym c.from_fields.ensures i; sessions = sym c.in_ok-sessions.ensures i; plan = sym c.in_ok-plan.ensures i })
    (accepted_is c.args.draft c.requires)
