use Rattle.bundle_read.specs.Accepted.{Accepted}
use Rattle.bundle_read.proofs.Fitting.{accepted_fits}
use Rattle.bundle_read.proofs.bundle.open_bundle.Goals as goal

pub returns-in-Ok-clause-fits : goal.returns-in-Ok-clause-fits
returns-in-Ok-clause-fits c =
    let i = c.bundle.inside in
    let b : Accepted = record { machines = i.machines; functions = i.functions; sessions = i.sessions; plan = i.plan } in
    accepted_fits b c.bundle.invariant c.in-Ok.machines c.in-Ok.ensures
