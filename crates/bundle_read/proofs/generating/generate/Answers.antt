use Rattle.bundle_read.proofs.GeneratedLaws.{parts_accepted}
use Rattle.bundle_read.proofs.generating.generate.Goals as goal

pub new-requires-3 : goal.new-requires-3
new-requires-3 c =
    parts_accepted c.args.n c.requires c.in_ok-machines.machines c.in_ok-functions.functions c.in_ok-sessions.sessions c.new.result c.new-2.result c.in_ok-machines.ensures c.in_ok-functions.ensures
    c.in_ok-sessions.ensures c.new.ensures c.new-2.ensures
