use Rattle.std.proofs.Common.{◌∙◌}
use Rattle.unum_cli.proofs.Sessions.{run_within, valid_at}
use Rattle.unum_cli.proofs.central.run_within.Goals as goal

pub central_all-requires-clause-valid : goal.central_all-requires-clause-valid
central_all-requires-clause-valid c =
    c.valid.ensures.nothing_broken _
    (valid_at c.args.bundle.now c.as_slice-machines.result.now c.args.session.now.machine c.index-machines-session.result c.requires.accepted (c.as_slice-machines.ensures.value ∙ c.machines.ensures.value) c.requires.placed)

pub returns : goal.returns
returns c =
    run_within c.args.bundle.now c.as_slice-machines.result.now c.index-machines-session.result c.args.number c.args.session.now c.args.limit c.functions.result.now c.central_all.result
    (c.as_slice-machines.ensures.value ∙ c.machines.ensures.value) c.functions.ensures c.requires.placed c.central_all.ensures
