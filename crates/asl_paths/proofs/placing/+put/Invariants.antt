use Rattle.std.proofs.Common.{◌+◌, ◌*◌, length}
use Rattle.asl_paths.proofs.placing.+put.Given as goal

abbrev pub decreases-put_at : goal.decreases-put_at
decreases-put_at l = 2 * length l.steps.now

abbrev pub decreases-put_into : goal.decreases-put_into
decreases-put_into l = 2 * length l.rest.now + 1
