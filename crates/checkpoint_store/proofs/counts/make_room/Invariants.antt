use Rattle.std.proofs.Common.{◌≡◌, ℕ, ◌+◌, ◌-◌, get_or, vec_len}
use Rattle.checkpoint_store.proofs.counts.make_room.Given as goal

abbrev pub invariant-loop-counts : goal.invariant-loop-counts
invariant-loop-counts l = (s : ℕ) → get_or l.counts.items s 0 ≡ get_or l.fn.counts.items s 0

abbrev pub decreases-loop-counts : goal.decreases-loop-counts
decreases-loop-counts l = l.session + 1 - vec_len l.counts
