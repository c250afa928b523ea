use Rattle.std.proofs.Common.{◌-◌, ◌≡◌, ◌≤◌, length, drop, None}
use Rattle.asl_model.specs.Names.{answers_of}
use Rattle.central_model.proofs.answers.find_in.Given as goal

abbrev pub invariant-loop-low : goal.invariant-loop-low
invariant-loop-low l =
    (l.low ≤ l.high) × (l.high ≤ length l.answers)
    × (answers_of l.answers l.place ≡ answers_of (drop l.low l.answers) l.place)
    × (answers_of (drop l.high l.answers) l.place ≡ None)

abbrev pub decreases-loop-low : goal.decreases-loop-low
decreases-loop-low l = l.high - l.low
