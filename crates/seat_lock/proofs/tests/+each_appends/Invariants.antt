use Rattle.seat_lock.proofs.tests.+each_appends.Given as goal

abbrev pub decreases-each_appends : goal.decreases-each_appends
decreases-each_appends g l = l.seat.now.share
