-- What branches came to, one branch after another.
use Rattle.std.specs.Prelude.{[], ◌∷◌, ◌++◌}
use Rattle.asl_model.specs.Central.{End, Ended, Waits, Gathered, All_ended, Some_wait}

-- with the end of one branch more
abbrev pub and_end : Gathered → End → Gathered
and_end (All_ended os) (Ended o) = All_ended (os ++ o ∷ [])
and_end (All_ended os) (Waits ps) = Some_wait ps
and_end (Some_wait ps) (Ended o) = Some_wait ps
and_end (Some_wait ps) (Waits qs) = Some_wait (ps ++ qs)

-- with what the branches behind came to
abbrev pub both : Gathered → Gathered → Gathered
both (All_ended os) (All_ended more) = All_ended (os ++ more)
both (All_ended os) (Some_wait ps) = Some_wait ps
both (Some_wait ps) (All_ended os) = Some_wait ps
both (Some_wait ps) (Some_wait qs) = Some_wait (ps ++ qs)
