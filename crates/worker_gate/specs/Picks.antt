-- What a pick says.
use Rattle.worker_gate.specs.declared.pick.Pick.{Pick}
use Rattle.worker_gate.specs.declared.pick.Pick.TheVariants.{Call, Idle, Spent}

-- where there is nothing to do, p holds
abbrev pub OnIdle : Pick → Type 0 → Type 0
OnIdle Idle p = p
OnIdle _ p = Unit {0}

-- where the log has no room, p holds
abbrev pub OnSpent : Pick → Type 0 → Type 0
OnSpent Spent p = p
OnSpent _ p = Unit {0}

-- what `hand` may answer
abbrev pub IsHanded : Pick → Type 0
IsHanded Idle = ⊥
IsHanded (Call kind input ticket) = ⊥
IsHanded _ = Unit {0}

-- what a whole step of a worker may answer
abbrev pub IsDone : Pick → Type 0
IsDone (Call kind input ticket) = ⊥
IsDone _ = Unit {0}
