-- What calls of a world answer, by cases of the answer.
use Rattle.std.specs.Prelude.{◌≡◌, ◌<◌, IsTrue, Option, Some, None, Result, Ok, Err, true, length}
use Rattle.unum_json.specs.declared.memory.NoMemory.{NoMemory}
use Rattle.fn_table.specs.Answers.{Asked}
use Rattle.world_types.specs.declared.queue.Event.{Event}
use Rattle.world_types.specs.declared.queue.Event.TheVariants.{Answer}
use Rattle.world_plans.specs.Sessions.{SessionStatus, Ended, Abandoned, StillOpen}
use Rattle.unum_world.specs.declared.session.SessionState.{SessionState}
use Rattle.unum_world.specs.declared.session.SessionState.TheVariants as state
use Rattle.unum_world.specs.declared.settled.Settled.{Settled}
use Rattle.unum_world.specs.declared.settled.Settled.TheVariants as settled
use Rattle.unum_world.specs.declared.refusal.ApplyError.{ApplyError}
use Rattle.unum_world.specs.declared.refusal.ApplyError.TheVariants as refusal
use Rattle.unum_world.specs.Openings.{codes_of}
use Rattle.unum_world.specs.Calls.{awaited_call}
use Rattle.unum_world.specs.Traces.{Trace, now, is_enabled, IsDrained, IsFull}

-- ---------------------------------------------------------------- sessions

-- it is how the session stands
abbrev pub IsOne : SessionState → SessionStatus → Type 0
IsOne (state.Ended o) (Ended p) = o.now ≡ p
IsOne state.Abandoned Abandoned = Unit {0}
IsOne state.Open StillOpen = Unit {0}
IsOne _ _ = ⊥

-- the answer is how the session stands, if there is one
abbrev pub IsStanding : Option SessionState → Option SessionStatus → Type 0
IsStanding (Some a) (Some s) = IsOne a s
IsStanding None None = Unit {0}
IsStanding _ _ = ⊥

-- ---------------------------------------------------------------- settling

-- some event may happen
abbrev pub IsEnabledSome : Trace → Type 0
IsEnabledSome p = (e : Event) × (is_enabled p e ≡ true)

-- why a world has settled: no event may happen, or one may and the history is full
abbrev pub IsSettled : Trace → Settled → Type 0
IsSettled p settled.Drained = IsDrained p
IsSettled p settled.Spent = IsEnabledSome p × IsFull p

-- the same of an answer, which may be want of memory
abbrev pub Settles : Result Settled NoMemory → Trace → Type 0
Settles (Ok s) p = IsSettled p s
Settles (Err e) p = Unit {0}

-- ---------------------------------------------------------------- calls

-- the call is the one that its attempt waits for, and the attempt lives
abbrev pub IsAwaited : Trace → Asked → Type 0
IsAwaited p q = (awaited_call (codes_of p.opening) (now p) q.ticket ≡ Some q) × IsTrue (is_enabled p (Answer q.ticket))

-- what an answer to a call comes to
abbrev pub WhyAnswer : Trace → Asked → Result (Unit {0}) ApplyError → Type 0
WhyAnswer p q (Ok u) = IsAwaited p q × (length p.history < p.limit)
WhyAnswer p q (Err (refusal.NotEnabled f)) = (f ≡ Answer q.ticket) × ¬ (IsAwaited p q)
WhyAnswer p q (Err (refusal.Spent n)) = (n ≡ length p.history) × IsAwaited p q × IsFull p
WhyAnswer p q (Err refusal.NoMemory) = Unit {0}
