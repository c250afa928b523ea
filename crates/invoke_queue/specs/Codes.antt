-- Events as numbers.
use Rattle.std.specs.Prelude.{ℕ, ◌+◌, ◌*◌}
use Rattle.world_types.specs.declared.queue.Event.{Event}
use Rattle.world_types.specs.declared.queue.Event.TheVariants.{Deliver, Crash, Step, Answer, GiveUp}

-- deliveries, crashes, steps, answers, giving up
abbrev pub event_kind : Event → ℕ
event_kind (Deliver n) = 0
event_kind (Crash n) = 1
event_kind (Step n) = 2
event_kind (Answer n) = 3
event_kind (GiveUp n) = 4

-- the invocation or the attempt that it names
abbrev pub event_number : Event → ℕ
event_number (Deliver n) = n
event_number (Crash n) = n
event_number (Step n) = n
event_number (Answer n) = n
event_number (GiveUp n) = n

-- both in one
abbrev pub event_code : Event → ℕ
event_code e = event_kind e * 4294967296 + event_number e
