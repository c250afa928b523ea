-- The program of an instance of a machine.
use Rattle.std.specs.Prelude.{ℕ, List, Option}
use Rattle.place_name.specs.declared.obj.Obj.{Obj}
use Rattle.place_name.specs.Names.{Parent}
use Rattle.asl_model.specs.Data.{Json, Outcome, combine}
use Rattle.asl_model.specs.Names.{Name}
use Rattle.asl_model.specs.Machine.{Used}
use Rattle.world_model.specs.AnyCode.Program as any_code
pub use Rattle.world_model.specs.AnyCode.Program.{Phase, Looking, Saving, Gathering, Reading, Calling, Creating, Acting, Joining, Marking, Acking, AttemptOver, Do, Ask, Nothing, asking, doing, marking, kept_of, entered_phase}
pub use Rattle.world_model.specs.Sites.{state_at, call_in, call_at, call_of, input_of, input_in}
use Rattle.world_model.specs.Sites.{join_in, machine_code}
use Rattle.world_model.specs.Operations.{Spot, kind_on, Frame, Site, Kept, Held, Invocation, Reply}

-- what an attempt does next
abbrev pub Doing : Type 0
Doing = any_code.Doing Site (List ℕ)

-- ---------------------------------------------------------------- what is next in a phase

-- the Join of the fan whose branch the scope is
abbrev pub joining : Option Parent → List Frame → Doing
joining q around = any_code.joining q (join_in around)

-- where an Enter or a Task reads its data
abbrev pub source_in : Name → Spot → Option Parent → Obj
source_in n at q = any_code.source_in n (kind_on at) q

-- the same, by the name
abbrev pub source : Invocation → Obj
source i = any_code.source i.name

-- the input of a branch, by what its fan saved
abbrev pub input_at : List Frame → Json → Option Parent → Option Json
input_at around raw q = any_code.branch_input machine_code (join_in around) raw q

-- what an attempt of an invocation does next
abbrev pub next_of : Invocation → Phase → Doing
next_of i ph = any_code.next_of machine_code i ph

-- ---------------------------------------------------------------- the phase after a reply

-- where the own Check is absent
abbrev pub gathering_phase : Spot → Phase
gathering_phase at = any_code.gathering_phase (kind_on at)

-- what a Check keeps is adopted, whoever created it
abbrev pub adopted_phase : Held → Phase
adopted_phase h = any_code.adopted_phase h

-- after the Create of the own Check
abbrev pub after_create : Kept → Reply → Phase
after_create k r = any_code.after_create k r

-- after an act
abbrev pub after_act : Kept → (done all : ℕ) → Reply → Phase
after_act k m all r = any_code.after_act k m all r

-- a Join has all outcomes of its branches, or looks for the next
abbrev pub gathered_phase : Spot → ℕ → ℕ → Json → Used → List Outcome → Phase
gathered_phase at ticket count raw used outs = any_code.gathered_phase (combine (state_at at)) ticket count raw used outs

-- a Join has read what its fan saved
abbrev pub saved_phase : Spot → ℕ → Held → Phase
saved_phase at ticket h = any_code.saved_phase (combine (state_at at)) ticket h

-- a Join has read one more outcome
abbrev pub next_gathered_phase : Spot → ℕ → ℕ → Json → Used → List Outcome → Held → Phase
next_gathered_phase at ticket count raw used outs h = any_code.next_gathered_phase (combine (state_at at)) ticket count raw used outs h

-- an Enter or a Task has read its data
abbrev pub read_phase : Invocation → ℕ → Spot → Held → Phase
read_phase i ticket at h = any_code.read_phase machine_code i ticket (kind_on at) h

-- after the look at its data
abbrev pub after_read : Invocation → ℕ → Reply → Phase
after_read i ticket r = any_code.after_read machine_code i ticket r

-- after the look at the own Check
abbrev pub after_look : Invocation → ℕ → Reply → Phase
after_look i ticket r = any_code.after_look i.name.kind r

-- after the look at what the fan saved
abbrev pub after_saved : Spot → ℕ → Reply → Phase
after_saved at ticket r = any_code.after_saved (combine (state_at at)) ticket r

-- after the look at the next outcome
abbrev pub after_out : Spot → ℕ → ℕ → Json → Used → List Outcome → Reply → Phase
after_out at ticket count raw used outs r = any_code.after_out (combine (state_at at)) ticket count raw used outs r

-- the phase of an attempt after a reply; the ticket is the attempt's number
abbrev pub absorb : Invocation → (ticket : ℕ) → Phase → Reply → Phase
absorb i ticket ph r = any_code.absorb machine_code i ticket ph r

-- the phase after the function's answer
abbrev pub called_phase : Invocation → (ticket : ℕ) → Phase → Outcome → Phase
called_phase i ticket ph o = any_code.called_phase ticket ph o
