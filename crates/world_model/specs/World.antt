-- The world of machines, and a run of its events.
use Rattle.std.specs.Prelude.{ℕ, Bool, List, [], Option}
use Rattle.place_name.specs.declared.obj.Obj.{Obj}
use Rattle.fn_table.specs.declared.kind.FnKind.{FnKind}
use Rattle.asl_model.specs.Data.{Json}
use Rattle.asl_model.specs.Names.{Place}
use Rattle.asl_model.specs.Machine.{Block}
use Rattle.world_model.specs.AnyCode.World as any_code
pub use Rattle.world_model.specs.AnyCode.Code.{has_bit, has_all, in_order}
pub use Rattle.world_model.specs.AnyCode.World.{Table, Entry, InvState, Attempt, Event, Deliver, Crash, Step, Answer, GiveUp, fresh_state, created_world, marked_world, counted_world, state_after_crash, state_after_ack, with_state, lives_on, moved_world, with_inv, with_att, delivered_world, crashed_world, state_lets, is_do, is_ask, lives}
unfoldable pub use Rattle.world_model.specs.AnyCode.World.{root_states, objects_with, function_of}
use Rattle.world_model.specs.Sites.{enter_site, machine_code}
use Rattle.world_model.specs.Operations.{Site, Held, Condition, Invocation, Op, Reply}
use Rattle.world_model.specs.Program.{Phase, Doing}

-- a session: the machine that it runs, and its input
abbrev pub Session : Type 0
Session = any_code.Session Block

-- functions and sessions
abbrev pub Opening : Type 0
Opening = any_code.Opening Block

-- a world of machines by their sites
abbrev pub World : Type 0
World = any_code.World Block Site (List ℕ)

-- ---------------------------------------------------------------- the opening world

-- the Enter of a session's own block
abbrev pub first : Block → Site
first b = enter_site [] b

-- the first instance of a session
abbrev pub root_inv : (session : ℕ) → Session → Invocation
root_inv s x = any_code.root_inv first s x

-- the first instances of the sessions
abbrev pub root_invs : (session : ℕ) → List Session → List Invocation
root_invs s xs = any_code.root_invs first s xs

-- the objects at opening
abbrev pub start_objects : (session : ℕ) → List Session → Obj → Condition
start_objects s xs = any_code.start_objects s xs

-- the opening world
abbrev pub start : Opening → World
start o = any_code.start first o

-- ---------------------------------------------------------------- operations

-- what a Look finds
abbrev pub look_reply : Condition → Reply
look_reply c = any_code.look_reply c

-- whether a Create wins
abbrev pub create_reply : Condition → Reply
create_reply c = any_code.create_reply c

-- what a Mark finds
abbrev pub mark_reply : Condition → Reply
mark_reply c = any_code.mark_reply c

-- the journal's entry for a Create that won
abbrev pub entries_of : Obj → Held → ℕ → List Entry
entries_of o h a = any_code.entries_of o h a

-- the bits of an object
abbrev pub bits_of : Held → List ℕ
bits_of h = any_code.bits_or [] h

-- whether the bitmap is full with that index
abbrev pub set_reply : (index count : ℕ) → Condition → Reply
set_reply index count c = any_code.set_reply in_order index count c

-- what an operation answers
abbrev pub reply_to : World → Op → Reply
reply_to w op = any_code.reply_to in_order w.objects op

-- after a Set
abbrev pub with_bit : World → Place → (index count : ℕ) → Condition → World
with_bit w p index count c = any_code.with_bit in_order w p index count c

-- the world after an operation
abbrev pub performed_world : World → (attempt : ℕ) → Attempt → Op → World
performed_world w a t op = any_code.performed_world in_order w a t op

-- ---------------------------------------------------------------- events

-- each session's machine is its code
abbrev pub codes : any_code.Codes Site
codes s = machine_code

-- the world after a step
abbrev pub stepped_world : World → (attempt : ℕ) → Attempt → Invocation → Phase → Doing → World
stepped_world w a t i ph d = any_code.stepped_world in_order codes w a t i ph d

-- the world after an answer
abbrev pub answered_world : World → (attempt : ℕ) → Attempt → Invocation → Json → Option FnKind → World
answered_world w a t i input kind = any_code.answered_world w a t input kind

-- the world after the answer of what was asked
abbrev pub asked_world : World → (attempt : ℕ) → Attempt → Invocation → Doing → World
asked_world w a t i d = any_code.asked_world w a t d

-- the world after an event
abbrev pub effect : World → Event → World
effect w e = any_code.effect in_order codes w e

-- the attempt lives, and what it does next passes the test
abbrev pub att_lets : World → (Doing → Bool) → Option Attempt → Bool
att_lets w p t = any_code.att_lets codes w p t

-- where an event may happen
abbrev pub enabled : World → Event → Bool
enabled w e = any_code.enabled codes w e

-- the world after an event, if it may happen
abbrev pub next_world : World → Event → Option World
next_world w e = any_code.next_world in_order codes w e

-- the same, where the world may not be there
abbrev pub then_event : Option World → Event → Option World
then_event w e = any_code.then_event in_order codes w e

-- the world after these events in turn, where each is enabled in its turn
abbrev pub run_from : Option World → List Event → Option World
run_from w es = any_code.run_from in_order codes w es

-- a run from an opening
abbrev pub run : Opening → List Event → Option World
run o es = any_code.run in_order codes first o es
