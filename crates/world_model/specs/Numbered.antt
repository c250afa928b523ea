-- Worlds that run other code by functions' numbers, with a flag for each branch in a bitmap: what holds of worlds of machines
-- holds of them.
use Rattle.std.specs.Prelude.{ℕ, ◌≡◌, ◌<◌, Bool, false, List, slice_get, Some}
use Rattle.place_name.specs.declared.obj.Obj.{Obj}
use Rattle.place_name.specs.declared.obj.Obj.TheVariants.{Out}
use Rattle.asl_model.specs.Data.{Outcome}
use Rattle.asl_model.specs.Machine.{Block}
use Rattle.asl_model.specs.Central.{Ended}
use Rattle.asl_model.specs.Sequential.{Functions}
use Rattle.world_model.specs.AnyCode.Code.{flags}
use Rattle.world_model.specs.AnyCode.World as any_code
use Rattle.world_model.specs.AnyCode.World.{Codes}
use Rattle.world_model.specs.AnyCode.Maps.{Maps, AreFlagsOf, ObjectsAlike, image}
use Rattle.world_model.specs.Sites.{Site, machine_code}
use Rattle.world_model.specs.Operations.{Condition, root, Live, OutcomeIs}
use Rattle.world_model.specs.World.{Session, Opening, World, Event, first, run}
use Rattle.world_model.specs.Journals.{run_of}
use Rattle.world_model.specs.Agrees.{Agrees}
use Rattle.world_model.specs.Asking.{CallsOne}
use Rattle.world_model.specs.Inputs.{HasInputs}
use Rattle.world_model.specs.Collecting.{TakesNothingEarly}
use Rattle.world_model.specs.Paced.{KeepsPace}
use Rattle.world_model.specs.Quiet.{IsQuiet, HasEnded, IsSwept}
use Rattle.world_model.specs.Drained.{IsAtRest}
use Rattle.world_model.specs.Steady.{AllSteady, AnswerAs, EndsAlike}

-- a world of machines that runs them by functions' numbers
abbrev pub Numbered : Type 0
Numbered = any_code.World Block ℕ (List Bool)

-- function 0 is the Enter of a machine
abbrev pub first_number : Block → ℕ
first_number b = 0

-- the code of each session, up to the number of its functions, is its machine's at the sites that the numbers stand for, and
-- function 0 stands for its Enter
pub record StandsFor (o : Opening) (codes : Codes ℕ) (sites : ℕ → ℕ → Site) (size : ℕ → ℕ) : Type 0 where
  pub maps : (s : ℕ) → Maps (λ f. f < size s) (codes s) machine_code (sites s)
  pub begins : (s : ℕ) (x : Session) → slice_get o.sessions s ≡ Some x → (0 < size s) × (sites s 0 ≡ first x.machine)

-- the same world by sites, with the objects the same but for the order in which bits were set, is the run of the same
-- events; so all laws hold of it
pub record IsSoundWorld (o : Opening) (codes : Codes ℕ) (sites : ℕ → ℕ → Site) (events : List Event) (w : Numbered) : Type 0 where
  pub objects : Obj → Condition
  pub alike : ObjectsAlike AreFlagsOf w.objects objects
  pub is_run : run o events ≡ Some (image sites w objects)
  pub agrees : Agrees (image sites w objects)
  pub ended : (s : ℕ) (r : Outcome) → w.objects (Out (root s)) ≡ Live (OutcomeIs r) → (run_of o w.journal s).end ≡ Ended r
  pub nothing_early : TakesNothingEarly (image sites w objects)
  pub keeps_pace : KeepsPace (image sites w objects)
  pub calls : CallsOne (image sites w objects)
  pub inputs : HasInputs (image sites w objects)
  pub ends :
      AllSteady o.functions → (call : Functions) → AnswerAs o.functions call → (s : ℕ) (x : Session) → slice_get o.sessions s ≡ Some x →
      EndsAlike (image sites w objects) call s x
  pub quiet_ended :
      (s : ℕ) (x : Session) → slice_get o.sessions s ≡ Some x → IsQuiet (image sites w objects) s →
      HasEnded (image sites w objects) s × IsSwept (image sites w objects) s
  pub at_rest : ((e : Event) → any_code.enabled codes w e ≡ false) → IsAtRest (image sites w objects)

-- After every list of events that may happen in turn in such a world, that is so.
abbrev pub EveryNumberedRunIsSound : Type 0
EveryNumberedRunIsSound =
    (o : Opening) (codes : Codes ℕ) (sites : ℕ → ℕ → Site) (size : ℕ → ℕ) → StandsFor o codes sites size →
    (events : List Event) (w : Numbered) → any_code.run flags codes first_number o events ≡ Some w → IsSoundWorld o codes sites events w

-- And what may happen in turn in the world of machines may happen there.
abbrev pub EveryRunIsNumbered : Type 0
EveryRunIsNumbered =
    (o : Opening) (codes : Codes ℕ) (sites : ℕ → ℕ → Site) (size : ℕ → ℕ) → StandsFor o codes sites size →
    (events : List Event) (v : World) → run o events ≡ Some v → (w : Numbered) × (any_code.run flags codes first_number o events ≡ Some w)
