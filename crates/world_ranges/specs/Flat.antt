-- The functions of a flat form by their roles, and that worlds which run flat forms are in range.
use Rattle.std.specs.Prelude.{ℕ, zero, suc, ◌≡◌, ◌≤◌, List, length, slice_get, Option, Some, None, option_map}
use Rattle.place_name.specs.declared.kind.Kind.{Kind}
use Rattle.place_name.specs.declared.kind.Kind.TheVariants as kinds
use Rattle.place_name.specs.declared.limits.TheConstants.{SESSIONS}
use Rattle.unum_ir.specs.declared.ir.Ir.{Ir}
use Rattle.unum_ir.specs.declared.ir.Func.{Func}
use Rattle.unum_ir.specs.declared.ir.Func.TheVariants.{Enter as EnterFunc, Task as TaskFunc, Join as JoinFunc}
use Rattle.unum_ir.specs.Calls.{parent_of}
use Rattle.unum_ir.specs.WellFormed.{IsWellFormed}
use Rattle.world_model.specs.AnyCode.Code.{flags}
use Rattle.world_model.specs.AnyCode.Operations.{Invocation}
use Rattle.world_model.specs.AnyCode.World.{Attempt, Event, code_of, run}
use Rattle.world_model.specs.World.{Opening}
use Rattle.world_model.specs.Flat.{block_of}
use Rattle.world_model.specs.Numbered.{Numbered, first_number}
use Rattle.continuation_gen.specs.Numbering.{flat_form}
use Rattle.continuation_gen.specs.Coded.{code_of_ir}
use Rattle.continuation_gen.specs.Laws.{ir_codes, AreValid}
use Rattle.world_ranges.specs.Roles.{Role, StaysInRange}
use Rattle.world_ranges.specs.Ranges.{IsInvocation, IsInRange, NextInRange, DoesFew}
use Rattle.world_ranges.specs.Worlds.{AllStay, OpensInRange}

-- how many fans there are from this Join outwards, where so many are counted at most
abbrev pub fans_from : Ir → (most : ℕ) → Option ℕ → ℕ
fans_from ir zero join = 0
fans_from ir (suc most) None = 0
fans_from ir (suc most) (Some func) = suc (fans_from ir most (parent_of ir func))

-- how many fans are round the scope of a function, 8 where there are more than 7
abbrev pub fans_round : Ir → (func : ℕ) → ℕ
fans_round ir func = fans_from ir 8 (parent_of ir func)

-- what a function visits
abbrev pub kind_of : Func → Kind
kind_of (EnterFunc scope) = kinds.Enter
kind_of (TaskFunc node resource) = kinds.Task
kind_of (JoinFunc node) = kinds.Join

-- the role of a function of the table
abbrev pub role_in : Ir → (func : ℕ) → Option Role
role_in ir func = option_map (λ (x : Func). record { kind = kind_of x; fans = fans_round ir func }) (slice_get ir.funcs func)

-- A well formed flat form stays in range.
abbrev pub EveryFormStaysInRange : Type 0
EveryFormStaysInRange = (ir : Ir) → IsWellFormed ir → StaysInRange (role_in ir) (code_of_ir ir)

-- the roles of each session's functions
abbrev pub ir_roles : Opening → (session func : ℕ) → Option Role
ir_roles o s = role_in (flat_form (block_of o s))

-- the site of an invocation is a function of the flat form, of the name's kind, and with as many fans round its scope as the
-- name's trail has segments
pub record IsFunctionOf (ir : Ir) (i : Invocation ℕ) : Type 0 where
  pub func : Func
  pub found : slice_get ir.funcs i.site ≡ Some func
  pub kind : i.name.kind ≡ kind_of func
  pub fans : length i.name.place.trail ≡ fans_round ir i.site

-- An invocation in range runs such a function.
abbrev pub EverySiteIsFunction : Type 0
EverySiteIsFunction =
    (o : Opening) (i : Invocation ℕ) → IsInvocation (length o.sessions) (ir_roles o) i →
    IsFunctionOf (flat_form (block_of o i.name.place.session)) i

-- The world is in range. Each invocation's site is a function of its session's flat form, and its instances do few things. And what
-- each attempt does next is in range.
pub record IsInRangeOfForms (o : Opening) (w : Numbered) : Type 0 where
  pub world : IsInRange (length o.sessions) (ir_roles o) (ir_codes o) w
  pub functions :
      (k : ℕ) (i : Invocation ℕ) → slice_get w.invs k ≡ Some i → IsFunctionOf (flat_form (block_of o i.name.place.session)) i
  pub few : (k : ℕ) (i : Invocation ℕ) → slice_get w.invs k ≡ Some i → DoesFew (code_of (ir_codes o) i) i
  pub nexts :
      (a : ℕ) (t : Attempt) (i : Invocation ℕ) → slice_get w.atts a ≡ Some t → slice_get w.invs t.inv ≡ Some i →
      NextInRange (length o.sessions) (ir_roles o) (code_of (ir_codes o) i) i t.phase

-- The flat forms of valid machines stay in range, and the sessions begin at Enters.
abbrev pub EveryOpeningIsInRange : Type 0
EveryOpeningIsInRange =
    (o : Opening) → AreValid o → length o.sessions ≤ SESSIONS →
    AllStay (length o.sessions) (ir_roles o) (ir_codes o) × OpensInRange (ir_roles o) first_number o

-- After every list of events that may happen in turn in a world of at most 1,000 sessions that runs the flat forms of valid machines,
-- all is in range.
abbrev pub EveryIrRunIsInRange : Type 0
EveryIrRunIsInRange =
    (o : Opening) → AreValid o → length o.sessions ≤ SESSIONS → (events : List Event) (w : Numbered) →
    run flags (ir_codes o) first_number o events ≡ Some w → IsInRangeOfForms o w
