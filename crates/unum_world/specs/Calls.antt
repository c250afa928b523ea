-- The calls of functions that attempts wait for.
use Rattle.std.specs.Prelude.{ℕ, List, Bool, Option, Some, None, slice_get, option_map}
use Rattle.unum_json.specs.Keys.{find_key}
use Rattle.fn_table.specs.declared.kind.FnKind.{FnKind}
use Rattle.fn_table.specs.Answers.{Asked, answer}
use Rattle.world_model.specs.AnyCode.Code.{Text, Json, Outcome}
use Rattle.world_model.specs.AnyCode.Operations.{Invocation}
use Rattle.world_model.specs.AnyCode.Program.{Doing, Ask, next_of}
use Rattle.world_model.specs.AnyCode.World.{Attempt, Table, Codes, code_of}
use Rattle.world_model.specs.Numbered.{Numbered}

-- the call of a function, with the attempt's number as ticket
abbrev pub function_call : Table → Text → Json → (attempt : ℕ) → Option Asked
function_call table resource x a = option_map (λ (f : FnKind). record { kind = f; input = x; ticket = a }) (find_key resource table)

-- what the function answers
abbrev pub outcome_of : Option Asked → Option Outcome
outcome_of = option_map (λ (q : Asked). answer q.kind q.input q.ticket)

-- the call that an attempt makes, if it makes one and the table has its function
abbrev pub call_in : Table → (attempt : ℕ) → Doing ℕ (List Bool) → Option Asked
call_in table a (Ask resource x) = function_call table resource x a
call_in table a _ = None

module _ (codes : Codes ℕ) (w : Numbered) where
  -- the same, by the attempt's invocation
  abbrev pub call_by : (attempt : ℕ) → Attempt → Option (Invocation ℕ) → Option Asked
  call_by a t None = None
  call_by a t (Some i) = call_in w.opening.functions a (next_of (code_of codes i) i t.phase)

  -- and by the attempt
  abbrev pub call_at : (attempt : ℕ) → Option Attempt → Option Asked
  call_at a None = None
  call_at a (Some t) = call_by a t (slice_get w.invs t.inv)

  -- the call that an attempt waits for
  abbrev pub awaited_call : (attempt : ℕ) → Option Asked
  awaited_call a = call_at a (slice_get w.atts a)
