-- The acts of an instance that runs a flat form, and its phases while it reads its data.
use Rattle.std.specs.Prelude.{ℕ, ◌≡◌, ◌++◌, ◌∷◌, [], Bool, List, Option, length, option_map, option_to_list}
use Rattle.place_name.specs.Names.{Scope, Parent, scope_of}
use Rattle.unum_ir.specs.declared.ir.Ir.{Ir}
use Rattle.unum_ir.specs.Calls.{combined, enter_of}
use Rattle.world_model.specs.AnyCode.Names.{parent_of}
use Rattle.world_model.specs.AnyCode.Code.{Outcome, Stop, Code}
use Rattle.world_model.specs.AnyCode.Operations.{Kept, Held, Invocation, Op, Invoke, Reply}
use Rattle.world_model.specs.AnyCode.Acts.{enter_at, set_ops, width_around, acts_of, acts}
use Rattle.world_model.specs.AnyCode.Program.{Phase, Gathering, Acting, kept_of, gathered_phase, read_phase, after_out}
use Rattle.continuation_gen.specs.Coded.{code_of_ir}
use Rattle.fn_wrapper.specs.declared.replies.Branches.{Branches}

-- what it does at that stop
abbrev pub acts_at : Ir → Invocation ℕ → Stop ℕ → List (Op ℕ (List Bool))
acts_at ir i stop = acts_of (code_of_ir ir) i.site (scope_of i.name.place) stop

-- what it does at the end of its scope, behind the Create of the outcome
abbrev pub end_acts : Ir → (site : ℕ) → Scope → List (Op ℕ (List Bool))
end_acts ir site s = set_ops (enter_of ir site) (width_around (code_of_ir ir) ((code_of_ir ir).join_around site)) (parent_of s)

-- the Enter of the branch with that index, if there is one
abbrev pub next_enter : (enter : ℕ) → Parent → Option ℕ → List (Op ℕ (List Bool))
next_enter e q later = option_to_list (option_map (λ k. Invoke (enter_at e q.place k q.count)) later)

-- so many acts has the instance of an attempt that acts
abbrev pub IsCountOfActs : Code ℕ → Invocation ℕ → Phase → (count : ℕ) → Type 0
IsCountOfActs code i ph count = (k : Kept) (m : ℕ) → ph ≡ Acting k m → count ≡ length (acts {B = List Bool} code i k)

-- with one outcome more
abbrev pub with_one : Branches → Outcome → Branches
with_one b o = record b { outcomes = b.outcomes ++ o ∷ [] }

-- a Join that has these outcomes of its branches, or looks for the next
abbrev pub gathering_of : Branches → Phase
gathering_of b = Gathering b.count b.raw b.used b.outcomes

abbrev pub gathered_of : Ir → (site ticket : ℕ) → Branches → Phase
gathered_of ir site ticket b = gathered_phase (combined ir site) ticket b.count b.raw b.used b.outcomes

-- and that has looked at the next one
abbrev pub heard_of : Ir → (site ticket : ℕ) → Branches → Reply (List Bool) → Phase
heard_of ir site ticket b r = after_out (combined ir site) ticket b.count b.raw b.used b.outcomes r

-- a Join's checkpoint with that answer
abbrev pub kept_with : (ticket : ℕ) → Branches → Outcome → Kept
kept_with ticket b o = kept_of b.raw b.used ticket o b.count

-- where an Enter or a Task has read that
abbrev pub read_of : Code ℕ → Invocation ℕ → (ticket : ℕ) → Held (List Bool) → Phase
read_of code i ticket h = read_phase code i ticket i.name.kind h
