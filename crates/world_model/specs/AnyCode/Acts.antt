-- What an instance does after its answer, and what it may then collect.
use Rattle.std.specs.Prelude.{ℕ, zero, suc, ◌+◌, List, [], ◌∷◌, ◌++◌, length, nat_lt, cond, Option, Some, None}
use Rattle.place_name.specs.declared.obj.Obj.{Obj}
use Rattle.place_name.specs.declared.obj.Obj.TheVariants.{Check, Out, Saved, Bits, Arg}
use Rattle.world_model.specs.AnyCode.Names as names
use Rattle.world_model.specs.AnyCode.Names.{Scope, Place, Parent, Kind, Name, scope_of, at_hop, child, name_at, join_name, parent_of}
use Rattle.world_model.specs.AnyCode.Code.{Stop, Call, Fan, Over, Code}
use Rattle.world_model.specs.AnyCode.Operations.{Kept, OutcomeIs, SavedAs, ArgIs, Invocation, Op, Create, Set, Invoke}

-- ---------------------------------------------------------------- invocations

-- the Join at that place
abbrev pub join_at : {S : Type 0} → S → Place → Invocation S
join_at j p = record { name = join_name p; site = j }

-- the Task at that hop of the scope
abbrev pub task_at : {S : Type 0} → S → Scope → ℕ → Invocation S
task_at f s hop = record { name = name_at s hop names.Task; site = f }

-- the Enter of a branch
abbrev pub enter_at : {S : Type 0} → S → Place → (index count : ℕ) → Invocation S
enter_at e p index count = record { name = name_at (child p index count) 0 names.Enter; site = e }

-- ---------------------------------------------------------------- acts

-- the first n
abbrev pub firsts : {A : Type 0} → ℕ → List A → List A
firsts zero xs = []
firsts (suc n) [] = []
firsts (suc n) (x ∷ xs) = x ∷ firsts n xs

-- the branches that a fan invokes itself: as many as may run at once
abbrev pub at_once : {A : Type 0} → ℕ → List A → List A
at_once zero xs = xs
at_once (suc w) xs = firsts (suc w) xs

-- the Enters of these branches, from that index on
abbrev pub enter_ops : {S B : Type 0} → Place → (index count : ℕ) → List S → List (Op S B)
enter_ops p index count [] = []
enter_ops p index count (e ∷ es) = Invoke (enter_at e p index count) ∷ enter_ops p (suc index) count es

-- a fan invokes the Enter of its first branches by index, and a fan with no branch its Join
abbrev pub fan_ops : {S B : Type 0} → (width : ℕ) → Place → (join : S) → (enters : List S) → List (Op S B)
fan_ops w p j [] = Invoke (join_at j p) ∷ []
fan_ops w p j (e ∷ es) = enter_ops p 0 (suc (length es)) (at_once w (e ∷ es))

-- the end of a branch invokes the branch that is the limit further on, if there is one
abbrev pub pace_ops : {S B : Type 0} → (enter : S) → Parent → (width : ℕ) → List (Op S B)
pace_ops e q zero = []
pace_ops e q (suc w) = cond (nat_lt (q.index + suc w) q.count) (Invoke (enter_at e q.place (q.index + suc w) q.count) ∷ []) []

-- after its Out, the end of a branch lets the next branch begin, and then sets its bit
abbrev pub set_ops : {S B : Type 0} → (enter : S) → (width : ℕ) → Option Parent → List (Op S B)
set_ops e w None = []
set_ops e w (Some q) = pace_ops e q w ++ (Set q.place q.index q.count ∷ [])

-- the limit of the innermost fan
abbrev pub width_around : {S : Type 0} → Code S → Option S → ℕ
width_around code None = 0
width_around code (Some j) = code.width j

-- what is done at a stop. A call has its data saved before its Task is invoked, a fan before its branches are, and an end
-- before anything follows it.
abbrev pub acts_of : {S B : Type 0} → Code S → S → Scope → Stop S → List (Op S B)
acts_of code site s (Call f hop raw used) = Create (Arg (name_at s hop names.Task)) (ArgIs raw used) ∷ Invoke (task_at f s hop) ∷ []
acts_of code site s (Fan j hop raw used es) =
    Create (Saved (at_hop s hop)) (SavedAs (length es) raw used) ∷ fan_ops (code.width j) (at_hop s hop) j es
acts_of code site s (Over o) =
    Create (Out s) (OutcomeIs o) ∷ set_ops (code.enter_of site) (width_around code (code.join_around site)) (parent_of s)

-- where the scope stops after the adopted answer
abbrev pub stop_of : {S : Type 0} → Code S → Invocation S → Kept → Stop S
stop_of code i k = code.after i.site i.name.place.hop k.raw k.used k.answer

-- the acts of an instance, where that is the adopted answer
abbrev pub acts : {S B : Type 0} → Code S → Invocation S → Kept → List (Op S B)
acts code i k = acts_of code i.site (scope_of i.name.place) (stop_of code i k)

-- ---------------------------------------------------------------- what may be collected

-- the outcomes of that many branches, from that index on
abbrev pub out_objects : Place → (index count left : ℕ) → List Obj
out_objects p index count zero = []
out_objects p index count (suc left) = Out (child p index count) ∷ out_objects p (suc index) count left

-- a fan with no branch has no bitmap
abbrev pub bits_objects : Place → ℕ → List Obj
bits_objects p zero = []
bits_objects p (suc k) = Bits p (suc k) ∷ []

-- of an Enter: its data where it is a session's first one, and its Check
abbrev pub due_at_enter : Name → Option Parent → List Obj
due_at_enter n None = Arg n ∷ Check n ∷ []
due_at_enter n (Some q) = Check n ∷ []

-- of a Join: the outcomes of its branches, what its fan saved, and its bitmap
abbrev pub due_by_kind : Name → (count : ℕ) → Kind → List Obj
due_by_kind n count names.Enter = due_at_enter n (parent_of (scope_of n.place))
due_by_kind n count names.Task = Arg n ∷ Check n ∷ []
due_by_kind n count names.Join = out_objects n.place 0 count count ++ (Saved n.place ∷ (bits_objects n.place count ++ Check n ∷ []))

-- the objects that nobody reads once all acts of a name are done, its own Check last
abbrev pub due_objects : Name → (count : ℕ) → List Obj
due_objects n count = due_by_kind n count n.kind
