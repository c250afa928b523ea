-- Where what is next is the call of a function.
use Rattle.std.proofs.Common.{◌≡◌, ℕ, Bool, List, Option, Some, None, refl, sym, subst}
use Rattle.std.proofs.lemmas.Bool.{false≢true}
use Rattle.std.specs.Prelude.{slice_get, IsSome}
use Rattle.place_name.specs.Names.{Parent, scope_of}
use Rattle.place_name.specs.declared.obj.Obj.{Obj}
use Rattle.world_model.specs.AnyCode.Names.{parent_of}
use Rattle.world_model.specs.AnyCode.Code.{Text, Json, Used, Code}
use Rattle.world_model.specs.AnyCode.Operations.{Invocation, Op}
use Rattle.world_model.specs.AnyCode.Acts.{acts, due_objects}
use Rattle.world_model.specs.AnyCode.Program.{Phase, Looking, Saving, Gathering, Reading, Calling, Creating, Acting, Joining, Marking}
use Rattle.world_model.specs.AnyCode.Program.{Acking, AttemptOver, asking, doing, marking, joining, next_of}
use Rattle.fn_wrapper.specs.Ready.{IsReady, IsAsk}

some_asks : (c : Option (Text × Json)) → IsSome c → IsAsk (asking c)
some_asks (Some c) h = tt
some_asks None h = absurd (false≢true h)

pub asks_at : (code : Code ℕ) (i : Invocation ℕ) (ph : Phase) (raw : Json) (used : Used) → IsReady code i ph → ph ≡ Calling raw used →
    IsAsk (next_of code i ph)
unfolding next_of
asks_at code i ph raw used h e =
    subst (λ (x : Phase). IsAsk (next_of code i x)) (sym e) (some_asks (code.call_of i.site raw) (h.calls raw used e))

act_asks_none : (op : Option (Op ℕ (List Bool))) → IsAsk (doing op) → ⊥
act_asks_none (Some op) h = h
act_asks_none None h = h

mark_asks_none : (o : Option Obj) → IsAsk (marking o) → ⊥
mark_asks_none (Some o) h = h
mark_asks_none None h = h

join_asks_none : (q : Option Parent) (j : Option ℕ) → IsAsk (joining q j) → ⊥
join_asks_none None j h = h
join_asks_none (Some q) None h = h
join_asks_none (Some q) (Some j) h = h

pub asks_not : (code : Code ℕ) (i : Invocation ℕ) (ph : Phase) → ((raw : Json) (used : Used) → ph ≡ Calling raw used → ⊥) →
    IsAsk (next_of code i ph) → ⊥
unfolding next_of
asks_not code i Looking n h = h
asks_not code i Saving n h = h
asks_not code i (Gathering count raw used outs) n h = h
asks_not code i Reading n h = h
asks_not code i (Calling raw used) n h = n raw used refl
asks_not code i (Creating k) n h = h
asks_not code i (Acting k m) n h = act_asks_none (slice_get (acts code i k) m) h
asks_not code i (Joining k) n h = join_asks_none (parent_of (scope_of i.name.place)) (code.join_around i.site) h
asks_not code i (Marking k m) n h = mark_asks_none (slice_get (due_objects i.name k.count) m) h
asks_not code i (Acking finished) n h = h
asks_not code i (AttemptOver finished) n h = h
