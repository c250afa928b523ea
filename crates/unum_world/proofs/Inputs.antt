-- What a branch's Enter reads gives it its input, since the reply is the world's.
use Rattle.std.proofs.Common.{ℕ, ◌≡◌, sym, ap, ap₂, ◌∙◌, subst, Bool, List, slice_get, Option, Some, None}
use Rattle.std.specs.Prelude.{IsSome}
use Rattle.place_name.specs.declared.obj.Obj.{Obj}
use Rattle.place_name.specs.declared.obj.Obj.TheVariants.{Saved}
use Rattle.place_name.specs.Names.{Parent, scope_of}
use Rattle.unum_ir.specs.declared.ir.Ir.{Ir}
use Rattle.world_types.specs.declared.queue.Attempt.{Attempt}
use Rattle.world_model.specs.AnyCode.Names.{parent_of}
use Rattle.world_model.specs.AnyCode.Code.{Json, Used, Code, flags}
use Rattle.world_model.specs.AnyCode.Operations.{Held, Condition, Absent, Live, Tombstone, SavedAs, Invocation, Look, Reply, WasLive, Finished}
use Rattle.world_model.specs.AnyCode.Program.{Phase, Reading, Doing, Do, source, source_in, next_of}
use Rattle.world_model.specs.AnyCode.World.{look_reply, reply_to}
use Rattle.continuation_gen.specs.Coded.{code_of_ir}
use Rattle.checkpoint_store.specs.Entries.{objects_of}
use Rattle.unum_hub.specs.Holding.{NumberedOp}
use Rattle.fn_wrapper.specs.Ready.{HasInput, input_by}
use Rattle.unum_world.specs.declared.opening.Opening.{Opening}
use Rattle.unum_world.specs.declared.world_state.WorldState.{WorldState}
use Rattle.unum_world.specs.Kept.{Holds}
use Rattle.unum_world.specs.Instances.{Runs, IsGiven, doing_at}

was_live : (c : Condition (List Bool)) (h : Held (List Bool)) → look_reply c ≡ WasLive h → c ≡ Live h
was_live Absent h e = absurd (cc)
was_live (Live g) h e = cc
was_live Tombstone h e = absurd (cc)

op_is : (x y : NumberedOp) → ◌≡◌ {A = Doing ℕ (List Bool)} (Do x) (Do y) → x ≡ y
op_is x y e = cc

-- an instance that reads looks where its name says
looks_where : (code : Code ℕ) (i : Invocation ℕ) (ph : Phase) (op : NumberedOp) → next_of code i ph ≡ Do op → ph ≡ Reading → Look (source i.name) ≡ op
unfolding next_of
looks_where code i ph op n e = op_is (Look (source i.name)) op (ap (next_of code i) (sym e) ∙ n)

-- the reply is what its fan saved
given_by : (code : Code ℕ) (i : Invocation ℕ) (ph : Phase) (op : NumberedOp) (objects : Obj → Condition (List Bool)) → next_of code i ph ≡ Do op →
    ((q : Parent) (count : ℕ) (raw : Json) (used : Used) → parent_of (scope_of i.name.place) ≡ Some q →
    objects (Saved q.place) ≡ Live (SavedAs count raw used) → IsSome (input_by code i raw)) →
    HasInput code i ph (reply_to flags objects op)
given_by code i ph op objects n has q count raw used e kind parent reply =
    let there : source i.name ≡ Saved q.place = ap₂ (source_in i.name) kind parent in
    let looks : Look (Saved q.place) ≡ op = ap (λ x. let z : NumberedOp = Look x in z) (sym there) ∙ looks_where code i ph op n e in
    let is : look_reply (objects (Saved q.place)) ≡ WasLive (SavedAs count raw used) = ap (reply_to flags objects) looks ∙ reply in
    has q count raw used parent (was_live (objects (Saved q.place)) (SavedAs count raw used) is)

module _ (o : Opening) (m : WorldState) (h : Holds o m) (a inv : ℕ) (i : Invocation ℕ) (ir : Ir) (r : Runs o m a inv i ir) where
  -- what the store has for a branch gives it its input
  saved_gives : (q : Parent) (count : ℕ) (raw : Json) (used : Used) → parent_of (scope_of i.name.place) ≡ Some q →
      objects_of m.hub.store (Saved q.place) ≡ Live (SavedAs count raw used) → IsSome (input_by (code_of_ir ir) i raw)
  saved_gives q count raw used parent saved =
      subst (λ z. IsSome (input_by (code_of_ir z) i raw)) (sym r.form)
      (h.inputs r.att.inv i q count raw used (record { invocation_is = r.placed.invocation_is; branch_is = parent; saved_is = saved }))

  pub given_at : (op : NumberedOp) → doing_at ir i (slice_get m.hub.queue.atts a) ≡ Do op →
      IsGiven ir i (slice_get m.hub.queue.atts a) (reply_to flags (objects_of m.hub.store) op)
  given_at op d =
      let P : Option Attempt → Type 0 = λ z. IsGiven ir i z (reply_to flags (objects_of m.hub.store) op) in
      subst P (sym r.placed.attempt_is)
      (given_by (code_of_ir ir) i r.att.phase op (objects_of m.hub.store) (ap (doing_at ir i) (sym r.placed.attempt_is) ∙ d) saved_gives)

-- the phase that was taken out has it too
pub given_phase : (ir : Ir) (i : Invocation ℕ) (x : Option Attempt) (t : Attempt) (before : Phase) (reply : Reply (List Bool)) → IsGiven ir i x reply → x ≡ Some t →
    before ≡ t.phase → HasInput (code_of_ir ir) i before reply
given_phase ir i x t before reply g e b =
    let P : Option Attempt → Type 0 = λ z. IsGiven ir i z reply in
    subst (λ z. HasInput (code_of_ir ir) i z reply) (sym b) (subst P e g)

-- an Ack reads nothing
pub ack_given : (ir : Ir) (i : Invocation ℕ) (x : Option Attempt) → IsGiven ir i x Finished
ack_given ir i None = tt
ack_given ir i (Some t) = λ q count raw used e kind parent reply. absurd (let z : ◌≡◌ {A = Reply (List Bool)} Finished (WasLive (SavedAs count raw used)) = reply in cc)
