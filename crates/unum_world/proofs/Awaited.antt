-- An attempt that may be answered is to ask.
use Rattle.std.proofs.Common.{ℕ, ◌≡◌, refl, sym, ap, ◌∙◌, Bool, true, false, ◌&&◌, List, Some, None}
use Rattle.unum_ir.specs.declared.ir.Ir.{Ir}
use Rattle.world_model.specs.AnyCode.Code.{Text, Json}
use Rattle.world_model.specs.AnyCode.Operations.{Invocation}
use Rattle.world_model.specs.AnyCode.Program.{Doing, Do, Ask, Nothing, next_of}
use Rattle.world_model.specs.AnyCode.World.{Answer, code_of, att_lets, is_ask, enabled}
use Rattle.unum_world.specs.declared.opening.Opening.{Opening}
use Rattle.unum_world.specs.declared.world_state.WorldState.{WorldState}
use Rattle.unum_world.specs.Openings.{codes_of}
use Rattle.unum_world.specs.Traces.{world_of}
use Rattle.unum_world.specs.Kept.{Holds}
use Rattle.unum_world.specs.Instances.{Runs, next_at}
use Rattle.unum_world.proofs.Givens.{next_is}

-- what is equal is so in each part
pub along : {A B : Type 0} {x y : A} → x ≡ y → (f : A → B) → f x ≡ f y
along e f = ap f e

-- an Ask is a call
pub must_ask : (d : Doing ℕ (List Bool)) → is_ask d ≡ true → ((resource : Text) (input : Json) → d ≡ Ask resource input → ⊥) → ⊥
must_ask (Do op) e f = absurd (cc)
must_ask (Ask r x) e f = f r x refl
must_ask Nothing e f = absurd (cc)

and_true : (a b : Bool) → a && b ≡ true → b ≡ true
and_true true b e = e
and_true false b e = absurd (cc)

module _ (o : Opening) (m : WorldState) (h : Holds o m) (a inv : ℕ) (i : Invocation ℕ) (ir : Ir) (r : Runs o m a inv i ir) where
  -- what an attempt does next is the call of a function, where it may be answered
  pub asks : enabled (codes_of o) (world_of o m) (Answer a) ≡ true → is_ask (next_at ir i m.hub.queue a) ≡ true
  unfolding enabled
  asks e =
      let l = and_true r.att.live _ (ap (att_lets (codes_of o) (world_of o m) is_ask) (sym r.placed.attempt_is) ∙ e) in
      let d : is_ask (next_of {B = List Bool} (code_of (codes_of o) i) i r.att.phase) ≡ true =
      ap (λ z. elim z [ None ↦ false | Some j ↦ is_ask (next_of {B = List Bool} (code_of (codes_of o) j) j r.att.phase) ]) (sym r.placed.invocation_is) ∙ l in
      ap is_ask (sym (next_is o m h a inv i ir r _ refl)) ∙ d
