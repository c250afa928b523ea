-- What holds of every world without mishaps.
use Rattle.world_model.specs.AnyCode.Program as program
use Rattle.world_model.specs.AnyCode.World as worlds
use Rattle.std.proofs.Common.{ℕ, ◌≡◌, inl, inr, refl, sym, ◌∙◌, subst, Bool, true, false, cond, List, [], ◌∷◌, length, slice_get, Option, Some, None}
use Rattle.std.proofs.lemmas.Option.{same_Some}
use Rattle.asl_model.specs.Data.{Text, Json}
use Rattle.asl_model.specs.Names.{Scope, scope_of}
use Rattle.place_name.specs.declared.obj.Obj.{Obj}
use Rattle.place_name.specs.declared.obj.Obj.TheVariants.{Check, Out, Saved}
use Rattle.place_name.specs.Names.{Parent}
use Rattle.world_model.specs.Operations.{Frame, Kept, Invocation, Op, Look, Create, Set, Invoke, Mark, Ack, KeptAs}
use Rattle.world_model.specs.Acts.{parent_of, join_of, acts, stop_of, due_objects}
use Rattle.world_model.specs.Program.{Phase, Looking, Saving, Gathering, Reading, Calling, Creating, Acting, Joining, Marking, Acking, AttemptOver, Do, doing, marking, joining, asking, call_of, source, next_of}
use Rattle.world_model.specs.World.{Opening, Entry, InvState, Attempt, World, Event, stepped_world, effect, enabled, run_from, start}
use Rattle.asl_model.specs.Names.{child}
use Rattle.world_model.proofs.Keeps.{WorldKeeps, PhaseOk, OpOk, adopted_stop, acts_ok}
use Rattle.world_model.proofs.Every.{run_none, phase_of, effect_ok}
use Rattle.world_model.proofs.Marks.{Both, effect_left, start_both}
use Rattle.calm_worlds.specs.Calm.{IsCalm, AreCalm, IsSingle, EveryCalmWorldIsSingle}
use Rattle.calm_worlds.proofs.Events.{Handles, by_event}
use Rattle.calm_worlds.proofs.Calms.{WorldCalm, AcksOver, did_calm, asked_calm, delivered_calm, start_calm}
use Rattle.calm_worlds.proofs.Sole.{WorldSole}
use Rattle.calm_worlds.proofs.SoleSteps.{step_sole, asked_sole, delivered_sole, start_sole}
use Rattle.calm_worlds.proofs.There.{WorldThere, step_there, asked_there, delivered_there, start_there}

-- ---------------------------------------------------------------- a step keeps the counts

acks_ok : (o : Opening) (j : List Entry) (s : Scope) (i : Invocation) (a : ℕ) (p : Phase) (op : Op) → OpOk o j s op → AcksOver i a p op
acks_ok o j s i a p (Look x) h = tt
acks_ok o j s i a p (Create x y) h = tt
acks_ok o j s i a p (Set q x y) h = tt
acks_ok o j s i a p (Invoke v) h = tt
acks_ok o j s i a p (Mark x) h = tt
acks_ok o j s i a p Ack h = absurd h

module _ (w : World) (K : WorldKeeps w) (C : WorldCalm w) (a : ℕ) (t : Attempt) (found : slice_get w.atts a ≡ Some t) (i : Invocation) (at : slice_get w.invs t.inv ≡ Some i) where
  did_op : (p : Phase) (op : Op) → AcksOver i a p op → WorldCalm (stepped_world w a t i p (Do op))
  did_op p op h = did_calm w K C a t found i at p op h

  acting_calm : (k : Kept) (m : ℕ) → PhaseOk w.opening w.journal a i (Acting k m) → (z : Option Op) → slice_get (acts i k) m ≡ z → WorldCalm (stepped_world w a t i (Acting k m) (doing z))
  acting_calm k m d None e = C
  acting_calm k m d (Some op) e =
      did_op (Acting k m) op (acks_ok w.opening w.journal (scope_of i.name.place) i a (Acting k m) op
      (acts_ok w.opening w.journal i (stop_of i.site i.name.place.hop k) m op (adopted_stop w.opening w.journal i k (K.made t.inv i at) d) e))

  joining_calm : (k : Kept) (z : Option Parent) (around : List Frame) → WorldCalm (stepped_world w a t i (Joining k) (joining z around))
  joining_calm k None around = C
  joining_calm k (Some q) [] = C
  joining_calm k (Some q) (f ∷ around) = did_op (Joining k) (Invoke (join_of f around q.place)) tt

  marking_calm : (k : Kept) (m : ℕ) (z : Option Obj) → WorldCalm (stepped_world w a t i (Marking k m) (marking z))
  marking_calm k m None = C
  marking_calm k m (Some x) = did_op (Marking k m) (Mark x) tt

  asking_calm : (p : Phase) (z : Option (Text × Json)) → WorldCalm (stepped_world w a t i p (asking z))
  asking_calm p None = C
  asking_calm p (Some c) = C

  step_calm : (p : Phase) → PhaseOk w.opening w.journal a i p → WorldCalm (stepped_world w a t i p (next_of i p))
  unfolding program.next_of program.absorb
  step_calm Looking d = did_op Looking (Look (Check i.name)) tt
  step_calm Saving d = did_op Saving (Look (Saved i.name.place)) tt
  step_calm (Gathering count raw used outs) d = did_op (Gathering count raw used outs) (Look (Out (child i.name.place (length outs) count))) tt
  step_calm Reading d = did_op Reading (Look (source i)) tt
  step_calm (Calling raw used) d = asking_calm (Calling raw used) (call_of i.site raw)
  step_calm (Creating k) d = did_op (Creating k) (Create (Check i.name) (KeptAs k)) tt
  step_calm (Acting k m) d = acting_calm k m d (slice_get (acts i k) m) refl
  step_calm (Joining k) d = joining_calm k (parent_of (scope_of i.name.place)) i.site.around
  step_calm (Marking k m) d = marking_calm k m (slice_get (due_objects i.name k.count) m)
  step_calm (Acking finished) d = did_op (Acking finished) Ack (λ v. tt)
  step_calm (AttemptOver finished) d = C

-- ---------------------------------------------------------------- all of it

pub record Good (w : World) : Type 0 where
  pub both : Both w
  pub calm : WorldCalm w
  pub sole : WorldSole w
  pub there : WorldThere w

abbrev Rest : World → ℕ → Type 0
Rest w m = WorldCalm w × WorldSole w × WorldThere w

-- a message is tried at most once
pub not_eight : (w : World) → WorldCalm w → (k : ℕ) (s : InvState) → slice_get w.states k ≡ Some s → s.tries ≡ 8 → ⊥
not_eight w C k s e q = elim (C.each k s e).tried [ inl z ↦ (let y : ◌≡◌ {A = ℕ} 8 0 = sym q ∙ z in cc) | inr z ↦ (let y : ◌≡◌ {A = ℕ} 8 1 = sym q ∙ z.0 in cc) ]

handles : (w : World) → Good w → Handles w Rest
handles w G =
    let K : WorldKeeps w = G.both.keeps in
    record {
      deliver = λ k s e q idle. (delivered_calm w G.calm k s e q idle, delivered_sole w G.sole k s, delivered_there w K G.there k s);
      step = λ a t i found live at d.
          let ok = phase_of w K a t i found at in (
            step_calm w K G.calm a t found i at t.phase ok,
            step_sole w K G.sole G.calm.one a t i found at ok,
            step_there w K G.there a t found G.both.leaves i at ok,
          );
      answer = λ a t i found live at d. (asked_calm w K G.calm a t found i (next_of i t.phase), asked_sole w G.sole a t i found, asked_there w K G.there a t found i);
      give_up = λ k s e q. absurd (not_eight w G.calm k s e q);
    }

pub good_event : (w : World) → Good w → (e : Event) → enabled w e ≡ true → IsCalm w e → Good (effect w e)
good_event w G e q c =
    let (x, y, z) = by_event w Rest (handles w G) e q c in
    record { both = record { keeps = effect_ok w G.both.keeps e; leaves = effect_left w G.both.keeps G.both.leaves e }; calm = x; sole = y; there = z }

pub start_good : (o : Opening) → Good (start o)
start_good o = record { both = start_both o; calm = start_calm o; sole = start_sole o; there = start_there o }

pub run_good : (es : List Event) (w v : World) → Good w → AreCalm w es → run_from (Some w) es ≡ Some v → Good v
unfolding worlds.run_from
run_good [] w v G c e = subst Good (same_Some w v e) G
run_good (x ∷ es) w v G c e = go (λ g q. run_good es (effect w x) v g c.1 q) (enabled w x) refl e
  where
    go : (Good (effect w x) → run_from (Some (effect w x)) es ≡ Some v → Good v) → (b : Bool) → enabled w x ≡ b → run_from (cond b (Some (effect w x)) None) es ≡ Some v → Good v
    go r true b q = r (good_event w G x b c.0) q
    go r false b q = absurd (run_none es v q)

-- an attempt of each name
pub one_name : (w : World) → Good w → (a b : ℕ) (t u : Attempt) (i v : Invocation) → slice_get w.atts a ≡ Some t → slice_get w.atts b ≡ Some u → slice_get w.invs t.inv ≡ Some i → slice_get w.invs u.inv ≡ Some v → i.name ≡ v.name → a ≡ b
one_name w G a b t u i v e f g h q = G.calm.one a b t u e f (G.sole.names t.inv u.inv i v g h q)

pub good_single : (w : World) → Good w → IsSingle w
good_single w G = record { invocations = G.sole.names; attempts = one_name w G; alive = λ k q e. (G.calm.each k q e).alive }

pub every_calm_world_is_single : EveryCalmWorldIsSingle
every_calm_world_is_single o es w e c = good_single w (run_good es (start o) w (start_good o) c e)
