-- Without mishaps each invocation has at most one attempt, and none is given up.
use Rattle.std.proofs.Common.{ℕ, suc, ◌<◌, ◌≡◌, ◌⊎◌, inl, inr, refl, sym, ap, ◌∙◌, subst, true, false, List, [], ◌∷◌, ◌++◌, length, slice_get, slice_set, Option, Some, None, arith}
use Rattle.std.proofs.lemmas.Option.{same_Some}
use Rattle.std.proofs.lemmas.Bool.Decides.{eqb_tells}
use Rattle.fn_table.specs.declared.kind.FnKind.{FnKind}
use Rattle.fn_table.specs.Answers.{answer}
use Rattle.asl_model.specs.Data.{Json}
use Rattle.asl_model.specs.Names.{Place}
use Rattle.place_name.specs.declared.obj.Obj.{Obj}
use Rattle.place_name.specs.declared.obj.Obj.TheVariants.{Bits}
use Rattle.world_model.specs.Operations.{Held, Condition, Absent, Live, Tombstone, Invocation, Op, Look, Create, Set, Invoke, Mark, Ack}
use Rattle.world_model.specs.Program.{Phase, Looking, AttemptOver, Doing, Do, Ask, Nothing, absorb, called_phase}
use Rattle.world_model.specs.World.{Opening, InvState, Attempt, World, function_of, created_world, marked_world, with_bit, fresh_state, state_after_ack, with_state, performed_world, moved_world, stepped_world, asked_world, answered_world, delivered_world, start, reply_to}
use Rattle.world_model.proofs.Gets.{get_append, get_pushed, get_set, set_get, get_last, get_pushed_at, place_of, set_own}
use Rattle.world_model.proofs.Keeps.{WorldKeeps}
use Rattle.world_model.proofs.Every.{other_get}
use Rattle.world_model.proofs.Finishes.{same_attempts}
use Rattle.world_model.proofs.Queues.{roots_fresh}
use Rattle.calm_worlds.specs.Calm.{IsIdle}

pub record HasAttempt (atts : List Attempt) (k : ℕ) : Type 0 where
  pub number : ℕ
  pub attempt : Attempt
  pub attempt_is : slice_get atts number ≡ Some attempt
  pub inv_is : attempt.inv ≡ k

-- an invocation is tried at most once, and lives until it is acknowledged
pub record StateCalm (atts : List Attempt) (k : ℕ) (s : InvState) : Type 0 where
  pub alive : s.dead ≡ false
  pub tried : (s.tries ≡ 0) ⊎ ((s.tries ≡ 1) × HasAttempt atts k)
  pub lives : s.acked ≡ false → (a : ℕ) (t : Attempt) → slice_get atts a ≡ Some t → t.inv ≡ k → t.live ≡ true

abbrev pub OneAttempt : List Attempt → Type 0
OneAttempt atts = (a b : ℕ) (t u : Attempt) → slice_get atts a ≡ Some t → slice_get atts b ≡ Some u → t.inv ≡ u.inv → a ≡ b

abbrev pub IsOver : Phase → Type 0
IsOver (AttemptOver finished) = Unit {0}
IsOver _ = ⊥

pub record Calm (states : List InvState) (atts : List Attempt) : Type 0 where
  pub each : (k : ℕ) (s : InvState) → slice_get states k ≡ Some s → StateCalm atts k s
  pub one : OneAttempt atts
  pub over : (a : ℕ) (t : Attempt) → slice_get atts a ≡ Some t → t.live ≡ false → IsOver t.phase

abbrev pub WorldCalm : World → Type 0
WorldCalm w = Calm w.states w.atts

-- ---------------------------------------------------------------- an attempt moves

has_set : (atts : List Attempt) (a : ℕ) (t u : Attempt) → slice_get atts a ≡ Some t → u.inv ≡ t.inv → (k : ℕ) → HasAttempt atts k → HasAttempt (slice_set atts a u) k
has_set atts a t u found same k h =
    elim (set_get atts a u h.number h.attempt h.attempt_is) [
      | inl p ↦ record { number = h.number; attempt = h.attempt; attempt_is = p; inv_is = h.inv_is }
      | inr q ↦
          let z : t ≡ h.attempt = same_Some t h.attempt (sym found ∙ ap (slice_get atts) (sym q.0) ∙ h.attempt_is) in
          record { number = h.number; attempt = u; attempt_is = q.1; inv_is = same ∙ ap (λ (y : Attempt). y.inv) z ∙ h.inv_is }
    ]

-- an attempt of the changed list, and the one that it was
was_at : (atts : List Attempt) (a : ℕ) (t u : Attempt) → slice_get atts a ≡ Some t → u.inv ≡ t.inv → (b : ℕ) (v : Attempt) → slice_get (slice_set atts a u) b ≡ Some v → (x : Attempt) × (slice_get atts b ≡ Some x) × (x.inv ≡ v.inv)
was_at atts a t u found same b v e =
    elim (get_set atts a u b v e) [
      | inl p ↦ (t, ap (slice_get atts) p.0 ∙ found, sym same ∙ ap (λ (y : Attempt). y.inv) p.1)
      | inr q ↦ (v, q, refl)
    ]

one_set : (atts : List Attempt) (a : ℕ) (t u : Attempt) → slice_get atts a ≡ Some t → u.inv ≡ t.inv → OneAttempt atts → OneAttempt (slice_set atts a u)
one_set atts a t u found same one b c v x e f q =
    let (y, g, p) = was_at atts a t u found same b v e in
    let (z, h, r) = was_at atts a t u found same c x f in
    one b c y z g h (p ∙ q ∙ sym r)

lives_calm : (states : List InvState) (atts : List Attempt) → Calm states atts → (a : ℕ) (t u : Attempt) → slice_get atts a ≡ Some t → u.inv ≡ t.inv → u.live ≡ true → Calm states (slice_set atts a u)
lives_calm states atts C a t u found same l = record {
  each = λ k s e.
      let c : StateCalm atts k s = C.each k s e in
      record {
        alive = c.alive;
        tried = elim c.tried [ inl z ↦ inl z | inr z ↦ inr (z.0, has_set atts a t u found same k z.1) ];
        lives = λ q b v f r. elim (get_set atts a u b v f) [
          | inl p ↦ ap (λ (y : Attempt). y.live) (sym p.1) ∙ l
          | inr p ↦ c.lives q b v p r
        ];
      };
  one = one_set atts a t u found same C.one;
  over = λ b v f q. elim (get_set atts a u b v f) [
    | inl p ↦ absurd (let z : true ≡ false = sym l ∙ ap (λ (y : Attempt). y.live) p.1 ∙ q in cc)
    | inr p ↦ C.over b v p q
  ];
}

-- an attempt acknowledges its invocation
acked_calm : (states : List InvState) (atts : List Attempt) → Calm states atts → (a : ℕ) (t u : Attempt) → slice_get atts a ≡ Some t → u.inv ≡ t.inv → IsOver u.phase → (s : InvState) → slice_get states t.inv ≡ Some s →
    Calm (slice_set states t.inv (state_after_ack s)) (slice_set atts a u)
acked_calm states atts C a t u found same o s here = record {
  each = λ k x e. elim (eqb_tells t.inv k) [
    | inl z ↦
        let g : slice_get (slice_set states t.inv (state_after_ack s)) k ≡ Some (state_after_ack s) = ap (slice_get (slice_set states t.inv (state_after_ack s))) (sym z.1) ∙ set_own states t.inv s (state_after_ack s) here in
        let y : state_after_ack s ≡ x = same_Some (state_after_ack s) x (sym g ∙ e) in
        let c : StateCalm atts t.inv s = C.each t.inv s here in
        subst (StateCalm (slice_set atts a u) k) y (record {
          alive = c.alive;
          tried = elim c.tried [ inl r ↦ inl r | inr r ↦ inr (r.0, has_set atts a t u found same k (record { number = r.1.number; attempt = r.1.attempt; attempt_is = r.1.attempt_is; inv_is = r.1.inv_is ∙ z.1 })) ];
          lives = λ q b v f r. absurd (cc);
        })
    | inr z ↦
        let old : slice_get states k ≡ Some x = elim (get_set states t.inv (state_after_ack s) k x e) [ inl p ↦ absurd (z.1 (sym p.0)) | inr p ↦ p ] in
        let c : StateCalm atts k x = C.each k x old in
        record {
          alive = c.alive;
          tried = elim c.tried [ inl r ↦ inl r | inr r ↦ inr (r.0, has_set atts a t u found same k r.1) ];
          lives = λ q b v f r. elim (get_set atts a u b v f) [
            | inl p ↦ absurd (z.1 (sym same ∙ ap (λ (y : Attempt). y.inv) p.1 ∙ r))
            | inr p ↦ c.lives q b v p r
          ];
        }
  ];
  one = one_set atts a t u found same C.one;
  over = λ b v f q. elim (get_set atts a u b v f) [
    | inl p ↦ subst (λ (y : Attempt). IsOver y.phase) p.1 o
    | inr p ↦ C.over b v p q
  ];
}

-- ---------------------------------------------------------------- a delivery

pushed_has : (atts : List Attempt) (u : Attempt) (k : ℕ) → HasAttempt atts k → HasAttempt (atts ++ u ∷ []) k
pushed_has atts u k h = record { number = h.number; attempt = h.attempt; attempt_is = get_append atts (u ∷ []) h.number h.attempt h.attempt_is; inv_is = h.inv_is }

-- where no attempt lives, an invocation that is not acknowledged has none
none_yet : (w : World) → WorldCalm w → (k : ℕ) (s : InvState) → slice_get w.states k ≡ Some s → s.acked ≡ false → IsIdle w k → (a : ℕ) (t : Attempt) → slice_get w.atts a ≡ Some t → t.inv ≡ k → ⊥
none_yet w C k s e q idle a t f r = let z : true ≡ false = sym ((C.each k s e).lives q a t f r) ∙ idle a t f r in cc

pub delivered_calm : (w : World) → WorldCalm w → (k : ℕ) (s : InvState) → slice_get w.states k ≡ Some s → s.acked ≡ false → IsIdle w k → WorldCalm (delivered_world w k (Some s))
delivered_calm w C k s e q idle =
    let u : Attempt = record { inv = k; live = true; steps = 0; phase = Looking } in
    let v : InvState = record s { tries = suc s.tries; live = suc s.live } in
    let c : StateCalm w.atts k s = C.each k s e in
    let none : (a : ℕ) (t : Attempt) → slice_get w.atts a ≡ Some t → t.inv ≡ k → ⊥ = none_yet w C k s e q idle in
    let first : s.tries ≡ 0 = elim c.tried [ inl z ↦ z | inr z ↦ absurd (none z.1.number z.1.attempt z.1.attempt_is z.1.inv_is) ] in
    record {
      each = λ m x f. elim (eqb_tells k m) [
        | inl z ↦
            let g : slice_get (slice_set w.states k v) m ≡ Some v = ap (slice_get (slice_set w.states k v)) (sym z.1) ∙ set_own w.states k s v e in
            subst (StateCalm (w.atts ++ u ∷ []) m) (same_Some v x (sym g ∙ f)) (record {
              alive = c.alive;
              tried = inr (ap suc first, record { number = length w.atts; attempt = u; attempt_is = get_last w.atts u; inv_is = z.1 });
              lives = λ _ b y h r. elim (get_pushed w.atts u b y h) [
                | inl p ↦ absurd (none b y p (r ∙ sym z.1))
                | inr p ↦ ap (λ (y : Attempt). y.live) (sym p)
              ];
            })
        | inr z ↦
            let old : slice_get w.states m ≡ Some x = elim (get_set w.states k v m x f) [ inl p ↦ absurd (z.1 (sym p.0)) | inr p ↦ p ] in
            let d : StateCalm w.atts m x = C.each m x old in
            record {
              alive = d.alive;
              tried = elim d.tried [ inl r ↦ inl r | inr r ↦ inr (r.0, pushed_has w.atts u m r.1) ];
              lives = λ n b y h r. elim (get_pushed w.atts u b y h) [
                | inl p ↦ d.lives n b y p r
                | inr p ↦ ap (λ (y : Attempt). y.live) (sym p)
              ];
            }
      ];
      one = λ a b t y f g r. elim (get_pushed_at w.atts u a t f) [
        | inl p ↦ elim (get_pushed_at w.atts u b y g) [
          | inl x ↦ C.one a b t y p x r
          | inr x ↦ absurd (none a t p (r ∙ ap (λ (y : Attempt). y.inv) (sym x.1)))
        ]
        | inr p ↦ elim (get_pushed_at w.atts u b y g) [
          | inl x ↦ absurd (none b y x (sym r ∙ ap (λ (y : Attempt). y.inv) (sym p.1)))
          | inr x ↦ p.0 ∙ sym x.0
        ]
      ];
      over = λ a t f r. elim (get_pushed w.atts u a t f) [
        | inl p ↦ C.over a t p r
        | inr p ↦ absurd (let z : true ≡ false = ap (λ (y : Attempt). y.live) p ∙ r in cc)
      ];
    }

-- ---------------------------------------------------------------- an operation

invoked_calm : (w : World) → WorldKeeps w → WorldCalm w → Calm (w.states ++ fresh_state ∷ []) w.atts
invoked_calm w K C = record {
  each = λ k s e. elim (get_pushed_at w.states fresh_state k s e) [
    | inl p ↦ C.each k s p
    | inr p ↦ subst (StateCalm w.atts k) p.1 (record {
      alive = refl;
      tried = inl refl;
      lives = λ q a t f r.
          let d = K.attempts a t f in
          let l : t.inv < length w.invs = place_of w.invs t.inv d.invocation d.found in
          let m : length w.states ≡ length w.invs = K.paired in
          let n : k ≡ length w.states = p.0 in
          absurd (omega arith);
    })
  ];
  one = C.one;
  over = C.over;
}

created_calm : (w : World) (a : ℕ) (y : Obj) (h : Held) (c : Condition) → WorldCalm w → WorldCalm (created_world w a y h c)
created_calm w a y h Absent C = C
created_calm w a y h (Live x) C = C
created_calm w a y h Tombstone C = C

marked_calm : (w : World) (y : Obj) (c : Condition) → WorldCalm w → WorldCalm (marked_world w y c)
marked_calm w y Absent C = C
marked_calm w y (Live x) C = C
marked_calm w y Tombstone C = C

bit_calm : (w : World) (p : Place) (index count : ℕ) (c : Condition) → WorldCalm w → WorldCalm (with_bit w p index count c)
bit_calm w p index count Absent C = C
bit_calm w p index count (Live x) C = C
bit_calm w p index count Tombstone C = C

-- the phase of an attempt that acknowledges is its last
abbrev pub AcksOver : Invocation → ℕ → Phase → Op → Type 0
AcksOver i a p Ack = (w : World) → IsOver (absorb i a p (reply_to w Ack))
AcksOver i a p _ = Unit {0}

module _ (w : World) (K : WorldKeeps w) (C : WorldCalm w) (a : ℕ) (t : Attempt) (found : slice_get w.atts a ≡ Some t) where
  moved_calm : (v : World) (phase : Phase) → WorldCalm v → v.atts ≡ w.atts → WorldCalm (moved_world v a t true phase)
  moved_calm v phase D e = lives_calm v.states v.atts D a t (record { inv = t.inv; live = true; steps = suc t.steps; phase = phase }) (ap (λ z. slice_get z a) e ∙ found) refl refl

  pub did_calm : (i : Invocation) → slice_get w.invs t.inv ≡ Some i → (p : Phase) (op : Op) → AcksOver i a p op → WorldCalm (stepped_world w a t i p (Do op))
  did_calm i at p (Look o) h = moved_calm w (absorb i a p (reply_to w (Look o))) C refl
  did_calm i at p (Create o x) h = moved_calm (performed_world w a t (Create o x)) (absorb i a p (reply_to w (Create o x))) (created_calm w a o x (w.objects o) C) (same_attempts w a t (Create o x))
  did_calm i at p (Set q index count) h = moved_calm (performed_world w a t (Set q index count)) (absorb i a p (reply_to w (Set q index count))) (bit_calm w q index count (w.objects (Bits q count)) C) (same_attempts w a t (Set q index count))
  did_calm i at p (Invoke v) h = moved_calm (performed_world w a t (Invoke v)) (absorb i a p (reply_to w (Invoke v))) (invoked_calm w K C) refl
  did_calm i at p (Mark o) h = moved_calm (performed_world w a t (Mark o)) (absorb i a p (reply_to w (Mark o))) (marked_calm w o (w.objects o) C) (same_attempts w a t (Mark o))
  did_calm i at p Ack h =
      let (s, r) = other_get w.invs w.states t.inv i at (sym K.paired) in
      let u : Attempt = record { inv = t.inv; live = false; steps = suc t.steps; phase = absorb i a p (reply_to w Ack) } in
      subst (λ z. WorldCalm (moved_world (with_state w t.inv state_after_ack z) a t false u.phase)) (sym r) (acked_calm w.states w.atts C a t u found refl (h w) s r)

  answered_calm : (i : Invocation) (x : Json) (f : Option FnKind) → WorldCalm (answered_world w a t i x f)
  answered_calm i x None = C
  answered_calm i x (Some kind) = moved_calm w (called_phase i a t.phase (answer kind x a)) C refl

  pub asked_calm : (i : Invocation) (d : Doing) → WorldCalm (asked_world w a t i d)
  asked_calm i (Do op) = C
  asked_calm i (Ask r x) = answered_calm i x (function_of w.opening.functions r)
  asked_calm i Nothing = C

pub start_calm : (o : Opening) → WorldCalm (start o)
start_calm o = record {
  each = λ k s e. subst (StateCalm [] k) (roots_fresh o.sessions k s e) (record { alive = refl; tried = inl refl; lives = λ q a t f r. absurd (let z : None ≡ Some t = f in cc) });
  one = λ a b t u e f q. absurd (let z : None ≡ Some t = e in cc);
  over = λ a t e q. absurd (let z : None ≡ Some t = e in cc);
}
