-- Where one code is another under other sites, each run of its world is a run of the other's world.
use Rattle.std.proofs.Common.{ℕ, zero, suc, ◌+◌, ◌≡◌, inl, inr, refl, sym, ap, ap₂, ◌∙◌, subst, Bool, true, false, ◌&&◌, cond, List, [], ◌∷◌, ◌++◌, map, slice_get, slice_set, Option, Some, None, option_map, arith}
use Rattle.std.proofs.lemmas.Option.{slice_get-map, same_Some}
use Rattle.std.proofs.lemmas.List.{map-append}
use Rattle.fn_table.specs.declared.kind.FnKind.{FnKind}
use Rattle.place_name.specs.declared.obj.Obj.{Obj}
use Rattle.place_name.specs.declared.obj.Obj.TheVariants.{Check, Out, Saved, Bits, Arg}
use Rattle.place_name.specs.Same.{object_same}
use Rattle.place_name.proofs.Sameness.{object_is}
use Rattle.world_model.specs.AnyCode.Names.{Place}
use Rattle.world_model.specs.AnyCode.Code.{Json, Used, Bitmaps}
use Rattle.world_model.specs.AnyCode.Operations.{Held, KeptAs, OutcomeIs, SavedAs, BitsAre, ArgIs, Condition, Absent, Live, Tombstone, Invocation, Op, Look, Create, Set, Invoke, Mark, Ack, Reply, WasLive, Had, BitFull, BitNotFull}
use Rattle.world_model.specs.AnyCode.Program.{Phase, Doing, Do, Ask, Nothing, next_of, absorb}
use Rattle.world_model.specs.AnyCode.World.{Session, Opening, Entry, InvState, Attempt, World, Event, Deliver, Crash, Step, Answer, GiveUp, Codes, code_of, root_name, root_inv, root_invs, objects_with, start_objects, start, function_of, look_reply, create_reply, bits_or, set_reply, mark_reply, reply_to, entries_of, created_world, marked_world, counted_world, with_bit, state_after_crash, state_after_ack, with_state, performed_world, lives_on, moved_world, stepped_world, answered_world, asked_world, with_inv, with_att, delivered_world, crashed_world, effect, is_do, is_ask, att_lets, enabled, then_event, run_from, run, fresh_state}
use Rattle.world_model.specs.AnyCode.Maps.{Maps, SameBits, count_of, HeldAlike, ConditionAlike, ObjectsAlike, inv_as, image}
use Rattle.world_model.proofs.Gets.{get_pushed}
use Rattle.world_model.proofs.Mapping.{held_as, reply_as, op_as, doing_as, IsNoBitmap, OpIn, DoingIn, next_as, next_in, absorb_less, absorb_as}

module _ {B E : Type 0} (same : ℕ → B → E → Type 0) where
  put_by : (b : Bool) (n m : ℕ) (c : Condition B) (d : Condition E) (x : Condition B) (y : Condition E) → (b ≡ true → n ≡ m) → ConditionAlike same m c d → ConditionAlike same n x y →
      ConditionAlike same n (cond b c x) (cond b d y)
  put_by true n m c d x y e h k = subst (λ (z : ℕ). ConditionAlike same z c d) (sym (e refl)) h
  put_by false n m c d x y e h k = k

  pub put_alike : (o : Obj) (c : Condition B) (d : Condition E) (f : Obj → Condition B) (g : Obj → Condition E) → ConditionAlike same (count_of o) c d → ObjectsAlike same f g → ObjectsAlike same (objects_with o c f) (objects_with o d g)
  unfolding objects_with
  put_alike o c d f g h k = λ x. put_by (object_same x o) (count_of x) (count_of o) c d (f x) (g x) (λ e. ap count_of (object_is x o e)) h (k x)

  -- bits apart, what is alike is the same
  pub held_less : (e : E) (n : ℕ) (h : Held B) (g : Held E) → HeldAlike same n h g → held_as e g ≡ held_as e h
  held_less e n (KeptAs k) (KeptAs l) p = ap KeptAs (sym p)
  held_less e n (OutcomeIs o) (OutcomeIs q) p = ap OutcomeIs (sym p)
  held_less e n (SavedAs c x u) (SavedAs d y v) (p, q, r) =
      ap₂ (λ (z : ℕ) (w : Json). SavedAs z w v) (sym p) (sym q) ∙ ap (λ (z : Used). SavedAs c x z) (sym r)
  held_less e n (BitsAre b) (BitsAre c) p = refl
  held_less e n (ArgIs x u) (ArgIs y v) p = ap₂ (λ (z : Json) (w : Used). ArgIs z w) (sym p.0) (sym p.1)
  held_less e n _ _ p = absurd p

  look_less : (e : E) (n : ℕ) (c : Condition B) (d : Condition E) → ConditionAlike same n c d → reply_as e (look_reply d) ≡ reply_as e (look_reply c)
  look_less e n Absent Absent p = refl
  look_less e n (Live h) (Live g) p = ap WasLive (held_less e n h g p)
  look_less e n Tombstone Tombstone p = refl
  look_less e n _ _ p = absurd p

  create_less : (e : E) (n : ℕ) (c : Condition B) (d : Condition E) → ConditionAlike same n c d → reply_as e (create_reply d) ≡ reply_as e (create_reply c)
  create_less e n Absent Absent p = refl
  create_less e n (Live h) (Live g) p = ap Had (held_less e n h g p)
  create_less e n Tombstone Tombstone p = refl
  create_less e n _ _ p = absurd p

  mark_less : (e : E) (n : ℕ) (c : Condition B) (d : Condition E) → ConditionAlike same n c d → reply_as e (mark_reply d) ≡ reply_as e (mark_reply c)
  mark_less e n Absent Absent p = refl
  mark_less e n (Live h) (Live g) p = refl
  mark_less e n Tombstone Tombstone p = refl
  mark_less e n _ _ p = absurd p

  full_less : (e : E) (a b : Bool) → a ≡ b → reply_as {B = E} e (cond b BitFull BitNotFull) ≡ reply_as {B = B} e (cond a BitFull BitNotFull)
  full_less e true true p = refl
  full_less e false false p = refl
  full_less e true false p = absurd (cc)
  full_less e false true p = absurd (cc)

  module _ (X : Bitmaps B) (Y : Bitmaps E) (bits : SameBits same X Y) where
    bits_alike : (n : ℕ) (h : Held B) (g : Held E) → HeldAlike same n h g → same n (bits_or (X.none n) h) (bits_or (Y.none n) g)
    bits_alike n (KeptAs k) (KeptAs l) p = bits.none n
    bits_alike n (OutcomeIs o) (OutcomeIs q) p = bits.none n
    bits_alike n (SavedAs c x u) (SavedAs d y v) p = bits.none n
    bits_alike n (BitsAre b) (BitsAre c) p = p
    bits_alike n (ArgIs x u) (ArgIs y v) p = bits.none n
    bits_alike n _ _ p = absurd p

    set_less : (e : E) (index n : ℕ) (c : Condition B) (d : Condition E) → ConditionAlike same n c d → reply_as e (set_reply Y index n d) ≡ reply_as e (set_reply X index n c)
    set_less e index n Absent Absent p = full_less e (X.is_full n (X.set index (X.none n))) (Y.is_full n (Y.set index (Y.none n))) (bits.full n (X.set index (X.none n)) (Y.set index (Y.none n)) (bits.set n index (X.none n) (Y.none n) (bits.none n)))
    set_less e index n (Live h) (Live g) p =
        let x : B = bits_or (X.none n) h in
        let y : E = bits_or (Y.none n) g in
        full_less e (X.is_full n (X.set index x)) (Y.is_full n (Y.set index y)) (bits.full n (X.set index x) (Y.set index y) (bits.set n index x y (bits_alike n h g p)))
    set_less e index n Tombstone Tombstone p = refl
    set_less e index n _ _ p = absurd p

-- ---------------------------------------------------------------- worlds

module _ (M S T B E : Type 0) (same : ℕ → B → E → Type 0) (X : Bitmaps B) (Y : Bitmaps E) (bits : SameBits same X Y)
    (h : ℕ → S → T) (good : ℕ → S → Type 0) (C : Codes S) (D : Codes T) (maps : (s : ℕ) → Maps (good s) (C s) (D s) (h s)) where
  none : E
  none = Y.none 0

  abbrev op : Op S B → Op T E
  op x = op_as S T B E none h good C D maps x

  abbrev next_doing : Doing S B → Doing T E
  next_doing x = doing_as S T B E none h good C D maps x

  abbrev InOp : Op S B → Type 0
  InOp x = OpIn S T B E none h good C D maps x

  abbrev InDoing : Doing S B → Type 0
  InDoing x = DoingIn S T B E none h good C D maps x

  -- each invocation is at a good site
  abbrev pub Goods : World M S B → Type 0
  Goods w = (k : ℕ) (i : Invocation S) → slice_get w.invs k ≡ Some i → good i.name.place.session i.site

  -- the other world has come to be the image of this one
  pub record ComesTo (v : World M T E) (w : World M S B) : Type 0 where
    pub objects : Obj → Condition E
    pub alike : ObjectsAlike same w.objects objects
    pub goods : Goods w
    pub is : v ≡ image h w objects

  module _ (w : World M S B) (g : Obj → Condition E) (like : ObjectsAlike same w.objects g) (goods : Goods w) where
    abbrev there : World M T E
    there = image h w g

    stays : ComesTo there w
    stays = record { objects = g; alike = like; goods = goods; is = refl }

    entries_same : (o : Obj) (x : Held B) (a : ℕ) → entries_of o (held_as none x) a ≡ entries_of o x a
    entries_same (Check n) (KeptAs k) a = refl
    entries_same (Check n) (OutcomeIs q) a = refl
    entries_same (Check n) (SavedAs c y u) a = refl
    entries_same (Check n) (BitsAre b) a = refl
    entries_same (Check n) (ArgIs y u) a = refl
    entries_same (Out s) x a = refl
    entries_same (Saved p) x a = refl
    entries_same (Bits p n) x a = refl
    entries_same (Arg n) x a = refl

    plain_alike : (n : ℕ) (x : Held B) → IsNoBitmap S T B E none h good C D maps x → HeldAlike same n x (held_as none x)
    plain_alike n (KeptAs k) p = refl
    plain_alike n (OutcomeIs q) p = refl
    plain_alike n (SavedAs c y u) p = (refl, refl, refl)
    plain_alike n (BitsAre b) p = absurd p
    plain_alike n (ArgIs y u) p = (refl, refl)

    created_as : (a : ℕ) (o : Obj) (x : Held B) → IsNoBitmap S T B E none h good C D maps x → (c : Condition B) (d : Condition E) → ConditionAlike same (count_of o) c d →
        ComesTo (created_world there a o (held_as none x) d) (created_world w a o x c)
    created_as a o x p Absent Absent k = record {
      objects = objects_with o (Live (held_as none x)) g;
      alike = put_alike same o (Live x) (Live (held_as none x)) w.objects g (plain_alike (count_of o) x p) like;
      goods = goods;
      is = ap (λ (l : List Entry). record there { objects = objects_with o (Live (held_as none x)) g; journal = w.journal ++ l }) (entries_same o x a);
    }
    created_as a o x p (Live y) (Live z) k = stays
    created_as a o x p Tombstone Tombstone k = stays
    created_as a o x p _ _ k = absurd k

    marked_as : (o : Obj) (c : Condition B) (d : Condition E) → ConditionAlike same (count_of o) c d → ComesTo (counted_world (marked_world there o d)) (counted_world (marked_world w o c))
    marked_as o Absent Absent k = record { objects = g; alike = like; goods = goods; is = refl }
    marked_as o (Live y) (Live z) k = record { objects = objects_with o Tombstone g; alike = put_alike same o Tombstone Tombstone w.objects g tt like; goods = goods; is = refl }
    marked_as o Tombstone Tombstone k = record { objects = objects_with o Tombstone g; alike = put_alike same o Tombstone Tombstone w.objects g tt like; goods = goods; is = refl }
    marked_as o _ _ k = absurd k

    bit_as : (p : Place) (index n : ℕ) (c : Condition B) (d : Condition E) → ConditionAlike same n c d → ComesTo (with_bit Y there p index n d) (with_bit X w p index n c)
    bit_as p index n Absent Absent k =
        let x : B = X.set index (X.none n) in
        let y : E = Y.set index (Y.none n) in
        record {
          objects = objects_with (Bits p n) (Live (BitsAre y)) g;
          alike = put_alike same (Bits p n) (Live (BitsAre x)) (Live (BitsAre y)) w.objects g (bits.set n index (X.none n) (Y.none n) (bits.none n)) like;
          goods = goods;
          is = refl;
        }
    bit_as p index n (Live u) (Live v) k =
        let x : B = X.set index (bits_or (X.none n) u) in
        let y : E = Y.set index (bits_or (Y.none n) v) in
        record {
          objects = objects_with (Bits p n) (Live (BitsAre y)) g;
          alike = put_alike same (Bits p n) (Live (BitsAre x)) (Live (BitsAre y)) w.objects g (bits.set n index (bits_or (X.none n) u) (bits_or (Y.none n) v) (bits_alike same X Y bits n u v k)) like;
          goods = goods;
          is = refl;
        }
    bit_as p index n Tombstone Tombstone k = stays
    bit_as p index n _ _ k = absurd k

    invoked_as : (i : Invocation S) → good i.name.place.session i.site →
        ComesTo (record there { invs = there.invs ++ inv_as h i ∷ []; states = w.states ++ fresh_state ∷ [] }) (record w { invs = w.invs ++ i ∷ []; states = w.states ++ fresh_state ∷ [] })
    invoked_as i p = record {
      objects = g;
      alike = like;
      goods = λ k j e. elim (get_pushed w.invs i k j e) [ inl q ↦ goods k j q | inr q ↦ subst (λ (z : Invocation S). good z.name.place.session z.site) q p ];
      is = ap (λ (l : List (Invocation T)). record there { invs = l; states = w.states ++ fresh_state ∷ [] }) (sym (map-append (inv_as h) w.invs (i ∷ [])));
    }

    state_as : (n : ℕ) (f : InvState → InvState) (s : Option InvState) → ComesTo (with_state there n f s) (with_state w n f s)
    state_as n f None = stays
    state_as n f (Some s) = record { objects = g; alike = like; goods = goods; is = refl }

    performed : (a : ℕ) (t : Attempt) (x : Op S B) → InOp x → ComesTo (performed_world Y there a t (op x)) (performed_world X w a t x)
    performed a t (Look o) p = stays
    performed a t (Create o x) p = created_as a o x p (w.objects o) (g o) (like o)
    performed a t (Set q index n) p = bit_as q index n (w.objects (Bits q n)) (g (Bits q n)) (like (Bits q n))
    performed a t (Invoke i) p = invoked_as i p
    performed a t (Mark o) p = marked_as o (w.objects o) (g o) (like o)
    performed a t Ack p = state_as t.inv state_after_ack (slice_get w.states t.inv)

    replied : (x : Op S B) → reply_as none (reply_to Y g (op x)) ≡ reply_as none (reply_to X w.objects x)
    replied (Look o) = look_less same none (count_of o) (w.objects o) (g o) (like o)
    replied (Create o x) = create_less same none (count_of o) (w.objects o) (g o) (like o)
    replied (Set q index n) = set_less same X Y bits none index n (w.objects (Bits q n)) (g (Bits q n)) (like (Bits q n))
    replied (Invoke i) = refl
    replied (Mark o) = mark_less same none (count_of o) (w.objects o) (g o) (like o)
    replied Ack = refl

    lives_as : (x : Op S B) → lives_on (op x) ≡ lives_on x
    lives_as (Look o) = refl
    lives_as (Create o x) = refl
    lives_as (Set q index n) = refl
    lives_as (Invoke i) = refl
    lives_as (Mark o) = refl
    lives_as Ack = refl

  -- an attempt moves in both
  moved_as : (v : World M T E) (w : World M S B) → ComesTo v w → (a : ℕ) (t : Attempt) (b c : Bool) (p q : Phase) → b ≡ c → p ≡ q → ComesTo (moved_world v a t b p) (moved_world w a t c q)
  moved_as v w k a t b c p q e f = record {
    objects = k.objects;
    alike = k.alike;
    goods = k.goods;
    is = ap₂ (λ (x : Bool) (y : Phase). moved_world v a t x y) e f ∙ ap (λ (z : World M T E). moved_world z a t c q) k.is;
  }

  module _ (w : World M S B) (g : Obj → Condition E) (like : ObjectsAlike same w.objects g) (goods : Goods w) where
    abbrev thence : World M T E
    thence = image h w g

    did_as : (a : ℕ) (t : Attempt) (i : Invocation S) → good i.name.place.session i.site → (ph : Phase) (d : Doing S B) → InDoing d → ComesTo (stepped_world Y D thence a t (inv_as h i) ph (next_doing d)) (stepped_world X C w a t i ph d)
    did_as a t i k ph (Do x) p =
        let r : Reply B = reply_to X w.objects x in
        let q : Reply E = reply_to Y g (op x) in
        let s : ℕ = i.name.place.session in
        let same_phase : absorb (D s) (inv_as h i) a ph q ≡ absorb (C s) i a ph r =
        sym (absorb_less none (D s) (inv_as h i) a ph q) ∙ ap (absorb (D s) (inv_as h i) a ph) (replied w g like goods x) ∙ absorb_as S T B E none h good C D maps i k a ph r in
        moved_as (performed_world Y thence a t (op x)) (performed_world X w a t x) (performed w g like goods a t x p) a t (lives_on (op x)) (lives_on x)
        (absorb (D s) (inv_as h i) a ph q) (absorb (C s) i a ph r) (lives_as w g like goods x) same_phase
    did_as a t i k ph (Ask r x) p = stays w g like goods
    did_as a t i k ph Nothing p = stays w g like goods

    answered_as : (a : ℕ) (t : Attempt) (x : Json) (k : Option FnKind) → ComesTo (answered_world thence a t x k) (answered_world w a t x k)
    answered_as a t x None = stays w g like goods
    answered_as a t x (Some k) = record { objects = g; alike = like; goods = goods; is = refl }

    asked_as : (a : ℕ) (t : Attempt) (d : Doing S B) → ComesTo (asked_world thence a t (next_doing d)) (asked_world w a t d)
    asked_as a t (Do x) = stays w g like goods
    asked_as a t (Ask r x) = answered_as a t x (function_of w.opening.functions r)
    asked_as a t Nothing = stays w g like goods

    delivered_as : (i : ℕ) (s : Option InvState) → ComesTo (delivered_world thence i s) (delivered_world w i s)
    delivered_as i None = stays w g like goods
    delivered_as i (Some s) = record { objects = g; alike = like; goods = goods; is = refl }

    crashed_as : (a : ℕ) (t : Attempt) → ComesTo (crashed_world thence a t) (crashed_world w a t)
    crashed_as a t = state_as (record w { atts = slice_set w.atts a (record t { live = false }) }) g like goods t.inv state_after_crash (slice_get w.states t.inv)

    -- what an attempt does next, at its invocation
    at_inv : (t : Attempt) (F : Invocation T → World M T E) (G : Invocation S → World M S B) → ((i : Invocation S) → good i.name.place.session i.site → ComesTo (F (inv_as h i)) (G i)) →
        (z : Option (Invocation S)) → slice_get w.invs t.inv ≡ z → ComesTo (with_inv thence t F (option_map (inv_as h) z)) (with_inv w t G z)
    at_inv t F G k None e = stays w g like goods
    at_inv t F G k (Some i) e = k i (goods t.inv i e)

    inv_there : (t : Attempt) → slice_get thence.invs t.inv ≡ option_map (inv_as h) (slice_get w.invs t.inv)
    inv_there t = slice_get-map (inv_as h) w.invs t.inv

    stepped : (a : ℕ) (z : Option Attempt) → ComesTo (with_att thence (λ t. with_inv thence t (λ i. stepped_world Y D thence a t i t.phase (next_of (code_of D i) i t.phase)) (slice_get thence.invs t.inv)) z)
        (with_att w (λ t. with_inv w t (λ i. stepped_world X C w a t i t.phase (next_of (code_of C i) i t.phase)) (slice_get w.invs t.inv)) z)
    stepped a None = stays w g like goods
    stepped a (Some t) =
        let F : Invocation T → World M T E = λ i. stepped_world Y D thence a t i t.phase (next_of (code_of D i) i t.phase) in
        let G : Invocation S → World M S B = λ i. stepped_world X C w a t i t.phase (next_of (code_of C i) i t.phase) in
        subst (λ (z : Option (Invocation T)). ComesTo (with_inv thence t F z) (with_inv w t G (slice_get w.invs t.inv))) (sym (inv_there t))
        (at_inv t F G
        (λ i k. subst (λ (d : Doing T E). ComesTo (stepped_world Y D thence a t (inv_as h i) t.phase d) (G i)) (sym (next_as S T B E none h good C D maps i k t.phase))
        (did_as a t i k t.phase (next_of (code_of C i) i t.phase) (next_in S T B E none h good C D maps i k t.phase)))
        (slice_get w.invs t.inv) refl)

    replied_to : (a : ℕ) (z : Option Attempt) → ComesTo (with_att thence (λ t. with_inv thence t (λ i. asked_world thence a t (next_of (code_of D i) i t.phase)) (slice_get thence.invs t.inv)) z)
        (with_att w (λ t. with_inv w t (λ i. asked_world w a t (next_of (code_of C i) i t.phase)) (slice_get w.invs t.inv)) z)
    replied_to a None = stays w g like goods
    replied_to a (Some t) =
        let F : Invocation T → World M T E = λ i. asked_world thence a t (next_of (code_of D i) i t.phase) in
        let G : Invocation S → World M S B = λ i. asked_world w a t (next_of (code_of C i) i t.phase) in
        subst (λ (z : Option (Invocation T)). ComesTo (with_inv thence t F z) (with_inv w t G (slice_get w.invs t.inv))) (sym (inv_there t))
        (at_inv t F G
        (λ i k. subst (λ (d : Doing T E). ComesTo (asked_world thence a t d) (G i)) (sym (next_as S T B E none h good C D maps i k t.phase)) (asked_as a t (next_of (code_of C i) i t.phase)))
        (slice_get w.invs t.inv) refl)

    crash_at : (a : ℕ) (z : Option Attempt) → ComesTo (with_att thence (λ t. crashed_world thence a t) z) (with_att w (λ t. crashed_world w a t) z)
    crash_at a None = stays w g like goods
    crash_at a (Some t) = crashed_as a t

    pub effect_as : (e : Event) → ComesTo (effect Y D thence e) (effect X C w e)
    unfolding effect
    effect_as (Deliver i) = delivered_as i (slice_get w.states i)
    effect_as (Crash a) = crash_at a (slice_get w.atts a)
    effect_as (Step a) = stepped a (slice_get w.atts a)
    effect_as (Answer a) = replied_to a (slice_get w.atts a)
    effect_as (GiveUp i) = state_as w g like goods i (λ s. record s { dead = true }) (slice_get w.states i)

    -- ---------------------------------------------------------------- where an event may happen

    lets_inv : (p : Doing T E → Bool) (q : Doing S B → Bool) → ((d : Doing S B) → p (next_doing d) ≡ q d) → (t : Attempt) (z : Option (Invocation S)) → slice_get w.invs t.inv ≡ z →
        ◌≡◌ {A = Bool} (elim (option_map (inv_as h) z) [ None ↦ false | Some i ↦ p (next_of (code_of D i) i t.phase) ]) (elim z [ None ↦ false | Some i ↦ q (next_of (code_of C i) i t.phase) ])
    lets_inv p q k t None e = refl
    lets_inv p q k t (Some i) e = ap p (next_as S T B E none h good C D maps i (goods t.inv i e) t.phase) ∙ k (next_of (code_of C i) i t.phase)

    lets_as : (p : Doing T E → Bool) (q : Doing S B → Bool) → ((d : Doing S B) → p (next_doing d) ≡ q d) → (z : Option Attempt) → att_lets D thence p z ≡ att_lets C w q z
    lets_as p q k None = refl
    lets_as p q k (Some t) =
        let P : Option (Invocation T) → Bool = λ z. t.live && elim z [ None ↦ false | Some i ↦ p (next_of (code_of D i) i t.phase) ] in
        ap P (inv_there t) ∙ ap (λ (b : Bool). t.live && b) (lets_inv p q k t (slice_get w.invs t.inv) refl)

    do_same : (d : Doing S B) → is_do (next_doing d) ≡ is_do d
    do_same (Do x) = refl
    do_same (Ask r x) = refl
    do_same Nothing = refl

    ask_same : (d : Doing S B) → is_ask (next_doing d) ≡ is_ask d
    ask_same (Do x) = refl
    ask_same (Ask r x) = refl
    ask_same Nothing = refl

    pub enabled_as : (e : Event) → enabled D thence e ≡ enabled C w e
    unfolding enabled
    enabled_as (Deliver i) = refl
    enabled_as (Crash a) = refl
    enabled_as (Step a) = lets_as is_do is_do do_same (slice_get w.atts a)
    enabled_as (Answer a) = lets_as is_ask is_ask ask_same (slice_get w.atts a)
    enabled_as (GiveUp i) = refl

  -- ---------------------------------------------------------------- runs

  run_none : (es : List Event) (w : World M S B) → run_from X C None es ≡ Some w → ⊥
  unfolding run_from
  run_none [] w e = cc
  run_none (x ∷ es) w e = run_none es w e

  none_run : (es : List Event) (w : World M T E) → run_from Y D None es ≡ Some w → ⊥
  unfolding run_from
  none_run [] w e = cc
  none_run (x ∷ es) w e = none_run es w e

  run_by : (es : List Event) (v : World M T E) (w : World M S B) → ComesTo v w → (u : World M S B) → run_from X C (Some w) es ≡ Some u → (z : World M T E) × (run_from Y D (Some v) es ≡ Some z) × ComesTo z u
  unfolding run_from
  run_by [] v w k u e = (v, refl, subst (ComesTo v) (let q : w ≡ u = same_Some w u e in q) k)
  run_by (x ∷ es) v w k u e =
      let there : World M T E = image h w k.objects in
      let c : ComesTo (effect Y D there x) (effect X C w x) = effect_as w k.objects k.alike k.goods x in
      go (λ q. run_by es (effect Y D there x) (effect X C w x) c u q) (enabled C w x) refl e
    where
      go : (run_from X C (Some (effect X C w x)) es ≡ Some u → (z : World M T E) × (run_from Y D (Some (effect Y D (image h w k.objects) x)) es ≡ Some z) × ComesTo z u) →
          (b : Bool) → enabled C w x ≡ b → run_from X C (cond b (Some (effect X C w x)) None) es ≡ Some u → (z : World M T E) × (run_from Y D (then_event Y D (Some v) x) es ≡ Some z) × ComesTo z u
      go r true b e =
          let t : World M T E = image h w k.objects in
          let (z, q, c) = r e in
          let on : enabled D t x ≡ true = enabled_as w k.objects k.alike k.goods x ∙ b in
          let step : then_event Y D (Some v) x ≡ Some (effect Y D t x) =
          ap (λ (y : World M T E). then_event Y D (Some y) x) k.is ∙ ap (λ (y : Bool). cond y (Some (effect Y D t x)) None) on in
          (z, ap (λ (y : Option (World M T E)). run_from Y D y es) step ∙ q, c)
      go r false b e = absurd (run_none es u e)

  module _ (first : M → S) (start_at : M → T) where
    -- each session begins at a good site, the first of its machine
    abbrev pub Begins : Opening M → Type 0
    Begins o = (s : ℕ) (x : Session M) → slice_get o.sessions s ≡ Some x → good s (first x.machine) × (h s (first x.machine) ≡ start_at x.machine)

    BeginsAt : ℕ → Session M → Type 0
    BeginsAt s x = good s (first x.machine) × (h s (first x.machine) ≡ start_at x.machine)

    more : (n : ℕ) (y : Session M) (xs : List (Session M)) → ((s : ℕ) (x : Session M) → slice_get (y ∷ xs) s ≡ Some x → BeginsAt (n + s) x) → (s : ℕ) (x : Session M) → slice_get xs s ≡ Some x → BeginsAt (suc n + s) x
    more n y xs k s x e = let z : n + suc s ≡ suc n + s = omega arith in subst (λ (m : ℕ). BeginsAt m x) z (k (suc s) x e)

    here : (n : ℕ) (y : Session M) (xs : List (Session M)) → ((s : ℕ) (x : Session M) → slice_get (y ∷ xs) s ≡ Some x → BeginsAt (n + s) x) → BeginsAt n y
    here n y xs k = let z : n + 0 ≡ n = omega arith in subst (λ (m : ℕ). BeginsAt m y) z (k 0 y refl)

    roots_as : (n : ℕ) (xs : List (Session M)) → ((s : ℕ) (x : Session M) → slice_get xs s ≡ Some x → BeginsAt (n + s) x) → root_invs start_at n xs ≡ map (inv_as h) (root_invs first n xs)
    unfolding root_invs BeginsAt
    roots_as n [] k = refl
    roots_as n (y ∷ xs) k =
        ap₂ (λ (f : T) (l : List (Invocation T)). record { name = root_name n; site = f } ∷ l) (sym (here n y xs k).1) (roots_as (suc n) xs (more n y xs k))

    roots_in : (n : ℕ) (xs : List (Session M)) → ((s : ℕ) (x : Session M) → slice_get xs s ≡ Some x → BeginsAt (n + s) x) → (k : ℕ) (i : Invocation S) → slice_get (root_invs first n xs) k ≡ Some i → good i.name.place.session i.site
    unfolding root_invs BeginsAt
    roots_in n [] b k i e = absurd (cc)
    roots_in n (y ∷ xs) b zero i e = subst (λ (z : Invocation S). good z.name.place.session z.site) (same_Some (root_inv first n y) i e) (here n y xs b).0
    roots_in n (y ∷ xs) b (suc k) i e = roots_in (suc n) xs (more n y xs b) k i e

    start_alike : (n : ℕ) (xs : List (Session M)) → ObjectsAlike same (start_objects n xs) (start_objects n xs)
    unfolding start_objects
    start_alike n [] = λ x. tt
    start_alike n (y ∷ xs) = put_alike same (Arg (root_name n)) (Live (ArgIs y.input [])) (Live (ArgIs y.input [])) (start_objects (suc n) xs) (start_objects (suc n) xs) (refl, refl) (start_alike (suc n) xs)

    begins_from : (o : Opening M) → Begins o → (s : ℕ) (x : Session M) → slice_get o.sessions s ≡ Some x → BeginsAt (0 + s) x
    unfolding BeginsAt
    begins_from o b s x e = let z : s ≡ 0 + s = omega arith in subst (λ (m : ℕ). BeginsAt m x) z (b s x e)

    abbrev begun : Opening M → World M T E
    begun o = start start_at o

    pub start_as : (o : Opening M) → Begins o → ComesTo (start start_at o) (start first o)
    start_as o b = record {
      objects = start_objects 0 o.sessions;
      alike = start_alike 0 o.sessions;
      goods = roots_in 0 o.sessions (begins_from o b);
      is = ap (λ (l : List (Invocation T)). record (begun o) { invs = l }) (roots_as 0 o.sessions (begins_from o b));
    }

    -- each run of the world is one of the other world
    pub run_as : (o : Opening M) → Begins o → (es : List Event) (w : World M S B) → run X C first o es ≡ Some w → (z : World M T E) × (run Y D start_at o es ≡ Some z) × ComesTo z w
    run_as o b es w e = run_by es (start start_at o) (start first o) (start_as o b) w e

    back : (es : List Event) (v : World M T E) (w : World M S B) → ComesTo v w → (u : World M T E) → run_from Y D (Some v) es ≡ Some u → (z : World M S B) × (run_from X C (Some w) es ≡ Some z)
    unfolding run_from
    back [] v w k u e = (w, refl)
    back (x ∷ es) v w k u e =
        let there : World M T E = image h w k.objects in
        let c : ComesTo (effect Y D there x) (effect X C w x) = effect_as w k.objects k.alike k.goods x in
        let same : then_event Y D (Some v) x ≡ cond (enabled D there x) (Some (effect Y D there x)) None = ap (λ (y : World M T E). then_event Y D (Some y) x) k.is in
        go (λ q. back es (effect Y D there x) (effect X C w x) c u q) (enabled C w x) refl (enabled_as w k.objects k.alike k.goods x)
        (sym (ap (λ (y : Option (World M T E)). run_from Y D y es) same) ∙ e)
      where
        go : (run_from Y D (Some (effect Y D (image h w k.objects) x)) es ≡ Some u → (z : World M S B) × (run_from X C (Some (effect X C w x)) es ≡ Some z)) →
            (b : Bool) → enabled C w x ≡ b → enabled D (image h w k.objects) x ≡ enabled C w x → run_from Y D (cond (enabled D (image h w k.objects) x) (Some (effect Y D (image h w k.objects) x)) None) es ≡ Some u →
            (z : World M S B) × (run_from X C (then_event X C (Some w) x) es ≡ Some z)
        go r true b d e =
            let (z, q) = r (ap (λ (y : Bool). run_from Y D (cond y (Some (effect Y D (image h w k.objects) x)) None) es) (sym (d ∙ b)) ∙ e) in
            (z, ap (λ (y : Bool). run_from X C (cond y (Some (effect X C w x)) None) es) b ∙ q)
        go r false b d e = absurd (none_run es u (ap (λ (y : Bool). run_from Y D (cond y (Some (effect Y D (image h w k.objects) x)) None) es) (sym (d ∙ b)) ∙ e))

    -- and each run of the other world is one of this
    pub run_back : (o : Opening M) → Begins o → (es : List Event) (v : World M T E) → run Y D start_at o es ≡ Some v → (z : World M S B) × (run X C first o es ≡ Some z)
    run_back o b es v e = back es (start start_at o) (start first o) (start_as o b) v e
