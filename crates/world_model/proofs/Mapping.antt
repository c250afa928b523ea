-- Where one code is another under other sites, an instance does and takes in the same.
use Rattle.std.proofs.Common.{ℕ, zero, suc, ◌+◌, ◌≡◌, refl, sym, ap, ap₂, ◌∙◌, subst, Bool, true, false, cond, nat_lt, List, [], ◌∷◌, ◌++◌, map, length, slice_get, Option, Some, None, option_map}
use Rattle.std.proofs.lemmas.Option.{slice_get-map, same_Some}
use Rattle.std.proofs.lemmas.List.{map-append, length-map}
use Rattle.std.specs.List.{AllByRecursion}
use Rattle.place_name.specs.declared.obj.Obj.{Obj}
use Rattle.place_name.specs.declared.obj.Obj.TheVariants.{Out, Saved}
use Rattle.world_model.specs.AnyCode.Names as names
use Rattle.world_model.specs.AnyCode.Names.{Scope, Place, Parent, Kind, Name, scope_of, at_hop, child, name_at, Split, split_last, parent_in, parent_of}
use Rattle.world_model.specs.AnyCode.Code.{Json, Used, Outcome, Stop, Call, Fan, Over, Code}
use Rattle.world_model.specs.AnyCode.Operations.{Kept, Held, KeptAs, OutcomeIs, SavedAs, BitsAre, ArgIs, Invocation, Op, Look, Create, Set, Invoke, Mark, Ack, Reply, WasAbsent, WasLive, WasTombstone, Won, Had, HadTombstone, BitFull, BitNotFull, BitTombstone, Invoked, Finished}
use Rattle.world_model.specs.AnyCode.Acts.{join_at, enter_at, firsts, at_once, enter_ops, fan_ops, pace_ops, set_ops, width_around, acts_of, stop_of, acts, due_objects}
use Rattle.world_model.specs.AnyCode.Program.{Phase, Looking, Saving, Gathering, Reading, Calling, Creating, Acting, Joining, Marking, Acking, AttemptOver, Doing, Do, Ask, Nothing, asking, doing, marking, joining, branch_input, next_of, Combine, kept_of, gathered_phase, adopted_phase, saved_phase, next_gathered_phase, entered_phase, read_phase, after_read, after_look, after_saved, after_out, after_create, after_act, absorb}
use Rattle.world_model.specs.AnyCode.World.{Codes}
use Rattle.world_model.specs.AnyCode.Maps.{stop_as, LeadsIn, Maps, inv_as}

-- the branch that a scope is has its session
pub parent_session : (s : Scope) (q : Parent) → parent_of s ≡ Some q → q.place.session ≡ s.session
unfolding parent_of
parent_session s q e = by (split_last s.trail) e
  where
    by : (z : Option Split) → parent_in s.session z ≡ Some q → q.place.session ≡ s.session
    by None e = absurd (cc)
    by (Some x) e = ap (λ (p : Parent). p.place.session) (sym (same_Some _ q e))

firsts_as : {A B : Type 0} (f : A → B) (n : ℕ) (xs : List A) → map f (firsts n xs) ≡ firsts n (map f xs)
firsts_as f zero xs = refl
firsts_as f (suc n) [] = refl
firsts_as f (suc n) (x ∷ xs) = ap (λ l. f x ∷ l) (firsts_as f n xs)

once_as : {A B : Type 0} (f : A → B) (w : ℕ) (xs : List A) → map f (at_once w xs) ≡ at_once w (map f xs)
once_as f zero xs = refl
once_as f (suc w) xs = firsts_as f (suc w) xs

each_firsts : {A : Type 0} (P : A → Type 0) (n : ℕ) (xs : List A) → AllByRecursion P xs → AllByRecursion P (firsts n xs)
each_firsts P zero xs h = tt
each_firsts P (suc n) [] h = tt
each_firsts P (suc n) (x ∷ xs) h = (h.0, each_firsts P n xs h.1)

each_once : {A : Type 0} (P : A → Type 0) (w : ℕ) (xs : List A) → AllByRecursion P xs → AllByRecursion P (at_once w xs)
each_once P zero xs h = h
each_once P (suc w) xs h = each_firsts P (suc w) xs h

each_append : {A : Type 0} (P : A → Type 0) (xs ys : List A) → AllByRecursion P xs → AllByRecursion P ys → AllByRecursion P (xs ++ ys)
each_append P [] ys h k = k
each_append P (x ∷ xs) ys h k = (h.0, each_append P xs ys h.1 k)

each_get : {A : Type 0} (P : A → Type 0) (xs : List A) (m : ℕ) (x : A) → AllByRecursion P xs → slice_get xs m ≡ Some x → P x
each_get P [] m x h e = absurd (cc)
each_get P (y ∷ ys) zero x h e = subst P (same_Some y x e) h.0
each_get P (y ∷ ys) (suc m) x h e = each_get P ys m x h.1 e

-- ---------------------------------------------------------------- what is held, without its bits

module _ {B E : Type 0} (e : E) where
  -- with no bits
  abbrev pub held_as : Held B → Held E
  held_as (KeptAs k) = KeptAs k
  held_as (OutcomeIs o) = OutcomeIs o
  held_as (SavedAs c x u) = SavedAs c x u
  held_as (BitsAre b) = BitsAre e
  held_as (ArgIs x u) = ArgIs x u

  abbrev pub reply_as : Reply B → Reply E
  reply_as WasAbsent = WasAbsent
  reply_as (WasLive h) = WasLive (held_as h)
  reply_as WasTombstone = WasTombstone
  reply_as Won = Won
  reply_as (Had h) = Had (held_as h)
  reply_as HadTombstone = HadTombstone
  reply_as BitFull = BitFull
  reply_as BitNotFull = BitNotFull
  reply_as BitTombstone = BitTombstone
  reply_as Invoked = Invoked
  reply_as Finished = Finished

  adopted_as : (h : Held B) → adopted_phase (held_as h) ≡ adopted_phase h
  adopted_as (KeptAs k) = refl
  adopted_as _ = refl

  pub look_as : (k : Kind) (r : Reply B) → after_look k (reply_as r) ≡ after_look k r
  look_as k (WasLive h) = adopted_as h
  look_as k _ = refl

  saved_as : (f : Combine) (a : ℕ) (h : Held B) → saved_phase f a (held_as h) ≡ saved_phase f a h
  saved_as f a (SavedAs c x u) = refl
  saved_as f a _ = refl

  pub after_saved_as : (f : Combine) (a : ℕ) (r : Reply B) → after_saved f a (reply_as r) ≡ after_saved f a r
  after_saved_as f a (WasLive h) = saved_as f a h
  after_saved_as f a _ = refl

  more_as : (f : Combine) (a c : ℕ) (x : Json) (u : Used) (os : List Outcome) (h : Held B) → next_gathered_phase f a c x u os (held_as h) ≡ next_gathered_phase f a c x u os h
  more_as f a c x u os (OutcomeIs o) = refl
  more_as f a c x u os _ = refl

  pub after_out_as : (f : Combine) (a c : ℕ) (x : Json) (u : Used) (os : List Outcome) (r : Reply B) → after_out f a c x u os (reply_as r) ≡ after_out f a c x u os r
  after_out_as f a c x u os (WasLive h) = more_as f a c x u os h
  after_out_as f a c x u os _ = refl

  read_same : {T : Type 0} (D : Code T) (i : Invocation T) (a : ℕ) (k : Kind) (h : Held B) → read_phase D i a k (held_as h) ≡ read_phase D i a k h
  read_same D i a names.Enter (BitsAre b) = refl
  read_same D i a names.Task (BitsAre b) = refl
  read_same D i a names.Join (BitsAre b) = refl
  read_same D i a k (KeptAs x) = refl
  read_same D i a k _ = refl

  pub after_read_as : {T : Type 0} (D : Code T) (i : Invocation T) (a : ℕ) (r : Reply B) → after_read D i a (reply_as r) ≡ after_read D i a r
  after_read_as D i a (WasLive h) = read_same D i a i.name.kind h
  after_read_as D i a _ = refl

  pub after_create_as : (k : Kept) (r : Reply B) → after_create k (reply_as r) ≡ after_create k r
  after_create_as k (Had h) = adopted_as h
  after_create_as k _ = refl

  pub after_act_as : (k : Kept) (m all : ℕ) (r : Reply B) → after_act k m all (reply_as r) ≡ after_act k m all r
  after_act_as k m all BitFull = refl
  after_act_as k m all _ = refl

-- bits make no difference to what is taken in
pub absorb_less : {T E : Type 0} (e : E) (D : Code T) (i : Invocation T) (a : ℕ) (ph : Phase) (r : Reply E) → absorb D i a ph (reply_as e r) ≡ absorb D i a ph r
unfolding absorb
absorb_less e D i a Looking r = look_as e i.name.kind r
absorb_less e D i a Saving r = after_saved_as e (D.combine i.site) a r
absorb_less e D i a (Gathering c x u os) r = after_out_as e (D.combine i.site) a c x u os r
absorb_less e D i a Reading r = after_read_as e D i a r
absorb_less e D i a (Calling x u) r = refl
absorb_less e D i a (Creating k) r = after_create_as e k r
absorb_less {E = E} e D i a (Acting k m) r = after_act_as e k m (length (acts {B = E} D i k)) r
absorb_less e D i a (Joining k) r = refl
absorb_less e D i a (Marking k m) r = refl
absorb_less e D i a (Acking b) r = refl
absorb_less e D i a (AttemptOver b) r = refl

-- ---------------------------------------------------------------- one code under other sites

gathered_same : (f g : Combine) → ((os : List Outcome) → f os ≡ g os) → (a c : ℕ) (x : Json) (u : Used) (os : List Outcome) → gathered_phase f a c x u os ≡ gathered_phase g a c x u os
gathered_same f g e a c x u os = ap (λ (o : Outcome). cond (nat_lt (length os) c) (Gathering c x u os) (Creating (kept_of x u a o c))) (e os)

input_by : {S T : Type 0} (good : S → Type 0) (C : Code S) (D : Code T) (h : S → T) → Maps good C D h → (j : Option S) → ((y : S) → j ≡ Some y → good y) → (x : Json) (q : Option Parent) →
    branch_input D (option_map h j) x q ≡ branch_input C j x q
input_by good C D h m None k x q = refl
input_by good C D h m (Some j) k x None = refl
input_by good C D h m (Some j) k x (Some q) = m.input_of j (k j refl) q.index x

-- a branch has the same input
pub same_input : {S T : Type 0} (good : S → Type 0) (C : Code S) (D : Code T) (h : S → T) → Maps good C D h → (s : S) → good s → (x : Json) (q : Option Parent) →
    branch_input D (D.join_around (h s)) x q ≡ branch_input C (C.join_around s) x q
same_input good C D h m s g x q =
    ap (λ j. branch_input D j x q) (m.join_around s g) ∙ input_by good C D h m (C.join_around s) (λ j e. m.around s j g e) x q

module _ (S T B E : Type 0) (none : E) (h : ℕ → S → T) (good : ℕ → S → Type 0) (C : Codes S) (D : Codes T) (maps : (s : ℕ) → Maps (good s) (C s) (D s) (h s)) where
  abbrev pub op_as : Op S B → Op T E
  op_as (Look o) = Look o
  op_as (Create o x) = Create o (held_as none x)
  op_as (Set p index count) = Set p index count
  op_as (Invoke i) = Invoke (inv_as h i)
  op_as (Mark o) = Mark o
  op_as Ack = Ack

  abbrev pub doing_as : Doing S B → Doing T E
  doing_as (Do op) = Do (op_as op)
  doing_as (Ask r x) = Ask r x
  doing_as Nothing = Nothing

  -- what programs create has no bits
  abbrev pub IsNoBitmap : Held B → Type 0
  IsNoBitmap (BitsAre b) = ⊥
  IsNoBitmap _ = Unit {0}

  -- an operation that creates no bitmap, and invokes at a good site
  abbrev pub OpIn : Op S B → Type 0
  OpIn (Create o x) = IsNoBitmap x
  OpIn (Invoke i) = good i.name.place.session i.site
  OpIn _ = Unit {0}

  abbrev pub DoingIn : Doing S B → Type 0
  DoingIn (Do op) = OpIn op
  DoingIn _ = Unit {0}

  -- ---------------------------------------------------------------- acts

  enters_as : (p : Place) (index count : ℕ) (es : List S) → map op_as (enter_ops p index count es) ≡ enter_ops p index count (map (h p.session) es)
  enters_as p index count [] = refl
  enters_as p index count (e ∷ es) = ap (λ (l : List (Op T E)). Invoke (enter_at (h p.session e) p index count) ∷ l) (enters_as p (suc index) count es)

  enters_in : (p : Place) (index count : ℕ) (es : List S) → AllByRecursion (good p.session) es → AllByRecursion OpIn (enter_ops p index count es)
  enters_in p index count [] k = tt
  enters_in p index count (e ∷ es) k = (k.0, enters_in p (suc index) count es k.1)

  fan_as : (w : ℕ) (p : Place) (j : S) (es : List S) → map op_as (fan_ops w p j es) ≡ fan_ops w p (h p.session j) (map (h p.session) es)
  fan_as w p j [] = refl
  fan_as w p j (e ∷ es) =
      enters_as p 0 (suc (length es)) (at_once w (e ∷ es))
      ∙ ap₂ (λ (n : ℕ) (l : List T). enter_ops {B = E} p 0 (suc n) l) (sym (length-map es (h p.session))) (once_as (h p.session) w (e ∷ es))

  fan_in : (w : ℕ) (p : Place) (j : S) (es : List S) → good p.session j → AllByRecursion (good p.session) es → AllByRecursion OpIn (fan_ops w p j es)
  fan_in w p j [] g k = (g, tt)
  fan_in w p j (e ∷ es) g k = enters_in p 0 (suc (length es)) (at_once w (e ∷ es)) (each_once (good p.session) w (e ∷ es) k)

  pace_as : (e : S) (q : Parent) (w : ℕ) → map op_as (pace_ops e q w) ≡ pace_ops (h q.place.session e) q w
  pace_as e q zero = refl
  pace_as e q (suc w) = by (nat_lt (q.index + suc w) q.count)
    where
      by : (b : Bool) → map op_as (cond b (Invoke (enter_at e q.place (q.index + suc w) q.count) ∷ []) []) ≡ cond b (Invoke (enter_at (h q.place.session e) q.place (q.index + suc w) q.count) ∷ []) []
      by true = refl
      by false = refl

  pace_in : (e : S) (q : Parent) (w : ℕ) → good q.place.session e → AllByRecursion OpIn (pace_ops e q w)
  pace_in e q zero g = tt
  pace_in e q (suc w) g = by (nat_lt (q.index + suc w) q.count)
    where
      by : (b : Bool) → AllByRecursion OpIn (cond b (Invoke (enter_at e q.place (q.index + suc w) q.count) ∷ []) [])
      by true = (g, tt)
      by false = tt

  sets_as : (s : ℕ) (e : S) (w : ℕ) (z : Option Parent) → ((q : Parent) → z ≡ Some q → q.place.session ≡ s) → map op_as (set_ops e w z) ≡ set_ops (h s e) w z
  sets_as s e w None k = refl
  sets_as s e w (Some q) k =
      map-append op_as (pace_ops e q w) (Set q.place q.index q.count ∷ [])
      ∙ ap (λ (l : List (Op T E)). l ++ Set q.place q.index q.count ∷ []) (pace_as e q w ∙ ap (λ (y : ℕ). pace_ops (h y e) q w) (k q refl))

  sets_in : (s : ℕ) (e : S) (w : ℕ) (z : Option Parent) → ((q : Parent) → z ≡ Some q → q.place.session ≡ s) → good s e → AllByRecursion OpIn (set_ops e w z)
  sets_in s e w None k g = tt
  sets_in s e w (Some q) k g = each_append OpIn (pace_ops e q w) (Set q.place q.index q.count ∷ []) (pace_in e q w (subst (λ (y : ℕ). good y e) (sym (k q refl)) g)) (tt, tt)

  width_as : (s : ℕ) (z : Option S) → ((j : S) → z ≡ Some j → good s j) → width_around (D s) (option_map (h s) z) ≡ width_around (C s) z
  width_as s None k = refl
  width_as s (Some j) k = (maps s).width j (k j refl)

  stop_acts_as : (s : Scope) (site : S) → good s.session site → (stop : Stop S) → LeadsIn (good s.session) stop →
      acts_of (D s.session) (h s.session site) s (stop_as (h s.session) stop) ≡ map op_as (acts_of (C s.session) site s stop)
  stop_acts_as s site g (Call f hop raw used) k = refl
  stop_acts_as s site g (Fan j hop raw used es) k =
      ap₂ (λ (n : ℕ) (l : List (Op T E)). Create (Saved (at_hop s hop)) (SavedAs n raw used) ∷ l) (length-map es (h s.session))
      (ap (λ (w : ℕ). fan_ops w (at_hop s hop) (h s.session j) (map (h s.session) es)) ((maps s.session).width j k.0) ∙ sym (fan_as ((C s.session).width j) (at_hop s hop) j es))
  stop_acts_as s site g (Over o) k =
      let M : Maps (good s.session) (C s.session) (D s.session) (h s.session) = maps s.session in
      let w : ℕ = width_around (C s.session) ((C s.session).join_around site) in
      let same : width_around (D s.session) ((D s.session).join_around (h s.session site)) ≡ w =
      ap (width_around (D s.session)) (M.join_around site g) ∙ width_as s.session ((C s.session).join_around site) (λ j e. M.around site j g e) in
      ap (λ (l : List (Op T E)). Create (Out s) (OutcomeIs o) ∷ l)
      (ap₂ (λ (e : T) (v : ℕ). set_ops e v (parent_of s)) (M.enter_of site g) same
      ∙ sym (sets_as s.session ((C s.session).enter_of site) w (parent_of s) (λ q e. parent_session s q e)))

  stop_acts_in : (s : Scope) (site : S) → good s.session site → (stop : Stop S) → LeadsIn (good s.session) stop → AllByRecursion OpIn (acts_of (C s.session) site s stop)
  stop_acts_in s site g (Call f hop raw used) k = (tt, (k, tt))
  stop_acts_in s site g (Fan j hop raw used es) k = (tt, fan_in ((C s.session).width j) (at_hop s hop) j es k.0 k.1)
  stop_acts_in s site g (Over o) k =
      (tt, sets_in s.session ((C s.session).enter_of site) (width_around (C s.session) ((C s.session).join_around site)) (parent_of s) (λ q e. parent_session s q e) ((maps s.session).enters site g))

  module _ (i : Invocation S) (g : good i.name.place.session i.site) where
    abbrev s : ℕ
    s = i.name.place.session

    abbrev M : Maps (good s) (C s) (D s) (h s)
    M = maps s

    pub acts_as : (k : Kept) → acts (D s) (inv_as h i) k ≡ map op_as (acts (C s) i k)
    acts_as k =
        ap (acts_of (D s) (h s i.site) (scope_of i.name.place)) (M.after i.site g i.name.place.hop k.raw k.used k.answer)
        ∙ stop_acts_as (scope_of i.name.place) i.site g (stop_of (C s) i k) (M.leads i.site g i.name.place.hop k.raw k.used k.answer)

    acts_in : (k : Kept) → AllByRecursion OpIn (acts (C s) i k)
    acts_in k = stop_acts_in (scope_of i.name.place) i.site g (stop_of (C s) i k) (M.leads i.site g i.name.place.hop k.raw k.used k.answer)

    -- ---------------------------------------------------------------- what is next

    do_as : (z : Option (Op S B)) → doing (option_map op_as z) ≡ doing_as (doing z)
    do_as None = refl
    do_as (Some op) = refl

    ask_as : (z : Option (List ℕ × Json)) → asking z ≡ doing_as (asking z)
    ask_as None = refl
    ask_as (Some c) = refl

    mark_as : (z : Option Obj) → marking z ≡ doing_as (marking z)
    mark_as None = refl
    mark_as (Some o) = refl

    join_as : (z : Option Parent) → ((q : Parent) → z ≡ Some q → q.place.session ≡ s) → (j : Option S) → joining z (option_map (h s) j) ≡ doing_as (joining z j)
    join_as None k j = refl
    join_as (Some q) k None = refl
    join_as (Some q) k (Some j) = ap (λ (y : ℕ). Do (Invoke (join_at (h y j) q.place))) (sym (k q refl))

    pub next_as : (ph : Phase) → next_of (D s) (inv_as h i) ph ≡ doing_as (next_of (C s) i ph)
    unfolding next_of
    next_as Looking = refl
    next_as Saving = refl
    next_as (Gathering c x u os) = refl
    next_as Reading = refl
    next_as (Calling x u) = ap asking (M.call_of i.site g x) ∙ ask_as ((C s).call_of i.site x)
    next_as (Creating k) = refl
    next_as (Acting k m) =
        ap (λ (l : List (Op T E)). doing (slice_get l m)) (acts_as k)
        ∙ ap doing (slice_get-map op_as (acts (C s) i k) m) ∙ do_as (slice_get (acts (C s) i k) m)
    next_as (Joining k) =
        ap (joining (parent_of (scope_of i.name.place))) (M.join_around i.site g)
        ∙ join_as (parent_of (scope_of i.name.place)) (λ q e. parent_session (scope_of i.name.place) q e) ((C s).join_around i.site)
    next_as (Marking k m) = mark_as (slice_get (due_objects i.name k.count) m)
    next_as (Acking b) = refl
    next_as (AttemptOver b) = refl

    do_in : (xs : List (Op S B)) (m : ℕ) → AllByRecursion OpIn xs → (z : Option (Op S B)) → slice_get xs m ≡ z → DoingIn (doing z)
    do_in xs m k None e = tt
    do_in xs m k (Some op) e = each_get OpIn xs m op k e

    ask_in : (z : Option (List ℕ × Json)) → DoingIn (asking z)
    ask_in None = tt
    ask_in (Some c) = tt

    mark_in : (z : Option Obj) → DoingIn (marking z)
    mark_in None = tt
    mark_in (Some o) = tt

    join_in : (z : Option Parent) → ((q : Parent) → z ≡ Some q → q.place.session ≡ s) → (j : Option S) → (C s).join_around i.site ≡ j → DoingIn (joining z j)
    join_in None k j e = tt
    join_in (Some q) k None e = tt
    join_in (Some q) k (Some j) e = subst (λ (y : ℕ). good y j) (sym (k q refl)) (M.around i.site j g e)

    pub next_in : (ph : Phase) → DoingIn (next_of (C s) i ph)
    unfolding next_of
    next_in Looking = tt
    next_in Saving = tt
    next_in (Gathering c x u os) = tt
    next_in Reading = tt
    next_in (Calling x u) = ask_in ((C s).call_of i.site x)
    next_in (Creating k) = tt
    next_in (Acting k m) = do_in (acts (C s) i k) m (acts_in k) (slice_get (acts (C s) i k) m) refl
    next_in (Joining k) = join_in (parent_of (scope_of i.name.place)) (λ q e. parent_session (scope_of i.name.place) q e) ((C s).join_around i.site) refl
    next_in (Marking k m) = mark_in (slice_get (due_objects i.name k.count) m)
    next_in (Acking b) = tt
    next_in (AttemptOver b) = tt

    -- ---------------------------------------------------------------- what is taken in

    branch_as : (x : Json) (q : Option Parent) → branch_input (D s) ((D s).join_around (h s i.site)) x q ≡ branch_input (C s) ((C s).join_around i.site) x q
    branch_as x q = same_input (good s) (C s) (D s) (h s) M i.site g x q

    read_by : (a : ℕ) (k : Kind) (x : Held B) → read_phase (D s) (inv_as h i) a k x ≡ read_phase (C s) i a k x
    read_by a names.Enter (SavedAs c x u) = ap (entered_phase a) (branch_as x (parent_of (scope_of i.name.place)))
    read_by a names.Enter _ = refl
    read_by a names.Task (ArgIs x u) = refl
    read_by a names.Task _ = refl
    read_by a names.Join _ = refl

    after_read_by : (a : ℕ) (r : Reply B) → after_read (D s) (inv_as h i) a r ≡ after_read (C s) i a r
    after_read_by a (WasLive x) = read_by a i.name.kind x
    after_read_by a _ = refl

    combine_as : (os : List Outcome) → (D s).combine (h s i.site) os ≡ (C s).combine i.site os
    combine_as os = M.combine i.site g os

    saved_by : (a : ℕ) (x : Held B) → saved_phase ((D s).combine (h s i.site)) a x ≡ saved_phase ((C s).combine i.site) a x
    saved_by a (SavedAs c x u) = gathered_same ((D s).combine (h s i.site)) ((C s).combine i.site) combine_as a c x u []
    saved_by a _ = refl

    after_saved_by : (a : ℕ) (r : Reply B) → after_saved ((D s).combine (h s i.site)) a r ≡ after_saved ((C s).combine i.site) a r
    after_saved_by a (WasLive x) = saved_by a x
    after_saved_by a _ = refl

    more_by : (a c : ℕ) (x : Json) (u : Used) (os : List Outcome) (y : Held B) → next_gathered_phase ((D s).combine (h s i.site)) a c x u os y ≡ next_gathered_phase ((C s).combine i.site) a c x u os y
    more_by a c x u os (OutcomeIs o) = gathered_same ((D s).combine (h s i.site)) ((C s).combine i.site) combine_as a c x u (os ++ o ∷ [])
    more_by a c x u os _ = refl

    after_out_by : (a c : ℕ) (x : Json) (u : Used) (os : List Outcome) (r : Reply B) → after_out ((D s).combine (h s i.site)) a c x u os r ≡ after_out ((C s).combine i.site) a c x u os r
    after_out_by a c x u os (WasLive y) = more_by a c x u os y
    after_out_by a c x u os _ = refl

    acts_length : (k : Kept) → length (acts {B = E} (D s) (inv_as h i) k) ≡ length (acts {B = B} (C s) i k)
    acts_length k = ap length (acts_as k) ∙ length-map (acts (C s) i k) op_as

    pub absorb_as : (a : ℕ) (ph : Phase) (r : Reply B) → absorb (D s) (inv_as h i) a ph (reply_as none r) ≡ absorb (C s) i a ph r
    unfolding absorb
    absorb_as a Looking r = look_as none i.name.kind r
    absorb_as a Saving r = after_saved_as none ((D s).combine (h s i.site)) a r ∙ after_saved_by a r
    absorb_as a (Gathering c x u os) r = after_out_as none ((D s).combine (h s i.site)) a c x u os r ∙ after_out_by a c x u os r
    absorb_as a Reading r = after_read_as none (D s) (inv_as h i) a r ∙ after_read_by a r
    absorb_as a (Calling x u) r = refl
    absorb_as a (Creating k) r = after_create_as none k r
    absorb_as a (Acting k m) r = after_act_as none k m (length (acts {B = E} (D s) (inv_as h i) k)) r ∙ ap (λ (n : ℕ). after_act k m n r) (acts_length k)
    absorb_as a (Joining k) r = refl
    absorb_as a (Marking k m) r = refl
    absorb_as a (Acking b) r = refl
    absorb_as a (AttemptOver b) r = refl
