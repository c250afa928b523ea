-- What instances do is in range.
use Rattle.std.proofs.Common.{◌≡◌, ℕ, zero, suc, ◌+◌, ◌<◌, ◌≤◌, Bool, true, false, cond, nat_lt, List, [], ◌∷◌, ◌++◌, length, slice_get, Option, Some, None, refl, sym, ap, ◌∙◌, subst, arith}
use Rattle.std.proofs.lemmas.Bool.{ltb-true}
use Rattle.std.proofs.lemmas.Option.{same_Some}
use Rattle.std.proofs.lemmas.List.{length_push, length-append}
use Rattle.std.specs.List.{AllByRecursion}
use Rattle.place_name.specs.declared.kind.Kind.{Kind}
use Rattle.place_name.specs.declared.kind.Kind.TheVariants as kinds
use Rattle.place_name.specs.declared.limits.TheConstants.{MOST_BRANCHES, MOST_SEGS}
use Rattle.place_name.specs.declared.obj.Obj.{Obj}
use Rattle.place_name.specs.declared.obj.Obj.TheVariants.{Check, Saved}
use Rattle.place_name.specs.Names.{Scope, Place, Name, Parent, scope_of, IsScope, IsPlace, IsName, IsParent}
use Rattle.world_model.specs.AnyCode.Names.{child, at_hop, parent_of}
use Rattle.world_model.specs.AnyCode.Code.{Text, Json, Stop, Call, Fan, Over, Code}
use Rattle.world_model.specs.AnyCode.Operations.{Kept, Invocation, Op, Set, Invoke}
use Rattle.world_model.specs.AnyCode.Acts.{join_at, enter_at, firsts, at_once, enter_ops, fan_ops, pace_ops, set_ops, width_around, acts_of, stop_of, acts, out_objects, bits_objects, due_at_enter, due_by_kind, due_objects}
use Rattle.world_model.specs.AnyCode.Program.{Phase, Looking, Saving, Gathering, Reading, Calling, Creating, Acting, Joining, Marking, Acking, AttemptOver, Doing, Do, Ask, Nothing, asking, doing, marking, joining, source_in, source, next_of}
use Rattle.world_model.proofs.Keeps.{parent_child}
use Rattle.world_ranges.specs.Roles.{Role, HasRoom, IsSite, StopsInRange, StaysInRange}
use Rattle.world_ranges.specs.Ranges.{IsObject, IsCountOf, IsInvocation, IsOperation, IsPhase, NextInRange, DoesFew}
use Rattle.world_ranges.proofs.Trails.{trail_longer, child_in, parent_in, place_in, scope_in}

-- ---------------------------------------------------------------- lists

each_append : {A : Type 0} (P : A → Type 0) (xs ys : List A) → AllByRecursion P xs → AllByRecursion P ys → AllByRecursion P (xs ++ ys)
each_append P [] ys h k = k
each_append P (x ∷ xs) ys h k = (h.0, each_append P xs ys h.1 k)

each_get : {A : Type 0} (P : A → Type 0) (xs : List A) (m : ℕ) (x : A) → AllByRecursion P xs → slice_get xs m ≡ Some x → P x
each_get P [] m x h e = absurd (cc)
each_get P (y ∷ ys) zero x h e = subst P (same_Some y x e) h.0
each_get P (y ∷ ys) (suc m) x h e = each_get P ys m x h.1 e

-- the first n of a list: no more, and each as it was
firsts_in : {A : Type 0} (P : A → Type 0) (n : ℕ) (xs : List A) → AllByRecursion P xs → AllByRecursion P (firsts n xs) × (length (firsts n xs) ≤ length xs)
firsts_in P zero xs h = (tt, omega arith)
firsts_in P (suc n) [] h = (tt, omega arith)
firsts_in P (suc n) (x ∷ xs) h = let k = firsts_in P n xs h.1 in ((h.0, k.0), let l = k.1 in omega arith)

once_in : {A : Type 0} (P : A → Type 0) (w : ℕ) (xs : List A) → AllByRecursion P xs → AllByRecursion P (at_once w xs) × (length (at_once w xs) ≤ length xs)
once_in P zero xs h = (h, omega arith)
once_in P (suc w) xs h = firsts_in P (suc w) xs h

once_few : {A : Type 0} (w : ℕ) (xs : List A) → length (at_once w xs) ≤ length xs
once_few {A = A} w xs = (once_in (λ (x : A). Unit {0}) w xs (each_unit xs)).1
  where
    each_unit : (ys : List A) → AllByRecursion (λ (x : A). Unit {0}) ys
    each_unit [] = tt
    each_unit (y ∷ ys) = (tt, each_unit ys)

-- ---------------------------------------------------------------- what is due

outs_in : (p : Place) → IsPlace p → length p.trail < MOST_SEGS → (index count left : ℕ) → index + left ≡ count → count ≤ MOST_BRANCHES → AllByRecursion IsObject (out_objects p index count left)
outs_in p h room index count zero e l = tt
outs_in p h room index count (suc left) e l = (child_in p index count h room (omega arith) l, outs_in p h room (suc index) count left (omega arith) l)

bits_in : (p : Place) → IsPlace p → (count : ℕ) → count ≤ MOST_BRANCHES → AllByRecursion IsObject (bits_objects p count)
bits_in p h zero l = tt
bits_in p h (suc k) l = ((h, omega arith, l), tt)

enter_due : (n : Name) → IsName n → (q : Option Parent) → AllByRecursion IsObject (due_at_enter n q) × (0 < length (due_at_enter n q))
enter_due n h None = ((h, (h, tt)), omega arith)
enter_due n h (Some q) = ((h, tt), omega arith)

some_last : {A : Type 0} (xs : List A) (y : A) (ys : List A) → 0 < length (xs ++ y ∷ ys)
some_last [] y ys = omega arith
some_last (x ∷ xs) y ys = omega arith

due_by : (n : Name) → IsName n → (count : ℕ) (k : Kind) → HasRoom k (length n.place.trail) → IsCountOf k count → AllByRecursion IsObject (due_by_kind n count k) × (0 < length (due_by_kind n count k))
due_by n h count kinds.Enter room c = enter_due n h (parent_of (scope_of n.place))
due_by n h count kinds.Task room c = ((h, (h, tt)), omega arith)
due_by n h count kinds.Join room c =
    let free : length n.place.trail < MOST_SEGS = omega (arith, room) in
    let few : count ≤ MOST_BRANCHES = omega (arith, c) in (
      each_append IsObject (out_objects n.place 0 count count) (Saved n.place ∷ (bits_objects n.place count ++ Check n ∷ []))
          (outs_in n.place h.is_place free 0 count count (omega arith) few)
          (h.is_place, each_append IsObject (bits_objects n.place count) (Check n ∷ []) (bits_in n.place h.is_place count few) (h, tt)),
      some_last (out_objects n.place 0 count count) (Saved n.place) (bits_objects n.place count ++ Check n ∷ []),
    )

-- the objects that are due are in range, and there is one
pub due_in : (n : Name) → IsName n → HasRoom n.kind (length n.place.trail) → (count : ℕ) → IsCountOf n.kind count → AllByRecursion IsObject (due_objects n count) × (0 < length (due_objects n count))
due_in n h room count c = due_by n h count n.kind room c

few_outs : (p : Place) (index count left : ℕ) → length (out_objects p index count left) ≡ left
few_outs p index count zero = refl
few_outs p index count (suc left) = ap suc (few_outs p (suc index) count left)

few_bits : (p : Place) (count : ℕ) → length (bits_objects p count) ≤ 1
few_bits p zero = omega arith
few_bits p (suc k) = omega arith

few_entered : (n : Name) (q : Option Parent) → length (due_at_enter n q) ≤ 2
few_entered n None = omega arith
few_entered n (Some q) = omega arith

few_due_by : (n : Name) (count : ℕ) (k : Kind) → IsCountOf k count → length (due_by_kind n count k) ≤ MOST_BRANCHES + 3
few_due_by n count kinds.Enter c = let a = few_entered n (parent_of (scope_of n.place)) in omega (arith, a)
few_due_by n count kinds.Task c = omega arith
few_due_by n count kinds.Join c =
    let a = few_outs n.place 0 count count in
    let b = few_bits n.place count in
    let d = length_push (bits_objects n.place count) (Check n) in
    let e = length-append (out_objects n.place 0 count count) (Saved n.place ∷ (bits_objects n.place count ++ Check n ∷ [])) in
    omega (arith, a, b, c, d, e)

few_due : (n : Name) (count : ℕ) → IsCountOf n.kind count → length (due_objects n count) ≤ MOST_BRANCHES + 3
few_due n count c = few_due_by n count n.kind c

-- where data is read
source_by : (n : Name) → IsName n → (k : Kind) (z : Option Parent) → ((q : Parent) → z ≡ Some q → IsParent q) → IsObject (source_in n k z)
source_by n h kinds.Enter (Some q) k = (k q refl).is_place
source_by n h kinds.Enter None k = h
source_by n h kinds.Task z k = h
source_by n h kinds.Join z k = h

source_is : (n : Name) → IsName n → IsObject (source n)
source_is n h = source_by n h n.kind (parent_of (scope_of n.place)) (λ q e. parent_in (scope_of n.place) q e (scope_in n.place h.is_place))

module _ {S : Type 0} (sessions : ℕ) (roles : (session : ℕ) → S → Option Role) where
  abbrev Inv : Invocation S → Type 0
  Inv i = IsInvocation sessions roles i

  abbrev InOp : Op S (List Bool) → Type 0
  InOp op = IsOperation sessions roles op

  -- ---------------------------------------------------------------- invocations

  enter_made : (p : Place) (index count : ℕ) (e : S) → IsPlace p → p.session < sessions → length p.trail < MOST_SEGS → index < count → count ≤ MOST_BRANCHES → IsSite (roles p.session) e kinds.Enter (suc (length p.trail)) →
      Inv (enter_at e p index count)
  enter_made p index count e h l room below within site =
      let c : IsScope (child p index count) = child_in p index count h room below within in
      record {
        name = record { is_place = record { below_sessions = c.below_sessions; is_trail = c.is_trail; below_hops = omega arith }; is_kind = refl };
        session = l;
        site = subst (λ n. IsSite (roles p.session) e kinds.Enter n) (sym (trail_longer p index count)) site;
        room = c.is_trail.within;
      }

  join_made : (p : Place) (j : S) → IsPlace p → p.session < sessions → HasRoom kinds.Join (length p.trail) → IsSite (roles p.session) j kinds.Join (length p.trail) → Inv (join_at j p)
  join_made p j h l room site = record { name = record { is_place = h; is_kind = tt }; session = l; site = site; room = room }

  -- ---------------------------------------------------------------- acts

  enters_in : (p : Place) → IsPlace p → p.session < sessions → length p.trail < MOST_SEGS → (count : ℕ) → count ≤ MOST_BRANCHES → (index : ℕ) (es : List S) → index + length es ≤ count →
      AllByRecursion (λ e. IsSite (roles p.session) e kinds.Enter (suc (length p.trail))) es → AllByRecursion InOp (enter_ops p index count es)
  enters_in p h l room count c index [] b k = tt
  enters_in p h l room count c index (e ∷ es) b k =
      (enter_made p index count e h l room (omega arith) c k.0, enters_in p h l room count c (suc index) es (omega arith) k.1)

  fan_in : (w : ℕ) (p : Place) (j : S) (es : List S) → IsPlace p → p.session < sessions → HasRoom kinds.Join (length p.trail) → length es ≤ MOST_BRANCHES → IsSite (roles p.session) j kinds.Join (length p.trail) →
      AllByRecursion (λ e. IsSite (roles p.session) e kinds.Enter (suc (length p.trail))) es → AllByRecursion InOp (fan_ops w p j es)
  fan_in w p j [] h l room c s k = (join_made p j h l room s, tt)
  fan_in w p j (e ∷ es) h l room c s k =
      let o = once_in (λ e. IsSite (roles p.session) e kinds.Enter (suc (length p.trail))) w (e ∷ es) k in
      enters_in p h l (omega (arith, room)) (suc (length es)) c 0 (at_once w (e ∷ es)) (let b = o.1 in omega arith) o.0

  -- the limit further on
  pace_in : (e : S) (q : Parent) (w : ℕ) → IsParent q → q.place.session < sessions → length q.place.trail < MOST_SEGS → IsSite (roles q.place.session) e kinds.Enter (suc (length q.place.trail)) → AllByRecursion InOp (pace_ops e q w)
  pace_in e q zero h l room s = tt
  pace_in e q (suc w) h l room s = by (nat_lt (q.index + suc w) q.count) refl
    where
      by : (b : Bool) → nat_lt (q.index + suc w) q.count ≡ b → AllByRecursion InOp (cond b (Invoke (enter_at e q.place (q.index + suc w) q.count) ∷ []) [])
      by true t = (enter_made q.place (q.index + suc w) q.count e h.is_place l room (ltb-true (q.index + suc w) q.count t) h.within s, tt)
      by false t = tt

  -- what is known of a branch's scope
  record Branch (e : S) (q : Parent) : Type 0 where
    parent : IsParent q
    session : q.place.session < sessions
    room : length q.place.trail < MOST_SEGS
    site : IsSite (roles q.place.session) e kinds.Enter (suc (length q.place.trail))

  branch_of : (s : Scope) (e : S) → IsScope s → s.session < sessions → IsSite (roles s.session) e kinds.Enter (length s.trail) → (q : Parent) → parent_of s ≡ Some q → Branch e q
  branch_of s e h l site q is =
      let same : s ≡ child q.place q.index q.count = parent_child s q is in
      let n = trail_longer q.place q.index q.count in
      let c : IsScope (child q.place q.index q.count) = subst IsScope same h in
      let m = c.is_trail.within in
      record {
        parent = parent_in s q is h;
        session = subst (λ (z : Scope). z.session < sessions) same l;
        room = omega (arith, n, m);
        site = subst (λ k. IsSite (roles q.place.session) e kinds.Enter k) n (subst (λ (z : Scope). IsSite (roles z.session) e kinds.Enter (length z.trail)) same site);
      }

  sets_in : (e : S) (w : ℕ) (z : Option Parent) → ((q : Parent) → z ≡ Some q → Branch e q) → AllByRecursion InOp (set_ops e w z)
  sets_in e w None k = tt
  sets_in e w (Some q) k =
      let b = k q refl in
      each_append InOp (pace_ops e q w) (Set q.place q.index q.count ∷ []) (pace_in e q w b.parent b.session b.room b.site) (b.parent, tt)

  module _ (code : Code S) (s : Scope) (h : IsScope s) (l : s.session < sessions) (stays : StaysInRange (roles s.session) code) where
    stop_in : (site : S) (kind : Kind) → IsSite (roles s.session) site kind (length s.trail) → (stop : Stop S) → StopsInRange (roles s.session) (length s.trail) stop → AllByRecursion InOp (acts_of code site s stop)
    stop_in site kind k (Call f hop raw used) r =
        let below = r.1 in
        let p : IsPlace (at_hop s hop) = place_in s hop h (omega (arith, below)) in (
          (record { is_place = p; is_kind = tt }, tt),
          (record { name = record { is_place = p; is_kind = tt }; session = l; site = r.0; room = stays.room f kinds.Task (length s.trail) r.0 }, tt),
        )
    stop_in site kind k (Fan j hop raw used es) r =
        let below = r.1 in
        let many = r.2 in
        let room = stays.room j kinds.Join (length s.trail) r.0 in
        let p : IsPlace (at_hop s hop) = place_in s hop h (omega (arith, below)) in
        let few : length es ≤ MOST_BRANCHES = omega (arith, many) in
        ((p, few), fan_in (code.width j) (at_hop s hop) j es p l room few r.0 r.3)
    stop_in site kind k (Over o) r =
        let e : IsSite (roles s.session) (code.enter_of site) kinds.Enter (length s.trail) = stays.enters site kind (length s.trail) k in
        ((h, tt), sets_in (code.enter_of site) (width_around code (code.join_around site)) (parent_of s) (λ q is. branch_of s (code.enter_of site) h l e q is))

  few_enters : (p : Place) (index count : ℕ) (es : List S) → length (enter_ops {B = List Bool} p index count es) ≡ length es
  few_enters p index count [] = refl
  few_enters p index count (e ∷ es) = ap suc (few_enters p (suc index) count es)

  few_fan : (w : ℕ) (p : Place) (j : S) (es : List S) → length es ≤ MOST_BRANCHES → length (fan_ops {B = List Bool} w p j es) ≤ MOST_BRANCHES
  few_fan w p j [] l = omega arith
  few_fan w p j (e ∷ es) l =
      let a = few_enters p 0 (suc (length es)) (at_once w (e ∷ es)) in
      let b = once_few w (e ∷ es) in
      omega (arith, a, b)

  few_pace : (e : S) (q : Parent) (w : ℕ) → length (pace_ops {B = List Bool} e q w) ≤ 1
  few_pace e q zero = omega arith
  few_pace e q (suc w) = by (nat_lt (q.index + suc w) q.count)
    where
      by : (b : Bool) → length {A = Op S (List Bool)} (cond b (Invoke (enter_at e q.place (q.index + suc w) q.count) ∷ []) []) ≤ 1
      by true = omega arith
      by false = omega arith

  few_sets : (e : S) (w : ℕ) (z : Option Parent) → length (set_ops {B = List Bool} e w z) ≤ 2
  few_sets e w None = omega arith
  few_sets e w (Some q) =
      let a = few_pace e q w in
      let b = length_push (pace_ops {B = List Bool} e q w) (Set q.place q.index q.count) in
      omega (arith, a, b)

  few_acts : (role_of : S → Option Role) (n : ℕ) (code : Code S) (site : S) (s : Scope) (stop : Stop S) → StopsInRange role_of n stop → length (acts_of {B = List Bool} code site s stop) ≤ MOST_BRANCHES + 1
  few_acts role_of n code site s (Call f hop raw used) r = omega arith
  few_acts role_of n code site s (Fan j hop raw used es) r = let many = r.2 in let a = few_fan (code.width j) (at_hop s hop) j es (omega (arith, many)) in omega (arith, a)
  few_acts role_of n code site s (Over o) r = let a = few_sets (code.enter_of site) (width_around code (code.join_around site)) (parent_of s) in omega (arith, a)

  pub acts_some : (code : Code S) (site : S) (s : Scope) (stop : Stop S) → 0 < length (acts_of {B = List Bool} code site s stop)
  acts_some code site s (Call f hop raw used) = omega arith
  acts_some code site s (Fan j hop raw used es) = omega arith
  acts_some code site s (Over o) = omega arith

  module _ (code : Code S) (i : Invocation S) (h : Inv i) (stays : StaysInRange (roles i.name.place.session) code) where
    abbrev s : Scope
    s = scope_of i.name.place

    is_scope : IsScope (scope_of i.name.place)
    is_scope = scope_in i.name.place h.name.is_place

    pub acts_in : (k : Kept) → AllByRecursion InOp (acts code i k)
    acts_in k =
        stop_in code s is_scope h.session stays i.site i.name.kind h.site (stop_of code i k)
        (stays.after i.site i.name.kind (length i.name.place.trail) h.site i.name.place.hop k.raw k.used k.answer)

    -- ---------------------------------------------------------------- what is next

    abbrev InDoing : Doing S (List Bool) → Type 0
    InDoing (Do op) = InOp op
    InDoing (Ask r x) = Unit {0}
    InDoing Nothing = Unit {0}

    do_in : (xs : List (Op S (List Bool))) (m : ℕ) → AllByRecursion InOp xs → (z : Option (Op S (List Bool))) → slice_get xs m ≡ z → InDoing (doing z)
    do_in xs m k None e = tt
    do_in xs m k (Some op) e = each_get InOp xs m op k e

    ask_in : (z : Option (Text × Json)) → InDoing (asking z)
    ask_in None = tt
    ask_in (Some c) = tt

    mark_in : (xs : List Obj) (m : ℕ) → AllByRecursion IsObject xs → (z : Option Obj) → slice_get xs m ≡ z → InDoing (marking z)
    mark_in xs m k None e = tt
    mark_in xs m k (Some o) e = each_get IsObject xs m o k e

    -- the Join of the fan whose branch the scope is
    join_of : (q : Parent) → parent_of (scope_of i.name.place) ≡ Some q → (j : S) → code.join_around i.site ≡ Some j → Inv (join_at j q.place)
    join_of q is j e =
        let site : IsSite (roles s.session) (code.enter_of i.site) kinds.Enter (length s.trail) = stays.enters i.site i.name.kind (length s.trail) h.site in
        let b = branch_of s (code.enter_of i.site) is_scope h.session site q is in
        let same : s ≡ child q.place q.index q.count = parent_child s q is in
        let n : length s.trail ≡ suc (length q.place.trail) = ap (λ (z : Scope). length z.trail) same ∙ trail_longer q.place q.index q.count in
        let k : IsSite (roles s.session) j kinds.Join (length q.place.trail) =
        stays.around i.site j i.name.kind (length q.place.trail) (subst (λ m. IsSite (roles s.session) i.site i.name.kind m) n h.site) e in
        join_made q.place j b.parent.is_place b.session (stays.room j kinds.Join (length q.place.trail) k) (subst (λ (z : Scope). IsSite (roles z.session) j kinds.Join (length q.place.trail)) same k)

    join_in : (z : Option Parent) → parent_of (scope_of i.name.place) ≡ z → (j : Option S) → code.join_around i.site ≡ j → InDoing (joining z j)
    join_in None is j e = tt
    join_in (Some q) is None e = tt
    join_in (Some q) is (Some j) e = join_of q is j e

    doing_in : (ph : Phase) → IsPhase code i ph → InDoing (next_of code i ph)
    unfolding next_of
    doing_in Looking k = h.name
    doing_in Saving k = h.name.is_place
    doing_in (Gathering count raw used outs) k =
        let room : HasRoom kinds.Join (length i.name.place.trail) = subst (λ z. HasRoom z (length i.name.place.trail)) k.0 h.room in
        child_in i.name.place (length outs) count h.name.is_place (omega (arith, room)) k.2 k.1
    doing_in Reading k = source_is i.name h.name
    doing_in (Calling raw used) k = ask_in (code.call_of i.site raw)
    doing_in (Creating kept) k = (h.name, k)
    doing_in (Acting kept m) k = do_in (acts code i kept) m (acts_in kept) (slice_get (acts code i kept) m) refl
    doing_in (Joining kept) k = join_in (parent_of (scope_of i.name.place)) refl (code.join_around i.site) refl
    doing_in (Marking kept m) k =
        mark_in (due_objects i.name kept.count) m (due_in i.name h.name h.room kept.count k.0).0 (slice_get (due_objects i.name kept.count) m) refl
    doing_in (Acking finished) k = tt
    doing_in (AttemptOver finished) k = tt

    pub next_in : (ph : Phase) → IsPhase code i ph → NextInRange sessions roles code i ph
    next_in ph k op e = subst InDoing e (doing_in ph k)

    pub few_in : DoesFew code i
    few_in = record {
      acts = λ k. few_acts (roles i.name.place.session) (length i.name.place.trail) code i.site s (stop_of code i k) (stays.after i.site i.name.kind (length i.name.place.trail) h.site i.name.place.hop k.raw k.used k.answer);
      due = λ count c. few_due i.name count c;
    }
