-- A well formed flat form stays in range.
use Rattle.std.proofs.Common.{◌≡◌, ℕ, zero, suc, ◌-◌, ◌<◌, ◌≤◌, ◌&&◌, inl, inr, true, not, nat_lt, nat_le, List, [], ◌∷◌, Option, Some, None, map, length, slice_get, refl, sym, ap, ◌∙◌, subst, arith}
use Rattle.std.specs.List.{AllByRecursion}
use Rattle.std.proofs.lemmas.Bool.{and_parts, ltb-true, leb-true}
use Rattle.std.proofs.lemmas.Option.{same_Some}
use Rattle.asl_model.specs.Data.{Json, Outcome, Done, Failed, repeat}
use Rattle.asl_model.specs.Head.{Used, OnwardOf, Goes, Ends, BegunOf, On, Calls, Fans, care_in, begins, finishes}
use Rattle.asl_model.specs.Central.{hop_limit}
use Rattle.asl_model.specs.Laws.{In}
use Rattle.asl_model.specs.Valid.{labels}
use Rattle.place_name.specs.declared.kind.Kind.{Kind}
use Rattle.place_name.specs.declared.kind.Kind.TheVariants as kinds
use Rattle.place_name.specs.declared.limits.TheConstants.{HOPS, MOST_BRANCHES}
use Rattle.unum_ir.specs.declared.ir.Ir.{Ir}
use Rattle.unum_ir.specs.declared.ir.Node.{Node}
use Rattle.unum_ir.specs.declared.ir.Scope.{Scope}
use Rattle.unum_ir.specs.declared.ir.Op.{Op}
use Rattle.unum_ir.specs.declared.ir.Op.TheVariants.{Pass as PassOp, Choice as ChoiceOp, Succeed as SucceedOp, Fail as FailOp, Task as TaskOp, Parallel as ParallelOp, Map as MapOp}
use Rattle.unum_ir.specs.declared.ir.Func.{Func}
use Rattle.unum_ir.specs.declared.ir.Func.TheVariants.{Enter as EnterFunc, Task as TaskFunc, Join as JoinFunc}
use Rattle.unum_ir.specs.declared.stop.Stop.{Stop}
use Rattle.unum_ir.specs.declared.stop.Child.{Child}
use Rattle.unum_ir.specs.Flat.{head_of, func_of, limit_of, branches_of, node_at, children, or_zero, flat_on, flat_by, used_by, flat_in, first_flat, flat, start_in, after_enter, after_node, after_func}
use Rattle.unum_ir.specs.Calls.{scope_by, scope_in, enter_of, parent_of}
use Rattle.unum_ir.specs.WellFormed as well
use Rattle.unum_ir.specs.WellFormed.{IsWellFormed, scopes_of, is_bad_care, is_well_made, has_parts, op_tag}
use Rattle.unum_ir.specs.Laws.{HasNode, IsFunc}
use Rattle.unum_ir.proofs.TablesHold.{nexts_there, starts_there, funcs_there, scopes_there}
use Rattle.world_model.proofs.Gets.{get_in}
use Rattle.continuation_gen.specs.Coded.{bare_stop, code_of_ir}
use Rattle.world_ranges.specs.Roles.{HasRoom, IsSite, StopsInRange, StaysInRange}
use Rattle.world_ranges.specs.Flat.{fans_round, kind_of, role_in, EveryFormStaysInRange}
use Rattle.world_ranges.proofs.Tables.{all_of, enter_there, role_at, role_back, task_there, join_there}
use Rattle.world_ranges.proofs.Fans.{Holder, held, fans_at, few_fans, held_fans, holder_of}
use Rattle.world_ranges.proofs.Steps.{Onward, Begun, MayBegin, begins_in, finishes_in}

limit_is : hop_limit ≡ 2000
unfolding hop_limit
limit_is = refl

with_parts : (op : Op) → is_well_made op ≡ true → has_parts op ≡ true
with_parts op e =
    (and_parts (has_parts op) (not (is_bad_care (care_in (head_of op)))) (and_parts (has_parts op && not (is_bad_care (care_in (head_of op)))) (nat_le (limit_of op) 1000000) e).0).0

-- ---------------------------------------------------------------- branches

abbrev func_in : Child → ℕ
func_in c = c.func

-- the Enters of a fan's branches are no more than the inputs and the scopes, and each is one of the scopes
children_in : (Q : ℕ → Type 0) (ks : List ℕ) (xs : List Json) → AllByRecursion Q ks → AllByRecursion Q (map func_in (children ks xs)) × (length (map func_in (children ks xs)) ≤ length ks) × (length (map func_in (children ks xs)) ≤ length xs)
children_in Q [] xs h = (tt, omega arith, omega arith)
children_in Q (k ∷ ks) [] h = (tt, omega arith, omega arith)
children_in Q (k ∷ ks) (x ∷ xs) h = let (a, b, c) = children_in Q ks xs h.1 in ((h.0, a), omega (arith, b), omega (arith, c))

all_in : (Q : ℕ → Type 0) (ks : List ℕ) → ((k : ℕ) → In k ks → Q k) → AllByRecursion Q ks
all_in Q [] h = tt
all_in Q (k ∷ ks) h = (h k (inl refl), all_in Q ks (λ j i. h j (inr i)))

all_repeat : (Q : ℕ → Type 0) (n k : ℕ) → Q k → AllByRecursion Q (repeat n k)
all_repeat Q zero k h = tt
all_repeat Q (suc n) k h = (h, all_repeat Q n k h)

module _ (ir : Ir) (w : IsWellFormed ir) where
  abbrev Site : ℕ → Kind → ℕ → Type 0
  Site f kind n = IsSite (role_in ir) f kind n

  -- the Enter of a scope
  enter_site : (k : ℕ) → k < length ir.scopes → Site k kinds.Enter (fans_at ir w k)
  enter_site k l =
      let e = enter_there ir w k l in
      subst (λ z. Site k kinds.Enter (fans_at ir w z)) (ap (scope_by ir) e) (role_at ir k (EnterFunc k) e)

  -- ---------------------------------------------------------------- a node

  module _ (label : ℕ) (n : Node) (found : node_at ir label ≡ Some n) where
    here : n.scope < length ir.scopes
    here = (scopes_there ir w label n found).0

    task_site : (f : ℕ) → op_tag label n.op ≡ well.Calls label ∷ [] → func_of n.op ≡ Some f → Site f kinds.Task (fans_at ir w n.scope)
    task_site f a b = let (s, e) = task_there ir w label n found f a b in subst (λ z. Site f kinds.Task (fans_at ir w z)) e s

    join_site : (f : ℕ) → op_tag label n.op ≡ well.Joins label ∷ [] → func_of n.op ≡ Some f → Site f kinds.Join (fans_at ir w n.scope)
    join_site f a b = let (s, e) = join_there ir w label n found f a b in subst (λ z. Site f kinds.Join (fans_at ir w z)) e s

    branch_site : (k : ℕ) → In k (scopes_of n.op) → Site k kinds.Enter (suc (fans_at ir w n.scope))
    branch_site k i =
        let h : Holder ir w k = record { label = label; n = n; found = found; holds = i } in
        subst (λ z. Site k kinds.Enter z) (held_fans ir w k h) (enter_site k (held ir w k h).within)

    -- what a fan does with its inputs
    abbrev FansOut : Op → List Json → Type 0
    FansOut op inputs =
        Site (or_zero (func_of op)) kinds.Join (fans_at ir w n.scope)
        × (length (map func_in (children (branches_of op (length inputs)) inputs)) ≤ MOST_BRANCHES)
        × AllByRecursion (λ e. Site e kinds.Enter (suc (fans_at ir w n.scope))) (map func_in (children (branches_of op (length inputs)) inputs))

    abbrev Called : ℕ → Type 0
    Called f = Site f kinds.Task (fans_at ir w n.scope)

    abbrev There : ℕ → Type 0
    There l = HasNode ir n.scope l

    made : is_well_made n.op ≡ true
    made = all_of (λ (m : Node). is_well_made m.op) ir.nodes w.ops n (get_in ir.nodes label n found)

    begins_by : (op : Op) → op ≡ n.op → MayBegin There Called (FansOut op) (head_of op)
    begins_by (PassOp shape result next) e = tt
    begins_by (ChoiceOp shape rules default) e = tt
    begins_by (SucceedOp shape) e = tt
    begins_by (FailOp error cause) e = tt
    begins_by (TaskOp shape func next care) e = task_site func (ap (op_tag label) (sym e)) (ap func_of (sym e))
    begins_by (ParallelOp shape func next care scopes) e = λ inputs many.
        let Q : ℕ → Type 0 = λ k. Site k kinds.Enter (suc (fans_at ir w n.scope)) in
        let (a, b, c) = children_in Q scopes inputs (all_in Q scopes (λ k i. branch_site k (subst (λ (z : Op). In k (scopes_of z)) e i))) in
        let parts : has_parts (ParallelOp shape func next care scopes) ≡ true = with_parts (ParallelOp shape func next care scopes) (ap is_well_made e ∙ made) in
        let few : length scopes ≤ 100 = leb-true (length scopes) 100 (and_parts (nat_lt 0 (length scopes)) (nat_le (length scopes) 100) parts).1 in
        (join_site func (ap (op_tag label) (sym e)) (ap func_of (sym e)), omega (arith, b, few), a)
    begins_by (MapOp shape func next care scope items selector limit) e = λ inputs many.
        let Q : ℕ → Type 0 = λ k. Site k kinds.Enter (suc (fans_at ir w n.scope)) in
        let (a, b, c) = children_in Q (repeat (length inputs) scope) inputs (all_repeat Q (length inputs) scope (branch_site scope (subst (λ (z : Op). In scope (scopes_of z)) e (inl refl)))) in
        (join_site func (ap (op_tag label) (sym e)) (ap func_of (sym e)), omega (arith, c, many), a)

    labels_there : (l : ℕ) → In l (labels (head_of n.op)) → HasNode ir n.scope l
    labels_there l i = nexts_there ir w label n found l i

    begun_there : (raw : Json) → Begun There Called (FansOut n.op) (begins n.name (head_of n.op) raw)
    begun_there raw = begins_in There Called (FansOut n.op) n.name (head_of n.op) raw labels_there (begins_by n.op refl)

    onward_there : (raw : Json) (used : Used) (o : Outcome) → Onward There Called (FansOut n.op) (finishes n.name label (head_of n.op) raw used o)
    onward_there raw used o = finishes_in There Called (FansOut n.op) n.name label (head_of n.op) raw used o (n, found, refl) labels_there

    held_room : (k : ℕ) → In k (scopes_of n.op) → fans_at ir w n.scope < 7
    held_room k i =
        let h : Holder ir w k = record { label = label; n = n; found = found; holds = i } in
        let a = few_fans ir w k (held ir w k h).within in
        let b = held_fans ir w k h in
        omega (arith, a, b)

    -- a fan has a scope, so there is room for it
    fan_room : (op : Op) → op ≡ n.op → op_tag label op ≡ well.Joins label ∷ [] → fans_at ir w n.scope < 7
    fan_room (PassOp shape result next) e t = absurd (cc)
    fan_room (ChoiceOp shape rules default) e t = absurd (cc)
    fan_room (SucceedOp shape) e t = absurd (cc)
    fan_room (FailOp error cause) e t = absurd (cc)
    fan_room (TaskOp shape func next care) e t = absurd (cc)
    fan_room (ParallelOp shape func next care scopes) e t = by scopes (λ k i. subst (λ (z : Op). In k (scopes_of z)) e i) some
      where
        some : 0 < length scopes
        some =
            let parts : has_parts (ParallelOp shape func next care scopes) ≡ true = with_parts (ParallelOp shape func next care scopes) (ap is_well_made e ∙ made) in
            ltb-true 0 (length scopes) (and_parts (nat_lt 0 (length scopes)) (nat_le (length scopes) 100) parts).0

        by : (ks : List ℕ) → ((k : ℕ) → In k ks → In k (scopes_of n.op)) → 0 < length ks → fans_at ir w n.scope < 7
        by [] h l = absurd (omega arith)
        by (k ∷ ks) h l = held_room k (h k (inl refl))
    fan_room (MapOp shape func next care scope items selector limit) e t = held_room scope (subst (λ (z : Op). In scope (scopes_of z)) e (inl refl))

  -- ---------------------------------------------------------------- walks

  abbrev StopIn : ℕ → Stop → Type 0
  StopIn k s = StopsInRange (role_in ir) (fans_at ir w k) (bare_stop s)

  on_in : (k : ℕ) (C : ℕ → Type 0) (F : List Json → Type 0) (o : OnwardOf ℕ) (go : ℕ → Json → Option Used → Stop) → Onward (λ l. HasNode ir k l) C F o →
      ((l : ℕ) → HasNode ir k l → (v : Json) (again : Option Used) → StopIn k (go l v again)) → StopIn k (flat_on o go)
  on_in k C F (Goes l v again) go h f = f l h v again
  on_in k C F (Ends o) go h f = tt

  -- at a node
  begun_in : (label : ℕ) (n : Node) (found : node_at ir label ≡ Some n) (b : BegunOf ℕ ℕ) → Begun (There label n found) (Called label n found) (FansOut label n found n.op) b → (hop : ℕ) → hop < HOPS → (raw : Json) (used : Used) →
      (go : ℕ → Json → Option Used → Stop) → ((l : ℕ) → HasNode ir n.scope l → (v : Json) (again : Option Used) → StopIn n.scope (go l v again)) → StopIn n.scope (flat_by n.op hop raw used b go)
  begun_in label n found (On o) h hop l raw used go f = on_in n.scope (Called label n found) (FansOut label n found n.op) o go h f
  begun_in label n found (Calls g x) h hop l raw used go f = (h, omega (arith, l))
  begun_in label n found (Fans inputs) h hop l raw used go f = let few = h.1 in (h.0, omega (arith, l), omega (arith, few), h.2)

  first_in : (k left label hop : ℕ) → left ≤ 2000 - hop → HasNode ir k label → (raw : Json) (again : Option Used) → StopIn k (first_flat ir left label hop raw again)
  first_in k zero label hop l h raw again = tt
  first_in k (suc left) label hop l h raw again =
      let (n, found, at) = h in
      let go : ℕ → Json → Option Used → Stop = λ next v a. first_flat ir left next (suc hop) v a in
      let more : (j : ℕ) → HasNode ir k j → (v : Json) (a : Option Used) → StopIn k (go j v a) = λ j i v a. first_in k left j (suc hop) (omega arith) i v a in
      let same : n.scope ≡ k = at in
      let here : StopIn n.scope (flat_by n.op hop raw (used_by n.op again) (begins n.name (head_of n.op) raw) go) =
      begun_in label n found (begins n.name (head_of n.op) raw) (begun_there label n found raw) hop (omega arith) raw (used_by n.op again) go
      (λ j i v a. subst (λ z. StopIn z (go j v a)) (sym same) (more j (subst (λ z. HasNode ir z j) same i) v a)) in
      subst (λ (z : Option Node). StopIn k (flat_in z hop raw again go)) (sym found)
      (subst (λ z. StopIn z (flat_by n.op hop raw (used_by n.op again) (begins n.name (head_of n.op) raw) go)) same here)

  walk_in : (k label hop : ℕ) → HasNode ir k label → (v : Json) (again : Option Used) → StopIn k (flat ir label hop v again)
  walk_in k label hop h v again = let e = limit_is in first_in k (hop_limit - hop) label hop (omega (arith, e)) h v again

  has_item : {X : Type 0} (xs : List X) (i : ℕ) → i < length xs → (x : X) × (slice_get xs i ≡ Some x)
  has_item [] i l = absurd (omega arith)
  has_item (y ∷ xs) zero l = (y, refl)
  has_item (y ∷ xs) (suc i) l = has_item xs i (omega arith)

  enter_in : (k : ℕ) → k < length ir.scopes → (o : Outcome) → StopIn k (after_enter ir k o)
  enter_in k l (Failed f) = tt
  enter_in k l (Done v) =
      let (s, e) = has_item ir.scopes k l in
      subst (λ (z : Option Scope). StopIn k (flat ir (start_in z) 0 v None)) (sym e) (walk_in k s.start 0 (starts_there ir w k s e) v None)

  node_in : (label : ℕ) (n : Node) → node_at ir label ≡ Some n → (hop : ℕ) (raw : Json) (used : Used) (o : Outcome) → StopIn (scope_in (node_at ir label)) (after_node ir label (node_at ir label) hop raw used o)
  node_in label n found hop raw used o =
      subst (λ (z : Option Node). StopIn (scope_in z) (after_node ir label z hop raw used o)) (sym found)
      (on_in n.scope (Called label n found) (FansOut label n found n.op) (finishes n.name label (head_of n.op) raw used o) (λ next v again. flat ir next (suc hop) v again)
      (onward_there label n found raw used o) (λ l h v again. walk_in n.scope l (suc hop) h v again))

  func_stops : (f : ℕ) (x : Func) → IsFunc ir f x → (hop : ℕ) (raw : Json) (used : Used) (o : Outcome) → StopIn (scope_by ir (Some x)) (after_func ir (Some x) hop raw used o)
  func_stops f (EnterFunc scope) h hop raw used o = let e : scope ≡ f = h.0 in let l : f < length ir.scopes = h.1 in enter_in scope (omega (arith, e, l)) o
  func_stops f (TaskFunc node resource) (n, found, t, g) hop raw used o = node_in node n found hop raw used o
  func_stops f (JoinFunc node) (n, found, t, g) hop raw used o = node_in node n found hop raw used o

  -- ---------------------------------------------------------------- roles

  -- the scope of a function is there
  within : (f : ℕ) (x : Func) → IsFunc ir f x → scope_by ir (Some x) < length ir.scopes
  within f (EnterFunc scope) h = let e : scope ≡ f = h.0 in let l : f < length ir.scopes = h.1 in omega (arith, e, l)
  within f (TaskFunc node resource) (n, found, t, g) = subst (λ (z : Option Node). scope_in z < length ir.scopes) (sym found) (here node n found)
  within f (JoinFunc node) (n, found, t, g) = subst (λ (z : Option Node). scope_in z < length ir.scopes) (sym found) (here node n found)

  room_by : (f : ℕ) (x : Func) → IsFunc ir f x → HasRoom (kind_of x) (fans_at ir w (scope_by ir (Some x)))
  room_by f (EnterFunc scope) h = few_fans ir w scope (within f (EnterFunc scope) h)
  room_by f (TaskFunc node resource) h = few_fans ir w (scope_in (node_at ir node)) (within f (TaskFunc node resource) h)
  room_by f (JoinFunc node) (n, found, t, g) =
      let less : fans_at ir w (scope_in (node_at ir node)) < 7 = subst (λ (z : Option Node). fans_at ir w (scope_in z) < 7) (sym found) (fan_room node n found n.op refl t) in
      omega (arith, less)

  scope_within : (f : ℕ) (x : Func) → slice_get ir.funcs f ≡ Some x → enter_of ir f < length ir.scopes
  scope_within f x e = subst (λ (z : Option Func). scope_by ir z < length ir.scopes) (sym e) (within f x (funcs_there ir w f x e))

  room_at : (f : ℕ) (kind : Kind) (n : ℕ) → Site f kind n → HasRoom kind n
  room_at f kind n h =
      let (x, e, k, m) = role_back ir f kind n h in
      let here : HasRoom (kind_of x) (fans_round ir f) = subst (λ (z : Option Func). HasRoom (kind_of x) (fans_at ir w (scope_by ir z))) (sym e) (room_by f x (funcs_there ir w f x e)) in
      subst (λ z. HasRoom kind z) m (subst (λ z. HasRoom z (fans_round ir f)) k here)

  after_at : (f : ℕ) (kind : Kind) (n : ℕ) → Site f kind n → (hop : ℕ) (raw : Json) (used : Used) (o : Outcome) → StopsInRange (role_in ir) n ((code_of_ir ir).after f hop raw used o)
  after_at f kind n h hop raw used o =
      let (x, e, k, m) = role_back ir f kind n h in
      let here : StopIn (enter_of ir f) (after_func ir (slice_get ir.funcs f) hop raw used o) =
      subst (λ (z : Option Func). StopIn (scope_by ir z) (after_func ir z hop raw used o)) (sym e) (func_stops f x (funcs_there ir w f x e) hop raw used o) in
      subst (λ z. StopsInRange (role_in ir) z ((code_of_ir ir).after f hop raw used o)) m here

  around_at : (f j : ℕ) (kind : Kind) (n : ℕ) → Site f kind (suc n) → parent_of ir f ≡ Some j → Site j kinds.Join n
  around_at f j kind n h p =
      let (x, e, k, m) = role_back ir f kind (suc n) h in
      let holder = holder_of ir w (enter_of ir f) (scope_within f x e) j p in
      let v = held ir w (enter_of ir f) holder in
      let same : v.func ≡ j = same_Some v.func j (sym v.parent ∙ p) in
      let more : fans_round ir f ≡ suc (fans_at ir w holder.n.scope) = held_fans ir w (enter_of ir f) holder in
      let less : fans_at ir w holder.n.scope ≡ n = omega (arith, more, m) in
      let there : fans_round ir v.func ≡ n = ap (fans_at ir w) v.enter ∙ less in
      subst (λ z. Site z kinds.Join n) same (subst (λ z. Site v.func kinds.Join z) there v.site)

  enters_at : (f : ℕ) (kind : Kind) (n : ℕ) → Site f kind n → Site (enter_of ir f) kinds.Enter n
  enters_at f kind n h =
      let (x, e, k, m) = role_back ir f kind n h in
      subst (λ z. Site (enter_of ir f) kinds.Enter z) m (enter_site (enter_of ir f) (scope_within f x e))

  pub form_stays : StaysInRange (role_in ir) (code_of_ir ir)
  form_stays = record {
    room = λ f kind n h. room_at f kind n h;
    after = λ f kind n h hop raw used o. after_at f kind n h hop raw used o;
    around = λ f j kind n h p. around_at f j kind n h p;
    enters = λ f kind n h. enters_at f kind n h;
  }

pub every_form_stays_in_range : EveryFormStaysInRange
every_form_stays_in_range ir w = form_stays ir w
