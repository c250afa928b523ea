-- How many fans are round a scope of a well formed flat form.
use Rattle.std.proofs.Common.{◌≡◌, ℕ, zero, suc, ◌+◌, ◌<◌, ◌≤◌, ◌⊎◌, inl, inr, Bool, true, false, ◌==◌, if◌then◌else◌, List, [], ◌∷◌, ◌++◌, Option, Some, None, length, slice_get, refl, sym, ap, ◌∙◌, subst, arith}
use Rattle.std.specs.List.{list_all}
use Rattle.std.proofs.lemmas.Bool.{and_parts, eqb-true}
use Rattle.std.proofs.lemmas.Option.{slice_get_within}
use Rattle.asl_model.specs.Laws.{In}
use Rattle.asl_model.proofs.Lists.{In-cases}
use Rattle.place_name.specs.declared.kind.Kind.TheVariants as kinds
use Rattle.unum_ir.specs.declared.ir.Ir.{Ir}
use Rattle.unum_ir.specs.declared.ir.Node.{Node}
use Rattle.unum_ir.specs.declared.ir.Scope.{Scope}
use Rattle.unum_ir.specs.declared.ir.Op.{Op}
use Rattle.unum_ir.specs.declared.ir.Op.TheVariants.{Pass as PassOp, Choice as ChoiceOp, Succeed as SucceedOp, Fail as FailOp, Task as TaskOp, Parallel as ParallelOp, Map as MapOp}
use Rattle.unum_ir.specs.declared.ir.Func.{Func}
use Rattle.unum_ir.specs.declared.ir.Func.TheVariants.{Enter as EnterFunc}
use Rattle.unum_ir.specs.Flat.{func_of, node_at}
use Rattle.unum_ir.specs.Calls.{scope_by, enter_of, parent_in}
use Rattle.unum_ir.specs.WellFormed.{IsWellFormed, range, scopes_of, held_by, each, scopes_below, same_number, has_parent, Joins, op_tag}
use Rattle.unum_ir.proofs.TablesHold.{scopes_there}
use Rattle.continuation_gen.proofs.Lists.{in_get}
use Rattle.world_ranges.specs.Roles.{IsSite}
use Rattle.world_ranges.specs.Flat.{fans_from, fans_round, role_in}
use Rattle.world_ranges.proofs.Tables.{same_numbers_is, range_in, enter_there, role_at, join_there}

-- a node that holds a scope is a fan
pub is_fan : (label : ℕ) (op : Op) (k : ℕ) → In k (scopes_of op) → (op_tag label op ≡ Joins label ∷ []) × ((f : ℕ) × (func_of op ≡ Some f))
is_fan label (PassOp shape result next) k i = absurd i
is_fan label (ChoiceOp shape rules default) k i = absurd i
is_fan label (SucceedOp shape) k i = absurd i
is_fan label (FailOp error cause) k i = absurd i
is_fan label (TaskOp shape func next care) k i = absurd i
is_fan label (ParallelOp shape func next care scopes) k i = (refl, (func, refl))
is_fan label (MapOp shape func next care scope items selector limit) k i = (refl, (func, refl))

-- a held scope has a node that holds it
held_node : (j : ℕ) (ns : List Node) (k : ℕ) → In k (held_by j ns) → (n : Node) × In n ns × (n.scope ≡ j) × In k (scopes_of n.op)
held_node j [] k i = absurd i
held_node j (m ∷ ns) k i = by (λ h. held_node j ns k h) (m.scope == j) refl i
  where
    further : (n : Node) × In n ns × (n.scope ≡ j) × In k (scopes_of n.op) → (n : Node) × In n (m ∷ ns) × (n.scope ≡ j) × In k (scopes_of n.op)
    further (n, a, b, c) = (n, inr a, b, c)

    by : (In k (held_by j ns) → (n : Node) × In n ns × (n.scope ≡ j) × In k (scopes_of n.op)) → (b : Bool) → (m.scope == j) ≡ b → In k ((if b then scopes_of m.op else []) ++ held_by j ns) →
        (n : Node) × In n (m ∷ ns) × (n.scope ≡ j) × In k (scopes_of n.op)
    by rest true e h = elim (In-cases (scopes_of m.op) (held_by j ns) k h) [ inl a ↦ (m, inl refl, eqb-true m.scope j e, a) | inr b ↦ further (rest b) ]
    by rest false e h = further (rest h)

each_node : (f : ℕ → List ℕ) (xs : List ℕ) (k : ℕ) → In k (each f xs) → (x : ℕ) × In x xs × In k (f x)
each_node f [] k i = absurd i
each_node f (x ∷ xs) k i = elim (In-cases (f x) (each f xs) k i) [ inl a ↦ (x, inl refl, a) | inr b ↦ let (y, c, d) = each_node f xs k b in (y, inr c, d) ]

module _ (ir : Ir) (w : IsWellFormed ir) where
  -- so many fans are counted round the scope, where they may all be counted
  abbrev HasFans : ℕ → ℕ → Type 0
  HasFans k d = (most : ℕ) → d ≤ most → fans_from ir most (parent_in (slice_get ir.scopes k)) ≡ d

  -- a fan that holds the scope
  pub record Holder (k : ℕ) : Type 0 where
    pub label : ℕ
    pub n : Node
    pub found : node_at ir label ≡ Some n
    pub holds : In k (scopes_of n.op)

  no_fan : (most : ℕ) → fans_from ir most None ≡ 0
  no_fan zero = refl
  no_fan (suc most) = refl

  no_parent : (s : Option Scope) → has_parent None s ≡ true → parent_in s ≡ None
  no_parent None e = absurd (cc)
  no_parent (Some s) e = by s.parent e
    where
      by : (p : Option ℕ) → same_number p None ≡ true → p ≡ None
      by None e = refl
      by (Some x) e = absurd (cc)

  first_parent : parent_in (slice_get ir.scopes 0) ≡ None
  first_parent =
      let (a, b) = and_parts (has_parent None (slice_get ir.scopes 0)) (list_all (λ (n : Node). list_all (λ k. has_parent (func_of n.op) (slice_get ir.scopes k)) (scopes_of n.op)) ir.nodes) w.parents in
      no_parent (slice_get ir.scopes 0) a

  first_fans : HasFans 0 0
  first_fans most l = ap (fans_from ir most) first_parent ∙ no_fan most

  -- the function of a scope's holder
  pub record Held (k : ℕ) (h : Holder k) : Type 0 where
    pub func : ℕ
    pub is : func_of h.n.op ≡ Some func
    pub site : IsSite (role_in ir) func kinds.Join (fans_round ir func)
    pub enter : enter_of ir func ≡ h.n.scope
    pub parent : parent_in (slice_get ir.scopes k) ≡ Some func
    pub within : k < length ir.scopes

  pub held : (k : ℕ) (h : Holder k) → Held k h
  held k h =
      let (tag, (f, is)) = is_fan h.label h.n.op k h.holds in
      let (site, enter) = join_there ir w h.label h.n h.found f tag is in
      let (s, g, p) = (scopes_there ir w h.label h.n h.found).1 k h.holds in
      record { func = f; is = is; site = site; enter = enter; parent = ap parent_in g ∙ p ∙ is; within = slice_get_within ir.scopes k s g }

  -- one fan more
  more_fans : (k : ℕ) (h : Holder k) (d : ℕ) → HasFans h.n.scope d → HasFans k (suc d)
  more_fans k h d a zero l = absurd (omega arith)
  more_fans k h d a (suc most) l =
      let v = held k h in
      ap (fans_from ir (suc most)) v.parent ∙ ap (λ z. suc (fans_from ir most (parent_in (slice_get ir.scopes z)))) v.enter ∙ ap suc (a most (omega arith))

  -- a scope that is met on the way down
  record Met (j d m k : ℕ) : Type 0 where
    fans : ℕ
    counted : HasFans k fans
    below : fans < d + m
    from : (k ≡ j) ⊎ Holder k

  met : (m j d k : ℕ) → HasFans j d → In k (scopes_below m ir.nodes j) → Met j d m k
  met zero j d k a i = absurd i
  met (suc m) j d k a i = elim i [
    | inl e ↦ record { fans = d; counted = subst (λ z. HasFans z d) (sym e) a; below = omega arith; from = inl e }
    | inr h ↦
        let (x, b, c) = each_node (scopes_below m ir.nodes) (held_by j ir.nodes) k h in
        let (n, p, same, q) = held_node j ir.nodes x b in
        let (label, found) = in_get ir.nodes n p in
        let holder : Holder x = record { label = label; n = n; found = found; holds = q } in
        let r : Met x (suc d) m k = met m x (suc d) k (more_fans x holder d (subst (λ z. HasFans z d) (sym same) a)) c in
        record {
          fans = r.fans;
          counted = r.counted;
          below = (let l = r.below in omega (arith, l));
          from = inr (elim r.from [ inl e ↦ subst Holder (sym e) holder | inr y ↦ y ]);
        }
  ]

  any : (k : ℕ) → k < length ir.scopes → Met 0 0 8 k
  any k l =
      let same : scopes_below 8 ir.nodes 0 ≡ range 0 (length ir.scopes) = same_numbers_is (scopes_below 8 ir.nodes 0) (range 0 (length ir.scopes)) w.scopes in
      met 8 0 0 k first_fans (subst (In k) (sym same) (range_in 0 (length ir.scopes) k (omega arith) (omega arith)))

  -- ---- by scopes

  abbrev pub fans_at : ℕ → ℕ
  fans_at k = fans_from ir 8 (parent_in (slice_get ir.scopes k))

  pub few_fans : (k : ℕ) → k < length ir.scopes → fans_at k ≤ 7
  few_fans k l =
      let r = any k l in
      let b = r.below in
      let e : fans_at k ≡ r.fans = r.counted 8 (omega (arith, b)) in
      omega (arith, b, e)

  -- round a scope that is held there is one fan more
  pub held_fans : (k : ℕ) (h : Holder k) → fans_at k ≡ suc (fans_at h.n.scope)
  held_fans k h =
      let v = held k h in
      let r = any h.n.scope (scopes_there ir w h.label h.n h.found).0 in
      let b = r.below in
      let a : fans_at h.n.scope ≡ r.fans = r.counted 8 (omega (arith, b)) in
      more_fans k h r.fans r.counted 8 (omega (arith, b)) ∙ ap suc (sym a)

  -- a scope with a parent is held
  pub holder_of : (k : ℕ) → k < length ir.scopes → (f : ℕ) → parent_in (slice_get ir.scopes k) ≡ Some f → Holder k
  holder_of k l f e = elim (any k l).from [
    | inl z ↦ absurd (let none : parent_in (slice_get ir.scopes k) ≡ None = ap (λ j. parent_in (slice_get ir.scopes j)) z ∙ first_parent in let bad : None ≡ Some f = sym none ∙ e in cc)
    | inr h ↦ h
  ]

  -- function 0 is the Enter of the first scope, which has no fan round it
  pub first_round : IsSite (role_in ir) 0 kinds.Enter 0
  first_round =
      let some : 0 < length ir.scopes = by (slice_get ir.scopes 0) refl in
      let e = enter_there ir w 0 some in
      let none : fans_round ir 0 ≡ 0 = ap (λ (x : Option Func). fans_at (scope_by ir x)) e ∙ first_fans 8 (omega arith) in
      subst (λ n. IsSite (role_in ir) 0 kinds.Enter n) none (role_at ir 0 (EnterFunc 0) e)
    where
      by : (s : Option Scope) → slice_get ir.scopes 0 ≡ s → 0 < length ir.scopes
      by (Some s) e = slice_get_within ir.scopes 0 s e
      by None e =
          let (a, b) = and_parts (has_parent None (slice_get ir.scopes 0)) (list_all (λ (n : Node). list_all (λ k. has_parent (func_of n.op) (slice_get ir.scopes k)) (scopes_of n.op)) ir.nodes) w.parents in
          absurd (let bad : has_parent None None ≡ true = ap (has_parent None) (sym e) ∙ a in cc)
