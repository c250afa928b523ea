-- The branch that a scope is, and what is in range where its Enter is.
use Rattle.std.proofs.Common.{◌≡◌, ◌≢◌, ℕ, zero, suc, ◌<◌, ◌≤◌, refl, sym, ap, subst, List, [], ◌∷◌, length, slice_get, Option, Some}
use Rattle.std.proofs.Common.{None, arith}
use Rattle.std.specs.Prelude.{◌↔◌, IsNone, IfSome}
use Rattle.place_name.specs.declared.limits.TheConstants.{HOPS, MOST_BRANCHES, MOST_SEGS}
use Rattle.place_name.specs.Names.{Scope, Place, Parent, IsBranch, IsTrail, IsScope, IsName, IsParent}
use Rattle.place_name.specs.declared.kind.Kind.TheVariants as kinds
use Rattle.place_name.specs.declared.obj.Obj.TheVariants.{Saved, Arg}
use Rattle.world_model.specs.AnyCode.Names.{at_hop, name_at, child, split_last, parent_in, parent_of}
use Rattle.world_model.specs.AnyCode.Code.{Code, Json, Used, Stop, Call, Fan}
use Rattle.world_model.specs.AnyCode.Operations.{Create, Invoke, ArgIs, SavedAs}
use Rattle.world_model.specs.AnyCode.Acts.{join_at, task_at, enter_at, at_once, fan_ops, acts_of}
use Rattle.world_model.proofs.Keeps.{parent_of_child}
use Rattle.world_ranges.proofs.Trails.{trail_longer, parent_in as parent_in_range, scope_in}
use Rattle.fn_wrapper.specs.Ready.{NamesAt, FirstIsNamed}
use Rattle.fn_wrapper.proofs.Paces.{fan_at}

of_branch : (s : Scope) (b : Parent) → IsBranch s b → Some b ≡ parent_of s
of_branch s b e = let P : Scope → Type 0 = λ x. Some b ≡ parent_of x in subst P (sym e) (sym (parent_of_child b.place b.index b.count))

of_root : (s : Scope) → s.trail ≡ [] → None ≡ parent_of s
unfolding parent_of
of_root s e = ap (λ t. parent_in s.session (split_last t)) (sym e)

pub parent_is : (s : Scope) (r : Option Parent) → (IsNone r ↔ (s.trail ≡ [])) → IfSome r (λ b. IsBranch s b) → r ≡ parent_of s
parent_is s None n h = of_root s (n.0 refl)
parent_is s (Some b) n h = of_branch s b h

pub parent_room : (s : Scope) (r : Option Parent) → IsTrail s.trail → IfSome r (λ b. IsBranch s b) →
    IfSome r (λ b. length b.place.trail < MOST_SEGS)
parent_room s None t h = tt
parent_room s (Some b) t h =
    let n = trail_longer b.place b.index b.count in
    let e : length s.trail ≡ length (child b.place b.index b.count).trail = ap (λ (x : Scope). length x.trail) h in
    let w : length s.trail ≤ MOST_SEGS = t.within in
    omega (arith, n, e, w)

-- the Enter of a branch is in range only where the branch is, and its fan's place has room for it
pub branch_in : (p : Place) (index count : ℕ) → IsScope (child p index count) →
    IsParent (record { place = p; index = index; count = count }) × (length p.trail < MOST_SEGS)
branch_in p index count h =
    let n = trail_longer p index count in
    let m : length (child p index count).trail ≤ MOST_SEGS = h.is_trail.within in
    let q : Parent = record { place = p; index = index; count = count } in
    (parent_in_range (child p index count) q (parent_of_child p index count) h, omega (arith, n, m))

pub enter_in : {S : Type 0} (e : S) (p : Place) (index count : ℕ) → IsName (enter_at e p index count).name →
    IsParent (record { place = p; index = index; count = count }) × (length p.trail < MOST_SEGS)
enter_in e p index count h = branch_in p index count (scope_in (enter_at e p index count).name.place h.is_place)

-- where the act of a fan with that number is in range, its branch is a scope in range
pub fan_in : (w : ℕ) (p : Place) (j : ℕ) (es : List ℕ) (k e : ℕ) → NamesAt (fan_ops w p j es) k → slice_get (at_once w es) k ≡ Some e →
    es ≢ [] → IsScope (child p k (length es))
fan_in w p j es k e h at some =
    let n : IsName (enter_at e p k (length es)).name = h (Invoke (enter_at e p k (length es))) (fan_at w p j es k e at some) in
    scope_in (enter_at e p k (length es)).name.place n.is_place

pub fan_few : (w : ℕ) (p : Place) (j : ℕ) (es : List ℕ) (k e : ℕ) → NamesAt (fan_ops w p j es) k → slice_get (at_once w es) k ≡ Some e →
    es ≢ [] → length es ≤ MOST_BRANCHES
fan_few w p j es k e h at some = (branch_in p k (length es) (fan_in w p j es k e h at some)).0.within

-- the Join of a fan with no branch is in range only where its place is
pub lone_in : (w : ℕ) (p : Place) (j : ℕ) (es : List ℕ) (k : ℕ) → NamesAt (fan_ops w p j es) k → es ≡ [] → k ≡ 0 → p.hop < HOPS
lone_in w p j [] zero h e z = (h (Invoke (join_at j p)) refl).is_place.below_hops
lone_in w p j [] (suc k) h e z = absurd (omega arith)
lone_in w p j (x ∷ es) k h e z = absurd (cc)

-- and so for a Task
pub task_in : (code : Code ℕ) (site : ℕ) (s : Scope) (f hop : ℕ) (raw : Json) (used : Used) (k : ℕ) →
    NamesAt (acts_of code site s (Call f hop raw used)) (suc k) → k ≡ 0 → hop < HOPS
task_in code site s f hop raw used zero h z = (h (Invoke (task_at f s hop)) refl).is_place.below_hops
task_in code site s f hop raw used (suc k) h z = absurd (omega arith)

pub task_hop : (code : Code ℕ) (site : ℕ) (s : Scope) (stop : Stop ℕ) (f hop : ℕ) (raw : Json) (used : Used) (k : ℕ) →
    NamesAt (acts_of code site s stop) (suc k) → stop ≡ Call f hop raw used → k ≡ 0 → hop < HOPS
task_hop code site s stop f hop raw used k h e z =
    task_in code site s f hop raw used k (subst (λ x. NamesAt (acts_of code site s x) (suc k)) e h) z

-- what is created first is in range only where its hop is, and its fan has few branches
pub call_hop : (s : Scope) (stop : Stop ℕ) (f hop : ℕ) (raw : Json) (used : Used) → FirstIsNamed s stop → stop ≡ Call f hop raw used →
    hop < HOPS
call_hop s stop f hop raw used h e =
    let k = subst (FirstIsNamed s) e h in
    (k (Create (Arg (name_at s hop kinds.Task)) (ArgIs raw used)) (λ code site. refl)).0.is_place.below_hops

pub fan_hop : (s : Scope) (stop : Stop ℕ) (j hop : ℕ) (raw : Json) (used : Used) (es : List ℕ) → FirstIsNamed s stop →
    stop ≡ Fan j hop raw used es → (hop < HOPS) × (length es ≤ MOST_BRANCHES)
fan_hop s stop j hop raw used es h e =
    let k = subst (FirstIsNamed s) e h in
    let n = k (Create (Saved (at_hop s hop)) (SavedAs (length es) raw used)) (λ code site. refl) in
    (n.0.below_hops, n.1)
