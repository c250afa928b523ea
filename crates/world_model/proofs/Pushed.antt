-- What the acts of an instance have led to.
use Rattle.std.proofs.Common.{ℕ, zero, suc, ◌+◌, ◌<◌, ◌≡◌, refl, sym, ap, ◌∙◌, subst, Bool, true, false, cond, nat_lt, List, [], ◌∷◌, ◌++◌, length, slice_get, Option, Some, None, arith}
use Rattle.std.proofs.lemmas.Option.{same_Some}
use Rattle.std.proofs.lemmas.Bool.{lt-ltb}
use Rattle.asl_model.specs.Data.{Text, Json}
use Rattle.asl_model.specs.Names.{Scope, Place, Name, at_hop, child}
use Rattle.asl_model.specs.Machine.{Used, Block}
use Rattle.asl_model.specs.Stretch.{Stop, Call, Fan, Over}
use Rattle.asl_model.proofs.ReachLaw.{At_once, Led, enter_name}
use Rattle.place_name.specs.declared.obj.Obj.TheVariants.{Out}
use Rattle.place_name.specs.Names.{Parent}
use Rattle.world_model.specs.Operations.{Frame, Site, Op, Set, Invoke}
use Rattle.world_model.specs.Acts.{parent_of, enter_of, inner, width_of, width_in, firsts, at_once, enter_ops, fan_ops, pace_ops, set_ops, acts_of}
use Rattle.world_model.specs.World.{Opening, Entry, World}
use Rattle.world_model.proofs.Runs.{HasFan, run_one_fan}
use Rattle.world_model.proofs.Keeps.{FrameOk, FramesOk, parent_of_child, root_no_parent, get_at}
use Rattle.world_model.proofs.Leaves.{Present, HasInv, HasSet, ActedAll}
use Rattle.world_model.proofs.Gets.{get_last}
use Rattle.world_model.proofs.Fanned.{fan_same}

abbrev pub width : Block → Text → ℕ
width b name = width_of (record { block = b; name = name })

-- a name of the session was invoked
abbrev pub Invited : World → ℕ → Name → Type 0
Invited w s n = HasInv w.invs n × (n.place.session ≡ s)

-- a scope of the session has ended; a branch has set its bit, and let the next one begin
pub record OverOut (w : World) (s : ℕ) (t : Scope) : Type 0 where
  pub session_is : t.session ≡ s
  pub there : Present w.objects (Out t)
  pub set : (q : Parent) → parent_of t ≡ Some q → HasSet w.objects w.invs q.place q.index q.count
  pub next : (q : Parent) → parent_of t ≡ Some q → (b : Block) (name : Text) (raw : Json) (used : Used) (cs : List (Block × Json)) → HasFan w.opening w.journal q.place b name raw used cs →
      (n : ℕ) → width b name ≡ suc n → q.index + suc n < q.count → HasInv w.invs (enter_name (child q.place (q.index + suc n) q.count))

firsts_some : {A : Type 0} (n : ℕ) (xs : List A) (i : ℕ) → i < n → i < length xs → (x : A) × (slice_get (firsts n xs) i ≡ Some x)
firsts_some zero xs i k l = absurd (omega arith)
firsts_some (suc n) [] i k l = absurd (omega arith)
firsts_some (suc n) (x ∷ xs) zero k l = (x, refl)
firsts_some (suc n) (x ∷ xs) (suc i) k l = firsts_some n xs i (omega arith) (omega arith)

once_some : {A : Type 0} (w : ℕ) (xs : List A) (i : ℕ) → At_once w i → i < length xs → (x : A) × (slice_get (at_once w xs) i ≡ Some x)
once_some zero xs i k l = get_at xs i l
once_some (suc w) xs i k l = firsts_some (suc w) xs i k l

enter_at : (around : List Frame) (p : Place) (index count : ℕ) (cs : List (Block × Json)) (i : ℕ) (c : Block × Json) → slice_get cs i ≡ Some c → slice_get (enter_ops around p index count cs) i ≡ Some (Invoke (enter_of around p (index + i) count c.0))
enter_at around p index count [] i c e = absurd (cc)
enter_at around p index count (d ∷ cs) zero c e =
    let z : index ≡ index + 0 = omega arith in
    subst (λ n. ◌≡◌ {A = Option Op} (Some (Invoke (enter_of around p index count d.0))) (Some (Invoke (enter_of around p n count c.0)))) z
    (ap (λ (y : Block × Json). let op : Op = Invoke (enter_of around p index count y.0) in Some op) (same_Some d c e))
enter_at around p index count (d ∷ cs) (suc i) c e =
    let z : suc index + i ≡ index + suc i = omega arith in
    subst (λ n. slice_get (enter_ops around p (suc index) count cs) i ≡ Some (Invoke (enter_of around p n count c.0))) z (enter_at around p (suc index) count cs i c e)

-- the frame around a branch has the width of its fan
pub frames_width : (o : Opening) (j : List Entry) (t : Scope) (b : Block) (around : List Frame) → FramesOk o j t b around → (q : Parent) → parent_of t ≡ Some q →
    (fb : Block) (name : Text) (raw : Json) (used : Used) (cs : List (Block × Json)) → HasFan o j q.place fb name raw used cs → width_in around ≡ width fb name
frames_width o j t b [] h q e fb name raw used cs lead = absurd (root_no_parent t h q e)
frames_width o j t b (f ∷ around) h q e fb name raw used cs lead =
    let c : FrameOk o j t b f = h.0 in
    let n : ℕ = length c.branches in
    let here : Parent = record { place = c.place; index = c.index; count = n } in
    let hq : q ≡ here = same_Some q here (sym e ∙ ap parent_of c.scope_is ∙ parent_of_child c.place c.index n) in
    let same = run_one_fan o j c.place f.block fb f.name name c.raw raw c.used used c.branches cs c.leads (subst (λ (z : Parent). HasFan o j z.place fb name raw used cs) hq lead) in
    ap (λ (z : Block). width z f.name) same.block ∙ ap (λ (z : Text). width fb z) same.name_is

module _ (w : World) (s : ℕ) (site : Site) (t : Scope) (here : t.session ≡ s) where
  abbrev AllActed : List Op → Type 0
  AllActed ops = ActedAll w.objects w.invs ops

  set_at : (z : Option Parent) → AllActed (set_ops site z) → (q : Parent) → z ≡ Some q → HasSet w.objects w.invs q.place q.index q.count
  set_at None f q e = absurd (cc)
  set_at (Some p) f q e =
      let paces : List Op = pace_ops site p (width_in site.around) in
      subst (λ (y : Parent). HasSet w.objects w.invs y.place y.index y.count) (same_Some p q e) (f (length paces) (Set p.place p.index p.count) (get_last paces (Set p.place p.index p.count)))

  pace_at : (q : Parent) (m : ℕ) → AllActed (pace_ops site q m ++ (Set q.place q.index q.count ∷ [])) → (n : ℕ) → m ≡ suc n → q.index + suc n < q.count → HasInv w.invs (enter_name (child q.place (q.index + suc n) q.count))
  pace_at q zero f n e l = absurd (omega arith)
  pace_at q (suc k) f n e l =
      let same : k ≡ n = omega arith in
      let lt : q.index + suc k < q.count = omega arith in
      subst (λ z. HasInv w.invs (enter_name (child q.place (q.index + suc z) q.count))) same (by (nat_lt (q.index + suc k) q.count) (lt-ltb _ _ lt) f)
    where
      by : (b : Bool) → b ≡ true → AllActed (cond b (Invoke (enter_of site.around q.place (q.index + suc k) q.count site.block) ∷ []) [] ++ (Set q.place q.index q.count ∷ [])) → HasInv w.invs (enter_name (child q.place (q.index + suc k) q.count))
      by true r g = g 0 (Invoke (enter_of site.around q.place (q.index + suc k) q.count site.block)) refl
      by false r g = absurd (cc)

  paced_at : (z : Option Parent) → AllActed (set_ops site z) → (q : Parent) → z ≡ Some q → (n : ℕ) → width_in site.around ≡ suc n → q.index + suc n < q.count → HasInv w.invs (enter_name (child q.place (q.index + suc n) q.count))
  paced_at None f q e = absurd (cc)
  paced_at (Some p) f q e =
      subst (λ (y : Parent). (n : ℕ) → width_in site.around ≡ suc n → y.index + suc n < y.count → HasInv w.invs (enter_name (child y.place (y.index + suc n) y.count))) (same_Some p q e) (pace_at p (width_in site.around) f)

  branch_at : (p : Place) (name : Text) (c : Block × Json) (cs : List (Block × Json)) → AllActed (enter_ops (inner site name) p 0 (suc (length cs)) (at_once (width site.block name) (c ∷ cs))) →
      (i : ℕ) → i < suc (length cs) → At_once (width site.block name) i → HasInv w.invs (enter_name (child p i (suc (length cs))))
  branch_at p name c cs f i l once =
      let ds : List (Block × Json) = at_once (width site.block name) (c ∷ cs) in
      let (d, e) = once_some (width site.block name) (c ∷ cs) i once l in
      let z : 0 + i ≡ i = omega arith in
      subst (λ n. HasInv w.invs (enter_name (child p n (suc (length cs))))) z (f i (Invoke (enter_of (inner site name) p (0 + i) (suc (length cs)) d.0)) (enter_at (inner site name) p 0 (suc (length cs)) ds i d e))

  -- the traces of the acts at a stop
  pub led_at : FramesOk w.opening w.journal t site.block site.around → (stop : Stop) → AllActed (acts_of site t stop) → Led width (Invited w s) (OverOut w s) site.block t stop
  led_at fr (Call name hop raw used) f = (f 1 _ refl, here)
  led_at fr (Fan name hop raw used []) f = (λ _. (f 1 _ refl, here), λ i l once. absurd (omega arith))
  led_at fr (Fan name hop raw used (c ∷ cs)) f = (
    λ q. absurd (cc),
    λ i l once.
        let fanned : AllActed (fan_ops site (at_hop t hop) name (c ∷ cs)) = λ m op e. f (suc m) op e in
        (branch_at (at_hop t hop) name c cs (subst AllActed (fan_same site (at_hop t hop) name c cs) fanned) i l once, here),
  )
  led_at fr (Over x) f = record {
    session_is = here;
    there = f 0 _ refl;
    set = set_at (parent_of t) (λ m op e. f (suc m) op e);
    next = λ q e b name raw used cs lead n wide l. paced_at (parent_of t) (λ m op e. f (suc m) op e) q e n (frames_width w.opening w.journal t site.block site.around fr q e b name raw used cs lead ∙ wide) l;
  }
