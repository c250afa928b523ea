-- What the acts of an instance aim at: two acts that invoke one name, or set one bit, are one act of one name.
use Rattle.world_model.proofs.Gets.{place_of}
use Rattle.world_model.proofs.Fanned.{fan_same}
use Rattle.std.proofs.Common.{ℕ, zero, suc, ◌+◌, ◌<◌, ◌≤◌, ◌≡◌, refl, sym, ap, ◌∙◌, subst, Bool, true, false, cond, nat_lt, List, [], ◌∷◌, ◌++◌, length, slice_get, Option, Some, None, arith}
use Rattle.std.proofs.lemmas.Option.{same_Some}
use Rattle.asl_model.specs.Data.{Text, Json, Outcome}
use Rattle.asl_model.specs.Names as names
use Rattle.asl_model.specs.Names.{Scope, Place, Name, Answers, at_hop, scope_of, child}
use Rattle.asl_model.specs.Machine.{Used, Block}
use Rattle.asl_model.specs.Step.{standard}
use Rattle.asl_model.specs.Central.{Visit, name_of, scope}
use Rattle.asl_model.specs.Stretch.{Stop, Call, Fan, Over, after}
use Rattle.asl_model.specs.Laws.{In}
use Rattle.asl_model.proofs.Ones.{standard_one}
use Rattle.asl_model.proofs.ReachLaw.{At_once}
use Rattle.place_name.specs.Names.{Parent}
use Rattle.world_model.specs.Operations.{name_at, root, spot_of, visited_at, Site, Frame, Kept, Invocation, Op, Set, Invoke}
use Rattle.world_model.specs.Acts.{rules, parent_of, join_name, enter_of, inner, width_of, width_in, firsts, at_once, enter_ops, pace_ops, set_ops, acts, acts_of, stop_of}
use Rattle.world_model.specs.World.{Opening, Session, Entry}
use Rattle.world_model.specs.Journals.{journal_answers, run_at, run_of}
use Rattle.world_model.proofs.Runs.{visits_of, HasFan, after_site, run_once}
use Rattle.world_model.proofs.Keeps.{MadeOk, KeptOk, Follows, leads, parent_child, parent_of_child, root_no_parent}
use Rattle.world_model.proofs.Leaves.{HasCount}
use Rattle.world_model.proofs.Traces.{fan_each, set_last, frames_count}
use Rattle.world_model.proofs.Pushed.{frames_width}
use Rattle.calm_worlds.proofs.Lines.{hop_of, unique_lem}

-- ---------------------------------------------------------------- two visits with one stop

unique_rules : (A : Answers) (b : Block) (s : Scope) (x : Json) (v u : Visit) → In v (scope rules A b s x).visits → In u (scope rules A b s x).visits → scope_of v.place ≡ scope_of u.place →
    (o p : Outcome) → v.answer ≡ Some o → u.answer ≡ Some p → hop_of (after rules v.block v.visited v.place.hop v.raw v.used o) ≡ hop_of (after rules u.block u.visited u.place.hop u.raw u.used p) → name_of v ≡ name_of u
unfolding rules
unique_rules A b s x v u i k e o p a c h = unique_lem standard standard_one A b s x v u i k e o p a c h

unique_at : (z : Option Session) (s : ℕ) (A : Answers) (v u : Visit) → In v (run_at z s A).visits → In u (run_at z s A).visits → scope_of v.place ≡ scope_of u.place →
    (o p : Outcome) → v.answer ≡ Some o → u.answer ≡ Some p → hop_of (after rules v.block v.visited v.place.hop v.raw v.used o) ≡ hop_of (after rules u.block u.visited u.place.hop u.raw u.used p) → name_of v ≡ name_of u
unique_at None s A v u i k e o p a c h = absurd i
unique_at (Some x) s A v u i k e o p a c h = unique_rules A x.machine (root s) x.input v u i k e o p a c h

pub run_unique : (o : Opening) (j : List Entry) (s : ℕ) (v u : Visit) → In v (visits_of o j s) → In u (visits_of o j s) → scope_of v.place ≡ scope_of u.place →
    (x y : Outcome) → v.answer ≡ Some x → u.answer ≡ Some y → hop_of (after rules v.block v.visited v.place.hop v.raw v.used x) ≡ hop_of (after rules u.block u.visited u.place.hop u.raw u.used y) → name_of v ≡ name_of u
unfolding run_of
run_unique o j s v u i k e x y a c h = unique_at (slice_get o.sessions s) s (journal_answers j) v u i k e x y a c h

-- the stop that an instance's acts are of, as its visit has it
pub kept_stop : (o : Opening) (j : List Entry) (i : Invocation) (k : Kept) (m : MadeOk o j i) (d : KeptOk o j i.name k) →
    after rules d.visit.block d.visit.visited d.visit.place.hop d.visit.raw d.visit.used k.answer ≡ stop_of i.site i.name.place.hop k
kept_stop o j i k m d =
    let v : Visit = d.visit in
    let one : v ≡ m.visit = run_once o j i.name.place.session v m.visit d.in_run m.in_run (d.name_is ∙ sym m.name_is) in
    let block : v.block ≡ i.site.block = ap (λ (z : Visit). z.block) one ∙ m.block_is in
    let spot : spot_of v.visited ≡ i.site.spot = ap (λ (z : Visit). spot_of z.visited) one ∙ m.spot_is in
    let place : v.place ≡ i.name.place = ap (λ (z : Name). z.place) d.name_is in
    let same : after rules v.block (visited_at (spot_of v.visited)) v.place.hop v.raw v.used k.answer ≡ stop_of i.site i.name.place.hop k = cc (block, spot, place, d.raw_is, d.used_is) in
    after_site v.block v.visited v.place.hop v.raw v.used k.answer ∙ same

-- two instances of one scope with the same stop have one name
pub unique_names : (o : Opening) (j : List Entry) (i v : Invocation) (k l : Kept) → MadeOk o j i → MadeOk o j v → KeptOk o j i.name k → KeptOk o j v.name l → scope_of i.name.place ≡ scope_of v.name.place →
    hop_of (stop_of i.site i.name.place.hop k) ≡ hop_of (stop_of v.site v.name.place.hop l) → i.name ≡ v.name
unique_names o j i v k l m n d e s h =
    let there : In e.visit (visits_of o j i.name.place.session) = subst (λ z. In e.visit (visits_of o j z)) (ap (λ (z : Scope). z.session) (sym s)) e.in_run in
    sym d.name_is
    ∙ run_unique o j i.name.place.session d.visit e.visit d.in_run there (ap (λ (z : Name). scope_of z.place) d.name_is ∙ s ∙ ap (λ (z : Name). scope_of z.place) (sym e.name_is)) k.answer l.answer d.answer_is e.answer_is
    (ap hop_of (kept_stop o j i k m d) ∙ h ∙ ap hop_of (sym (kept_stop o j v l n e)))
    ∙ e.name_is

-- what is kept for one name has the same acts
pub acts_same : (o : Opening) (j : List Entry) (i : Invocation) (k l : Kept) → MadeOk o j i → KeptOk o j i.name k → KeptOk o j i.name l → acts i k ≡ acts i l
acts_same o j i k l m d e =
    let one : d.visit ≡ e.visit = run_once o j i.name.place.session d.visit e.visit d.in_run e.in_run (d.name_is ∙ sym e.name_is) in
    let raw : k.raw ≡ l.raw = sym d.raw_is ∙ ap (λ (z : Visit). z.raw) one ∙ e.raw_is in
    let used : k.used ≡ l.used = sym d.used_is ∙ ap (λ (z : Visit). z.used) one ∙ e.used_is in
    let answer : k.answer ≡ l.answer = same_Some k.answer l.answer (sym d.answer_is ∙ ap (λ (z : Visit). z.answer) one ∙ e.answer_is) in
    let stop : stop_of i.site i.name.place.hop k ≡ stop_of i.site i.name.place.hop l = cc (raw, used, answer) in
    ap (acts_of i.site (scope_of i.name.place)) stop

-- ---------------------------------------------------------------- what acts invoke

-- the act of that number invokes that name
abbrev pub Target : Site → Scope → Stop → ℕ → Name → Type 0
Target site s (Call name hop raw used) m n = (m ≡ 1) × (n ≡ name_at s hop names.Task)
Target site s (Fan name hop raw used []) m n = (m ≡ 1) × (n ≡ join_name (at_hop s hop))
Target site s (Fan name hop raw used (c ∷ cs)) m n =
    (index : ℕ) × (m ≡ suc index) × At_once (width_of (record { block = site.block; name = name })) index × (n ≡ name_at (child (at_hop s hop) index (suc (length cs))) 0 names.Enter)
Target site s (Over o) m n =
    (q : Parent) × (parent_of s ≡ Some q) × (w : ℕ) × (width_in site.around ≡ suc w) × (m ≡ 1) × (n ≡ name_at (child q.place (q.index + suc w) q.count) 0 names.Enter)

invoke_name : (x v : Invocation) → ◌≡◌ {A = Option Op} (Some (Invoke x)) (Some (Invoke v)) → v.name ≡ x.name
invoke_name x v e = let z : x ≡ v = cc in ap (λ (y : Invocation). y.name) (sym z)

enters_target : (around : List Frame) (p : Place) (index count : ℕ) (cs : List (Block × Json)) (m : ℕ) (v : Invocation) → slice_get (enter_ops around p index count cs) m ≡ Some (Invoke v) →
    (m < length cs) × (v.name ≡ name_at (child p (index + m) count) 0 names.Enter)
enters_target around p index count [] m v e = absurd (cc)
enters_target around p index count (c ∷ cs) zero v e =
    let z : index ≡ index + 0 = omega arith in
    (omega arith, subst (λ (k : ℕ). v.name ≡ name_at (child p k count) 0 names.Enter) z (invoke_name _ v e))
enters_target around p index count (c ∷ cs) (suc m) v e =
    let z : suc index + m ≡ index + suc m = omega arith in
    let r = enters_target around p (suc index) count cs m v e in
    let l : m < length cs = r.0 in
    (omega arith, subst (λ (k : ℕ). v.name ≡ name_at (child p k count) 0 names.Enter) z r.1)

firsts_length : {A : Type 0} (n : ℕ) (xs : List A) → length (firsts n xs) ≤ n
firsts_length zero xs = omega arith
firsts_length (suc n) [] = omega arith
firsts_length (suc n) (x ∷ xs) = let l : length (firsts n xs) ≤ n = firsts_length n xs in omega arith

once_at : (w : ℕ) (cs : List (Block × Json)) (m : ℕ) → m < length (at_once w cs) → At_once w m
once_at zero cs m l = tt
once_at (suc w) cs m l = let k : length (firsts (suc w) cs) ≤ suc w = firsts_length (suc w) cs in omega arith

paces_target : (site : Site) (s : Scope) (q : Parent) → parent_of s ≡ Some q → (w : ℕ) → width_in site.around ≡ w → (m : ℕ) (v : Invocation) → slice_get (pace_ops site q w ++ (Set q.place q.index q.count ∷ [])) m ≡ Some (Invoke v) →
    (r : Parent) × (parent_of s ≡ Some r) × (w : ℕ) × (width_in site.around ≡ suc w) × (suc m ≡ 1) × (v.name ≡ name_at (child r.place (r.index + suc w) r.count) 0 names.Enter)
paces_target site s q e zero wide zero v f = absurd (cc)
paces_target site s q e zero wide (suc m) v f = absurd (cc)
paces_target site s q e (suc w) wide m v f = by (nat_lt (q.index + suc w) q.count) m f
  where
    by : (b : Bool) (m : ℕ) → slice_get {X = Op} (cond b (Invoke (enter_of site.around q.place (q.index + suc w) q.count site.block) ∷ []) [] ++ (Set q.place q.index q.count ∷ [])) m ≡ Some (Invoke v) →
        (r : Parent) × (parent_of s ≡ Some r) × (w : ℕ) × (width_in site.around ≡ suc w) × (suc m ≡ 1) × (v.name ≡ name_at (child r.place (r.index + suc w) r.count) 0 names.Enter)
    by true zero g = (q, e, w, wide, refl, invoke_name _ v g)
    by true (suc zero) g = absurd (cc)
    by true (suc (suc m)) g = absurd (cc)
    by false zero g = absurd (cc)
    by false (suc m) g = absurd (cc)

sets_target : (site : Site) (s : Scope) (z : Option Parent) → parent_of s ≡ z → (m : ℕ) (v : Invocation) → slice_get (set_ops site z) m ≡ Some (Invoke v) →
    (r : Parent) × (parent_of s ≡ Some r) × (w : ℕ) × (width_in site.around ≡ suc w) × (suc m ≡ 1) × (v.name ≡ name_at (child r.place (r.index + suc w) r.count) 0 names.Enter)
sets_target site s None e m v f = absurd (cc)
sets_target site s (Some q) e m v f = paces_target site s q e (width_in site.around) refl m v f

pub acts_target : (site : Site) (s : Scope) (stop : Stop) (m : ℕ) (v : Invocation) → slice_get (acts_of site s stop) m ≡ Some (Invoke v) → Target site s stop m v.name
acts_target site s (Call name hop raw used) zero v e = absurd (cc)
acts_target site s (Call name hop raw used) (suc zero) v e = (refl, invoke_name _ v e)
acts_target site s (Call name hop raw used) (suc (suc m)) v e = absurd (cc)
acts_target site s (Fan name hop raw used []) zero v e = absurd (cc)
acts_target site s (Fan name hop raw used []) (suc zero) v e = (refl, invoke_name _ v e)
acts_target site s (Fan name hop raw used []) (suc (suc m)) v e = absurd (cc)
acts_target site s (Fan name hop raw used (c ∷ cs)) zero v e = absurd (cc)
acts_target site s (Fan name hop raw used (c ∷ cs)) (suc m) v e =
    let w : ℕ = width_of (record { block = site.block; name = name }) in
    let r = enters_target (inner site name) (at_hop s hop) 0 (suc (length cs)) (at_once w (c ∷ cs)) m v (subst (λ (z : List Op). slice_get z m ≡ Some (Invoke v)) (fan_same site (at_hop s hop) name c cs) e) in
    let z : 0 + m ≡ m = omega arith in
    (m, refl, once_at w (c ∷ cs) m r.0, subst (λ (k : ℕ). v.name ≡ name_at (child (at_hop s hop) k (suc (length cs))) 0 names.Enter) z r.1)
acts_target site s (Over o) zero v e = absurd (cc)
acts_target site s (Over o) (suc m) v e = sets_target site s (parent_of s) refl m v e

kinds_apart : (n m k : Name) → n ≡ m → n ≡ k → m.kind ≡ k.kind
kinds_apart n m k p q = ap (λ (z : Name). z.kind) (sym p ∙ q)

-- a branch has one place, index and count
child_parent : (p r : Place) (i k c d : ℕ) → child p i c ≡ child r k d → ◌≡◌ {A = Parent} (record { place = p; index = i; count = c }) (record { place = r; index = k; count = d })
child_parent p r i k c d e = same_Some _ _ (sym (parent_of_child p i c) ∙ ap parent_of e ∙ parent_of_child r k d)

once_not : (w index k : ℕ) → At_once w index → (n : ℕ) → w ≡ suc n → index ≡ k + suc n → ⊥
once_not zero index k a n e f = absurd (omega arith)
once_not (suc w) index k a n e f = let l : index < suc w = a in absurd (omega arith)

module _ (o : Opening) (j : List Entry) where
  abbrev S : Invocation → Scope
  S i = scope_of i.name.place

  abbrev pub SameAim : Invocation → Invocation → Stop → Stop → ℕ → ℕ → Type 0
  SameAim i v x y l m = (S i ≡ S v) × (hop_of x ≡ hop_of y) × (l ≡ m)

  -- a fan does not invoke a branch that the end of another one invokes
  fan_over : (i v : Invocation) (name : Text) (hop : ℕ) (raw : Json) (used : Used) (c : Block × Json) (cs : List (Block × Json)) (x : Outcome) → Follows o j i (Fan name hop raw used (c ∷ cs)) → Follows o j v (Over x) → (l m : ℕ) (n : Name) →
      Target i.site (S i) (Fan name hop raw used (c ∷ cs)) l n → Target v.site (S v) (Over x) m n → ⊥
  fan_over i v name hop raw used c cs x F G l m n (index, li, once, p) (q, qe, w, wide, mi, r) =
      let same = child_parent (at_hop (S i) hop) q.place index (q.index + suc w) (suc (length cs)) q.count (ap (λ (z : Name). scope_of z.place) (sym p ∙ r)) in
      let lead : HasFan o j (at_hop (S i) hop) i.site.block name raw used (c ∷ cs) = leads o j i name hop raw used (c ∷ cs) F in
      let there : HasFan o j q.place i.site.block name raw used (c ∷ cs) = subst (λ (z : Place). HasFan o j z i.site.block name raw used (c ∷ cs)) (ap (λ (z : Parent). z.place) same) lead in
      let width = frames_width o j (S v) v.site.block v.site.around G.frames q qe i.site.block name raw used (c ∷ cs) there in
      once_not (width_of (record { block = i.site.block; name = name })) index q.index once w (sym width ∙ wide) (ap (λ (z : Parent). z.index) same)

  over_over : (i v : Invocation) (x y : Outcome) → Follows o j i (Over x) → Follows o j v (Over y) → (l m : ℕ) (n : Name) → Target i.site (S i) (Over x) l n → Target v.site (S v) (Over y) m n → SameAim i v (Over x) (Over y) l m
  over_over i v x y F G l m n (q, qe, w, wide, li, p) (r, re, u, deep, mi, s) =
      let same = child_parent q.place r.place (q.index + suc w) (r.index + suc u) q.count r.count (ap (λ (z : Name). scope_of z.place) (sym p ∙ s)) in
      let c : HasCount o j q.place q.count = frames_count o j (S i) i.site.block i.site.around F.frames q qe in
      let lead : HasFan o j q.place c.fan.block c.fan.name c.raw c.used c.fan.branches = c.fan.leads in
      let places : q.place ≡ r.place = ap (λ (z : Parent). z.place) same in
      let one = frames_width o j (S i) i.site.block i.site.around F.frames q qe c.fan.block c.fan.name c.raw c.used c.fan.branches lead in
      let two = frames_width o j (S v) v.site.block v.site.around G.frames r re c.fan.block c.fan.name c.raw c.used c.fan.branches (subst (λ z. HasFan o j z c.fan.block c.fan.name c.raw c.used c.fan.branches) places lead) in
      let widths : suc w ≡ suc u = sym wide ∙ one ∙ sym two ∙ deep in
      let sums : q.index + suc w ≡ r.index + suc u = ap (λ (z : Parent). z.index) same in
      let index : q.index ≡ r.index = omega arith in
      let counts : q.count ≡ r.count = ap (λ (z : Parent). z.count) same in
      (parent_child (S i) q qe ∙ cc (places, index, counts) ∙ sym (parent_child (S v) r re), refl, li ∙ sym mi)

  -- two acts that invoke one name
  pub target_once : (i v : Invocation) (x y : Stop) → Follows o j i x → Follows o j v y → (l m : ℕ) (n : Name) → Target i.site (S i) x l n → Target v.site (S v) y m n → SameAim i v x y l m
  target_once i v (Call a h r u) (Call b k q u') F G l m n p c =
      (ap (λ (z : Name). scope_of z.place) (sym p.1 ∙ c.1), ap (λ (z : Name). Some z.place.hop) (sym p.1 ∙ c.1), p.0 ∙ sym c.0)
  target_once i v (Call a h r u) (Fan b k q u' []) F G l m n p c = absurd (let z : names.Task ≡ names.Join = kinds_apart n _ _ p.1 c.1 in cc)
  target_once i v (Call a h r u) (Fan b k q u' (d ∷ ds)) F G l m n p c = absurd (let z : names.Task ≡ names.Enter = kinds_apart n _ _ p.1 c.3 in cc)
  target_once i v (Call a h r u) (Over x) F G l m n p c = absurd (let z : names.Task ≡ names.Enter = kinds_apart n _ _ p.1 c.5 in cc)
  target_once i v (Fan a h r u []) (Call b k q u') F G l m n p c = absurd (let z : names.Join ≡ names.Task = kinds_apart n _ _ p.1 c.1 in cc)
  target_once i v (Fan a h r u []) (Fan b k q u' []) F G l m n p c =
      (ap (λ (z : Name). scope_of z.place) (sym p.1 ∙ c.1), ap (λ (z : Name). Some z.place.hop) (sym p.1 ∙ c.1), p.0 ∙ sym c.0)
  target_once i v (Fan a h r u []) (Fan b k q u' (d ∷ ds)) F G l m n p c = absurd (let z : names.Join ≡ names.Enter = kinds_apart n _ _ p.1 c.3 in cc)
  target_once i v (Fan a h r u []) (Over x) F G l m n p c = absurd (let z : names.Join ≡ names.Enter = kinds_apart n _ _ p.1 c.5 in cc)
  target_once i v (Fan a h r u (e ∷ es)) (Call b k q u') F G l m n p c = absurd (let z : names.Enter ≡ names.Task = kinds_apart n _ _ p.3 c.1 in cc)
  target_once i v (Fan a h r u (e ∷ es)) (Fan b k q u' []) F G l m n p c = absurd (let z : names.Enter ≡ names.Join = kinds_apart n _ _ p.3 c.1 in cc)
  target_once i v (Fan a h r u (e ∷ es)) (Fan b k q u' (d ∷ ds)) F G l m n p c =
      let same = child_parent (at_hop (S i) h) (at_hop (S v) k) p.0 c.0 (suc (length es)) (suc (length ds)) (ap (λ (z : Name). scope_of z.place) (sym p.3 ∙ c.3)) in
      (ap (λ (z : Parent). scope_of z.place) same, ap (λ (z : Parent). Some z.place.hop) same, p.1 ∙ ap (λ (z : Parent). suc z.index) same ∙ sym c.1)
  target_once i v (Fan a h r u (e ∷ es)) (Over x) F G l m n p c = absurd (fan_over i v a h r u e es x F G l m n p c)
  target_once i v (Over x) (Call b k q u') F G l m n p c = absurd (let z : names.Enter ≡ names.Task = kinds_apart n _ _ p.5 c.1 in cc)
  target_once i v (Over x) (Fan b k q u' []) F G l m n p c = absurd (let z : names.Enter ≡ names.Join = kinds_apart n _ _ p.5 c.1 in cc)
  target_once i v (Over x) (Fan b k q u' (d ∷ ds)) F G l m n p c = absurd (fan_over v i b k q u' d ds x G F m l n c p)
  target_once i v (Over x) (Over y) F G l m n p c = over_over i v x y F G l m n p c

-- no act invokes the Enter of a session
child_root : (p : Place) (i c k : ℕ) → child p i c ≡ root k → ⊥
child_root p i c k e = root_no_parent (child p i c) (ap (λ (z : Scope). z.trail) e) (record { place = p; index = i; count = c }) (parent_of_child p i c)

pub target_root : (site : Site) (s : Scope) (x : Stop) (l : ℕ) (n : Name) (k : ℕ) → Target site s x l n → n ≡ name_at (root k) 0 names.Enter → ⊥
target_root site s (Call a h r u) l n k p e = let z : names.Task ≡ names.Enter = kinds_apart n _ _ p.1 e in cc
target_root site s (Fan a h r u []) l n k p e = let z : names.Join ≡ names.Enter = kinds_apart n _ _ p.1 e in cc
target_root site s (Fan a h r u (c ∷ cs)) l n k p e = child_root (at_hop s h) p.0 (suc (length cs)) k (ap (λ (z : Name). scope_of z.place) (sym p.3 ∙ e))
target_root site s (Over o) l n k (q, qe, w, wide, mi, r) e = child_root q.place (q.index + suc w) q.count k (ap (λ (z : Name). scope_of z.place) (sym r ∙ e))

-- a Join that an act invokes is of an empty fan
pub target_join : (o : Opening) (j : List Entry) (i : Invocation) (x : Stop) → Follows o j i x → (l : ℕ) (n : Name) (p : Place) → Target i.site (scope_of i.name.place) x l n → n ≡ join_name p → HasCount o j p 0
target_join o j i (Call a h r u) F l n p t e = absurd (let z : names.Task ≡ names.Join = kinds_apart n _ _ t.1 e in cc)
target_join o j i (Fan a h r u []) F l n p t e =
    let q : at_hop (scope_of i.name.place) h ≡ p = ap (λ (y : Name). y.place) (sym t.1 ∙ e) in
    subst (λ y. HasCount o j y 0) q (record { raw = r; used = u; fan = record { block = i.site.block; name = a; branches = []; leads = leads o j i a h r u [] F; count_is = refl } })
target_join o j i (Fan a h r u (c ∷ cs)) F l n p t e = absurd (let z : names.Enter ≡ names.Join = kinds_apart n _ _ t.3 e in cc)
target_join o j i (Over x) F l n p t e = absurd (let z : names.Enter ≡ names.Join = kinds_apart n _ _ t.5 e in cc)

-- ---------------------------------------------------------------- what sets a bit

-- a Set is the last act of an end
pub sets_end : (site : Site) (s : Scope) (stop : Stop) (m : ℕ) (p : Place) (i c : ℕ) → slice_get (acts_of site s stop) m ≡ Some (Set p i c) → hop_of stop ≡ None
sets_end site s (Call name hop raw used) zero p i c e = absurd (cc)
sets_end site s (Call name hop raw used) (suc zero) p i c e = absurd (cc)
sets_end site s (Call name hop raw used) (suc (suc m)) p i c e = absurd (cc)
sets_end site s (Fan name hop raw used cs) zero p i c e = absurd (cc)
sets_end site s (Fan name hop raw used []) (suc zero) p i c e = absurd (cc)
sets_end site s (Fan name hop raw used []) (suc (suc m)) p i c e = absurd (cc)
sets_end site s (Fan name hop raw used (d ∷ cs)) (suc m) p i c e = absurd (fan_each site (at_hop s hop) name d cs m (Set p i c) e)
sets_end site s (Over x) m p i c e = refl

pub sets_last : (site : Site) (s : Scope) (stop : Stop) (m : ℕ) (p : Place) (i c : ℕ) → slice_get (acts_of site s stop) m ≡ Some (Set p i c) → suc m ≡ length (acts_of site s stop)
sets_last site s stop m p i c e =
    let a : length (acts_of site s stop) ≤ suc m = set_last site s stop m p i c e in
    let b : m < length (acts_of site s stop) = place_of (acts_of site s stop) m (Set p i c) e in
    omega arith
