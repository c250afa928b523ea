-- What an attempt has spent is no more than its visit costs, and all of it once it is over.
use Rattle.world_model.proofs.Fanned.{fan_same}
use Rattle.std.proofs.Common.{ℕ, zero, suc, ◌+◌, ◌≤◌, ◌≡◌, ◌≢◌, ◌⊎◌, inl, inr, refl, sym, ap, ap₂, ◌∙◌, subst, Bool, true, false, cond, nat_lt, List, [], ◌∷◌, ◌++◌, length, slice_get, Option, Some, None, arith, length-append}
use Rattle.std.proofs.lemmas.Option.{same_Some}
use Rattle.asl_model.specs.Data.{Text, Json, Outcome}
use Rattle.asl_model.specs.Names as names
use Rattle.asl_model.specs.Names.{Scope, Place, Name, Answers, at_hop, scope_of, child}
use Rattle.asl_model.specs.Machine.{Used, Block, state_of}
use Rattle.asl_model.specs.Central
use Rattle.asl_model.specs.Central.{Visited, Visit, name_of, kind_of as kind_at}
use Rattle.asl_model.specs.Stretch.{Stop, Call, Fan, Over, after}
use Rattle.asl_model.specs.Laws.{In, IsSound, LeadsTo}
use Rattle.asl_model.specs.Lawful.{SameFan}
use Rattle.place_name.specs.declared.obj.Obj.{Obj}
use Rattle.place_name.specs.declared.obj.Obj.TheVariants.{Check, Saved}
use Rattle.place_name.specs.Names.{Parent}
use Rattle.place_name.specs.Same.{place_same}
use Rattle.place_name.proofs.Sameness.{place_decides}
use Rattle.world_model.specs.Operations.{kind_on, Site, Frame, Kept, Invocation, Op, Set, Invoke}
use Rattle.world_model.specs.Acts.{rules, parent_of, inner, width_at, width_of, width_in, at_once, enter_of, enter_ops, fan_ops, pace_ops, set_ops, acts, acts_of, stop_of, out_objects, bits_objects, due_at_enter, due_by_kind, due_objects}
use Rattle.world_model.specs.Program.{Phase, Looking, Saving, Gathering, Reading, Calling, Creating, Acting, Joining, Marking, Acking, AttemptOver}
use Rattle.world_model.specs.World.{Opening, Entry, Attempt, World}
use Rattle.world_model.specs.Journals.{journal_answers}
use Rattle.world_model.proofs.Runs.{visits_of, HasFan, run_once, run_sound, run_one_fan}
use Rattle.world_model.proofs.Keeps.{MadeOk, kind_is, KeptOk, PhaseOk, Follows, adopted_stop, parent_child}
use Rattle.world_model.proofs.Every.{phase_of}
use Rattle.world_model.proofs.Leaves.{HasCount, PhaseLeft}
use Rattle.world_model.proofs.Traces.{frames_count}
use Rattle.world_model.proofs.Pushed.{frames_width}
use Rattle.calm_worlds.specs.Cost.{Size, size_at, size_after, or_size, fan_in, limit_of_size, count_of_size, pace_cost, end_cost, acts_cost, more_if, enter_cost, enter_marks, own_marks, marks_with, marks}
use Rattle.calm_worlds.proofs.Aims.{kept_stop}
use Rattle.calm_worlds.proofs.Good.{Good}
use Rattle.calm_worlds.proofs.Paid.{before, weigh, weigh_to, weigh_below, PaidUp, Spent}

-- ---------------------------------------------------------------- the fan of a place, found among visits

-- a fan of that place that one of the visits leads to, and that every such fan is it
pub record Lead (A : Answers) (vs : List Visit) (p : Place) (z : Size) : Type 0 where
  pub block : Block
  pub name : Text
  pub raw : Json
  pub used : Used
  pub branches : List (Block × Json)
  pub leads : LeadsTo rules A vs p block name raw used branches
  pub one : (gb : Block) (other : Text) (more : Json) (again : Used) (ds : List (Block × Json)) → LeadsTo rules A vs p gb other more again ds → SameFan gb block other name more raw again used ds branches
  pub size_is : ◌≡◌ {A = Size} (record { limit = width_at (state_of block name); count = length branches }) z

cond_some : (b : Bool) (x z : Size) → cond b (Some x) None ≡ Some z → (b ≡ true) × (x ≡ z)
cond_some true x z e = (refl, same_Some x z e)
cond_some false x z e = absurd (cc)

-- a visit with a size leads to a fan of it
pub record Sized (A : Answers) (vs : List Visit) (p : Place) (z : Size) : Type 0 where
  pub block : Block
  pub name : Text
  pub raw : Json
  pub used : Used
  pub branches : List (Block × Json)
  pub leads : LeadsTo rules A vs p block name raw used branches
  pub size_is : ◌≡◌ {A = Size} (record { limit = width_at (state_of block name); count = length branches }) z

sized_by : (A : Answers) (vs : List Visit) (p : Place) (u : Visit) → In u vs → (x : Outcome) → u.answer ≡ Some x → (stop : Stop) → after rules u.block u.visited u.place.hop u.raw u.used x ≡ stop → (z : Size) → size_at p u stop ≡ Some z → Sized A vs p z
sized_by A vs p u i x e (Call n h r us) f z g = absurd (cc)
sized_by A vs p u i x e (Over y) f z g = absurd (cc)
sized_by A vs p u i x e (Fan n h r us ds) f z g =
    let (b, s) = cond_some (place_same (at_hop (scope_of u.place) h) p) (record { limit = width_at (state_of u.block n); count = length ds }) z g in
    let place : at_hop (scope_of u.place) h ≡ p = (place_decides (at_hop (scope_of u.place) h) p).0 b in
    let hop : h ≡ p.hop = ap (λ (y : Place). y.hop) place in
    record {
      block = u.block;
      name = n;
      raw = r;
      used = us;
      branches = ds;
      leads = (u, i, refl, x, e, subst (λ k. after rules u.block u.visited u.place.hop u.raw u.used x ≡ Fan n k r us ds) hop f, subst (λ k. p ≡ at_hop (scope_of u.place) k) hop (sym place));
      size_is = s;
    }

sized_at : (A : Answers) (vs : List Visit) (p : Place) (u : Visit) → In u vs → (a : Option Outcome) → u.answer ≡ a → (z : Size) → size_after p u a ≡ Some z → Sized A vs p z
sized_at A vs p u i None e z g = absurd (cc)
sized_at A vs p u i (Some x) e z g = sized_by A vs p u i x e (after rules u.block u.visited u.place.hop u.raw u.used x) refl z g

sized_in : (A : Answers) (vs : List Visit) (p : Place) (us : List Visit) → ((u : Visit) → In u us → In u vs) → (z : Size) → fan_in p us ≡ Some z → Sized A vs p z
sized_in A vs p [] f z e = absurd (cc)
sized_in A vs p (u ∷ us) f z e = go (size_after p u u.answer) refl e (λ g. sized_in A vs p us (λ y i. f y (inr i)) z g)
  where
    go : (x : Option Size) → size_after p u u.answer ≡ x → or_size x (fan_in p us) ≡ Some z → (fan_in p us ≡ Some z → Sized A vs p z) → Sized A vs p z
    go None q g rec = rec g
    go (Some y) q g rec = sized_at A vs p u (f u (inl refl)) u.answer refl z (q ∙ g)

-- the fan that is found leads from a visit
pub fan_leads : (A : Answers) (vs : List Visit) (p : Place) (z : Size) → fan_in p vs ≡ Some z → Sized A vs p z
fan_leads A vs p z e = sized_in A vs p vs (λ u i. i) z e

module _ (A : Answers) (vs : List Visit) (p : Place) (z : Size) (L : Lead A vs p z) where
  found_is : (y : Size) → Sized A vs p y → y ≡ z
  found_is y d =
      let same = L.one d.block d.name d.raw d.used d.branches d.leads in
      sym d.size_is ∙ ap₂ (λ k c. let q : Size = record { limit = k; count = c } in q) (ap (λ y. width_at (state_of y d.name)) same.block ∙ ap (λ y. width_at (state_of L.block y)) same.name_is) (ap length same.branches) ∙ L.size_is

  -- the visit that leads to it
  size_some : (x : Option Size) → size_after p L.leads.0 L.leads.0.answer ≡ x → x ≢ None
  size_some x e n =
      let (v, i, b, y, a, f, q) = L.leads in
      let same : place_same (at_hop (scope_of v.place) p.hop) p ≡ true = (place_decides (at_hop (scope_of v.place) p.hop) p).1 (sym q) in
      let s : size_at p v (Fan L.name p.hop L.raw L.used L.branches) ≡ Some (record { limit = width_at (state_of v.block L.name); count = length L.branches }) = ap (λ c. cond c (Some (record { limit = width_at (state_of v.block L.name); count = length L.branches })) None) same in
      let t : size_after p v v.answer ≡ Some (record { limit = width_at (state_of v.block L.name); count = length L.branches }) = ap (size_after p v) a ∙ ap (size_at p v) f ∙ s in
      let r : ◌≡◌ {A = Option Size} None (Some (record { limit = width_at (state_of v.block L.name); count = length L.branches })) = sym n ∙ sym e ∙ t in
      cc

  fan_by : (us : List Visit) → ((u : Visit) → In u us → In u vs) → In L.leads.0 us → fan_in p us ≡ Some z
  fan_by [] f h = absurd h
  fan_by (u ∷ us) f h = go (size_after p u u.answer) refl (λ k. fan_by us (λ y i. f y (inr i)) k)
    where
      go : (x : Option Size) → size_after p u u.answer ≡ x → (In L.leads.0 us → fan_in p us ≡ Some z) → or_size x (fan_in p us) ≡ Some z
      go None e rec = elim h [
        | inl q ↦ absurd (size_some None (ap (λ (y : Visit). size_after p y y.answer) q ∙ e) refl)
        | inr k ↦ rec k
      ]
      go (Some x) e rec = ap Some (found_is x (sized_at A vs p u (f u (inl refl)) u.answer refl x e))

  pub lead_found : fan_in p vs ≡ Some z
  lead_found = fan_by vs (λ u i. i) L.leads.1

-- the fan of a place of a session's run
pub fan_found : (o : Opening) (j : List Entry) (p : Place) (fb : Block) (name : Text) (raw : Json) (used : Used) (cs : List (Block × Json)) → HasFan o j p fb name raw used cs →
    fan_in p (visits_of o j p.session) ≡ Some (record { limit = width_at (state_of fb name); count = length cs })
fan_found o j p fb name raw used cs lead =
    lead_found (journal_answers j) (visits_of o j p.session) p (record { limit = width_at (state_of fb name); count = length cs }) (record {
      block = fb;
      name = name;
      raw = raw;
      used = used;
      branches = cs;
      leads = lead;
      one = λ gb other more again ds l. run_one_fan o j p gb fb other name more raw again used ds cs l lead;
      size_is = refl;
    })

-- the number of branches
pub count_found : (o : Opening) (j : List Entry) (p : Place) (c : ℕ) → HasCount o j p c → count_of_size (fan_in p (visits_of o j p.session)) ≡ c
count_found o j p c h = ap count_of_size (fan_found o j p h.fan.block h.fan.name h.raw h.used h.fan.branches h.fan.leads) ∙ h.fan.count_is

-- ---------------------------------------------------------------- acts

weigh_append : (xs ys : List Op) → weigh (xs ++ ys) ≡ weigh xs + weigh ys
weigh_append [] ys = omega arith
weigh_append (x ∷ xs) ys = let r : weigh (xs ++ ys) ≡ weigh xs + weigh ys = weigh_append xs ys in omega arith

weigh_enters : (around : List Frame) (p : Place) (index count : ℕ) (cs : List (Block × Json)) → weigh (enter_ops around p index count cs) ≡ length cs
weigh_enters around p index count [] = refl
weigh_enters around p index count (c ∷ cs) = let r : weigh (enter_ops around p (suc index) count cs) ≡ length cs = weigh_enters around p (suc index) count cs in omega arith

once_none : (w : ℕ) → length (at_once {A = Block × Json} w []) ≡ 0
once_none zero = refl
once_none (suc w) = refl

weigh_pace : (site : Site) (q : Parent) (w : ℕ) → weigh (pace_ops site q w) ≡ pace_cost w q
weigh_pace site q zero = refl
weigh_pace site q (suc w) = by (nat_lt (q.index + suc w) q.count)
  where
    by : (b : Bool) → weigh (cond b (Invoke (enter_of site.around q.place (q.index + suc w) q.count site.block) ∷ []) []) ≡ cond b 1 0
    by true = refl
    by false = refl

module _ (o : Opening) (j : List Entry) (i : Invocation) where
  abbrev S : Scope
  S = scope_of i.name.place

  abbrev VS : List Visit
  VS = visits_of o j i.name.place.session

  module _ (stop : Stop) (F : Follows o j i stop) where
    limit_here : (q : Parent) → parent_of S ≡ Some q → limit_of_size (fan_in q.place VS) ≡ width_in i.site.around
    limit_here q e =
        let c : HasCount o j q.place q.count = frames_count o j S i.site.block i.site.around F.frames q e in
        let found = fan_found o j q.place c.fan.block c.fan.name c.raw c.used c.fan.branches c.fan.leads in
        let session : q.place.session ≡ i.name.place.session = ap (λ (z : Scope). z.session) (sym (parent_child S q e)) in
        let width = frames_width o j S i.site.block i.site.around F.frames q e c.fan.block c.fan.name c.raw c.used c.fan.branches c.fan.leads in
        ap limit_of_size (subst (λ z. fan_in q.place (visits_of o j z) ≡ Some (record { limit = width_at (state_of c.fan.block c.fan.name); count = length c.fan.branches })) session found) ∙ sym width

    sets_cost : (z : Option Parent) → parent_of S ≡ z → 1 + weigh (set_ops i.site z) ≡ end_cost VS z
    sets_cost None e = refl
    sets_cost (Some q) e =
        let a : weigh (pace_ops i.site q (width_in i.site.around) ++ (Set q.place q.index q.count ∷ [])) ≡ weigh (pace_ops i.site q (width_in i.site.around)) + 1 = weigh_append (pace_ops i.site q (width_in i.site.around)) (Set q.place q.index q.count ∷ []) in
        let b : weigh (pace_ops i.site q (width_in i.site.around)) ≡ pace_cost (width_in i.site.around) q = weigh_pace i.site q (width_in i.site.around) in
        let c : pace_cost (limit_of_size (fan_in q.place VS)) q ≡ pace_cost (width_in i.site.around) q = ap (λ w. pace_cost w q) (limit_here q e) in
        omega arith

  pub acts_are : (v : Visit) → v.block ≡ i.site.block → v.place ≡ i.name.place → (stop : Stop) → Follows o j i stop → weigh (acts_of i.site S stop) ≡ acts_cost VS v stop
  acts_are v b p (Call name hop raw used) F = refl
  acts_are v b p (Fan name hop raw used []) F = let z : length (at_once {A = Block × Json} (width_at (state_of v.block name)) []) ≡ 0 = once_none (width_at (state_of v.block name)) in omega arith
  acts_are v b p (Fan name hop raw used (c ∷ cs)) F =
      let w : ℕ = width_of (record { block = i.site.block; name = name }) in
      let e : weigh (enter_ops (inner i.site name) (at_hop S hop) 0 (suc (length cs)) (at_once w (c ∷ cs))) ≡ length (at_once w (c ∷ cs)) = weigh_enters (inner i.site name) (at_hop S hop) 0 (suc (length cs)) (at_once w (c ∷ cs)) in
      let g : length (at_once (width_at (state_of v.block name)) (c ∷ cs)) ≡ length (at_once w (c ∷ cs)) = ap (λ y. length (at_once (width_at (state_of y name)) (c ∷ cs))) b in
      let f : weigh (fan_ops i.site (at_hop S hop) name (c ∷ cs)) ≡ weigh (enter_ops (inner i.site name) (at_hop S hop) 0 (suc (length cs)) (at_once w (c ∷ cs))) = ap weigh (fan_same i.site (at_hop S hop) name c cs) in
      omega arith
  acts_are v b p (Over x) F =
      sets_cost (Over x) F (parent_of S) refl ∙ ap (λ (z : Place). end_cost VS (parent_of (scope_of z))) (sym p)

-- ---------------------------------------------------------------- the own part

-- without the Invoke of a Join
abbrev pub bare_own : List Visit → Place → names.Kind → ℕ
bare_own vs p names.Enter = enter_cost (parent_of (scope_of p))
bare_own vs p names.Task = 8
bare_own vs p names.Join = let c = count_of_size (fan_in p vs) in 7 + (c + c) + more_if c

abbrev pub bare_at : List Visit → Visit → Option Outcome → ℕ
bare_at vs v None = 4
bare_at vs v (Some o) = bare_own vs v.place (kind_at v.visited) + acts_cost vs v (after rules v.block v.visited v.place.hop v.raw v.used o)

abbrev pub bare : List Visit → Visit → ℕ
bare vs v = bare_at vs v v.answer

outs_length : (p : Place) (index count left : ℕ) → length (out_objects p index count left) ≡ left
outs_length p index count zero = refl
outs_length p index count (suc left) = ap suc (outs_length p (suc index) count left)

bits_length : (p : Place) (c : ℕ) → length (bits_objects p c) ≡ more_if c
bits_length p zero = refl
bits_length p (suc c) = refl

enter_own : (n : Name) (z : Option Parent) → (length (due_at_enter n z) ≡ enter_marks z) × (4 + length (due_at_enter n z) + 1 ≡ enter_cost z)
enter_own n None = (refl, refl)
enter_own n (Some q) = (refl, refl)

-- what is due, and what comes before and after the acts
own_is : (o : Opening) (j : List Entry) (n : Name) (c : ℕ) (k : names.Kind) → (k ≡ names.Join → HasCount o j n.place c) →
    (length (due_by_kind n c k) ≡ own_marks (visits_of o j n.place.session) n.place k) × (suc (before k c) + length (due_by_kind n c k) + 1 ≡ bare_own (visits_of o j n.place.session) n.place k)
own_is o j n c names.Enter h = enter_own n (parent_of (scope_of n.place))
own_is o j n c names.Task h = (refl, refl)
own_is o j n c names.Join h =
    let x : ℕ = count_of_size (fan_in n.place (visits_of o j n.place.session)) in
    let e : x ≡ c = count_found o j n.place c (h refl) in
    let m : more_if x ≡ more_if c = ap more_if e in
    let tail : List Obj = bits_objects n.place c ++ (Check n ∷ []) in
    let l1 : length (due_by_kind n c names.Join) ≡ length (out_objects n.place 0 c c) + suc (length tail) = length-append (out_objects n.place 0 c c) (Saved n.place ∷ tail) in
    let l2 : length tail ≡ length (bits_objects n.place c) + 1 = length-append (bits_objects n.place c) (Check n ∷ []) in
    let l3 : length (out_objects n.place 0 c c) ≡ c = outs_length n.place 0 c c in
    let l4 : length (bits_objects n.place c) ≡ more_if c = bits_length n.place c in
    (omega arith, omega arith)

-- ---------------------------------------------------------------- one attempt

module _ (w : World) (G : Good w) (a : ℕ) (t : Attempt) (found : slice_get w.atts a ≡ Some t) (i : Invocation) (at : slice_get w.invs t.inv ≡ Some i) where
  abbrev O : Opening
  O = w.opening

  abbrev J : List Entry
  J = w.journal

  abbrev V : List Visit
  V = visits_of O J i.name.place.session

  pub made : MadeOk O J i
  made = G.both.keeps.made t.inv i at

  visit_kind : kind_at made.visit.visited ≡ i.name.kind
  visit_kind = ap (λ (z : Name). z.kind) made.name_is

  visit_place : made.visit.place ≡ i.name.place
  visit_place = ap (λ (z : Name). z.place) made.name_is

  abbrev all_of : Kept → ℕ
  all_of k = suc (before i.name.kind k.count) + weigh (acts i k) + length (due_objects i.name k.count) + 1

  -- what an attempt spends in all
  kept_cost : (k : Kept) → KeptOk O J i.name k → (i.name.kind ≡ names.Join → HasCount O J i.name.place k.count) → (all_of k ≡ bare V made.visit) × (length (due_objects i.name k.count) ≡ marks V made.visit)
  kept_cost k d size =
      let v : Visit = made.visit in
      let one : d.visit ≡ v = run_once O J i.name.place.session d.visit v d.in_run made.in_run (d.name_is ∙ sym made.name_is) in
      let ans : v.answer ≡ Some k.answer = ap (λ (z : Visit). z.answer) (sym one) ∙ d.answer_is in
      let stop : after rules v.block v.visited v.place.hop v.raw v.used k.answer ≡ stop_of i.site i.name.place.hop k =
      ap (λ (z : Visit). after rules z.block z.visited z.place.hop z.raw z.used k.answer) (sym one) ∙ kept_stop O J i k made d in
      let acts_c : weigh (acts i k) ≡ acts_cost V v (stop_of i.site i.name.place.hop k) = acts_are O J i v made.block_is visit_place (stop_of i.site i.name.place.hop k) (adopted_stop O J i k made d) in
      let own = own_is O J i.name k.count i.name.kind size in
      let bare_is : bare V v ≡ bare_own V i.name.place i.name.kind + acts_cost V v (stop_of i.site i.name.place.hop k) =
      ap (bare_at V v) ans ∙ ap (λ z. bare_own V v.place (kind_at v.visited) + acts_cost V v z) stop ∙ ap₂ (λ (y : Place) z. bare_own V y z + acts_cost V v (stop_of i.site i.name.place.hop k)) visit_place visit_kind in
      let marks_are : marks V v ≡ own_marks V i.name.place i.name.kind = ap (marks_with V v) ans ∙ ap₂ (λ (y : Place) z. own_marks V y z) visit_place visit_kind in
      let o1 : length (due_objects i.name k.count) ≡ own_marks V i.name.place i.name.kind = own.0 in
      let o2 : suc (before i.name.kind k.count) + length (due_objects i.name k.count) + 1 ≡ bare_own V i.name.place i.name.kind = own.1 in
      (omega arith, omega arith)

  -- an attempt without an answer
  own_bound : (c n : ℕ) (k : names.Kind) → n ≤ before k c → (k ≡ names.Join → (c ≡ 0) ⊎ HasCount O J i.name.place c) → n ≤ bare_own V i.name.place k
  own_bound c n names.Enter l f = let r : 6 ≤ enter_cost (parent_of S') = six (parent_of S') in omega arith
    where
      S' : Scope
      S' = scope_of i.name.place

      six : (z : Option Parent) → 6 ≤ enter_cost z
      six None = omega arith
      six (Some q) = omega arith
  own_bound c n names.Task l f = omega arith
  own_bound c n names.Join l f =
      let x : ℕ = count_of_size (fan_in i.name.place V) in
      elim (f refl) [
        | inl z ↦ omega arith
        | inr h ↦ let e : x ≡ c = count_found O J i.name.place c h in omega arith
      ]

  none_task : (v : Visited) → IsSound rules (journal_answers J) made.visit v → made.visit.answer ≡ None → kind_at v ≡ names.Task
  none_task Central.Entered s e = absurd (let z : None ≡ Some _ = sym e ∙ s.3 in cc)
  none_task (Central.Called name resource) s e = refl
  none_task (Central.Joined name) s e = absurd (let z : None ≡ Some _ = sym e ∙ s.answer in cc)

  early_bound : (c n : ℕ) → n ≤ before i.name.kind c → (i.name.kind ≡ names.Join → (c ≡ 0) ⊎ HasCount O J i.name.place c) → n ≤ bare V made.visit
  early_bound c n l f = by made.visit.answer refl
    where
      by : (x : Option Outcome) → made.visit.answer ≡ x → n ≤ bare_at V made.visit x
      by None e =
          let k : i.name.kind ≡ names.Task = sym visit_kind ∙ none_task made.visit.visited (run_sound O J i.name.place.session made.visit made.in_run) e in
          let b : before i.name.kind c ≡ 4 = ap (λ z. before z c) k in
          omega arith
      by (Some x) e =
          let r : n ≤ bare_own V i.name.place i.name.kind = own_bound c n i.name.kind l f in
          let s : bare_own V made.visit.place (kind_at made.visit.visited) ≡ bare_own V i.name.place i.name.kind = ap₂ (λ (y : Place) z. bare_own V y z) visit_place visit_kind in
          omega arith

  -- never more than its visit costs
  abbrev pub Bound : ℕ → ℕ → Type 0
  Bound n m = (n ≤ bare V made.visit) × (m ≤ marks V made.visit)

  before_some : (k : names.Kind) (c : ℕ) → 3 ≤ before k c
  before_some names.Enter c = omega arith
  before_some names.Task c = omega arith
  before_some names.Join c = omega arith

  small : (n m : ℕ) → n ≤ 3 → m ≡ 0 → Bound n m
  small n m l e = let b : 3 ≤ before i.name.kind 0 = before_some i.name.kind 0 in (early_bound 0 n (omega arith) (λ _. inl refl), omega arith)

  pub up_bound : (n m : ℕ) → PaidUp O J i n m → (n + 1 ≡ bare V made.visit) × (m ≡ marks V made.visit)
  up_bound n m p =
      let (x, y) = kept_cost p.kept p.kept_ok p.sized in
      let e : n ≡ suc (before i.name.kind p.kept.count) + weigh (acts i p.kept) + length (due_objects i.name p.kept.count) = p.n_is in
      let g : m ≡ length (due_objects i.name p.kept.count) = p.m_is in
      let x1 : all_of p.kept ≡ bare V made.visit = x in
      let y1 : length (due_objects i.name p.kept.count) ≡ marks V made.visit = y in
      (omega arith, omega arith)

  late : (k : Kept) → KeptOk O J i.name k → (i.name.kind ≡ names.Join → HasCount O J i.name.place k.count) → (n m : ℕ) → n + 1 ≤ all_of k → m ≤ length (due_objects i.name k.count) → Bound n m
  late k d size n m l e =
      let (x, y) = kept_cost k d size in
      let x1 : all_of k ≡ bare V made.visit = x in
      let y1 : length (due_objects i.name k.count) ≡ marks V made.visit = y in
      (omega arith, omega arith)

  bound_by : (p : Phase) → PhaseOk O J a i p → PhaseLeft O w.objects w.invs J i p → (n m : ℕ) → Spent O J i p n m → Bound n m
  bound_by Looking d e n m (x, y) = small n m (omega arith) y
  bound_by Saving d e n m (x, y) = small n m (omega arith) y
  bound_by Reading d e n m (x, y, r) = small n m (omega arith) y
  bound_by (Calling raw used) d e n m (x, y) = small n m (omega arith) y
  bound_by (Gathering count raw used outs) d e n m (x, y) =
      let k : i.name.kind ≡ names.Join = sym (kind_is O J i made) ∙ ap kind_on d.0.is_join in
      let b : before i.name.kind count ≡ 3 + count = ap (λ z. before z count) k in
      let l : length outs ≤ count = d.0.room in
      (early_bound count n (omega arith) (λ _. inr (record { raw = raw; used = used; fan = d.0.fan })), omega arith)
  bound_by (Creating k) d e n m (x, y) = (early_bound k.count n (omega arith) (λ q. inr (e.fan q)), omega arith)
  bound_by (Acting k l) d e n m (x, y) = let r : weigh_to l (acts i k) ≤ weigh (acts i k) = weigh_below (acts i k) l in late k d e.ready.fan n m (omega arith) (omega arith)
  bound_by (Joining k) d e n m (x, y) = late k d.0 e.ready.fan n m (omega arith) (omega arith)
  bound_by (Marking k l) d e n m (x, y, z) = late k d e.ready.fan n m (omega arith) (omega arith)
  bound_by (Acking true) d e n m p = let (x, y) = up_bound n m p in (omega arith, omega arith)
  bound_by (Acking false) d e n m p = absurd p
  bound_by (AttemptOver true) d e n m (l, q, p) = let (x, y) = up_bound l m p in (omega arith, omega arith)
  bound_by (AttemptOver false) d e n m p = absurd p

  pub spent_bound : (n m : ℕ) → Spent O J i t.phase n m → Bound n m
  spent_bound n m s = bound_by t.phase (phase_of w G.both.keeps a t i found at) (G.both.leaves.attempts a t i found at) n m s
