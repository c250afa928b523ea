-- Each step without mishaps keeps that names are invoked once.
use Rattle.world_model.specs.Sites.{machine_code}
use Rattle.world_model.specs.AnyCode.Program as program
use Rattle.world_model.specs.AnyCode.World as worlds
use Rattle.std.proofs.Common.{ℕ, suc, ◌+◌, ◌<◌, ◌≡◌, ◌≢◌, inl, inr, refl, sym, ap, ◌∙◌, subst, Bool, true, false, cond, nat_eq, nat_lt, List, [], ◌∷◌, ◌++◌, length, slice_get, slice_set, Option, Some, None, arith}
use Rattle.std.proofs.lemmas.Option.{same_Some}
use Rattle.std.proofs.lemmas.Bool.Decides.{eqb_tells}
use Rattle.fn_table.specs.declared.kind.FnKind.{FnKind}
use Rattle.fn_table.specs.Answers.{answer}
use Rattle.asl_model.specs.Data.{Text, Json, Outcome, combine}
use Rattle.asl_model.specs.Names as names
use Rattle.asl_model.specs.Names.{Scope, Place, Name, scope_of, child}
use Rattle.asl_model.specs.Machine.{Used}
use Rattle.place_name.specs.declared.obj.Obj.{Obj}
use Rattle.place_name.specs.declared.obj.Obj.TheVariants.{Check, Out, Saved, Bits, Arg}
use Rattle.place_name.specs.Names.{Parent}
use Rattle.world_model.specs.Operations.{Spot, Kept, Held, KeptAs, OutcomeIs, SavedAs, BitsAre, ArgIs, Condition, Absent, Live, Tombstone, Frame, Invocation, Op, Look, Create, Set, Invoke, Mark, Ack, BitFull, BitNotFull}
use Rattle.world_model.specs.Acts.{parent_of, join_name, join_of, acts, stop_of, due_objects}
use Rattle.world_model.specs.Program.{Phase, Looking, Saving, Gathering, Reading, Calling, Creating, Acting, Joining, Marking, Acking, AttemptOver, Do, doing, marking, joining, asking, call_of, source, next_of, adopted_phase, saved_phase, next_gathered_phase, entered_phase, input_at, after_read, after_look, after_saved, after_out, after_create, after_act, state_at, kept_of, called_phase}
use Rattle.world_model.specs.World.{Opening, Session, Entry, InvState, Attempt, World, function_of, objects_with, created_world, marked_world, with_bit, set_reply, has_bit, has_all, bits_of, look_reply, create_reply, state_after_ack, with_state, entries_of, moved_world, stepped_world, asked_world, answered_world, delivered_world, start, start_objects, root_inv}
use Rattle.world_model.proofs.Gets.{get_append, get_pushed, get_set, set_own}
use Rattle.world_model.proofs.Keeps.{WorldKeeps, PhaseOk, OpOk, Follows, adopted_stop, acts_ok, parent_child, has_all_at}
use Rattle.world_model.proofs.Every.{root_get}
use Rattle.world_model.proofs.Leaves.{HasInv, HasCount, more_same, more_entries, put_view}
use Rattle.world_model.proofs.Looks.{count_once}
use Rattle.world_model.proofs.Traces.{frames_count}
use Rattle.calm_worlds.proofs.Calms.{OneAttempt}
use Rattle.calm_worlds.proofs.Aims.{Target, acts_target, target_once, target_root, target_join, sets_end, sets_last}
use Rattle.calm_worlds.proofs.Sole.{Past, Did, AllSet, JoinWait, Sole, WorldSole, Grown, did_grown, all_grown, from_grown, wait_grown, grown_att, grown_same, NewWait, sole_att, sole_objects, sole_inv, Here, not_yet, frames_below}

-- ---------------------------------------------------------------- what this attempt's acts are of

module _ (w : World) (a : ℕ) (t : Attempt) (i : Invocation) (k : Kept) (m : ℕ) (H : Here w a t i k m) where
  abbrev O : Opening
  O = w.opening

  abbrev J : List Entry
  J = w.journal

  stop_here : Follows O J i (stop_of i.site i.name.place.hop k)
  stop_here = adopted_stop O J i k (H.keeps.made t.inv i H.here) H.kept

  did_stop : (op : Op) (d : Did O w.invs w.atts J op) → Follows O J d.invocation (stop_of d.invocation.site d.invocation.name.place.hop d.kept)
  did_stop op d = adopted_stop O J d.invocation d.kept (H.keeps.made d.attempt.inv d.invocation d.invocation_is) d.kept_ok

  target_here : (v : Invocation) → slice_get (acts i k) m ≡ Some (Invoke v) → Target i.site (scope_of i.name.place) (stop_of i.site i.name.place.hop k) m v.name
  target_here v e = acts_target i.site (scope_of i.name.place) (stop_of i.site i.name.place.hop k) m v e

  -- ---------------------------------------------------------------- an Invoke

  -- what an act invokes is no Join of a fan that has branches
  not_full_join : (v : Invocation) → slice_get (acts i k) m ≡ Some (Invoke v) → (p : Place) → v.name ≡ join_name p → AllSet O w.invs w.atts J p → ⊥
  not_full_join v e p q s =
      let c : HasCount O J p 0 = target_join O J i (stop_of i.site i.name.place.hop k) stop_here m v.name p (target_here v e) q in
      let z : s.count ≡ 0 = count_once O J p s.count 0 s.fan c in
      let l : 0 < s.count = s.some in
      omega arith

  fresh_invoke : (v : Invocation) → slice_get (acts i k) m ≡ Some (Invoke v) → HasInv w.invs v.name → ⊥
  fresh_invoke v e h =
      elim (H.sole.from h.number h.invocation h.found) [
        | inl r ↦ target_root i.site (scope_of i.name.place) (stop_of i.site i.name.place.hop k) m v.name r.0 (target_here v e) (sym h.name_is ∙ r.1)
        | inr x ↦ elim x [
          | inl b ↦
              let d : Did O w.invs w.atts J (Invoke b.made) = b.did in
              let v2 : Invocation = d.invocation in
              let st : Target v2.site (scope_of v2.name.place) (stop_of v2.site v2.name.place.hop d.kept) d.step b.made.name = acts_target v2.site (scope_of v2.name.place) (stop_of v2.site v2.name.place.hop d.kept) d.step b.made d.act in
              let aim = target_once O J v2 i (stop_of v2.site v2.name.place.hop d.kept) (stop_of i.site i.name.place.hop k) (did_stop (Invoke b.made) d) stop_here d.step m v.name
              (subst (Target v2.site (scope_of v2.name.place) (stop_of v2.site v2.name.place.hop d.kept) d.step) (b.made_is ∙ h.name_is) st) (target_here v e) in
              not_yet w a t i k m H (Invoke b.made) d aim.0 aim.1 (λ _. aim.2)
          | inr y ↦ not_full_join v e y.0 (sym h.name_is ∙ y.1.0) y.1.1
        ]
      ]

  -- an own act, done
  own_did : (u : Attempt) → u.inv ≡ t.inv → Past u.phase m → (op : Op) → slice_get (acts i k) m ≡ Some op → Did O w.invs (slice_set w.atts a u) J op
  own_did u same past op e = record {
    number = a;
    attempt = u;
    invocation = i;
    kept = k;
    step = m;
    attempt_is = set_own w.atts a t u H.found;
    invocation_is = ap (slice_get w.invs) same ∙ H.here;
    kept_ok = H.kept;
    act = e;
    past = past;
  }

  act_on : (u : Attempt) → ((l : ℕ) → l < m → Past u.phase l) → (l : ℕ) → Past t.phase l → Past u.phase l
  act_on u f l p = let lt : l < m = subst (λ (y : Phase). Past y l) H.phase p in f l lt

  -- the invocations of attempts
  old_inv : (u : Attempt) → u.inv ≡ t.inv → (b : ℕ) (x : Attempt) → slice_get (slice_set w.atts a u) b ≡ Some x → (y : Invocation) × (slice_get w.invs x.inv ≡ Some y)
  old_inv u same b x f = elim (get_set w.atts a u b x f) [
    | inl p ↦ (i, ap (slice_get w.invs) (ap (λ (z : Attempt). z.inv) (sym p.1) ∙ same) ∙ H.here)
    | inr p ↦ let d = H.keeps.attempts b x p in (d.invocation, d.found)
  ]

  invoke_sole : (v : Invocation) → slice_get (acts i k) m ≡ Some (Invoke v) → (u : Attempt) → u.inv ≡ t.inv →
      ((l : ℕ) → l < suc m → Past u.phase l) → ((l : Kept) → u.phase ≡ Joining l → ⊥) → Sole O w.objects (w.invs ++ v ∷ []) (slice_set w.atts a u) J
  invoke_sole v e u same past never =
      let at' : List Attempt = slice_set w.atts a u in
      let M : Sole O w.objects w.invs at' J = sole_att O w.objects w.invs w.atts J H.sole a t u H.found same (act_on u (λ l lt. past l (omega arith))) (λ l y q f. absurd (never l q)) in
      sole_inv O w.objects w.invs at' J M (old_inv u same) v (fresh_invoke v e)
      (inr (inl (record { made = v; made_is = refl; did = own_did u same (past m (omega arith)) (Invoke v) e })))
      (λ b x y l q f g ph par r. elim (get_set w.atts a u b x f) [
        | inl p ↦ never l (ap (λ (z : Attempt). z.phase) p.1 ∙ ph)
        | inr p ↦
            let wt : JoinWait O w.invs w.atts J y = H.sole.waits b x y l p g ph in
            let z : wt.parent ≡ q = same_Some wt.parent q (sym wt.parent_is ∙ par) in
            not_full_join v e wt.parent.place (r ∙ ap (λ (y : Parent). join_name y.place) (sym z)) wt.set
      ])

  -- ---------------------------------------------------------------- a Set

  module _ (p : Place) (index count : ℕ) (e : slice_get (acts i k) m ≡ Some (Set p index count)) (par : parent_of (scope_of i.name.place) ≡ Some (record { place = p; index = index; count = count })) where
    own_count : HasCount O J p count
    own_count = frames_count O J (scope_of i.name.place) i.site.block i.site.around stop_here.frames (record { place = p; index = index; count = count }) par

    below : index < count
    below = frames_below O J (scope_of i.name.place) i.site.block i.site.around stop_here.frames (record { place = p; index = index; count = count }) par

    -- where an attempt is at its Set, the fan's bits are not all set
    no_set : AllSet O w.invs w.atts J p → ⊥
    no_set s =
        let c : s.count ≡ count = count_once O J p s.count count s.fan own_count in
        let l : index < count = below in
        let d : Did O w.invs w.atts J (Set p index s.count) = s.all index (omega arith) in
        let v : Invocation = d.invocation in
        let ok : OpOk O J (scope_of v.name.place) (Set p index s.count) = acts_ok O J v (stop_of v.site v.name.place.hop d.kept) d.step (Set p index s.count) (did_stop (Set p index s.count) d) d.act in
        let one : scope_of v.name.place ≡ child p index s.count = parent_child (scope_of v.name.place) (record { place = p; index = index; count = s.count }) ok.0 in
        let two : scope_of i.name.place ≡ child p index count = parent_child (scope_of i.name.place) (record { place = p; index = index; count = count }) par in
        let a1 : suc d.step ≡ length (acts v d.kept) = sets_last v.site (scope_of v.name.place) (stop_of v.site v.name.place.hop d.kept) d.step p index s.count d.act in
        let a2 : suc m ≡ length (acts i k) = sets_last i.site (scope_of i.name.place) (stop_of i.site i.name.place.hop k) m p index count e in
        not_yet w a t i k m H (Set p index s.count) d (one ∙ ap (child p index) c ∙ sym two)
        (sets_end v.site (scope_of v.name.place) (stop_of v.site v.name.place.hop d.kept) d.step p index s.count d.act ∙ sym (sets_end i.site (scope_of i.name.place) (stop_of i.site i.name.place.hop k) m p index count e))
        (λ same. let z : length (acts v d.kept) ≡ length (acts i k) = ap length same in omega arith)

    -- the Join of that fan is not invoked yet
    no_join : HasInv w.invs (join_name p) → ⊥
    no_join h =
        elim (H.sole.from h.number h.invocation h.found) [
          | inl r ↦ let z : names.Join ≡ names.Enter = ap (λ (y : Name). y.kind) (sym h.name_is ∙ r.1) in cc
          | inr x ↦ elim x [
            | inl b ↦
                let d : Did O w.invs w.atts J (Invoke b.made) = b.did in
                let v : Invocation = d.invocation in
                let st : Target v.site (scope_of v.name.place) (stop_of v.site v.name.place.hop d.kept) d.step b.made.name = acts_target v.site (scope_of v.name.place) (stop_of v.site v.name.place.hop d.kept) d.step b.made d.act in
                let c : HasCount O J p 0 = target_join O J v (stop_of v.site v.name.place.hop d.kept) (did_stop (Invoke b.made) d) d.step b.made.name p st (b.made_is ∙ h.name_is) in
                let z : count ≡ 0 = count_once O J p count 0 own_count c in
                let l : index < count = below in
                omega arith
            | inr y ↦
                let z : p ≡ y.0 = ap (λ (u : Name). u.place) (sym h.name_is ∙ y.1.0) in
                no_set (subst (λ (u : Place). AllSet O w.invs w.atts J u) (sym z) y.1.1)
          ]
        ]

    -- the bits after the Set
    new_bits : (u : Attempt) (same : u.inv ≡ t.inv) (past : (l : ℕ) → Past u.phase l) → (is : List ℕ) → ((n : ℕ) → has_bit n is ≡ true → Did O w.invs w.atts J (Set p n count)) →
        (n : ℕ) → has_bit n (index ∷ is) ≡ true → Did O w.invs (slice_set w.atts a u) J (Set p n count)
    new_bits u same past is f n q =
        elim (eqb_tells n index) [
          | inl x ↦ subst (λ y. Did O w.invs (slice_set w.atts a u) J (Set p y count)) (sym x.1) (own_did u same (past m) (Set p index count) e)
          | inr x ↦
              let r : has_bit n is ≡ true = (let y : nat_eq n index ≡ false = x.0 in let P : Bool → Type 0 = λ b. cond b true (has_bit n is) ≡ true in subst P y q) in
              did_grown O w.invs w.invs w.atts (slice_set w.atts a u) J J (grown_att O w.invs w.atts J a t u H.found same (λ l h. past l)) (Set p n count) (f n r)
        ]

    -- the world after a Set that met no mark
    set_sole : (u : Attempt) → u.inv ≡ t.inv → ((l : ℕ) → Past u.phase l) → (is : List ℕ) →
        ((n : ℕ) → has_bit n is ≡ true → Did O w.invs w.atts J (Set p n count)) → ((l : Kept) → u.phase ≡ Joining l → has_all count (index ∷ is) ≡ true) →
        Sole O (objects_with (Bits p count) (Live (BitsAre (index ∷ is))) w.objects) w.invs (slice_set w.atts a u) J
    set_sole u same past is f full =
        let at' : List Attempt = slice_set w.atts a u in
        let l : index < count = below in
        let bits = new_bits u same past is f in
        let M : Sole O w.objects w.invs at' J = sole_att O w.objects w.invs w.atts J H.sole a t u H.found same (λ n h. past n)
        (λ l' v ph g.
        let y : i ≡ v = same_Some i v (sym H.here ∙ ap (slice_get w.invs) (sym same) ∙ g) in
        let all : has_all count (index ∷ is) ≡ true = full l' ph in
        subst (λ (z : Invocation). NewWait O w.invs w.atts at' J z u) y (
          record {
            parent = record { place = p; index = index; count = count };
            parent_is = par;
            set = record { count = count; fan = own_count; some = omega arith; all = λ n lt. bits n (has_all_at count (index ∷ is) n all lt) };
            none = no_join;
          },
          λ c x z fx h.
              let wt : JoinWait O w.invs w.atts J z = H.sole.waits c x z h.other fx h.other_is h.other_phase in
              let q : wt.parent ≡ h.second = same_Some wt.parent h.second (sym wt.parent_is ∙ h.second_is) in
              let s : record { place = p; index = index; count = count } ≡ h.parent = same_Some _ h.parent (sym par ∙ h.parent_is) in
              let pl : wt.parent.place ≡ p = ap (λ (y : Parent). y.place) q ∙ sym h.same ∙ ap (λ (y : Parent). y.place) (sym s) in
              no_set (subst (λ (y : Place). AllSet O w.invs w.atts J y) pl wt.set),
        )) in
        sole_objects O w.objects (objects_with (Bits p count) (Live (BitsAre (index ∷ is))) w.objects) w.invs at' J J M (grown_same O w.invs at' J J (more_same O J))
        (λ r d h n q b. elim (put_view w.objects (Bits p count) (Live (BitsAre (index ∷ is))) (Bits r d)) [
          | inl v ↦
              let z : Live (BitsAre (index ∷ is)) ≡ Live h = sym v.there ∙ q in
              let y : BitsAre (index ∷ is) ≡ h = cc in
              let same_b : Bits r d ≡ Bits p count = v.same in
              let pe : r ≡ p = cc in
              let ce : d ≡ count = cc in
              let g : Did O w.invs at' J (Set p n count) = bits n (subst (λ (x : Held). has_bit n (bits_of x) ≡ true) (sym y) b) in
              subst (λ (x : Place). Did O w.invs at' J (Set x n d)) (sym pe) (subst (λ x. Did O w.invs at' J (Set p n x)) (sym ce) g)
          | inr v ↦ M.bits r d h n (sym v.1 ∙ q) b
        ])

-- ---------------------------------------------------------------- the Join

join_sole : (w : World) (a : ℕ) (t : Attempt) (i : Invocation) (k : Kept) → WorldKeeps w → WorldSole w → slice_get w.atts a ≡ Some t → slice_get w.invs t.inv ≡ Some i → t.phase ≡ Joining k →
    (q : Parent) → parent_of (scope_of i.name.place) ≡ Some q → (v : Invocation) → v.name ≡ join_name q.place → (u : Attempt) → u.inv ≡ t.inv → ((l : ℕ) → Past u.phase l) → ((l : Kept) → u.phase ≡ Joining l → ⊥) →
    Sole w.opening w.objects (w.invs ++ v ∷ []) (slice_set w.atts a u) w.journal
join_sole w a t i k K S found here ph q par v vn u same past never =
    let o : Opening = w.opening in
    let j : List Entry = w.journal in
    let at' : List Attempt = slice_set w.atts a u in
    let M : Sole o w.objects w.invs at' j = sole_att o w.objects w.invs w.atts j S a t u found same (λ l h. past l) (λ l y r f. absurd (never l r)) in
    let wt : JoinWait o w.invs w.atts j i = S.waits a t i k found here ph in
    let z : wt.parent ≡ q = same_Some wt.parent q (sym wt.parent_is ∙ par) in
    let name : v.name ≡ join_name wt.parent.place = vn ∙ ap (λ (y : Parent). join_name y.place) (sym z) in
    sole_inv o w.objects w.invs at' j M
    (λ b x f. elim (get_set w.atts a u b x f) [
      | inl p ↦ (i, ap (slice_get w.invs) (ap (λ (z : Attempt). z.inv) (sym p.1) ∙ same) ∙ here)
      | inr p ↦ let d = K.attempts b x p in (d.invocation, d.found)
    ])
    v (λ h. wt.none (record { number = h.number; invocation = h.invocation; found = h.found; name_is = h.name_is ∙ name }))
    (inr (inr (wt.parent.place, (name, all_grown o w.invs w.invs w.atts at' j j (grown_att o w.invs w.atts j a t u found same (λ l h. past l)) wt.parent.place wt.set))))
    (λ b x y l r f g ph' par' e. elim (get_set w.atts a u b x f) [
      | inl p ↦ never l (ap (λ (y : Attempt). y.phase) p.1 ∙ ph')
      | inr p ↦
          let pl : q.place ≡ r.place = ap (λ (y : Name). y.place) (sym vn ∙ e) in
          let ab : a ≡ b = S.alone a b t x i y found p (record { kept = k; other = l; parent = q; second = r; invocation_is = here; other_is = g; phase_is = ph; other_phase = ph'; parent_is = par; second_is = par'; same = pl }) in
          let e' : u ≡ x = same_Some u x (sym (set_own w.atts a t u found) ∙ ap (slice_get at') ab ∙ f) in
          never l (ap (λ (y : Attempt). y.phase) e' ∙ ph')
    ])

-- ---------------------------------------------------------------- phases that do not join

abbrev pub joins : Phase → Bool
joins (Joining k) = true
joins _ = false

pub never_joins : (p : Phase) → joins p ≡ false → (k : Kept) → p ≡ Joining k → ⊥
never_joins p e k q = let z : joins p ≡ true = ap joins q in let y : true ≡ false = sym z ∙ e in cc

adopted_j : (h : Held) → joins (adopted_phase h) ≡ false
adopted_j (KeptAs k) = refl
adopted_j (OutcomeIs x) = refl
adopted_j (SavedAs m x us) = refl
adopted_j (BitsAre is) = refl
adopted_j (ArgIs x us) = refl

gathers_j : (v : names.Kind) → joins (program.gathering_phase v) ≡ false
gathers_j names.Enter = refl
gathers_j names.Task = refl
gathers_j names.Join = refl

pub look_j : (i : Invocation) (a : ℕ) (c : Condition) → joins (after_look i a (look_reply c)) ≡ false
look_j i a Absent = gathers_j i.name.kind
look_j i a (Live h) = adopted_j h
look_j i a Tombstone = refl

gathered_j : (p q : Phase) → joins p ≡ false → joins q ≡ false → (b : Bool) → joins (cond b p q) ≡ false
gathered_j p q e f true = e
gathered_j p q e f false = f

saved_j : (v : Spot) (a : ℕ) (h : Held) → joins (saved_phase v a h) ≡ false
saved_j v a (SavedAs count raw used) = gathered_j (Gathering count raw used []) (Creating (kept_of raw used a (combine (state_at v) []) count)) refl refl (nat_lt 0 count)
saved_j v a (KeptAs k) = refl
saved_j v a (OutcomeIs x) = refl
saved_j v a (BitsAre is) = refl
saved_j v a (ArgIs x us) = refl

pub after_saved_j : (v : Spot) (a : ℕ) (c : Condition) → joins (after_saved v a (look_reply c)) ≡ false
after_saved_j v a Absent = refl
after_saved_j v a (Live h) = saved_j v a h
after_saved_j v a Tombstone = refl

out_j : (v : Spot) (a count : ℕ) (raw : Json) (used : Used) (outs : List Outcome) (h : Held) → joins (next_gathered_phase v a count raw used outs h) ≡ false
out_j v a count raw used outs (OutcomeIs x) =
    gathered_j (Gathering count raw used (outs ++ x ∷ [])) (Creating (kept_of raw used a (combine (state_at v) (outs ++ x ∷ [])) count)) refl refl (nat_lt (length (outs ++ x ∷ [])) count)
out_j v a count raw used outs (KeptAs k) = refl
out_j v a count raw used outs (SavedAs n x us) = refl
out_j v a count raw used outs (BitsAre is) = refl
out_j v a count raw used outs (ArgIs x us) = refl

pub after_out_j : (v : Spot) (a count : ℕ) (raw : Json) (used : Used) (outs : List Outcome) (c : Condition) → joins (after_out v a count raw used outs (look_reply c)) ≡ false
after_out_j v a count raw used outs Absent = refl
after_out_j v a count raw used outs (Live h) = out_j v a count raw used outs h
after_out_j v a count raw used outs Tombstone = refl

enters_j : (a : ℕ) (x : Option Json) → joins (entered_phase a x) ≡ false
enters_j a None = refl
enters_j a (Some x) = refl

read_j : (i : Invocation) (a : ℕ) (v : names.Kind) (h : Held) → joins (program.read_phase machine_code i a v h) ≡ false
read_j i a names.Enter (ArgIs x us) = refl
read_j i a names.Enter (SavedAs n x us) = enters_j a (input_at i.site.around x (parent_of (scope_of i.name.place)))
read_j i a names.Enter (KeptAs k) = refl
read_j i a names.Enter (OutcomeIs x) = refl
read_j i a names.Enter (BitsAre is) = refl
read_j i a names.Task (ArgIs x us) = refl
read_j i a names.Task (SavedAs n x us) = refl
read_j i a names.Task (KeptAs k) = refl
read_j i a names.Task (OutcomeIs x) = refl
read_j i a names.Task (BitsAre is) = refl
read_j i a names.Join h = refl

pub after_read_j : (i : Invocation) (a : ℕ) (c : Condition) → joins (after_read i a (look_reply c)) ≡ false
after_read_j i a Absent = refl
after_read_j i a (Live h) = read_j i a i.name.kind h
after_read_j i a Tombstone = refl

pub created_j : (k : Kept) (c : Condition) → joins (after_create k (create_reply c)) ≡ false
created_j k Absent = refl
created_j k (Live h) = adopted_j h
created_j k Tombstone = refl

act_past : (k : Kept) (m : ℕ) (b : Bool) (l : ℕ) → l < suc m → Past (cond b (Acting k (suc m)) (Marking k 0)) l
act_past k m true l lt = lt
act_past k m false l lt = tt

mark_past : (k : Kept) (m : ℕ) (b : Bool) (l : ℕ) → Past (cond b (Marking k (suc m)) (Acking true)) l
mark_past k m true l = tt
mark_past k m false l = refl

-- ---------------------------------------------------------------- a step

-- only the attempt moves
plain : (w : World) → WorldSole w → (a : ℕ) (t : Attempt) → slice_get w.atts a ≡ Some t → (lives : Bool) (q : Phase) → joins q ≡ false → ((l : ℕ) → Past t.phase l → Past q l) → WorldSole (moved_world w a t lives q)
plain w S a t found lives q e past =
    sole_att w.opening w.objects w.invs w.atts w.journal S a t (record { inv = t.inv; live = lives; steps = suc t.steps; phase = q }) found refl past (λ k i r f. absurd (never_joins q e k r))

none_past : (t : Attempt) (p q : Phase) → t.phase ≡ p → ((l : ℕ) → Past p l → ⊥) → (l : ℕ) → Past t.phase l → Past q l
none_past t p q e f l h = absurd (f l (subst (λ (y : Phase). Past y l) e h))

-- an object that is no bitmap is created
created_sole : (o : Opening) (w : World) (at : List Attempt) (es : List Entry) → Sole o w.objects w.invs at w.journal → (y : Obj) (c : Condition) → ((p : Place) (count : ℕ) → Bits p count ≢ y) → Sole o (objects_with y c w.objects) w.invs at (w.journal ++ es)
created_sole o w at es S y c ne =
    let G : Grown o w.invs w.invs at at w.journal (w.journal ++ es) = grown_same o w.invs at w.journal (w.journal ++ es) (more_entries o w.journal es) in
    sole_objects o w.objects (objects_with y c w.objects) w.invs at w.journal (w.journal ++ es) S G
    (λ p count h m q r. elim (put_view w.objects y c (Bits p count)) [
      | inl v ↦ absurd (ne p count v.same)
      | inr v ↦ did_grown o w.invs w.invs at at w.journal (w.journal ++ es) G (Set p m count) (S.bits p count h m (sym v.1 ∙ q) r)
    ])

gone_sole : (o : Opening) (w : World) (at : List Attempt) → Sole o w.objects w.invs at w.journal → (y : Obj) → Sole o (objects_with y Tombstone w.objects) w.invs at w.journal
gone_sole o w at S y =
    sole_objects o w.objects (objects_with y Tombstone w.objects) w.invs at w.journal w.journal S (grown_same o w.invs at w.journal w.journal (more_same o w.journal))
    (λ p count h m q r. elim (put_view w.objects y Tombstone (Bits p count)) [
      | inl v ↦ absurd (let z : Tombstone ≡ Live h = sym v.there ∙ q in cc)
      | inr v ↦ S.bits p count h m (sym v.1 ∙ q) r
    ])

create_sole : (w : World) → WorldSole w → (a : ℕ) (t : Attempt) → slice_get w.atts a ≡ Some t → (y : Obj) (h : Held) → ((p : Place) (count : ℕ) → Bits p count ≢ y) → (q : Phase) → joins q ≡ false →
    ((l : ℕ) → Past t.phase l → Past q l) → (c : Condition) → WorldSole (moved_world (created_world w a y h c) a t true q)
create_sole w S a t found y h ne q e past Absent = created_sole w.opening w (moved_world w a t true q).atts (entries_of y h a) (plain w S a t found true q e past) y (Live h) ne
create_sole w S a t found y h ne q e past (Live x) = plain w S a t found true q e past
create_sole w S a t found y h ne q e past Tombstone = plain w S a t found true q e past

full_past : (k : Kept) (m all : ℕ) (b : Bool) (l : ℕ) → Past (after_act k m all (cond b BitFull BitNotFull)) l
full_past k m all true l = tt
full_past k m all false l = tt

full_only : (k : Kept) (m all : ℕ) (b : Bool) (l : Kept) → after_act k m all (cond b BitFull BitNotFull) ≡ Joining l → b ≡ true
full_only k m all true l e = refl
full_only k m all false l e = absurd (never_joins (Marking k 0) refl l e)

set_step : (w : World) (a : ℕ) (t : Attempt) (i : Invocation) (k : Kept) (m : ℕ) (H : Here w a t i k m) → (p : Place) (index count : ℕ) → slice_get (acts i k) m ≡ Some (Set p index count) →
    parent_of (scope_of i.name.place) ≡ Some (record { place = p; index = index; count = count }) → (c : Condition) → w.objects (Bits p count) ≡ c →
    WorldSole (moved_world (with_bit w p index count c) a t true (after_act k m (length (acts i k)) (set_reply index count c)))
set_step w a t i k m H p index count e par Absent q =
    set_sole w a t i k m H p index count e par (record { inv = t.inv; live = true; steps = suc t.steps; phase = after_act k m (length (acts i k)) (cond (has_all count (index ∷ [])) BitFull BitNotFull) }) refl
    (full_past k m (length (acts i k)) (has_all count (index ∷ []))) [] (λ n r. absurd (cc)) (full_only k m (length (acts i k)) (has_all count (index ∷ [])))
set_step w a t i k m H p index count e par (Live h) q =
    set_sole w a t i k m H p index count e par (record { inv = t.inv; live = true; steps = suc t.steps; phase = after_act k m (length (acts i k)) (cond (has_all count (index ∷ bits_of h)) BitFull BitNotFull) }) refl
    (full_past k m (length (acts i k)) (has_all count (index ∷ bits_of h))) (bits_of h) (λ n r. H.sole.bits p count h n q r) (full_only k m (length (acts i k)) (has_all count (index ∷ bits_of h)))
set_step w a t i k m H p index count e par Tombstone q = plain w H.sole a t H.found true (Marking k 0) refl (λ l h. tt)

create_step : (w : World) (a : ℕ) (t : Attempt) (i : Invocation) (k : Kept) (m : ℕ) → Here w a t i k m → (y : Obj) (h : Held) → ((p : Place) (count : ℕ) → Bits p count ≢ y) → (c : Condition) →
    WorldSole (moved_world (created_world w a y h c) a t true (after_act k m (length (acts i k)) (create_reply c)))
create_step w a t i k m H y h ne c =
    let b : Bool = nat_lt (suc m) (length (acts i k)) in
    let q : Phase = cond b (Acting k (suc m)) (Marking k 0) in
    let past : (l : ℕ) → Past t.phase l → Past q l = λ l p. let lt : l < m = subst (λ (y : Phase). Past y l) H.phase p in act_past k m b l (omega arith) in
    let j : joins q ≡ false = gathered_j (Acting k (suc m)) (Marking k 0) refl refl b in
    elim c as (λ c. WorldSole (moved_world (created_world w a y h c) a t true (after_act k m (length (acts i k)) (create_reply c)))) [
      | Absent ↦ create_sole w H.sole a t H.found y h ne q j past Absent
      | Live x ↦ create_sole w H.sole a t H.found y h ne q j past (Live x)
      | Tombstone ↦ create_sole w H.sole a t H.found y h ne q j past Tombstone
    ]

act_step : (w : World) (a : ℕ) (t : Attempt) (i : Invocation) (k : Kept) (m : ℕ) → Here w a t i k m → (op : Op) → slice_get (acts i k) m ≡ Some op → OpOk w.opening w.journal (scope_of i.name.place) op →
    WorldSole (stepped_world w a t i (Acting k m) (Do op))
unfolding program.absorb
act_step w a t i k m H (Create (Out s) h) e ok = create_step w a t i k m H (Out s) h (λ p c r. cc) (w.objects (Out s))
act_step w a t i k m H (Create (Saved s) h) e ok = create_step w a t i k m H (Saved s) h (λ p c r. cc) (w.objects (Saved s))
act_step w a t i k m H (Create (Arg n) h) e ok = create_step w a t i k m H (Arg n) h (λ p c r. cc) (w.objects (Arg n))
act_step w a t i k m H (Create (Check n) h) e ok = absurd ok
act_step w a t i k m H (Create (Bits p c) h) e ok = absurd ok
act_step w a t i k m H (Set p index count) e ok = set_step w a t i k m H p index count e ok.0 (w.objects (Bits p count)) refl
act_step w a t i k m H (Invoke v) e ok =
    let b : Bool = nat_lt (suc m) (length (acts i k)) in
    let q : Phase = cond b (Acting k (suc m)) (Marking k 0) in
    invoke_sole w a t i k m H v e (record { inv = t.inv; live = true; steps = suc t.steps; phase = q }) refl (act_past k m b) (never_joins q (gathered_j (Acting k (suc m)) (Marking k 0) refl refl b))
act_step w a t i k m H (Look x) e ok = absurd ok
act_step w a t i k m H (Mark x) e ok = absurd ok
act_step w a t i k m H Ack e ok = absurd ok

acting_step : (w : World) (a : ℕ) (t : Attempt) (i : Invocation) (k : Kept) (m : ℕ) → Here w a t i k m → (z : Option Op) → slice_get (acts i k) m ≡ z → WorldSole (stepped_world w a t i (Acting k m) (doing z))
acting_step w a t i k m H None e = H.sole
acting_step w a t i k m H (Some op) e =
    act_step w a t i k m H op e (acts_ok w.opening w.journal i (stop_of i.site i.name.place.hop k) m op (stop_here w a t i k m H) e)

joining_step : (w : World) → WorldKeeps w → WorldSole w → (a : ℕ) (t : Attempt) (i : Invocation) (k : Kept) → slice_get w.atts a ≡ Some t → slice_get w.invs t.inv ≡ Some i → t.phase ≡ Joining k →
    (z : Option Parent) → parent_of (scope_of i.name.place) ≡ z → (around : List Frame) → WorldSole (stepped_world w a t i (Joining k) (joining z around))
unfolding program.absorb
joining_step w K S a t i k found at ph None e around = S
joining_step w K S a t i k found at ph (Some q) e [] = S
joining_step w K S a t i k found at ph (Some q) e (f ∷ around) =
    join_sole w a t i k K S found at ph q e (join_of f around q.place) refl (record { inv = t.inv; live = true; steps = suc t.steps; phase = Marking k 0 }) refl (λ l. tt) (never_joins (Marking k 0) refl)

marked_sole : (w : World) → WorldSole w → (a : ℕ) (t : Attempt) → slice_get w.atts a ≡ Some t → (q : Phase) → joins q ≡ false → ((l : ℕ) → Past t.phase l → Past q l) → (y : Obj) (c : Condition) → WorldSole (moved_world (marked_world w y c) a t true q)
marked_sole w S a t found q e past y Absent = plain w S a t found true q e past
marked_sole w S a t found q e past y (Live h) = gone_sole w.opening w (moved_world w a t true q).atts (plain w S a t found true q e past) y
marked_sole w S a t found q e past y Tombstone = gone_sole w.opening w (moved_world w a t true q).atts (plain w S a t found true q e past) y

marking_step : (w : World) → WorldSole w → (a : ℕ) (t : Attempt) (i : Invocation) (k : Kept) (m : ℕ) → slice_get w.atts a ≡ Some t → (z : Option Obj) → WorldSole (stepped_world w a t i (Marking k m) (marking z))
unfolding program.absorb
marking_step w S a t i k m found None = S
marking_step w S a t i k m found (Some x) =
    let b : Bool = nat_lt (suc m) (length (due_objects i.name k.count)) in
    marked_sole w S a t found (cond b (Marking k (suc m)) (Acking true)) (gathered_j (Marking k (suc m)) (Acking true) refl refl b) (λ l h. mark_past k m b l) x (w.objects x)

ack_step : (w : World) → WorldSole w → (a : ℕ) (t : Attempt) (finished : Bool) → slice_get w.atts a ≡ Some t → t.phase ≡ Acking finished → (x : Option InvState) → WorldSole (moved_world (with_state w t.inv state_after_ack x) a t false (AttemptOver finished))
ack_step w S a t finished found ph None = plain w S a t found false (AttemptOver finished) refl (λ l h. subst (λ (y : Phase). Past y l) ph h)
ack_step w S a t finished found ph (Some s) = plain w S a t found false (AttemptOver finished) refl (λ l h. subst (λ (y : Phase). Past y l) ph h)

asking_step : (w : World) → WorldSole w → (a : ℕ) (t : Attempt) (i : Invocation) (p : Phase) (z : Option (Text × Json)) → WorldSole (stepped_world w a t i p (asking z))
asking_step w S a t i p None = S
asking_step w S a t i p (Some c) = S

step_by : (w : World) → WorldKeeps w → WorldSole w → OneAttempt w.atts → (a : ℕ) (t : Attempt) (i : Invocation) → slice_get w.atts a ≡ Some t → slice_get w.invs t.inv ≡ Some i → (p : Phase) → t.phase ≡ p →
    PhaseOk w.opening w.journal a i p → WorldSole (stepped_world w a t i p (next_of i p))
unfolding program.next_of program.absorb
step_by w K S one a t i found at Looking ph d =
    let q : Phase = after_look i a (look_reply (w.objects (Check i.name))) in
    plain w S a t found true q (look_j i a (w.objects (Check i.name))) (none_past t Looking q ph (λ l h. h))
step_by w K S one a t i found at Saving ph d =
    let q : Phase = after_saved i.site.spot a (look_reply (w.objects (Saved i.name.place))) in
    plain w S a t found true q (after_saved_j i.site.spot a (w.objects (Saved i.name.place))) (none_past t Saving q ph (λ l h. h))
step_by w K S one a t i found at (Gathering count raw used outs) ph d =
    let c : Condition = w.objects (Out (child i.name.place (length outs) count)) in
    let q : Phase = after_out i.site.spot a count raw used outs (look_reply c) in
    plain w S a t found true q (after_out_j i.site.spot a count raw used outs c) (none_past t (Gathering count raw used outs) q ph (λ l h. h))
step_by w K S one a t i found at Reading ph d =
    let q : Phase = after_read i a (look_reply (w.objects (source i))) in
    plain w S a t found true q (after_read_j i a (w.objects (source i))) (none_past t Reading q ph (λ l h. h))
step_by w K S one a t i found at (Calling raw used) ph d = asking_step w S a t i (Calling raw used) (call_of i.site raw)
step_by w K S one a t i found at (Creating k) ph d =
    let c : Condition = w.objects (Check i.name) in
    let q : Phase = after_create k (create_reply c) in
    create_sole w S a t found (Check i.name) (KeptAs k) (λ p n r. cc) q (created_j k c) (none_past t (Creating k) q ph (λ l h. h)) c
step_by w K S one a t i found at (Acting k m) ph d =
    acting_step w a t i k m (record { keeps = K; sole = S; one = one; found = found; here = at; phase = ph; kept = d }) (slice_get (acts i k) m) refl
step_by w K S one a t i found at (Joining k) ph d = joining_step w K S a t i k found at ph (parent_of (scope_of i.name.place)) refl i.site.around
step_by w K S one a t i found at (Marking k m) ph d = marking_step w S a t i k m found (slice_get (due_objects i.name k.count) m)
step_by w K S one a t i found at (Acking finished) ph d = ack_step w S a t finished found ph (slice_get w.states t.inv)
step_by w K S one a t i found at (AttemptOver finished) ph d = S

pub step_sole : (w : World) → WorldKeeps w → WorldSole w → OneAttempt w.atts → (a : ℕ) (t : Attempt) (i : Invocation) → slice_get w.atts a ≡ Some t → slice_get w.invs t.inv ≡ Some i →
    PhaseOk w.opening w.journal a i t.phase → WorldSole (stepped_world w a t i t.phase (next_of i t.phase))
step_sole w K S one a t i found at d = step_by w K S one a t i found at t.phase refl d

-- ---------------------------------------------------------------- the answer of a function

pub back_j : (i : Invocation) (a : ℕ) (p : Phase) (x : Outcome) → (p ≡ p) → joins (called_phase i a p x) ≡ joins p
back_j i a Looking x e = refl
back_j i a Saving x e = refl
back_j i a (Gathering count raw used outs) x e = refl
back_j i a Reading x e = refl
back_j i a (Calling raw used) x e = refl
back_j i a (Creating k) x e = refl
back_j i a (Acting k m) x e = refl
back_j i a (Joining k) x e = refl
back_j i a (Marking k m) x e = refl
back_j i a (Acking b) x e = refl
back_j i a (AttemptOver b) x e = refl

answered_sole : (w : World) → WorldSole w → (a : ℕ) (t : Attempt) (i : Invocation) → slice_get w.atts a ≡ Some t → (raw : Json) (used : Used) → t.phase ≡ Calling raw used → (x : Json) (f : Option FnKind) → WorldSole (answered_world w a t i x f)
answered_sole w S a t i found raw used ph x None = S
answered_sole w S a t i found raw used ph x (Some kind) =
    let y : Outcome = answer kind x a in
    let q : Phase = called_phase i a t.phase y in
    let same : q ≡ Creating (kept_of raw used a y 0) = ap (λ z. called_phase i a z y) ph in
    plain w S a t found true q (ap joins same) (none_past t (Calling raw used) q ph (λ l h. h))

asked_do : (w : World) → WorldSole w → (a : ℕ) (t : Attempt) (i : Invocation) (x : Option Op) → WorldSole (asked_world w a t i (doing x))
asked_do w S a t i None = S
asked_do w S a t i (Some x) = S

asked_mark : (w : World) → WorldSole w → (a : ℕ) (t : Attempt) (i : Invocation) (x : Option Obj) → WorldSole (asked_world w a t i (marking x))
asked_mark w S a t i None = S
asked_mark w S a t i (Some x) = S

asked_join : (w : World) → WorldSole w → (a : ℕ) (t : Attempt) (i : Invocation) (x : Option Parent) (around : List Frame) → WorldSole (asked_world w a t i (joining x around))
asked_join w S a t i None around = S
asked_join w S a t i (Some q) [] = S
asked_join w S a t i (Some q) (f ∷ around) = S

asked_call : (w : World) → WorldSole w → (a : ℕ) (t : Attempt) (i : Invocation) → slice_get w.atts a ≡ Some t → (raw : Json) (used : Used) → t.phase ≡ Calling raw used → (z : Option (Text × Json)) → WorldSole (asked_world w a t i (asking z))
asked_call w S a t i found raw used ph None = S
asked_call w S a t i found raw used ph (Some c) = answered_sole w S a t i found raw used ph c.1 (function_of w.opening.functions c.0)

asked_by : (w : World) → WorldSole w → (a : ℕ) (t : Attempt) (i : Invocation) → slice_get w.atts a ≡ Some t → (p : Phase) → t.phase ≡ p → WorldSole (asked_world w a t i (next_of i p))
unfolding program.next_of
asked_by w S a t i found Looking ph = S
asked_by w S a t i found Saving ph = S
asked_by w S a t i found (Gathering count raw used outs) ph = S
asked_by w S a t i found Reading ph = S
asked_by w S a t i found (Calling raw used) ph = asked_call w S a t i found raw used ph (call_of i.site raw)
asked_by w S a t i found (Creating k) ph = S
asked_by w S a t i found (Acting k m) ph = asked_do w S a t i (slice_get (acts i k) m)
asked_by w S a t i found (Joining k) ph = asked_join w S a t i (parent_of (scope_of i.name.place)) i.site.around
asked_by w S a t i found (Marking k m) ph = asked_mark w S a t i (slice_get (due_objects i.name k.count) m)
asked_by w S a t i found (Acking finished) ph = S
asked_by w S a t i found (AttemptOver finished) ph = S

pub asked_sole : (w : World) → WorldSole w → (a : ℕ) (t : Attempt) (i : Invocation) → slice_get w.atts a ≡ Some t → WorldSole (asked_world w a t i (next_of i t.phase))
asked_sole w S a t i found = asked_by w S a t i found t.phase refl

-- ---------------------------------------------------------------- a delivery, and the opening world

pub delivered_sole : (w : World) → WorldSole w → (n : ℕ) (s : InvState) → WorldSole (delivered_world w n (Some s))
delivered_sole w S n s =
    let o : Opening = w.opening in
    let iv : List Invocation = w.invs in
    let at : List Attempt = w.atts in
    let j : List Entry = w.journal in
    let u : Attempt = record { inv = n; live = true; steps = 0; phase = Looking } in
    let G : Grown o iv iv at (at ++ u ∷ []) j j = record { found = λ k i e. e; atts = λ b v e. (v, get_append at (u ∷ []) b v e, refl, λ l h. h); more = more_same o j } in
    let never : (v : Attempt) (k : Kept) → u ≡ v → v.phase ≡ Joining k → ⊥ = λ v k e q. never_joins Looking refl k (ap (λ (y : Attempt). y.phase) e ∙ q) in
    record {
      names = S.names;
      from = λ k i e. from_grown o iv iv at (at ++ u ∷ []) j j G i.name (S.from k i e);
      bits = λ p count h m e f. did_grown o iv iv at (at ++ u ∷ []) j j G (Set p m count) (S.bits p count h m e f);
      waits = λ b v i k e f q. elim (get_pushed at u b v e) [
        | inl x ↦ let w' : JoinWait o iv at j i = S.waits b v i k x f q in wait_grown o iv iv at (at ++ u ∷ []) j j G i w' w'.none
        | inr x ↦ absurd (never v k x q)
      ];
      alone = λ b c v x i y e f h. elim (get_pushed at u b v e) [
        | inl p ↦ elim (get_pushed at u c x f) [ inl z ↦ S.alone b c v x i y p z h | inr z ↦ absurd (never x h.other z h.other_phase) ]
        | inr p ↦ absurd (never v h.kept p h.phase_is)
      ];
    }

pub bits_absent : (s : ℕ) (xs : List Session) (p : Place) (count : ℕ) → start_objects s xs (Bits p count) ≡ Absent
unfolding worlds.start_objects
bits_absent s [] p count = refl
bits_absent s (y ∷ ys) p count =
    elim (put_view (start_objects (suc s) ys) (Arg (root_inv s y).name) (Live (ArgIs y.input [])) (Bits p count)) [
      | inl v ↦ absurd (let z : Bits p count ≡ Arg (root_inv s y).name = v.same in cc)
      | inr v ↦ v.1 ∙ bits_absent (suc s) ys p count
    ]

pub start_sole : (o : Opening) → WorldSole (start o)
start_sole o = record {
  names = λ k l i v e f q.
      let r = root_get 0 o.sessions k i e in
      let s = root_get 0 o.sessions l v f in
      let p : 0 + k ≡ 0 + l = ap (λ (u : Invocation). u.name.place.session) r.2 ∙ ap (λ (u : Name). u.place.session) q ∙ ap (λ (u : Invocation). u.name.place.session) (sym s.2) in
      omega arith;
  from = λ k i e. let r = root_get 0 o.sessions k i e in inl (0 + k, ap (λ (u : Invocation). u.name) (sym r.2));
  bits = λ p count h m e f. absurd (let z : Absent ≡ Live h = sym (bits_absent 0 o.sessions p count) ∙ e in cc);
  waits = λ a t i k e f q. absurd (let z : None ≡ Some t = e in cc);
  alone = λ a b t u i v e f h. absurd (let z : None ≡ Some t = e in cc);
}
