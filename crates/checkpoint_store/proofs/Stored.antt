-- What a change of a store's entries makes of its objects and counts.
use Rattle.std.proofs.Common.{ℕ, suc, ◌+◌, ◌-◌, ◌<◌, ◌≤◌, ◌≡◌, ◌≢◌, refl, sym, ap, ◌∙◌, subst, Bool, true, false, cond, eqb, List}
use Rattle.std.proofs.Common.{[], ◌∷◌, length, get_or, set, Option, Some, None, arith, eq-eqb, ⊎_elim, get_or-set_same}
use Rattle.std.proofs.Common.{get_or-set_other, if◌then◌else◌}
use Rattle.std.proofs.lemmas.Bool.{cases_eq, cases_lt, ne_eqb}
use Rattle.std.proofs.lemmas.List.{get_or_past}
use Rattle.indexmap.specs.IndexMap.{insert_entry}
use Rattle.place_name.specs.declared.obj.Obj.{Obj}
use Rattle.place_name.specs.Same.{object_same}
use Rattle.place_name.proofs.Sameness.{object_is}
use Rattle.world_model.specs.AnyCode.Operations.{Held, Condition, Absent, Live, Tombstone}
use Rattle.world_model.specs.AnyCode.World.{objects_with, marked_objects}
use Rattle.checkpoint_store.specs.declared.slot.Slot.{Slot}
use Rattle.checkpoint_store.specs.declared.slot.Slot.TheVariants as slot
use Rattle.checkpoint_store.specs.Keys.{key_same, keys_equiv}
use Rattle.checkpoint_store.specs.Entries.{Entries, key_of, condition_of, condition_in, slot_of, objects_of, session_of, one_if_live}
use Rattle.checkpoint_store.specs.Entries.{live_in, IsOfKind, AreOfKinds, AreApart, Keeps, IsPut, IsLive}

fun_ext : {A B : Type 0} (f g : A → B) → ((x : A) → f x ≡ g x) → f ≡ g
fun_ext f g h = λ i x. h x i

-- the count of an object's session
abbrev count_at : List ℕ → Obj → ℕ
count_at counts o = get_or counts (session_of o) 0

-- ---------------------------------------------------------------- no entries

pub absent_in_none : (es : Entries) → es ≡ [] → (o : Obj) → objects_of es o ≡ Absent
unfolding objects_of
absent_in_none es e o = ap (λ l. condition_in (slot_of l o)) e

none_live : (s : ℕ) (es : Entries) (counts : List ℕ) → es ≡ [] → counts ≡ [] → get_or counts s 0 ≡ live_in s es
unfolding live_in
none_live s es counts e f = ap (λ l. get_or l s 0) f ∙ sym (ap (live_in s) e)

pub Keeps-none : (es : Entries) (counts : List ℕ) → es ≡ [] → counts ≡ [] → AreApart es → Keeps es counts
Keeps-none es counts e f a = record {
  apart = a;
  kinds = λ o h l. let gone : objects_of es o ≡ Absent = absent_in_none es e o in absurd (cc);
  counts_live = λ s. none_live s es counts e f;
}

-- ---------------------------------------------------------------- what is found

-- an object is what a look-up finds
pub found : (es : Entries) (o : Obj) (r : Option Slot) → r ≡ slot_of es o → condition_in r ≡ objects_of es o
unfolding objects_of
found es o r e = ap condition_in e

none_from : (r : Option Slot) → condition_in r ≡ Absent → r ≡ None
none_from None e = refl
none_from (Some (slot.Live h)) e = absurd (cc)
none_from (Some slot.Tombstone) e = absurd (cc)

-- an absent object has no entry
pub no_entry : (es : Entries) (o : Obj) → objects_of es o ≡ Absent → slot_of es o ≡ None
unfolding objects_of
no_entry es o e = none_from (slot_of es o) e

-- and one with no entry is absent
pub absent : (es : Entries) (o : Obj) → slot_of es o ≡ None → objects_of es o ≡ Absent
unfolding objects_of
absent es o e = ap condition_in e

live_from : (r : Option Slot) → IsLive (condition_in r) → (h : Held (List Bool)) × (r ≡ Some (slot.Live h))
live_from None e = absurd e
live_from (Some (slot.Live h)) e = (h, refl)
live_from (Some slot.Tombstone) e = absurd e

-- a live object has a live entry
pub live_entry : (es : Entries) (o : Obj) → IsLive (objects_of es o) → (h : Held (List Bool)) × (slot_of es o ≡ Some (slot.Live h))
unfolding objects_of
live_entry es o e = live_from (slot_of es o) e

pub live_present : (c : Condition (List Bool)) → IsLive c → c ≢ Absent
live_present Absent l e = l
live_present (Live h) l e = absurd (cc)
live_present Tombstone l e = l

-- ---------------------------------------------------------------- objects after a change

put_at : (b : Bool) (s : Slot) (r : Option Slot) → condition_in (cond b (Some s) r) ≡ cond b (condition_of s) (condition_in r)
put_at true s r = refl
put_at false s r = refl

-- the object is what was put, and any other stays
pub objects_put : (es fs : Entries) (o : Obj) (s : Slot) → IsPut es fs o s → objects_of fs ≡ objects_with o (condition_of s) (objects_of es)
unfolding objects_of objects_with
objects_put es fs o s p =
    fun_ext (objects_of fs) (objects_with o (condition_of s) (objects_of es))
    (λ x.
    ap condition_in (p.lookups (key_of x))
    ∙ (put_at (object_same o x) s (slot_of es x)
    ∙ ap (λ b. cond b (condition_of s) (condition_in (slot_of es x))) (keys_equiv.symm (key_of o) (key_of x))))

-- where what was put is of the object's kind, all are of theirs
pub kinds_put : (objects : Obj → Condition (List Bool)) (o : Obj) (c : Condition (List Bool)) → AreOfKinds objects →
    ((h : Held (List Bool)) → c ≡ Live h → IsOfKind o h) → AreOfKinds (objects_with o c objects)
unfolding objects_with
kinds_put objects o c all this x h e = go (object_same x o) refl e
  where
    go : (b : Bool) → object_same x o ≡ b → cond b c (objects x) ≡ Live h → IsOfKind x h
    go true q l = subst (λ y. IsOfKind y h) (sym (object_is x o q)) (this h l)
    go false q l = all x h l

live_of_kind : (o : Obj) (h : Held (List Bool)) → IsOfKind o h →
    (k : Held (List Bool)) → ◌≡◌ {A = Condition (List Bool)} (Live h) (Live k) → IsOfKind o k
live_of_kind o h i k e = let q : h ≡ k = cc in subst (λ y. IsOfKind o y) q i

-- ---------------------------------------------------------------- counts after a change

-- what an entry that may not be there counts
abbrev one_if_live_in : ℕ → Obj → Option Slot → ℕ
one_if_live_in session o None = 0
one_if_live_in session o (Some s) = one_if_live session o s

swap_ends : (a b c : ℕ) → a + b + c ≡ c + b + a
swap_ends a b c = omega arith

under : (a l m c d : ℕ) → l + c ≡ m + d → a + l + c ≡ a + m + d
under a l m c d e = omega arith

-- the count changes by what was there and what is there now
pub live_put : (session : ℕ) (es : Entries) (o : Obj) (s : Slot) →
    live_in session (insert_entry key_same es (key_of o) s) + one_if_live_in session o
    (slot_of es o) ≡ live_in session es + one_if_live session o s
unfolding live_in
live_put session [] o s = let n : one_if_live session o s + 0 + 0 ≡ 0 + one_if_live session o s = omega arith in n
live_put session (e ∷ es) o s = go (object_same o e.0.object) refl (live_put session es o s)
  where
    go : (b : Bool) → object_same o e.0.object ≡ b →
        live_in session (insert_entry key_same es (key_of o) s) + one_if_live_in session o
        (slot_of es o) ≡ live_in session es + one_if_live session o s →
        live_in session (if b then (e.0, s) ∷ es else e ∷ insert_entry key_same es (key_of o) s) + one_if_live_in session o
        (cond b (Some e.1) (slot_of es o))
        ≡ one_if_live session e.0.object e.1 + live_in session es + one_if_live session o s
    go true q ih =
        let same : o ≡ e.0.object = object_is o e.0.object q in
        ap (λ x. one_if_live session x s + live_in session es + one_if_live session o e.1) (sym same)
        ∙ (swap_ends (one_if_live session o s) (live_in session es) (one_if_live session o e.1)
        ∙ ap (λ x. one_if_live session x e.1 + live_in session es + one_if_live session o s) same)
    go false q ih = under (one_if_live session e.0.object e.1) _ _ _ _ ih

-- no more are live than there are entries
pub live_in-le : (session : ℕ) (es : Entries) → live_in session es ≤ length es
unfolding live_in
live_in-le session [] = omega arith
live_in-le session (e ∷ es) = go e.1 (live_in-le session es)
  where
    one : (b : Bool) → cond b 1 0 ≤ 1
    one true = omega arith
    one false = omega arith

    go : (s : Slot) → live_in session es ≤ length es → one_if_live session e.0.object s + live_in session es ≤ suc (length es)
    go slot.Tombstone h = omega arith
    go (slot.Live k) h = let most : cond (eqb (session_of e.0.object) session) 1 0 ≤ 1 = one
        (eqb (session_of e.0.object) session) in omega arith

-- a live object counts in its own session, and in no other
counts_own : (o : Obj) (h : Held (List Bool)) → one_if_live (session_of o) o (slot.Live h) ≡ 1
counts_own o h = ap (λ b. cond b 1 0) (eq-eqb (session_of o) (session_of o) refl)

counts_other : (session : ℕ) (o : Obj) (h : Held (List Bool)) → session ≢ session_of o → one_if_live session o (slot.Live h) ≡ 0
counts_other session o h ne = ap (λ b. cond b 1 0) (ne_eqb (session_of o) session (λ e. ne (sym e)))

-- where no entry was, a live one counts
pub live_added : (session : ℕ) (es fs : Entries) (o : Obj) (h : Held (List Bool)) → IsPut es fs o (slot.Live h) → slot_of es o ≡ None →
    live_in session fs ≡ live_in session es + one_if_live session o (slot.Live h)
live_added session es fs o h p n =
    let e : live_in session fs + 0 ≡ live_in session es + one_if_live session o (slot.Live h) =
    ap (λ l. live_in session l + 0) p.entries
    ∙ (ap (λ r. live_in session (insert_entry key_same es (key_of o) (slot.Live h)) + one_if_live_in session o r) (sym n)
    ∙ live_put session es o (slot.Live h)) in
    omega arith

-- where a live entry was, a tombstone counts no more
pub live_taken : (session : ℕ) (es fs : Entries) (o : Obj) (h : Held (List Bool)) → IsPut es fs o slot.Tombstone →
    slot_of es o ≡ Some (slot.Live h) →
    live_in session fs + one_if_live session o (slot.Live h) ≡ live_in session es
live_taken session es fs o h p n =
    let e : live_in session fs + one_if_live session o (slot.Live h) ≡ live_in session es + 0 =
    ap (λ l. live_in session l + one_if_live session o (slot.Live h)) p.entries
    ∙ (ap (λ r. live_in session (insert_entry key_same es (key_of o) slot.Tombstone) + one_if_live_in session o r) (sym n)
    ∙ live_put session es o slot.Tombstone) in
    omega arith

-- where a live entry was, another live one counts the same
pub live_same : (session : ℕ) (es fs : Entries) (o : Obj) (h k : Held (List Bool)) → IsPut es fs o (slot.Live k) →
    slot_of es o ≡ Some (slot.Live h) →
    live_in session fs ≡ live_in session es
live_same session es fs o h k p n =
    let e : live_in session fs + one_if_live session o (slot.Live h) ≡ live_in session es + one_if_live session o (slot.Live k) =
    ap (λ l. live_in session l + one_if_live session o (slot.Live h)) p.entries
    ∙ (ap (λ r. live_in session (insert_entry key_same es (key_of o) (slot.Live k)) + one_if_live_in session o r) (sym n)
    ∙ live_put session es o (slot.Live k)) in
    let same : one_if_live session o (slot.Live h) ≡ one_if_live session o (slot.Live k) = refl in
    omega arith

-- ---------------------------------------------------------------- what stays true

-- other lists of the same counts
pub Keeps-same : (es : Entries) (counts more : List ℕ) → ((s : ℕ) → get_or more s 0 ≡ get_or counts s 0) → Keeps es counts → Keeps es more
Keeps-same es counts more same k = record { apart = k.apart; kinds = k.kinds; counts_live = λ s. same s ∙ k.counts_live s }

-- an absent object was made live
pub Keeps-added : (es fs : Entries) (counts : List ℕ) (o : Obj) (h : Held (List Bool)) → Keeps es counts → IsPut es fs o (slot.Live h) →
    objects_of es o ≡ Absent → IsOfKind o h → session_of o < length counts →
    Keeps fs (set counts (session_of o) (count_at counts o + 1))
Keeps-added es fs counts o h k p gone kind room =
    let n : slot_of es o ≡ None = no_entry es o gone in
    record {
      apart = p.apart;
      kinds = subst AreOfKinds (sym (objects_put es fs o (slot.Live h) p))
          (kinds_put (objects_of es) o (Live h) k.kinds (live_of_kind o h kind));
      counts_live = λ s.
          ⊎_elim
          (λ e.
          subst (λ t. get_or (set counts (session_of o) (count_at counts o + 1)) t 0 ≡ live_in t fs) (sym e)
          (get_or-set_same counts (session_of o) (count_at counts o + 1) 0 room
          ∙ (ap (λ m. m + 1) (k.counts_live (session_of o))
          ∙ (ap (λ m. live_in (session_of o) es + m) (sym (counts_own o h)) ∙ sym (live_added (session_of o) es fs o h p n)))))
          (λ ne.
          get_or-set_other counts (session_of o) s (count_at counts o + 1) 0 ne
          ∙ (k.counts_live s ∙ sym (live_added s es fs o h p n
          ∙ (ap (λ m. live_in s es + m) (counts_other s o h ne) ∙ plus_none (live_in s es)))))
          (cases_eq s (session_of o));
    }
  where
    plus_none : (m : ℕ) → m + 0 ≡ m
    plus_none m = omega arith

-- a live object counts at least 1
pub counts_some : (es fs : Entries) (counts : List ℕ) (o : Obj) → Keeps es counts → IsPut es fs o slot.Tombstone →
    IsLive (objects_of es o) →
    0 < count_at counts o
counts_some es fs counts o k p l =
    let h = live_entry es o l in
    let t : live_in (session_of o) fs + one_if_live (session_of o) o (slot.Live h.0) ≡ live_in (session_of o) es = live_taken
    (session_of o) es fs o h.0 p h.1 in
    let one : one_if_live (session_of o) o (slot.Live h.0) ≡ 1 = counts_own o h.0 in
    let c : count_at counts o ≡ live_in (session_of o) es = k.counts_live (session_of o) in
    omega arith

-- a live object was made a tombstone
pub Keeps-buried : (es fs : Entries) (counts : List ℕ) (o : Obj) → Keeps es counts → IsPut es fs o slot.Tombstone →
    IsLive (objects_of es o) →
    Keeps fs (set counts (session_of o) (count_at counts o - 1))
Keeps-buried es fs counts o k p l =
    let h = live_entry es o l in
    let some : 0 < count_at counts o = counts_some es fs counts o k p l in
    let room : session_of o < length counts =
    ⊎_elim (λ lt. lt) (λ past. let z : count_at counts o ≡ 0 = get_or_past counts (session_of o) 0 past in absurd (omega arith))
    (cases_lt (session_of o) (length counts)) in
    record {
      apart = p.apart;
      kinds = subst AreOfKinds (sym (objects_put es fs o slot.Tombstone p))
          (kinds_put (objects_of es) o Tombstone k.kinds (λ q e. absurd (cc)));
      counts_live = λ s.
          ⊎_elim
          (λ e.
          subst (λ t. get_or (set counts (session_of o) (count_at counts o - 1)) t 0 ≡ live_in t fs) (sym e)
          (get_or-set_same counts (session_of o) (count_at counts o - 1) 0 room
          ∙ less (count_at counts o) (live_in (session_of o) es) (live_in (session_of o) fs) _ (k.counts_live (session_of o))
          (live_taken (session_of o) es fs o h.0 p h.1) (counts_own o h.0)))
          (λ ne.
          get_or-set_other counts (session_of o) s (count_at counts o - 1) 0 ne
          ∙ (k.counts_live s ∙ kept (live_in s es) (live_in s fs) _ (live_taken s es fs o h.0 p h.1) (counts_other s o h.0 ne)))
          (cases_eq s (session_of o));
    }
  where
    less : (a b c d : ℕ) → a ≡ b → c + d ≡ b → d ≡ 1 → a - 1 ≡ c
    less a b c d p q r = omega arith

    kept : (b c d : ℕ) → c + d ≡ b → d ≡ 0 → b ≡ c
    kept b c d q r = omega arith

-- a live object holds something else
pub Keeps-replaced : (es fs : Entries) (counts : List ℕ) (o : Obj) (h : Held (List Bool)) → Keeps es counts → IsPut es fs o (slot.Live h) →
    IsLive (objects_of es o) → IsOfKind o h → Keeps fs counts
Keeps-replaced es fs counts o h k p l kind =
    let was = live_entry es o l in
    record {
      apart = p.apart;
      kinds = subst AreOfKinds (sym (objects_put es fs o (slot.Live h) p))
          (kinds_put (objects_of es) o (Live h) k.kinds (live_of_kind o h kind));
      counts_live = λ s. k.counts_live s ∙ sym (live_same s es fs o was.0 h p was.1);
    }

-- ---------------------------------------------------------------- as the code computes it

-- an absent object was made live, once there was room for its session
pub added : (es fs : Entries) (counts more after : List ℕ) (o : Obj) (h : Held (List Bool)) (i : ℕ) → Keeps es counts →
    ((s : ℕ) → get_or more s 0 ≡ get_or counts s 0) → IsPut es fs o (slot.Live h) → objects_of es o ≡ Absent → IsOfKind o h →
    i ≡ session_of o → i < length more →
    after ≡ set more i (get_or more i 0 + 1) → Keeps fs after
added es fs counts more after o h i k same p gone kind e room a =
    let i_room : session_of o < length more = omega (arith, e) in
    subst (Keeps fs) (sym (a ∙ ap (λ s. set more s (get_or more s 0 + 1)) e))
    (Keeps-added es fs more o h (Keeps-same es counts more same k) p gone kind i_room)

-- each count fits
pub count_fits : (es : Entries) (counts more : List ℕ) (i n : ℕ) → Keeps es counts →
    ((s : ℕ) → get_or more s 0 ≡ get_or counts s 0) → n ≡ length es →
    get_or more i 0 ≤ n
count_fits es counts more i n k same e = omega (arith, same i, k.counts_live i, live_in-le i es, e)

-- a live object was made a tombstone
pub buried : (es fs : Entries) (counts after : List ℕ) (o : Obj) (i : ℕ) → Keeps es counts → IsPut es fs o slot.Tombstone →
    IsLive (objects_of es o) → i ≡ session_of o →
    after ≡ set counts i (get_or counts i 0 - 1) → Keeps fs after
buried es fs counts after o i k p l e a =
    subst (Keeps fs) (sym (a ∙ ap (λ s. set counts s (get_or counts s 0 - 1)) e)) (Keeps-buried es fs counts o k p l)

-- and counted before
pub some_counted : (es fs : Entries) (counts : List ℕ) (o : Obj) (i : ℕ) → Keeps es counts → IsPut es fs o slot.Tombstone →
    IsLive (objects_of es o) → i ≡ session_of o →
    0 < get_or counts i 0
some_counted es fs counts o i k p l e = subst (λ s. 0 < get_or counts s 0) (sym e) (counts_some es fs counts o k p l)

-- ---------------------------------------------------------------- tombstones

-- what an object is already need not be put
pub already : (objects : Obj → Condition (List Bool)) (o : Obj) (c : Condition (List Bool)) → objects o ≡ c →
    objects ≡ objects_with o c objects
unfolding objects_with
already objects o c e = fun_ext objects (objects_with o c objects) (λ x. go x (object_same x o) refl)
  where
    go : (x : Obj) (b : Bool) → object_same x o ≡ b → objects x ≡ cond b c (objects x)
    go x true q = ap objects (object_is x o q) ∙ e
    go x false q = refl

-- a tombstone that is marked again stays
pub marked_again : (objects : Obj → Condition (List Bool)) (o : Obj) → objects o ≡ Tombstone →
    objects ≡ marked_objects objects o (objects o)
marked_again objects o t = already objects o Tombstone t ∙ ap (marked_objects objects o) (sym t)
