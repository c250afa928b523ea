-- When one code is another under other sites, and when a world is another under other sites and bitmaps.
use Rattle.std.specs.Prelude.{ℕ, ◌≡◌, ◌<◌, Bool, List, map, length, slice_get, Some, option_map}
use Rattle.std.specs.List.{AllByRecursion}
use Rattle.place_name.specs.declared.obj.Obj.{Obj}
use Rattle.place_name.specs.declared.obj.Obj.TheVariants.{Check, Out, Saved, Bits, Arg}
use Rattle.world_model.specs.AnyCode.Code.{Json, Used, Outcome, Stop, Call, Fan, Over, Code, Bitmaps, has_bit}
use Rattle.world_model.specs.AnyCode.Operations.{Held, KeptAs, OutcomeIs, SavedAs, BitsAre, ArgIs, Condition, Absent, Live, Tombstone, Invocation}
use Rattle.world_model.specs.AnyCode.World.{World}

-- ---------------------------------------------------------------- code

-- a stop by other sites
abbrev pub stop_as : {S T : Type 0} → (S → T) → Stop S → Stop T
stop_as h (Call f hop raw used) = Call (h f) hop raw used
stop_as h (Fan j hop raw used es) = Fan (h j) hop raw used (map h es)
stop_as h (Over o) = Over o

-- the sites that a stop leads to
abbrev pub LeadsIn : {S : Type 0} → (S → Type 0) → Stop S → Type 0
LeadsIn good (Call f hop raw used) = good f
LeadsIn good (Fan j hop raw used es) = good j × AllByRecursion good es
LeadsIn good (Over o) = Unit {0}

-- D does at the site h s what C does at s, for each good s; and from a good site C leads to good ones
pub record Maps {S T : Type 0} (good : S → Type 0) (C : Code S) (D : Code T) (h : S → T) : Type 0 where
  pub after :
      (s : S) → good s → (hop : ℕ) (raw : Json) (used : Used) (o : Outcome) →
      D.after (h s) hop raw used o ≡ stop_as h (C.after s hop raw used o)
  pub call_of : (s : S) → good s → (raw : Json) → D.call_of (h s) raw ≡ C.call_of s raw
  pub join_around : (s : S) → good s → D.join_around (h s) ≡ option_map h (C.join_around s)
  pub enter_of : (s : S) → good s → D.enter_of (h s) ≡ h (C.enter_of s)
  pub width : (s : S) → good s → D.width (h s) ≡ C.width s
  pub input_of : (s : S) → good s → (index : ℕ) (raw : Json) → D.input_of (h s) index raw ≡ C.input_of s index raw
  pub combine : (s : S) → good s → (outs : List Outcome) → D.combine (h s) outs ≡ C.combine s outs
  pub leads : (s : S) → good s → (hop : ℕ) (raw : Json) (used : Used) (o : Outcome) → LeadsIn good (C.after s hop raw used o)
  pub around : (s j : S) → good s → C.join_around s ≡ Some j → good j
  pub enters : (s : S) → good s → good (C.enter_of s)

-- ---------------------------------------------------------------- bitmaps

-- bitmaps X and Y that are the same for a count of branches stay so, and are full at once
pub record SameBits {B E : Type 0} (same : ℕ → B → E → Type 0) (X : Bitmaps B) (Y : Bitmaps E) : Type 0 where
  pub none : (n : ℕ) → same n (X.none n) (Y.none n)
  pub set : (n index : ℕ) (b : B) (e : E) → same n b e → same n (X.set index b) (Y.set index e)
  pub full : (n : ℕ) (b : B) (e : E) → same n b e → X.is_full n b ≡ Y.is_full n e

-- there is a flag for each branch, and it tells whether the list has that index
pub record AreFlagsOf (n : ℕ) (bs : List Bool) (is : List ℕ) : Type 0 where
  pub count : length bs ≡ n
  pub flag : (i : ℕ) → i < n → slice_get bs i ≡ Some (has_bit i is)

-- ---------------------------------------------------------------- objects

-- of a bitmap's object, how many branches its fan has
abbrev pub count_of : Obj → ℕ
count_of (Check n) = 0
count_of (Out s) = 0
count_of (Saved p) = 0
count_of (Bits p count) = count
count_of (Arg n) = 0

module _ {B E : Type 0} (same : ℕ → B → E → Type 0) where
  -- what two objects hold is the same, but for how a bitmap is kept
  abbrev pub HeldAlike : ℕ → Held B → Held E → Type 0
  HeldAlike n (KeptAs k) (KeptAs l) = k ≡ l
  HeldAlike n (OutcomeIs o) (OutcomeIs p) = o ≡ p
  HeldAlike n (SavedAs c x u) (SavedAs d y v) = (c ≡ d) × (x ≡ y) × (u ≡ v)
  HeldAlike n (BitsAre b) (BitsAre e) = same n b e
  HeldAlike n (ArgIs x u) (ArgIs y v) = (x ≡ y) × (u ≡ v)
  HeldAlike n _ _ = ⊥

  -- both absent, both a tombstone, or both live and alike
  abbrev pub ConditionAlike : ℕ → Condition B → Condition E → Type 0
  ConditionAlike n Absent Absent = Unit {0}
  ConditionAlike n (Live h) (Live g) = HeldAlike n h g
  ConditionAlike n Tombstone Tombstone = Unit {0}
  ConditionAlike n _ _ = ⊥

  -- each object is the same, but for how its bitmap is kept
  abbrev pub ObjectsAlike : (Obj → Condition B) → (Obj → Condition E) → Type 0
  ObjectsAlike f g = (x : Obj) → ConditionAlike (count_of x) (f x) (g x)

-- ---------------------------------------------------------------- worlds

-- an invocation by other sites, which may differ by session
abbrev pub inv_as : {S T : Type 0} → (ℕ → S → T) → Invocation S → Invocation T
inv_as h i = record { name = i.name; site = h i.name.place.session i.site }

-- the world by other sites, with these objects
abbrev pub image : {M S T B E : Type 0} → (ℕ → S → T) → World M S B → (Obj → Condition E) → World M T E
image h w objects = record {
  opening = w.opening;
  objects = objects;
  invs = map (inv_as h) w.invs;
  states = w.states;
  atts = w.atts;
  journal = w.journal;
  marks = w.marks;
}
