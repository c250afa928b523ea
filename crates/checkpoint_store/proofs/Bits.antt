-- How long the bitmap of a fan is.
use Rattle.std.proofs.Common.{ℕ, zero, suc, ◌≡◌, refl, sym, ap, ◌∙◌, Bool, true, List, length, set}
use Rattle.std.proofs.lemmas.List.{length-set}
use Rattle.place_name.specs.declared.obj.Obj.{Obj}
use Rattle.place_name.specs.declared.obj.Obj.TheVariants.{Bits}
use Rattle.place_name.specs.Names.{Place}
use Rattle.world_model.specs.AnyCode.Code.{no_flags}
use Rattle.world_model.specs.AnyCode.Operations.{Held, KeptAs, OutcomeIs, SavedAs, BitsAre, ArgIs, Condition, Absent, Live, Tombstone}
use Rattle.world_model.specs.AnyCode.World.{bits_or}
use Rattle.checkpoint_store.specs.Entries.{IsOfKind, AreOfKinds}
use Rattle.checkpoint_store.specs.Answers.{bits_before}

length-no_flags : (n : ℕ) → length (no_flags n) ≡ n
length-no_flags zero = refl
length-no_flags (suc n) = ap suc (length-no_flags n)

bits_of_kind : (p : Place) (count : ℕ) (h : Held (List Bool)) → IsOfKind (Bits p count) h → length (bits_or (no_flags count) h) ≡ count
bits_of_kind p count (KeptAs k) e = absurd e
bits_of_kind p count (OutcomeIs o) e = absurd e
bits_of_kind p count (SavedAs n raw used) e = absurd e
bits_of_kind p count (BitsAre bs) e = e
bits_of_kind p count (ArgIs raw used) e = absurd e

-- it has a flag for each branch
pub length-bits_before : (objects : Obj → Condition (List Bool)) (p : Place) (count : ℕ) (c : Condition (List Bool)) → AreOfKinds objects →
    c ≡ objects (Bits p count) → length (bits_before count c) ≡ count
length-bits_before objects p count Absent k e = length-no_flags count
length-bits_before objects p count (Live h) k e = bits_of_kind p count h (k (Bits p count) h (sym e))
length-bits_before objects p count Tombstone k e = length-no_flags count

-- with one more bit too
pub length-with_bit : (objects : Obj → Condition (List Bool)) (p : Place) (index count : ℕ) (c : Condition (List Bool)) (bs : List Bool) →
    AreOfKinds objects →
    c ≡ objects (Bits p count) → bs ≡ set (bits_before count c) index true → length bs ≡ count
length-with_bit objects p index count c bs k e b = ap length b
    ∙ (length-set (bits_before count c) index true ∙ length-bits_before objects p count c k e)
