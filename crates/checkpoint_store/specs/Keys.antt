-- Keys are the same where their objects are, and then feed the same.
use Rattle.std.specs.Prelude.{◌≡◌, Bool, true}
use Rattle.std.specs.Cmp.{IsEquivalence}
use Rattle.std.specs.Hash.{HashWrites}
use Rattle.std.proofs.Common.{sym, ap}
use Rattle.std.proofs.lemmas.Bool.Decides.{same_from_decides, Decides-like}
use Rattle.place_name.specs.declared.obj.Obj.{Obj}
use Rattle.place_name.specs.declared.obj.Obj.TheVariants.{Check, Out, Saved, Bits, Arg}
use Rattle.place_name.specs.Same.{object_same}
use Rattle.place_name.proofs.Sameness.{object_decides, object_is, object_refl}
use Rattle.checkpoint_store.specs.declared.key.Key.{Key}
use Rattle.checkpoint_store.specs.Writes.{scope_writes, place_writes}

-- the two are keys of the same object
abbrev pub key_same : Key → Key → Bool
key_same a b = object_same a.object b.object

-- what an object feeds a hasher
abbrev pub object_writes : Obj → HashWrites
object_writes (Check n) = place_writes 0 n.place
object_writes (Out s) = scope_writes 1 s.session s.trail
object_writes (Saved p) = place_writes 2 p
object_writes (Bits p count) = place_writes 3 p
object_writes (Arg n) = place_writes 4 n.place

-- what a key feeds a hasher
abbrev pub key_writes : Key → HashWrites
key_writes k = object_writes k.object

-- to be the same is an equivalence
pub keys_equiv : IsEquivalence key_same
keys_equiv = record {
  refl = λ a. object_refl a.object;
  symm = λ a b. same_from_decides _ _ (object_decides a.object b.object) (Decides-like _ sym sym (object_decides b.object a.object));
  congr = λ a b z e. ap (λ o. object_same o z.object) (object_is a.object b.object e);
}

-- keys that are the same feed the same
pub keys_alike : (a b : Key) → key_same a b ≡ true → key_writes a ≡ key_writes b
keys_alike a b e = ap object_writes (object_is a.object b.object e)
