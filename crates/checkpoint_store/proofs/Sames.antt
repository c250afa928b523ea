-- A test that tells equality is the test of the definitions.
use Rattle.std.proofs.Common.{◌≡◌, Bool}
use Rattle.std.specs.Prelude.{◌↔◌, IsTrue}
use Rattle.std.proofs.lemmas.Bool.Decides.{same_from_decides}
use Rattle.place_name.specs.declared.obj.Obj.{Obj}
use Rattle.place_name.specs.Same.{object_same}
use Rattle.place_name.proofs.Sameness.{object_decides}

pub same_test : (a b : Obj) (r : Bool) → (IsTrue r ↔ (a ≡ b)) → r ≡ object_same a b
same_test a b r h = same_from_decides r (object_same a b) h (object_decides a b)
