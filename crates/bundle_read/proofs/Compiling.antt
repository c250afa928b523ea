-- Machines that are compiled one after another.
use Rattle.std.proofs.Common.{◌≡◌, [], ◌∷◌, ◌++◌, sym, ap, subst, ◌∙◌, append_assoc}
use Rattle.std.proofs.lemmas.List.{map-append}
use Rattle.std.specs.List.{AllByRecursion}
use Rattle.std.specs.Map.{keys_of}
use Rattle.unum_json.specs.Keys.{IsRising}
use Rattle.unum_json.proofs.Rising.{rising_front}
use Rattle.asl_model.specs.declared.machine.Machine.{Machine}
use Rattle.asl_model.specs.Tree.{tree_of}
use Rattle.asl_model.specs.Valid.{broken}
use Rattle.bundle_read.specs.Bounds.{Text, Machines}

abbrev pub AreValid : Machines → Type 0
AreValid = AllByRecursion (λ (m : Text × Machine). broken (tree_of m.1) ≡ [])

-- those seen so far are done, with those that are left they are all, whose names rise, and the ones left are valid
pub record Goes (all seen done left : Machines) : Type 0 where
  pub same : done ≡ seen
  pub parts : done ++ left ≡ all
  pub rising : IsRising (keys_of all)
  pub valid : AreValid left

pub goes_first : (all done left : Machines) → done ≡ [] → left ≡ all → IsRising (keys_of all) → AreValid all → Goes all [] done left
goes_first all done left none is rising valid = record { same = none; parts = ap (λ ms. ms ++ left) none ∙ is; rising = rising; valid = subst AreValid (sym is) valid }

-- m is next, and x is the same machine compiled
module _ (all seen done left rest : Machines) (m : Text × Machine) (h : Goes all seen done left) (is : left ≡ m ∷ rest) (x : Machine) (same : x ≡ m.1) where
  more : (done ++ m ∷ []) ++ rest ≡ all
  more = append_assoc done (m ∷ []) rest ∙ ap (λ ms. done ++ ms) (sym is) ∙ h.parts

  pub push_rises : IsRising (keys_of (done ++ (m.0, x) ∷ []))
  push_rises =
      subst (λ y. IsRising (keys_of (done ++ (m.0, y) ∷ []))) (sym same)
      (rising_front (keys_of (done ++ m ∷ [])) (keys_of rest)
      (subst IsRising (ap keys_of (sym more) ∙ map-append (λ (e : Text × Machine). e.0) (done ++ m ∷ []) rest) h.rising))

  pub goes_on : (new : Machines) → new ≡ done ++ (m.0, x) ∷ [] → Goes all (seen ++ m ∷ []) new rest
  goes_on new made =
      let is_more : new ≡ done ++ m ∷ [] = made ∙ ap (λ y. done ++ (m.0, y) ∷ []) same in
      record {
        same = is_more ∙ ap (λ ms. ms ++ m ∷ []) h.same;
        parts = ap (λ ms. ms ++ rest) is_more ∙ more;
        rising = h.rising;
        valid = (subst AreValid is h.valid).1;
      }

pub next_valid : (all seen done left rest : Machines) (m : Text × Machine) → Goes all seen done left → left ≡ m ∷ rest → broken (tree_of m.1) ≡ []
next_valid all seen done left rest m h is = (subst AreValid is h.valid).0
