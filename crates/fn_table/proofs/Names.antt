-- A name is found exactly where it is among the keys.
use Rattle.std.proofs.Common.{◌≡◌, ◌↔◌, ℕ, suc, Bool, true, false, List, [], ◌∷◌, Option, Some, None, is_some, if◌then◌else◌, IsNone, refl, sym, ◌∙◌, ap, arith}
use Rattle.std.specs.Bool.{Decides}
use Rattle.std.specs.List.{Contains}
use Rattle.std.specs.Map.{keys_of}
use Rattle.std.specs.Option.{option_copied}
use Rattle.std.specs.Str.{bytes_eq}
use Rattle.std.proofs.lemmas.Slice.Eq.{bytes_eq-Decides}
use Rattle.std.proofs.lemmas.Map.Made.{Contains-tail}
use Rattle.unum_json.specs.Keys.{find_key}

by_answer : (b c : Bool) (P : Type 0) → b ≡ c → Decides c P → (b ≡ false) ↔ ¬ P
by_answer b true P e d = (λ h. cc (e, h), λ n. absurd (n (d.0 refl)))
by_answer b false P e d = (λ h p. cc (d.1 p), λ n. e)

module _ {V : Type 0} (k : List ℕ) where
  step : (b : Bool) (f : List ℕ × V) (fs : List (List ℕ × V)) → bytes_eq f.0 k ≡ b → Decides (is_some (find_key k fs)) (Contains (keys_of fs) k)
      → Decides (is_some (if b then Some f.1 else find_key k fs)) (Contains (keys_of (f ∷ fs)) k)
  step true f fs e later = (λ _. (0, omega arith, (bytes_eq-Decides f.0 k).0 e), λ _. refl)
  step false f fs e later = (
    λ h. let r = later.0 h in (suc r.0, omega (arith, r.1), r.2),
    λ h. later.1 (Contains-tail f.0 (keys_of fs) k (λ s. let t : bytes_eq f.0 k ≡ true = (bytes_eq-Decides f.0 k).1 s in cc) h),
  )

  found : (fs : List (List ℕ × V)) → Decides (is_some (find_key k fs)) (Contains (keys_of fs) k)
  found [] = (λ h. cc h, λ h. absurd (omega (arith, h.1)))
  found (f ∷ fs) = step (bytes_eq f.0 k) f fs refl (found fs)

  -- where it is found as `o`, which is a reference or nothing
  pub none_where_absent : (b : Bool) (fs : List (List ℕ × V)) → b ≡ is_some (find_key k fs) → (b ≡ false) ↔ ¬ Contains (keys_of fs) k
  none_where_absent b fs e = by_answer b (is_some (find_key k fs)) (Contains (keys_of fs) k) e (found fs)
