-- A list used is gone through beside the retriers.
use Rattle.std.proofs.Common.{◌≡◌, ℕ, suc, ◌+◌, ◌<◌, ◌≤◌, List, [], ◌∷◌, ◌++◌, take, drop, length, get_or, slice_set, Option, Some, None, Bool, true, false, nat_lt, if◌then◌else◌, refl, sym, ap, ◌∙◌, add-one, arith}
use Rattle.std.specs.Option.{option_map}
use Rattle.std.proofs.lemmas.Bool.Decides.{nat_tests}
use Rattle.std.proofs.lemmas.List.{drop_more, take_more, set_split, append_assoc}
use Rattle.asl_model.specs.Data.{Text, match_error}
use Rattle.asl_model.specs.declared.machine.Retrier.{Retrier}
use Rattle.asl_model.specs.Head.{Used, retried}

lt_test : (u most : ℕ) → u < most → nat_lt u most ≡ true
lt_test u most h = grind (arith, nat_tests)

no_lt_test : (u most : ℕ) → most ≤ u → nat_lt u most ≡ false
no_lt_test u most h = grind (arith, nat_tests)

at_one : (error : Text) (answered : Bool) (rs : List Retrier) (us : List ℕ) (i : ℕ) (r : Retrier) → i < length rs → i < length us → r ≡ get_or rs i r → retried error answered (drop i rs) (drop i us) ≡ retried error answered (r ∷ drop (i + 1) rs) (get_or us i 0 ∷ drop (i + 1) us)
at_one error answered rs us i r h k e =
    ap (λ l. retried error answered l (drop i us)) (drop_more rs i r h ∙ ap (λ z. z ∷ drop (i + 1) rs) (sym e))
    ∙ ap (λ l. retried error answered (r ∷ drop (i + 1) rs) l) (drop_more us i 0 k)

taken_by : (pre us : List ℕ) (u most : ℕ) (rest : Option Used) (m : Bool) → m ≡ true → u < most → option_map (λ l. pre ++ l) (if m then (if nat_lt u most then Some (suc u ∷ us) else None) else rest) ≡ Some (pre ++ suc u ∷ us)
taken_by pre us u most rest m e h = rw e (rw (lt_test u most h) refl)

spent_by : (pre us : List ℕ) (u most : ℕ) (rest : Option Used) (m : Bool) → m ≡ true → most ≤ u → option_map (λ l. pre ++ l) (if m then (if nat_lt u most then Some (suc u ∷ us) else None) else rest) ≡ None
spent_by pre us u most rest m e h = rw e (rw (no_lt_test u most h) refl)

join_maps : (pre : List ℕ) (u : ℕ) (rest : Option Used) → option_map (λ l. pre ++ l) (option_map (λ l. u ∷ l) rest) ≡ option_map (λ l. (pre ++ u ∷ []) ++ l) rest
join_maps pre u None = refl
join_maps pre u (Some l) = ap (λ z. Some z) (sym (append_assoc pre (u ∷ []) l))

passed_by : (pre : List ℕ) (u : ℕ) (first : Option Used) (rest : Option Used) (m : Bool) → m ≡ false → option_map (λ l. pre ++ l) (if m then first else option_map (λ l. u ∷ l) rest) ≡ option_map (λ l. (pre ++ u ∷ []) ++ l) rest
passed_by pre u first rest m e = rw e (join_maps pre u rest)

-- the first that matches is taken once more
pub taken : (error : Text) (answered : Bool) (rs : List Retrier) (us : List ℕ) (i : ℕ) (r : Retrier) → i < length rs → i < length us → r ≡ get_or rs i r → match_error r.errors error answered ≡ true → get_or us i 0 < r.most → option_map (λ l. take i us ++ l) (retried error answered (drop i rs) (drop i us)) ≡ Some (slice_set us i (get_or us i 0 + 1))
taken error answered rs us i r h k e m l =
    ap (λ o. option_map (λ l. take i us ++ l) o) (at_one error answered rs us i r h k e)
    ∙ taken_by (take i us) (drop (i + 1) us) (get_or us i 0) r.most _ (match_error r.errors error answered) m l
    ∙ ap (λ z. Some z) (ap (λ n. take i us ++ suc (get_or us i 0) ∷ drop n us) (add-one i) ∙ sym (set_split us i (suc (get_or us i 0)) k))
    ∙ ap (λ n. Some (slice_set us i n)) (sym (add-one (get_or us i 0)))

-- and no more than it may be
pub spent : (error : Text) (answered : Bool) (rs : List Retrier) (us : List ℕ) (i : ℕ) (r : Retrier) → i < length rs → i < length us → r ≡ get_or rs i r → match_error r.errors error answered ≡ true → r.most ≤ get_or us i 0 → option_map (λ l. take i us ++ l) (retried error answered (drop i rs) (drop i us)) ≡ None
spent error answered rs us i r h k e m l =
    ap (λ o. option_map (λ l. take i us ++ l) o) (at_one error answered rs us i r h k e)
    ∙ spent_by (take i us) (drop (i + 1) us) (get_or us i 0) r.most _ (match_error r.errors error answered) m l

-- one that does not match is passed
pub passed : (error : Text) (answered : Bool) (rs : List Retrier) (us : List ℕ) (i : ℕ) (r : Retrier) → i < length rs → i < length us → r ≡ get_or rs i r → match_error r.errors error answered ≡ false → option_map (λ l. take i us ++ l) (retried error answered (drop i rs) (drop i us)) ≡ option_map (λ l. take (i + 1) us ++ l) (retried error answered (drop (i + 1) rs) (drop (i + 1) us))
passed error answered rs us i r h k e m =
    ap (λ o. option_map (λ l. take i us ++ l) o) (at_one error answered rs us i r h k e)
    ∙ passed_by (take i us) (get_or us i 0) _ (retried error answered (drop (i + 1) rs) (drop (i + 1) us)) (match_error r.errors error answered) m
    ∙ ap (λ p. option_map (λ l. p ++ l) (retried error answered (drop (i + 1) rs) (drop (i + 1) us))) (sym (take_more us i 0 k))
