-- Lines that are written one after another.
use Rattle.std.proofs.Common.{ℕ, suc, ◌+◌, ◌-◌, ◌<◌, ◌≡◌, sym, ap, ◌∙◌, List, [], ◌++◌, append_assoc, arith}
use Rattle.std.proofs.lemmas.List.{append-nil}
use Rattle.session_report.specs.Report.{lines}

lines_more : (f : ℕ → List ℕ) (k n m : ℕ) → m ≡ suc n → lines f k m ≡ f k ++ lines f (k + 1) n
unfolding lines
lines_more f k n m e =
    let s : suc k ≡ k + 1 = omega arith in
    ap (lines f k) e ∙ ap (λ j. f k ++ lines f j n) s

-- one more line
pub line_next : (f : ℕ → List ℕ) (all out next : List ℕ) (k count : ℕ) → out ++ lines f k (count - k) ≡ all → k < count → next ≡ out ++ f k → next ++ lines f (k + 1) (count - (k + 1)) ≡ all
line_next f all out next k count so_far lt e =
    ap (λ t. t ++ lines f (k + 1) (count - (k + 1))) e ∙ append_assoc out (f k) (lines f (k + 1) (count - (k + 1)))
    ∙ ap (λ t. out ++ t) (sym (lines_more f k (count - (k + 1)) (count - k) (omega (arith, lt)))) ∙ so_far

none_left : (f : ℕ → List ℕ) (k n : ℕ) → n ≡ 0 → lines f k n ≡ []
unfolding lines
none_left f k n e = ap (lines f k) e

-- at the end all lines are there
pub lines_done : (f : ℕ → List ℕ) (all out : List ℕ) (k count : ℕ) → out ++ lines f k (count - k) ≡ all → count - k ≡ 0 → out ≡ all
lines_done f all out k count so_far e =
    sym (append-nil out) ∙ ap (λ t. out ++ t) (sym (none_left f k (count - k) e)) ∙ so_far
