-- Sessions one after another, each with what is left of a limit.
use Rattle.std.proofs.Common.{ℕ, zero, suc, ◌+◌, ◌-◌, ◌<◌, ◌≤◌, ◌≡◌, sym, ap, subst, ◌∙◌, List, [], ◌∷◌, ◌++◌, length, drop, get_or, slice_get, Option, Some, None, Result, Ok, Err, refl, append_assoc, arith}
use Rattle.std.specs.List.{AllByRecursion}
use Rattle.std.proofs.lemmas.Bool.{le-leb, lt-leb}
use Rattle.std.proofs.lemmas.List.{append-nil, drop_more, length-map}
use Rattle.std.proofs.lemmas.Option.{slice_get-get_or}
use Rattle.asl_model.specs.Central as c
use Rattle.asl_model.specs.Sequential.{sequential}
use Rattle.asl_model.specs.Tree.{tree_of}
use Rattle.asl_model.specs.declared.machine.Machine.{Machine}
use Rattle.asl_model.specs.Valid.{broken}
use Rattle.fn_table.specs.declared.kind.FnKind.{FnKind}
use Rattle.bundle_read.specs.Accepted.{Accepted, IsAccepted}
use Rattle.bundle_read.specs.Bounds.{Text}
use Rattle.central_model.specs.Asking.{functions_of}
use Rattle.central_model.specs.Told.{told, told_run}
use Rattle.central_model.specs.Walked.{Tells}
use Rattle.central_model.specs.declared.run.Run.{Run}
use Rattle.central_model.specs.declared.trouble.CentralError.{CentralError}
use Rattle.central_model.specs.declared.trouble.CentralError.TheVariants as error
use Rattle.unum_world.specs.Openings.{block_in}
use Rattle.unum_world.specs.declared.opening.Session.{Session}
use Rattle.unum_cli.specs.Central.{run_of, left_of, left_after, central_line, central_lines, left_by, IsWithin}

-- what holds of each holds of the one with an index
pub at_index : {A : Type 0} (P : A → Type 0) (xs : List A) (i : ℕ) (x : A) → AllByRecursion P xs → slice_get xs i ≡ Some x → P x
at_index {A} P [] i x h e = absurd (let none : Option A = None in let g : none ≡ Some x = e in cc)
at_index P (y ∷ ys) zero x h e = let g : Some y ≡ Some x = e in let same : y ≡ x = cc in subst P same h.0
at_index P (y ∷ ys) (suc k) x h e = at_index P ys k x h.1 e

abbrev Row : Type 0
Row = Text × Machine

there : (b : Accepted) (ms : List Row) (i : ℕ) (d : Row) → ms ≡ b.machines → i < length b.machines → slice_get b.machines i ≡ Some (get_or ms i d)
there b ms i d e lt = subst (λ (xs : List Row). slice_get b.machines i ≡ Some (get_or xs i d)) (sym e) (slice_get-get_or b.machines i d lt)

-- the machine with that number is valid
pub valid_at : (b : Accepted) (ms : List Row) (i : ℕ) (d : Row) → IsAccepted b → ms ≡ b.machines → i < length b.machines → broken (tree_of (get_or ms i d).1) ≡ []
valid_at b ms i d h e lt = at_index (λ (m : Row). broken (tree_of m.1) ≡ []) b.machines i (get_or ms i d) h.valid (there b ms i d e lt)

-- ---------------------------------------------------------------- a run

told_within : (limit : ℕ) (result : Result Run CentralError) (r : c.Run) → Tells limit result r → IsWithin limit result (told_run r)
told_within limit (Ok t) r h = (h.0, subst (λ n. n ≤ limit) (sym (length-map r.visits told)) h.1)
told_within limit (Err error.TooLong) r h = subst (λ n. limit < n) (sym (length-map r.visits told)) h
told_within limit (Err error.NoMemory) r h = tt

-- what is told of the run of the machine with a session's number
pub run_within : (b : Accepted) (ms : List Row) (d : Row) (k : ℕ) (s : Session) (limit : ℕ) (table : List (Text × FnKind)) (result : Result Run CentralError) → ms ≡ b.machines → table ≡ b.functions → s.machine < length b.machines
    → Tells limit result (sequential (tree_of (get_or ms s.machine d).1) k s.input (functions_of table)) → IsWithin limit result (run_of b k s)
run_within b ms d k s limit table result e same lt h =
    subst (λ o. IsWithin limit result (told_run (sequential (block_in o) k s.input (functions_of b.functions)))) (sym (there b ms s.machine d e lt))
    (subst (λ (fs : List (Text × FnKind)). IsWithin limit result (told_run (sequential (tree_of (get_or ms s.machine d).1) k s.input (functions_of fs)))) same
    (told_within limit result (sequential (tree_of (get_or ms s.machine d).1) k s.input (functions_of table)) h))

-- it fits, and so much is left
pub fits : (r : Run) (limit : ℕ) → length r.visits ≤ limit → left_of r limit ≡ Some (limit - length r.visits)
fits r limit h = rw (le-leb (length r.visits) limit h) refl

pub fits_not : (r : Run) (limit : ℕ) → limit < length r.visits → left_of r limit ≡ None
fits_not r limit h = rw (lt-leb (length r.visits) limit h) refl

-- ---------------------------------------------------------------- one after another

module _ (b : Accepted) (all : List Session) (k : ℕ) (s : Session) (left rest : Option ℕ) (lt : k < length all) (is : s ≡ get_or all k s) (after : rest ≡ left_after (run_of b k s) left) where
  parts : drop k all ≡ s ∷ drop (k + 1) all
  parts = drop_more all k s lt ∙ ap (λ x. x ∷ drop (k + 1) all) (sym is)

  -- one more line
  pub line_next : (out next whole : List ℕ) → out ++ central_lines b left k (drop k all) ≡ whole → next ≡ out ++ central_line k (run_of b k s) (left_after (run_of b k s) left) → next ++ central_lines b rest (k + 1) (drop (k + 1) all) ≡ whole
  unfolding central_lines
  line_next out next whole so_far e =
      let line : List ℕ = central_line k (run_of b k s) (left_after (run_of b k s) left) in
      let more : List ℕ = central_lines b (left_after (run_of b k s) left) (k + 1) (drop (k + 1) all) in
      let one : suc k ≡ k + 1 = omega arith in
      let step : central_lines b left k (drop k all) ≡ line ++ more =
      ap (central_lines b left k) parts ∙ ap (λ j. line ++ central_lines b (left_after (run_of b k s) left) j (drop (k + 1) all)) one in
      ap (λ o. next ++ central_lines b o (k + 1) (drop (k + 1) all)) after ∙ ap (λ t. t ++ more) e ∙ append_assoc out line more
      ∙ ap (λ t. out ++ t) (sym step) ∙ so_far

  -- and what is left at the end is the same
  pub left_next : (end : Option ℕ) → left_by b left k (drop k all) ≡ end → left_by b rest (k + 1) (drop (k + 1) all) ≡ end
  unfolding left_by
  left_next end so_far =
      let one : suc k ≡ k + 1 = omega arith in
      let step : left_by b left k (drop k all) ≡ left_by b (left_after (run_of b k s) left) (k + 1) (drop (k + 1) all) =
      ap (left_by b left k) parts ∙ ap (λ j. left_by b (left_after (run_of b k s) left) j (drop (k + 1) all)) one in
      ap (λ o. left_by b o (k + 1) (drop (k + 1) all)) after ∙ sym step ∙ so_far

-- at the end all lines are there
pub lines_done : (b : Accepted) (left : Option ℕ) (k : ℕ) (rest : List Session) (out whole : List ℕ) → rest ≡ [] → out ++ central_lines b left k rest ≡ whole → out ≡ whole
unfolding central_lines
lines_done b left k rest out whole none so_far = sym (append-nil out) ∙ ap (λ r. out ++ central_lines b left k r) (sym none) ∙ so_far

pub left_done : (b : Accepted) (left : Option ℕ) (k : ℕ) (rest : List Session) (end : Option ℕ) → rest ≡ [] → left_by b left k rest ≡ end → left ≡ end
unfolding left_by
left_done b left k rest end none so_far = ap (λ r. left_by b left k r) (sym none) ∙ so_far
