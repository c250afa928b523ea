-- States are found by their names.
use Rattle.std.proofs.Common.{◌≡◌, Bool, true, false, is_some, Option, Some, None, refl, sym, ap, subst, inl, inr, if◌then◌else◌}
use Rattle.std.proofs.lemmas.Slice.Eq.{bytes_eq-Decides}
use Rattle.asl_model.specs.Data.{Text, same_text}
use Rattle.asl_model.specs.Machine.{Block, block, States, no_state, and_state, State, find_state, state_of}
use Rattle.asl_model.specs.Blocks.{Row, rows, rows_of}
use Rattle.asl_model.specs.Laws.{In}
use Rattle.asl_model.specs.Valid.{has_state, HasState}

pub same_text_is : (a b : Text) → same_text a b ≡ true → a ≡ b
unfolding same_text
same_text_is a b e = (bytes_eq-Decides a b).0 e

pub same_text_itself : (a : Text) → same_text a a ≡ true
unfolding same_text
same_text_itself a = (bytes_eq-Decides a a).1 refl

found_by : (m : Text) (st : State) (rest : States) (name : Text) (s : State) → (find_state rest name ≡ Some s → (r : Row) × In r (rows_of rest) × (r.0 ≡ name) × (r.1 ≡ s)) → (t : Bool) → same_text m name ≡ t → (if t then Some st else find_state rest name) ≡ Some s → (r : Row) × In r (rows_of (and_state m st rest)) × (r.0 ≡ name) × (r.1 ≡ s)
found_by m st rest name s later true h e = ((m, st), inl refl, same_text_is m name h, cc)
found_by m st rest name s later false h e = let (r, i, n, q) = later e in (r, inr i, n, q)

-- a state that is found stands among the rows
pub found_row : (states : States) (name : Text) (s : State) → find_state states name ≡ Some s → (r : Row) × In r (rows_of states) × (r.0 ≡ name) × (r.1 ≡ s)
found_row no_state name s e = absurd (cc)
found_row (and_state m st rest) name s e = found_by m st rest name s (found_row rest name s) (same_text m name) refl e

pub row_of : (b : Block) (name : Text) (s : State) → state_of b name ≡ Some s → (r : Row) × In r (rows b) × (r.0 ≡ name) × (r.1 ≡ s)
row_of (block start states) name s e = found_row states name s e

there_by : (m : Text) (st : State) (rest : States) (name : Text) (t : Bool) → same_text m name ≡ t → (is_some (find_state rest name) ≡ true) → is_some (if t then Some st else find_state rest name) ≡ true
there_by m st rest name true h k = refl
there_by m st rest name false h k = k

here_by : (m : Text) (st : State) (rest : States) (t : Bool) → t ≡ true → is_some (if t then Some st else find_state rest m) ≡ true
here_by m st rest true h = refl
here_by m st rest false h = absurd (cc)

row_there : (states : States) (r : Row) → In r (rows_of states) → is_some (find_state states r.0) ≡ true
row_there no_state r i = absurd i
row_there (and_state m st rest) r i =
    elim i [
      | inl e ↦ subst (λ n. is_some (find_state (and_state m st rest) n) ≡ true) (sym (ap (λ (q : Row). q.0) e)) (here_by m st rest (same_text m m) (same_text_itself m))
      | inr t ↦ there_by m st rest r.0 (same_text m r.0) refl (row_there rest r t)
    ]

-- a row's name is a state's
pub has_row : (b : Block) (r : Row) → In r (rows b) → has_state b r.0 ≡ true
has_row (block start states) r i = row_there states r i

pub has_test : (b : Block) (name : Text) → HasState b name → has_state b name ≡ true
has_test b name (s, e) = ap is_some e

test_by : (b : Block) (name : Text) (m : Option State) → state_of b name ≡ m → is_some m ≡ true → HasState b name
test_by b name None e h = absurd (cc)
test_by b name (Some s) e h = (s, e)

pub test_has : (b : Block) (name : Text) → has_state b name ≡ true → HasState b name
test_has b name h = test_by b name (state_of b name) refl h
