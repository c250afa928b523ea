-- The definition unrolled once, with runners written as scopes of blocks, and induction on blocks.
use Rattle.std.proofs.Common.{◌≡◌, ℕ, zero, suc, List, [], ◌∷◌, map, Option, Some, None, Bool, true, false, refl, sym, ap, subst, inl, inr, if◌then◌else◌}
use mathlib.Core.Path.{fun_ext}
use Rattle.asl_model.specs.Data.{Text, Json, same_text, repeat}
use Rattle.asl_model.specs.Names.{Scope, Answers}
use Rattle.asl_model.specs.Machine.{Block, block, States, no_state, and_state, State, Task, Pass, Choice, Succeed, Fail, Parallel, Map, Blocks, no_block, and_block, start_of, find_state, state_of, blocks_in, branches_of}
use Rattle.asl_model.specs.Step.{Ways}
use Rattle.asl_model.specs.Central.{hop_limit, Runner, entered, walk, scope, branches_in, branches, scopes}
use Rattle.asl_model.specs.Laws.{In}

-- the blocks right inside a state
abbrev pub inside : State → List Block
inside (Parallel shape bs after care) = blocks_in bs
inside (Map shape items selector b after care limit) = b ∷ []
inside _ = []

abbrev pub branches_at : Option State → ℕ → List Block
branches_at None n = []
branches_at (Some s) n = branches_of s n

-- the runners of the branches of that state
abbrev pub runners : Ways → Answers → Block → Text → ℕ → List Runner
runners W A b name n = map (scope W A) (branches_at (state_of b name) n)

map-repeat : {X Y : Type 0} (f : X → Y) (n : ℕ) (x : X) → repeat n (f x) ≡ map f (repeat n x)
map-repeat f zero x = refl
map-repeat f (suc n) x = ap (λ l. f x ∷ l) (map-repeat f n x)

module _ (W : Ways) (A : Answers) where
  scopes-map : (bs : Blocks) → scopes W A bs ≡ map (scope W A) (blocks_in bs)
  unfolding scope
  scopes-map no_block = refl
  scopes-map (and_block b bs) = ap (λ l. scope W A b ∷ l) (scopes-map bs)

  branches-map : (s : State) (n : ℕ) → branches W A s n ≡ map (scope W A) (branches_of s n)
  unfolding scope
  branches-map (Task shape resource after care) n = refl
  branches-map (Pass shape result after) n = refl
  branches-map (Choice shape rules default) n = refl
  branches-map (Succeed shape) n = refl
  branches-map (Fail error cause) n = refl
  branches-map (Parallel shape bs after care) n = scopes-map bs
  branches-map (Map shape items selector b after care limit) n = map-repeat (scope W A) n b

  chosen : (s : State) (rest : States) (name : Text) (n : ℕ) → branches_in W A rest name n ≡ map (scope W A) (branches_at (find_state rest name) n) → (t : Bool) → (if t then branches W A s n else branches_in W A rest name n) ≡ map (scope W A) (branches_at (if t then Some s else find_state rest name) n)
  chosen s rest name n e true = branches-map s n
  chosen s rest name n e false = e

  branches_in-map : (states : States) (name : Text) (n : ℕ) → branches_in W A states name n ≡ map (scope W A) (branches_at (find_state states name) n)
  unfolding scope
  branches_in-map no_state name n = refl
  branches_in-map (and_state m s rest) name n = chosen s rest name n (branches_in-map rest name n) (same_text m name)

  -- a scope's run is its Enter and the walk from its start
  pub unroll : (b : Block) (s : Scope) (v : Json) → scope W A b s v ≡ entered b s v (walk W A b (runners W A b) hop_limit s (start_of b) 0 v None)
  unfolding scope
  unroll (block start states) s v =
      ap (λ r. entered (block start states) s v (walk W A (block start states) r hop_limit s start 0 v None)) (fun_ext (λ name. fun_ext (λ n. branches_in-map states name n)))

picked : {P : Block → Type 0} (m : Text) (st : State) (rest : States) (name : Text) (s : State) (c : Block) → In c (inside s) → ((c : Block) → In c (inside st) → P c) → ((name : Text) (s : State) → find_state rest name ≡ Some s → (c : Block) → In c (inside s) → P c) → (t : Bool) → (if t then Some st else find_state rest name) ≡ Some s → P c
picked m st rest name s c h here there true e = let same : st ≡ s = cc in here c (subst (λ x. In c (inside x)) (sym same) h)
picked m st rest name s c h here there false e = there name s e c h

only : (P : Block → Type 0) (b c : Block) → In c (b ∷ []) → P b → P c
only P b c h p = elim h [ inl e ↦ subst P (sym e) p | inr t ↦ absurd t ]

one_of : {P : Block → Type 0} (b : Block) (bs : Blocks) (c : Block) → In c (b ∷ blocks_in bs) → P b → ((c : Block) → In c (blocks_in bs) → P c) → P c
one_of {P} b bs c h p there = elim h [ inl e ↦ subst P (sym e) p | inr t ↦ there c t ]

In-repeat : {X : Type 0} (n : ℕ) (x y : X) → In y (repeat n x) → y ≡ x
In-repeat zero x y h = absurd h
In-repeat (suc n) x y h = elim h [ inl e ↦ e | inr t ↦ In-repeat n x y t ]

branches_inside : (s : State) (n : ℕ) (c : Block) → In c (branches_of s n) → In c (inside s)
branches_inside (Task shape resource after care) n c h = absurd h
branches_inside (Pass shape result after) n c h = absurd h
branches_inside (Choice shape rules default) n c h = absurd h
branches_inside (Succeed shape) n c h = absurd h
branches_inside (Fail error cause) n c h = absurd h
branches_inside (Parallel shape bs after care) n c h = h
branches_inside (Map shape items selector b after care limit) n c h = inl (In-repeat n b c h)

pub branch_in_state : (m : Option State) (n : ℕ) (c : Block) → In c (branches_at m n) → (s : State) × (m ≡ Some s) × In c (inside s)
branch_in_state None n c h = absurd h
branch_in_state (Some s) n c h = (s, refl, branches_inside s n c h)

-- induction: what holds of a block when it holds of each block inside its states
module _ (P : Block → Type 0) (step : (b : Block) → ((name : Text) (s : State) → state_of b name ≡ Some s → (c : Block) → In c (inside s) → P c) → P b) where
  mutual
    pub on_blocks : (b : Block) → P b
    on_blocks (block start states) = step (block start states) (on_states states)

    on_states : (states : States) (name : Text) (s : State) → find_state states name ≡ Some s → (c : Block) → In c (inside s) → P c
    on_states no_state name s e c h = absurd (cc)
    on_states (and_state m st rest) name s e c h = picked m st rest name s c h (on_state st) (on_states rest) (same_text m name) e

    on_state : (s : State) (c : Block) → In c (inside s) → P c
    on_state (Task shape resource after care) c h = absurd h
    on_state (Pass shape result after) c h = absurd h
    on_state (Choice shape rules default) c h = absurd h
    on_state (Succeed shape) c h = absurd h
    on_state (Fail error cause) c h = absurd h
    on_state (Parallel shape bs after care) c h = on_each bs c h
    on_state (Map shape items selector b after care limit) c h = only P b c h (on_blocks b)

    on_each : (bs : Blocks) (c : Block) → In c (blocks_in bs) → P c
    on_each no_block c h = absurd h
    on_each (and_block b bs) c h = one_of b bs c h (on_blocks b) (on_each bs)

-- the same, where a step asks of the branches of each state by its name
pub by_branches : (P : Block → Type 0) → ((b : Block) → ((name : Text) (n : ℕ) (c : Block) → In c (branches_at (state_of b name) n) → P c) → P b) → (b : Block) → P b
by_branches P step = on_blocks P (λ b ih. step b (λ name n c h. let (s, e, i) = branch_in_state (state_of b name) n c h in ih name s e c i))
