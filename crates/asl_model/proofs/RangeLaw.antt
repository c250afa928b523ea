-- Places are in range.
use Rattle.std.proofs.Common.{◌≡◌, ℕ, ◌<◌, ◌≤◌, List, [], ◌∷◌, ◌++◌, Some, Bool, true, false, length, refl, sym, ap, ◌∙◌, subst, inl, inr, arith, append_assoc, append-nil, if◌then◌else◌}
use Rattle.asl_model.specs.Data.{Text, Outcome, same_text}
use Rattle.asl_model.specs.Names.{Seg, Scope, Place, child, at_hop, answers_of}
use Rattle.place_name.specs.Same.{place_same}
use Rattle.asl_model.specs.Machine.{Block, block, States, no_state, and_state, State, Task, Pass, Choice, Succeed, Fail, Parallel, Map, Blocks, no_block, and_block, find_state, state_of, blocks_in, branches_of, depth, depth_in, depth_of, depth_all}
use Rattle.asl_model.specs.Step.{Ways, HasOneEach}
use Rattle.asl_model.specs.Central.{hop_limit}
use Rattle.asl_model.specs.Laws.{In, IsBelowScope, Ranges, IsTask, IsSound, Adding, Answering}
use Rattle.asl_model.proofs.Tree.{branches_at, inside, branch_in_state}
use Rattle.asl_model.proofs.GrowthLaw.{growth_lem}
use Rattle.asl_model.proofs.StandsLaw.{stands_lem}
use Rattle.asl_model.proofs.Induct.{IsClosed, visits_by}

deep_all : (bs : Blocks) (c : Block) → In c (blocks_in bs) → depth c ≤ depth_all bs
deep_all no_block c h = absurd h
deep_all (and_block b bs) c h = elim h [ inl e ↦ let l : depth c ≡ depth b = ap depth e in omega arith | inr t ↦ let l : depth c ≤ depth_all bs = deep_all bs c t in omega arith ]

deep_state : (s : State) (c : Block) → In c (inside s) → depth c ≤ depth_of s
deep_state (Task shape resource after care) c h = absurd h
deep_state (Pass shape result after) c h = absurd h
deep_state (Choice shape rules default) c h = absurd h
deep_state (Succeed shape) c h = absurd h
deep_state (Fail error cause) c h = absurd h
deep_state (Parallel shape bs after care) c h = deep_all bs c h
deep_state (Map shape items selector b after care limit) c h = elim h [ inl e ↦ let l : depth c ≡ depth b = ap depth e in omega arith | inr t ↦ absurd t ]

deep_chosen : (st : State) (rest : States) (name : Text) (s : State) → ((s : State) → find_state rest name ≡ Some s → depth_of s ≤ depth_in rest) → (t : Bool) → (if t then Some st else find_state rest name) ≡ Some s → depth_of s ≤ depth_in (and_state name st rest)
deep_chosen st rest name s k true e = let same : st ≡ s = cc in let l : depth_of st ≡ depth_of s = ap depth_of same in omega arith
deep_chosen st rest name s k false e = let l : depth_of s ≤ depth_in rest = k s e in omega arith

deep_found : (states : States) (name : Text) (s : State) → find_state states name ≡ Some s → depth_of s ≤ depth_in states
deep_found no_state name s e = absurd (cc)
deep_found (and_state m st rest) name s e = deep_chosen st rest name s (deep_found rest name) (same_text m name) e

deep_in : (b : Block) (name : Text) (s : State) → state_of b name ≡ Some s → depth_of s < depth b
deep_in (block start states) name s e = let l : depth_of s ≤ depth_in states = deep_found states name s e in omega arith

deep_branch : (b : Block) (name : Text) (n : ℕ) (c : Block) → In c (branches_at (state_of b name) n) → depth c < depth b
deep_branch b name n c h =
    let (s, e, i) = branch_in_state (state_of b name) n c h in
    let l : depth c ≤ depth_of s = deep_state s c i in
    let k : depth_of s < depth b = deep_in b name s e in
    omega arith

positive : (b : Block) → 0 < depth b
positive (block start states) = omega arith

own_place : (b : Block) (s : Scope) (hop : ℕ) → hop < hop_limit → IsBelowScope b s (at_hop s hop)
own_place b s hop h = record { rest = []; session = refl; trail = sym (append-nil s.trail); depth_is = positive b; ranges = tt; hop = h }

child_place : (b c : Block) (s : Scope) (hop i n : ℕ) (p : Place) → depth c < depth b → hop < hop_limit → i < n → IsBelowScope c (child (at_hop s hop) i n) p → IsBelowScope b s p
child_place b c s hop i n p d h l r =
    let g : Seg = record { hop = hop; index = i; count = n } in
    record { rest = g ∷ r.rest; session = r.session; trail = r.trail ∙ append_assoc s.trail (g ∷ []) r.rest; depth_is = let m = r.depth_is in omega arith; ranges = (h, l, r.ranges); hop = r.hop }

branch_deep : (b c : Block) (name : Text) (st : State) (n : ℕ) → state_of b name ≡ Some st → In c (branches_of st n) → depth c < depth b
branch_deep b c name st n e i = deep_branch b name n c (subst (λ m. In c (branches_at m n)) (sym e) i)

ranges_closed : (W : Ways) → IsClosed W (λ b s v. IsBelowScope b s v.place)
ranges_closed W = record {
  own = λ b s hop v h eb ep. subst (IsBelowScope b s) (sym ep) (own_place b s hop h);
  inner = λ b c s hop i name st raw inputs v h f g k l r. child_place b c s hop i (length inputs) v.place (branch_deep b c name st (length inputs) f k) h l r;
}

pub ranges_lem : (W : Ways) → Ranges W
ranges_lem W A b s x v i = visits_by W A (λ b s v. IsBelowScope b s v.place) (ranges_closed W) b s x v i

add_one : (e : Place × Outcome) (es : List (Place × Outcome)) (p q : Place) (o o' : Outcome) → (answers_of es q ≡ Some o' → answers_of (es ++ (p, o) ∷ []) q ≡ Some o') → (t : Bool) → (if t then Some e.1 else answers_of es q) ≡ Some o' → (if t then Some e.1 else answers_of (es ++ (p, o) ∷ []) q) ≡ Some o'
add_one e es p q o o' h true k = k
add_one e es p q o o' h false k = h k

pub adding_lem : Adding
unfolding answers_of
adding_lem [] p o q o' h = absurd (cc)
adding_lem (e ∷ es) p o q o' h = add_one e es p q o o' (adding_lem es p o q o') (place_same e.0 q) h

pub answering_lem : (W : Ways) → HasOneEach W → Answering W
answering_lem W one A B h b s x v name resource o i is e =
    let (w, k, g) = (growth_lem W A B h b s x).visits v i in
    let t = stands_lem W one B b s x w k in
    let task : IsTask W B w name resource = subst (IsSound W B w) (g.visited ∙ is) t.sound in
    (w, k, g, task.answer ∙ ap B g.place ∙ e)
