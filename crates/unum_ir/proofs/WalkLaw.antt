-- A scope is gone through node by node.
use Rattle.std.proofs.Common.{◌≡◌, ℕ, suc, ◌+◌, ◌-◌, ◌<◌, ◌≤◌, ◌⊎◌, inl, inr, min, Option, Some, refl, sym, ap, ◌∙◌, add-one, arith}
use Rattle.std.proofs.lemmas.Bool.{cases_lt}
use Rattle.asl_model.specs.Data.{Json, failure, hop_limit_error}
use Rattle.asl_model.specs.Central.{hop_limit}
use Rattle.asl_model.specs.Head.{Used, BegunOf, begins}
use Rattle.unum_ir.specs.declared.walks.Step.{Step}
use Rattle.unum_ir.specs.Flat.{Ir, Node, EndsWith, head_of, node_at, name_in, used_by, flat_by, flat_in, first_flat, flat}
use Rattle.unum_ir.specs.Walk.{Going, step_go, StepIs}

limit_is : hop_limit ≡ 2000
unfolding hop_limit
limit_is = refl

-- one more node
pub walk_on : (ir : Ir) (at label : ℕ) (v : Json) (again : Option Used) (s : Step) → at < 2000 → StepIs ir s label at v again → first_flat ir (2000 - at) label at v again ≡ step_go s (λ next w a. first_flat ir (2000 - (at + 1)) next (at + 1) w a)
walk_on ir at label v again s h is =
    let left : 2000 - at ≡ suc (2000 - (at + 1)) = omega arith in
    let go : ℕ → Going = λ k next w a. first_flat ir (2000 - (at + 1)) next k w a in
    ap (λ z. first_flat ir z label at v again) left
    ∙ is (go (suc at))
    ∙ ap (λ k. step_go s (go k)) (sym (add-one at))

spent : (ir : Ir) (label hop left : ℕ) (v : Json) (again : Option Used) → left ≡ 0 → first_flat ir left label hop v again ≡ EndsWith (failure hop_limit_error (name_in (node_at ir label)))
spent ir label hop left v again e = ap (λ z. first_flat ir z label hop v again) e

by_room : (ir : Ir) (label hop n : ℕ) (v : Json) (again : Option Used) → n ≡ min (hop + 1) 4294967295 → ((hop < 2000) ⊎ (2000 ≤ hop)) → first_flat ir (2000 - n) label n v again ≡ first_flat ir (2000 - suc hop) label (suc hop) v again
by_room ir label hop n v again e (inl h) = let same : n ≡ suc hop = omega arith in ap (λ k. first_flat ir (2000 - k) label k v again) same
by_room ir label hop n v again e (inr h) = spent ir label n (2000 - n) v again (omega arith) ∙ sym (spent ir label (suc hop) (2000 - suc hop) v again (omega arith))

-- past the limit it does not matter at which hop a node is entered
pub later : (ir : Ir) (label hop n : ℕ) (v : Json) (again : Option Used) → n ≡ min (hop + 1) 4294967295 → flat ir label n v again ≡ flat ir label (suc hop) v again
later ir label hop n v again e =
    ap (λ z. first_flat ir (z - n) label n v again) limit_is
    ∙ by_room ir label hop n v again e (cases_lt hop 2000)
    ∙ ap (λ z. first_flat ir (z - suc hop) label (suc hop) v again) (sym limit_is)

-- what a node that is entered does first leads to where its scope stops
pub entered : (ir : Ir) (label hop : ℕ) (raw : Json) (again : Option Used) (n : Node) (used : Used) (begun : BegunOf ℕ ℕ) (s : Step) → Some n ≡ node_at ir label → used ≡ used_by n.op again → begun ≡ begins n.name (head_of n.op) raw
    → ((go : Going) → flat_by n.op hop raw used begun go ≡ step_go s go) → StepIs ir s label hop raw again
entered ir label hop raw again n used begun s found u e step go =
    ap (λ o. flat_in o hop raw again go) (sym found)
    ∙ ap (λ z. flat_by n.op hop raw (used_by n.op again) z go) (sym e)
    ∙ ap (λ z. flat_by n.op hop raw z begun go) (sym u)
    ∙ step go
