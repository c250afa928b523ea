-- Each fan has one input for each branch.
use Rattle.std.proofs.Common.{◌≡◌, ℕ, zero, suc, List, Result, Ok, Err, Bool, true, false, length, refl, sym, ap, ◌∙◌, if◌then◌else◌, nat_le}
use Rattle.unum_json.specs.declared.value.Json as json
use Rattle.unum_json.specs.Tree.{nodes}
use Rattle.asl_model.specs.Data.{Text, Json, prepared, parallel_inputs, data_limit, repeat}
use Rattle.asl_model.specs.Machine.{State, Task, Pass, Choice, Succeed, Fail, Parallel, Map, Care, blocks_in, branches_of, head_of}
use Rattle.asl_model.specs.Head.{begins, or_caught}
use Rattle.asl_model.specs.Step.{Begun, Calls, Fans}

pub length-repeat : {X : Type 0} (n : ℕ) (x : X) → length (repeat n x) ≡ n
length-repeat zero x = refl
length-repeat (suc n) x = ap suc (length-repeat n x)

pub caught_or : {X : Type 0} (name : Text) (raw : Json) (care : Care) (m : Result X Text) (go : X → Begun) (inputs : List Json) → or_caught name raw care m go ≡ Fans inputs → (x : X) × (m ≡ Ok x) × (go x ≡ Fans inputs)
caught_or name raw care (Ok x) go inputs e = (x, refl, e)
caught_or name raw care (Err f) go inputs e = absurd (cc)

pub fitting_is : (t : Bool) (vs inputs : List Json) → (if t then Ok vs else Err data_limit) ≡ Ok inputs → vs ≡ inputs
fitting_is true vs inputs e = cc
fitting_is false vs inputs e = absurd (cc)

pub parallel_count : (n : ℕ) (x : Json) (inputs : List Json) → parallel_inputs n x ≡ Ok inputs → n ≡ length inputs
unfolding parallel_inputs
parallel_count n x inputs e = sym (length-repeat n x) ∙ ap length (fitting_is (nat_le (nodes (json.Arr (repeat n x))) 200000) (repeat n x) inputs e)

pub one_each : (name : Text) (s : State) (raw : Json) (inputs : List Json) → begins name (head_of s) raw ≡ Fans inputs → length (branches_of s (length inputs)) ≡ length inputs
one_each name (Task shape resource after care) raw inputs e =
    let (x, a, f) = caught_or name raw care (prepared shape raw) (λ x. Calls resource x) inputs e in absurd (cc)
one_each name (Pass shape result after) raw inputs e = absurd (cc)
one_each name (Choice shape rules default) raw inputs e = absurd (cc)
one_each name (Succeed shape) raw inputs e = absurd (cc)
one_each name (Fail error cause) raw inputs e = absurd (cc)
one_each name (Parallel shape bs after care) raw inputs e =
    let n = length (blocks_in bs) in
    let (x, a, f) = caught_or name raw care (prepared shape raw) (λ x. or_caught name raw care (parallel_inputs n x) (λ inputs. Fans inputs)) inputs e in
    let (ys, c, d) = caught_or name raw care (parallel_inputs n x) (λ inputs. Fans inputs) inputs f in
    let same : ys ≡ inputs = cc in
    parallel_count n x inputs (c ∙ ap (λ z. Ok z) same)
one_each name (Map shape items selector b after care limit) raw inputs e = length-repeat (length inputs) b
