-- The phases after a look at data and after an act.
use Rattle.std.proofs.Common.{◌≡◌, ℕ, Bool, List, length, sym, ap, ◌∙◌}
use Rattle.world_model.specs.AnyCode.Code.{Code}
use Rattle.world_model.specs.AnyCode.Operations.{Kept, Invocation, Reply}
use Rattle.world_model.specs.AnyCode.Acts.{acts}
use Rattle.world_model.specs.AnyCode.Program.{Phase, Reading, Acting, after_read, after_act, absorb}

pub acted_is : (code : Code ℕ) (i : Invocation ℕ) (ticket : ℕ) (ph : Phase) (k : Kept) (m all : ℕ) (r : Reply (List Bool)) (after : Phase) →
    after ≡ after_act k m all r → ph ≡ Acting k m → all ≡ length (acts {B = List Bool} code i k) → after ≡ absorb code i ticket ph r
unfolding absorb
acted_is code i ticket ph k m all r after h e n = h ∙ ap (λ (x : ℕ). after_act k m x r) n
    ∙ ap (λ (x : Phase). absorb code i ticket x r) (sym e)

pub read_is : (code : Code ℕ) (i : Invocation ℕ) (ticket : ℕ) (ph : Phase) (r : Reply (List Bool)) → ph ≡ Reading →
    after_read code i ticket r ≡ absorb code i ticket ph r
unfolding absorb
read_is code i ticket ph r e = ap (λ (x : Phase). absorb code i ticket x r) (sym e)
