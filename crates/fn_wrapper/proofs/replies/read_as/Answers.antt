use Rattle.std.proofs.Common.{ℕ, ◌∙◌, refl, sym, ap}
use Rattle.world_model.specs.AnyCode.Operations.{Invocation, WasLive}
use Rattle.fn_wrapper.proofs.replies.read_as.Goals as goal

pub input_at-input-requires : goal.input_at-input-requires
input_at-input-requires c =
    let it = c.in-Enter-Saved in
    let kind = sym (ap (λ (i : Invocation ℕ). i.name.kind) c.invocation.view_is) ∙ it.is-0 in
    λ q e. c.requires q it.count-1 it.raw it.used refl kind e (ap WasLive it.is-1)
