use Rattle.std.proofs.Common.{refl, sym, subst, ap, ◌∙◌, ◌≡◌, ◌<◌, List, length, false, slice_get, Some}
use Rattle.std.proofs.lemmas.Option.{slice_get_read}
use Rattle.world_types.specs.declared.queue.Attempt.{Attempt}
use Rattle.invoke_queue.specs.Queue.{atts_with, attempt_after_end}
use Rattle.invoke_queue.proofs.Listed.{numbered_set}
use Rattle.invoke_queue.proofs.attempts.Attempts.end.Goals as goal

pub invariant_of-self : goal.invariant_of-self
invariant_of-self c =
    let i : c.args.attempt < length c.self.inside.items.items = subst (λ (xs : List Attempt). c.args.attempt < length xs) (sym c.self.view_is) c.requires in
    let g : slice_get c.self.inside.items.items c.args.attempt ≡ Some c.index_mut-t.result.now = slice_get_read c.self.inside.items.items _ c.args.attempt c.index_mut-t.result.now refl i c.index_mut-t.ensures.value in
    numbered_set (λ a (t : Attempt). t.live) c.self.inside.items.items c.self.inside.live c.self.invariant c.args.attempt c.index_mut-t.result.now (attempt_after_end c.index_mut-t.result.now) false c.remove.new.self g refl c.remove.ensures

pub returns : goal.returns
returns c =
    let i : c.args.attempt < length c.self.inside.items.items = subst (λ (xs : List Attempt). c.args.attempt < length xs) (sym c.self.view_is) c.requires in
    let g : slice_get c.self.inside.items.items c.args.attempt ≡ Some c.index_mut-t.result.now = slice_get_read c.self.inside.items.items _ c.args.attempt c.index_mut-t.result.now refl i c.index_mut-t.ensures.value in
    sym (ap (atts_with c.self.inside.items.items c.args.attempt attempt_after_end) g) ∙ ap (λ (xs : List Attempt). atts_with xs c.args.attempt attempt_after_end (slice_get xs c.args.attempt)) c.self.view_is
