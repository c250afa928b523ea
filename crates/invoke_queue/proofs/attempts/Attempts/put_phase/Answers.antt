use Rattle.std.proofs.Common.{refl, sym, subst, ap, ◌∙◌, ◌≡◌, ◌<◌, List, length, slice_get, slice_set, Some}
use Rattle.std.specs.Option.{option_map}
use Rattle.std.proofs.lemmas.Option.{slice_get_read}
use Rattle.world_types.specs.declared.queue.Attempt.{Attempt}
use Rattle.world_types.specs.declared.phase.Phase.{Phase}
use Rattle.invoke_queue.specs.Queue.{atts_with, attempt_at}
use Rattle.invoke_queue.proofs.Listed.{numbered_kept}
use Rattle.invoke_queue.proofs.attempts.Attempts.put_phase.Goals as goal

pub invariant_of-self : goal.invariant_of-self
invariant_of-self c =
    let i : c.args.attempt < length c.self.inside.items.items = subst (λ (xs : List Attempt). c.args.attempt < length xs) (sym c.self.view_is) c.requires in
    let g : slice_get c.self.inside.items.items c.args.attempt ≡ Some c.index_mut-t.result.now = slice_get_read c.self.inside.items.items _ c.args.attempt c.index_mut-t.result.now refl i c.index_mut-t.ensures.value in
    numbered_kept (λ a (t : Attempt). t.live) c.self.inside.items.items c.self.inside.live c.self.invariant c.args.attempt c.index_mut-t.result.now (attempt_at c.replace.new.dest c.index_mut-t.result.now) g refl

pub returns-clause-changed : goal.returns-clause-changed
returns-clause-changed c =
    let i : c.args.attempt < length c.self.inside.items.items = subst (λ (xs : List Attempt). c.args.attempt < length xs) (sym c.self.view_is) c.requires in
    let g : slice_get c.self.inside.items.items c.args.attempt ≡ Some c.index_mut-t.result.now = slice_get_read c.self.inside.items.items _ c.args.attempt c.index_mut-t.result.now refl i c.index_mut-t.ensures.value in
    ap (λ (p : Phase). slice_set c.self.inside.items.items c.args.attempt (attempt_at p c.index_mut-t.result.now)) c.replace.ensures.after
    ∙ sym (ap (atts_with c.self.inside.items.items c.args.attempt (attempt_at c.args.phase)) g) ∙ ap (λ (xs : List Attempt). atts_with xs c.args.attempt (attempt_at c.args.phase) (slice_get xs c.args.attempt)) c.self.view_is

pub returns-clause-before : goal.returns-clause-before
returns-clause-before c =
    let i : c.args.attempt < length c.self.inside.items.items = subst (λ (xs : List Attempt). c.args.attempt < length xs) (sym c.self.view_is) c.requires in
    let g : slice_get c.self.inside.items.items c.args.attempt ≡ Some c.index_mut-t.result.now = slice_get_read c.self.inside.items.items _ c.args.attempt c.index_mut-t.result.now refl i c.index_mut-t.ensures.value in
    ap (λ (xs : List Attempt). option_map (λ (t : Attempt). t.phase) (slice_get xs c.args.attempt)) (sym c.self.view_is) ∙ ap (option_map (λ (t : Attempt). t.phase)) g ∙ ap (λ (p : Phase). Some p) (sym c.replace.ensures.value)
