use Rattle.std.proofs.Common.{refl, sym, subst, ap, ap₂, ◌∙◌, ◌≡◌, ◌<◌, ◌+◌, suc, List, length, slice_get, slice_set, Some, arith}
use Rattle.std.specs.Option.{option_map}
use Rattle.std.proofs.lemmas.Option.{slice_get_read}
use Rattle.world_types.specs.declared.queue.Attempt.{Attempt}
use Rattle.world_types.specs.declared.phase.Phase.{Phase}
use Rattle.invoke_queue.specs.Queue.{atts_with, attempt_after_move}
use Rattle.invoke_queue.proofs.Listed.{numbered_kept}
use Rattle.invoke_queue.proofs.attempts.Attempts.advance.Goals as goal

pub overflow_add-t : goal.overflow_add-t
overflow_add-t c =
    let i : c.args.attempt < length c.self.inside.items.items = subst (λ (xs : List Attempt). c.args.attempt < length xs) (sym c.self.view_is) c.requires.there in
    let g : slice_get c.self.inside.items.items c.args.attempt ≡ Some c.index_mut-t.result.now = slice_get_read c.self.inside.items.items _ c.args.attempt c.index_mut-t.result.now refl i c.index_mut-t.ensures.value in
    let l = c.requires.few c.index_mut-t.result.now (ap (λ (xs : List Attempt). slice_get xs c.args.attempt) (sym c.self.view_is) ∙ g) in
    omega (arith, l)

pub invariant_of-self : goal.invariant_of-self
invariant_of-self c =
    let i : c.args.attempt < length c.self.inside.items.items = subst (λ (xs : List Attempt). c.args.attempt < length xs) (sym c.self.view_is) c.requires.there in
    let g : slice_get c.self.inside.items.items c.args.attempt ≡ Some c.index_mut-t.result.now = slice_get_read c.self.inside.items.items _ c.args.attempt c.index_mut-t.result.now refl i c.index_mut-t.ensures.value in
    numbered_kept (λ a (t : Attempt). t.live) c.self.inside.items.items c.self.inside.live c.self.invariant c.args.attempt c.index_mut-t.result.now
    (record c.index_mut-t.result.now { steps = c.index_mut-t.result.now.steps + 1; phase = c.replace.new.dest }) g refl

pub returns-clause-changed : goal.returns-clause-changed
returns-clause-changed c =
    let i : c.args.attempt < length c.self.inside.items.items = subst (λ (xs : List Attempt). c.args.attempt < length xs) (sym c.self.view_is) c.requires.there in
    let g : slice_get c.self.inside.items.items c.args.attempt ≡ Some c.index_mut-t.result.now = slice_get_read c.self.inside.items.items _ c.args.attempt c.index_mut-t.result.now refl i c.index_mut-t.ensures.value in
    let z : c.index_mut-t.result.now.steps + 1 ≡ suc c.index_mut-t.result.now.steps = omega arith in
    ap₂ (λ (p : Phase) n. slice_set c.self.inside.items.items c.args.attempt (record c.index_mut-t.result.now { steps = n; phase = p })) c.replace.ensures.after z
    ∙ sym (ap (atts_with c.self.inside.items.items c.args.attempt (attempt_after_move c.args.phase)) g) ∙ ap (λ (xs : List Attempt). atts_with xs c.args.attempt (attempt_after_move c.args.phase) (slice_get xs c.args.attempt)) c.self.view_is

pub returns-clause-before : goal.returns-clause-before
returns-clause-before c =
    let i : c.args.attempt < length c.self.inside.items.items = subst (λ (xs : List Attempt). c.args.attempt < length xs) (sym c.self.view_is) c.requires.there in
    let g : slice_get c.self.inside.items.items c.args.attempt ≡ Some c.index_mut-t.result.now = slice_get_read c.self.inside.items.items _ c.args.attempt c.index_mut-t.result.now refl i c.index_mut-t.ensures.value in
    ap (λ (xs : List Attempt). option_map (λ (t : Attempt). t.phase) (slice_get xs c.args.attempt)) (sym c.self.view_is) ∙ ap (option_map (λ (t : Attempt). t.phase)) g ∙ ap (λ (p : Phase). Some p) (sym c.replace.ensures.value)
