use Rattle.std.proofs.Common.{◌≡◌, suc, ◌-◌, ◌<◌, ◌≤◌, List, length, slice_get, Ok, Err, None, refl, sym, ap, ◌∙◌, subst, arith}
use Rattle.std.proofs.lemmas.Result.{err_from_is_err_and}
use Rattle.asl_model.specs.Data.{failure, hop_limit_error}
use Rattle.asl_model.specs.Names.{Seg, Scope, Place, scope_of, child}
use Rattle.asl_model.specs.Machine.{start_of, state_of, branches_of}
use Rattle.asl_model.specs.Step.{Ends, Fans, standard}
use Rattle.asl_model.specs.Central as m
use Rattle.asl_model.specs.Tree.{block_tree, state_tree}
use Rattle.asl_model.proofs.Trees.{block_tree-out}
use Rattle.central_model.specs.declared.run.End.TheVariants as end
use Rattle.central_model.specs.declared.onward.Then.{Then}
use Rattle.central_model.specs.declared.onward.Onward.{Onward}
use Rattle.central_model.specs.Asking.{asking_of, AreAnswered}
use Rattle.central_model.specs.Told.{told_end}
use Rattle.central_model.specs.Views.{onward_of, begun_of, then_of}
use Rattle.central_model.specs.Walked.{Runs, Turns, turn_in, walk_from, branch_runs}
use Rattle.central_model.specs.Fits.{FitsIn, FitsUnder}
use Rattle.central_model.proofs.Steps.{keeps_on}
use Rattle.central_model.proofs.Fitting.{one_longer, found_fits, branch_fits, has_level, few_branches}
use Rattle.central_model.proofs.Going.{scope_made, scope_failed, same_turn, rests_on, rests_stay, rests_failed, rests_first, rests_over, is_branch, gathers_on, gathers_failed, gathers_past, gathers_all}
use Rattle.central_model.proofs.walk.Walk.+scopes.Goals as goal
use Rattle.central_model.proofs.walk.Walk.+scopes.Goals.{branches-in_Some-block+in_ok-end+in_ok-gathered, branches-in_default-block}

pub branches-scope-requires : goal.branches-scope-requires
branches-scope-requires t c =
    let place = c.args.entry.now.place in
    let st = state_tree c.args.entry.now.state.now in
    let b = block_tree c.in_Some-block.block.now in
    let longer : length c.scope-scope.result.trail ≡ suc (length place.trail) = one_longer c.scope-scope.result place c.child.result c.loop-index.index c.len-count.result c.scope-scope.ensures c.child.ensures.place in
    let fits : FitsIn (7 - length place.trail) b = branch_fits (7 - length place.trail) c.len-count.result c.loop-index.index st b c.requires.fits (sym c.in_Some-block.ensures) in
    let some : 0 < 7 - length place.trail = has_level (7 - length place.trail) b fits in
    let same : 7 - length place.trail ≡ 8 - length c.scope-scope.result.trail = omega (arith, longer) in
    (omega (arith, c.decreases, longer, some), (c.loop-index.invariant.kept.fit, subst (λ n. FitsIn n b) same fits))

pub branches-returns-in_err-end-clause-runs : goal.branches-returns-in_err-end-clause-runs
branches-returns-in_err-end-clause-runs t c = λ A asked.
    let e = c.args.entry.now in
    let xs = c.args.inputs.now in
    let i = c.loop-index.index in
    let b = block_tree c.in_Some-block.block.now in
    let x = c.input-item.result in
    let here = c.loop-index.self in
    let r = c.in_err-end.field-0.0 in
    let at : c.scope-scope.result ≡ child e.place i (length xs) = c.scope-scope.ensures ∙ ap scope_of c.child.ensures.place ∙ ap (λ n. child e.place i n) c.len-count.ensures in
    let run = subst (λ (s : Scope). AreAnswered (asking_of here.source) here.count (m.scope standard A b s x).visits → Runs here (Err r) c.scope.new.self (m.scope standard A b s x)) at (c.in_err-end.ensures.run A) in
    let p = err_from_is_err_and c.from_residual.result c.from_residual.ensures.1 in
    rw (p.1, p.2) (gathers_failed A e xs c.args.self.now here c.scope.new.self c.loop-index.gathered (branch_runs A e xs) c.loop-index.invariant.kept.source (λ k. k ≡ told_end (m.scope standard A b (child e.place i (length xs)) x).end) i b x r
    (is_branch e xs c.as_slice-input-items.result.now i c.len-count.result b x c.as_slice-input-items.ensures c.loop-index-test.true c.input-item.is c.len-count.ensures c.in_Some-block.ensures) (c.loop-index.invariant.rest A) run asked)

pub branches-loop-index-preserved : goal.branches-loop-index-preserved
branches-loop-index-preserved t c =
    let e = c.args.entry.now in
    let xs = c.args.inputs.now in
    let i = c.loop-index.index in
    let x = c.input-item.result in
    let here = c.loop-index.self in
    elim c.match-branch.branch [
      | branches-in_Some-block+in_ok-end+in_ok-gathered w ↦
          let b = block_tree w.in_Some-block.block.now in
          let next = w.scope.new.self in
          let k = w.in_ok-end.ensures.kept in
          let at : w.scope-scope.result ≡ child e.place i (length xs) = w.scope-scope.ensures ∙ ap scope_of w.child.ensures.place ∙ ap (λ n. child e.place i n) c.len-count.ensures in
          rw (w.self-is, w.gathered-is) (record {
            kept = keeps_on c.args.self.now here next c.loop-index.invariant.kept k;
            rest = λ A. gathers_on A e xs c.args.self.now here next c.loop-index.gathered (branch_runs A e xs) c.loop-index.invariant.kept.source w.in_ok-gathered.gathered i b x w.in_ok-end.end
                (is_branch e xs c.as_slice-input-items.result.now i c.len-count.result b x c.as_slice-input-items.ensures c.loop-index-test.true c.input-item.is c.len-count.ensures w.in_Some-block.ensures)
                k.limit (c.loop-index.invariant.rest A)
                (subst (λ (s : Scope). AreAnswered (asking_of here.source) here.count (m.scope standard A b s x).visits → Runs here (Ok w.in_ok-end.end) next (m.scope standard A b s x)) at (w.in_ok-end.ensures.run A))
                (λ z. w.in_ok-gathered.ensures z);
          })
      | branches-in_default-block w ↦
          rw (w.self-is, w.gathered-is) (record {
            kept = c.loop-index.invariant.kept;
            rest = λ A. gathers_past A e xs c.args.self.now here here c.loop-index.gathered (branch_runs A e xs) c.loop-index.invariant.kept.source i
                (subst (λ n. slice_get (branches_of (state_tree e.state.now) n) i ≡ None) c.len-count.ensures (sym w.in_default-block.ensures)) (c.loop-index.invariant.rest A);
          })
    ]

pub branches-returns-clause-runs : goal.branches-returns-clause-runs
branches-returns-clause-runs t c = λ A.
    gathers_all A c.args.entry.now c.args.inputs.now c.args.self.now c.loop-index.self c.loop-index.self c.loop-index.gathered (branch_runs A c.args.entry.now c.args.inputs.now) c.loop-index.invariant.kept.source
    c.loop-index.index (subst (λ l. length l ≤ c.loop-index.index) c.as_slice-input-items.ensures c.loop-index-test.false) (c.loop-index.invariant.rest A)

pub scope-returns-in_err-enter-clause-run : goal.scope-returns-in_err-enter-clause-run
scope-returns-in_err-enter-clause-run t c = λ A asked.
    let p = err_from_is_err_and c.from_residual.result c.from_residual.ensures.1 in
    let b = block_tree c.args.block.now in
    rw (p.1, p.2) (scope_failed A b c.args.at.now c.args.input.now c.args.self.now c.enter.new.self c.enter.new.self c.in_err-enter.field-0.0 (λ u. Unit {0}) (c.in_err-enter.ensures.made b))

pub scope-returns-clause-run : goal.scope-returns-clause-run
scope-returns-clause-run t c = λ A.
    let b = block_tree c.args.block.now in
    let k = c.in_ok-enter.ensures.kept in
    let x = c.args.input.now in
    scope_made A b c.args.at.now x c.args.self.now c.enter.new.self c.states.new.self c.states.result (c.in_ok-enter.ensures.made b).0 k.source k.limit
    (subst (λ y. AreAnswered (asking_of c.enter.new.self.source) c.enter.new.self.count (walk_from A b m.hop_limit c.args.at.now (start_of b) 0 y None).visits → Runs c.enter.new.self c.states.result c.states.new.self (walk_from A b m.hop_limit c.args.at.now (start_of b) 0 y None)) c.in_ok-raw.ensures (c.states.ensures.run A))

pub state-turn-made-requires : goal.state-turn-made-requires
state-turn-made-requires t c =
    let is = rw c.in-Some.is at c.in_ok-entry.ensures in
    let s = c.args.at.now in
    let e = c.in-Some.entry in
    let st = state_tree e.state.now in
    let same : e.place.trail ≡ s.trail = ap (λ (p : Place). p.trail) is.place in
    let fits = found_fits (length s.trail) (block_tree c.args.block.now) c.args.name.now st c.requires.fits is.found in
    (omega (arith, c.decreases, ap length same), (c.requires.fit, subst (λ (l : List Seg). FitsUnder (7 - length l) st) (sym same) fits))

pub state-returns-clause-turn : goal.state-returns-clause-turn
state-returns-clause-turn t c = λ A.
    let b = block_tree c.args.block.now in
    let is = rw c.in-Some.is at c.in_ok-entry.ensures in
    subst (λ (z : m.Turn). AreAnswered (asking_of c.args.self.now.source) c.args.self.now.count z.visits → Turns c.args.self.now c.turn-made.result c.turn-made.new.self z)
    (sym (same_turn A b c.args.at.now c.args.name.now c.args.hop c.args.raw c.args.again c.in-Some.entry is)) (c.turn-made.ensures.turn b A)

pub states-loop-hop-init : goal.states-loop-hop-init
states-loop-hop-init t c = record {
  kept = record { fit = c.requires.fit; source = refl; limit = refl; grown = omega arith };
  rest = λ A. rests_first A (block_tree c.args.block.now) c.args.at.now c.args.self.now c.args.block.now.start c.args.raw (ap start_of (block_tree-out c.args.block.now));
}

pub states-returns-in_err-places-clause-run : goal.states-returns-in_err-places-clause-run
states-returns-in_err-places-clause-run t c = λ A asked.
    let b = block_tree c.args.block.now in
    let l = c.loop-hop in
    let p = err_from_is_err_and c.from_residual.result c.from_residual.ensures.1 in
    rw (p.1, p.2) (rests_failed A b c.args.at.now c.args.self.now l.self c.state.new.self (walk_from A b m.hop_limit c.args.at.now (start_of b) 0 c.args.raw None) l.hop l.name.now l.raw l.again c.loop-hop-test.true l.invariant.kept.source
    c.in_err-places.field-0.0 (λ (u : Then). then_of u ≡ (turn_in A b l.name.now (state_of b l.name.now) c.args.at.now l.hop l.raw l.again).onward) (l.invariant.rest A) (c.in_err-places.ensures.turn A) asked)

pub states-returns-in-Stays-clause-run : goal.states-returns-in-Stays-clause-run
states-returns-in-Stays-clause-run t c = λ A asked.
    let b = block_tree c.args.block.now in
    let l = c.loop-hop in
    rests_stay A b c.args.at.now c.args.self.now l.self c.state.new.self (walk_from A b m.hop_limit c.args.at.now (start_of b) 0 c.args.raw None) l.hop l.name.now l.raw l.again c.loop-hop-test.true l.invariant.kept.source
    (end.Waits c.in-Stays.places) (m.Stays c.in-Stays.places) refl refl (l.invariant.rest A) (λ h. let (a, o) = c.in_ok-places.ensures.turn A h in (a, ap then_of (sym c.in-Stays.is) ∙ o)) asked

pub states-returns-in-On-Ends-clause-run : goal.states-returns-in-On-Ends-clause-run
states-returns-in-On-Ends-clause-run t c = λ A asked.
    let b = block_tree c.args.block.now in
    let l = c.loop-hop in
    rests_stay A b c.args.at.now c.args.self.now l.self c.state.new.self (walk_from A b m.hop_limit c.args.at.now (start_of b) 0 c.args.raw None) l.hop l.name.now l.raw l.again c.loop-hop-test.true l.invariant.kept.source
    (end.Ended c.in-On-Ends.outcome) (m.Then_on (Ends c.in-On-Ends.outcome)) refl refl (l.invariant.rest A)
    (λ h. let (a, o) = c.in_ok-places.ensures.turn A h in (a, ap (λ (w : Onward). m.Then_on (onward_of w)) (sym c.in-On-Ends.field-0-is) ∙ ap then_of (sym c.in-On-Ends.is) ∙ o)) asked

pub states-loop-hop-preserved : goal.states-loop-hop-preserved
states-loop-hop-preserved t c =
    let b = block_tree c.args.block.now in
    let l = c.loop-hop in
    let g = c.in-On-Goes in
    let k = c.in_ok-places.ensures.kept in
    record {
      kept = keeps_on c.args.self.now l.self c.state.new.self l.invariant.kept k;
      rest = λ A. rests_on A b c.args.at.now c.args.self.now l.self c.state.new.self (walk_from A b m.hop_limit c.args.at.now (start_of b) 0 c.args.raw None) l.hop l.name.now l.raw l.again c.loop-hop-test.true l.invariant.kept.source
          g.next.now g.data g.used k.limit (l.invariant.rest A) (λ h. let (a, o) = c.in_ok-places.ensures.turn A h in (a, ap (λ (w : Onward). m.Then_on (onward_of w)) (sym g.field-0-is) ∙ ap then_of (sym g.is) ∙ o));
    }

pub states-returns-in_err-ended-clause-run : goal.states-returns-in_err-ended-clause-run
states-returns-in_err-ended-clause-run t c = λ A asked.
    let p = err_from_is_err_and c.from_residual-in_err-ended.result c.from_residual-in_err-ended.ensures.1 in
    rw (p.1, p.2) tt

pub states-returns-clause-run : goal.states-returns-clause-run
unfolding hop_limit_error
states-returns-clause-run t c = λ A asked.
    let b = block_tree c.args.block.now in
    let l = c.loop-hop in
    rests_over A b c.args.at.now c.args.self.now l.self (walk_from A b m.hop_limit c.args.at.now (start_of b) 0 c.args.raw None) l.hop l.name.now l.raw l.again c.in_ok-ended.ended c.loop-hop-test.false (c.in_ok-ended.ensures ∙ ap (λ z. failure hop_limit_error z) c.as_str.ensures) (l.invariant.rest A) asked

pub turn-fan-requires : goal.turn-fan-requires
turn-fan-requires t c =
    let e = c.args.entry.now in
    let begins : standard.begin e.name.now (state_tree e.state.now) e.raw ≡ Fans c.in-Fans.inputs = sym (ap begun_of (sym c.in-Fans.is) ∙ c.in_ok-onward.ensures) in
    (omega (arith, c.decreases), (c.requires.fit, (c.requires.fits, few_branches (7 - length e.place.trail) e.name.now (state_tree e.state.now) e.raw c.in-Fans.inputs c.requires.fits begins)))
