use Rattle.std.proofs.Common.{◌≡◌, ◌<◌, ◌≤◌, ◌∙◌, ap, arith, drop, get_or, length, List}
use Rattle.std.proofs.lemmas.List.{drop_all}
use Rattle.unum_world.specs.declared.opening.Session.{Session}
use Rattle.unum_cli.proofs.Sessions.{line_next, left_next, lines_done, left_done}
use Rattle.unum_cli.proofs.central.push_sessions.Goals as goal

pub loop-k-preserved : goal.loop-k-preserved
loop-k-preserved c =
    let all : List Session = c.args.bundle.now.sessions in
    let xs : List Session = c.as_slice-sessions.result.now in
    let same : xs ≡ all = c.as_slice-sessions.ensures ∙ c.sessions.ensures.value in
    let inside : c.loop-k.k < length xs = c.loop-k-test.true in
    let lt : c.loop-k.k < length all = omega (arith, inside, ap length same) in
    let s : Session = c.index-sessions-k.result in
    let is : s ≡ get_or all c.loop-k.k s = c.index-sessions-k.is ∙ ap (λ (ys : List Session). get_or ys c.loop-k.k s) same in
    record {
      lines = line_next c.args.bundle.now all c.loop-k.k s c.loop-k.left c.in_ok-left.left lt is c.in_ok-left.ensures.rest _ _ _ c.loop-k.invariant.lines c.in_ok-left.ensures.line;
      rest = left_next c.args.bundle.now all c.loop-k.k s c.loop-k.left c.in_ok-left.left lt is c.in_ok-left.ensures.rest _ c.loop-k.invariant.rest;
      limited = c.in_ok-left.ensures.limited;
    }

pub returns-clause-lines : goal.returns-clause-lines
returns-clause-lines c =
    let same = c.as_slice-sessions.ensures ∙ c.sessions.ensures.value in
    let past : length c.args.bundle.now.sessions ≤ c.loop-k.k = omega (arith, c.loop-k-test.false, ap length same) in
    lines_done c.args.bundle.now c.loop-k.left c.loop-k.k (drop c.loop-k.k c.args.bundle.now.sessions) _ _ (drop_all c.loop-k.k c.args.bundle.now.sessions past) c.loop-k.invariant.lines

pub returns-clause-left : goal.returns-clause-left
returns-clause-left c =
    let same = c.as_slice-sessions.ensures ∙ c.sessions.ensures.value in
    let past : length c.args.bundle.now.sessions ≤ c.loop-k.k = omega (arith, c.loop-k-test.false, ap length same) in
    left_done c.args.bundle.now c.loop-k.left c.loop-k.k (drop c.loop-k.k c.args.bundle.now.sessions) _ (drop_all c.loop-k.k c.args.bundle.now.sessions past) c.loop-k.invariant.rest
