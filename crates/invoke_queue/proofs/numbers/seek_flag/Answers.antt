use Rattle.std.proofs.Common.{arith, ◌≡◌, ◌+◌, length, suc, true, false, ap, ◌∙◌, Some}
use Rattle.std.proofs.lemmas.Option.{slice_get-get_or}
use Rattle.invoke_queue.specs.Numbers.{rank}
use Rattle.invoke_queue.proofs.Ranks.{rank_next, rank_past}
use Rattle.invoke_queue.proofs.numbers.seek_flag.Goals as goal
use Rattle.invoke_queue.proofs.numbers.seek_flag.Goals.{then-flags-at+else-rest-eq0, else-flags-at}

pub loop-at-preserved : goal.loop-at-preserved
loop-at-preserved c =
    let i = c.loop-at.invariant in
    let z : rank (c.loop-at.at + 1) c.args.flags.now ≡ rank (suc c.loop-at.at) c.args.flags.now = let y : c.loop-at.at + 1 ≡ suc c.loop-at.at = omega arith in ap (λ n. rank n c.args.flags.now) y in
    elim c.if-flags-at.branch [
      | then-flags-at+else-rest-eq0 w ↦
          let r : rank (suc c.loop-at.at) c.args.flags.now ≡ rank c.loop-at.at c.args.flags.now + 1 =
          rank_next c.loop-at.at c.args.flags.now true (slice_get-get_or c.args.flags.now c.loop-at.at false c.loop-at-test.true ∙ ap (λ b. Some b) w.if-flags-at.true) in
          let e = w.rest-is in
          omega (arith, i, z, r, e)
      | else-flags-at w ↦
          let r : rank (suc c.loop-at.at) c.args.flags.now ≡ rank c.loop-at.at c.args.flags.now + 0 =
          rank_next c.loop-at.at c.args.flags.now false (slice_get-get_or c.args.flags.now c.loop-at.at false c.loop-at-test.true ∙ ap (λ b. Some b) w.if-flags-at.false) in
          let e = w.rest-is in
          omega (arith, i, z, r, e)
    ]

pub returns : goal.returns
returns c =
    let i = c.loop-at.invariant in
    let p : rank c.loop-at.at c.args.flags.now ≡ rank (length c.args.flags.now) c.args.flags.now = rank_past c.loop-at.at c.args.flags.now c.loop-at-test.false in
    record { found = omega (arith, i, p) }
