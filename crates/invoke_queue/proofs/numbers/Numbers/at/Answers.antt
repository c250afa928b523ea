use Rattle.std.proofs.Common.{sym, arith}
use Rattle.invoke_queue.proofs.Sets.{past_numbers, wide_found, wide_there, block_found, block_there, flag_there, number_found, number_small}
use Rattle.invoke_queue.proofs.numbers.Numbers.at.Goals as goal

pub returns-then-index-self : goal.returns-then-index-self
returns-then-index-self c = sym (past_numbers _ _ _ _ c.self.invariant c.args.self.now c.self.view_is c.args.index c.if-index-self.true)

pub overflow_mul-wide : goal.overflow_mul-wide
overflow_mul-wide c =
    let h = rw c.deref.ensures.value at c.in_ok-wide.ensures.found in
    let f = wide_found _ _ _ _ c.self.invariant c.args.index c.in_ok-wide.wide c.in_ok-wide.left h.0 h.1 h.2 in
    let i = f.within in
    let l = c.self.invariant.fits in
    omega (arith, i, l)

pub returns-in_err-wide : goal.returns-in_err-wide
returns-in_err-wide c = absurd (wide_there _ _ _ _ c.self.invariant c.args.index c.if-index-self.false (rw c.deref.ensures.value at c.in_err-wide.ensures.found))

pub returns-in_err-block : goal.returns-in_err-block
returns-in_err-block c =
    let h = rw c.deref.ensures.value at c.in_ok-wide.ensures.found in
    let f = wide_found _ _ _ _ c.self.invariant c.args.index c.in_ok-wide.wide c.in_ok-wide.left h.0 h.1 h.2 in
    absurd (block_there _ _ _ _ c.self.invariant c.args.index c.in_ok-wide.wide c.in_ok-wide.left c.if-index-self.false f (rw c.deref-2.ensures.value at c.in_err-block.ensures.found))

pub overflow_mul-block : goal.overflow_mul-block
overflow_mul-block c =
    let h = rw c.deref.ensures.value at c.in_ok-wide.ensures.found in
    let f = wide_found _ _ _ _ c.self.invariant c.args.index c.in_ok-wide.wide c.in_ok-wide.left h.0 h.1 h.2 in
    let g = rw c.deref-2.ensures.value at c.in_ok-block.ensures.found in
    let b = block_found _ _ _ _ c.self.invariant c.args.index c.in_ok-wide.wide c.in_ok-wide.left f c.in_ok-block.block c.in_ok-block.left g.0 g.1 g.2 in
    let i = b.within in
    let l = c.self.invariant.fits in
    omega (arith, i, l)

pub returns-in_err-at : goal.returns-in_err-at
returns-in_err-at c =
    let h = rw c.deref.ensures.value at c.in_ok-wide.ensures.found in
    let f = wide_found _ _ _ _ c.self.invariant c.args.index c.in_ok-wide.wide c.in_ok-wide.left h.0 h.1 h.2 in
    let g = rw c.deref-2.ensures.value at c.in_ok-block.ensures.found in
    let b = block_found _ _ _ _ c.self.invariant c.args.index c.in_ok-wide.wide c.in_ok-wide.left f c.in_ok-block.block c.in_ok-block.left g.0 g.1 g.2 in
    absurd (flag_there _ _ _ _ c.self.invariant c.args.index c.in_ok-block.block c.in_ok-block.left c.if-index-self.false b (rw c.deref-3.ensures.value at c.in_err-at.ensures.found))

pub overflow_cast-result : goal.overflow_cast-result
overflow_cast-result c =
    let g = rw c.deref-3.ensures.value at c.in_ok-at.ensures.found in
    let l = number_small _ _ _ _ c.self.invariant c.in_ok-at.at g.0 in
    omega (arith, l)

pub returns : goal.returns
returns c =
    let h = rw c.deref.ensures.value at c.in_ok-wide.ensures.found in
    let f = wide_found _ _ _ _ c.self.invariant c.args.index c.in_ok-wide.wide c.in_ok-wide.left h.0 h.1 h.2 in
    let g = rw c.deref-2.ensures.value at c.in_ok-block.ensures.found in
    let b = block_found _ _ _ _ c.self.invariant c.args.index c.in_ok-wide.wide c.in_ok-wide.left f c.in_ok-block.block c.in_ok-block.left g.0 g.1 g.2 in
    let k = rw c.deref-3.ensures.value at c.in_ok-at.ensures.found in
    sym (number_found _ _ _ _ c.self.invariant c.args.self.now c.self.view_is c.args.index c.in_ok-block.block c.in_ok-block.left c.in_ok-at.at b k.0 k.1)
