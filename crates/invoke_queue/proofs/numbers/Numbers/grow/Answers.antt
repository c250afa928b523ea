use Rattle.std.proofs.Common.{sym, subst, ap, List, ℕ, Bool, ◌∙◌, ◌≡◌, ◌<◌, length, vec_len, arith}
use Rattle.invoke_queue.specs.Numbers.{NumberSet, set_of, IsCountedSet}
use Rattle.invoke_queue.proofs.Sets.{room_more, blocks_more, both_more, set_grown}
use Rattle.invoke_queue.proofs.numbers.Numbers.grow.Goals as goal

pub invariant_of-self-in_err-cover-2 : goal.invariant_of-self-in_err-cover-2
invariant_of-self-in_err-cover-2 c =
    let k : vec_len c.self.inside.flags ≡ length c.self.inside.flags.items = omega arith in
    let a = c.in_ok-cover.ensures.ok c.self.inside.flags.items (sym (c.len.ensures ∙ k)) c.self.invariant.blocks_are in
    subst (λ (far : List ℕ). IsCountedSet c.self.inside.flags.items c.cover.new.counts.items far c.self.inside.len) (sym c.in_err-cover-2.ensures.err) (blocks_more _ _ _ _ c.self.invariant c.cover.new.counts.items a)

pub invariant_of-self-in_err-push : goal.invariant_of-self-in_err-push
invariant_of-self-in_err-push c =
    let k : vec_len c.self.inside.flags ≡ length c.self.inside.flags.items = omega arith in
    let a = c.in_ok-cover.ensures.ok c.self.inside.flags.items (sym (c.len.ensures ∙ k)) c.self.invariant.blocks_are in
    let b = c.in_ok-cover-2.ensures.ok c.self.inside.flags.items (sym (c.len-2.ensures ∙ k)) c.self.invariant.wide_are in
    subst (λ (flags : List Bool). IsCountedSet flags c.cover.new.counts.items c.cover-2.new.counts.items c.self.inside.len) (sym c.in_err-push.ensures.items) (both_more _ _ _ _ c.self.invariant c.cover.new.counts.items c.cover-2.new.counts.items a b)

pub invariant_of-self-2 : goal.invariant_of-self-2
invariant_of-self-2 c =
    let k : vec_len c.self.inside.flags ≡ length c.self.inside.flags.items = omega arith in
    let a = c.in_ok-cover.ensures.ok c.self.inside.flags.items (sym (c.len.ensures ∙ k)) c.self.invariant.blocks_are in
    let b = c.in_ok-cover-2.ensures.ok c.self.inside.flags.items (sym (c.len-2.ensures ∙ k)) c.self.invariant.wide_are in
    let l : length c.self.inside.flags.items < 4294967295 = subst (λ (s : NumberSet). s.room < 4294967295) (sym c.self.view_is) c.requires in
    subst (λ (flags : List Bool). IsCountedSet flags c.cover.new.counts.items c.cover-2.new.counts.items c.self.inside.len) (sym c.in_ok-push.ensures.items)
    (room_more _ _ _ _ c.self.invariant c.cover.new.counts.items c.cover-2.new.counts.items l a b)

pub returns-clause-ok : goal.returns-clause-ok
returns-clause-ok c = ap set_of c.in_ok-push.ensures.items ∙ set_grown c.self.inside.flags.items c.args.self.now c.self.view_is
