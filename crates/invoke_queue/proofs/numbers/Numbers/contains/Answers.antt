use Rattle.std.proofs.Common.{refl}
use Rattle.std.proofs.lemmas.Option.{slice_get_read, slice_get_past}
use Rattle.invoke_queue.proofs.Sets.{flag_says, no_flag}
use Rattle.invoke_queue.proofs.numbers.Numbers.contains.Goals as goal

pub returns-in-Some : goal.returns-in-Some
returns-in-Some c =
    let h = rw c.deref.ensures.value at c.in-Some.ensures.lookup in
    flag_says _ _ _ _ c.self.invariant c.args.self.now c.self.view_is c.args.number c.in-Some.flag.now (slice_get_read c.self.inside.flags.items _ c.args.number c.in-Some.flag.now refl h.3.0 h.1)

pub returns-in-None : goal.returns-in-None
returns-in-None c =
    let h = rw c.deref.ensures.value at c.in-None.ensures.lookup in
    (λ t. absurd (cc), λ i. absurd (no_flag _ _ _ _ c.self.invariant c.args.self.now c.self.view_is c.args.number (slice_get_past c.self.inside.flags.items c.args.number h.3) i))
