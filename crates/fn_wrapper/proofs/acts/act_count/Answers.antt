use Rattle.std.proofs.Common.{◌≤◌, ◌+◌, ℕ, List, Bool, length, sym, subst, arith}
use Rattle.place_name.specs.Names.{scope_of}
use Rattle.place_name.specs.declared.limits.TheConstants.{MOST_BRANCHES}
use Rattle.world_model.specs.AnyCode.Names.{at_hop}
use Rattle.world_model.specs.AnyCode.Code.{Stop}
use Rattle.world_model.specs.AnyCode.Acts.{at_once, fan_ops, acts_of}
use Rattle.unum_ir.specs.Calls.{width}
use Rattle.continuation_gen.specs.Coded.{code_of_ir}
use Rattle.fn_wrapper.proofs.Paces.{once_few}
use Rattle.fn_wrapper.proofs.acts.act_count.Goals as goal

pub fan_count-requires : goal.fan_count-requires
fan_count-requires c =
    let w = width c.args.ir.now c.in-Fan.join in
    let s = scope_of c.args.invocation.now.name.place in
    let all = subst (λ (x : Stop ℕ). length (acts_of {B =
    List Bool} (code_of_ir c.args.ir.now) c.args.invocation.now.site s x) ≤ MOST_BRANCHES + 1) c.in-Fan.is c.requires in
    let some : length (fan_ops {B = List Bool} w (at_hop s c.in-Fan.hop) c.in-Fan.join c.in-Fan.enters) ≤ MOST_BRANCHES =
    omega (arith, all) in
    subst (λ (n : ℕ). length (at_once n c.in-Fan.enters) ≤ MOST_BRANCHES) (sym c.width.ensures)
    (once_few w (at_hop s c.in-Fan.hop) c.in-Fan.join c.in-Fan.enters MOST_BRANCHES some)
