use Rattle.std.proofs.Common.{◌≡◌, ◌≤◌, ℕ, Some, None, length, slice_get, sym, ap, ◌∙◌, subst, arith}
use Rattle.std.proofs.lemmas.Bool.{false≢true}
use Rattle.place_name.specs.Names.{Place, IsScope}
use Rattle.place_name.specs.declared.limits.TheConstants.{MOST_BRANCHES}
use Rattle.world_model.specs.AnyCode.Names.{at_hop, child}
use Rattle.world_model.specs.AnyCode.Operations.{Invocation, Invoke}
use Rattle.world_model.specs.AnyCode.Acts.{at_once, enter_at}
use Rattle.unum_ir.specs.Calls.{width}
use Rattle.fn_wrapper.proofs.Paces.{fan_at, fan_past}
use Rattle.fn_wrapper.proofs.Branches.{lone_in, fan_in, fan_few}
use Rattle.fn_wrapper.proofs.acts.fan_act.Goals as goal

pub lone_act-requires : goal.lone_act-requires
lone_act-requires c =
    lone_in (width c.args.ir.now c.args.join) (at_hop c.args.scope.now c.args.hop) c.args.join c.args.enters.now c.args.index c.requires
    (c.is_empty.ensures.0 c.if-is_empty.true)

pub returns-in_err-enter : goal.returns-in_err-enter
returns-in_err-enter c =
    let w = width c.args.ir.now c.args.join in
    let none : slice_get (at_once w c.args.enters.now) c.args.index ≡ None =
    ap (λ (n : ℕ). slice_get (at_once n c.args.enters.now) c.args.index) (sym c.width.ensures) ∙ sym c.first_branch.ensures
    ∙ c.in_err-enter.was in
    c.from_residual.ensures
    ∙ sym (fan_past w (at_hop c.args.scope.now c.args.hop) c.args.join c.args.enters.now c.args.index none
    (λ e. false≢true (sym c.if-is_empty.false ∙ c.is_empty.ensures.1 e)))

pub overflow_cast-count : goal.overflow_cast-count
overflow_cast-count c =
    let w = width c.args.ir.now c.args.join in
    let some : slice_get (at_once w c.args.enters.now) c.args.index ≡ Some c.in_ok-enter.enter =
    ap (λ (n : ℕ). slice_get (at_once n c.args.enters.now) c.args.index) (sym c.width.ensures) ∙ sym c.first_branch.ensures
    ∙ c.in_ok-enter.was in
    let few : length c.args.enters.now ≤ MOST_BRANCHES =
    fan_few w (at_hop c.args.scope.now c.args.hop) c.args.join c.args.enters.now c.args.index c.in_ok-enter.enter c.requires some
    (λ e. false≢true (sym c.if-is_empty.false ∙ c.is_empty.ensures.1 e)) in
    omega arith

pub branch_enter-requires : goal.branch_enter-requires
branch_enter-requires c =
    let w = width c.args.ir.now c.args.join in
    let p : Place = at_hop c.args.scope.now c.args.hop in
    let some : slice_get (at_once w c.args.enters.now) c.args.index ≡ Some c.in_ok-enter.enter =
    ap (λ (n : ℕ). slice_get (at_once n c.args.enters.now) c.args.index) (sym c.width.ensures) ∙ sym c.first_branch.ensures
    ∙ c.in_ok-enter.was in
    subst (λ (n : ℕ). IsScope (child p c.args.index n)) (sym c.len-count.ensures)
    (fan_in w p c.args.join c.args.enters.now c.args.index c.in_ok-enter.enter c.requires some (λ e. false≢true (sym c.if-is_empty.false
    ∙ c.is_empty.ensures.1 e)))

pub returns : goal.returns
returns c =
    let w = width c.args.ir.now c.args.join in
    let p : Place = at_hop c.args.scope.now c.args.hop in
    let some : slice_get (at_once w c.args.enters.now) c.args.index ≡ Some c.in_ok-enter.enter =
    ap (λ (n : ℕ). slice_get (at_once n c.args.enters.now) c.args.index) (sym c.width.ensures) ∙ sym c.first_branch.ensures
    ∙ c.in_ok-enter.was in
    ap (λ (i : Invocation ℕ). Some (Invoke i)) (c.branch_enter.ensures
    ∙ ap (λ (n : ℕ). enter_at c.in_ok-enter.enter p c.args.index n) c.len-count.ensures)
    ∙ sym (fan_at w p c.args.join c.args.enters.now c.args.index c.in_ok-enter.enter some (λ e. false≢true (sym c.if-is_empty.false
    ∙ c.is_empty.ensures.1 e)))
