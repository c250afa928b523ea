use Rattle.std.proofs.Common.{rules, Err, ◌++◌, flat_map}
use Rattle.bundle_read.specs.Bounds.{broken_sizes, crowd, in_items, large_input, large_value}
use Rattle.bundle_read.specs.Checked.{Checks}
use Rattle.bundle_read.proofs.Steps.{front, later}
use Rattle.bundle_read.proofs.read.check_sizes.Goals as goal

pub returns-in_err-check_values : goal.returns-in_err-check_values
returns-in_err-check_values c =
    let found : Checks (Err c.in_err-check_values.field-0.0) (broken_sizes c.args.functions.now c.args.sessions.now) = front c.in_err-check_values.field-0.0 (flat_map large_value c.args.functions.now) (in_items large_input 0 c.args.sessions.now ++ (crowd c.args.sessions.now)) c.in_err-check_values.ensures in
    search rules

pub returns-in_err-check_inputs : goal.returns-in_err-check_inputs
returns-in_err-check_inputs c =
    let found : Checks (Err c.in_err-check_inputs.field-0.0) (broken_sizes c.args.functions.now c.args.sessions.now) = later (Err c.in_err-check_inputs.field-0.0) (flat_map large_value c.args.functions.now) (in_items large_input 0 c.args.sessions.now ++ (crowd c.args.sessions.now)) c.in_ok-check_values.ensures (front c.in_err-check_inputs.field-0.0 (in_items large_input 0 c.args.sessions.now) (crowd c.args.sessions.now) c.in_err-check_inputs.ensures) in
    search rules

pub returns : goal.returns
returns c = later c.check_count.result (flat_map large_value c.args.functions.now) (in_items large_input 0 c.args.sessions.now ++ (crowd c.args.sessions.now)) c.in_ok-check_values.ensures (later c.check_count.result (in_items large_input 0 c.args.sessions.now) (crowd c.args.sessions.now) c.in_ok-check_inputs.ensures (c.check_count.ensures))
