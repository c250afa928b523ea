use Rattle.std.proofs.Common.{ℕ, ◌≡◌, ◌<◌, ◌++◌, ◌∙◌, sym, ap, length, string_bytes, Option, None}
use Rattle.central_model.specs.declared.run.Run.{Run}
use Rattle.unum_cli.specs.Central.{central_line, left_after, run_of}
use Rattle.unum_cli.proofs.Sessions.{fits_not}
use Rattle.unum_cli.proofs.central.push_session.Goals as goal

pub returns-in_default-clause-line : goal.returns-in_default-clause-line
returns-in_default-clause-line c =
    let r : Run = run_of c.args.bundle.now c.args.number c.args.session.now in
    c.in_ok-push_open.ensures r
    ∙ ap (λ (o : Option ℕ). string_bytes c.args.out.now ++ central_line c.args.number r o) (ap (λ (o : Option ℕ). left_after r o) (sym c.in_default.is))

pub returns-in_ok-push_open-in-Err-TooLong-clause-line : goal.returns-in_ok-push_open-in-Err-TooLong-clause-line
returns-in_ok-push_open-in-Err-TooLong-clause-line c =
    let r : Run = run_of c.args.bundle.now c.args.number c.args.session.now in
    let past : c.in-Some.limit < length r.visits = rw c.in-Err-TooLong.field-0-is at c.in-Err-TooLong.ensures in
    let none : left_after r c.args.left ≡ None = ap (λ (o : Option ℕ). left_after r o) c.in-Some.is ∙ fits_not r c.in-Some.limit past in
    c.in_ok-push_open-in-Err-TooLong.ensures r ∙ ap (λ (o : Option ℕ). string_bytes c.args.out.now ++ central_line c.args.number r o) (sym none)
