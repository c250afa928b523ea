-- Where no function looks at its ticket, a run that has ended is the sequential run.
use Rattle.std.proofs.Common.{ℕ, suc, ◌+◌, ◌≡◌, refl, sym, ap, ap₂, ◌∙◌, subst, List, [], ◌∷◌, slice_get, Some, arith}
use Rattle.asl_model.specs.Data.{Outcome}
use Rattle.asl_model.specs.Names.{Answers, answers_of}
use Rattle.asl_model.specs.Step.{standard}
use Rattle.asl_model.specs.Central.{Visit, Ended, Run, central}
use Rattle.asl_model.specs.Sequential.{Functions, size, sequential}
use Rattle.asl_model.proofs.EndedLaw.{ended_stays_lem}
use Rattle.asl_model.proofs.SequentialLaw.{sequential_ends_lem}
use Rattle.world_model.specs.Operations.{root}
use Rattle.world_model.specs.World.{Opening, Session, World}
use Rattle.world_model.specs.Journals.{journal_answers, run_of}
use Rattle.world_model.specs.Agrees.{Agrees}
use Rattle.world_model.specs.Steady.{AllSteady, AnswerAs}
use Rattle.world_model.proofs.Every.{every_run_agrees}
use Rattle.world_model.proofs.Alike.{together, left_holds, right_holds, no_answers, run_is, answers_found}
use Rattle.calm_worlds.specs.Cost.{cost, marks, sum_of, total}
use Rattle.calm_worlds.specs.Alone.{AreSequential, total_alone, EveryCalmEndIsSequential, EveryCalmEndCostsAlike}
use Rattle.calm_worlds.proofs.Ends.{every_calm_end_is_complete, every_calm_end_costs}

-- a session's run that has ended is its sequential run
pub ended_sequential : (w : World) (agrees : Agrees w) (all : AllSteady w.opening.functions) (call : Functions) (calls_as : AnswerAs w.opening.functions call) (s : ℕ) (x : Session) (found : slice_get w.opening.sessions s ≡ Some x) →
    (r : Outcome) → (run_of w.opening w.journal s).end ≡ Ended r → run_of w.opening w.journal s ≡ sequential x.machine s x.input call
ended_sequential w agrees all call calls_as s x found r ended =
    let J : Answers = journal_answers w.journal in
    let R : Answers → Run = λ A. central standard A x.machine s x.input in
    let (es, alike, same) = answers_found w agrees all call calls_as s x found (suc (size x.machine)) [] (no_answers J) in
    let (y, e) = sequential_ends_lem x.machine s x.input call in
    let run : run_of w.opening w.journal s ≡ R J = run_is w.opening w.journal s x found in
    let B : Answers = together J (answers_of es) in
    let one : R B ≡ R (answers_of es) = ended_stays_lem standard (answers_of es) B (right_holds J (answers_of es) alike) x.machine (root s) x.input y (ap (λ (z : Run). z.end) (sym same) ∙ e) in
    let two : R B ≡ R J = ended_stays_lem standard J B (left_holds J (answers_of es)) x.machine (root s) x.input r (ap (λ (z : Run). z.end) (sym run) ∙ ended) in
    run ∙ sym two ∙ one ∙ sym same

pub every_calm_end_is_sequential : EveryCalmEndIsSequential
every_calm_end_is_sequential o es w e c D all call calls_as s x found =
    let (same, agrees) = every_run_agrees o es w e in
    let all_here : AllSteady w.opening.functions = subst (λ (z : Opening). AllSteady z.functions) (sym same) all in
    let as_here : AnswerAs w.opening.functions call = subst (λ (z : Opening). AnswerAs z.functions call) (sym same) calls_as in
    let ((r, out), swept) = (every_calm_end_is_complete o es w e c D).sessions s x found in
    ended_sequential w agrees all_here call as_here s x found r (agrees.ended s r out)

totals_alike : (f : List Visit → Visit → ℕ) (w : World) (call : Functions) (s : ℕ) (xs : List Session) → ((k : ℕ) (x : Session) → slice_get xs k ≡ Some x → run_of w.opening w.journal (s + k) ≡ sequential x.machine (s + k) x.input call) →
    total f w.opening w.journal s xs ≡ total_alone f call s xs
totals_alike f w call s [] h = refl
totals_alike f w call s (x ∷ xs) h =
    let z : s + 0 ≡ s = omega arith in
    let one : run_of w.opening w.journal s ≡ sequential x.machine s x.input call = subst (λ n. run_of w.opening w.journal n ≡ sequential x.machine n x.input call) z (h 0 x refl) in
    let rest = totals_alike f w call (suc s) xs (λ k y e. let q : s + suc k ≡ suc s + k = omega arith in subst (λ n. run_of w.opening w.journal n ≡ sequential y.machine n y.input call) q (h (suc k) y e)) in
    ap₂ (λ (r : Run) n. sum_of (f r.visits) r.visits + n) one rest

pub every_calm_end_costs_alike : EveryCalmEndCostsAlike
every_calm_end_costs_alike o es w e c D all call calls_as =
    let (same, agrees) = every_run_agrees o es w e in
    let (n, m) = every_calm_end_costs o es w e c D in
    let runs : AreSequential w call = every_calm_end_is_sequential o es w e c D all call calls_as in
    let at : (k : ℕ) (x : Session) → slice_get w.opening.sessions k ≡ Some x → run_of w.opening w.journal (0 + k) ≡ sequential x.machine (0 + k) x.input call =
    λ k x g. let z : k ≡ 0 + k = omega arith in subst (λ i. run_of w.opening w.journal i ≡ sequential x.machine i x.input call) z (runs k x g) in
    let sessions = ap (λ (z : Opening). z.sessions) same in (
      n ∙ totals_alike cost w call 0 w.opening.sessions at ∙ ap (total_alone cost call 0) sessions,
      m ∙ totals_alike marks w call 0 w.opening.sessions at ∙ ap (total_alone marks call 0) sessions,
    )
