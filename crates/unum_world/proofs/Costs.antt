-- A world whose plan has no mishaps, and allowed each of its events, has its cost.
use Rattle.std.proofs.Common.{ℕ, ◌<◌, ◌≤◌, ◌≡◌, ap, subst, arith, length, Some}
use Rattle.asl_model.specs.Sequential.{Functions}
use Rattle.world_model.specs.AnyCode.Code.{flags}
use Rattle.world_model.specs.Flat.{flat_sites}
use Rattle.world_model.specs.World as model
use Rattle.world_plans.specs.Plans.{HasNoMishap}
use Rattle.calm_worlds.specs.Calm.{StaysCalm}
use Rattle.calm_worlds.specs.Cost.{cost, marks, HasFunctions}
use Rattle.calm_worlds.specs.Alone.{total_alone, StaysWithin}
use Rattle.calm_worlds.specs.Numbered.{IsCalmlySound}
use Rattle.calm_worlds.proofs.Numbered.{every_calm_numbered_run_is_sound, every_obeying_numbered_run_is_calm}
use Rattle.continuation_gen.specs.Laws.{AreValid}
use Rattle.continuation_gen.proofs.Running.{sizes, stands}
use Rattle.unum_world.specs.Openings.{opening_as, codes_of}
use Rattle.unum_world.specs.Traces.{Trace, now, run_of, opened_world, IsRun, IsObeying, IsDrained, IsFull}
use Rattle.unum_world.specs.Answers.{IsEnabledSome}
use Rattle.unum_world.specs.Cost.{events_so_far, marks_so_far, events_alone, marks_alone, AnswerSteadily, CostsAlone, HasItsCost}

module _ (p : Trace) (valid : AreValid (opening_as p.opening)) (known : HasFunctions (opening_as p.opening)) (happened : IsRun p)
    (opened : (now p).opening ≡ opening_as p.opening) (short : length p.history ≤ p.limit) (obeys : IsObeying p) (calm : HasNoMishap p.opening.plan) where
  abbrev o : model.Opening
  o = opening_as p.opening

  -- no event was a mishap
  stays : StaysCalm flags (codes_of p.opening) (opened_world p.opening) p.history
  stays = every_obeying_numbered_run_is_calm p.opening.plan calm o (codes_of p.opening) (flat_sites o) (sizes o) (stands o valid) p.history (now p) happened obeys

  laws : IsCalmlySound o (codes_of p.opening) (flat_sites o) p.history (now p)
  laws = every_calm_numbered_run_is_sound o (codes_of p.opening) (flat_sites o) (sizes o) (stands o valid) p.history (now p) happened stays

  alone : (call : Functions) → AnswerSteadily p.opening call → CostsAlone p call
  alone call s =
      let b : StaysWithin (codes_of p.opening) (now p) p.history call = laws.stays_within known s.all call s.answers in
      let events_are : total_alone cost call 0 (now p).opening.sessions ≡ events_alone p.opening call = ap (λ (z : model.Opening). total_alone cost call 0 z.sessions) opened in
      let marks_are : total_alone marks call 0 (now p).opening.sessions ≡ marks_alone p.opening call = ap (λ (z : model.Opening). total_alone marks call 0 z.sessions) opened in
      let at_most : length p.history ≤ events_alone p.opening call = subst (λ n. length p.history ≤ n) events_are b.events_within in
      let room : IsEnabledSome p → length p.history < events_alone p.opening call = λ e. subst (λ n. length p.history < n) events_are (b.room e.0 e.1) in
      record {
        events = at_most;
        marks = subst (λ n. (now p).marks ≤ n) marks_are b.marks_within;
        room = room;
        exact = λ d. laws.exact_alone d s.all call s.answers;
        spent = λ e f. let l : length p.history < events_alone p.opening call = room e in let k : p.limit ≤ length p.history = f in omega arith;
        drained = λ d. let e : length p.history ≡ events_alone p.opening call = (laws.exact_alone d s.all call s.answers).0 in omega (arith, e, short);
      }

  pub has_its_cost : HasItsCost p
  has_its_cost = record {
    laws = laws;
    within = laws.within known;
    exact = laws.exact;
    spent = λ f. let l : length p.history ≤ events_so_far p = (laws.within known).0 in let k : p.limit ≤ length p.history = f in omega arith;
    alone = alone;
  }
