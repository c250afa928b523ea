-- What is told of a run that was made from nothing.
use Rattle.std.proofs.Common.{◌≡◌, ℕ, ◌≤◌, List, [], ◌∷◌, ◌++◌, map, length, Ok, Err, refl, sym, ap, ap₂, ◌∙◌, subst, inl, inr, arith}
use Rattle.asl_model.specs.Data.{Json}
use Rattle.asl_model.specs.Names.{Scope, Answers}
use Rattle.asl_model.specs.Machine.{Block}
use Rattle.asl_model.specs.Step.{standard}
use Rattle.asl_model.specs.Central as c
use Rattle.asl_model.specs.Laws.{In, IsSound}
use Rattle.asl_model.proofs.StandsLaw.{stands_lem}
use Rattle.asl_model.proofs.Ones.{standard_one}
use Rattle.central_model.specs.declared.run.Visit.{Visit}
use Rattle.central_model.specs.declared.run.End.{End}
use Rattle.central_model.specs.declared.run.Run.{Run}
use Rattle.central_model.specs.declared.trouble.CentralError.{CentralError}
use Rattle.central_model.specs.declared.trouble.CentralError.TheVariants as error
use Rattle.central_model.specs.declared.source.Source.{Source}
use Rattle.central_model.specs.declared.walk.Walk.{Walk}
use Rattle.central_model.specs.Asking.{asking_of, by_answers, ticket_after, IsAnswered, AreAnswered}
use Rattle.central_model.specs.Told.{told, told_end}
use Rattle.central_model.specs.Walked.{IsFit, Adds, Runs, Tells}
use Rattle.central_model.proofs.Steps.{length_added}

-- a walk that has made nothing
pub record IsNew (w : Walk) (source : Source) (limit : ℕ) : Type 0 where
  pub source_is : w.source ≡ source
  pub limit_is : w.limit ≡ limit
  pub visits : w.visits.items ≡ []
  pub count : w.count ≡ 0

pub answered_new : (w : Walk) (source : Source) (limit : ℕ) (vs : List c.Visit) → IsNew w source limit → AreAnswered (asking_of source) 0 vs → AreAnswered (asking_of w.source) w.count vs
answered_new w source limit vs n h = subst (λ k. AreAnswered (asking_of w.source) k vs) (sym n.count) (subst (λ s. AreAnswered (asking_of s) 0 vs) (sym n.source_is) h)

module _ (w new : Walk) (source : Source) (limit : ℕ) (n : IsNew w source limit) (r : c.Run) where
  pub tells_ok : (visits : List Visit) (e : End) → IsFit new → new.limit ≡ w.limit → Adds w new r.visits × (e ≡ told_end r.end) → visits ≡ new.visits.items → Tells limit (Ok (record { visits = visits; end = e })) r
  tells_ok visits e fit same (adds, ends) is =
      let all : visits ≡ map told r.visits = is ∙ adds.visits ∙ ap (λ l. l ++ map told r.visits) n.visits in
      let few : length r.visits ≤ limit = omega (arith, fit.within, same, n.limit_is, length_added w new r.visits adds) in
      (ap₂ (λ (vs : List Visit) (z : End). let t : Run = record { visits = vs; end = z } in t) all ends, few)

  pub tells_failed : (e : CentralError) → Runs w (Err e) new r → Tells limit (Err e) r
  tells_failed error.TooLong m = omega (arith, m, n.limit_is, ap length n.visits)
  tells_failed error.NoMemory m = tt

-- ---- each Task of a central run has the answer at its place

sound_answer : (A : Answers) (n : ℕ) (v : c.Visit) (z : c.Visited) → IsSound standard A v z → IsAnswered (by_answers A) n v z
sound_answer A n v c.Entered h = tt
sound_answer A n v (c.Called name resource) h = h.answer
sound_answer A n v (c.Joined name) h = tt

sound_answers : (A : Answers) (vs : List c.Visit) (n : ℕ) → ((v : c.Visit) → In v vs → IsSound standard A v v.visited) → AreAnswered (by_answers A) n vs
sound_answers A [] n h = tt
sound_answers A (v ∷ vs) n h = (sound_answer A n v v.visited (h v (inl refl)), sound_answers A vs (ticket_after n v.visited) (λ w i. h w (inr i)))

pub given_answers : (A : Answers) (b : Block) (s : Scope) (x : Json) → AreAnswered (by_answers A) 0 (c.scope standard A b s x).visits
given_answers A b s x = sound_answers A (c.scope standard A b s x).visits 0 (λ v i. (stands_lem standard standard_one A b s x v i).sound)
