-- A node of a flat form goes on to its labels, calls its function, or fans out to few branches.
use Rattle.std.proofs.Common.{◌≡◌, ℕ, ◌≤◌, inl, inr, Bool, true, false, if◌then◌else◌, List, [], ◌∷◌, ◌++◌, Option, Some, None, Result, Ok, Err, map, length, refl, sym, subst}
use Rattle.asl_model.specs.Data.{Text, Json, Outcome, Done, Failed, Shape, prepared, handed_on, output, chosen, parallel_inputs, map_inputs, match_error, put_error, item_limit}
use Rattle.asl_model.specs.Head.{Head, HTask, HPass, HChoice, HSucceed, HFail, HParallel, HMap, CareOf, CatcherOf, Used, OnwardOf, Goes, Ends, BegunOf, On, Calls, Fans, begins, finishes, or_fails, or_caught, or_none, picked, leaves, leaves_or_caught, result_or, caught, retried, again_or, settled}
use Rattle.asl_model.specs.Laws.{In}
use Rattle.asl_model.specs.Valid.{labels, one_or_none, catch_labels}
use Rattle.asl_model.proofs.Lists.{In-left, In-right}
use Rattle.asl_model.proofs.NameLaw.{few_inputs}
use Rattle.asl_model.proofs.WaysLaw.{parallel_count}
use Rattle.continuation_gen.proofs.Lists.{get_in}

thousand : item_limit ≡ 1000
unfolding item_limit
thousand = refl

-- labels fit, functions that are called fit, and inputs of fans fit
module _ (P C : ℕ → Type 0) (F : List Json → Type 0) where
  abbrev pub Onward : OnwardOf ℕ → Type 0
  Onward (Goes next v again) = P next
  Onward (Ends o) = Unit {0}

  abbrev pub Begun : BegunOf ℕ ℕ → Type 0
  Begun (On o) = Onward o
  Begun (Calls f x) = C f
  Begun (Fans inputs) = F inputs

  abbrev AllFit : List ℕ → Type 0
  AllFit ls = (l : ℕ) → In l ls → P l

  fails_in : {X : Type 0} (name : Text) (m : Result X Text) (go : X → OnwardOf ℕ) → ((x : X) → Onward (go x)) → Onward (or_fails name m go)
  fails_in name (Ok x) go k = k x
  fails_in name (Err e) go k = tt

  leaves_in : (after : Option ℕ) (v : Json) → AllFit (one_or_none after) → Onward (leaves after v)
  leaves_in None v k = tt
  leaves_in (Some next) v k = k next (inl refl)

  caught_in : (name : Text) (raw : Json) (error cause : Text) (answered : Bool) (cs : List (CatcherOf ℕ)) → AllFit (map (λ (c : CatcherOf ℕ). c.next) cs) → Onward (caught name raw error cause answered cs)
  caught_in name raw error cause answered [] k = tt
  caught_in name raw error cause answered (c ∷ cs) k = by (match_error c.errors error answered) (caught_in name raw error cause answered cs (λ l i. k l (inr i)))
    where
      by : (b : Bool) → Onward (caught name raw error cause answered cs) → Onward (if b then or_fails name (put_error c.result raw error cause) (λ v. Goes c.next v None) else caught name raw error cause answered cs)
      by true h = fails_in name (put_error c.result raw error cause) (λ v. Goes c.next v None) (λ v. k c.next (inl refl))
      by false h = h

  or_caught_in : {X : Type 0} (name : Text) (raw : Json) (care : CareOf ℕ) (m : Result X Text) (go : X → BegunOf ℕ ℕ) → AllFit (catch_labels care) → ((x : X) → m ≡ Ok x → Begun (go x)) → Begun (or_caught name raw care m go)
  or_caught_in name raw care (Ok x) go k f = f x refl
  or_caught_in name raw care (Err e) go k f = caught_in name raw e name false care.catch k

  picked_in : (nexts : List ℕ) (default : Option ℕ) (i : Option ℕ) (l : ℕ) → picked nexts default i ≡ Some l → In l (nexts ++ one_or_none default)
  picked_in nexts None None l e = absurd (cc)
  picked_in nexts (Some d) None l e = In-right nexts (d ∷ []) l (inl (cc))
  picked_in nexts default (Some i) l e = In-left nexts (one_or_none default) l (get_in nexts i l e)

  or_none_in : (name : Text) (m : Option ℕ) (go : ℕ → OnwardOf ℕ) → ((l : ℕ) → m ≡ Some l → Onward (go l)) → Onward (or_none name m go)
  or_none_in name None go k = tt
  or_none_in name (Some l) go k = k l refl

  of_care : (after : Option ℕ) (care : CareOf ℕ) → AllFit (one_or_none after ++ catch_labels care) → AllFit (catch_labels care)
  of_care after care k l i = k l (In-right (one_or_none after) (catch_labels care) l i)

  of_after : (after : Option ℕ) (care : CareOf ℕ) → AllFit (one_or_none after ++ catch_labels care) → AllFit (one_or_none after)
  of_after after care k l i = k l (In-left (one_or_none after) (catch_labels care) l i)

  -- what a head may call, and how it may fan out
  abbrev pub MayBegin : Head ℕ ℕ → Type 0
  MayBegin (HTask shape r after care) = C r
  MayBegin (HParallel shape n after care) = (inputs : List Json) → length inputs ≡ n → F inputs
  MayBegin (HMap shape items selector after care) = (inputs : List Json) → length inputs ≤ 1000 → F inputs
  MayBegin _ = Unit {0}

  pub begins_in : (name : Text) (h : Head ℕ ℕ) (raw : Json) → AllFit (labels h) → MayBegin h → Begun (begins name h raw)
  begins_in name (HTask shape r after care) raw k m = or_caught_in name raw care (prepared shape raw) (λ x. Calls r x) (of_care after care k) (λ x e. m)
  begins_in name (HPass shape result after) raw k m =
      fails_in name (prepared shape raw) (λ x. or_fails name (handed_on shape raw (result_or result x)) (λ v. leaves after v))
      (λ x. fails_in name (handed_on shape raw (result_or result x)) (λ v. leaves after v) (λ v. leaves_in after v k))
  begins_in name (HChoice shape rules nexts default) raw k m =
      fails_in name (prepared shape raw) (λ x. or_fails name (chosen rules x) (λ i. or_none name (picked nexts default i) (λ next. or_fails name (output shape x) (λ v. Goes next v None))))
      (λ x. fails_in name (chosen rules x) (λ i. or_none name (picked nexts default i) (λ next. or_fails name (output shape x) (λ v. Goes next v None)))
      (λ i. or_none_in name (picked nexts default i) (λ next. or_fails name (output shape x) (λ v. Goes next v None))
      (λ l e. fails_in name (output shape x) (λ v. Goes l v None) (λ v. k l (picked_in nexts default i l e)))))
  begins_in name (HSucceed shape) raw k m =
      fails_in name (prepared shape raw) (λ x. or_fails name (output shape x) (λ v. Ends (Done v))) (λ x. fails_in name (output shape x) (λ v. Ends (Done v)) (λ v. tt))
  begins_in name (HFail error cause) raw k m = tt
  begins_in name (HParallel shape n after care) raw k m =
      or_caught_in name raw care (prepared shape raw) (λ x. or_caught name raw care (parallel_inputs n x) (λ inputs. Fans inputs)) (of_care after care k)
      (λ x e. or_caught_in name raw care (parallel_inputs n x) (λ inputs. Fans inputs) (of_care after care k) (λ inputs f. m inputs (sym (parallel_count n x inputs f))))
  begins_in name (HMap shape items selector after care) raw k m =
      or_caught_in name raw care (prepared shape raw) (λ x. or_caught name raw care (map_inputs items selector x) (λ inputs. Fans inputs)) (of_care after care k)
      (λ x e. or_caught_in name raw care (map_inputs items selector x) (λ inputs. Fans inputs) (of_care after care k)
      (λ inputs f. m inputs (subst (λ z. length inputs ≤ z) thousand (few_inputs items selector x inputs f))))

  again_in : (label : ℕ) (raw : Json) (u : Option Used) (o : OnwardOf ℕ) → P label → Onward o → Onward (again_or label raw u o)
  again_in label raw None o p h = h
  again_in label raw (Some us) o p h = p

  handed_in : (name : Text) (raw : Json) (after : Option ℕ) (care : CareOf ℕ) (m : Result Json Text) → AllFit (one_or_none after ++ catch_labels care) → Onward (leaves_or_caught name raw after care m)
  handed_in name raw after care (Ok v) k = leaves_in after v (of_after after care k)
  handed_in name raw after care (Err e) k = caught_in name raw e name false care.catch (of_care after care k)

  settled_in : (name : Text) (label : ℕ) (shape : Shape) (after : Option ℕ) (care : CareOf ℕ) (answered : Bool) (raw : Json) (used : Used) (o : Outcome) → P label → AllFit (one_or_none after ++ catch_labels care) →
      Onward (settled name label shape after care answered raw used o)
  settled_in name label shape after care answered raw used (Done r) p k = handed_in name raw after care (handed_on shape raw r) k
  settled_in name label shape after care answered raw used (Failed f) p k =
      again_in label raw (retried f.error answered care.retry used) (caught name raw f.error f.cause answered care.catch) p
      (caught_in name raw f.error f.cause answered care.catch (of_care after care k))

  pub finishes_in : (name : Text) (label : ℕ) (h : Head ℕ ℕ) (raw : Json) (used : Used) (o : Outcome) → P label → AllFit (labels h) → Onward (finishes name label h raw used o)
  finishes_in name label (HTask shape r after care) raw used o p k = settled_in name label shape after care true raw used o p k
  finishes_in name label (HPass shape result after) raw used o p k = tt
  finishes_in name label (HChoice shape rules nexts default) raw used o p k = tt
  finishes_in name label (HSucceed shape) raw used o p k = tt
  finishes_in name label (HFail error cause) raw used o p k = tt
  finishes_in name label (HParallel shape n after care) raw used o p k = settled_in name label shape after care false raw used o p k
  finishes_in name label (HMap shape items selector after care) raw used o p k = settled_in name label shape after care false raw used o p k
