-- Visits that are added one after another.
use Rattle.std.proofs.Common.{◌≡◌, ℕ, zero, suc, ◌+◌, List, [], ◌∷◌, ◌++◌, map, length, Result, Ok, Err, refl, sym, ap, ◌∙◌, subst, arith, append_assoc, append-nil, length-append, insert}
use Rattle.std.proofs.lemmas.List.{length-map, map-append}
use Rattle.asl_model.specs.Central as c
use Rattle.central_model.specs.declared.run.Visit.{Visit}
use Rattle.central_model.specs.declared.trouble.CentralError.{CentralError}
use Rattle.central_model.specs.declared.trouble.CentralError.TheVariants as error
use Rattle.central_model.specs.declared.walk.Walk.{Walk}
use Rattle.central_model.specs.Asking.{Asking, ticket_after, tickets, AreAnswered}
use Rattle.central_model.specs.Told.{told}
use Rattle.central_model.specs.Walked.{Keeps, Adds, Made, Puts}

pub tickets_append : (n : ℕ) (vs ws : List c.Visit) → tickets n (vs ++ ws) ≡ tickets (tickets n vs) ws
tickets_append n [] ws = refl
tickets_append n (v ∷ vs) ws = tickets_append (ticket_after n v.visited) vs ws

pub answered_parts : (ask : Asking) (n : ℕ) (vs ws : List c.Visit) → AreAnswered ask n (vs ++ ws) → AreAnswered ask n vs × AreAnswered ask (tickets n vs) ws
answered_parts ask n [] ws h = (tt, h)
answered_parts ask n (v ∷ vs) ws h = let (a, b) = answered_parts ask (ticket_after n v.visited) vs ws h.1 in ((h.0, a), b)

pub answered_both : (ask : Asking) (n : ℕ) (vs ws : List c.Visit) → AreAnswered ask n vs → AreAnswered ask (tickets n vs) ws → AreAnswered ask n (vs ++ ws)
answered_both ask n [] ws h k = k
answered_both ask n (v ∷ vs) ws h k = (h.0, answered_both ask (ticket_after n v.visited) vs ws h.1 k)

-- a put behind the last one, and before those that were added
pub put_last : (xs : List Visit) (x : Visit) (at : ℕ) → at ≡ length xs → insert xs at x ≡ xs ++ x ∷ []
put_last [] x at e = subst (λ n. insert [] n x ≡ x ∷ []) (sym e) refl
put_last (y ∷ ys) x zero e = absurd (omega arith)
put_last (y ∷ ys) x (suc at) e = ap (λ l. y ∷ l) (put_last ys x at (omega arith))

pub put_before : (xs ys : List Visit) (x : Visit) (at : ℕ) → at ≡ length xs → insert (xs ++ ys) at x ≡ xs ++ x ∷ ys
put_before [] ys x at e = subst (λ n. insert ys n x ≡ x ∷ ys) (sym e) refl
put_before (y ∷ xs) ys x zero e = absurd (omega arith)
put_before (y ∷ xs) ys x (suc at) e = ap (λ l. y ∷ l) (put_before xs ys x at (omega arith))

pub keeps_on : (old mid new : Walk) → Keeps old mid → Keeps mid new → Keeps old new
keeps_on old mid new a b = record { fit = b.fit; source = b.source ∙ a.source; limit = b.limit ∙ a.limit; grown = omega (arith, a.grown, b.grown) }

pub adds_none : (w : Walk) → Adds w w []
adds_none w = record { visits = sym (append-nil w.visits.items); count = refl }

pub adds_more : (old mid new : Walk) (vs ws : List c.Visit) → Adds old mid vs → Adds mid new ws → Adds old new (vs ++ ws)
adds_more old mid new vs ws a b = record {
  visits = b.visits ∙ ap (λ l. l ++ map told ws) a.visits ∙ append_assoc old.visits.items (map told vs) (map told ws) ∙ ap (λ l. old.visits.items ++ l) (sym (map-append told vs ws));
  count = b.count ∙ ap (λ n. tickets n ws) a.count ∙ sym (tickets_append old.count vs ws);
}

pub length_added : (old new : Walk) (vs : List c.Visit) → Adds old new vs → length new.visits.items ≡ length old.visits.items + length vs
length_added old new vs a = ap length a.visits ∙ length-append old.visits.items (map told vs) ∙ ap (λ n. length old.visits.items + n) (length-map vs told)

-- what is made after other visits were added
pub made_after : {X : Type 0} (old mid new : Walk) (r : Result X CentralError) (vs ws : List c.Visit) (Is : X → Type 0) → Adds old mid vs → mid.limit ≡ old.limit → Made mid r new ws Is → Made old r new (vs ++ ws) Is
made_after old mid new (Ok x) vs ws Is a l m = (adds_more old mid new vs ws a m.0, m.1)
made_after old mid new (Err error.TooLong) vs ws Is a l m = omega (arith, m, l, length_added old mid vs a, length-append vs ws)
made_after old mid new (Err error.NoMemory) vs ws Is a l m = tt

-- what is too long stays so with more visits
pub failed_before : {X Y : Type 0} (old new more : Walk) (e : CentralError) (vs ws : List c.Visit) (Is : X → Type 0) (Are : Y → Type 0) → Made old (Err e) new vs Is → Made old (Err e) more (vs ++ ws) Are
failed_before old new more error.TooLong vs ws Is Are m = omega (arith, m, length-append vs ws)
failed_before old new more error.NoMemory vs ws Is Are m = tt

-- a visit that is put behind the last one
pub one_made : {X : Type 0} (old new : Walk) (r : Result X CentralError) (at : ℕ) (v : c.Visit) (w : Visit) → ticket_after old.count v.visited ≡ old.count → at ≡ length old.visits.items → w ≡ told v → Puts old r new at w → Made old r new (v ∷ []) (λ u. Unit {0})
one_made old new (Ok x) at v w n e is p =
    (record { visits = p.0 ∙ put_last old.visits.items w at e ∙ ap (λ z. old.visits.items ++ z ∷ []) is; count = p.1 ∙ sym n }, tt)
one_made old new (Err error.TooLong) at v w n e is p = omega (arith, p)
one_made old new (Err error.NoMemory) at v w n e is p = tt
