-- What turns keep: the start, the log but for one code at its end, and that the plan was obeyed.
use Rattle.std.proofs.Common.{ℕ, ◌≤◌, ◌≡◌, ◌⊎◌, inl, inr, refl, sym, ap, ◌∙◌, subst, arith, Bool, true, false, cond, List, [], ◌∷◌, ◌++◌, map, length, Option, Some, None}
use Rattle.std.specs.List.{find}
use Rattle.std.proofs.lemmas.List.{length-map, append-nil}
use Rattle.fn_table.specs.Answers.{Asked}
use Rattle.world_types.specs.declared.queue.Event.{Event}
use Rattle.world_types.specs.declared.queue.Event.TheVariants.{Deliver, Crash, Step, Answer, GiveUp}
use Rattle.invoke_queue.specs.Codes.{event_code}
use Rattle.seat_lock.specs.Logs.{Follows}
use Rattle.worker_gate.specs.declared.pick.Pick.{Pick}
use Rattle.worker_gate.specs.declared.pick.Pick.TheVariants.{Mine, Free, Call, Idle, Spent, NoMemory}
use Rattle.worker_gate.specs.Picks.{OnIdle, OnSpent, IsHanded}
use Rattle.unum_world.specs.declared.engine.Start.{Start}
use Rattle.unum_world.specs.Openings.{codes_of}
use Rattle.unum_world.specs.Calls.{awaited_call}
use Rattle.unum_world.specs.Traces.{Trace, now, after_event, IsFull, IsObeying}
use Rattle.unum_world.specs.Turns.{is_for, own_attempt, allowed, due_event, is_living, told_after, Makes, AsksFor, AsksOrMakes, TurnWith, Picks, IsIdle, Hands, start_of, log_of, IsTraceOf, OnTrace, OnTraces}
use Rattle.unum_world.proofs.Dues.{not_found}

-- ---------------------------------------------------------------- one event at most

-- the trace is as it was, or has one event more
abbrev pub Goes : Trace → Trace → Type 0
Goes p q = (q ≡ p) ⊎ ((e : Event) × (q ≡ after_event p e))

makes_goes : (p : Trace) (e : Event) (answer : Pick) (q : Trace) → Makes p e answer q → Goes p q
makes_goes p e (Mine a) q h = inr (e, h.2)
makes_goes p e Free q h = inr (e, h.2)
makes_goes p e (Call kind input ticket) q h = inr (e, h.2)
makes_goes p e Idle q h = inr (e, h.2)
makes_goes p e Spent q h = inl h.1
makes_goes p e NoMemory q h = inl h.2

asks_goes : (p : Trace) (c : Asked) (answer : Pick) (q : Trace) → AsksFor p c answer q → Goes p q
asks_goes p c (Call kind input ticket) q h = inl h.1
asks_goes p c NoMemory q h = absurd h
asks_goes p c (Mine a) q h = absurd h
asks_goes p c Free q h = absurd h
asks_goes p c Idle q h = absurd h
asks_goes p c Spent q h = absurd h

either_goes : (p : Trace) (a : ℕ) (c : Option Asked) (answer : Pick) (q : Trace) → AsksOrMakes p a c answer q → Goes p q
either_goes p a c NoMemory q h = inl h
either_goes p a (Some c) (Mine b) q h = asks_goes p c (Mine b) q h
either_goes p a (Some c) Free q h = asks_goes p c Free q h
either_goes p a (Some c) (Call kind input ticket) q h = asks_goes p c (Call kind input ticket) q h
either_goes p a (Some c) Idle q h = asks_goes p c Idle q h
either_goes p a (Some c) Spent q h = asks_goes p c Spent q h
either_goes p a None (Mine b) q h = makes_goes p (Answer a) (Mine b) q h
either_goes p a None Free q h = makes_goes p (Answer a) Free q h
either_goes p a None (Call kind input ticket) q h = makes_goes p (Answer a) (Call kind input ticket) q h
either_goes p a None Idle q h = makes_goes p (Answer a) Idle q h
either_goes p a None Spent q h = makes_goes p (Answer a) Spent q h

-- where there is no call to ask for, what is made is the Answer
pub made_instead : (p : Trace) (a : ℕ) (answer : Pick) (q : Trace) → Makes p (Answer a) answer q → AsksOrMakes p a None answer q
made_instead p a NoMemory q h = h.2
made_instead p a (Mine b) q h = h
made_instead p a Free q h = h
made_instead p a (Call kind input ticket) q h = h
made_instead p a Idle q h = h
made_instead p a Spent q h = h

turn_goes : (p : Trace) (mine : Option ℕ) (e : Option Event) (answer : Pick) (q : Trace) → TurnWith p mine e answer q → Goes p q
turn_goes p mine None answer q h = inl h.1
turn_goes p mine (Some (Deliver i)) answer q h = makes_goes p (Deliver i) answer q h
turn_goes p mine (Some (Crash a)) answer q h = makes_goes p (Crash a) answer q h
turn_goes p mine (Some (Step a)) answer q h = makes_goes p (Step a) answer q h
turn_goes p mine (Some (Answer a)) answer q h = either_goes p a (awaited_call (codes_of p.opening) (now p) a) answer q h
turn_goes p mine (Some (GiveUp i)) answer q h = makes_goes p (GiveUp i) answer q h

pub picks_goes : (p : Trace) (mine : Option ℕ) (answer : Pick) (q : Trace) → Picks p mine answer q → Goes p q
picks_goes p mine answer q h = turn_goes p mine (due_event p mine) answer q h

pub hands_goes : (p : Trace) (c : Asked) (answer : Pick) (q : Trace) → Hands p c answer q → Goes p q
hands_goes p c (Mine a) q h = inr (Answer c.ticket, h.3)
hands_goes p c Free q h = inl h.1
hands_goes p c Spent q h = inl h.2
hands_goes p c NoMemory q h = inl h.1
hands_goes p c Idle q h = absurd h
hands_goes p c (Call kind input ticket) q h = absurd h

-- ---------------------------------------------------------------- the start and the log

pub same_start : (p q : Trace) → Goes p q → start_of q ≡ start_of p
same_start p q (inl e) = ap start_of e
same_start p q (inr (e, h)) = ap start_of h

-- the codes of a list with one event more
code_more : (es : List Event) (e : Event) → map event_code (es ++ e ∷ []) ≡ map event_code es ++ event_code e ∷ []
code_more [] e = refl
code_more (x ∷ es) e = ap (λ ns. event_code x ∷ ns) (code_more es e)

pub follows : (p q : Trace) → Goes p q → Follows (log_of p) (log_of q)
follows p q (inl e) = ([], omega arith, ap log_of e ∙ sym (append-nil (log_of p)))
follows p q (inr (e, h)) = (event_code e ∷ [], omega arith, ap log_of h ∙ code_more p.history e)

pub same_log : (p q : Trace) → q ≡ p → log_of q ≡ log_of p
same_log p q e = ap log_of e

-- a full history is a full log
pub full_log : (p : Trace) → IsFull p → (start_of p).limit ≤ length (log_of p)
full_log p h = let k : length (log_of p) ≡ length p.history = length-map p.history event_code in subst (λ n. p.limit ≤ n) (sym k) h

pub of_log : (p : Trace) (s : Start) → start_of p ≡ s → IsObeying p → IsTraceOf s (log_of p) p
of_log p s e o = record { start_is = e; log_is = refl; obeying = o }

-- what relates two traces relates their logs
pub on_traces : (R : Trace → Trace → Type 0) (p q : Trace) → Goes p q → IsObeying p → IsObeying q → R p q → OnTraces (start_of p) (log_of p) (log_of q) R
on_traces R p q g o u r = (p, of_log p (start_of p) refl o, (q, of_log q (start_of p) (same_start p q g) u, r))

-- ---------------------------------------------------------------- what answers say

not_idle : (p : Trace) (e : Event) → told_after p e ≡ Idle → ⊥
not_idle p (Deliver i) h = cc
not_idle p (Crash a) h = cc
not_idle p (Answer a) h = cc
not_idle p (GiveUp i) h = cc
not_idle p (Step a) h = by (is_living (after_event p (Step a)) a) h
  where
    by : (b : Bool) → cond b (Mine a) Free ≡ Idle → ⊥
    by true e = cc
    by false e = cc

-- an idle worker has no attempt, and nothing is for it to make
idle_with : (p : Trace) (mine : Option ℕ) (e : Option Event) (q : Trace) → TurnWith p mine e Idle q → (e ≡ None) × (own_attempt (now p) mine ≡ None) × (q ≡ p)
idle_with p mine None q h = (refl, h.2, h.1)
idle_with p mine (Some (Deliver i)) q h = absurd (not_idle p (Deliver i) (sym h.1))
idle_with p mine (Some (Crash a)) q h = absurd (not_idle p (Crash a) (sym h.1))
idle_with p mine (Some (Step a)) q h = absurd (not_idle p (Step a) (sym h.1))
idle_with p mine (Some (GiveUp i)) q h = absurd (not_idle p (GiveUp i) (sym h.1))
idle_with p mine (Some (Answer a)) q h = by (awaited_call (codes_of p.opening) (now p) a) h
  where
    by : (c : Option Asked) → AsksOrMakes p a c Idle q → (Some (Answer a) ≡ None) × (own_attempt (now p) mine ≡ None) × (q ≡ p)
    by (Some c) k = absurd k
    by None k = absurd (not_idle p (Answer a) (sym k.1))

spent_with : (p : Trace) (mine : Option ℕ) (e : Option Event) (q : Trace) → TurnWith p mine e Spent q → IsFull p × (q ≡ p)
spent_with p mine None q h = absurd (let z : Spent ≡ Idle = h.0 in cc)
spent_with p mine (Some (Deliver i)) q h = h
spent_with p mine (Some (Crash a)) q h = h
spent_with p mine (Some (Step a)) q h = h
spent_with p mine (Some (GiveUp i)) q h = h
spent_with p mine (Some (Answer a)) q h = by (awaited_call (codes_of p.opening) (now p) a) h
  where
    by : (c : Option Asked) → AsksOrMakes p a c Spent q → IsFull p × (q ≡ p)
    by (Some c) k = absurd k
    by None k = k

idle_of : (p : Trace) (mine : Option ℕ) → due_event p mine ≡ None → own_attempt (now p) mine ≡ None → IsIdle p
idle_of p mine e o = λ x i. not_found _ (allowed p) (ap (λ z. find (is_for z) (allowed p)) (sym o) ∙ e) x i

pub on_idle : (p : Trace) (mine : Option ℕ) (answer : Pick) (q : Trace) → IsObeying p → Picks p mine answer q →
    OnIdle answer (OnTrace (start_of p) (log_of p) IsIdle × (log_of q ≡ log_of p))
on_idle p mine Idle q o h =
    let (e, own, same) = idle_with p mine (due_event p mine) q h in
    ((p, of_log p (start_of p) refl o, idle_of p mine e own), same_log p q same)
on_idle p mine (Mine a) q o h = tt
on_idle p mine Free q o h = tt
on_idle p mine (Call kind input ticket) q o h = tt
on_idle p mine Spent q o h = tt
on_idle p mine NoMemory q o h = tt

pub on_spent : (p : Trace) (mine : Option ℕ) (answer : Pick) (q : Trace) → Picks p mine answer q →
    OnSpent answer (((start_of p).limit ≤ length (log_of p)) × (log_of q ≡ log_of p))
on_spent p mine Spent q h = let (f, same) = spent_with p mine (due_event p mine) q h in (full_log p f, same_log p q same)
on_spent p mine (Mine a) q h = tt
on_spent p mine Free q h = tt
on_spent p mine (Call kind input ticket) q h = tt
on_spent p mine Idle q h = tt
on_spent p mine NoMemory q h = tt

pub hand_spent : (p : Trace) (c : Asked) (answer : Pick) (q : Trace) → Hands p c answer q →
    OnSpent answer (((start_of p).limit ≤ length (log_of p)) × (log_of q ≡ log_of p))
hand_spent p c Spent q h = (full_log p h.1, same_log p q h.2)
hand_spent p c (Mine a) q h = tt
hand_spent p c Free q h = tt
hand_spent p c (Call kind input ticket) q h = absurd h
hand_spent p c Idle q h = absurd h
hand_spent p c NoMemory q h = tt

pub hand_kind : (p : Trace) (c : Asked) (answer : Pick) (q : Trace) → Hands p c answer q → IsHanded answer
hand_kind p c (Mine a) q h = tt
hand_kind p c Free q h = tt
hand_kind p c Spent q h = tt
hand_kind p c NoMemory q h = tt
hand_kind p c Idle q h = h
hand_kind p c (Call kind input ticket) q h = h
