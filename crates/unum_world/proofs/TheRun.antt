-- What a world stands for: the run of its past is what the laws speak of.
use Rattle.std.proofs.Common.{ℕ, ◌+◌, ◌<◌, ◌≤◌, ◌≡◌, sym, ap, ◌∙◌, subst, arith, true, List, [], ◌∷◌, ◌++◌, length, slice_get, Some, None, option_map}
use Rattle.std.proofs.lemmas.List.{length-map, length_push}
use Rattle.std.proofs.lemmas.Option.{slice_get-map}
use Rattle.place_name.specs.declared.limits.TheConstants.{SESSIONS}
use Rattle.world_types.specs.declared.queue.Event.{Event}
use Rattle.world_model.specs.AnyCode.Code.{flags}
use Rattle.world_model.specs.AnyCode.Queue.{QueueIsRight}
use Rattle.world_model.specs.AnyCode.World.{enabled, effect}
use Rattle.world_model.specs.Numbered.{Numbered, first_number, IsSoundWorld}
use Rattle.world_model.specs.Flat.{flat_sites}
use Rattle.world_model.proofs.Queues.{queue_is_right}
use Rattle.world_plans.specs.Three.{IsRunning}
use Rattle.world_plans.specs.Sessions.{standing, standing_at, session_of}
use Rattle.world_plans.proofs.Runs.{every_numbered_world_runs}
use Rattle.continuation_gen.specs.Laws.{AreValid}
use Rattle.continuation_gen.proofs.Running.{every_ir_run_is_sound, sizes, stands}
use Rattle.world_ranges.proofs.Running.{every_ir_run_is_in_range}
use Rattle.fn_wrapper.proofs.Given.{every_attempt_is_ready}
use Rattle.fn_wrapper.proofs.Inputs.{every_branch_has_input}
use Rattle.unum_world.specs.declared.opening.Session.{Session}
use Rattle.unum_world.specs.declared.opening.Opening.{Opening}
use Rattle.unum_world.specs.declared.session.SessionState.{SessionState}
use Rattle.unum_world.specs.declared.world_state.WorldState.{WorldState}
use Rattle.unum_world.specs.Openings.{opening_as, codes_of, session_as, Fits}
use Rattle.unum_world.specs.Traces.{Trace, IsRun, now, run_of, world_or, opened_world, world_of, is_enabled}
use Rattle.unum_world.specs.Kept.{Keeps, Stands, Holds}
use Rattle.unum_world.specs.Answers.{IsOne, IsStanding}
use Rattle.unum_world.specs.Sound.{IsSound}
use Rattle.unum_world.proofs.Bounds.{run_bounded}
use Rattle.unum_world.proofs.Costs.{has_its_cost}
use Rattle.unum_world.proofs.Runs.{run_step}

pub now_is : (p : Trace) (w : Numbered) → run_of p.opening p.history ≡ Some w → now p ≡ w
now_is p w r = ap (world_or p.opening) r

pub is_run : (p : Trace) (w : Numbered) → run_of p.opening p.history ≡ Some w → IsRun p
is_run p w r = r ∙ ap Some (sym (now_is p w r))

-- as many sessions as the opening has
pub sessions_as : (o : Opening) → length (opening_as o).sessions ≡ length o.sessions
sessions_as o = length-map o.sessions (session_as o.machines)

pub few_sessions : (o : Opening) → Fits o → length (opening_as o).sessions ≤ SESSIONS
few_sessions o f = subst (λ n. n ≤ SESSIONS) (sym (sessions_as o)) f.sessions

-- each attempt that lives goes on, in every run
pub runs_on : (o : Opening) (h : List Event) (w : Numbered) → AreValid (opening_as o) → run_of o h ≡ Some w → IsRunning (codes_of o) w
runs_on o h w v r =
    every_numbered_world_runs (opening_as o) (codes_of o) (flat_sites (opening_as o)) (sizes (opening_as o)) (stands (opening_as o) v) h w r

-- what a world keeps gives what its events take as given
pub holds_of : (o : Opening) (most : ℕ) (h : List Event) (room : ℕ) (m : WorldState) → Stands o most h room m → Holds o m
holds_of o most h room m s =
    let few = few_sessions o s.fits in
    let w = world_of o m in
    let k : length (opening_as o).sessions ≡ length o.sessions = sessions_as o in
    let a : length o.sessions ≤ 1000 = s.fits.sessions in
    let b : most ≤ 10000000 = s.limit in
    let c : length h ≤ most = s.within in
    record {
      fits = s.fits;
      range = every_ir_run_is_in_range (opening_as o) s.valid few h w s.is_run;
      ready = every_attempt_is_ready (opening_as o) s.valid few h w s.is_run;
      inputs = every_branch_has_input (opening_as o) s.valid few h w s.is_run;
      running = runs_on o h w s.valid s.is_run;
      bounded = run_bounded (opening_as o) (codes_of o) h w 4294967294 s.is_run (omega (arith, k));
      kept = s.kept;
    }

-- and all laws
pub sound_of : (p : Trace) (w : Numbered) → AreValid (opening_as p.opening) → Fits p.opening → length p.history ≤ p.limit → w.opening ≡ opening_as p.opening →
    run_of p.opening p.history ≡ Some w → IsSound p
sound_of p w v f short opened r =
    let o = opening_as p.opening in
    let codes = codes_of p.opening in
    record {
      happened = is_run p w r;
      laws = subst (λ z. IsSoundWorld o codes (flat_sites o) p.history z) (sym (now_is p w r)) (every_ir_run_is_sound o v p.history w r);
      queue =
          subst (λ z. QueueIsRight flags codes (opened_world p.opening) z p.history) (sym (now_is p w r))
          (queue_is_right flags codes first_number o p.history w r);
      cost = λ obeys calm. has_its_cost p v f.functions (is_run p w r) (ap (λ (z : Numbered). z.opening) (now_is p w r) ∙ opened) short obeys calm;
    }

-- ---------------------------------------------------------------- what callers see

-- what holds of the code's world holds of the world of the past that callers see
pub at_now : (P : Numbered → Type 0) (p q : Trace) (w : Numbered) → p ≡ q → run_of p.opening p.history ≡ Some w → P w → P (now q)
at_now P p q w e r h = subst (λ z. P (now z)) e (subst P (sym (now_is p w r)) h)

-- an event is enabled there where it is enabled in that past
pub enabled_now : (p q : Trace) (w : Numbered) (e : Event) → p ≡ q → run_of p.opening p.history ≡ Some w → is_enabled q e ≡ true →
    enabled (codes_of p.opening) w e ≡ true
enabled_now p q w e s r b =
    ap (λ z. enabled (codes_of p.opening) z e) (sym (now_is p w r)) ∙ ap (λ z. is_enabled z e) s ∙ b

-- ---------------------------------------------------------------- one event more

-- the world after an event is the run of one event more
pub stands_on : (o : Opening) (most : ℕ) (h : List Event) (room : ℕ) (m n : WorldState) (e : Event) (hs : List Event) (more : ℕ) → Stands o most h room m →
    enabled (codes_of o) (world_of o m) e ≡ true → world_of o n ≡ effect flags (codes_of o) (world_of o m) e → Keeps o n → hs ≡ h ++ e ∷ [] →
    length h < most → most ≤ more →
    Stands o most hs more n
stands_on o most h room m n e hs more s b f k g l r =
    let z : length hs ≡ length h + 1 = ap length g ∙ length_push h e in
    record {
      is_run = run_step (codes_of o) (opening_as o) h hs e (world_of o m) (world_of o n) s.is_run b f g;
      valid = s.valid;
      fits = s.fits;
      limit = s.limit;
      within = omega (arith, z, l);
      reserved = r;
      kept = k;
    }

-- ---------------------------------------------------------------- sessions

-- a session that is there stands as the answer says
pub stands_so : (o : Opening) (m : WorldState) (s : ℕ) (x : Session) (a : SessionState) → slice_get o.sessions s ≡ Some x →
    IsOne a (standing (world_of o m) s) → IsStanding (Some a) (session_of (world_of o m) s)
stands_so o m s x a e h =
    subst (λ z. IsStanding (Some a) (standing_at (world_of o m) s z))
    (sym (slice_get-map (session_as o.machines) o.sessions s ∙ ap (option_map (session_as o.machines)) e)) h

-- and one that is not there in no way
pub stands_not : (o : Opening) (m : WorldState) (s : ℕ) → slice_get o.sessions s ≡ None → IsStanding None (session_of (world_of o m) s)
stands_not o m s e =
    subst (λ z. IsStanding None (standing_at (world_of o m) s z))
    (sym (slice_get-map (session_as o.machines) o.sessions s ∙ ap (option_map (session_as o.machines)) e)) tt
