-- When a hart's instruction is served on, and when it is given up.
use Rattle.std.proofs.Common.{◌≡◌, ◌∙◌, ℕ, ◌+◌, Bool, true, false, List, [], ◌∷◌, ◌++◌, length, Option, Some, None, ap, append_assoc, arith, refl, suc, subst, sym}
use Rattle.std.specs.Prelude.{◌≢◌, ◌^◌, if◌then◌else◌}
use Rattle.std.proofs.lemmas.List.Elements.{All-append, All-cons, All-nil}
use Rattle.std.proofs.Math.ListN.{length-append}
use Rattle.clock_policy.specs.declared.key.Key.{Key}
use Rattle.flat_machine.specs.declared.end.KillCause.TheVariants as cause
use Rattle.machine_core.specs.Applying.{Applies, Runs}
use Rattle.machine_core.specs.Headline.{has_run}
use Rattle.machine_core.specs.Machine.{CoreValue}
use Rattle.machine_core.specs.declared.error.EventRefusal.{EventRefusal}
use Rattle.machine_core.specs.declared.error.EventRefusal.TheVariants as refusal
use Rattle.machine_core.specs.declared.event.Event.{Event}
use Rattle.machine_core.specs.declared.event.Event.TheVariants.{Step, Notice, Sweep, Collect, Saved, PageIn, Kill, Purge, Clean, Copy, Cleaned}
use Rattle.machine_core.specs.declared.event.Reply.{Reply}
use Rattle.machine_core.specs.declared.event.Reply.TheVariants as reply
use Rattle.serial_driver.specs.Closing.{is_limit_kill}
use Rattle.serial_driver.specs.Endings.{HasEnded}
use Rattle.serial_driver.specs.Limit.{ComeInTurn, PlaysWith}
use Rattle.serial_driver.specs.Nexts.{is_step, IsNext}
use Rattle.serial_driver.specs.Owing.{Duty, Pays, ArePaid, collect_owes, duty_after, duty_with, is_absent, is_damaged, is_device, is_dirty, is_only_owed, is_full, is_mapped, is_no_memory, is_out_of_memory, load_owes, next_owed, save_owes, step_owes}
use Rattle.serial_driver.specs.Patience.{IsPatient, is_served, spent_after, spent_with, tried_after, tried_with}
use Rattle.serial_driver.specs.Serving.{is_giving_up, is_paging, owes_pages, GivesUpFor, GivesUpFrom, IsServing, Lasts, PlaysFrom, Proceeds}
use Rattle.serial_driver.specs.Serving.GivesUpFor.{ends, over, refuses}
use Rattle.serial_driver.specs.Turning.{IsInTurn, MayNotice, MayStep, Phase, Turn, Begins, Clears, Rests, Runs as RunsOn, Waits, clearing, noticed_in, paged_in, swept_turn, waiting}
use Rattle.serial_driver.specs.declared.patience.Patience.{Patience}
use Rattle.serial_driver.specs.declared.serving.ServedStep.{ServedStep}
use Rattle.serial_driver.specs.declared.serving.ServedStep.TheVariants as served
use Rattle.serial_driver.specs.declared.turns.Next.{Next}
use Rattle.serial_driver.specs.declared.turns.Next.TheVariants.{Steps, Event as Alone}
use Rattle.serial_driver.proofs.InTurn.{in_turn_none, in_turn_on, in_turn_one, in_turn_runs}
use Rattle.serial_driver.proofs.Limited.{plays_more, plays_one}
use Rattle.serial_driver.proofs.Owed.{duty_on, paid_on}
use Rattle.serial_driver.proofs.Tried.{spent_on}

-- ---- whose turn it is

module _ {S : Type 0} (honest : Type 0) (core : CoreValue S) (process hart : ℕ) where
  -- only the hart that is served may run
  pub own_step : (turn : Turn) (p h : ℕ) → IsServing process hart turn → IsInTurn honest core turn (Step p h) → (p ≡ process) × (h ≡ hart)
  own_step turn p h serving may = by turn.phase serving.lasts may
    where
      by : (phase : Phase) → Lasts phase → MayStep honest core phase turn p h → (p ≡ process) × (h ≡ hart)
      by (Begins last) lasts may = absurd lasts
      by RunsOn lasts may = (may.0 ∙ serving.process_is, may.1 ∙ serving.hart_is)
      by Rests lasts may = absurd lasts
      by Waits lasts may = absurd may
      by (Clears victim last) lasts may = absurd may

  waits_on : (turn : Turn) → IsServing process hart turn → IsServing process hart (waiting turn)
  waits_on turn serving = record { process_is = serving.process_is; hart_is = serving.hart_is; lasts = tt {0} }

  clears_on : (victim : Key) (last : Option ℕ) (turn : Turn) → IsServing process hart turn → IsServing process hart (clearing victim last turn)
  clears_on victim last turn serving = record { process_is = serving.process_is; hart_is = serving.hart_is; lasts = tt {0} }

  noticed_on : (turn : Turn) (phase : Phase) (p h : ℕ) → Lasts phase → MayNotice core phase turn p h → IsServing process hart turn → IsServing process hart (noticed_in phase h turn)
  noticed_on turn (Begins last) p h lasts may serving = absurd lasts
  noticed_on turn RunsOn p h lasts may serving = absurd may
  noticed_on turn Rests p h lasts may serving = absurd lasts
  noticed_on turn Waits p h lasts may serving = absurd may
  noticed_on turn (Clears victim last) p h lasts may serving = clears_on victim (Some h) turn serving

  swept_on : (turn : Turn) (answer : Reply) → IsServing process hart turn → IsServing process hart (swept_turn answer turn)
  swept_on turn (reply.Victim key) serving = clears_on key None turn serving
  swept_on turn _ serving = waits_on turn serving

  paged_on : (turn : Turn) (mapped : Bool) → IsServing process hart turn → IsServing process hart (paged_in mapped turn)
  paged_on turn true serving = record { process_is = serving.process_is; hart_is = serving.hart_is; lasts = tt {0} }
  paged_on turn false serving = waits_on turn serving

  paging_serves : (event : Event) (answer : Reply) (duty : Duty) → is_paging event ≡ true → IsInTurn honest core duty.turn event → IsServing process hart duty.turn → IsServing process hart (duty_with event answer duty).turn
  paging_serves (Notice p h) answer duty paging turn serving = noticed_on duty.turn duty.turn.phase p h serving.lasts turn serving
  paging_serves Sweep answer duty paging turn serving = swept_on duty.turn answer serving
  paging_serves (Collect key) answer duty paging turn serving = waits_on duty.turn serving
  paging_serves (Saved key) answer duty paging turn serving = waits_on duty.turn serving
  paging_serves (PageIn key) answer duty paging turn serving = paged_on duty.turn (is_mapped answer) serving
  paging_serves _ answer duty paging turn serving = cc

  absent_serves : (answer : Reply) (duty : Duty) → is_absent answer ≡ true → IsServing process hart (duty_with (Step process hart) answer duty).turn
  absent_serves (reply.Absent page) duty h = record { process_is = refl; hart_is = refl; lasts = tt {0} }
  absent_serves _ duty h = cc

-- ---- what is owed

absent_pages : (process : ℕ) (answer : Reply) → is_absent answer ≡ true → owes_pages (step_owes process answer) ≡ true
absent_pages process (reply.Absent page) h = refl
absent_pages process _ h = cc

save_pages : (process : ℕ) (answer : Reply) → is_out_of_memory answer ≡ false → owes_pages (save_owes process answer) ≡ true
save_pages process answer h = ap (λ (b : Bool). owes_pages (if b then Some (Kill process cause.NoMemory) else None)) h

collect_pages : (key : Key) (answer : Reply) → is_out_of_memory answer ≡ false → owes_pages (collect_owes key answer) ≡ true
collect_pages key answer h = by (is_dirty answer)
  where
    by : (b : Bool) → owes_pages (if b then Some (Saved key) else save_owes key.process answer) ≡ true
    by true = refl
    by false = save_pages key.process answer h

load_pages : (faults process : ℕ) (answer : Reply) → is_out_of_memory answer ≡ false → owes_pages (load_owes faults process answer) ≡ true
load_pages faults process answer h = by (is_device answer) (is_damaged answer) _
  where
    by : (device damaged third : Bool) → owes_pages (if device then (if third then Some (Kill process cause.LoadFailed) else None) else (if damaged then Some (Kill process cause.Damaged) else save_owes process answer)) ≡ true
    by true damaged true = refl
    by true damaged false = refl
    by false true third = refl
    by false false third = save_pages process answer h

paging_pages : (event : Event) (answer : Reply) (duty : Duty) → is_paging event ≡ true → is_out_of_memory answer ≡ false → owes_pages (duty_with event answer duty).owed ≡ true
paging_pages (Notice p h) answer duty paging told = refl
paging_pages Sweep answer duty paging told = refl
paging_pages (Collect key) answer duty paging told = collect_pages key answer told
paging_pages (Saved key) answer duty paging told = save_pages key.process answer told
paging_pages (PageIn key) answer duty paging told = load_pages duty.faults key.process answer told
paging_pages _ answer duty paging told = cc

-- a step that is answered otherwise is of no hart that may step, and its process is to give back what it has
step_purges : (process : ℕ) (answer : Reply) → has_run answer ≡ false → is_full answer ≡ false → is_out_of_memory answer ≡ false → is_absent answer ≡ false → step_owes process answer ≡ Some (Purge process)
step_purges process reply.Ran ran full out absent = cc
step_purges process reply.Yielded ran full out absent = cc
step_purges process reply.HartDone ran full out absent = cc
step_purges process reply.Ended ran full out absent = cc
step_purges process (reply.Absent page) ran full out absent = cc
step_purges process reply.ScheduleFull ran full out absent = cc
step_purges process (reply.Refused why) ran full out absent = ap (λ (b : Bool). if b then Some (Kill process cause.NoMemory) else Some (Purge process)) out
step_purges process _ ran full out absent = refl

-- an event that comes next and brings no page in ends a process for a page, or has one give back what it has
ending_gives : {S : Type 0} (honest : Type 0) (core : CoreValue S) (turn : Turn) (event : Event) → is_paging event ≡ false → is_step event ≡ false → IsInTurn honest core turn event → owes_pages (Some event) ≡ true → is_giving_up event ≡ true
ending_gives honest core turn (Step p h) paging step in_turn pages = cc
ending_gives honest core turn (Notice p h) paging step in_turn pages = cc
ending_gives honest core turn Sweep paging step in_turn pages = cc
ending_gives honest core turn (Collect key) paging step in_turn pages = cc
ending_gives honest core turn (Saved key) paging step in_turn pages = cc
ending_gives honest core turn (PageIn key) paging step in_turn pages = cc
ending_gives honest core turn (Kill p why) paging step in_turn pages = pages
ending_gives honest core turn (Purge p) paging step in_turn pages = refl
ending_gives honest core turn (Clean key) paging step in_turn pages = absurd in_turn
ending_gives honest core turn (Copy key) paging step in_turn pages = absurd in_turn
ending_gives honest core turn (Cleaned key) paging step in_turn pages = absurd in_turn

no_other : {S : Type 0} (honest : Type 0) (core : CoreValue S) (turn : Turn) (event : Event) → is_paging event ≡ false → is_step event ≡ false → IsInTurn honest core turn event → is_only_owed event ≡ false → ⊥
no_other honest core turn (Step p h) paging step in_turn ending = cc
no_other honest core turn (Notice p h) paging step in_turn ending = cc
no_other honest core turn Sweep paging step in_turn ending = cc
no_other honest core turn (Collect key) paging step in_turn ending = cc
no_other honest core turn (Saved key) paging step in_turn ending = cc
no_other honest core turn (PageIn key) paging step in_turn ending = cc
no_other honest core turn (Kill p why) paging step in_turn ending = cc
no_other honest core turn (Purge p) paging step in_turn ending = cc
no_other honest core turn (Clean key) paging step in_turn ending = absurd in_turn
no_other honest core turn (Copy key) paging step in_turn ending = absurd in_turn
no_other honest core turn (Cleaned key) paging step in_turn ending = absurd in_turn

next_gives : {S : Type 0} (honest : Type 0) (core : CoreValue S) (owed : Option Event) (spent : Option ℕ) (turn : Turn) (event : Event) → owes_pages owed ≡ true → is_paging event ≡ false → is_step event ≡ false → Pays (next_owed owed spent) event → IsInTurn honest core turn event
    → (next_owed owed spent ≡ Some event) × (is_giving_up event ≡ true)
next_gives honest core None None turn event pages paging step pays in_turn = absurd (no_other honest core turn event paging step in_turn pays)
next_gives honest core None (Some process) turn event pages paging step pays in_turn = (ap Some (sym pays), ap is_giving_up pays)
next_gives honest core (Some owed) spent turn event pages paging step pays in_turn = (ap Some (sym pays), ending_gives honest core turn event paging step in_turn (ap (λ e. owes_pages (Some e)) pays ∙ pages))

refused_why : (answer : Reply) → is_out_of_memory answer ≡ false → is_served answer ≡ false → (why : EventRefusal) × ((answer ≡ reply.Refused why) × (why ≢ refusal.NoMemory))
refused_why (reply.Refused why) out unserved = (why, (refl, λ is. let e = ap is_no_memory is in cc))
refused_why _ out unserved = cc

-- ---- events of a run

abbrev Unlimited : Event → Type 0
Unlimited event = is_limit_kill event ≡ false

module _ {S : Type 0} (held : S → List ℕ) (honest : Type 0) (failures : S → ℕ) (most : ℕ) where
  -- each event has its reply
  many_replies : (events : List Event) (replies : List Reply) (old new : CoreValue S) → Runs held honest failures events replies old new → length events ≡ length replies
  unfolding Runs
  many_replies [] [] old new run = refl
  many_replies [] (r ∷ rs) old new run = absurd run
  many_replies (e ∷ es) [] old new run = absurd run
  many_replies (e ∷ es) (r ∷ rs) old new run = ap suc (many_replies es rs run.0 new run.1.1)

  pub gives_none : (tried : ℕ → ℕ) (duty : Duty) (spent : Option ℕ) (core : CoreValue S) → GivesUpFor held honest failures duty spent [] core → GivesUpFrom held honest failures most tried duty spent core core
  unfolding ArePaid duty_after spent_after
  gives_none tried duty spent core why = record {
    run = record { count = 0; plays = record { events = []; replies = []; in_turn = in_turn_none held honest failures duty core; many = refl; unlimited = All-nil _; paid = tt {0} } };
    why = why;
  }

  pub gives_one : (tried : ℕ → ℕ) (duty : Duty) (spent : Option ℕ) (old new : CoreValue S) (event : Event) (answer : Reply) → Applies held honest failures event old new answer → is_limit_kill event ≡ false
      → Pays (next_owed duty.owed spent) event → IsInTurn honest old duty.turn event → GivesUpFor held honest failures (duty_with event answer duty) (spent_with most tried event answer) (answer ∷ []) new
      → GivesUpFrom held honest failures most tried duty spent old new
  unfolding ArePaid duty_after spent_after
  gives_one tried duty spent old new event answer applies unlimited pays in_turn why = record {
    run = record {
      count = 1;
      plays = record {
        events = event ∷ [];
        replies = answer ∷ [];
        in_turn = in_turn_one held honest failures duty event answer old new applies in_turn;
        many = refl;
        unlimited = All-cons Unlimited event [] unlimited (All-nil _);
        paid = (pays, tt {0});
      };
    };
    why = why;
  }

  -- behind other events
  why_behind : (duty duty' : Duty) (spent spent' : Option ℕ) (before replies : List Reply) (core : CoreValue S) → duty ≡ duty' → spent ≡ spent' → GivesUpFor held honest failures duty spent replies core
      → GivesUpFor held honest failures duty' spent' (before ++ replies) core
  why_behind duty duty' spent spent' before replies core same same' (ends event owed gives) =
      ends event (sym (ap (λ (d : Duty). next_owed d.owed spent) same ∙ ap (next_owed duty'.owed) same') ∙ owed) gives
  why_behind duty duty' spent spent' before replies core same same' (refuses first why is other) =
      refuses (before ++ first) why (ap (λ l. before ++ l) is ∙ sym (append_assoc before first (reply.Refused why ∷ []))) other
  why_behind duty duty' spent spent' before replies core same same' (over ended) = over ended

  pub gives_behind : (tried : ℕ → ℕ) (duty midway : Duty) (spent : Option ℕ) (first : ℕ) (old between new : CoreValue S) (middle : Patience) → (a : PlaysWith held honest failures most tried duty spent first old between middle midway)
      → GivesUpFrom held honest failures most (λ number. tried_after number a.plays.events a.plays.replies (tried number)) midway middle.spent between new → GivesUpFrom held honest failures most tried duty spent old new
  gives_behind tried duty midway spent first old between new middle a b =
      let same = many_replies a.plays.events a.plays.replies old between (in_turn_runs held honest failures duty a.plays.events a.plays.replies old between a.plays.in_turn) in
      let later : ℕ → ℕ = λ number. tried_after number a.plays.events a.plays.replies (tried number) in
      let last = b.run.plays in
      record {
        run = record {
          count = first + b.run.count;
          plays = record {
            events = a.plays.events ++ last.events;
            replies = a.plays.replies ++ last.replies;
            in_turn = in_turn_on held honest failures duty a.plays.events last.events a.plays.replies last.replies old between new a.plays.in_turn
                (subst (λ (d : Duty). ComeInTurn held honest failures d last.events last.replies between new) a.owes last.in_turn);
            many = length-append a.plays.events last.events ∙ omega (arith, a.plays.many, last.many);
            unlimited = All-append Unlimited a.plays.events last.events a.plays.unlimited last.unlimited;
            paid = paid_on most tried duty spent a.plays.events last.events a.plays.replies last.replies same a.plays.paid
                (subst (λ (s : Option ℕ). ArePaid most later (duty_after a.plays.events a.plays.replies duty) s last.events last.replies) a.spends
                (subst (λ (d : Duty). ArePaid most later d middle.spent last.events last.replies) a.owes last.paid));
          };
        };
        why = why_behind _ _ _ _ a.plays.replies last.replies new
            (ap (duty_after last.events last.replies) a.owes ∙ sym (duty_on duty a.plays.events last.events a.plays.replies last.replies same))
            (ap (spent_after most later last.events last.replies) a.spends ∙ sym (spent_on most tried a.plays.events last.events a.plays.replies last.replies spent same))
            b.why;
      }

  plays_both : (tried : ℕ → ℕ) (duty midway left : Duty) (spent : Option ℕ) (first : ℕ) (old between new : CoreValue S) (middle patience : Patience) → (a : PlaysWith held honest failures most tried duty spent first old between middle midway)
      → PlaysWith held honest failures most (λ number. tried_after number a.plays.events a.plays.replies (tried number)) midway middle.spent 1 between new patience left → PlaysFrom held honest failures most tried duty spent old new
  plays_both tried duty midway left spent first old between new middle patience a b =
      record { count = first + 1; plays = (plays_more held honest failures most tried duty midway left spent first 1 (first + 1) old between new middle patience a b refl).plays }

  -- the events of a run up to the one that settles the instruction, or with which it is given up
  pub plays_settled : (process hart : ℕ) (what : ServedStep) (tried : ℕ → ℕ) (duty midway left : Duty) (spent : Option ℕ) (first : ℕ) (old between new : CoreValue S) (middle patience : Patience)
      → (a : PlaysWith held honest failures most tried duty spent first old between middle midway)
      → Proceeds held honest failures process hart (Some what) most (λ number. tried_after number a.plays.events a.plays.replies (tried number)) midway middle.spent between new patience left
      → PlaysFrom held honest failures most tried duty spent old new
  plays_settled process hart served.Ran tried duty midway left spent first old between new middle patience a b = plays_both tried duty midway left spent first old between new middle patience a b
  plays_settled process hart served.Full tried duty midway left spent first old between new middle patience a b = plays_both tried duty midway left spent first old between new middle patience a b
  plays_settled process hart served.NoMemory tried duty midway left spent first old between new middle patience a b = plays_both tried duty midway left spent first old between new middle patience a b
  plays_settled process hart served.Absent tried duty midway left spent first old between new middle patience a b = (gives_behind tried duty midway spent first old between new middle a b).run

  -- one event, behind which the instruction is served on
  pub proceeds_on : (process hart : ℕ) (tried : ℕ → ℕ) (duty left : Duty) (spent : Option ℕ) (old new : CoreValue S) (patience : Patience) (event : Event) (answer : Reply) → Applies held honest failures event old new answer
      → is_limit_kill event ≡ false → IsPatient most (λ number. tried_with number event answer (tried number)) patience → patience.spent ≡ spent_with most tried event answer
      → Pays (next_owed duty.owed spent) event → IsInTurn honest old duty.turn event → left ≡ duty_with event answer duty
      → IsServing process hart (duty_with event answer duty).turn → owes_pages (duty_with event answer duty).owed ≡ true → Proceeds held honest failures process hart None most tried duty spent old new patience left
  proceeds_on process hart tried duty left spent old new patience event answer applies unlimited patient spends pays in_turn owes serving pages = (
    plays_one held honest failures most tried duty left spent old new patience event answer applies unlimited patient spends pays in_turn owes,
    (subst (λ (d : Duty). IsServing process hart d.turn) (sym owes) serving, subst (λ (d : Duty). owes_pages d.owed ≡ true) (sym owes) pages),
  )

  -- a step that is answered with a page, or otherwise
  pub step_on : (process hart : ℕ) (tried : ℕ → ℕ) (duty left : Duty) (spent : Option ℕ) (old new : CoreValue S) (patience : Patience) (answer : Reply) → Applies held honest failures (Step process hart) old new answer
      → IsPatient most (λ number. tried_with number (Step process hart) answer (tried number)) patience → patience.spent ≡ spent_with most tried (Step process hart) answer
      → Pays (next_owed duty.owed spent) (Step process hart) → IsInTurn honest old duty.turn (Step process hart) → left ≡ duty_with (Step process hart) answer duty → is_absent answer ≡ true
      → Proceeds held honest failures process hart None most tried duty spent old new patience left
  step_on process hart tried duty left spent old new patience answer applies patient spends pays in_turn owes absent =
      proceeds_on process hart tried duty left spent old new patience (Step process hart) answer applies refl patient spends pays in_turn owes (absent_serves honest old process hart answer duty absent) (absent_pages process answer absent)

  pub step_gives_up : (process hart : ℕ) (tried : ℕ → ℕ) (duty : Duty) (spent : Option ℕ) (old new : CoreValue S) (answer : Reply) → Applies held honest failures (Step process hart) old new answer
      → Pays (next_owed duty.owed spent) (Step process hart) → IsInTurn honest old duty.turn (Step process hart)
      → has_run answer ≡ false → is_full answer ≡ false → is_out_of_memory answer ≡ false → is_absent answer ≡ false → GivesUpFrom held honest failures most tried duty spent old new
  step_gives_up process hart tried duty spent old new answer applies pays in_turn ran full out absent =
      gives_one tried duty spent old new (Step process hart) answer applies refl pays in_turn
      (ends (Purge process) (ap (λ (o : Option Event). next_owed o (spent_with most tried (Step process hart) answer)) (step_purges process answer ran full out absent)) refl)

  -- an event that brings pages in
  pub paging_on : (process hart : ℕ) (tried : ℕ → ℕ) (duty left : Duty) (spent : Option ℕ) (old new : CoreValue S) (patience : Patience) (event : Event) (answer : Reply) → Applies held honest failures event old new answer
      → is_limit_kill event ≡ false → IsPatient most (λ number. tried_with number event answer (tried number)) patience → patience.spent ≡ spent_with most tried event answer
      → Pays (next_owed duty.owed spent) event → IsInTurn honest old duty.turn event → left ≡ duty_with event answer duty
      → is_paging event ≡ true → IsServing process hart duty.turn → is_out_of_memory answer ≡ false → Proceeds held honest failures process hart None most tried duty spent old new patience left
  paging_on process hart tried duty left spent old new patience event answer applies unlimited patient spends pays in_turn owes paging serving out =
      proceeds_on process hart tried duty left spent old new patience event answer applies unlimited patient spends pays in_turn owes (paging_serves honest old process hart event answer duty paging in_turn serving) (paging_pages event answer duty paging out)

  pub refused_gives_up : (tried : ℕ → ℕ) (duty : Duty) (spent : Option ℕ) (old new : CoreValue S) (event : Event) (answer : Reply) → Applies held honest failures event old new answer → is_limit_kill event ≡ false
      → Pays (next_owed duty.owed spent) event → IsInTurn honest old duty.turn event → is_out_of_memory answer ≡ false → is_served answer ≡ false → GivesUpFrom held honest failures most tried duty spent old new
  refused_gives_up tried duty spent old new event answer applies unlimited pays in_turn out unserved =
      let why = refused_why answer out unserved in
      gives_one tried duty spent old new event answer applies unlimited pays in_turn (refuses [] why.0 (ap (λ (r : Reply). r ∷ []) why.1.0) why.1.1)

  -- what comes next brings no page in
  pub ending_gives_up : (tried : ℕ → ℕ) (duty : Duty) (spent : Option ℕ) (core : CoreValue S) (event : Event) → owes_pages duty.owed ≡ true → is_paging event ≡ false → is_step event ≡ false
      → Pays (next_owed duty.owed spent) event → IsInTurn honest core duty.turn event → GivesUpFrom held honest failures most tried duty spent core core
  ending_gives_up tried duty spent core event pages paging step pays in_turn =
      let next = next_gives honest core duty.owed spent duty.turn event pages paging step pays in_turn in gives_none tried duty spent core (ends event next.0 next.1)

  pub over_gives_up : (tried : ℕ → ℕ) (duty : Duty) (spent : Option ℕ) (core : CoreValue S) → ((number : ℕ) → HasEnded core number) → GivesUpFrom held honest failures most tried duty spent core core
  over_gives_up tried duty spent core ended = gives_none tried duty spent core (over ended)

-- ---- what may come next

pub step_may : {S : Type 0} (honest : Type 0) (core : CoreValue S) (process hart allowed : ℕ) (spent : Option ℕ) (duty : Duty) (next : Next) (p h most : ℕ) → next ≡ Steps p h most → IsNext honest core allowed spent duty next → IsServing process hart duty.turn
    → Pays (next_owed duty.owed spent) (Step process hart) × IsInTurn honest core duty.turn (Step process hart)
step_may honest core process hart allowed spent duty next p h most is may serving =
    let steps = subst (IsNext honest core allowed spent duty) is may in
    let own = own_step honest core process hart duty.turn p h serving steps.1.1.1 in (
      subst (λ (e : Event). Pays (next_owed duty.owed spent) e) (same_step p h process hart own.0 own.1) steps.1.1.0,
      subst (λ (e : Event). IsInTurn honest core duty.turn e) (same_step p h process hart own.0 own.1) steps.1.1.1,
    )
  where
    same_step : (p h process hart : ℕ) → p ≡ process → h ≡ hart → Step p h ≡ Step process hart
    same_step p h process hart a b = ap (λ n. Step n h) a ∙ ap (Step process) b

pub event_may : {S : Type 0} (honest : Type 0) (core : CoreValue S) (allowed : ℕ) (spent : Option ℕ) (duty : Duty) (next : Next) (event : Event) → next ≡ Alone event → IsNext honest core allowed spent duty next
    → (is_limit_kill event ≡ false) × Pays (next_owed duty.owed spent) event × IsInTurn honest core duty.turn event
event_may honest core allowed spent duty next event is may = let alone = subst (IsNext honest core allowed spent duty) is may in alone.1.1
