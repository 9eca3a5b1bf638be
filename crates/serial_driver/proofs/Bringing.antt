-- Pages are brought in for a hart by one event after another, until its instruction is settled.
use Rattle.std.proofs.Common.{◌≡◌, ℕ, true, false, List, [], ◌∷◌, ◌++◌, inl, inr, refl, ap, ◌∙◌, subst, append_assoc}
use Rattle.std.proofs.lemmas.List.Elements.{All-append, All-nil, All-cons}
use Rattle.flat_machine.specs.Schedule.{written_out}
use Rattle.machine_core.proofs.ApplyingLaws.{runs_none, runs_one, runs_on}
use Rattle.machine_core.specs.Headline.{adds, has_run, HappensInvisibly, Remains}
use Rattle.machine_core.specs.Machine.{CoreValue}
use Rattle.machine_core.proofs.OrderLaws.{still_remains}
use Rattle.machine_core.specs.declared.error.EventRefusal.{EventRefusal}
use Rattle.machine_core.specs.declared.error.EventRefusal.TheVariants as refusal
use Rattle.machine_core.specs.declared.event.Event.{Event}
use Rattle.machine_core.specs.declared.event.Event.TheVariants.{Step}
use Rattle.machine_core.specs.declared.event.Reply.{Reply}
use Rattle.machine_core.specs.declared.event.Reply.TheVariants as reply
use Rattle.serial_driver.specs.Owing.{is_full, is_no_memory, is_out_of_memory}
use Rattle.serial_driver.specs.Serving.{is_paging, BringsIn, Serves, ServesHart}
use Rattle.serial_driver.specs.declared.serving.ServedStep.{ServedStep}
use Rattle.serial_driver.specs.declared.serving.ServedStep.TheVariants as served
use Rattle.space_core.specs.StandsFor.{SpaceValue}

-- ---- what replies tell

full_is : (answer : Reply) → is_full answer ≡ true → answer ≡ reply.ScheduleFull
full_is reply.ScheduleFull h = refl
full_is _ h = cc

no_memory_is : (why : EventRefusal) → is_no_memory why ≡ true → why ≡ refusal.NoMemory
no_memory_is refusal.NoMemory h = refl
no_memory_is _ h = cc

out_of_memory_is : (answer : Reply) → is_out_of_memory answer ≡ true → answer ≡ reply.Refused refusal.NoMemory
out_of_memory_is (reply.Refused why) h = ap reply.Refused (no_memory_is why h)
out_of_memory_is _ h = cc

-- ---- what events add

step_quiet : (process hart number : ℕ) (answer : Reply) → has_run answer ≡ false → adds number (Step process hart) answer ≡ []
step_quiet process hart number answer h = rw h refl

paging_quiet : (event : Event) (answer : Reply) (number : ℕ) → is_paging event ≡ true → adds number event answer ≡ []
paging_quiet (Step process hart) answer number h = cc
paging_quiet _ answer number h = refl

module _ {S : Type 0} where
  quiet : (number : ℕ) (added : List ℕ) (new : List (SpaceValue S)) (side : SpaceValue S) → added ≡ [] → Remains number added new side → Remains number [] new side
  quiet number added new side none remains = subst (λ l. Remains number l new side) none remains

  -- a process remains twice
  still_on : (number : ℕ) (between new : List (SpaceValue S)) (side : SpaceValue S) → (first : Remains number [] between side) → Remains number [] new first.process → Remains number [] new side
  still_on number between new side first second = record {
    process = second.process;
    found = second.found;
    goes_on = record {
      image = second.goes_on.image ∙ first.goes_on.image;
      input = second.goes_on.input ∙ first.goes_on.input;
      recorded = second.goes_on.recorded ∙ ap (λ l. l ++ []) first.goes_on.recorded ∙ append_assoc (written_out side.schedule) [] [];
    };
  }

module _ {S : Type 0} (held : S → List ℕ) (honest : Type 0) (failures : S → ℕ) (process hart : ℕ) where
  pub brings_none : (core : CoreValue S) → BringsIn held honest failures process hart core core
  brings_none core = record {
    events = [];
    replies = [];
    runs = runs_none held honest failures core;
    serve = All-nil (ServesHart process hart);
    remains = still_remains core.processes core.processes refl;
  }

  brings_one : (event : Event) (answer : Reply) (old new : CoreValue S) → ServesHart process hart event → ((number : ℕ) → adds number event answer ≡ []) → HappensInvisibly held honest failures event answer old new
      → BringsIn held honest failures process hart old new
  brings_one event answer old new serves none happens = record {
    events = event ∷ [];
    replies = answer ∷ [];
    runs = runs_one held honest failures event old new answer happens.applies;
    serve = All-cons (ServesHart process hart) event [] serves (All-nil (ServesHart process hart));
    remains = λ number side at. quiet number (adds number event answer) new.processes side (none number) (happens.invisible.recorded number side at);
  }

  pub brings_on : (old between new : CoreValue S) → BringsIn held honest failures process hart old between → BringsIn held honest failures process hart between new → BringsIn held honest failures process hart old new
  brings_on old between new first second = record {
    events = first.events ++ second.events;
    replies = first.replies ++ second.replies;
    runs = runs_on held honest failures first.events second.events first.replies second.replies old between new first.runs second.runs;
    serve = All-append (ServesHart process hart) first.events second.events first.serve second.serve;
    remains = λ number side at. still_on number between.processes new.processes side (first.remains number side at) (second.remains number (first.remains number side at).process (first.remains number side at).found);
  }

  pub serves_on : (what : ServedStep) (old between new : CoreValue S) → BringsIn held honest failures process hart old between → Serves held honest failures process hart what between new → Serves held honest failures process hart what old new
  serves_on what old between new brings serves = record { between = serves.between; brings = brings_on old between serves.between brings serves.brings; ends = serves.ends }

  -- ---- what one event settles

  pub gives_up : (core : CoreValue S) → Serves held honest failures process hart served.Absent core core
  gives_up core = record { between = core; brings = brings_none core; ends = refl }

  pub step_ran : (answer : Reply) (old new : CoreValue S) → has_run answer ≡ true → HappensInvisibly held honest failures (Step process hart) answer old new → Serves held honest failures process hart served.Ran old new
  step_ran answer old new ran happens = record { between = old; brings = brings_none old; ends = (answer, (ran, happens)) }

  pub step_full : (answer : Reply) (old new : CoreValue S) → is_full answer ≡ true → HappensInvisibly held honest failures (Step process hart) answer old new → Serves held honest failures process hart served.Full old new
  step_full answer old new full happens = record {
    between = old;
    brings = brings_none old;
    ends = subst (λ r. HappensInvisibly held honest failures (Step process hart) r old new) (full_is answer full) happens;
  }

  pub no_memory : (event : Event) (answer : Reply) (old new : CoreValue S) → ServesHart process hart event → is_out_of_memory answer ≡ true → HappensInvisibly held honest failures event answer old new
      → Serves held honest failures process hart served.NoMemory old new
  no_memory event answer old new serves out happens = record {
    between = old;
    brings = brings_none old;
    ends = record { event = event; reply = answer; serves = serves; happens = happens; answer = out_of_memory_is answer out };
  }

  pub step_waits : (answer : Reply) (old new : CoreValue S) → has_run answer ≡ false → HappensInvisibly held honest failures (Step process hart) answer old new → BringsIn held honest failures process hart old new
  step_waits answer old new still happens = brings_one (Step process hart) answer old new (inl refl) (λ number. step_quiet process hart number answer still) happens

  pub paging_waits : (event : Event) (answer : Reply) (old new : CoreValue S) → is_paging event ≡ true → HappensInvisibly held honest failures event answer old new → BringsIn held honest failures process hart old new
  paging_waits event answer old new paging happens = brings_one event answer old new (inr paging) (λ number. paging_quiet event answer number paging) happens

  -- given up after an event
  pub gives_up_after : (old new : CoreValue S) → BringsIn held honest failures process hart old new → Serves held honest failures process hart served.Absent old new
  gives_up_after old new brings = record { between = new; brings = brings; ends = refl }
