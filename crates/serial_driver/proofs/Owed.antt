-- What is owed over events one after another.
use Rattle.std.proofs.Common.{◌≡◌, ℕ, zero, suc, ◌+◌, ◌-◌, ◌<◌, ◌≤◌, max, List, [], ◌∷◌, ◌++◌, length, Option, Some, None, replicate, refl, ap, ◌∙◌, arith}
use Rattle.machine_core.specs.declared.event.Event.{Event}
use Rattle.machine_core.specs.declared.event.Event.TheVariants.{Step}
use Rattle.machine_core.specs.declared.event.Reply.{Reply}
use Rattle.machine_core.specs.declared.event.Reply.TheVariants.{Ran}
use Rattle.machine_core.specs.ManySteps.{steps_of, replies_of}
use Rattle.serial_driver.specs.Owing.{Duty, Pays, ArePaid, duty_with, duty_after, next_owed, step_faults, step_owes}
use Rattle.std.specs.Prelude.{IfSome}
use Rattle.serial_driver.specs.Turning.{ran_turn, step_turn}
use Rattle.serial_driver.specs.Patience.{spent_after, spent_with, tried_after, tried_with}

-- after events, and then others
pub duty_on : (duty : Duty) (first second : List Event) (replies replies' : List Reply) → length first ≡ length replies
    → duty_after (first ++ second) (replies ++ replies') duty ≡ duty_after second replies' (duty_after first replies duty)
unfolding duty_after
duty_on duty [] second [] replies' same = refl
duty_on duty [] second (r ∷ rs) replies' same = absurd (omega (arith, same))
duty_on duty (e ∷ es) second [] replies' same = absurd (omega (arith, same))
duty_on duty (e ∷ es) second (r ∷ rs) replies' same = duty_on (duty_with e r duty) es second rs replies' (omega (arith, same))

pub paid_on : (most : ℕ) (tried : ℕ → ℕ) (duty : Duty) (spent : Option ℕ) (first second : List Event) (replies replies' : List Reply) → length first ≡ length replies
    → ArePaid most tried duty spent first replies
    → ArePaid most (λ number. tried_after number first replies (tried number)) (duty_after first replies duty) (spent_after most tried first replies spent) second replies'
    → ArePaid most tried duty spent (first ++ second) (replies ++ replies')
unfolding ArePaid duty_after spent_after tried_after
paid_on most tried duty spent [] second [] replies' same a b = b
paid_on most tried duty spent [] second (r ∷ rs) replies' same a b = absurd (omega (arith, same))
paid_on most tried duty spent (e ∷ es) second [] replies' same a b = absurd (omega (arith, same))
paid_on most tried duty spent (e ∷ es) second (r ∷ rs) replies' same a b =
    (a.0, paid_on most (λ number. tried_with number e r (tried number)) (duty_with e r duty) (spent_with most tried e r) es second rs replies' (omega (arith, same)) a.1 b)

-- how many events steps of a hart are
abbrev pub steps_many : Option Reply → ℕ → ℕ
steps_many None ran = ran
steps_many (Some reply) ran = ran + 1

same_count : (process hart count : ℕ) → length (replicate count (Step process hart)) ≡ length (replicate count Ran)
same_count process hart zero = refl
same_count process hart (suc count) = ap suc (same_count process hart count)

-- steps that go on settle nothing
ran_paid : (most : ℕ) (tried : ℕ → ℕ) (duty : Duty) (spent : Option ℕ) (process hart count : ℕ) → Pays (next_owed duty.owed spent) (Step process hart)
    → ArePaid most tried duty spent (replicate count (Step process hart)) (replicate count Ran)
unfolding ArePaid
ran_paid most tried duty spent process hart zero pays = tt {0}
ran_paid most tried duty spent process hart (suc count) pays =
    (pays, ran_paid most (λ number. tried_with number (Step process hart) Ran (tried number)) (duty_with (Step process hart) Ran duty) None process hart count refl)

-- the duty before the last of some steps
before_last : (most : ℕ) (tried : ℕ → ℕ) (duty : Duty) (spent : Option ℕ) (process hart ran : ℕ) → Pays (next_owed duty.owed spent) (Step process hart)
    → Pays (next_owed (duty_after (replicate ran (Step process hart)) (replicate ran Ran) duty).owed (spent_after most tried (replicate ran (Step process hart)) (replicate ran Ran) spent)) (Step process hart)
unfolding duty_after spent_after
before_last most tried duty spent process hart zero pays = pays
before_last most tried duty spent process hart (suc count) pays =
    before_last most (λ number. tried_with number (Step process hart) Ran (tried number)) (duty_with (Step process hart) Ran duty) None process hart count refl

pub steps_paid : (most : ℕ) (tried : ℕ → ℕ) (duty : Duty) (spent : Option ℕ) (process hart ran : ℕ) (last : Option Reply) → Pays (next_owed duty.owed spent) (Step process hart)
    → ArePaid most tried duty spent (steps_of process hart ran last) (replies_of ran last)
unfolding ArePaid
steps_paid most tried duty spent process hart ran None pays = ran_paid most tried duty spent process hart ran pays
steps_paid most tried duty spent process hart ran (Some reply) pays =
    paid_on most tried duty spent (replicate ran (Step process hart)) (Step process hart ∷ []) (replicate ran Ran) (reply ∷ []) (same_count process hart ran)
    (ran_paid most tried duty spent process hart ran pays)
    (before_last most tried duty spent process hart ran pays, tt {0})

-- what steps leave owed, by the last one's reply
ran_faults : (process hart count : ℕ) (duty : Duty) → (duty_after (replicate count (Step process hart)) (replicate count Ran) duty).faults ≡ duty.faults
unfolding duty_after
ran_faults process hart zero duty = refl
ran_faults process hart (suc count) duty = ran_faults process hart count (duty_with (Step process hart) Ran duty)

ran_slice : (process hart count : ℕ) (duty : Duty) → (duty_after (replicate count (Step process hart)) (replicate count Ran) duty).turn.slice ≡ duty.turn.slice
unfolding duty_after
ran_slice process hart zero duty = refl
ran_slice process hart (suc count) duty = ran_slice process hart count (duty_with (Step process hart) Ran duty)

ran_wanted : (process hart count : ℕ) (duty : Duty) → (duty_after (replicate count (Step process hart)) (replicate count Ran) duty).turn.wanted ≡ duty.turn.wanted
unfolding duty_after
ran_wanted process hart zero duty = refl
ran_wanted process hart (suc count) duty = ran_wanted process hart count (duty_with (Step process hart) Ran duty)

less_one : (left count : ℕ) → left - 1 - count ≡ left - suc count
less_one left count = omega arith

ran_left : (process hart count : ℕ) (duty : Duty) → (duty_after (replicate count (Step process hart)) (replicate count Ran) duty).turn.left ≡ duty.turn.left - count
unfolding duty_after
ran_left process hart zero duty = omega arith
ran_left process hart (suc count) duty = ran_left process hart count (duty_with (Step process hart) Ran duty) ∙ less_one duty.turn.left count

pub steps_told : (process hart ran : ℕ) (reply : Reply) (duty : Duty)
    → duty_after (steps_of process hart ran (Some reply)) (replies_of ran (Some reply)) duty
    ≡ record { faults = step_faults reply duty.faults; owed = step_owes process reply; turn = step_turn process hart reply duty.turn.slice (duty.turn.left - ran) duty.turn.wanted }
unfolding duty_after
steps_told process hart ran reply duty =
    let before : Duty = duty_after (replicate ran (Step process hart)) (replicate ran Ran) duty in
    duty_on duty (replicate ran (Step process hart)) (Step process hart ∷ []) (replicate ran Ran) (reply ∷ []) (same_count process hart ran)
    ∙ ap (λ n. record { faults = step_faults reply n; owed = step_owes process reply; turn = step_turn process hart reply before.turn.slice before.turn.left before.turn.wanted }) (ran_faults process hart ran duty)
    ∙ ap (λ n. record { faults = step_faults reply duty.faults; owed = step_owes process reply; turn = step_turn process hart reply n before.turn.left before.turn.wanted }) (ran_slice process hart ran duty)
    ∙ ap (λ n. record { faults = step_faults reply duty.faults; owed = step_owes process reply; turn = step_turn process hart reply duty.turn.slice n before.turn.wanted }) (ran_left process hart ran duty)
    ∙ ap (λ n. record { faults = step_faults reply duty.faults; owed = step_owes process reply; turn = step_turn process hart reply duty.turn.slice (duty.turn.left - ran) n }) (ran_wanted process hart ran duty)

ran_duty : (process hart count : ℕ) (duty : Duty) → duty_after (replicate (suc count) (Step process hart)) (replicate (suc count) Ran) duty
    ≡ record { faults = duty.faults; owed = None; turn = ran_turn process hart duty.turn.slice (duty.turn.left - suc count) duty.turn.wanted }
unfolding duty_after
ran_duty process hart zero duty = refl
ran_duty process hart (suc count) duty =
    ran_duty process hart count (duty_with (Step process hart) Ran duty)
    ∙ ap (λ n. record { faults = duty.faults; owed = None; turn = ran_turn process hart duty.turn.slice n duty.turn.wanted }) (less_one duty.turn.left (suc count))

pub steps_all : (process hart ran : ℕ) (duty : Duty) → 0 < ran → duty_after (steps_of process hart ran None) (replies_of ran None) duty
    ≡ record { faults = duty.faults; owed = None; turn = ran_turn process hart duty.turn.slice (duty.turn.left - ran) duty.turn.wanted }
steps_all process hart zero duty some = absurd (omega (arith, some))
steps_all process hart (suc count) duty some = ran_duty process hart count duty

-- so many steps are no more than may be
pub few_last : (ran most : ℕ) (last : Option Reply) (left : ℕ) (reply : Reply) → last ≡ Some reply → IfSome last (λ _. ran < most) → most ≤ max left 1 → steps_many last ran ≤ max left 1
few_last ran most None left reply is short few = cc
few_last ran most (Some answer) left reply is short few = omega (arith, short, few)

pub few_all : (ran most : ℕ) (last : Option Reply) (left : ℕ) → last ≡ None → ran ≤ most → most ≤ max left 1 → steps_many last ran ≤ max left 1
few_all ran most None left is within few = omega (arith, within, few)
few_all ran most (Some answer) left is within few = cc
