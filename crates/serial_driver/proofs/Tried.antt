-- Counts of what was tried, over events one after another.
use Rattle.std.proofs.Common.{◌≡◌, ℕ, zero, suc, ◌<◌, ◌==◌, inl, inr, Bool, true, false, List, [], ◌∷◌, ◌++◌, length, Option, Some, None, IfNone, replicate, slice_index_or, refl, sym, ap, ◌∙◌, arith, subst}
use Rattle.std.proofs.lemmas.Bool.Decides.{eqb_tells}
use Rattle.std.specs.Prelude.{◌||◌, min, not, if◌then◌else◌}
use Rattle.machine_core.specs.declared.event.Event.{Event}
use Rattle.machine_core.specs.declared.event.Event.TheVariants.{Step}
use Rattle.machine_core.specs.declared.event.Reply.{Reply}
use Rattle.machine_core.specs.declared.event.Reply.TheVariants.{Ran}
use Rattle.machine_core.specs.Headline.{has_run}
use Rattle.machine_core.specs.ManySteps.{steps_of, replies_of}
use Rattle.machine_limits.specs.Limits.{most_processes}
use Rattle.serial_driver.specs.Patience.{IsPatient, any_ran, renewed, run_of, spent_after, spent_of, spent_with, tried_after, tried_again, tried_with, try_of}
use Rattle.serial_driver.specs.declared.patience.Patience.{Patience}

-- the count after events, and then others
pub after_on : (number : ℕ) (first second : List Event) (replies replies' : List Reply) (tried : ℕ) → length first ≡ length replies
    → tried_after number (first ++ second) (replies ++ replies') tried ≡ tried_after number second replies' (tried_after number first replies tried)
unfolding tried_after
after_on number [] second [] replies' tried same = refl
after_on number [] second (r ∷ rs) replies' tried same = absurd (omega (arith, same))
after_on number (e ∷ es) second [] replies' tried same = absurd (omega (arith, same))
after_on number (e ∷ es) second (r ∷ rs) replies' tried same = after_on number es second rs replies' (tried_with number e r tried) (omega (arith, same))

pub spent_on : (most : ℕ) (tried : ℕ → ℕ) (first second : List Event) (replies replies' : List Reply) (spent : Option ℕ) → length first ≡ length replies
    → spent_after most tried (first ++ second) (replies ++ replies') spent
    ≡ spent_after most (λ number. tried_after number first replies (tried number)) second replies' (spent_after most tried first replies spent)
unfolding spent_after tried_after
spent_on most tried [] second [] replies' spent same = refl
spent_on most tried [] second (r ∷ rs) replies' spent same = absurd (omega (arith, same))
spent_on most tried (e ∷ es) second [] replies' spent same = absurd (omega (arith, same))
spent_on most tried (e ∷ es) second (r ∷ rs) replies' spent same =
    spent_on most (λ number. tried_with number e r (tried number)) es second rs replies' (spent_with most tried e r) (omega (arith, same))

-- what is remembered serves equal counts alike
pub patient_same : (most : ℕ) (tried later : ℕ → ℕ) (patience : Patience) → ((number : ℕ) → tried number ≡ later number) → IsPatient most tried patience → IsPatient most later patience
patient_same most tried later patience same patient = record {
  bound = patient.bound;
  exact = λ number small. subst (λ n. slice_index_or patience.tries number 0 ≡ min n most) (same number) (patient.exact number small);
}

-- the process that is spent, by which process ran and for which there was a try
pub spent_same : (most : ℕ) (tried : ℕ → ℕ) (event : Event) (reply : Reply) (ran tries : Option ℕ) → ran ≡ run_of event reply → tries ≡ try_of event reply
    → spent_of most (λ number. tried_again number tries (renewed number ran (tried number))) tries ≡ spent_with most tried event reply
spent_same most tried event reply ran tries ran_is tries_is =
    ap (λ (p : Option ℕ). spent_of most (λ number. tried_again number p (renewed number ran (tried number))) p) tries_is
    ∙ ap (λ (p : Option ℕ). spent_of most (λ number. tried_again number (try_of event reply) (renewed number p (tried number))) (try_of event reply)) ran_is

same_count : (process hart count : ℕ) → length (replicate count (Step process hart)) ≡ length (replicate count Ran)
same_count process hart zero = refl
same_count process hart (suc count) = ap suc (same_count process hart count)

-- a count that begins anew twice does so once
renewed_twice : (number process tried : ℕ) → renewed number (Some process) (renewed number (Some process) tried) ≡ renewed number (Some process) tried
renewed_twice number process tried = by_test (number == process)
  where
    by_test : (b : Bool) → (if b then 0 else (if b then 0 else tried)) ≡ (if b then 0 else tried)
    by_test true = refl
    by_test false = refl

ran_count : (number process hart count tried : ℕ) → tried_after number (replicate (suc count) (Step process hart)) (replicate (suc count) Ran) tried ≡ renewed number (Some process) tried
unfolding tried_after
ran_count number process hart zero tried = refl
ran_count number process hart (suc count) tried = ran_count number process hart count (renewed number (Some process) tried) ∙ renewed_twice number process tried

once_more : (number process tried : ℕ) (ran : Bool) → renewed number (if ran then Some process else None) (renewed number (Some process) tried) ≡ renewed number (Some process) tried
once_more number process tried true = renewed_twice number process tried
once_more number process tried false = refl

some_not_none : (count : ℕ) → (suc count == 0) ≡ false
some_not_none count = elim (eqb_tells (suc count) 0) [ inl e ↦ absurd (omega (arith, e.1)) | inr e ↦ e.0 ]

-- steps of which one ran begin the count of their process anew, and others leave it
pub steps_count : (number process hart ran : ℕ) (last : Option Reply) (tried : ℕ)
    → renewed number (if any_ran ran last then Some process else None) tried ≡ tried_after number (steps_of process hart ran last) (replies_of ran last) tried
unfolding tried_after
steps_count number process hart zero None tried = refl
steps_count number process hart (suc count) None tried =
    ap (λ (b : Bool). renewed number (if not b then Some process else None) tried) (some_not_none count) ∙ sym (ran_count number process hart count tried)
steps_count number process hart zero (Some reply) tried = refl
steps_count number process hart (suc count) (Some reply) tried =
    ap (λ (b : Bool). renewed number (if not b || has_run reply then Some process else None) tried) (some_not_none count)
    ∙ sym (
    after_on number (replicate (suc count) (Step process hart)) (Step process hart ∷ []) (replicate (suc count) Ran) (reply ∷ []) tried (same_count process hart (suc count))
    ∙ ap (renewed number (if has_run reply then Some process else None)) (ran_count number process hart count tried)
    ∙ once_more number process tried (has_run reply)
    )

-- steps spend none
ran_spent : (most : ℕ) (tried : ℕ → ℕ) (process hart count : ℕ) (spent : Option ℕ) → spent_after most tried (replicate (suc count) (Step process hart)) (replicate (suc count) Ran) spent ≡ None
unfolding spent_after
ran_spent most tried process hart zero spent = refl
ran_spent most tried process hart (suc count) spent = ran_spent most (λ number. tried_with number (Step process hart) Ran (tried number)) process hart count None

pub steps_spent : (most : ℕ) (tried : ℕ → ℕ) (process hart ran : ℕ) (last : Option Reply) (spent : Option ℕ) (many : ℕ) → IfNone last (ran ≡ many) → 0 < many
    → spent_after most tried (steps_of process hart ran last) (replies_of ran last) spent ≡ None
unfolding spent_after
steps_spent most tried process hart zero None spent many all some = absurd (omega (arith, all, some))
steps_spent most tried process hart (suc count) None spent many all some = ran_spent most tried process hart count spent
steps_spent most tried process hart ran (Some reply) spent many all some =
    spent_on most tried (replicate ran (Step process hart)) (Step process hart ∷ []) (replicate ran Ran) (reply ∷ []) spent (same_count process hart ran)

-- nothing was tried for at first
zeros : (count number : ℕ) → ◌≡◌ {A = ℕ} (slice_index_or (replicate count 0) number 0) 0
zeros zero number = refl
zeros (suc count) zero = refl
zeros (suc count) (suc number) = zeros count number

least : (most : ℕ) → ◌≡◌ {A = ℕ} 0 (min 0 most)
least most = omega arith

pub patient_first : (most : ℕ) (patience : Patience) → patience.most_tries ≡ most → patience.tries ≡ replicate {A = ℕ} most_processes 0 → IsPatient most (λ _. 0) patience
patient_first most patience bound none = record {
  bound = bound;
  exact = λ number small. ap (λ l. slice_index_or l number 0) none ∙ zeros most_processes number ∙ least most;
}
