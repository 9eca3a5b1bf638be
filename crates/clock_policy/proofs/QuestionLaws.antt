-- There is no question exactly where nothing is resident.
use Rattle.std.specs.Prelude.{◌≡◌, ℕ, ◌+◌, ◌-◌, ◌==◌, ◌||◌, nat_lt, cond, Bool, true, false, Option, Some, None, find, List, [], ◌∷◌, Result, Ok, Err, IsErr, IsNone, ◌↔◌, refl}
use Rattle.std.proofs.Common.{arith, sym, ◌∙◌}
use Rattle.std.proofs.lemmas.Bool.Decides.{nat_tests}
use Rattle.std.proofs.lemmas.Bool.{or_right}
use Rattle.clock_policy.proofs.FindLaws.{found_passes}
use Rattle.clock_policy.specs.declared.key.Key.{Key}
use Rattle.clock_policy.specs.declared.entry.Entry.{Entry}
use Rattle.clock_policy.specs.declared.entry.EntryKind.{EntryKind}
use Rattle.clock_policy.specs.declared.entry.EntryKind.TheVariants.{Hot, Test, Cold, Shadow}
use Rattle.clock_policy.specs.declared.answer.Bit.{Bit}
use Rattle.clock_policy.specs.declared.answer.Bit.TheVariants.{Zero, One, Gone}
use Rattle.clock_policy.specs.declared.answer.Verdict.{Verdict}
use Rattle.clock_policy.specs.declared.refusal.Refusal.{Refusal}
use Rattle.clock_policy.specs.declared.refusal.Refusal.TheVariants.{NoQuestion}
use Rattle.clock_policy.specs.ClockPro.{ClockState, number, place_of, round, found_key, is_hot, is_cold, hot_count, cold_count, asks_hot, asked_entry, question_of, gone_on, gives_up, heeded, kind_answered, entry_answered, answered}
use Rattle.clock_policy.specs.Bound.{NothingResident}
use Rattle.clock_policy.proofs.CountLaws.{number-round}

-- Where there is no question.

none_counted : (p : Entry → Bool) (l : List Entry) → find p l ≡ None → number p l ≡ 0
none_counted p [] h = refl
none_counted p (e ∷ es) h =
    elim (p e) as (λ t. cond t (Some e) (find p es) ≡ None → cond t 1 0 + number p es ≡ 0) [
      | true ↦ λ g. cc
      | false ↦ λ g. omega (arith, none_counted p es g)
    ] h

pub none_found : (p : Entry → Bool) (l : List Entry) → number p l ≡ 0 → find p l ≡ None
none_found p [] h = refl
none_found p (e ∷ es) h =
    elim (p e) as (λ t. cond t 1 0 + number p es ≡ 0 → cond t (Some e) (find p es) ≡ None) [
      | true ↦ λ g. absurd (omega (arith, g))
      | false ↦ λ g. none_found p es (omega (arith, g))
    ] h

no_hot : (m h c : ℕ) → (nat_lt m h || (c == 0)) ≡ true → h ≡ 0 → h + c ≡ 0
no_hot m h c asks none = grind (arith, nat_tests)

no_cold : (m h c : ℕ) → (nat_lt m h || (c == 0)) ≡ false → c ≡ 0 → ⊥
no_cold m h c asks none = grind (arith, nat_tests)

asks_none : (m h c : ℕ) → h + c ≡ 0 → (nat_lt m h || (c == 0)) ≡ true
asks_none m h c none = grind (arith, nat_tests)

pub asked_none : (s : ClockState) → asked_entry s ≡ None → NothingResident s
unfolding asked_entry
asked_none s h =
    elim (asks_hot s) as (λ t. asks_hot s ≡ t → cond t (find (λ e. is_hot e.kind) s.entries) (find (λ e. is_cold e.kind) (round (place_of s.cold_hand s.entries) s.entries)) ≡ None → NothingResident s) [
      | true ↦ λ asks g. no_hot (s.frames - s.share) (hot_count s.entries) (cold_count s.entries) asks (none_counted (λ e. is_hot e.kind) s.entries g)
      | false ↦ λ asks g. absurd (no_cold (s.frames - s.share) (hot_count s.entries) (cold_count s.entries) asks
          (sym (number-round (λ e. is_cold e.kind) (place_of s.cold_hand s.entries) s.entries) ∙ none_counted (λ e. is_cold e.kind) (round (place_of s.cold_hand s.entries) s.entries) g))
    ] refl h

pub none_asked : (s : ClockState) → NothingResident s → asked_entry s ≡ None
unfolding asked_entry
none_asked s h =
    rw (asks_none (s.frames - s.share) (hot_count s.entries) (cold_count s.entries) h) (none_found (λ e. is_hot e.kind) s.entries (omega arith))

-- the question is missing exactly where nothing is resident
pub no_question : (s : ClockState) → question_of s ≡ None → NothingResident s
unfolding question_of
no_question s h =
    elim (asked_entry s) as (λ f. asked_entry s ≡ f → found_key f ≡ None → NothingResident s) [
      | None ↦ λ is g. asked_none s is
      | Some x ↦ λ is g. cc
    ] refl h

pub question_none : (s : ClockState) → NothingResident s → question_of s ≡ None
unfolding question_of
question_none s h = rw (none_asked s h) refl

-- the entry that is asked is resident
pub asked_resident : (s : ClockState) (x : Entry) → asked_entry s ≡ Some x → (is_hot x.kind || is_cold x.kind) ≡ true
unfolding asked_entry
asked_resident s x h =
    elim (asks_hot s) as (λ t. cond t (find (λ e. is_hot e.kind) s.entries) (find (λ e. is_cold e.kind) (round (place_of s.cold_hand s.entries) s.entries)) ≡ Some x → (is_hot x.kind || is_cold x.kind) ≡ true) [
      | true ↦ λ g. rw (found_passes (λ e. is_hot e.kind) s.entries x g) refl
      | false ↦ λ g. or_right (is_hot x.kind) (is_cold x.kind) (found_passes (λ e. is_cold e.kind) (round (place_of s.cold_hand s.entries) s.entries) x g)
    ] h

resident_answered : (kind : EntryKind) (bit : Bit) (x : Entry) (s : ClockState) (e : Refusal) → (is_hot kind || is_cold kind) ≡ true → (kind_answered kind bit x s).1 ≡ Err e → ⊥
unfolding gone_on gives_up
resident_answered Hot bit x s e h g = cc
resident_answered Test Zero x s e h g = cc
resident_answered Test One x s e h g = cc
resident_answered Test Gone x s e h g = cc
resident_answered Cold Zero x s e h g = cc
resident_answered Cold One x s e h g = cc
resident_answered Cold Gone x s e h g = cc
resident_answered Shadow bit x s e h g = cc

-- an answer is refused where nothing is resident
pub answered_err : (bit : Bit) (s : ClockState) (e : Refusal) → (answered bit s).1 ≡ Err e → NothingResident s
unfolding answered
answered_err bit s e h =
    elim (asked_entry s) as (λ f. asked_entry s ≡ f → (entry_answered f (heeded s bit) s).1 ≡ Err e → NothingResident s) [
      | None ↦ λ is g. asked_none s is
      | Some x ↦ λ is g. absurd (resident_answered x.kind (heeded s bit) x s e (asked_resident s x is) g)
    ] refl h

pub none_answered : (bit : Bit) (s : ClockState) → NothingResident s → (answered bit s).1 ≡ Err NoQuestion
unfolding answered
none_answered bit s h = rw (none_asked s h) refl

-- the same of an answer that is the definition's
pub refused_nowhere : (bit : Bit) (s : ClockState) (r : Result Verdict Refusal) → r ≡ (answered bit s).1 → IsErr r ↔ NothingResident s
refused_nowhere bit s r exact = (
  (λ refused. elim r as (λ t. r ≡ t → IsErr t → NothingResident s) [
    | Ok v ↦ λ is e. cc
    | Err e ↦ λ is _. answered_err bit s e (sym exact ∙ is)
  ] refl refused),
  (λ none. rw (exact ∙ none_answered bit s none) refl),
)

pub asked_nowhere : (s : ClockState) (q : Option Key) → q ≡ question_of s → IsNone q ↔ NothingResident s
asked_nowhere s q exact = (
  (λ none. elim q as (λ t. q ≡ t → IsNone t → NothingResident s) [
    | None ↦ λ is _. no_question s (sym exact ∙ is)
    | Some k ↦ λ is e. cc
  ] refl none),
  (λ none. rw (exact ∙ question_none s none) refl),
)
