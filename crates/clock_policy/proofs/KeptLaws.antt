-- What the calls keep: the number of frames, and, where pages are forgotten, that no more answers are left than were.
use Rattle.std.specs.Prelude.{◌≡◌, ℕ, ◌+◌, ◌-◌, ◌*◌, ◌≤◌, nat_lt, cond, Bool, true, false, not, Some, None, Result, Err, refl}
use Rattle.std.proofs.Common.{arith}
use Rattle.clock_policy.specs.declared.key.Key.{Key}
use Rattle.clock_policy.specs.declared.entry.Entry.{Entry}
use Rattle.clock_policy.specs.declared.entry.EntryKind.{EntryKind}
use Rattle.clock_policy.specs.declared.entry.EntryKind.TheVariants.{Hot, Test, Cold, Shadow}
use Rattle.clock_policy.specs.declared.answer.Bit.{Bit}
use Rattle.clock_policy.specs.declared.answer.Bit.TheVariants.{Zero, One, Gone}
use Rattle.clock_policy.specs.declared.refusal.Refusal.{Refusal}
use Rattle.clock_policy.specs.ClockPro.{ClockState, place, is_hot, is_cold, shadow_count, relisted, removed, appended, marked, sent_to_end, grown, fallen, turned_to, cold_hand_on, shadowed, trimmed, trimmed_once, asked_entry, gone_on, gives_up, heeded, kind_answered, entry_answered, answered, is_full, kind_of, kind_admitted, admitted, kind_restored, restored, kind_withdrawn, withdrawn, is_of_process, purged}
use Rattle.clock_policy.specs.Bound.{answers_left}
use Rattle.clock_policy.proofs.CountLaws.{number-without_le, number-filter}

-- The frames.

trimmed_frames : (s : ClockState) → (trimmed s).frames ≡ s.frames
unfolding trimmed trimmed_once relisted fallen
trimmed_frames s =
    elim (nat_lt s.frames (shadow_count s.entries)) as (λ t. (cond t (trimmed_once s) s).frames ≡ s.frames) [ true ↦ refl | false ↦ refl ]

kind_frames : (kind : EntryKind) (bit : Bit) (x : Entry) (s : ClockState) → (kind_answered kind bit x s).0.frames ≡ s.frames
unfolding gone_on gives_up turned_to fallen shadowed marked grown sent_to_end appended removed relisted cold_hand_on
kind_frames Hot bit x s = refl
kind_frames Test Zero x s = trimmed_frames (shadowed x.key s)
kind_frames Test One x s = refl
kind_frames Test Gone x s = refl
kind_frames Cold Zero x s = trimmed_frames (removed x.key (cold_hand_on x.key s))
kind_frames Cold One x s = refl
kind_frames Cold Gone x s = refl
kind_frames Shadow bit x s = refl

pub answered_frames : (bit : Bit) (s : ClockState) → (answered bit s).0.frames ≡ s.frames
unfolding answered
answered_frames bit s =
    elim (asked_entry s) as (λ found. (entry_answered found (heeded s bit) s).0.frames ≡ s.frames) [
      | None ↦ refl
      | Some x ↦ kind_frames x.kind (heeded s bit) x s
    ]

-- a refusal where the list is full, and else the move
cond_frames : {T : Type 0} (full : Bool) (s new : ClockState) (e : Refusal) (r : Result T Refusal) → new.frames ≡ s.frames → (cond {A = ClockState × Result T Refusal} full (s, Err e) (new, r)).0.frames ≡ s.frames
cond_frames true s new e r h = refl
cond_frames false s new e r h = h

pub admitted_frames : (k : Key) (s : ClockState) → (admitted k s).0.frames ≡ s.frames
unfolding admitted grown sent_to_end appended removed relisted
admitted_frames k s =
    elim (kind_of k s.entries) as (λ f. (kind_admitted f k s).0.frames ≡ s.frames) [
      | None ↦ cond_frames (is_full s) s _ _ _ refl
      | Some t ↦ elim t as (λ t. (kind_admitted (Some t) k s).0.frames ≡ s.frames) [
        | Hot ↦ refl
        | Test ↦ refl
        | Cold ↦ refl
        | Shadow ↦ cond_frames (is_full s) s _ _ _ refl
      ]
    ]

pub restored_frames : (k : Key) (s : ClockState) → (restored k s).0.frames ≡ s.frames
unfolding restored appended marked
restored_frames k s =
    elim (kind_of k s.entries) as (λ f. (kind_restored f k s).0.frames ≡ s.frames) [
      | None ↦ cond_frames (is_full s) s _ _ _ refl
      | Some t ↦ elim t as (λ t. (kind_restored (Some t) k s).0.frames ≡ s.frames) [
        | Hot ↦ refl
        | Test ↦ refl
        | Cold ↦ refl
        | Shadow ↦ cond_frames (is_full s) s _ _ _ refl
      ]
    ]

pub withdrawn_frames : (k : Key) (s : ClockState) → (withdrawn k s).0.frames ≡ s.frames
unfolding withdrawn removed relisted
withdrawn_frames k s =
    elim (kind_of k s.entries) as (λ f. (kind_withdrawn f k s).0.frames ≡ s.frames) [ None ↦ refl | Some t ↦ refl ]

pub purged_frames : (process : ℕ) (s : ClockState) → (purged process s).frames ≡ s.frames
unfolding purged relisted
purged_frames process s = refl

-- The answers that are left.

left_under : (m a h c h' c' : ℕ) → h' ≤ h → c' ≤ c → cond (nat_lt a (3 * m)) (5 * m - a) (2 * h' + c') ≤ cond (nat_lt a (3 * m)) (5 * m - a) (2 * h + c)
left_under m a h c h' c' hots colds =
    elim (nat_lt a (3 * m)) as (λ t. cond t (5 * m - a) (2 * h' + c') ≤ cond t (5 * m - a) (2 * h + c)) [ true ↦ omega arith | false ↦ omega arith ]

removed_left : (k : Key) (s : ClockState) → answers_left (removed k s) ≤ answers_left s
unfolding removed relisted
removed_left k s =
    left_under s.frames s.asked _ _ _ _ (number-without_le (λ e. is_hot e.kind) s.entries (place k s.entries)) (number-without_le (λ e. is_cold e.kind) s.entries (place k s.entries))

pub withdrawn_left : (k : Key) (s : ClockState) → answers_left (withdrawn k s).0 ≤ answers_left s
unfolding withdrawn
withdrawn_left k s =
    elim (kind_of k s.entries) as (λ f. answers_left (kind_withdrawn f k s).0 ≤ answers_left s) [ None ↦ omega arith | Some t ↦ removed_left k s ]

pub purged_left : (process : ℕ) (s : ClockState) → answers_left (purged process s) ≤ answers_left s
unfolding purged relisted
purged_left process s =
    let q : Entry → Bool = λ e. not (is_of_process process e) in
    left_under s.frames s.asked _ _ _ _ (number-filter (λ e. is_hot e.kind) q s.entries) (number-filter (λ e. is_cold e.kind) q s.entries)

-- the same of a state that is the definition's

pub withdrawn_left_at : (k : Key) (old new : ClockState) → new ≡ (withdrawn k old).0 → answers_left new ≤ answers_left old
withdrawn_left_at k old new moved = rw moved (withdrawn_left k old)

pub purged_left_at : (process : ℕ) (old new : ClockState) → new ≡ purged process old → answers_left new ≤ answers_left old
purged_left_at process old new moved = rw moved (purged_left process old)
