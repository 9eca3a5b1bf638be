-- What the calls keep: a refused one everything, any other what the policy keeps.
use Rattle.std.specs.Prelude.{◌≡◌, ℕ, suc, ◌+◌, true, false, not, cond, filter, Result, Ok, Err, OnOk, OnErr, List, [], ◌∷◌, length, refl}
use Rattle.std.proofs.Common.{arith, ap, ◌∙◌, subst, sym}
use Rattle.clock_policy.specs.declared.entry.Entry.{Entry}
use Rattle.clock_policy.specs.declared.refusal.Refusal.{Refusal}
use Rattle.clock_policy.specs.ClockPro.{ClockState, number, is_of_process, purged, purge_count, relisted}
use Rattle.clock_policy.specs.Lawful.{Lawful}

-- what a purge takes, and what it leaves
pub purge_length : (process : ℕ) (s : ClockState) → length (purged process s).entries + purge_count process s ≡ length s.entries
unfolding purged relisted
purge_length process s = left process s.entries
  where
    left : (process : ℕ) (l : List Entry) → length (filter (λ e. not (is_of_process process e)) l) + number (is_of_process process) l ≡ length l
    left process [] = refl
    left process (e ∷ es) =
        elim (is_of_process process e) as (λ t. length (cond (not t) (e ∷ filter (λ e. not (is_of_process process e)) es) (filter (λ e. not (is_of_process process e)) es)) + (cond t 1 0 + number (is_of_process process) es) ≡ suc (length es)) [
          | true ↦ omega (arith, left process es)
          | false ↦ omega (arith, left process es)
        ]

pub purge_left : (process : ℕ) (old new : ClockState) → new ≡ purged process old → length new.entries + purge_count process old ≡ length old.entries
purge_left process old new moved = ap (λ (s : ClockState). length s.entries + purge_count process old) moved ∙ purge_length process old
