-- The bound on how long the questions go on with no victim.
use Rattle.std.specs.Prelude.{◌≡◌, ℕ, ◌+◌, ◌-◌, ◌*◌, cond, nat_lt, Option, Some, None, List, [], ◌∷◌, Result, Ok, Err}
use Rattle.clock_policy.specs.declared.key.Key.{Key}
use Rattle.clock_policy.specs.declared.answer.Bit.{Bit}
use Rattle.clock_policy.specs.declared.answer.Verdict.{Verdict}
use Rattle.clock_policy.specs.declared.answer.Verdict.TheVariants.{GoOn, Victim}
use Rattle.clock_policy.specs.declared.refusal.Refusal.{Refusal}
use Rattle.clock_policy.specs.ClockPro.{ClockState, hot_count, cold_count, answered}

-- At most so many answers are left before one names a victim or nothing is resident: while fewer than three answers a frame came since
-- the last victim, what is missing to five a frame. Then each use counts for nothing, so that a hot page is answered twice and a cold
-- one once.
abbrev pub answers_left : ClockState → ℕ
answers_left s = cond (nat_lt s.asked (3 * s.frames)) (5 * s.frames - s.asked) (2 * hot_count s.entries + cold_count s.entries)

abbrev pub NothingResident : ClockState → Type 0
NothingResident s = hot_count s.entries + cold_count s.entries ≡ 0

-- The answers in a row, up to the first that names a victim or is refused.

abbrev pub run_on : Result Verdict Refusal → (ClockState → ClockState) → ClockState → ClockState
run_on (Ok GoOn) more s = more s
run_on (Ok (Victim k)) more s = s
run_on (Err e) more s = s

abbrev pub run_state : List Bit → ClockState → ClockState
run_state [] s = s
run_state (b ∷ bs) s = run_on (answered b s).1 (run_state bs) (answered b s).0

abbrev pub victim_on : Result Verdict Refusal → (ClockState → Option Key) → ClockState → Option Key
victim_on (Ok GoOn) more s = more s
victim_on (Ok (Victim k)) more s = Some k
victim_on (Err e) more s = None

abbrev pub run_victim : List Bit → ClockState → Option Key
run_victim [] s = None
run_victim (b ∷ bs) s = victim_on (answered b s).1 (run_victim bs) (answered b s).0
