-- A question of the list and its answer: what it does to the pager and to the process that is asked for a page.
use Rattle.std.specs.Prelude.{◌≡◌, ℕ, ◌^◌, Bool, true, false, cond, nat_lt, Option, Some, None, Ok}
use Rattle.clock_policy.specs.declared.key.Key.{Key}
use Rattle.clock_policy.specs.declared.answer.Bit.{Bit}
use Rattle.clock_policy.specs.declared.answer.Bit.TheVariants.{Zero, One, Gone}
use Rattle.clock_policy.specs.declared.answer.Verdict.{Verdict}
use Rattle.clock_policy.specs.declared.answer.Verdict.TheVariants as verdict
use Rattle.clock_policy.specs.ClockPro.{question_of, answered}
use Rattle.paged_memory.specs.moves.Moving.{ForgetsUse, BeginsToLeave}
use Rattle.paged_memory.specs.Whole.{accessed_in}
use Rattle.pager_core.specs.Pager.{pager_answered}
use Rattle.space_core.specs.StandsFor.{SpaceValue}
use Rattle.machine_sides.specs.Sides.{PagerSideValue, MovesMemory}
use Rattle.machine_sides.specs.declared.sweeping.Swept.{Swept}
use Rattle.machine_sides.specs.declared.sweeping.Swept.TheVariants.{NothingResident, Asked, Victim}

-- a page's accessed bit as an answer: a page that is not resident is gone
abbrev pub bit_of : Option Bool → Bit
bit_of None = Gone
bit_of (Some false) = Zero
bit_of (Some true) = One

module _ {S : Type 0} where
  -- the accessed bit of the page of a number, whatever the number
  abbrev pub bit_at : SpaceValue S → ℕ → Bit
  bit_at space vpn = cond (nat_lt vpn (2 ^ 20)) (bit_of (accessed_in space.memory vpn)) Gone

  -- a page's accessed bit is cleared, and its translations are to be dropped
  abbrev pub Clears : ℕ → SpaceValue S → SpaceValue S → Type 0
  Clears vpn old new = MovesMemory (ForgetsUse vpn) old new

  -- a page's accessed bit is read and cleared
  abbrev pub ReadsBit : Bit → ℕ → SpaceValue S → SpaceValue S → Type 0
  ReadsBit Gone vpn old new = new ≡ old
  ReadsBit Zero vpn old new = Clears vpn old new
  ReadsBit One vpn old new = Clears vpn old new

  -- a page begins to leave its frame
  abbrev pub Evicts : ℕ → SpaceValue S → SpaceValue S → Type 0
  Evicts vpn old new = MovesMemory (BeginsToLeave vpn) old new

  -- what becomes of the process: a victim's page leaves
  abbrev pub HeedsVerdict : Verdict → ℕ → SpaceValue S → SpaceValue S → Type 0
  HeedsVerdict verdict.GoOn vpn old new = new ≡ old
  HeedsVerdict (verdict.Victim key) vpn old new = Evicts vpn old new

  -- the question names a page, whose accessed bit is read and cleared and is the answer; at a victim the page leaves
  pub record AnswersQuestion (pager pager' : PagerSideValue) (process process' : SpaceValue S) (key : Key) (bit : Bit) (verdict : Verdict) : Type 0 where
    pub question : question_of pager.pager.list ≡ Some key
    pub told : (answered bit pager.pager.list).1 ≡ Ok verdict
    pub pager_is : pager' ≡ record pager { pager = pager_answered bit pager.pager }
    pub bit_is : bit_at process key.vpn ≡ bit
    pub between : SpaceValue S
    pub read : ReadsBit bit key.vpn process between
    pub heeded : HeedsVerdict verdict key.vpn between process'

  abbrev pub Sweeps : PagerSideValue → PagerSideValue → SpaceValue S → SpaceValue S → Swept → Type 0
  Sweeps pager pager' process process' NothingResident = (question_of pager.pager.list ≡ None) × ((pager' ≡ pager) × (process' ≡ process))
  Sweeps pager pager' process process' (Asked key bit) = AnswersQuestion pager pager' process process' key bit verdict.GoOn
  Sweeps pager pager' process process' (Victim key) = (bit : Bit) × AnswersQuestion pager pager' process process' key bit (verdict.Victim key)
