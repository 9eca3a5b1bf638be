-- What is counted of the steps of a process.
use Rattle.std.specs.Prelude.{◌≡◌, ℕ, ◌==◌, Bool, not, List, [], ◌∷◌, map, replicate, slice_get, Option, Some, None, Result, Ok, Err}
use Rattle.page_memory.specs.declared.fault.MemoryFault.{MemoryFault}
use Rattle.rv_isa.specs.declared.instruction.Insn.{Insn}
use Rattle.rv_isa.specs.Table.{insn_of}
use Rattle.rv_exec.specs.Registers.{next_pc, register}
use Rattle.guest_steps.specs.Accesses.{accessed}
use Rattle.guest_steps.specs.Flows.{flow_of}
use Rattle.guest_steps.specs.declared.told_step.ToldStep.{ToldStep}
use Rattle.guest_profile.specs.Calls.{HartCalls, no_calls, hart_call_after, hart_level, followed, all_ended, none_pending, calls_of, hart_calls}
use Rattle.guest_profile.specs.Counting.{counted, counts_of}
use Rattle.guest_profile.specs.Pages.{used_by}
use Rattle.guest_profile.specs.Sums.{step_of}
use Rattle.guest_profile.specs.UsedPagesOf.{use_of}
use Rattle.guest_profile.specs.declared.call_site.CallCount.{CallCount}
use Rattle.guest_profile.specs.declared.call_site.CallSite.{CallSite}
use Rattle.guest_profile.specs.declared.call_site.Jump.{Jump}
use Rattle.guest_profile.specs.declared.insn_counts.InsnTally.{InsnTally}
use Rattle.guest_profile.specs.declared.profile.Profile.{Profile}
use Rattle.guest_profile.specs.declared.sums.Sums.{Sums}

-- of each instruction by its address, of each call, of each page whether it was stored to, where it was used, and of each hart the calls
-- that have not returned
pub record Account : Type 0 where
  pub insns : ℕ → Option InsnTally
  pub calls : CallSite → Option CallCount
  pub pages : ℕ → Option Bool
  pub harts : List HartCalls

-- before the first step
abbrev pub nothing : Account
nothing = record { insns = λ at. None; calls = λ site. None; pages = λ page. None; harts = replicate 8 no_calls }

-- whether a hart goes on elsewhere than at the instruction after this one
abbrev pub is_taken : ToldStep → Bool
is_taken told = not (told.after.pc == next_pc told.before)

-- what a step of an instruction does, in numbers
abbrev pub step_sums : Insn → ToldStep → Sums
step_sums insn told = step_of insn (is_taken told)

-- a step that does this as a jump: where it is, where its hart goes on, and its stack pointer (x2) then
abbrev pub step_jump : Sums → ToldStep → Jump
step_jump step told = record { site = told.before.pc; target = told.after.pc; sp = register told.after 2; step = step }

-- a step of an instruction's word, at the level of its hart's last pending call
abbrev pub insns_after : ToldStep → ℕ → List HartCalls → ℕ → Option InsnTally → Option InsnTally
insns_after told word harts at tally = counted told.before.pc word (is_taken told) (hart_level (slice_get harts told.hart) == 2) at tally

-- A step of the instruction that the word is. Of a word that is no instruction only the word is counted: its step is a trap.
abbrev pub after_insn : Option Insn → ℕ → ToldStep → Account → Account
after_insn None word told account =
    record { insns = λ at. insns_after told word account.harts at (account.insns at); calls = account.calls; pages = account.pages; harts = account.harts }
after_insn (Some insn) word told account =
    record {
      insns = λ at. insns_after told word account.harts at (account.insns at);
      calls = λ site. hart_call_after (slice_get account.harts told.hart) (flow_of insn) (step_jump (step_sums insn told) told) site (account.calls site);
      pages = λ page. used_by (accessed told.before insn) page (account.pages page);
      harts = followed told.hart (flow_of insn) (step_jump (step_sums insn told) told) account.harts;
    }

-- a step, of which the fetch gave this; where it gave no word, none of an instruction
abbrev pub after_fetch : Result ℕ MemoryFault → ToldStep → Account → Account
after_fetch (Err fault) told account = account
after_fetch (Ok word) told account = after_insn (insn_of word) word told account

-- what is counted after one more step
unfoldable pub after : ToldStep → Account → Account
after told account = after_fetch told.word told account

-- and when the run is over: all calls are over
unfoldable pub closed : Account → Account
closed account = record { insns = account.insns; calls = λ site. all_ended account.harts site (account.calls site); pages = account.pages; harts = map none_pending account.harts }

-- what is counted of some steps, one after the other, after what was counted before
unfoldable pub after_all : List ToldStep → Account → Account
after_all [] account = account
after_all (told ∷ later) account = after_all later (after told account)

-- a profile is this account
pub record IsAccount (profile : Profile) (account : Account) : Type 0 where
  pub insns : (at : ℕ) → counts_of profile.insns at ≡ account.insns at
  pub calls : (site : CallSite) → calls_of profile.calls site ≡ account.calls site
  pub pages : (page : ℕ) → use_of profile.pages page ≡ account.pages page
  pub harts : map hart_calls profile.stacks.items ≡ account.harts
