-- A profile after one more step.
use Rattle.std.proofs.Common.{◌≡◌, ℕ, map, slice_get, Option, Some, None, Result, Ok, Err, sym, ap, ◌∙◌, subst}
use Rattle.page_memory.specs.declared.fault.MemoryFault.{MemoryFault}
use Rattle.rv_isa.specs.declared.instruction.Insn.{Insn}
use Rattle.rv_isa.specs.Table.{insn_of}
use Rattle.guest_steps.specs.Accesses.{accessed}
use Rattle.guest_steps.specs.Flows.{flow_of}
use Rattle.guest_steps.specs.declared.told_step.ToldStep.{ToldStep}
use Rattle.guest_profile.specs.declared.call_site.CallSite.{CallSite}
use Rattle.guest_profile.specs.declared.profile.Profile.{Profile}
use Rattle.guest_profile.specs.Accounts.{Account, IsAccount, after, after_fetch, after_insn, insns_after, step_jump, step_sums}
use Rattle.guest_profile.specs.Calls.{hart_call_after, followed, calls_of, hart_calls}
use Rattle.guest_profile.specs.Counting.{counts_of}
use Rattle.guest_profile.specs.Pages.{used_by}
use Rattle.guest_profile.specs.UsedPagesOf.{use_of}

-- an instruction's counts go on alike
insns_kept : (old : Profile) (account : Account) (told : ToldStep) (word at : ℕ) → IsAccount old account
    → insns_after told word (map hart_calls old.stacks.items) at (counts_of old.insns at) ≡ insns_after told word account.harts at (account.insns at)
insns_kept old account told word at kept =
    ap (λ h. insns_after told word h at (counts_of old.insns at)) kept.harts
    ∙ ap (insns_after told word account.harts at) (kept.insns at)

-- no word could be fetched
pub no_word : (profile : Profile) (told : ToldStep) (account : Account) (fault : MemoryFault) → told.word ≡ Err fault → IsAccount profile account → IsAccount profile (after told account)
unfolding after
no_word profile told account fault is kept = subst (λ (r : Result ℕ MemoryFault). IsAccount profile (after_fetch r told account)) (sym is) kept

-- the word is no instruction
pub no_insn : (old new : Profile) (told : ToldStep) (account : Account) (word : ℕ) → told.word ≡ Ok word → insn_of word ≡ None
    → ((at : ℕ) → counts_of new.insns at ≡ insns_after told word (map hart_calls old.stacks.items) at (counts_of old.insns at))
    → new.calls ≡ old.calls → new.pages ≡ old.pages → new.stacks ≡ old.stacks
    → IsAccount old account → IsAccount new (after told account)
unfolding after
no_insn old new told account word is none insns calls pages stacks kept =
    subst (λ (r : Result ℕ MemoryFault). IsAccount new (after_fetch r told account)) (sym is)
    (subst (λ (o : Option Insn). IsAccount new (after_insn o word told account)) (sym none)
    (record {
      insns = λ at. insns at ∙ insns_kept old account told word at kept;
      calls = λ site. ap (λ c. calls_of c site) calls ∙ kept.calls site;
      pages = λ page. ap (λ p. use_of p page) pages ∙ kept.pages page;
      harts = ap (λ s. map hart_calls s.items) stacks ∙ kept.harts;
    }))

-- it is one
pub insn_counted : (old new : Profile) (told : ToldStep) (account : Account) (word : ℕ) (insn : Insn) → told.word ≡ Ok word → insn_of word ≡ Some insn
    → ((at : ℕ) → counts_of new.insns at ≡ insns_after told word (map hart_calls old.stacks.items) at (counts_of old.insns at))
    → ((site : CallSite) → calls_of new.calls site ≡ hart_call_after (slice_get (map hart_calls old.stacks.items) told.hart) (flow_of insn) (step_jump (step_sums insn told) told) site (calls_of old.calls site))
    → ((page : ℕ) → use_of new.pages page ≡ used_by (accessed told.before insn) page (use_of old.pages page))
    → map hart_calls new.stacks.items ≡ followed told.hart (flow_of insn) (step_jump (step_sums insn told) told) (map hart_calls old.stacks.items)
    → IsAccount old account → IsAccount new (after told account)
unfolding after
insn_counted old new told account word insn is some insns calls pages harts kept =
    subst (λ (r : Result ℕ MemoryFault). IsAccount new (after_fetch r told account)) (sym is)
    (subst (λ (o : Option Insn). IsAccount new (after_insn o word told account)) (sym some)
    (record {
      insns = λ at. insns at ∙ insns_kept old account told word at kept;
      calls = λ site.
          calls site
          ∙ ap (λ h. hart_call_after (slice_get h told.hart) (flow_of insn) (step_jump (step_sums insn told) told) site (calls_of old.calls site)) kept.harts
          ∙ ap (hart_call_after (slice_get account.harts told.hart) (flow_of insn) (step_jump (step_sums insn told) told) site) (kept.calls site);
      pages = λ page. pages page ∙ ap (used_by (accessed told.before insn) page) (kept.pages page);
      harts = harts ∙ ap (followed told.hart (flow_of insn) (step_jump (step_sums insn told) told)) kept.harts;
    }))
