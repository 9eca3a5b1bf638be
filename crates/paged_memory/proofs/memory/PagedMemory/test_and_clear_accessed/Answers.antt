use Rattle.std.proofs.Common.{sym, ap, ◌∙◌}
use Rattle.paged_memory.specs.Paged.{PagedValue}
use Rattle.paged_memory.specs.Whole.{accessed_in}
use Rattle.paged_memory.proofs.access_laws.CallLaws.{accessed_by_entry, resident_by_entry, accessed_cleared}
use Rattle.paged_memory.proofs.memory.PagedMemory.test_and_clear_accessed.Goals as goal

pub invariant_of-self-in-Some : goal.invariant_of-self-in-Some
invariant_of-self-in-Some g c =
    rw c.doom.ensures (accessed_cleared c.args.vpn c.requires c.self.invariant (resident_by_entry c.args.vpn c.requires c.self.invariant c.in-Some.accessed (sym c.test_and_clear_accessed.ensures.answer ∙ c.in-Some.is)) c.test_and_clear_accessed.ensures.entries c.test_and_clear_accessed.ensures.tables)

pub returns-in-None-clause-answer : goal.returns-in-None-clause-answer
returns-in-None-clause-answer g c =
    sym c.in-None.is ∙ c.test_and_clear_accessed.ensures.answer ∙ accessed_by_entry c.args.vpn c.requires c.self.invariant ∙ ap (λ (m : PagedValue _). accessed_in m c.args.vpn) c.self.view_is

pub returns-in-Some-clause-answer : goal.returns-in-Some-clause-answer
returns-in-Some-clause-answer g c =
    sym c.in-Some.is ∙ c.test_and_clear_accessed.ensures.answer ∙ accessed_by_entry c.args.vpn c.requires c.self.invariant ∙ ap (λ (m : PagedValue _). accessed_in m c.args.vpn) c.self.view_is
