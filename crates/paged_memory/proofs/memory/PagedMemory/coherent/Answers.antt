use Rattle.std.proofs.Common.{subst}
use Rattle.paged_memory.specs.Coherence.{HoldsFramed, CopiesUnmarked, WalksLead}
use Rattle.paged_memory.proofs.CoherenceLaws.{holds_framed, copies_unmarked, walks_lead}
use Rattle.paged_memory.proofs.memory.PagedMemory.coherent.Goals as goal

pub returns-clause-framed : goal.returns-clause-framed
returns-clause-framed g c = subst (λ v. HoldsFramed v.pages v.caches) c.self.view_is (holds_framed c.self.invariant)

pub returns-clause-unmarked : goal.returns-clause-unmarked
returns-clause-unmarked g c = subst (λ v. CopiesUnmarked v.pages v.tables v.caches) c.self.view_is (copies_unmarked c.self.invariant)

pub returns-clause-walks : goal.returns-clause-walks
returns-clause-walks g c = subst (λ v. WalksLead v.pages v.tables) c.self.view_is (walks_lead c.self.invariant c.translates.ensures)
