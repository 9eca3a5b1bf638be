use Rattle.std.proofs.Common.{List, subst}
use Rattle.tlb_core.specs.declared.translation.Translation.{Translation}
use Rattle.tlb_core.specs.Crowds.{Counts, pages_of}
use Rattle.tlb_core.proofs.Places.{one_per_page_undoomed}
use Rattle.tlb_core.proofs.ReadyLaws.{nothing_ready}
use Rattle.tlb_core.proofs.tlb.Tlb.drop_marked.Goals as goal

pub invariant_of-self : goal.invariant_of-self
invariant_of-self c = record { one = one_per_page_undoomed _ _ c.self.invariant.one c.keep_undoomed.ensures; shows = nothing_ready c.keep_undoomed.new.self c.new-self-inside.result c.new-self-inside.ensures; counted = subst (λ (l : List Translation). Counts c.crowds_of-self-inside.result.counts (pages_of l)) c.as_slice-2.ensures.entries c.crowds_of-self-inside.ensures }
