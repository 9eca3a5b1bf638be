use Rattle.std.proofs.Common.{rules}
use Rattle.arrayvec.proofs.ArrayVecLemmas.{filter-from_retain}
use Rattle.tlb_core.specs.Cache.{undoomed}
use Rattle.tlb_core.proofs.entries.keep_undoomed.Goals as goal

pub returns-clause-kept : goal.returns-clause-kept
unfolding undoomed
returns-clause-kept c = filter-from_retain _ _ _ (λ x b f' y called. search rules) _ _ c.retain.ensures.filtered
