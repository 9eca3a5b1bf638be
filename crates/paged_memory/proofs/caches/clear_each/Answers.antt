use Rattle.std.proofs.Common.{◌<◌, length, ap, ◌∙◌, arith, [], slice_set, List}
use Rattle.tlb_core.specs.declared.translation.Translation.{Translation}
use Rattle.paged_memory.proofs.Mapping.{overwritten_more}
use Rattle.paged_memory.proofs.caches.clear_each.Goals as goal

pub loop-cache-preserved : goal.loop-cache-preserved
loop-cache-preserved c =
    let within : c.loop-cache.cache-index < length c.args.caches.now = omega arith in
    ap (λ (w : List Translation). slice_set c.loop-cache.caches c.loop-cache.cache-index w) c.clear.ensures
    ∙ ap (λ (l : List (List Translation)). slice_set l c.loop-cache.cache-index []) c.loop-cache.invariant
    ∙ overwritten_more [] c.args.caches.now c.loop-cache.cache-index within
