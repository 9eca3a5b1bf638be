use Rattle.std.proofs.Common.{subst, inl, inr}
use Rattle.page_memory.specs.Words.{page_number}
use Rattle.tlb_core.specs.Cache.{Hits}
use Rattle.paged_memory.specs.access.Access.{cache_of}
use Rattle.paged_memory.specs.access.OnePage.{ReachesPage}
use Rattle.paged_memory.proofs.access_laws.OnePageLaws.{on_answer, on_place, reaches_at_once}
use Rattle.paged_memory.proofs.access.hit_or_walk.Goals as goal

pub returns-in-Ok-clause-reached : goal.returns-in-Ok-clause-reached
returns-in-Ok-clause-reached g c =
    let hits = subst (λ n. Hits (cache_of c.args.caches.now c.args.hart) c.args.access n c.in-Ok.place) c.page_of-page.ensures.number c.in-Ok.ensures.hits in
    reaches_at_once (page_number c.args.address) c.args.hart c.in-Ok.place c.args.access c.requires.holds c.requires.hart hits

pub returns-in-Err-clause-reached : goal.returns-in-Err-clause-reached
returns-in-Err-clause-reached g c =
    let walked = c.walk.ensures in
    subst (λ n. ReachesPage c.args.hart c.args.access n c.walk.result c.args.pages.now c.args.tables.now c.walk.new.tables c.args.caches.now c.walk.new.caches) c.page_of-page.ensures.number (record {
      reaches = walked.reaches;
      refused = walked.refused;
      has = walked.has;
      marked = on_answer c.walk.result inl walked.used;
      uses = record { held = λ place hits. absurd (c.in-Err.ensures.none place hits); kept = walked.kept; entries = walked.entries; unmarked = walked.unmarked; unfilled = walked.unfilled; served = λ serves. absurd (c.in-Err.ensures.none serves.place serves.hits); shown = on_place c.walk.result (λ place hits. record { place = place; hits = hits }) walked.hits; dirtied = λ is. on_answer c.walk.result inr (walked.dirtied is) };
    })
