use Rattle.std.proofs.Common.{sym, subst, inr}
use Rattle.sv32_table.specs.EntryAt.{entry_at, ChangesEntry, walked_entry}
use Rattle.paged_memory.proofs.access_laws.WalkLaws.{Walked, walk_done}
use Rattle.paged_memory.proofs.access.walk.Given.{Over}
use Rattle.paged_memory.proofs.access.walk.Goals as goal

done : (g : Over) (c : goal.After-fill g) → Walked g.S.SwapSlot.content g.S.SwapSlot.honest c.args.pages.now c.args.tables.now c.walk-walked.new.self c.args.caches.now c.fill.new.self c.args.hart c.args.access c.args.page c.in_ok-place.field-0.place
done g c =
    let entries = subst (λ n. ChangesEntry c.args.tables.now c.walk-walked.new.self n (walked_entry (entry_at c.args.tables.now n) c.args.access)) (sym c.requires.page) c.walk-walked.ensures.entries in
    walk_done c.walk-walked.new.self c.fill.new.self c.args.page c.args.hart c.in_ok-place.field-0.place c.in_ok-place.field-0.frame c.in_ok-place.field-0.rights c.is_dirty_after-dirty.result c.args.access c.requires.small c.requires.hart c.requires.holds c.in_ok-place.ensures.found entries c.walk-walked.ensures.tables c.is_dirty_after-dirty.ensures c.fill.ensures.apart c.requires.missed c.fill.ensures.filled

pub returns-clause-holds : goal.returns-clause-holds
returns-clause-holds g c = (done g c).holds

pub returns-clause-reaches : goal.returns-clause-reaches
returns-clause-reaches g c = (done g c).reaches

pub returns-clause-hits : goal.returns-clause-hits
returns-clause-hits g c = (done g c).hits

pub returns-clause-kept : goal.returns-clause-kept
returns-clause-kept g c = (done g c).kept

pub returns-clause-used : goal.returns-clause-used
returns-clause-used g c = (done g c).used

pub returns-clause-dirtied : goal.returns-clause-dirtied
returns-clause-dirtied g c = (done g c).dirtied

pub returns-clause-entries : goal.returns-clause-entries
returns-clause-entries g c = inr (subst (λ n. ChangesEntry c.args.tables.now c.walk-walked.new.self n (walked_entry (entry_at c.args.tables.now n) c.args.access)) (sym c.requires.page) c.walk-walked.ensures.entries)
