use Rattle.std.proofs.Common.{true, false, ap, ◌∙◌, ◌==◌}
use Rattle.std.specs.Prelude.{if◌then◌else◌}
use Rattle.page_memory.specs.Pages.{Page}
use Rattle.sv32_table.specs.Entry.{page_entry}
use Rattle.sv32_table.specs.EntryAt.{entry_at}
use Rattle.sv32_table.proofs.EntryLaws.{leaf_entry-page_entry}
use Rattle.paged_memory.proofs.filling.bring_page_in.Goals as goal

pub returns-in-Ok-clause-entries : goal.returns-in-Ok-clause-entries
returns-in-Ok-clause-entries g c q in_range =
    c.in-Ok.ensures.ok q in_range
    ∙ ap (λ e. if q == c.args.vpn then e else entry_at c.args.tables.now q)
    (leaf_entry-page_entry c.number-number.result c.rights.result true ∙ ap (λ n. page_entry n c.rights.result true false) c.number-number.ensures.number
    ∙ ap (λ r. page_entry c.args.frame.number r true false) (c.rights.ensures ∙ ap (λ (o : Page). o.rights) c.fill.ensures.origin))
