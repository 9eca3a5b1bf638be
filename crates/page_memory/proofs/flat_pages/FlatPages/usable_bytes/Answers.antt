use Rattle.std.proofs.Common.{◌≡◌, ◌/◌, Ok, Some, sym, ap, ◌∙◌, arith}
use Rattle.page_memory.specs.Words.{page_number}
use Rattle.page_memory.specs.Entries.{place_of, value_at}
use Rattle.page_memory.specs.Pages.{Page, answer_by, usable}
use Rattle.page_memory.proofs.RememberedLaws.{stands_of}
use Rattle.page_memory.proofs.PageRows.{had, not_usable, usable_there}
use Rattle.page_memory.proofs.flat_pages.FlatPages.usable_bytes.Goals as goal

pub returns-in-Err-clause-bytes : goal.returns-in-Err-clause-bytes
returns-in-Err-clause-bytes c =
    ap (λ m. usable m c.args.access c.args.address) (sym c.self.view_is)
    ∙ not_usable c.self.inside.pages c.args.access c.args.address c.page_of.result c.in-Err.fault c.page_of.ensures.number c.in-Err.ensures.fault

pub returns-in-Ok-clause-bytes : goal.returns-in-Ok-clause-bytes
returns-in-Ok-clause-bytes c =
    let there : place_of (page_number c.args.address) c.self.inside.pages ≡ Some c.in-Ok.place = ap (λ n. place_of n c.self.inside.pages) (sym c.page_of.ensures.number) ∙ c.in-Ok.ensures.place in
    let stands = stands_of c.args.access c.self.inside.pages (page_number c.args.address) c.in-Ok.place c.in-Ok.ensures.within there c.in-Ok.ensures.allowed in
    let got = had (λ (page : Page). page.bytes ≡ c.bytes.result.now) (value_at (c.first.result / 4096) c.self.inside.pages) c.bytes.ensures.bytes in
    let same : c.in-Ok.place ≡ c.first.result / 4096 = omega (arith, c.first.ensures) in
    ap (λ m. answer_by (λ (page : Page). page.bytes) (usable m c.args.access c.args.address)) (sym c.self.view_is)
    ∙ ap (answer_by (λ (page : Page). page.bytes)) (usable_there c.args.access c.self.inside.pages c.args.address c.in-Ok.place got.0 stands (ap (λ k. value_at k c.self.inside.pages) same ∙ got.1.0)) ∙ ap Ok got.1.1
