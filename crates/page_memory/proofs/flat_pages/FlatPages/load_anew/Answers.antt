use Rattle.std.proofs.Common.{◌≡◌, ◌/◌, List, ℕ, Ok, Some, drop, sym, ap, ◌∙◌, rules, arith}
use Rattle.byteorder.specs.Endian.{little_number}
use Rattle.page_memory.specs.declared.words.Access.TheVariants.{Load}
use Rattle.page_memory.specs.Words.{page_number, page_offset, bytes_in}
use Rattle.page_memory.specs.Remembered.{StandsAt}
use Rattle.page_memory.specs.Entries.{place_of, value_at}
use Rattle.page_memory.specs.Pages.{Page, loaded}
use Rattle.page_memory.proofs.PageRows.{had}
use Rattle.page_memory.proofs.RememberedLaws.{loaded_there, stands_of, one_remembered}
use Rattle.page_memory.proofs.flat_pages.FlatPages.load_anew.Goals as goal

pub invariant_of-self : goal.invariant_of-self
invariant_of-self c =
    let there : place_of (page_number c.args.address) c.self.inside.pages ≡ Some c.in-Ok.place = ap (λ n. place_of n c.self.inside.pages) (sym c.page_of.ensures.number) ∙ c.in-Ok.ensures.place in
    let stands : StandsAt Load c.self.inside.pages (page_number c.args.address) c.in-Ok.place = stands_of Load c.self.inside.pages (page_number c.args.address) c.in-Ok.place c.in-Ok.ensures.within there c.in-Ok.ensures.allowed in
    one_remembered Load c.self.inside.pages c.self.inside.recent _ c.args.address c.first-first.result c.in-Ok.place (omega arith) c.first-first.ensures c.learn.ensures stands c.self.invariant

pub returns-clause-number : goal.returns-clause-number
returns-clause-number c =
    let there : place_of (page_number c.args.address) c.self.inside.pages ≡ Some c.in-Ok.place = ap (λ n. place_of n c.self.inside.pages) (sym c.page_of.ensures.number) ∙ c.in-Ok.ensures.place in
    let stands : StandsAt Load c.self.inside.pages (page_number c.args.address) c.in-Ok.place = stands_of Load c.self.inside.pages (page_number c.args.address) c.in-Ok.place c.in-Ok.ensures.within there c.in-Ok.ensures.allowed in
    let got = had (λ (page : Page). page.bytes ≡ c.bytes-page.result.now) (value_at (c.first-first.result / 4096) c.self.inside.pages) c.bytes-page.ensures.bytes in
    let same : c.in-Ok.place ≡ c.first-first.result / 4096 = omega (arith, c.first-first.ensures) in
    ap Ok (c.number.ensures ∙ ap (λ (l : List ℕ). little_number (bytes_in c.args.width) (drop (page_offset c.args.address) l)) (sym got.1.1))
    ∙ sym (ap (λ m. loaded m c.args.width c.args.address) (sym c.self.view_is) ∙ loaded_there c.self.inside.pages c.args.width c.args.address c.in-Ok.place got.0 (omega arith) (search rules) stands (ap (λ k. value_at k c.self.inside.pages) same ∙ got.1.0))
