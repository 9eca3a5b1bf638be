use Rattle.std.proofs.Common.{◌≡◌, List, ℕ, refl, subst, sym, ap, ◌∙◌, Ok, Some, true}
use Rattle.std.specs.Ordering.{nat_cmp}
use Rattle.std.specs.FinMap.{from_entries}
use Rattle.page_memory.specs.declared.words.Access.TheVariants.{Store}
use Rattle.page_memory.specs.Words.{page_number}
use Rattle.page_memory.specs.Rights.{may}
use Rattle.page_memory.specs.Pages.{Page, copied_in, overwritten}
use Rattle.page_memory.specs.Entries.{place_of, value_at, with_value}
use Rattle.page_memory.specs.Remembered.{Remembers}
use Rattle.page_memory.proofs.PageRows.{had}
use Rattle.page_memory.proofs.AccessLaws.{copied_at}
use Rattle.page_memory.proofs.RememberedLaws.{still_remembered}
use Rattle.page_memory.proofs.flat_pages.FlatPages.copy_in.Goals as goal

pub returns-clause-ok : goal.returns-clause-ok
returns-clause-ok c =
    let at : place_of (page_number c.args.address) c.self.inside.pages ≡ Some c.in_ok-place.place = ap (λ n. place_of n c.self.inside.pages) (sym c.page_of.ensures.number) ∙ c.in_ok-place.ensures.place in
    let got = had (λ (page : Page). c.put_bytes.new.self ≡ with_value c.self.inside.pages c.in_ok-place.place (record page { bytes = overwritten page.bytes c.offset_in_page.result c.args.from.now })) (value_at c.in_ok-place.place c.self.inside.pages) c.put_bytes.ensures in
    let allowed : may Store got.0.rights ≡ true = rw got.1.0 at c.in_ok-place.ensures.allowed in
    ap (λ m. copied_in m c.args.address c.args.from.now) (sym c.self.view_is)
    ∙ copied_at c.self.inside.pages c.args.address c.args.from.now c.in_ok-place.place got.0 at got.1.0 allowed
    ∙ ap (λ (l : List (ℕ × Page)). Ok (from_entries {R = nat_cmp} l)) (sym (got.1.1 ∙ ap (λ o. with_value c.self.inside.pages c.in_ok-place.place (record got.0 { bytes = overwritten got.0.bytes o c.args.from.now })) c.offset_in_page.ensures.offset))

pub invariant_of-self : goal.invariant_of-self
invariant_of-self c =
    let got = had (λ (page : Page). c.put_bytes.new.self ≡ with_value c.self.inside.pages c.in_ok-place.place (record page { bytes = overwritten page.bytes c.offset_in_page.result c.args.from.now })) (value_at c.in_ok-place.place c.self.inside.pages) c.put_bytes.ensures in
    subst (λ (l : List (ℕ × Page)). Remembers l c.self.inside.recent) (sym got.1.1)
    (still_remembered c.self.inside.pages c.self.inside.recent c.in_ok-place.place got.0 _ got.1.0 refl c.self.invariant)
