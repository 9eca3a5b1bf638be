use Rattle.byteorder.specs.Endian.{little_bytes}
use Rattle.std.proofs.Common.{◌≡◌, ◌/◌, List, ℕ, refl, subst, sym, ap, ◌∙◌, Ok, Some, true, rules, arith}
use Rattle.std.specs.Ordering.{nat_cmp}
use Rattle.std.specs.FinMap.{from_entries}
use Rattle.page_memory.specs.declared.words.Access.TheVariants.{Store}
use Rattle.page_memory.specs.Words.{page_number, bytes_in}
use Rattle.page_memory.specs.Rights.{may}
use Rattle.page_memory.specs.Pages.{Page, overwritten, stored}
use Rattle.page_memory.specs.Entries.{place_of, value_at, with_value}
use Rattle.page_memory.proofs.PageRows.{had}
use Rattle.page_memory.proofs.AccessLaws.{stored_at}
use Rattle.page_memory.specs.Remembered.{StandsAt, Remembers}
use Rattle.page_memory.proofs.RememberedLaws.{stands_of, one_remembered, still_remembered}
use Rattle.page_memory.proofs.flat_pages.FlatPages.store_anew.Goals as goal

pub returns-clause-ok : goal.returns-clause-ok
returns-clause-ok c =
    let same : c.in_ok-place.place ≡ c.first-first.result / 4096 = omega (arith, c.first-first.ensures) in
    let at : place_of (page_number c.args.address) c.self.inside.pages ≡ Some (c.first-first.result / 4096) = ap (λ n. place_of n c.self.inside.pages) (sym c.page_of.ensures.number) ∙ c.in_ok-place.ensures.place ∙ ap Some same in
    let got = had (λ (page : Page). c.put_number.new.self ≡ with_value c.self.inside.pages (c.first-first.result / 4096) (record page { bytes = overwritten page.bytes c.offset_in_page-offset.result (little_bytes (bytes_in c.args.width) c.args.word) })) (value_at (c.first-first.result / 4096) c.self.inside.pages) c.put_number.ensures in
    let allowed : may Store got.0.rights ≡ true = rw (ap (λ k. value_at k c.self.inside.pages) same ∙ got.1.0) at c.in_ok-place.ensures.allowed in
    ap (λ m. stored m c.args.width c.args.address c.args.word) (sym c.self.view_is)
    ∙ stored_at c.self.inside.pages c.args.width c.args.address c.args.word (c.first-first.result / 4096) got.0 (search rules) at got.1.0 allowed
    ∙ ap (λ n. Ok (from_entries {R = nat_cmp} (with_value c.self.inside.pages (c.first-first.result / 4096) (record got.0 { bytes = overwritten got.0.bytes n (little_bytes (bytes_in c.args.width) c.args.word) })))) (sym c.offset_in_page-offset.ensures.offset)
    ∙ ap (λ (l : List (ℕ × Page)). Ok (from_entries {R = nat_cmp} l)) (sym got.1.1)

pub invariant_of-self : goal.invariant_of-self
invariant_of-self c =
    let there : place_of (page_number c.args.address) c.self.inside.pages ≡ Some c.in_ok-place.place = ap (λ n. place_of n c.self.inside.pages) (sym c.page_of.ensures.number) ∙ c.in_ok-place.ensures.place in
    let stands : StandsAt Store c.self.inside.pages (page_number c.args.address) c.in_ok-place.place = stands_of Store c.self.inside.pages (page_number c.args.address) c.in_ok-place.place c.in_ok-place.ensures.within there c.in_ok-place.ensures.allowed in
    let remembered : Remembers c.self.inside.pages c.learn.new.self = one_remembered Store c.self.inside.pages c.self.inside.recent c.learn.new.self c.args.address c.first-first.result c.in_ok-place.place (omega arith) c.first-first.ensures c.learn.ensures stands c.self.invariant in
    let got = had (λ (page : Page). c.put_number.new.self ≡ with_value c.self.inside.pages (c.first-first.result / 4096) (record page { bytes = overwritten page.bytes c.offset_in_page-offset.result (little_bytes (bytes_in c.args.width) c.args.word) })) (value_at (c.first-first.result / 4096) c.self.inside.pages) c.put_number.ensures in
    subst (λ (l : List (ℕ × Page)). Remembers l c.learn.new.self) (sym got.1.1)
    (still_remembered c.self.inside.pages c.learn.new.self (c.first-first.result / 4096) got.0 _ got.1.0 refl remembered)
