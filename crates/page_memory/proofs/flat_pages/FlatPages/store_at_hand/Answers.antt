use Rattle.std.proofs.Common.{◌≡◌, ◌/◌, List, ℕ, Ok, sym, ap, ◌∙◌, arith, refl, subst}
use Rattle.byteorder.specs.Endian.{little_bytes}
use Rattle.std.specs.Ordering.{nat_cmp}
use Rattle.std.specs.FinMap.{from_entries}
use Rattle.page_memory.specs.declared.words.Access.TheVariants.{Store}
use Rattle.page_memory.specs.Words.{page_number, bytes_in}
use Rattle.page_memory.specs.Pages.{Page, overwritten, stored}
use Rattle.page_memory.specs.Entries.{value_at, with_value}
use Rattle.page_memory.specs.Remembered.{LeadsTo, Remembers}
use Rattle.page_memory.proofs.PageRows.{had}
use Rattle.page_memory.proofs.RememberedLaws.{remembered_for, below_four, stored_led, still_remembered, stands_led}
use Rattle.page_memory.proofs.flat_pages.FlatPages.store_at_hand.Goals as goal

pub offset_past-requires : goal.offset_past-requires
offset_past-requires c =
    let recent = c.of-recent.result in
    let to : LeadsTo Store c.self.inside.pages recent = remembered_for Store c.self.inside.pages c.self.inside.recent (page_number c.args.address) recent c.of-recent.ensures c.self.invariant in
    record { multiple = to.leads.multiple; limit = to.leads.limit }

pub put_number-requires-clause-whole : goal.put_number-requires-clause-whole
put_number-requires-clause-whole c =
    let recent = c.of-recent.result in
    let to : LeadsTo Store c.self.inside.pages recent = remembered_for Store c.self.inside.pages c.self.inside.recent (page_number c.args.address) recent c.of-recent.ensures c.self.invariant in
    to.whole

pub put_number-requires-clause-within : goal.put_number-requires-clause-within
put_number-requires-clause-within c =
    let recent = c.of-recent.result in
    let to : LeadsTo Store c.self.inside.pages recent = remembered_for Store c.self.inside.pages c.self.inside.recent (page_number c.args.address) recent c.of-recent.ensures c.self.invariant in
    (stands_led Store c.self.inside.pages (bytes_in c.args.width) c.args.address recent.start (recent.place / 4096) to.leads (omega arith) (below_four c.args.width c.args.address) c.in-Some.ensures.served).within

pub invariant_of-self : goal.invariant_of-self
invariant_of-self c =
    let recent = c.of-recent.result in
    let got = had (λ (page : Page). c.put_number.new.self ≡ with_value c.self.inside.pages (recent.place / 4096) (record page { bytes = overwritten page.bytes c.in-Some.past (little_bytes (bytes_in c.args.width) c.args.word) })) (value_at (recent.place / 4096) c.self.inside.pages) c.put_number.ensures in
    subst (λ (l : List (ℕ × Page)). Remembers l c.self.inside.recent) (sym got.1.1)
    (still_remembered c.self.inside.pages c.self.inside.recent (recent.place / 4096) got.0 _ got.1.0 refl c.self.invariant)

pub returns-in-Some-clause-done : goal.returns-in-Some-clause-done
returns-in-Some-clause-done c stands =
    let recent = c.of-recent.result in
    let to : LeadsTo Store c.self.inside.pages recent = remembered_for Store c.self.inside.pages c.self.inside.recent (page_number c.args.address) recent c.of-recent.ensures c.self.invariant in
    let got = had (λ (page : Page). c.put_number.new.self ≡ with_value c.self.inside.pages (recent.place / 4096) (record page { bytes = overwritten page.bytes c.in-Some.past (little_bytes (bytes_in c.args.width) c.args.word) })) (value_at (recent.place / 4096) c.self.inside.pages) c.put_number.ensures in
    ap (λ m. stored m c.args.width c.args.address c.args.word) (sym c.self.view_is)
    ∙ stored_led c.self.inside.pages c.args.width c.args.address c.args.word recent.start (recent.place / 4096) got.0 to.leads (omega arith) c.in-Some.ensures.served got.1.0
    ∙ ap (λ n. Ok (from_entries {R = nat_cmp} (with_value c.self.inside.pages (recent.place / 4096) (record got.0 { bytes = overwritten got.0.bytes n (little_bytes (bytes_in c.args.width) c.args.word) })))) (sym c.in-Some.ensures.offset)
    ∙ ap (λ (l : List (ℕ × Page)). Ok (from_entries {R = nat_cmp} l)) (sym got.1.1)
