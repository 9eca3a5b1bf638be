use Rattle.std.proofs.Common.{◌≡◌, ◌/◌, List, ℕ, Ok, drop, sym, ap, ◌∙◌, arith}
use Rattle.byteorder.specs.Endian.{little_number}
use Rattle.page_memory.specs.declared.words.Access.TheVariants.{Load}
use Rattle.page_memory.specs.Words.{page_number, bytes_in}
use Rattle.page_memory.specs.Pages.{Page, loaded}
use Rattle.page_memory.specs.Entries.{value_at}
use Rattle.page_memory.proofs.PageRows.{had}
use Rattle.page_memory.specs.Remembered.{LeadsTo}
use Rattle.page_memory.proofs.RememberedLaws.{remembered_for, below_four, loaded_led, stands_led}
use Rattle.page_memory.proofs.flat_pages.FlatPages.load_at_hand.Goals as goal

pub offset_past-requires : goal.offset_past-requires
offset_past-requires c =
    let recent = c.of-recent.result in
    let to : LeadsTo Load c.self.inside.pages recent = remembered_for Load c.self.inside.pages c.self.inside.recent (page_number c.args.address) recent c.of-recent.ensures c.self.invariant in
    record { multiple = to.leads.multiple; limit = to.leads.limit }

pub bytes-page-requires : goal.bytes-page-requires
bytes-page-requires c =
    let recent = c.of-recent.result in
    let to : LeadsTo Load c.self.inside.pages recent = remembered_for Load c.self.inside.pages c.self.inside.recent (page_number c.args.address) recent c.of-recent.ensures c.self.invariant in
    record {
      whole = to.whole;
      within = (stands_led Load c.self.inside.pages (bytes_in c.args.width) c.args.address recent.start (recent.place / 4096) to.leads (omega arith) (below_four c.args.width c.args.address) c.in-Some.ensures.served).within;
    }

pub returns-in-Some : goal.returns-in-Some
returns-in-Some c =
    let recent = c.of-recent.result in
    let to : LeadsTo Load c.self.inside.pages recent = remembered_for Load c.self.inside.pages c.self.inside.recent (page_number c.args.address) recent c.of-recent.ensures c.self.invariant in
    let got = had (λ (page : Page). page.bytes ≡ c.bytes-page.result.now) (value_at (recent.place / 4096) c.self.inside.pages) c.bytes-page.ensures.bytes in
    sym (ap Ok (c.number_from.ensures ∙ ap (λ (l : List ℕ). little_number (bytes_in c.args.width) (drop c.in-Some.past l)) (sym got.1.1) ∙ ap (λ n. little_number (bytes_in c.args.width) (drop n got.0.bytes)) c.in-Some.ensures.offset)
    ∙ sym (ap (λ m. loaded m c.args.width c.args.address) (sym c.self.view_is) ∙ loaded_led c.self.inside.pages c.args.width c.args.address recent.start (recent.place / 4096) got.0 to.leads (omega arith) c.in-Some.ensures.served got.1.0))
