-- A page that takes its place shows what memory has there.
use Rattle.std.proofs.Common.{◌≡◌, ◌*◌, ℕ, Some, ap, ◌∙◌, sym, arith}
use Rattle.std.specs.FinMap.{get}
use Rattle.std.specs.Prelude.{IfSome}
use Rattle.std.proofs.lemmas.List.Elements.{All-set}
use Rattle.page_memory.specs.Words.{page_number}
use Rattle.decoded_pages.specs.Code.{Shows}
use Rattle.decoded_pages.proofs.pages.DecodedPages.add.Goals as goal

own_number : (number : ℕ) → page_number (number * 4096) ≡ number
own_number number = omega arith

pub returns-clause-added : goal.returns-clause-added
returns-clause-added c = λ memory shows found.
    let page = c.in_ok-page.page in
    All-set (λ slot. IfSome slot (λ p. Shows p memory)) c.args.self.now.pages.items _ (Some page)
    (record {
      content = record { rights = c.args.rights; bytes = c.args.bytes.now };
      decoded = c.in_ok-page.ensures.decoded c.args.rights;
      found = ap (get memory.pages) (ap page_number c.in_ok-page.ensures.start ∙ own_number c.args.number) ∙ found;
      code = sym c.is_code.ensures ∙ c.if-not-is_code.false;
    }) shows
