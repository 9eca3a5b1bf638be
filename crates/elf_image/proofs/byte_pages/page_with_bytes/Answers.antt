use Rattle.std.proofs.Common.{◌∙◌, ap}
use Rattle.page_memory.specs.Pages.{Page, overwritten}
use Rattle.elf_image.proofs.PageCuts.{written_first}
use Rattle.elf_image.proofs.byte_pages.page_with_bytes.Goals as goal

pub returns : goal.returns
returns c =
    c.in_ok-new.ensures ∙ c.put_bytes.ensures ∙ (λ i. record {
      rights = ap (λ (p : Page). p.rights) c.in_ok-page.ensures i;
      bytes = (ap (λ (p : Page). overwritten p.bytes 0 c.args.bytes.now) c.in_ok-page.ensures ∙ written_first c.args.bytes.now) i;
    })
