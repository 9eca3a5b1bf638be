use Rattle.std.proofs.Common.{◌∙◌, ◌+◌, ◌-◌, ◌*◌, ap, take, drop}
use Rattle.elf_image.specs.Image.{padded}
use Rattle.elf_image.proofs.PageCuts.{page_cut}
use Rattle.elf_image.proofs.byte_pages.page_of_bytes.Goals as goal

pub returns : goal.returns
returns c =
    let cut = ap (λ n. take (n - c.args.place * 4096) (drop (c.args.place * 4096) c.args.bytes.now)) c.min-end.ensures ∙ page_cut c.args.bytes.now c.args.place c.requires.there in
    λ i. record {
      number = c.args.first + c.args.place;
      page = (c.in_ok-page.ensures ∙ (λ j. record { rights = c.args.rights; bytes = padded (cut j) })) i;
    }
