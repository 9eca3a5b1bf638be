use Rattle.std.proofs.Common.{◌∙◌, ◌+◌, ◌-◌, ◌*◌, ap, take, drop}
use Rattle.elf_image.specs.Image.{padded, bytes_of, readable_code}
use Rattle.elf_image.proofs.WordPages.{page_cut}
use Rattle.elf_image.proofs.words.page_of_words.Goals as goal

pub returns : goal.returns
returns c =
    let cut = ap (λ n. take (n - c.args.place * 1024) (drop (c.args.place * 1024) c.args.words.now)) c.min-end.ensures ∙ page_cut c.args.words.now c.args.place c.requires.there in
    λ i. record {
      number = 16 + c.args.place;
      page = (c.in_ok-page.ensures ∙ (λ j. record { rights = readable_code; bytes = padded (bytes_of (cut j)) })) i;
    }
