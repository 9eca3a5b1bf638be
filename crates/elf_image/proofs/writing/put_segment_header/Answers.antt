use Rattle.std.proofs.Common.{◌≡◌, ◌+◌, ◌*◌, ◌++◌, ◌∷◌, [], subst, OnOk}
use Rattle.elf_image.specs.Image.{bytes_of}
use Rattle.elf_image.specs.WrittenFiles.{segment_header}
use Rattle.elf_image.proofs.writing.put_segment_header.Goals as goal

pub returns : goal.returns
unfolding segment_header
returns c =
    let run = c.args.run.now in
    subst
    (λ flags. OnOk c.put_words.result (c.put_words.new.file.items ≡ c.args.file.now.items ++ bytes_of (1 ∷ (c.args.start + 4096 * run.place) ∷ (4096 * run.number) ∷ (4096 * run.number) ∷ (4096 * run.count) ∷ (4096 * run.count) ∷ flags ∷ 4096 ∷ [])))
    c.flags_of-flags.ensures
    c.put_words.ensures
