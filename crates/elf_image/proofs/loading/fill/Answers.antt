use Rattle.std.proofs.Common.{◌∙◌, ◌*◌, ap, arith, length, refl, sym}
use Rattle.std.proofs.lemmas.List.{drop_all}
use Rattle.elf_image.specs.ElfFiles.{loaded_byte, bytes_between}
use Rattle.elf_image.proofs.PageBytes.{zeros_between}
use Rattle.elf_image.proofs.loading.fill.Goals as goal

pub loop-left-init : goal.loop-left-init
loop-left-init c = record {
  within = omega arith;
  rights = refl;
  bytes =
      c.requires.blank
      ∙ zeros_between (4096 * c.args.number) 4096
      ∙ ap (λ l. bytes_between (loaded_byte c.args.file.now l) (4096 * c.args.number) 4096) (sym (drop_all (length c.args.run.now) c.args.run.now (omega arith)));
}
