use Rattle.std.proofs.Common.{◌∙◌, ◌*◌, ap, subst, sym, length, List}
use Rattle.std.specs.List.{All}
use Rattle.std.proofs.lemmas.List.Elements.{All-filter}
use Rattle.page_memory.specs.Pages.{Page}
use Rattle.elf_image.specs.declared.program_header.ProgramHeader.{ProgramHeader}
use Rattle.elf_image.specs.ElfFiles.{loaded_byte, bytes_between, loaded_page, touches}
use Rattle.elf_image.specs.Segments.{IsSoundSegment, given_rights}
use Rattle.elf_image.proofs.PageBytes.{rights_of_run, bytes_of_run}
use Rattle.elf_image.proofs.loading.load_page.Goals as goal

pub fill-requires-clause-sound : goal.fill-requires-clause-sound
fill-requires-clause-sound c = subst (λ (l : List ProgramHeader). All (IsSoundSegment (length c.args.file.now)) l) (sym c.touching-run.ensures) (All-filter (touches c.args.number) (IsSoundSegment (length c.args.file.now)) c.args.loaded.now c.requires.sound)

pub returns : goal.returns
unfolding loaded_page
returns c =
    let rights = c.fill.ensures.rights ∙ ap (λ (p : Page). p.rights) c.in_ok-filled.ensures ∙ c.given_rights.ensures ∙ ap given_rights c.touching-run.ensures ∙ rights_of_run c.args.loaded.now c.args.number in
    let bytes = c.fill.ensures.bytes ∙ ap (λ l. bytes_between (loaded_byte c.args.file.now l) (4096 * c.args.number) 4096) c.touching-run.ensures ∙ bytes_of_run c.args.file.now (length c.args.file.now) c.args.loaded.now c.args.number c.requires.sound in
    λ i. record {
      number = c.args.number;
      page = (c.in_ok-page.ensures ∙ (λ j. record { rights = rights j; bytes = bytes j })) i;
    }
