-- A process that has run nothing stands for its opening.
use Rattle.std.proofs.Common.{◌≡◌, [], ℕ, List, length, slice_index_or, Some, ap, ◌∙◌, refl, sym, subst}
use Rattle.std.specs.FinMap.{get, from_entries}
use Rattle.elf_image.specs.Image.{ImageContent, ArePages}
use Rattle.elf_image.specs.declared.image.ImagePage.{ImagePage}
use Rattle.page_memory.specs.Memory.{Memory, unreserved}
use Rattle.decoded_pages.specs.declared.pages.DecodedPages.{DecodedPages}
use Rattle.decoded_pages.specs.Code.{ShowsAll}
use Rattle.flat_machine.specs.ImageCode.{HasImage}
use Rattle.flat_machine.proofs.OpeningLaws.{image_page_at}
use Rattle.page_memory.specs.Reservations.{none_reserved}
use Rattle.paged_memory.proofs.FreshLaws.{fresh_shown}
use Rattle.paged_memory.specs.Paged.{PagedValue, memory_of}
use Rattle.paged_memory.proofs.ShowingLaws.{shows_itself}
use Rattle.flat_machine.specs.Process.{Process, opening, opening_pages, flat_run}
use Rattle.flat_machine.specs.Schedule.{written_out}
use Rattle.flat_machine.proofs.RunLaws.{flat_run_none}
use Rattle.space_core.specs.RunningValue.{RunningValue, beside}
use Rattle.space_core.specs.StandsFor.{SpaceValue, StandsFor, IsSpace, IsDecodedSpace, flat_with}
use Rattle.paged_memory.specs.Fresh.{HasFresh, HasOneCache}

opened : (image : ImageContent) (input : List ℕ) → opening image input ≡ flat_with (beside (opening image input)) (unreserved (from_entries (opening_pages image.pages)))
unfolding opening
opened image input = refl

one_hart : (image : ImageContent) (input : List ℕ) → 1 ≡ length (opening image input).harts
unfolding opening
one_hart image input = refl

module _ {S : Type 0} where
  stands_opened : (held : S → List ℕ) (space : SpaceValue S) → space.running ≡ beside (opening space.image space.input) → space.schedule ≡ []
      → HasFresh (opening_pages space.image.pages) space.memory → space.memory.reserved ≡ none_reserved → StandsFor held space
  stands_opened held space running schedule pages reserved =
      let process : Process = opening space.image space.input in
      let memory : memory_of held space.memory ≡ unreserved (from_entries (opening_pages space.image.pages)) = fresh_shown held (opening_pages space.image.pages) space.memory pages reserved in
      record {
        memory = memory_of held space.memory;
        ran = ap (λ l. flat_run (written_out l) process) schedule ∙ flat_run_none process ∙ ap Some (opened space.image space.input) ∙ (λ i. Some (flat_with (sym running i) (sym memory i)));
        shows = shows_itself held space.memory;
        still = λ _. refl;
      }

  -- a page of its image is where the image has it
  image_shown : (held : S → List ℕ) (pages : List ImagePage) (memory : PagedValue S) → ArePages pages → HasFresh (opening_pages pages) memory → memory.reserved ≡ none_reserved → HasImage pages (memory_of held memory)
  image_shown held pages memory are fresh reserved i d within =
      ap (λ (m : Memory). get m.pages (slice_index_or pages i d).number) (fresh_shown held (opening_pages pages) memory fresh reserved) ∙ image_page_at pages i d are within

  pub space_opened : (held : S → List ℕ) (honest : Type 0) (space : SpaceValue S) → space.running ≡ beside (opening space.image space.input) → space.schedule ≡ []
      → HasFresh (opening_pages space.image.pages) space.memory → HasOneCache space.memory → space.memory.reserved ≡ none_reserved → IsSpace held honest space
  space_opened held honest space running schedule pages caches reserved = record {
    stands = λ _. stands_opened held space running schedule pages reserved;
    cached = ap length caches ∙ one_hart space.image space.input ∙ ap (λ (r : RunningValue). length r.harts) (sym running);
  }

  -- and what was decoded of them is what it has
  pub decoded_opened : (held : S → List ℕ) (honest : Type 0) (decoded : DecodedPages) (pages : List ImagePage) → ((memory : Memory) → HasImage pages memory → ShowsAll decoded memory) → ArePages pages → (space : SpaceValue S) → pages ≡ space.image.pages
      → space.running ≡ beside (opening space.image space.input) → space.schedule ≡ []
      → HasFresh (opening_pages pages) space.memory → HasOneCache space.memory → space.memory.reserved ≡ none_reserved → IsDecodedSpace held honest decoded space
  decoded_opened held honest decoded pages shows are space same running schedule fresh caches reserved = record {
    space = space_opened held honest space running schedule (subst (λ l. HasFresh (opening_pages l) space.memory) same fresh) caches reserved;
    code = λ _. shows (memory_of held space.memory) (image_shown held pages space.memory are fresh reserved);
  }
