use Rattle.std.proofs.Common.{◌≡◌, ℕ, ◌+◌, ◌<◌, slice_index_or}
use Rattle.elf_image.specs.declared.image.ImagePage.{ImagePage}
use Rattle.elf_image.proofs.parts.do_rise.Given as goal

abbrev pub invariant-loop-place : goal.invariant-loop-place
invariant-loop-place l = (k m : ℕ) (d : ImagePage) → m ≡ k + 1 → m < l.place → (slice_index_or l.pages k d).number < (slice_index_or l.pages m d).number
