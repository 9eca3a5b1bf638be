-- What a process is started from: an image, and the whole of its input.
use Rattle.std.specs.Prelude.{ℕ, List}
use Rattle.elf_image.specs.Image.{ImageContent}

pub record Start : Type 0 where
  pub image : ImageContent
  pub input : List ℕ

abbrev pub start_of : ImageContent → List ℕ → Start
start_of image input = record { image = image; input = input }
