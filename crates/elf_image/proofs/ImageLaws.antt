-- How many bytes words are.
use Rattle.std.specs.Prelude.{ℕ, ◌≡◌, ◌*◌, List, [], ◌∷◌, length, refl}
use Rattle.std.proofs.Common.{arith, length-append}
use Rattle.byteorder.specs.Endian.{little_bytes}
use Rattle.elf_image.specs.Image.{bytes_of}

pub length-bytes_of : (words : List ℕ) → length (bytes_of words) ≡ 4 * length words
length-bytes_of [] = refl
length-bytes_of (w ∷ words) = let rest = length-bytes_of words in omega (arith, length-append (little_bytes 4 w) (bytes_of words))
