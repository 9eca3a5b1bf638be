-- One byte written to a list is the list with it overwritten.
use Rattle.std.proofs.Common.{◌≡◌, ℕ, zero, suc, ◌%◌, ◌<◌, List, [], ◌∷◌, ◌++◌, length, slice_set, take, drop, arith, refl, ap, ◌∙◌, add-one}
use Rattle.byteorder.specs.Endian.{little_bytes}
use Rattle.page_memory.specs.Pages.{overwritten}

set_one : (l : List ℕ) (place b : ℕ) → place < length l → slice_set l place b ≡ take place l ++ (b ∷ drop (suc place) l)
set_one [] place b h = absurd (omega arith)
set_one (x ∷ l) zero b h = refl
set_one (x ∷ l) (suc place) b h = ap (λ t. x ∷ t) (set_one l place b (omega arith))

pub one_byte : (l : List ℕ) (place word : ℕ) → place < length l → slice_set l place (word % 256) ≡ overwritten l place (little_bytes 1 word)
one_byte l place word h = set_one l place (word % 256) h ∙ rw add-one refl
