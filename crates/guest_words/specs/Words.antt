-- The object `__guest_words` of a program: `argc` and `argv`, as its main is given them.
use Rattle.std.specs.Prelude.{◌≡◌, ◌≢◌, ℕ, ◌+◌, ◌-◌, ◌*◌, ◌<◌, ◌≤◌, ◌⊎◌, List, [], ◌∷◌, ◌++◌, length, take, drop, flat_map, get_or, replicate, Option, Some, None, codes}
use Rattle.elf_image.specs.Image.{bytes_of}
use Rattle.elf_symbols.specs.Objects.{object_named}
use Rattle.elf_symbols.specs.declared.object.ObjectPlace.{ObjectPlace}

-- ---- the words

-- a name without its folder: there is no slash in it, and before it there is nothing, or a slash
pub record IsLastPart (name part : List ℕ) : Type 0 where
  pub stands : (name ≡ part) ⊎ ((folder : List ℕ) × (name ≡ folder ++ 47 ∷ part))
  pub plain : (i : ℕ) → i < length part → get_or part i 0 ≢ 47

-- all words of a program whose image has this name: none where none are given, and else the name, without its folder, before them
abbrev pub AreArgv : List ℕ → Option (List (List ℕ)) → List (List ℕ) → Type 0
AreArgv name None argv = argv ≡ []
AreArgv name (Some []) argv = argv ≡ []
AreArgv name (Some (word ∷ words)) argv = (first : List ℕ) × (IsLastPart name first × (argv ≡ first ∷ word ∷ words))

-- ---- their bytes

-- words, each with a zero byte after it
unfoldable pub texts_of : List (List ℕ) → List ℕ
texts_of words = flat_map (λ word. word ++ 0 ∷ []) words

-- where each begins, the first one at an address
unfoldable pub places_from : ℕ → List (List ℕ) → List ℕ
places_from at [] = []
places_from at (word ∷ words) = at ∷ places_from (at + (length word + 1)) words

-- how many bytes come before so many words: argc, a pointer to each, and a null pointer
abbrev pub head_size : ℕ → ℕ
head_size count = 4 * count + 8

-- these numbers, in an object at an address
abbrev pub numbers_of : ℕ → List (List ℕ) → List ℕ
numbers_of address words = length words ∷ (places_from (address + head_size (length words)) words ++ 0 ∷ [])

-- how many bytes words take
abbrev pub size_of : List (List ℕ) → ℕ
size_of words = head_size (length words) + length (texts_of words)

-- the bytes of an object at an address, of so many bytes: the numbers, the words, and zeros
unfoldable pub object_bytes : ℕ → ℕ → List (List ℕ) → List ℕ
object_bytes address size words = bytes_of (numbers_of address words) ++ (texts_of words ++ replicate (size - size_of words) 0)

-- ---- in a file

abbrev pub object_name : List ℕ
object_name = codes "__guest_words"

-- a file that has other bytes from an offset on, as many as these, and its own before and after them
abbrev pub with_bytes : ℕ → List ℕ → List ℕ → List ℕ
with_bytes offset bytes file = take offset file ++ (bytes ++ drop (offset + length bytes) file)

-- a file differs from another only in its object, which holds the words
pub record IsFilled (words : List (List ℕ)) (old new : List ℕ) : Type 0 where
  pub place : ObjectPlace
  pub found : object_named object_name old ≡ Some place
  pub fits : size_of words ≤ place.size
  pub new_is : new ≡ with_bytes place.offset (object_bytes place.address place.size words) old

-- with no words it does not differ
abbrev pub HasWords : List (List ℕ) → List ℕ → List ℕ → Type 0
HasWords [] old new = new ≡ old
HasWords (word ∷ words) old new = IsFilled (word ∷ words) old new
