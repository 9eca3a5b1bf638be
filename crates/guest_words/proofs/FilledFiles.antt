-- Files with words, and why words are refused: by whether there are words.
use Rattle.std.proofs.Common.{◌≡◌, ◌<◌, ◌≤◌, ℕ, List, [], ◌∷◌, length, map, refl, sym, subst, arith, Some, Result, Ok, Err, IfErr, IsErrAnd}
use Rattle.elf_symbols.specs.Objects.{object_named}
use Rattle.elf_symbols.specs.declared.object.ObjectPlace.{ObjectPlace}
use Rattle.image_files.specs.declared.fault.Fault.TheVariants.{NoMemory}
use Rattle.guest_words.specs.Given.{RefusesSome, RefusesWords}
use Rattle.guest_words.specs.Words.{HasWords, IsFilled, object_name, size_of}
use Rattle.guest_words.specs.declared.fault.WordsFault.{WordsFault}
use Rattle.guest_words.specs.declared.fault.WordsFault.TheVariants as fault

module _ {X : Type 0} (called : X → List ℕ) where
  pub has_none : (words : List X) (file : List ℕ) → length words ≡ 0 → HasWords (map called words) file file
  has_none [] file none = refl
  has_none (word ∷ words) file none = absurd (omega (arith, none))

  pub has_some : (words : List X) (old new : List ℕ) → 0 < length words → IsFilled (map called words) old new → HasWords (map called words) old new
  has_some [] old new some filled = absurd (omega (arith, some))
  has_some (word ∷ words) old new some filled = filled

  pub refuses_some : (words : List X) (name old : List ℕ) (why : WordsFault) → 0 < length words → RefusesSome name (map called words) old why → RefusesWords name (map called words) old why
  refuses_some [] name old why some refuses = absurd (omega (arith, some))
  refuses_some (word ∷ words) name old why some refuses = refuses

  -- memory runs out, after the object was found and has enough bytes
  pub lacks_memory : {A : Type 0} (words : List X) (name old : List ℕ) (place : ObjectPlace) → 0 < length words → object_named object_name old ≡ Some place → size_of (map called words) ≤ place.size
      → (result : Result A WordsFault) → IsErrAnd result (λ why. why ≡ fault.Fault NoMemory) → IfErr result (RefusesWords name (map called words) old)
  lacks_memory words name old place some found fits (Ok it) none = tt
  lacks_memory words name old place some found fits (Err why) is =
      refuses_some words name old why some (subst (RefusesSome name (map called words) old) (sym is) (refl, (place, (found, fits))))
