-- Files with words, and why words are refused. `gives` relates a name to the bytes that a file of this name may be found to hold. `withholds`
-- holds of a name if such a file may be found unreadable.
use Rattle.std.specs.Prelude.{◌≡◌, ◌⊎◌, ℕ, ◌-◌, ◌^◌, ◌<◌, ◌≤◌, List, [], ◌∷◌, Some, None, min}
use Rattle.elf_symbols.specs.Objects.{object_named}
use Rattle.elf_symbols.specs.declared.object.ObjectPlace.{ObjectPlace}
use Rattle.image_files.specs.Faults.{IsUnread}
use Rattle.image_files.specs.declared.fault.Fault.TheVariants.{NoMemory}
use Rattle.guest_words.specs.Words.{HasWords, object_name, size_of}
use Rattle.guest_words.specs.declared.fault.WordsFault.{WordsFault}
use Rattle.guest_words.specs.declared.fault.WordsFault.TheVariants as fault

-- a file of a name with these words
pub record GivesWithWords (gives : List ℕ → List ℕ → Type 0) (words : List (List ℕ)) (name file : List ℕ) : Type 0 where
  pub old : List ℕ
  pub given : gives name old
  pub has : HasWords words old file

-- Some words are refused for the first of these: the file has no object for them; it has fewer bytes than they take; memory runs out.
abbrev pub RefusesSome : List ℕ → List (List ℕ) → List ℕ → WordsFault → Type 0
RefusesSome name words old (fault.NoObject named) = (named.now ≡ name) × (object_named object_name old ≡ None)
RefusesSome name words old (fault.TooLong named need room) =
    (named.now ≡ name) × ((place : ObjectPlace) × ((object_named object_name old ≡ Some place) × ((room ≡ place.size)
    × ((room < size_of words) × (need ≡ min (size_of words) (2 ^ 64 - 1))))))
RefusesSome name words old (fault.Fault why) =
    (why ≡ NoMemory) × ((place : ObjectPlace) × ((object_named object_name old ≡ Some place) × (size_of words ≤ place.size)))

-- no words are not refused
abbrev pub RefusesWords : List ℕ → List (List ℕ) → List ℕ → WordsFault → Type 0
RefusesWords name [] old why = ⊥
RefusesWords name (word ∷ words) old why = RefusesSome name (word ∷ words) old why

-- a file can't be read
abbrev pub IsUnreadFile : (List ℕ → Type 0) → List ℕ → WordsFault → Type 0
IsUnreadFile withholds name (fault.Fault why) = IsUnread withholds name why
IsUnreadFile withholds name _ = ⊥

-- why there is no file of a name with these words
abbrev pub GivesNoWords : (gives : List ℕ → List ℕ → Type 0) (withholds : List ℕ → Type 0) → List (List ℕ) → List ℕ → WordsFault → Type 0
GivesNoWords gives withholds words name why = IsUnreadFile withholds name why ⊎ ((old : List ℕ) × (gives name old × RefusesWords name words old why))
