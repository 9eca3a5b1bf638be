-- Lines that are read from an input, where its bytes are known.
use Rattle.std.specs.Prelude.{◌≡◌, ℕ, ◌<◌, ⊤, Bool, true, false, List, [], ◌∷◌, length, Option, None, Some, IfSome}
use Rattle.std.specs.Io.Buffered.{reader_remaining}
use Rattle.std.specs.Io.KnownBytes.{Consumes, IsAtEnd}
use Rattle.text_lines.specs.Text.{lines_of}
use Rattle.debug_session.specs.declared.input_lines.InputLines.{InputLines}

-- the bytes that are still to be read
abbrev pub known_bytes : {I : Type 0} → (I → Option (List ℕ)) → InputLines I → Option (List ℕ)
known_bytes remaining lines = reader_remaining remaining lines.reader

-- a byte was taken, the first; or there was none
abbrev pub GivesByte : Option (List ℕ) → Option ℕ → Option (List ℕ) → Type 0
GivesByte known (Some byte) rest = Consumes known rest (byte ∷ [])
GivesByte known None rest = Consumes known rest [] × IsAtEnd rest

-- a line was taken, the first; or there was none
abbrev pub TakesLine : Option (List ℕ) → Bool → List ℕ → Option (List ℕ) → Type 0
TakesLine None found line rest = ⊤
TakesLine (Some bytes) true line None = ⊥
TakesLine (Some bytes) true line (Some rest) = lines_of bytes ≡ line ∷ lines_of rest
TakesLine (Some bytes) false line rest = lines_of bytes ≡ []

-- the first line has more bytes than a line may have
abbrev pub BeginsTooLong : Option (List ℕ) → Type 0
BeginsTooLong known = IfSome known (λ bytes. (line : List ℕ) × ((below : List (List ℕ)) × (lines_of bytes ≡ line ∷ below) × (33554432 < length line)))
