-- What was written, and then flushed.
use Rattle.std.proofs.Common.{◌∙◌, List, ℕ}
use Rattle.std.specs.Prelude.{Option, Some, None}
use Rattle.std.specs.Io.KnownBytes.{Appends, Keeps}

pub still_appended : (old written flushed : Option (List ℕ)) (bytes : List ℕ) → Appends old written bytes → Keeps written flushed → Appends old flushed bytes
still_appended None written flushed bytes appended kept = _
still_appended (Some xs) None flushed bytes appended kept = elim appended [ ]
still_appended (Some xs) (Some ys) None bytes appended kept = elim kept [ ]
still_appended (Some xs) (Some ys) (Some zs) bytes appended kept = kept ∙ appended
