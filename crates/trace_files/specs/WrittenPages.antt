-- Lines of pages as `policies trace` writes them.
use Rattle.std.specs.Prelude.{◌≡◌, ℕ, false, List, [], ◌∷◌, ◌++◌, Option}
use Rattle.std.specs.Io.KnownBytes.{Consumes}
use Rattle.clock_policy.specs.declared.key.Key.{Key}
use Rattle.clock_policy.specs.Text.{key_text}
use Rattle.trace_lines.specs.PageLines.{IsPage}
use Rattle.trace_files.specs.References.{Trace}
use Rattle.guest_strings.specs.declared.reference.Reference.{Reference}
use Rattle.trace_files.specs.ReferenceAnswers.{TellsReferences}

abbrev pub EachIsPage : List Key → Type 0
EachIsPage [] = Unit {0}
EachIsPage (page ∷ pages) = IsPage page × EachIsPage pages

-- a line for each page
abbrev pub page_lines : List Key → List ℕ
page_lines [] = []
page_lines (page ∷ pages) = key_text page ++ 10 ∷ page_lines pages

-- a reference to each page, none of which writes
abbrev pub read_only : List Key → List Reference
read_only [] = []
read_only (page ∷ pages) = record { page = page; is_written = false } ∷ read_only pages

-- lines at the front of a text, and its rest after them: the lines have the pages that came to a block
abbrev pub AddsPages : List ℕ → List ℕ → List Reference → List Reference → Type 0
AddsPages text rest old new = (pages : List Key) × ((new ≡ old ++ read_only pages) × ((text ≡ page_lines pages ++ rest) × EachIsPage pages))

-- such lines were taken from the bytes that a reader holds
abbrev pub TakesPages : Option (List ℕ) → Option (List ℕ) → List Reference → List Reference → Type 0
TakesPages known left old new = (pages : List Key) × ((new ≡ old ++ read_only pages) × (Consumes known left (page_lines pages) × EachIsPage pages))

-- a trace that gives the block's old references before what was to come gives its new ones before what is still to come
abbrev pub TellsOn : Option Trace → Option Trace → List Reference → List Reference → Type 0
TellsOn now later old new = (first : Option Trace) → TellsReferences old first now → TellsReferences new first later
