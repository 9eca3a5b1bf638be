-- What readers of a trace answer, where the bytes are known that the file still holds.
use Rattle.std.specs.Prelude.{◌≡◌, ℕ, ⊤, ◌+◌, ◌++◌, Bool, true, false, List, [], ◌∷◌, length, filter, map, Option, Some, None, Result, Ok, Err, IfSome, if◌then◌else◌}
use Rattle.std.specs.Borrow.{Bor}
use Rattle.std.specs.Io.Buffered.{reader_inner, reader_remaining}
use Rattle.std.specs.Option.{option_map}
use Rattle.std.specs.declared.io.buffered.BufReader.{BufReader}
use Rattle.clock_policy.specs.declared.key.Key.{Key}
use Rattle.guest_strings.specs.declared.reference.Reference.{Reference}
use Rattle.trace_files.specs.References.{Flaw, NoIds, BadLine, BadId, BadOp, IsText, BadRecord, IsCompressed, Trace, Ends, Breaks, told, flaw_at_end, due_from, is_of_addresses, joined, lines, pieces_of, trace_of}
use Rattle.trace_files.specs.declared.fault.TraceFault.{TraceFault}
use Rattle.trace_files.specs.declared.fault.TraceFault.TheVariants.{NoMemory, CannotRead, Empty, NoColumn, Line, Id, Op, Text, Record, Compressed}
use Rattle.trace_lines.specs.declared.format.TraceFormat.{TraceFormat}
use Rattle.trace_lines.specs.declared.trace_line.LineReferences.{LineReferences}
use Rattle.trace_files.specs.declared.pieces.Pieces.{Pieces}
use Rattle.trace_files.specs.declared.trace_file.TraceFile.{TraceFile}

-- ---- lines and records

-- the first of the pieces that bytes are cut into was taken; or there was none
abbrev pub TakesPiece : (List ℕ → List (List ℕ)) → Bool → List ℕ → Option (List ℕ) → Option (List ℕ) → Type 0
TakesPiece cut is_there piece None rest = ⊤
TakesPiece cut is_there piece (Some bytes) None = ⊥
TakesPiece cut true piece (Some bytes) (Some rest) = cut bytes ≡ piece ∷ cut rest
TakesPiece cut false piece (Some bytes) (Some rest) = (cut bytes ≡ []) × (cut rest ≡ [])

-- the reader of the file failed, or memory is wanted
abbrev pub IsOutside : TraceFault → Type 0
IsOutside NoMemory = ⊤
IsOutside (CannotRead name) = ⊤
IsOutside (Empty name) = ⊥
IsOutside (NoColumn name column) = ⊥
IsOutside (Line number text) = ⊥
IsOutside (Id number text) = ⊥
IsOutside (Op number text) = ⊥
IsOutside (Text name) = ⊥
IsOutside (Record number size) = ⊥
IsOutside (Compressed name compression) = ⊥

-- a fault that names its trace gives this name
abbrev pub Names : List ℕ → TraceFault → Type 0
Names name NoMemory = ⊤
Names name (CannotRead named) = named.now ≡ name
Names name (Empty named) = named.now ≡ name
Names name (NoColumn named column) = named.now ≡ name
Names name (Line number text) = ⊤
Names name (Id number text) = ⊤
Names name (Op number text) = ⊤
Names name (Text named) = named.now ≡ name
Names name (Record number size) = ⊤
Names name (Compressed named compression) = named.now ≡ name

-- the file of this name can't be read
abbrev pub IsUnread : List ℕ → TraceFault → Type 0
IsUnread name (CannotRead named) = named.now ≡ name
IsUnread name _ = ⊥

-- ---- references

-- what is said of the flaw that a fault reports; of a fault from outside the trace nothing is said
abbrev pub Blames : TraceFault → (Flaw → Type 0) → Type 0
Blames NoMemory P = ⊤
Blames (CannotRead name) P = ⊤
Blames (Empty name) P = ⊥
Blames (NoColumn name column) P = P NoIds
Blames (Line number text) P = P (BadLine number)
Blames (Id number text) P = P (BadId number)
Blames (Op number text) P = P (BadOp number)
Blames (Text name) P = P IsText
Blames (Record number size) P = P (BadRecord number size)
Blames (Compressed name compression) P = P (IsCompressed compression)

-- a fault of the content is where the trace breaks, and is what breaks it
abbrev pub BreaksBy : TraceFault → Trace → Type 0
BreaksBy fault trace = Blames fault (λ flaw. trace ≡ Breaks flaw)

-- what was to come is what is still to come, with something in front
abbrev pub Passes : (Trace → Trace) → Option Trace → Option Trace → Type 0
Passes ahead None rest = ⊤
Passes ahead (Some trace) None = ⊥
Passes ahead (Some trace) (Some rest) = trace ≡ ahead rest

-- nothing was to come, and nothing is
abbrev pub IsOver : Option Trace → Option Trace → Type 0
IsOver None rest = ⊤
IsOver (Some trace) None = ⊥
IsOver (Some trace) (Some rest) = (trace ≡ Ends) × (rest ≡ Ends)

-- An answer is what comes next, and is passed. There is none at the end of the trace. A fault is reported where the trace breaks.
abbrev pub Tells : {A : Type 0} → (A → Trace → Trace) → Result (Option A) TraceFault → Option Trace → Option Trace → Type 0
Tells gives (Ok (Some answer)) trace rest = Passes (gives answer) trace rest
Tells gives (Ok None) trace rest = IsOver trace rest
Tells gives (Err fault) trace rest = IfSome trace (BreaksBy fault)

-- ---- what is still to come

abbrev pub lines_left : {B : Type 0} → (B → Option (List ℕ)) → TraceFormat → Pieces B → Option Trace
lines_left remaining format pieces = option_map (λ bytes. lines format pieces.count pieces.words (pieces_of format bytes)) (remaining pieces.file)

-- with a reference in front that is due
abbrev pub due_left : {B : Type 0} → (B → Option (List ℕ)) → TraceFormat → Option LineReferences → Pieces B → Option Trace
due_left remaining format due pieces = option_map (due_from format due pieces.count pieces.words) (remaining pieces.file)

-- with one that is held
abbrev pub joined_left : {B : Type 0} → (B → Option (List ℕ)) → TraceFormat → Option Reference → Option LineReferences → Pieces B → Option Trace
joined_left remaining format held due pieces = option_map (λ bytes. joined held (due_from format due pieces.count pieces.words bytes)) (remaining pieces.file)

-- what is still to come of a trace
abbrev pub to_come : {B : Type 0} → (B → Option (List ℕ)) → TraceFile B → Option Trace
to_come remaining trace = if is_of_addresses trace.format then joined_left remaining trace.format trace.held trace.due trace.pieces
    else due_left remaining trace.format trace.due trace.pieces

-- the name that a trace was opened by
abbrev pub name_of : {B : Type 0} → TraceFile B → Bor (List ℕ)
name_of trace = trace.pieces.name

-- all that the reader below a trace holds is still to come
abbrev pub IsAtFront : {F A : Type 0} → (F → Option (List ℕ)) → TraceFormat → TraceFile (BufReader F A) → Type 0
IsAtFront remaining format trace = to_come (reader_remaining remaining) trace ≡ option_map (trace_of format) (remaining (reader_inner trace.pieces.file))

-- A file that was opened is the one that is read, unless there is not enough memory. For any other file the fault is that it can't be read.
abbrev pub Opens : {F E A : Type 0} → List ℕ → Result F E → Result (TraceFile (BufReader F A)) TraceFault → Type 0
Opens name (Ok file) (Ok trace) = reader_inner trace.pieces.file ≡ file
Opens name (Ok file) (Err fault) = fault ≡ NoMemory
Opens name (Err error) (Ok trace) = ⊥
Opens name (Err error) (Err fault) = IsUnread name fault

-- ---- many references

abbrev pub page_of : Reference → Key
page_of reference = reference.page

-- pages were given, and others are still to come
abbrev pub TellsPages : List Key → Option Trace → Option Trace → Type 0
TellsPages pages None rest = ⊤
TellsPages pages (Some trace) None = ⊥
TellsPages pages (Some trace) (Some rest) = (map page_of (told trace) ≡ pages ++ map page_of (told rest)) × (flaw_at_end trace ≡ flaw_at_end rest)

abbrev pub TellsReferences : List Reference → Option Trace → Option Trace → Type 0
TellsReferences references None rest = ⊤
TellsReferences references (Some trace) None = ⊥
TellsReferences references (Some trace) (Some rest) = (told trace ≡ references ++ told rest) × (flaw_at_end trace ≡ flaw_at_end rest)

-- a fault of the content is that at the end of the trace
abbrev pub EndsBy : TraceFault → Trace → Type 0
EndsBy fault trace = Blames fault (λ flaw. flaw_at_end trace ≡ Some flaw)

-- the same of one that may report that there are no references
abbrev pub StopsBy : TraceFault → Trace → Type 0
StopsBy NoMemory trace = ⊤
StopsBy (CannotRead name) trace = ⊤
StopsBy (Empty name) trace = (told trace ≡ []) × (flaw_at_end trace ≡ None)
StopsBy (NoColumn name column) trace = EndsBy (NoColumn name column) trace
StopsBy (Line number text) trace = EndsBy (Line number text) trace
StopsBy (Id number text) trace = EndsBy (Id number text) trace
StopsBy (Op number text) trace = EndsBy (Op number text) trace
StopsBy (Text name) trace = EndsBy (Text name) trace
StopsBy (Record number size) trace = EndsBy (Record number size) trace
StopsBy (Compressed name compression) trace = EndsBy (Compressed name compression) trace

-- a whole trace was given, without a flaw
abbrev pub IsWhole : List Reference → Trace → Type 0
IsWhole references trace = (told trace ≡ references) × (flaw_at_end trace ≡ None)

abbrev pub ArePages : List Key → Trace → Type 0
ArePages pages trace = (map page_of (told trace) ≡ pages) × (flaw_at_end trace ≡ None)

-- of the pages that were given, those that pass a test were kept; so many references were given in all, and others are still to come
abbrev pub TellsSample : (Key → Bool) → List Key → ℕ → Option Trace → Option Trace → Type 0
TellsSample keeps sample number None rest = ⊤
TellsSample keeps sample number (Some trace) None = ⊥
TellsSample keeps sample number (Some trace) (Some rest) =
    (filter keeps (map page_of (told trace)) ≡ sample ++ filter keeps (map page_of (told rest)))
    × ((length (told trace) ≡ number + length (told rest)) × (flaw_at_end trace ≡ flaw_at_end rest))

-- the pages of a whole trace without a flaw that pass a test, and how many references it has
abbrev pub IsSample : (Key → Bool) → List Key → ℕ → Trace → Type 0
IsSample keeps sample number trace = (filter keeps (map page_of (told trace)) ≡ sample) × ((length (told trace) ≡ number) × (flaw_at_end trace ≡ None))
