-- References that are told one after another.
use Rattle.std.proofs.Common.{◌≡◌, ◌∙◌, List, [], ◌∷◌, ◌++◌, map, length, Option, None, Some, IfSome, ap, arith, append-nil, append_assoc, refl, subst, sym}
use Rattle.std.proofs.lemmas.List.{map-append}
use Rattle.clock_policy.specs.declared.key.Key.{Key}
use Rattle.guest_strings.specs.declared.reference.Reference.{Reference}
use Rattle.trace_files.specs.References.{Trace, Ends, Gives, told, flaw_at_end}
use Rattle.trace_files.specs.ReferenceAnswers.{ArePages, BreaksBy, EndsBy, IsOver, IsWhole, Passes, StopsBy, TellsPages, TellsReferences, page_of}
use Rattle.trace_files.specs.declared.fault.TraceFault.{TraceFault}
use Rattle.trace_files.specs.declared.fault.TraceFault.TheVariants.{NoMemory, CannotRead, Empty, NoColumn, Line, Id, Op, Text, Record, Compressed}

pub no_pages : (trace : Option Trace) → TellsPages [] trace trace
no_pages None = tt
no_pages (Some trace) = (refl, refl)

pub references_over : (references : List Reference) (first now later : Option Trace) → TellsReferences references first now → IsOver now later → TellsReferences references first later
references_over references None now later told_so over = tt
references_over references (Some first) None later told_so over = elim told_so [ ]
references_over references (Some first) (Some now) None told_so over = elim over [ ]
references_over references (Some first) (Some now) (Some later) told_so over =
    (told_so.0 ∙ ap (λ (trace : Trace). references ++ told trace) (over.0 ∙ sym over.1), told_so.1 ∙ ap flaw_at_end (over.0 ∙ sym over.1))

pub none_later : (references : List Reference) (first now later : Option Trace) → TellsReferences references first now → IsOver now later → IfSome first (λ _. later ≡ Some Ends)
none_later references None now later told_so over = tt
none_later references (Some first) None later told_so over = elim told_so [ ]
none_later references (Some first) (Some now) None told_so over = elim over [ ]
none_later references (Some first) (Some now) (Some later) told_so over = ap Some over.1

ends_here : (fault : TraceFault) (first now : Trace) → flaw_at_end first ≡ flaw_at_end now → BreaksBy fault now → EndsBy fault first
ends_here NoMemory first now e breaks = tt
ends_here (CannotRead name) first now e breaks = tt
ends_here (Empty name) first now e breaks = breaks
ends_here (NoColumn name column) first now e breaks = e ∙ ap flaw_at_end breaks
ends_here (Line number text) first now e breaks = e ∙ ap flaw_at_end breaks
ends_here (Id number text) first now e breaks = e ∙ ap flaw_at_end breaks
ends_here (Op number text) first now e breaks = e ∙ ap flaw_at_end breaks
ends_here (Text name) first now e breaks = e ∙ ap flaw_at_end breaks
ends_here (Record number size) first now e breaks = e ∙ ap flaw_at_end breaks
ends_here (Compressed name compression) first now e breaks = e ∙ ap flaw_at_end breaks

pub ends_by : (references : List Reference) (fault : TraceFault) (first now : Option Trace) → TellsReferences references first now → IfSome now (BreaksBy fault) → IfSome first (EndsBy fault)
ends_by references fault None now told_so breaks = tt
ends_by references fault (Some first) None told_so breaks = elim told_so [ ]
ends_by references fault (Some first) (Some now) told_so breaks = ends_here fault first now told_so.1 breaks

-- ---- whole traces

pub no_references : (trace : Option Trace) → TellsReferences [] trace trace
no_references None = tt
no_references (Some trace) = (refl, refl)

pub references_on : (references : List Reference) (reference : Reference) (first now later : Option Trace) → TellsReferences references first now → Passes (Gives reference) now later → TellsReferences (references ++ reference ∷ []) first later
references_on references reference None now later told_so passed = tt
references_on references reference (Some first) None later told_so passed = elim told_so [ ]
references_on references reference (Some first) (Some now) None told_so passed = elim passed [ ]
references_on references reference (Some first) (Some now) (Some later) told_so passed =
    (told_so.0 ∙ ap (λ (trace : Trace). references ++ told trace) passed ∙ sym (append_assoc references (reference ∷ []) (told later)), told_so.1 ∙ ap flaw_at_end passed)

pub all_references : (references : List Reference) (first now later : Option Trace) → TellsReferences references first now → IsOver now later → IfSome first (IsWhole references)
all_references references None now later told_so over = tt
all_references references (Some first) None later told_so over = elim told_so [ ]
all_references references (Some first) (Some now) None told_so over = elim over [ ]
all_references references (Some first) (Some now) (Some later) told_so over =
    (told_so.0 ∙ ap (λ (trace : Trace). references ++ told trace) over.0 ∙ append-nil references, told_so.1 ∙ ap flaw_at_end over.0)

pub stops_here : (fault : TraceFault) (first now : Trace) → flaw_at_end first ≡ flaw_at_end now → BreaksBy fault now → StopsBy fault first
stops_here NoMemory first now e breaks = tt
stops_here (CannotRead name) first now e breaks = tt
stops_here (Empty name) first now e breaks = elim breaks [ ]
stops_here (NoColumn name column) first now e breaks = e ∙ ap flaw_at_end breaks
stops_here (Line number text) first now e breaks = e ∙ ap flaw_at_end breaks
stops_here (Id number text) first now e breaks = e ∙ ap flaw_at_end breaks
stops_here (Op number text) first now e breaks = e ∙ ap flaw_at_end breaks
stops_here (Text name) first now e breaks = e ∙ ap flaw_at_end breaks
stops_here (Record number size) first now e breaks = e ∙ ap flaw_at_end breaks
stops_here (Compressed name compression) first now e breaks = e ∙ ap flaw_at_end breaks

pub pages_joined : (pages block : List Key) (first now later : Option Trace) → TellsPages pages first now → TellsPages block now later → TellsPages (pages ++ block) first later
pages_joined pages block None now later told_so then_told = tt
pages_joined pages block (Some first) None later told_so then_told = elim told_so [ ]
pages_joined pages block (Some first) (Some now) None told_so then_told = elim then_told [ ]
pages_joined pages block (Some first) (Some now) (Some later) told_so then_told =
    (told_so.0 ∙ ap (λ (l : List Key). pages ++ l) then_told.0 ∙ sym (append_assoc pages block (map page_of (told later))), told_so.1 ∙ then_told.1)

-- a block that is empty, which stands at the end
pub all_pages : (pages block : List Key) (first now later : Option Trace) → TellsPages pages first now → TellsPages block now later → block ≡ [] → IfSome now (λ _. later ≡ Some Ends) → IfSome first (ArePages pages)
all_pages pages block None now later told_so then_told none ends = tt
all_pages pages block (Some first) None later told_so then_told none ends = elim told_so [ ]
all_pages pages block (Some first) (Some now) None told_so then_told none ends = elim then_told [ ]
all_pages pages block (Some first) (Some now) (Some later) told_so then_told none ends =
    let is : later ≡ Ends = cc in (
      told_so.0 ∙ ap (λ (l : List Key). pages ++ l) (then_told.0 ∙ ap (λ (l : List Key). l ++ map page_of (told later)) none ∙ ap (λ (t : Trace). map page_of (told t)) is) ∙ append-nil pages,
      told_so.1 ∙ then_told.1 ∙ ap flaw_at_end is,
    )

stops_by : (fault : TraceFault) (first now : Trace) → flaw_at_end first ≡ flaw_at_end now → EndsBy fault now → StopsBy fault first
stops_by NoMemory first now e ends = tt
stops_by (CannotRead name) first now e ends = tt
stops_by (Empty name) first now e ends = elim ends [ ]
stops_by (NoColumn name column) first now e ends = e ∙ ends
stops_by (Line number text) first now e ends = e ∙ ends
stops_by (Id number text) first now e ends = e ∙ ends
stops_by (Op number text) first now e ends = e ∙ ends
stops_by (Text name) first now e ends = e ∙ ends
stops_by (Record number size) first now e ends = e ∙ ends
stops_by (Compressed name compression) first now e ends = e ∙ ends

pub pages_stop : (pages : List Key) (fault : TraceFault) (first now : Option Trace) → TellsPages pages first now → IfSome now (EndsBy fault) → IfSome first (StopsBy fault)
pages_stop pages fault None now told_so ends = tt
pages_stop pages fault (Some first) None told_so ends = elim told_so [ ]
pages_stop pages fault (Some first) (Some now) told_so ends = stops_by fault first now told_so.1 ends

none_told : (references : List Reference) → map page_of references ≡ [] → references ≡ []
none_told [] e = refl
none_told (reference ∷ references) e = cc

no_page_at : (first : Option Trace) → IfSome first (ArePages []) → IfSome first (IsWhole [])
no_page_at None h = tt
no_page_at (Some trace) h = (none_told (told trace) h.0, h.1)

pub empty_pages : (pages block : List Key) (first now later : Option Trace) → TellsPages pages first now → TellsPages block now later → block ≡ [] → IfSome now (λ _. later ≡ Some Ends) → pages ≡ [] → IfSome first (IsWhole [])
empty_pages pages block first now later told_so then_told none ends empty =
    no_page_at first (subst (λ (l : List Key). IfSome first (ArePages l)) empty (all_pages pages block first now later told_so then_told none ends))

-- ---- whole traces, block by block

pub references_joined : (references block : List Reference) (first now later : Option Trace) → TellsReferences references first now → TellsReferences block now later → TellsReferences (references ++ block) first later
references_joined references block None now later told_so then_told = tt
references_joined references block (Some first) None later told_so then_told = elim told_so [ ]
references_joined references block (Some first) (Some now) None told_so then_told = elim then_told [ ]
references_joined references block (Some first) (Some now) (Some later) told_so then_told =
    (told_so.0 ∙ ap (λ (l : List Reference). references ++ l) then_told.0 ∙ sym (append_assoc references block (told later)), told_so.1 ∙ then_told.1)

-- a block that is empty, which stands at the end
pub all_blocks : (references block : List Reference) (first now later : Option Trace) → TellsReferences references first now → TellsReferences block now later → block ≡ [] → IfSome now (λ _. later ≡ Some Ends) → IfSome first (IsWhole references)
all_blocks references block None now later told_so then_told none ends = tt
all_blocks references block (Some first) None later told_so then_told none ends = elim told_so [ ]
all_blocks references block (Some first) (Some now) None told_so then_told none ends = elim then_told [ ]
all_blocks references block (Some first) (Some now) (Some later) told_so then_told none ends =
    let is : later ≡ Ends = cc in (
      told_so.0 ∙ ap (λ (l : List Reference). references ++ l) (then_told.0 ∙ ap (λ (l : List Reference). l ++ told later) none ∙ ap told is) ∙ append-nil references,
      told_so.1 ∙ then_told.1 ∙ ap flaw_at_end is,
    )

pub references_stop : (references : List Reference) (fault : TraceFault) (first now : Option Trace) → TellsReferences references first now → IfSome now (EndsBy fault) → IfSome first (StopsBy fault)
references_stop references fault None now told_so ends = tt
references_stop references fault (Some first) None told_so ends = elim told_so [ ]
references_stop references fault (Some first) (Some now) told_so ends = stops_by fault first now told_so.1 ends

pub empty_references : (references block : List Reference) (first now later : Option Trace) → TellsReferences references first now → TellsReferences block now later → block ≡ [] → IfSome now (λ _. later ≡ Some Ends) → references ≡ [] → IfSome first (IsWhole [])
empty_references references block first now later told_so then_told none ends empty = subst (λ (l : List Reference). IfSome first (IsWhole l)) empty (all_blocks references block first now later told_so then_told none ends)

-- the pages of references that were told
pub pages_told : (block : List Reference) (now later : Option Trace) → TellsReferences block now later → TellsPages (map page_of block) now later
pages_told block None later told_so = tt
pages_told block (Some now) None told_so = told_so
pages_told block (Some now) (Some later) told_so = (ap (map page_of) told_so.0 ∙ map-append page_of block (told later), told_so.1)

pub pages_on : (pages new : List Key) (block : List Reference) (first now later : Option Trace) → TellsPages pages first now → TellsReferences block now later → new ≡ pages ++ map page_of block → TellsPages new first later
pages_on pages new block first now later told_so then_told is = subst (λ (l : List Key). TellsPages l first later) (sym is) (pages_joined pages (map page_of block) first now later told_so (pages_told block now later then_told))

pub all_of_pages : (pages : List Key) (block : List Reference) (first now later : Option Trace) → TellsPages pages first now → TellsReferences block now later → block ≡ [] → IfSome now (λ _. later ≡ Some Ends) → IfSome first (ArePages pages)
all_of_pages pages block first now later told_so then_told none ends = all_pages pages (map page_of block) first now later told_so (pages_told block now later then_told) (ap (map page_of) none) ends

pub none_of_pages : (pages : List Key) (block : List Reference) (first now later : Option Trace) → TellsPages pages first now → TellsReferences block now later → block ≡ [] → IfSome now (λ _. later ≡ Some Ends) → pages ≡ [] → IfSome first (IsWhole [])
none_of_pages pages block first now later told_so then_told none ends empty = empty_pages pages (map page_of block) first now later told_so (pages_told block now later then_told) (ap (map page_of) none) ends empty

-- ---- lists without elements

pub empty_string : (references : List Reference) → length references ≡ 0 → references ≡ []
empty_string [] none = refl
empty_string (reference ∷ references) none = absurd (omega (arith, none))

pub empty_block : (pages : List Key) → length pages ≡ 0 → pages ≡ []
empty_block [] none = refl
empty_block (page ∷ pages) none = absurd (omega (arith, none))
