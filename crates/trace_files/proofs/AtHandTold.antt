-- What a trace tells when lines of pages are taken together.
use Rattle.std.specs.Prelude.{◌≡◌, ℕ, suc, ◌+◌, ◌-◌, ◌^◌, ◌<◌, ◌≤◌, ◌==◌, Bool, true, false, min, nat_lt, List, [], ◌∷◌, ◌++◌, length, drop, get_or, Option, None, Some, Result, Ok, Err, IfSome, OnOk, if◌then◌else◌, refl}
use Rattle.std.specs.Option.{option_map}
use Rattle.std.specs.Char.{digit_value, is_ascii_whitespace}
use Rattle.std.specs.Io.BufRead.{ends_with_byte}
use Rattle.std.specs.Io.KnownBytes.{Consumes}
use Rattle.std.proofs.Common.{arith, sym, ap, subst, ◌∙◌, append_assoc}
use Rattle.std.proofs.lemmas.Bool.Decides.{nat_tests, Decides-eqb}
use Rattle.clock_policy.specs.declared.key.Key.{Key}
use Rattle.clock_policy.specs.Text.{key_text}
use Rattle.text_lines.specs.Text.{is_line_end, lines_of}
use Rattle.trace_lines.specs.Lines.{said, line_said, form_said, to_page, to_reference}
use Rattle.trace_lines.specs.PlainLines.{compression_at, is_left_out, plain_line, tells_nothing, without_mark}
use Rattle.trace_lines.specs.PageLines.{IsPage, line_reference, referred}
use Rattle.trace_lines.specs.declared.format.TraceFormat.TheVariants.{Text}
use Rattle.trace_files.specs.References.{Trace, Ends, Gives, counted, flaw_at_end, is_of_addresses, lines, run_given, told}
use Rattle.trace_files.specs.ReferenceAnswers.{BreaksBy, EndsBy, IsOutside, IsOver, Passes, TellsReferences, due_left, joined_left}
use Rattle.trace_files.specs.WrittenPages.{EachIsPage, TakesPages, TellsOn, page_lines, read_only}
use Rattle.trace_files.specs.declared.fault.TraceFault.{TraceFault}
use Rattle.trace_files.specs.declared.fault.TraceFault.TheVariants.{NoMemory, CannotRead, Empty, NoColumn, Line, Id, Op, Text as IsText, Record, Compressed}
use Rattle.trace_files.proofs.CsvBackLaws.{no_space}
use Rattle.trace_files.proofs.LinesTold.{line_step}
use Rattle.trace_files.proofs.ManyTold.{ends_by, none_later, references_joined, references_on, references_over}
use Rattle.trace_files.specs.declared.pieces.Pieces.{Pieces}
use Rattle.trace_lines.specs.declared.format.TraceFormat.{TraceFormat}
use Rattle.trace_lines.specs.declared.trace_line.LineReferences.{LineReferences}
use Rattle.guest_strings.specs.declared.reference.Reference.{Reference}
use Rattle.trace_files.proofs.ReadBackLaws.{Lacks, and_no, key_lacks, key_some, line_read, no_line_end, other_byte, part_before, without_more}

pub outside_ends : (fault : TraceFault) → IsOutside fault → (trace : Option Trace) → IfSome trace (EndsBy fault)
outside_ends fault outside None = tt
outside_ends NoMemory outside (Some trace) = tt
outside_ends (CannotRead name) outside (Some trace) = tt
outside_ends (Empty name) outside (Some trace) = absurd outside
outside_ends (NoColumn name column) outside (Some trace) = absurd outside
outside_ends (Line number text) outside (Some trace) = absurd outside
outside_ends (Id number text) outside (Some trace) = absurd outside
outside_ends (Op number text) outside (Some trace) = absurd outside
outside_ends (IsText name) outside (Some trace) = absurd outside
outside_ends (Record number size) outside (Some trace) = absurd outside
outside_ends (Compressed name compression) outside (Some trace) = absurd outside

pub same_told : (now : Option Trace) (block : List Reference) → TellsOn now now block block
same_told now block = λ first h. h

-- ---- a line of a page is none that is left out, and no character of it is

no_return : (c : ℕ) → digit_value c < 10 → (c == 13) ≡ false
no_return c h = other_byte 13 c (c == 13) refl (λ k. absurd (omega (arith, k))) h

hash_is_no_digit : (d : ℕ) (b : Bool) → (35 == d) ≡ b → digit_value d < 10 → b ≡ false
hash_is_no_digit d false e h = refl
hash_is_no_digit d true e h =
    let same : 35 ≡ d = (Decides-eqb 35 d).0 e in
    let digit : digit_value 35 < 10 = subst (λ (n : ℕ). digit_value n < 10) (sym same) h in
    absurd (omega (arith, digit))

no_hash : (c : ℕ) → digit_value c < 10 → (35 == c) ≡ false
no_hash c h = hash_is_no_digit c (35 == c) refl h

last_is_other : (byte c : ℕ) (text : List ℕ) → Lacks (λ d. d == byte) (c ∷ text) → (get_or (c ∷ text) (length text) 0 == byte) ≡ false
last_is_other byte c [] h = h.0
last_is_other byte c (d ∷ text) h = last_is_other byte d text h.1

no_such_end : (byte : ℕ) (text : List ℕ) → Lacks (λ d. d == byte) text → ends_with_byte byte text ≡ false
no_such_end byte [] h = refl
no_such_end byte (c ∷ text) h =
    let place : length (c ∷ text) - 1 ≡ length text = omega arith in
    rw place (and_no (nat_lt 0 (length (c ∷ text))) (get_or (c ∷ text) (length text) 0 == byte) (last_is_other byte c text h))

not_left_out : (text : List ℕ) → 0 < length text → Lacks is_ascii_whitespace text → Lacks (λ c. 35 == c) text → is_left_out text ≡ false
unfolding is_left_out tells_nothing
not_left_out [] some space hash = absurd (omega (arith, some))
not_left_out (c ∷ text) some space hash = let long : (length (c ∷ text) == 0) ≡ false = grind (arith, nat_tests) in rw space.0 (rw hash.0 (rw long refl))

later_line : (number : ℕ) → 1 < number → (number == 1) ≡ false
later_line number h = grind (arith, nat_tests, h)

line_itself : (number : ℕ) (page : Key) → 1 < number → IsPage page → plain_line number (key_text page) ≡ key_text page
unfolding plain_line without_mark
line_itself number page later h = rw (later_line number later) (rw (no_such_end 13 (key_text page) (key_lacks (λ c. c == 13) no_return refl page h)) refl)

form_of : (page : Key) → IsPage page → form_said Text (key_text page) ≡ Some (to_page page)
form_of page h = ap (option_map to_reference) (ap line_reference (sym (without_more (key_text page))) ∙ line_read page false h)

line_of : (page : Key) → IsPage page → line_said Text (key_text page) ≡ Some (to_page page)
unfolding line_said
line_of page h =
    let stays : is_left_out (key_text page) ≡ false = not_left_out (key_text page) (key_some page h) (key_lacks is_ascii_whitespace no_space refl page h) (key_lacks (λ c. 35 == c) no_hash refl page h) in
    rw stays (form_of page h)

page_said : (number : ℕ) (page : Key) → 1 < number → IsPage page → said Text number (key_text page) ≡ Some (to_page page)
unfolding said compression_at
page_said number page later h = rw (later_line number later) (ap (line_said Text) (line_itself number page later h) ∙ line_of page h)

-- ---- lines one after another

later_number : (count : ℕ) → 1 ≤ count → 1 < counted count
later_number count h = omega (arith, h)

line_gives : (count : ℕ) (words : List (List ℕ)) (page : Key) (rest : List ℕ) → 1 ≤ count → IsPage page
    → lines Text count words (lines_of (key_text page ++ 10 ∷ rest)) ≡ Gives (referred false page) (lines Text (counted count) words (lines_of rest))
unfolding run_given
line_gives count words page rest later h =
    ap (lines Text count words) (part_before is_line_end (key_text page) 10 rest (key_lacks is_line_end no_line_end refl page h) refl)
    ∙ line_step Text count (counted count) words refl (key_text page) (to_page page) (to_page page) Text words (page_said (counted count) page (later_number count later) h) refl refl refl (lines_of rest)

abbrev numbered : ℕ → ℕ → ℕ
numbered count more = min (count + more) (2 ^ 64 - 1)

none_more : (count : ℕ) → count < 2 ^ 64 → count ≡ numbered count 0
none_more count h = omega (arith, h)

one_more : (count more : ℕ) → numbered (counted count) more ≡ numbered count (suc more)
one_more count more = omega arith

abbrev left : ℕ → List (List ℕ) → List ℕ → Trace
left count words bytes = lines Text count words (lines_of bytes)

-- references to pages, and what stands behind them
abbrev Told : List Key → Trace → Trace → Type 0
Told pages trace rest = (told trace ≡ read_only pages ++ told rest) × (flaw_at_end trace ≡ flaw_at_end rest)

told_from : (pages : List Key) (first trace rest : Trace) → first ≡ trace → Told pages trace rest → Told pages first rest
told_from pages first trace rest e h = subst (λ (t : Trace). Told pages t rest) (sym e) h

told_more : (page : Key) (pages : List Key) (trace rest : Trace) → Told pages trace rest → Told (page ∷ pages) (Gives (referred false page) trace) rest
told_more page pages trace rest h = (ap (λ (l : List Reference). referred false page ∷ l) h.0, h.1)

pages_told : (count : ℕ) (words : List (List ℕ)) (pages : List Key) (rest : List ℕ) → 1 ≤ count → count < 2 ^ 64 → EachIsPage pages
    → Told pages (left count words (page_lines pages ++ rest)) (left (numbered count (length pages)) words rest)
pages_told count words [] rest later fits h =
    let same : left count words rest ≡ left (numbered count 0) words rest = ap (λ (n : ℕ). left n words rest) (none_more count fits) in
    (ap told same, ap flaw_at_end same)
pages_told count words (page ∷ pages) rest later fits h =
    let behind : List ℕ = page_lines pages ++ rest in
    let later_too : 1 ≤ counted count = omega (arith, later) in
    let fits_too : counted count < 2 ^ 64 = omega arith in
    let step : left count words (page_lines (page ∷ pages) ++ rest) ≡ Gives (referred false page) (left (counted count) words behind) =
    ap (left count words) (append_assoc (key_text page) (10 ∷ page_lines pages) rest) ∙ line_gives count words page behind later h.0 in
    let others : Told pages (left (counted count) words behind) (left (numbered count (suc (length pages))) words rest) =
    subst (λ (n : ℕ). Told pages (left (counted count) words behind) (left n words rest)) (one_more count (length pages)) (pages_told (counted count) words pages rest later_too fits_too h.1) in
    told_from (page ∷ pages) (left count words (page_lines (page ∷ pages) ++ rest)) (Gives (referred false page) (left (counted count) words behind)) (left (numbered count (suc (length pages))) words rest) step
    (told_more page pages (left (counted count) words behind) (left (numbered count (suc (length pages))) words rest) others)

as_many : (pages : List Key) → length (read_only pages) ≡ length pages
as_many [] = refl
as_many (page ∷ pages) = ap suc (as_many pages)

longer_by : (old : List Reference) (pages : List Key) (new : List Reference) → new ≡ old ++ read_only pages → length new - length old ≡ length pages
longer_by [] pages new e = let same : length new ≡ length (read_only pages) = ap length e in let size : length (read_only pages) ≡ length pages = as_many pages in omega (arith, same, size)
longer_by (reference ∷ old) pages [] e = cc
longer_by (reference ∷ old) pages (first ∷ new) e = let rest = longer_by old pages new (ap (drop 1) e) in omega (arith, rest)

module _ (count next : ℕ) (words : List (List ℕ)) (later : 1 ≤ count) (fits : count < 2 ^ 64) (pages : List Key) (counts : next ≡ numbered count (length pages)) (each : EachIsPage pages) where
  taken_so : (known rest : Option (List ℕ)) → Consumes known rest (page_lines pages) → TellsReferences (read_only pages) (option_map (left count words) known) (option_map (left next words) rest)
  taken_so None rest taken = tt
  taken_so (Some bytes) None taken = absurd taken
  taken_so (Some bytes) (Some others) taken =
      told_from pages (left count words bytes) (left count words (page_lines pages ++ others)) (left next words others) (ap (left count words) taken)
      (subst (λ (n : ℕ). Told pages (left count words (page_lines pages ++ others)) (left n words others)) (sym counts) (pages_told count words pages others later fits each))

pub taken_told : (count next : ℕ) (words after : List (List ℕ)) (known rest : Option (List ℕ)) (old new : List Reference) → 1 ≤ count → count < 2 ^ 64 → next ≡ min (count + (length new - length old)) (2 ^ 64 - 1) → after ≡ words
    → TakesPages known rest old new → TellsOn (option_map (λ bytes. lines Text count words (lines_of bytes)) known) (option_map (λ bytes. lines Text next after (lines_of bytes)) rest) old new
taken_told count next words after known rest old new later fits counts same taken = λ first so_far.
    let pages : List Key = taken.0 in
    let number : next ≡ numbered count (length pages) = counts ∙ ap (numbered count) (longer_by old pages new taken.1.0) in
    let now : Option Trace = option_map (left count words) known in
    let behind : Option Trace = option_map (left next words) rest in
    let here : TellsReferences (old ++ read_only pages) first behind = references_joined old (read_only pages) first now behind so_far (taken_so count next words later fits pages number taken.1.1.1 known rest taken.1.1.0) in
    subst (λ (w : List (List ℕ)). TellsReferences new first (option_map (left next w) rest)) (sym same) (subst (λ (l : List Reference). TellsReferences l first behind) (sym taken.1.0) here)

-- what is still to come of lines, or of addresses
abbrev pub coming : {B : Type 0} → (B → Option (List ℕ)) → TraceFormat → Option Reference → Option LineReferences → Pieces B → Option Trace
coming remaining format held due pieces = if is_of_addresses format then joined_left remaining format held due pieces else due_left remaining format due pieces

pub at_hand_told : {B : Type 0} → (remaining : B → Option (List ℕ)) (result : Result (Unit {0}) TraceFault) (format : TraceFormat) (held : Option Reference) (due : Option LineReferences) (old new : Pieces B) (had has : List Reference)
    → format ≡ Text → due ≡ None → 1 ≤ old.count → old.count < 2 ^ 64 → OnOk result (TakesPages (remaining old.file) (remaining new.file) had has)
    → OnOk result (new.count ≡ min (old.count + (length has - length had)) (2 ^ 64 - 1)) → new.words ≡ old.words
    → OnOk result (TellsOn (coming remaining format held due old) (coming remaining format held due new) had has)
at_hand_told remaining (Err fault) format held due old new had has is none later fits taken counts same = tt
at_hand_told remaining (Ok done) format held due old new had has is none later fits taken counts same =
    subst (λ (f : TraceFormat). TellsOn (coming remaining f held due old) (coming remaining f held due new) had has) (sym is)
    (subst (λ (d : Option LineReferences). TellsOn (coming remaining Text held d old) (coming remaining Text held d new) had has) (sym none)
    (taken_told old.count new.count old.words new.words (remaining old.file) (remaining new.file) had has later fits counts same taken))

-- ---- a turn of a loop that takes lines at hand first

ends_too : (fault : TraceFault) (first now : Trace) → flaw_at_end first ≡ flaw_at_end now → EndsBy fault now → EndsBy fault first
ends_too NoMemory first now e ends = tt
ends_too (CannotRead name) first now e ends = tt
ends_too (Empty name) first now e ends = ends
ends_too (NoColumn name column) first now e ends = e ∙ ends
ends_too (Line number text) first now e ends = e ∙ ends
ends_too (Id number text) first now e ends = e ∙ ends
ends_too (Op number text) first now e ends = e ∙ ends
ends_too (IsText name) first now e ends = e ∙ ends
ends_too (Record number size) first now e ends = e ∙ ends
ends_too (Compressed name compression) first now e ends = e ∙ ends

pub ends_at_hand : (pages : List Reference) (fault : TraceFault) (first now : Option Trace) → TellsReferences pages first now → IfSome now (EndsBy fault) → IfSome first (EndsBy fault)
ends_at_hand pages fault None now so_far ends = tt
ends_at_hand pages fault (Some first) None so_far ends = absurd so_far
ends_at_hand pages fault (Some first) (Some now) so_far ends = ends_too fault first now so_far.1 ends

module _ (old new : List Reference) (first before now : Option Trace) (so_far : TellsReferences old first before) (on : TellsOn before now old new) where
  pub ends_behind : (fault : TraceFault) → IfSome now (BreaksBy fault) → IfSome first (EndsBy fault)
  ends_behind fault breaks = ends_by new fault first now (on first so_far) breaks

  pub over_behind : (later : Option Trace) → IsOver now later → TellsReferences new first later
  over_behind later over = references_over new first now later (on first so_far) over

  pub none_behind : (later : Option Trace) → IsOver now later → IfSome first (λ _. later ≡ Some Ends)
  none_behind later over = none_later new first now later (on first so_far) over

  pub one_behind : (reference : Reference) (later : Option Trace) → Passes (Gives reference) now later → TellsReferences (new ++ reference ∷ []) first later
  one_behind reference later passed = references_on new reference first now later (on first so_far) passed
