-- What a trace tells when a line or record is read.
use Rattle.std.proofs.Common.{◌≡◌, ◌∙◌, ℕ, true, false, List, ◌∷◌, Option, None, Some, IfSome, ap, refl, sym}
use Rattle.std.specs.Option.{option_map}
use Rattle.trace_files.proofs.Telling.{piece_breaks, pieces_over}
use Rattle.trace_lines.specs.Lines.{csv_behind, format_behind, said, word_of}
use Rattle.trace_files.specs.References.{Trace, Breaks, counted, flaw_of, is_of_addresses, line_given, line_or, resolved_or, words_after, lines, pieces_of}
use Rattle.trace_files.specs.ReferenceAnswers.{BreaksBy, IsOver, Passes, TakesPiece}
use Rattle.trace_files.specs.declared.fault.TraceFault.{TraceFault}
use Rattle.trace_lines.specs.declared.format.Table.{Table}
use Rattle.trace_lines.specs.declared.format.TraceFormat.{TraceFormat}
use Rattle.trace_lines.specs.declared.format.TraceFormat.TheVariants.{Text, Csv, Columns, OracleGeneral, Lackey, DynamoRio}
use Rattle.trace_lines.specs.declared.trace_line.TraceLine.{TraceLine}
use Rattle.trace_lines.specs.declared.trace_line.TraceLine.TheVariants.{Refers, Word, LeftOut, Names}
use Rattle.trace_files.specs.WordNumbers.{resolved, words_behind}

same_table : (line : TraceLine) (table : Table) (bytes : List ℕ) → pieces_of (csv_behind (Some line) table) bytes ≡ pieces_of (Csv table) bytes
same_table (Refers line) table bytes = refl
same_table (Word is_written) table bytes = refl
same_table LeftOut table bytes = refl
same_table (Names found) table bytes = refl

-- a line leaves how the bytes behind it are cut
same_pieces : (line : TraceLine) (format : TraceFormat) (bytes : List ℕ) → pieces_of (format_behind (Some line) format) bytes ≡ pieces_of format bytes
same_pieces line Text bytes = refl
same_pieces line (Csv table) bytes = same_table line table bytes
same_pieces line (Columns table) bytes = refl
same_pieces line OracleGeneral bytes = refl
same_pieces line Lackey bytes = refl
same_pieces line DynamoRio bytes = refl

table_kind : (line : TraceLine) (table : Table) → is_of_addresses (csv_behind (Some line) table) ≡ false
table_kind (Refers line) table = refl
table_kind (Word is_written) table = refl
table_kind LeftOut table = refl
table_kind (Names found) table = refl

-- and whether the trace tells of addresses
pub same_kind : (line : TraceLine) (format behind : TraceFormat) → behind ≡ format_behind (Some line) format → is_of_addresses behind ≡ is_of_addresses format
same_kind line Text behind is = ap is_of_addresses is
same_kind line (Csv table) behind is = ap is_of_addresses is ∙ table_kind line table
same_kind line (Columns table) behind is = ap is_of_addresses is
same_kind line OracleGeneral behind is = ap is_of_addresses is
same_kind line Lackey behind is = ap is_of_addresses is
same_kind line DynamoRio behind is = ap is_of_addresses is

module _ (format : TraceFormat) (count next : ℕ) (words : List (List ℕ)) (counts : next ≡ counted count) (piece : List ℕ) where
  -- what the line or record of this number leaves, if it says this
  abbrev step : ℕ → Option TraceLine → List (List ℕ) → Trace
  step n line pieces = line_or (flaw_of format n piece) (resolved_or words (word_of format n piece) line)
      (lines (format_behind line format) n (words_after words (word_of format n piece) line) pieces)

  stepped : (pieces : List (List ℕ)) → lines format count words (piece ∷ pieces) ≡ step next (said format next piece) pieces
  unfolding lines
  stepped pieces = ap (λ (n : ℕ). step n (said format n piece) pieces) (sym counts)

  module _ (line read : TraceLine) (behind : TraceFormat) (after : List (List ℕ)) (says : said format next piece ≡ Some line)
      (reads : read ≡ resolved words (word_of format next piece) line) (keeps : after ≡ words_behind words (word_of format next piece) line) (is : behind ≡ format_behind (Some line) format) where
    pub line_step : (pieces : List (List ℕ)) → lines format count words (piece ∷ pieces) ≡ line_given read (lines behind next after pieces)
    line_step pieces =
        stepped pieces
        ∙ ap (λ (o : Option TraceLine). step next o pieces) says
        ∙ ap (λ (t : TraceLine). line_given t (lines (format_behind (Some line) format) next (words_behind words (word_of format next piece) line) pieces)) (sym reads)
        ∙ ap (λ (w : List (List ℕ)). line_given read (lines (format_behind (Some line) format) next w pieces)) (sym keeps)
        ∙ ap (λ (f : TraceFormat). line_given read (lines f next after pieces)) (sym is)

    pub line_passed : (known rest : Option (List ℕ)) → TakesPiece (pieces_of format) true piece known rest
        → Passes (line_given read) (option_map (λ bytes. lines format count words (pieces_of format bytes)) known) (option_map (λ bytes. lines behind next after (pieces_of behind bytes)) rest)
    line_passed None rest taken = tt
    line_passed (Some bytes) None taken = elim taken [ ]
    line_passed (Some bytes) (Some others) taken =
        ap (lines format count words) taken ∙ line_step (pieces_of format others)
        ∙ ap (λ (pieces : List (List ℕ)). line_given read (lines behind next after pieces)) (sym (ap (λ (f : TraceFormat). pieces_of f others) is ∙ same_pieces line format others))

  pub line_breaks : (fault : TraceFault) (known rest : Option (List ℕ)) → TakesPiece (pieces_of format) true piece known rest → said format next piece ≡ None → BreaksBy fault (Breaks (flaw_of format next piece))
      → IfSome (option_map (λ bytes. lines format count words (pieces_of format bytes)) known) (BreaksBy fault)
  line_breaks fault known rest taken says breaks =
      piece_breaks (pieces_of format) (lines format count words) (lines format next words) piece (flaw_of format next piece) fault known rest taken
      (λ pieces. stepped pieces ∙ ap (λ (o : Option TraceLine). step next o pieces) says)
      breaks

  pub lines_over : (after : List (List ℕ)) (known rest : Option (List ℕ)) → TakesPiece (pieces_of format) false piece known rest
      → IsOver (option_map (λ bytes. lines format count words (pieces_of format bytes)) known) (option_map (λ bytes. lines format next after (pieces_of format bytes)) rest)
  unfolding lines
  lines_over after known rest taken = pieces_over (pieces_of format) (lines format count words) (lines format next after) piece known rest taken refl refl
