-- Bytes that are written one part after another.
use Rattle.std.specs.Prelude.{◌≡◌, ℕ, suc, List, [], ◌∷◌, ◌++◌, length, Option, Some, refl}
use Rattle.std.proofs.Common.{ap, sym, ◌∙◌}
use Rattle.std.proofs.lemmas.List.{append_assoc}
use Rattle.std.proofs.KnownBytes.{Appends-trans}
use Rattle.std.specs.Io.KnownBytes.{Appends}
use Rattle.std.specs.List.{flat_map}
use Rattle.clock_policy.specs.declared.key.Key.{Key}
use Rattle.guest_strings.specs.ToCome.{listed}
use Rattle.guest_strings.specs.declared.reference.Reference.{Reference}
use Rattle.miss_counts.specs.StringPages.{pages_of}
use Rattle.trace_files.specs.Written.{csv_line, records, reference_line}
use Rattle.trace_lines.specs.declared.format.TraceFormat.TheVariants.{OracleGeneral}
use Rattle.policies_cli.specs.Traces.{later, rows_behind, trace_text}

-- what was appended so far, and the bytes that are to come
pub record Goes (old now : Option (List ℕ)) (rest whole : List ℕ) : Type 0 where
  pub bytes : List ℕ
  pub appended : Appends old now bytes
  pub parts : bytes ++ rest ≡ whole

pub goes_on : (old now new : Option (List ℕ)) (rest whole part behind : List ℕ) → Goes old now rest whole → Appends now new part → rest ≡ part ++ behind → Goes old new behind whole
goes_on old now new rest whole part behind before appends is = record {
  bytes = before.bytes ++ part;
  appended = Appends-trans old now new before.bytes part before.appended appends;
  parts = append_assoc before.bytes part behind ∙ ap (λ (l : List ℕ). before.bytes ++ l) (sym is) ∙ before.parts;
}

-- lines of a text

pub line_on : (old now new : Option (List ℕ)) (references behind whole : List Reference) (reference : Reference) → Goes old now (flat_map reference_line references) (flat_map reference_line whole)
    → Appends now new (reference_line reference) → references ≡ listed (Some reference) ++ behind → Goes old new (flat_map reference_line behind) (flat_map reference_line whole)
line_on old now new references behind whole reference before appends is =
    goes_on old now new (flat_map reference_line references) (flat_map reference_line whole) (reference_line reference) (flat_map reference_line behind) before appends (ap (flat_map reference_line) is)

-- rows of a table

pub row_on : (old now new : Option (List ℕ)) (time next : ℕ) (references behind : List Reference) (whole : List ℕ) (reference : Reference) → Goes old now (rows_behind time references) whole
    → next ≡ later time → Appends now new (csv_line next reference.page) → references ≡ listed (Some reference) ++ behind → Goes old new (rows_behind next behind) whole
row_on old now new time next references behind whole reference before on appends is =
    goes_on old now new (rows_behind time references) whole (csv_line next reference.page) (rows_behind next behind) before appends
    (ap (rows_behind time) is ∙ ap (λ (n : ℕ). csv_line n reference.page ++ rows_behind n behind) (sym on))

-- records of a whole string

as_many : (references : List Reference) → length (pages_of references) ≡ length references
as_many [] = refl
as_many (reference ∷ references) = ap suc (as_many references)

pub oracle_text : (string come : List Reference) (pages : List Key) → string ≡ come → pages ≡ pages_of string → records (length pages) 0 pages ≡ trace_text OracleGeneral come
oracle_text string come pages same are =
    let all : pages ≡ pages_of come = are ∙ ap pages_of same in
    ap (λ (l : List Key). records (length l) 0 l) all ∙ ap (λ (n : ℕ). records n 0 (pages_of come)) (as_many come)
