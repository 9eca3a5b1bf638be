-- Which format of traces is asked for.
use Rattle.std.specs.Prelude.{◌≡◌, ℕ, ⊤, ◌||◌, Bool, true, false, List, Option, Some, None, codes, option_map}
use Rattle.clap.specs.Walk.{Row, first_of}
use Rattle.policies_requests.specs.Options.{IsOption}
use Rattle.policies_requests.specs.declared.trace_formats.FormatName.{FormatName}
use Rattle.policies_requests.specs.declared.trace_formats.FormatName.TheVariants.{Text as TextName, Csv as CsvName, OracleGeneral as OracleGeneralName, Lackey as LackeyName, DynamoRio as DynamoRioName}
use Rattle.std.specs.Option.{is_some}
use Rattle.trace_lines.specs.declared.format.IdKind.{IdKind}
use Rattle.trace_lines.specs.declared.format.IdKind.TheVariants.{Unknown, Numbers, Words, Texts}
use Rattle.trace_lines.specs.declared.format.Table.{Table}
use Rattle.trace_lines.specs.declared.format.TraceFormat.{TraceFormat}
use Rattle.trace_lines.specs.declared.format.TraceFormat.TheVariants.{Text, Csv, Columns, OracleGeneral, Lackey, DynamoRio}

-- no name, or that of a text
abbrev pub IsText : Option (List ℕ) → Type 0
IsText None = ⊤
IsText (Some name) = name ≡ codes "text"

-- the name of a format: that of a text may be left out
abbrev pub IsNamed : FormatName → Option (List ℕ) → Type 0
IsNamed TextName name = IsText name
IsNamed CsvName name = name ≡ Some (codes "csv")
IsNamed OracleGeneralName name = name ≡ Some (codes "oraclegeneral")
IsNamed LackeyName name = name ≡ Some (codes "lackey")
IsNamed DynamoRioName name = name ≡ Some (codes "dynamorio")

-- nothing is said of columns
pub record HasNoTable (rows : List Row) : Type 0 where
  pub columns : first_of (codes "columns") rows ≡ None
  pub ids : first_of (codes "ids") rows ≡ None
  pub page_size : first_of (codes "page-size") rows ≡ None
  pub writes : first_of (codes "writes") rows ≡ None

-- What the ids are, by `--ids`: where nothing is said the first one shows it, unless they are numbers in any case.
abbrev pub IsKindAsked : Bool → IdKind → Option (List ℕ) → Type 0
IsKindAsked are_numbers Unknown word = (are_numbers ≡ false) × (word ≡ None)
IsKindAsked true Numbers None = ⊤
IsKindAsked false Numbers None = ⊥
IsKindAsked are_numbers Numbers (Some word) = word ≡ codes "numbers"
IsKindAsked are_numbers Words word = ⊥
IsKindAsked are_numbers Texts word = (are_numbers ≡ false) × (word ≡ Some (codes "words"))

-- the size of a page, where ids are offsets: 4096 where nothing is said
abbrev pub IsPageSizeAsked : Option ℕ → Option (List ℕ) → Type 0
IsPageSizeAsked None word = word ≡ None
IsPageSizeAsked (Some size) word = IsOption 4096 1 4294967295 size word

-- how a table is read: offsets, and ids of volumes, are numbers
pub record AsksTable (rows : List Row) (table : Table) : Type 0 where
  pub ids : IsKindAsked (is_some table.page_size || is_some table.volume) table.ids (first_of (codes "ids") rows)
  pub page_size : IsPageSizeAsked (option_map (λ n. n.value) table.page_size) (first_of (codes "page-size") rows)
  pub writes : option_map (λ text. text.now) table.writes ≡ first_of (codes "writes") rows

-- a table, whose first line names its columns unless all of them have places
abbrev pub IsTableAsked : List Row → TraceFormat → Type 0
IsTableAsked rows Text = ⊥
IsTableAsked rows (Csv table) = AsksTable rows table
IsTableAsked rows (Columns table) = AsksTable rows table
IsTableAsked rows OracleGeneral = ⊥
IsTableAsked rows Lackey = ⊥
IsTableAsked rows DynamoRio = ⊥

-- a format by its name, and a table as it is asked for
pub record AsksTableNamed (rows : List Row) (table : Table) : Type 0 where
  pub name : first_of (codes "format") rows ≡ Some (codes "csv")
  pub asked : AsksTable rows table

pub record AsksPlain (rows : List Row) (name : FormatName) : Type 0 where
  pub named : IsNamed name (first_of (codes "format") rows)
  pub none : HasNoTable rows

abbrev pub AsksFormat : List Row → TraceFormat → Type 0
AsksFormat rows Text = AsksPlain rows TextName
AsksFormat rows (Csv table) = AsksTableNamed rows table
AsksFormat rows (Columns table) = AsksTableNamed rows table
AsksFormat rows OracleGeneral = AsksPlain rows OracleGeneralName
AsksFormat rows Lackey = AsksPlain rows LackeyName
AsksFormat rows DynamoRio = AsksPlain rows DynamoRioName
