-- What single options say.
use Rattle.std.specs.Prelude.{◌≡◌, ◌↔◌, ℕ, ◌≤◌, List, Option, Some, None, codes, IsTrue}
use Rattle.std.specs.Str.Parse.{digits_value}
use Rattle.clap.specs.Walk.{Row, first_of}
use Rattle.guest_strings.specs.declared.access_kinds.AccessKinds.{AccessKinds}
use Rattle.guest_strings.specs.declared.access_kinds.AccessKinds.TheVariants.{All, Data, Instructions}
use Rattle.policies_tables.specs.declared.printing.Printing.{Printing}
use Rattle.text_lines.specs.Numbers.{IsUpTo}

-- a flag is set
abbrev pub IsSet : List ℕ → List Row → Type 0
IsSet name rows = first_of name rows ≡ Some (codes "true")

-- the number that digits write, in a range
pub record IsNumberFrom (least most number : ℕ) (text : List ℕ) : Type 0 where
  pub written : IsUpTo most 10 text
  pub is : number ≡ digits_value 10 text
  pub at_least : least ≤ number

-- the number of an option, in a range, or what it is where the option is not given
abbrev pub IsOption : ℕ → ℕ → ℕ → ℕ → Option (List ℕ) → Type 0
IsOption default least most number None = number ≡ default
IsOption default least most number (Some text) = IsNumberFrom least most number text

-- how a table is printed
pub record AsksPrinting (rows : List Row) (printing : Printing) : Type 0 where
  pub csv : IsTrue printing.is_csv ↔ IsSet (codes "csv") rows
  pub ratio : IsTrue printing.is_ratio ↔ IsSet (codes "ratio") rows

-- which references of guests are wanted: all where neither flag is set
pub record AsksAccesses (rows : List Row) (accesses : AccessKinds) : Type 0 where
  pub loads : (accesses ≡ Data) ↔ IsSet (codes "data") rows
  pub fetches : (accesses ≡ Instructions) ↔ IsSet (codes "instructions") rows
