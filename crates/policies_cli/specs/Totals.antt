-- How many references and pages a trace has.
use Rattle.std.specs.Prelude.{◌≡◌, ℕ, ◌+◌, Bool, true, false, cond, List, [], ◌∷◌, length, Option, IfSome}
use Rattle.clock_policy.specs.declared.key.Key.{Key}
use Rattle.guest_strings.specs.declared.reference.Reference.{Reference}
use Rattle.whole_strings.specs.PageCounts.{page_count}
use Rattle.miss_counts.specs.StringPages.{pages_of}
use Rattle.trace_files.specs.References.{Trace}
use Rattle.trace_files.specs.ReferenceAnswers.{IsWhole}
use Rattle.policies_cli.specs.declared.totals.Totals.{Totals}

-- how many references say that they write
abbrev pub writes_in : List Reference → ℕ
writes_in [] = 0
writes_in (r ∷ rs) = cond r.is_written 1 0 + writes_in rs

pub record AreTotals (string : List Reference) (totals : Totals) : Type 0 where
  pub references : totals.references ≡ length string
  pub writes : totals.writes ≡ writes_in string
  pub pages : totals.pages ≡ page_count (pages_of string)

-- the totals of the string that a trace contains
abbrev pub TotalsOf : Totals → Option Trace → Type 0
TotalsOf totals trace = (string : List Reference) × (IfSome trace (IsWhole string) × AreTotals string totals)
