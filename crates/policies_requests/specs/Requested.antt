-- The requests that a command's arguments make.
use Rattle.std.specs.Prelude.{◌≡◌, ◌↔◌, ◌≤◌, ◌||◌, ℕ, not, true, List, Option, Some, None, codes, length, map, option_map, IsTrue, IsSomeAnd}
use Rattle.clap.specs.Walk.{Row, all_of, first_of}
use Rattle.machine_limits.specs.Limits.{most_processes}
use Rattle.miss_counts.specs.Counted.{any_needs_writes}
use Rattle.policies_requests.specs.Formats.{AsksFormat}
use Rattle.policies_requests.specs.Options.{AsksAccesses, AsksPrinting, IsOption, IsSet}
use Rattle.trace_lines.specs.Lines.{marks_writes}
use Rattle.policies_requests.specs.declared.request.CurveRequest.{CurveRequest}
use Rattle.policies_requests.specs.declared.request.GuestRequest.{GuestRequest}
use Rattle.policies_requests.specs.declared.request.MissesRequest.{MissesRequest}
use Rattle.policies_requests.specs.declared.request.PoliciesRequest.{PoliciesRequest}
use Rattle.policies_requests.specs.declared.request.PoliciesRequest.TheVariants.{Misses, Trace, Replay, Curve, WriteBacks, Totals}
use Rattle.policies_requests.specs.declared.request.ReplayRequest.{ReplayRequest}
use Rattle.policies_requests.specs.declared.request.TotalsRequest.{TotalsRequest}
use Rattle.policies_requests.specs.declared.request.TraceRequest.{TraceRequest}
use Rattle.policies_requests.specs.declared.request.WriteBacksRequest.{WriteBacksRequest}

-- the files of the images, in their order
abbrev pub AreImages : List Row → List (List ℕ) → Type 0
AreImages rows names = (all_of (codes "image") rows ≡ Some names) × (length names ≤ most_processes)

pub record AsksGuest (rows : List Row) (request : GuestRequest) : Type 0 where
  pub accesses : AsksAccesses rows request.accesses
  pub slice : IsOption 1000 1 100000 request.slice (first_of (codes "slice") rows)
  pub limit : IsOption 100000000 1 1000000000 request.limit (first_of (codes "limit") rows)
  pub input : option_map (λ s. s.now) request.input ≡ first_of (codes "input") rows
  pub images : AreImages rows (map (λ s. s.now) request.images.items)

pub record AsksMisses (rows : List Row) (request : MissesRequest) : Type 0 where
  pub guest : AsksGuest rows request.guest
  pub printing : AsksPrinting rows request.printing
  pub told : IsTrue request.is_told ↔ IsSet (codes "progress") rows

pub record AsksTrace (rows : List Row) (request : TraceRequest) : Type 0 where
  pub guest : AsksGuest rows request.guest
  pub format : AsksFormat rows request.format

-- of a format that marks no writes no policy that goes by them is asked for
pub record AsksReplay (rows : List Row) (request : ReplayRequest) : Type 0 where
  pub format : AsksFormat rows request.format
  pub writes : (marks_writes request.format || not (any_needs_writes request.wanted.policies.items)) ≡ true
  pub skip : IsOption 0 0 4294967295 request.skip (first_of (codes "skip") rows)
  pub printing : AsksPrinting rows request.printing
  pub told : IsTrue request.is_told ↔ IsSet (codes "progress") rows
  pub trace : first_of (codes "trace") rows ≡ Some request.trace.now

-- of a format that marks no writes none is asked for
pub record AsksWriteBacks (rows : List Row) (request : WriteBacksRequest) : Type 0 where
  pub format : AsksFormat rows request.format
  pub marks : marks_writes request.format ≡ true
  pub printing : AsksPrinting rows request.printing
  pub told : IsTrue request.is_told ↔ IsSet (codes "progress") rows
  pub trace : first_of (codes "trace") rows ≡ Some request.trace.now

-- how many pages one is of that is looked at; 0 where each is
abbrev pub sampled : Option ℕ → ℕ
sampled None = 0
sampled (Some one_in) = one_in

pub record AsksCurve (rows : List Row) (request : CurveRequest) : Type 0 where
  pub format : AsksFormat rows request.format
  pub optimum : IsTrue request.has_optimum ↔ IsSet (codes "optimum") rows
  pub sample : IsOption 0 1 4294967295 (sampled (option_map (λ n. n.value) request.one_in)) (first_of (codes "sample") rows)
  pub windows : IsTrue request.is_of_windows ↔ IsSet (codes "working-sets") rows
  pub printing : AsksPrinting rows request.printing
  pub told : IsTrue request.is_told ↔ IsSet (codes "progress") rows
  pub trace : first_of (codes "trace") rows ≡ Some request.trace.now

pub record AsksTotals (rows : List Row) (request : TotalsRequest) : Type 0 where
  pub format : AsksFormat rows request.format
  pub told : IsTrue request.is_told ↔ IsSet (codes "progress") rows
  pub trace : first_of (codes "trace") rows ≡ Some request.trace.now

-- what a command asks for, by its name and its arguments
abbrev pub Asks : List ℕ → List Row → PoliciesRequest → Type 0
Asks name rows (Misses request) = (name ≡ codes "misses") × AsksMisses rows request
Asks name rows (Trace request) = (name ≡ codes "trace") × AsksTrace rows request
Asks name rows (Replay request) = (name ≡ codes "replay") × AsksReplay rows request
Asks name rows (Curve request) = (name ≡ codes "curve") × AsksCurve rows request
Asks name rows (WriteBacks request) = (name ≡ codes "write-backs") × AsksWriteBacks rows request
Asks name rows (Totals request) = (name ≡ codes "totals") × AsksTotals rows request

-- of the command that was found among the words, with its arguments
abbrev pub IsAsked : Option (List ℕ × List Row) → PoliciesRequest → Type 0
IsAsked found request = IsSomeAnd found (λ command. Asks command.0 command.1 request)
