-- What the command of curves does with what it is asked for.
use Rattle.std.specs.Prelude.{◌≡◌, ℕ, ◌≤◌, Bool, true, false, List, [], length, Option, IfSome}
use Rattle.clock_policy.specs.declared.key.Key.{Key}
use Rattle.page_policies.specs.PolicyFrames.{most_policy_frames}
use Rattle.policies_cli.specs.declared.curves.Curves.{Curves}
use Rattle.policies_cli.specs.declared.curves.Estimate.{Estimate}
use Rattle.policies_cli.specs.declared.curves.Windows.{Windows}
use Rattle.trace_files.specs.References.{Trace}
use Rattle.trace_files.specs.ReferenceAnswers.{ArePages, IsSample}
use Rattle.whole_strings.specs.LruDepths.{IsLruCurve}
use Rattle.whole_strings.specs.OptimumCurve.{IsOptimumCurve}
use Rattle.whole_strings.specs.Sampling.{is_sampled}
use Rattle.whole_strings.specs.WorkingSets.{IsWindowCurve}

-- the optimum's curve, as long as LRU's, where it is asked for
abbrev pub OptimumWhere : Bool → ℕ → List ℕ → List Key → Type 0
OptimumWhere true pages curve string = IsOptimumCurve pages curve string
OptimumWhere false pages curve string = curve ≡ []

-- the curves of a string
pub record AreCurves (has_optimum : Bool) (string : List Key) (curves : Curves) : Type 0 where
  pub lru : IsLruCurve curves.lru.items string
  pub optimum : OptimumWhere has_optimum (length curves.lru.items) curves.optimum.items string
  pub few : length curves.lru.items ≤ most_policy_frames
  pub references : curves.references ≡ length string

-- the working sets of a string
pub record AreWindows (string : List Key) (windows : Windows) : Type 0 where
  pub sets : IsWindowCurve windows.curve.items string
  pub references : windows.references ≡ length string

-- LRU's curve of a sample of one page in so many, and how many references it and the whole string have
pub record IsEstimate (one_in references : ℕ) (sample : List Key) (estimate : Estimate) : Type 0 where
  pub lru : IsLruCurve estimate.lru.items sample
  pub one_in_so_many : estimate.of.one_in ≡ one_in
  pub sampled : estimate.of.sampled ≡ length sample
  pub of_references : estimate.of.references ≡ references

-- of the string that a trace contains
abbrev pub OfString : (List Key → Type 0) → Option Trace → Type 0
OfString Holds trace = (string : List Key) × (IfSome trace (ArePages string) × Holds string)

-- of the pages of the trace that are in the sample of one in so many
abbrev pub OfSample : ℕ → (ℕ → List Key → Type 0) → Option Trace → Type 0
OfSample one_in Holds trace = (references : ℕ) × ((sample : List Key) × (IfSome trace (IsSample (is_sampled one_in) sample references) × Holds references sample))
