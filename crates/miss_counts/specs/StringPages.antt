-- The pages of a string of references, and what policies are given of each reference.
use Rattle.std.specs.Prelude.{List, map}
use Rattle.clock_policy.specs.declared.key.Key.{Key}
use Rattle.guest_strings.specs.declared.reference.Reference.{Reference}
use Rattle.ticked_policies.specs.declared.page_use.PageUse.{PageUse}

abbrev pub pages_of : List Reference → List Key
pages_of references = map (λ reference. reference.page) references

abbrev pub use_of : Reference → PageUse
use_of reference = record { page = reference.page; is_written = reference.is_written }

abbrev pub uses_of : List Reference → List PageUse
uses_of references = map use_of references
