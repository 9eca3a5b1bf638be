-- What was decoded of a process's pages is what its memory has, until it ends.
use Rattle.std.proofs.Common.{◌≡◌, ℕ, true, List, Option, Some, None, ap, ◌∙◌, sym, subst}
use Rattle.std.specs.Prelude.{IfSome, IfNone}
use Rattle.std.specs.Option.{option_or}
use Rattle.std.proofs.lemmas.Option.{none-some}
use Rattle.frame_pool.specs.FrameValue.{FrameValue}
use Rattle.page_memory.specs.ReadOnly.{KeepsReadOnly}
use Rattle.decoded_pages.specs.declared.pages.DecodedPages.{DecodedPages}
use Rattle.decoded_pages.specs.Code.{ShowsAll}
use Rattle.decoded_pages.proofs.Runs.{all_shown_on}
use Rattle.flat_machine.specs.declared.end.End.{End}
use Rattle.flat_machine.specs.declared.end.End.TheVariants.{Killed}
use Rattle.flat_machine.specs.declared.end.KillCause.{KillCause}
use Rattle.paged_memory.specs.moves.Moving.{OnlyCaches, OnlyPages, GivesIn, SameCaches}
use Rattle.paged_memory.specs.access.Notices.{emptied}
use Rattle.paged_memory.specs.Paged.{PagedValue, memory_of}
use Rattle.paged_memory.specs.Showing.{KeepsGivenUp}
use Rattle.paged_memory.proofs.access_laws.UsingLaws.{caches_shown}
use Rattle.paged_memory.specs.Whole.{harts_in}
use Rattle.flat_machine.specs.Process.{may_step}
use Rattle.flat_machine.proofs.StepLaws.{has_no_ending}
use Rattle.space_core.specs.RunningValue.{RecordedValue}
use Rattle.space_core.specs.Slicing.{shown_process}
use Rattle.space_core.specs.StandsFor.{SpaceValue, IsSpace, IsDecodedSpace}
use Rattle.space_core.proofs.Spaces.{space_memory, space_moved, pages_moved, space_cached, space_killed}
use Rattle.space_core.proofs.PagingSpaces.{space_given_up}

or_ends : (o : Option End) (ending : End) → option_or o (Some ending) ≡ None → ⊥
or_ends None ending is = none-some _ (sym is)
or_ends (Some first) ending is = none-some _ (sym is)

-- a process that may step has not ended
pub live_when_may : {S : Type 0} (held : S → List ℕ) (hart : ℕ) (space : SpaceValue S) → may_step hart (shown_process held space) ≡ true → space.running.ending ≡ None
live_when_may held hart space may = has_no_ending hart (shown_process held space) may

module _ {S : Type 0} (held : S → List ℕ) (honest : Type 0) (decoded : DecodedPages) where
  -- other pages, tables and caches that stand for the same memory
  pub decoded_memory : (old : SpaceValue S) (memory : PagedValue S) → harts_in memory ≡ harts_in old.memory → memory_of held memory ≡ memory_of held old.memory → KeepsGivenUp old.memory memory
      → IsDecodedSpace held honest decoded old → IsDecodedSpace held honest decoded (record old { memory = memory })
  decoded_memory old memory caches same stays is = record {
    space = space_memory held honest old memory caches same stays is.space;
    code = λ live. subst (ShowsAll decoded) (sym same) (is.code live);
  }

  -- the same where slots are honest
  pub decoded_moved : (old : SpaceValue S) (memory : PagedValue S) → harts_in memory ≡ harts_in old.memory → (honest → memory_of held memory ≡ memory_of held old.memory) → KeepsReadOnly (memory_of held old.memory) (memory_of held memory) → KeepsGivenUp old.memory memory
      → IsDecodedSpace held honest decoded old → IsDecodedSpace held honest decoded (record old { memory = memory })
  decoded_moved old memory caches same keeps stays is = record {
    space = space_moved held honest old memory caches same stays is.space;
    code = λ live. all_shown_on decoded (memory_of held old.memory) (memory_of held memory) keeps (is.code live);
  }

  -- the same where nothing but the pages changed
  pub decoded_pages_moved : (old : SpaceValue S) (memory : PagedValue S) → OnlyPages old.memory memory → (honest → memory_of held memory ≡ memory_of held old.memory) → KeepsReadOnly (memory_of held old.memory) (memory_of held memory) → KeepsGivenUp old.memory memory
      → IsDecodedSpace held honest decoded old → IsDecodedSpace held honest decoded (record old { memory = memory })
  decoded_pages_moved old memory only same keeps stays is = record {
    space = pages_moved held honest old memory only same stays is.space;
    code = λ live. all_shown_on decoded (memory_of held old.memory) (memory_of held memory) keeps (is.code live);
  }

  pub decoded_pages_same : (old : SpaceValue S) (memory : PagedValue S) → OnlyPages old.memory memory → memory_of held memory ≡ memory_of held old.memory → KeepsGivenUp old.memory memory
      → IsDecodedSpace held honest decoded old → IsDecodedSpace held honest decoded (record old { memory = memory })
  decoded_pages_same old memory only same stays is = record {
    space = pages_moved held honest old memory only (λ _. same) stays is.space;
    code = λ live. subst (ShowsAll decoded) (sym same) (is.code live);
  }

  -- nothing but its caches changed
  pub decoded_cached : (old : SpaceValue S) (memory : PagedValue S) → harts_in memory ≡ harts_in old.memory → OnlyCaches old.memory memory → IsDecodedSpace held honest decoded old → IsDecodedSpace held honest decoded (record old { memory = memory })
  decoded_cached old memory harts only is = record {
    space = space_cached held honest old memory harts only is.space;
    code = λ live. subst (ShowsAll decoded) (sym (caches_shown held old.memory memory only)) (is.code live);
  }

  -- the machine ends it, and its caches are emptied
  pub decoded_killed : (old : SpaceValue S) (cause : KillCause) (recorded : RecordedValue) (memory : PagedValue S)
      → recorded ≡ record { running = record old.running { ending = option_or old.running.ending (Some (Killed cause)) }; schedule = old.schedule } → memory ≡ emptied old.memory
      → IsDecodedSpace held honest decoded old → IsDecodedSpace held honest decoded (record old { running = recorded.running; schedule = recorded.schedule; memory = memory })
  decoded_killed old cause recorded memory ended clear is = record {
    space = space_killed held honest old cause recorded memory ended clear is.space;
    code = λ live. absurd (or_ends old.running.ending (Killed cause) (sym (ap (λ (r : RecordedValue). r.running.ending) ended) ∙ live));
  }

  -- a page is given up, once it has ended
  pub decoded_given_up : (old : SpaceValue S) (memory : PagedValue S) (ending : End) (ended : old.running.ending ≡ Some ending) (mid : PagedValue S) (result : Option ((Option FrameValue × Option S) × ℕ))
      → mid ≡ emptied old.memory → IfNone result (memory ≡ mid) → IfSome result (λ taken. GivesIn taken.0 mid memory) → SameCaches mid memory → memory.reserved ≡ mid.reserved
      → IsDecodedSpace held honest decoded old → IsDecodedSpace held honest decoded (record old { memory = memory })
  decoded_given_up old memory ending ended mid result clear left gives caches reserved is = record {
    space = space_given_up held honest old memory ending ended mid result clear left gives caches reserved is.space;
    code = λ live. absurd (none-some _ (sym live ∙ ended));
  }

  -- a process that had not ended ran
  pub decoded_ran : (old new : SpaceValue S) → old.running.ending ≡ None → KeepsReadOnly (memory_of held old.memory) (memory_of held new.memory) → IsSpace held honest new → IsDecodedSpace held honest decoded old → IsDecodedSpace held honest decoded new
  decoded_ran old new live keeps space is = record {
    space = space;
    code = λ _. all_shown_on decoded (memory_of held old.memory) (memory_of held new.memory) keeps (is.code live);
  }
