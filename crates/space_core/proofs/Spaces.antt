-- What the calls keep of a process on paged memory.
use Rattle.std.proofs.Common.{◌≡◌, ℕ, List, Some, ◌∙◌, refl, sym, subst}
use Rattle.std.specs.Option.{option_or}
use Rattle.flat_machine.specs.declared.end.End.TheVariants.{Killed}
use Rattle.flat_machine.specs.declared.end.KillCause.{KillCause}
use Rattle.paged_memory.specs.access.Notices.{emptied}
use Rattle.paged_memory.proofs.NoticesLaws.{emptied_harts}
use Rattle.paged_memory.specs.Paged.{PagedValue, memory_of}
use Rattle.paged_memory.specs.Showing.{KeepsGivenUp}
use Rattle.paged_memory.proofs.ShowingLaws.{caches_given_up}
use Rattle.paged_memory.specs.moves.Moving.{OnlyCaches, OnlyPages}
use Rattle.paged_memory.proofs.access_laws.UsingLaws.{caches_shown, pages_harts}
use Rattle.paged_memory.specs.Whole.{harts_in}
use Rattle.space_core.specs.RunningValue.{RecordedValue}
use Rattle.space_core.specs.StandsFor.{SpaceValue, IsSpace}
use Rattle.space_core.proofs.Standing.{stands_on, stands_killed}

module _ {S : Type 0} where
  -- other pages, tables and caches that stand for the same memory
  pub space_memory : (held : S → List ℕ) (honest : Type 0) (old : SpaceValue S) (memory : PagedValue S) → harts_in memory ≡ harts_in old.memory
      → memory_of held memory ≡ memory_of held old.memory
      → KeepsGivenUp old.memory memory
      → IsSpace held honest old → IsSpace held honest (record old { memory = memory })
  space_memory held honest old memory caches same stays space = record {
    stands = λ h. stands_on held old (record old { memory = memory }) refl refl refl refl same stays (space.stands h);
    cached = caches ∙ space.cached;
  }

  -- the same where slots are honest
  pub space_moved : (held : S → List ℕ) (honest : Type 0) (old : SpaceValue S) (memory : PagedValue S) → harts_in memory ≡ harts_in old.memory → (honest → memory_of held memory ≡ memory_of held old.memory) → KeepsGivenUp old.memory memory
      → IsSpace held honest old → IsSpace held honest (record old { memory = memory })
  space_moved held honest old memory caches same stays space = record {
    stands = λ h. stands_on held old (record old { memory = memory }) refl refl refl refl (same h) stays (space.stands h);
    cached = caches ∙ space.cached;
  }

  -- the same where nothing but the pages changed
  pub pages_moved : (held : S → List ℕ) (honest : Type 0) (old : SpaceValue S) (memory : PagedValue S) → OnlyPages old.memory memory → (honest → memory_of held memory ≡ memory_of held old.memory) → KeepsGivenUp old.memory memory
      → IsSpace held honest old → IsSpace held honest (record old { memory = memory })
  pages_moved held honest old memory only same stays space = space_moved held honest old memory (pages_harts old.memory memory only) same stays space

  -- nothing but its caches changed
  pub space_cached : (held : S → List ℕ) (honest : Type 0) (old : SpaceValue S) (memory : PagedValue S) → harts_in memory ≡ harts_in old.memory → OnlyCaches old.memory memory → IsSpace held honest old → IsSpace held honest (record old { memory = memory })
  space_cached held honest old memory harts only space = space_memory held honest old memory harts (caches_shown held old.memory memory only) (caches_given_up old.memory memory only) space

  -- its caches are emptied
  pub space_emptied : (held : S → List ℕ) (honest : Type 0) (old : SpaceValue S) → IsSpace held honest old → IsSpace held honest (record old { memory = emptied old.memory })
  space_emptied held honest old space = space_cached held honest old (emptied old.memory) (emptied_harts old.memory) refl space

  -- the machine ends it, and its caches are emptied
  pub space_killed : (held : S → List ℕ) (honest : Type 0) (old : SpaceValue S) (cause : KillCause) (recorded : RecordedValue) (memory : PagedValue S)
      → recorded ≡ record { running = record old.running { ending = option_or old.running.ending (Some (Killed cause)) }; schedule = old.schedule } → memory ≡ emptied old.memory
      → IsSpace held honest old → IsSpace held honest (record old { running = recorded.running; schedule = recorded.schedule; memory = memory })
  space_killed held honest old cause recorded memory ended clear space =
      let killed : SpaceValue S = record old { running = record old.running { ending = option_or old.running.ending (Some (Killed cause)) } } in
      let quiet : IsSpace held honest (record killed { memory = emptied old.memory }) = space_emptied held honest killed (record { stands = λ h. stands_killed held old cause (space.stands h); cached = space.cached }) in
      subst (λ (r : RecordedValue). IsSpace held honest (record old { running = r.running; schedule = r.schedule; memory = memory })) (sym ended)
      (subst (λ (m : PagedValue S). IsSpace held honest (record killed { memory = m })) (sym clear) quiet)
