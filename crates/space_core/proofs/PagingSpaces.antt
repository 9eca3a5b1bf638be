-- Bytes that are looked at are the flat process's, and a page is given up.
use Rattle.std.proofs.Common.{◌≡◌, ℕ, ◌^◌, ◌<◌, List, Option, Some, None, Result, Ok, Err, OnOk, ap, ◌∙◌, sym, subst}
use Rattle.std.specs.Prelude.{IfSome, IfNone}
use Rattle.std.proofs.lemmas.Option.{none-some, same_Some}
use Rattle.frame_pool.specs.FrameValue.{FrameValue}
use Rattle.page_memory.specs.Words.{page_number}
use Rattle.paged_memory.specs.access.Notices.{emptied}
use Rattle.paged_memory.proofs.NoticesLaws.{emptied_harts}
use Rattle.paged_memory.specs.Paged.{PagedValue}
use Rattle.paged_memory.specs.Peeking.{bytes_of}
use Rattle.paged_memory.proofs.ShowingLaws.{bytes_shown, shows_then_given_up}
use Rattle.paged_memory.specs.moves.Moving.{GivesIn, SameCaches, ShowsIn}
use Rattle.paged_memory.proofs.access_laws.UsingLaws.{same_harts}
use Rattle.paged_memory.specs.Whole.{harts_in}
use Rattle.flat_machine.specs.declared.end.End.{End}
use Rattle.flat_machine.specs.Process.{Process, flat_run, opening}
use Rattle.flat_machine.specs.Schedule.{written_out}
use Rattle.space_core.specs.StandsFor.{SpaceValue, StandsFor, IsSpace}
use Rattle.space_core.proofs.Spaces.{space_emptied}

module _ {S : Type 0} (held : S → List ℕ) (honest : Type 0) where
  pub bytes_flat : {U E : Type 0} (space : SpaceValue S) (address count : ℕ) (bytes : List (Option ℕ)) (result : Result U E) → page_number address < 2 ^ 20 → honest → IsSpace held honest space → OnOk result (ShowsIn held honest space.memory address count bytes)
      → OnOk result ((flat : Process) → flat_run (written_out space.schedule) (opening space.image space.input) ≡ Some flat → bytes_of flat.memory address count ≡ Some bytes)
  bytes_flat space address count bytes (Err e) small is_honest is shows = tt
  bytes_flat space address count bytes (Ok u) small is_honest is shows = λ flat ran.
      let stands : StandsFor held space = is.stands is_honest in
      ap (λ (p : Process). bytes_of p.memory address count) (same_Some _ _ (sym ran ∙ stands.ran)) ∙ bytes_shown held honest space.memory stands.memory address count bytes small is_honest stands.shows shows

  module _ (old : SpaceValue S) (memory : PagedValue S) (ending : End) (ended : old.running.ending ≡ Some ending) where
    stands_given_up : (mid : PagedValue S) (given : Option FrameValue × Option S) → mid ≡ emptied old.memory → GivesIn given mid memory → memory.reserved ≡ mid.reserved → StandsFor held old → StandsFor held (record old { memory = memory })
    stands_given_up mid given clear gives reserved stands = record {
      memory = stands.memory;
      ran = stands.ran;
      shows = shows_then_given_up held old.memory mid memory stands.memory given clear gives reserved stands.shows;
      still = λ goes. absurd (none-some _ (sym goes ∙ ended));
    }

    pub space_given_up : (mid : PagedValue S) (result : Option ((Option FrameValue × Option S) × ℕ)) → mid ≡ emptied old.memory → IfNone result (memory ≡ mid) → IfSome result (λ taken. GivesIn taken.0 mid memory) → SameCaches mid memory → memory.reserved ≡ mid.reserved
        → IsSpace held honest old → IsSpace held honest (record old { memory = memory })
    space_given_up mid None clear left gives caches reserved space = subst (λ m. IsSpace held honest (record old { memory = m })) (sym (left ∙ clear)) (space_emptied held honest old space)
    space_given_up mid (Some taken) clear left gives caches reserved space = record {
      stands = λ h. stands_given_up mid taken.0 clear gives reserved (space.stands h);
      cached = same_harts mid memory caches ∙ ap harts_in clear ∙ emptied_harts old.memory ∙ space.cached;
    }
