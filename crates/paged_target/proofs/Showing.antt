-- What the machine tells of its process is the flat process's.
use Rattle.std.proofs.Common.{◌≡◌, ◌<◌, ◌≤◌, ℕ, Bool, true, false, List, [], length, Option, Some, None, IsSome, is_some, option_map, slice_get, slice_index, slice_index_or, unwrap_or, arith, refl, sym, ap, ◌∙◌, subst, true≢false, lt-ltb}
use Rattle.std.specs.Prelude.{◌^◌, ◌∷◌, if◌then◌else◌, option_and_then}
use Rattle.page_memory.specs.Pages.{Page}
use Rattle.page_memory.specs.Pages as plain
use Rattle.page_memory.specs.Memory.{byte_at}
use Rattle.page_memory.specs.Words.{page_number, page_offset}
use Rattle.elf_image.specs.Image.{ImageContent}
use Rattle.paged_memory.proofs.PeekLaws.{rights_staged}
use Rattle.paged_memory.specs.Showing.{mapped_page}
use Rattle.paged_memory.specs.Whole.{stage_in}
use Rattle.env_calls.specs.Environment.{any_live, most_harts, next_live}
use Rattle.env_calls.proofs.LiveLaws.{next_is_live, next_is_some}
use Rattle.flat_machine.specs.ByTurns.{turn_after}
use Rattle.flat_machine.specs.Process.{Process, IsWhole, hart_registers, is_live, opening, flat_run}
use Rattle.flat_machine.specs.Schedule.{written_out}
use Rattle.flat_machine.specs.declared.end.End.{End}
use Rattle.space_core.specs.StandsFor.{SpaceValue, StandsFor, flat_with, own_ending}
use Rattle.machine_sides.specs.Admitting.{stage_at}
use Rattle.elf_image.specs.Start.{Start, start_of}
use Rattle.machine_sides.specs.Starting.{Begins}
use Rattle.machine_core.specs.Coherent.{EachCoherent}
use Rattle.machine_core.specs.Faithful.{IsFaithful}
use Rattle.machine_core.specs.Machine.{CoreValue}
use Rattle.machine_core.specs.Opening.{AllBegin}
use Rattle.machine_core.specs.Reading.{is_live_in}
use Rattle.paged_target.specs.Marks.{marks_at, marks_in}
use Rattle.paged_target.specs.Shown.{flat_at, flat_in, flat_of, no_process, shown_as}
use Rattle.serial_driver.proofs.WholeLaws.{whole_from_opening}

-- ---- a process that was ended because it is full

full_live : (full : Bool) (hart : ℕ) (flat : Process) → is_live hart flat ≡ is_live hart (shown_as full flat)
full_live false hart flat = refl
full_live true hart flat = refl

full_turn : (full : Bool) (hart : ℕ) (flat : Process) → turn_after hart flat ≡ turn_after hart (shown_as full flat)
full_turn false hart flat = refl
full_turn true hart flat = refl

full_harts : (full : Bool) (hart : ℕ) (flat : Process) → hart_registers hart flat ≡ hart_registers hart (shown_as full flat)
full_harts false hart flat = refl
full_harts true hart flat = refl

pub full_memory : (full : Bool) (flat : Process) → (shown_as full flat).memory ≡ flat.memory
full_memory false flat = refl
full_memory true flat = refl

-- ---- the process of a machine

map_some : {A B : Type 0} (f : A → B) (o : Option A) → is_some (option_map f o) ≡ is_some o
map_some f None = refl
map_some f (Some x) = refl

some_of : {A : Type 0} (o : Option A) → IsSome o → (x : A) × (o ≡ Some x)
some_of None there = cc
some_of (Some x) there = (x, refl)

module _ {S : Type 0} (held : S → List ℕ) where
  -- a machine's one process, and the flat process that it stands for
  pub record ShowsFlat (core : CoreValue S) : Type 0 where
    pub side : SpaceValue S
    pub found : slice_get core.processes 0 ≡ Some side
    pub stands : StandsFor held side
    pub flat : flat_at core ≡ flat_with side.running stands.memory
    pub whole : IsWhole (flat_at core)

  stands_at : (honest : Type 0) (core : CoreValue S) (side : SpaceValue S) → honest → IsFaithful held honest core → slice_get core.processes 0 ≡ Some side → StandsFor held side
  unfolding EachCoherent
  stands_at honest core side is_honest faithful at = (faithful.coherent 0 side at).stands is_honest

  shows_by : (core : CoreValue S) (side : SpaceValue S) → slice_get core.processes 0 ≡ Some side → StandsFor held side → ShowsFlat core
  shows_by core side at stands =
      let flat : flat_at core ≡ flat_with side.running stands.memory = ap flat_in at ∙ ap (λ o. unwrap_or o no_process) stands.ran in
      record {
        side = side;
        found = at;
        stands = stands;
        flat = flat;
        whole = subst IsWhole (sym flat) (whole_from_opening side.image side.input (written_out side.schedule) (flat_with side.running stands.memory) stands.ran);
      }

  pub shows_flat : (honest : Type 0) (core : CoreValue S) → honest → IsFaithful held honest core → IsSome (slice_get core.processes 0) → ShowsFlat core
  shows_flat honest core is_honest faithful there =
      let at = some_of (slice_get core.processes 0) there in
      shows_by core at.0 at.1 (stands_at honest core at.0 is_honest faithful at.1)

  module _ (core : CoreValue S) (shows : ShowsFlat core) where
    pub live_shown : (full : Bool) (hart : ℕ) → is_live_in (slice_get core.processes 0) hart ≡ is_live hart (shown_as full (flat_at core))
    live_shown full hart = ap (λ o. is_live_in o hart) shows.found ∙ ap (is_live hart) (sym shows.flat) ∙ full_live full hart (flat_at core)

    marks_shown : marks_at core ≡ (flat_at core).environment.live
    marks_shown = ap marks_in shows.found ∙ ap (λ (p : Process). p.environment.live) (sym shows.flat)

    pub marks_few : length (marks_at core) ≤ most_harts
    marks_few = subst (λ l. length l ≤ most_harts) (sym marks_shown) shows.whole.few

    pub turn_shown : (full : Bool) (hart : ℕ) → unwrap_or (next_live hart (marks_at core)) hart ≡ turn_after hart (shown_as full (flat_at core))
    turn_shown full hart = ap (λ l. unwrap_or (next_live hart l) hart) marks_shown ∙ full_turn full hart (flat_at core)

    next_lives : (full : Bool) (hart next : ℕ) → next_live hart (marks_at core) ≡ Some next → is_live next (shown_as full (flat_at core)) ≡ true
    next_lives full hart next e = sym (full_live full next (flat_at core)) ∙ ap (λ l. slice_index_or l next false) (sym marks_shown) ∙ next_is_live hart (marks_at core) next e

    turn_there : (hart : ℕ) → next_live hart (marks_at core) ≡ None → ⊥
    turn_there hart e = no_turn (next_live hart (marks_at core)) (next_is_some hart (marks_at core) (ap any_live marks_shown ∙ shows.whole.some)) e
      where
        no_turn : (o : Option ℕ) → IsSome o → o ≡ None → ⊥
        no_turn None some e = true≢false (sym some)
        no_turn (Some x) some e = cc

    pub turn_lives : (full : Bool) (hart : ℕ) → is_live (unwrap_or (next_live hart (marks_at core)) hart) (shown_as full (flat_at core)) ≡ true
    turn_lives full hart = by (next_live hart (marks_at core)) refl
      where
        by : (o : Option ℕ) → next_live hart (marks_at core) ≡ o → is_live (unwrap_or o hart) (shown_as full (flat_at core)) ≡ true
        by None e = absurd (turn_there hart e)
        by (Some next) e = next_lives full hart next e

    pub harts_shown : (full : Bool) (hart : ℕ) → option_and_then (λ (side : SpaceValue S). slice_get side.running.harts hart) (slice_get core.processes 0) ≡ hart_registers hart (shown_as full (flat_at core))
    harts_shown full hart =
        ap (option_and_then (λ (side : SpaceValue S). slice_get side.running.harts hart)) shows.found ∙ ap (hart_registers hart) (sym shows.flat) ∙ full_harts full hart (flat_at core)

    pub end_shown : (end : Option End) → Some end ≡ option_map (λ (side : SpaceValue S). side.running.ending) (slice_get core.processes 0) → own_ending end ≡ (flat_at core).ending
    end_shown end e =
        let is = e ∙ ap (option_map (λ (side : SpaceValue S). side.running.ending)) shows.found in
        let same : end ≡ shows.side.running.ending = cc in
        ap own_ending same ∙ ap (λ (p : Process). p.ending) (sym shows.flat)

    -- a page is mapped where the flat process has one
    pub page_shown : (number : ℕ) → number < 2 ^ 20 → is_some (stage_in shows.side.memory number) ≡ is_some (mapped_page (flat_at core).memory number)
    page_shown number small =
        sym (rights_staged shows.side.memory number)
        ∙ ap is_some (sym (shows.stands.shows.mapped number small))
        ∙ map_some (λ (p : Page). p.rights) (mapped_page shows.stands.memory number)
        ∙ ap (λ (p : Process). is_some (mapped_page p.memory number)) (sym shows.flat)

    pub byte_shown : (address : ℕ) → is_some (byte_at (flat_at core).memory address) ≡ is_some (mapped_page (flat_at core).memory (page_number address))
    unfolding plain.byte_at
    byte_shown address = map_some (λ page. slice_index page.bytes (page_offset address)) (mapped_page (flat_at core).memory (page_number address))

    -- whether a page is mapped at an address
    pub mapped_shown : (full : Bool) (address vpn : ℕ) → vpn ≡ page_number address → vpn < 2 ^ 20
        → is_some (option_and_then (λ (side : SpaceValue S). stage_at side vpn) (slice_get core.processes 0)) ≡ is_some (byte_at (shown_as full (flat_at core)).memory address)
    mapped_shown full address vpn at small =
        ap (λ o. is_some (option_and_then (λ (side : SpaceValue S). stage_at side vpn) o)) shows.found
        ∙ ap (λ b. is_some (if b then stage_in shows.side.memory vpn else None)) (lt-ltb vpn (2 ^ 20) small)
        ∙ page_shown vpn small
        ∙ ap (λ n. is_some (mapped_page (flat_at core).memory n)) at
        ∙ sym (byte_shown address)
        ∙ ap (λ memory. is_some (byte_at memory address)) (sym (full_memory full (flat_at core)))

-- ---- a machine that begins

starts_alone : (image : ImageContent) (input : List ℕ) (start : Start) → slice_get (start_of image input ∷ []) 0 ≡ Some start → start_of image input ≡ start
starts_alone image input start e = cc

module _ {S : Type 0} where
  begun_flat : (image : ImageContent) (input : List ℕ) (start : Start) (side : SpaceValue S) → start_of image input ≡ start → Begins 0 start side → flat_of side ≡ opening image input
  unfolding flat_run
  begun_flat image input start side same begins =
      let image_is : side.image ≡ image = begins.image ∙ ap (λ (s : Start). s.image) (sym same) in
      let input_is : side.input ≡ input = begins.input ∙ ap (λ (s : Start). s.input) (sym same) in
      ap (λ l. unwrap_or (flat_run (written_out l) (opening side.image side.input)) no_process) begins.schedule
      ∙ ap (λ (i : ImageContent). opening i side.input) image_is ∙ ap (opening image) input_is

  pub begins_flat : (image : ImageContent) (input : List ℕ) (starts : List Start) (core : CoreValue S) → starts ≡ start_of image input ∷ [] → AllBegin starts core.processes → flat_at core ≡ opening image input
  begins_flat image input starts core alone all =
      let is = subst (λ l. AllBegin l core.processes) alone all in
      let first = is.each 0 (omega arith) in
      ap flat_in first.found ∙ begun_flat image input first.start first.process (starts_alone image input first.start first.given) first.begins

  pub begins_there : (image : ImageContent) (input : List ℕ) (starts : List Start) (core : CoreValue S) → starts ≡ start_of image input ∷ [] → AllBegin starts core.processes → IsSome (slice_get core.processes 0)
  begins_there image input starts core alone all =
      let is = subst (λ l. AllBegin l core.processes) alone all in
      let first = is.each 0 (omega arith) in
      subst IsSome (sym first.found) cc
