-- A look at bytes of a page leaves what the machine shows.
use Rattle.std.proofs.Common.{◌≡◌, ◌<◌, ◌≤◌, ℕ, ◌+◌, length, replicate, false, List, Option, Some, None, IsSome, is_some, Ok, Err, slice_get, refl, sym, ap, ◌∙◌, subst, arith}
use Rattle.std.specs.Prelude.{◌^◌, option_and_then, Result}
use Rattle.page_memory.specs.Memory.{byte_at}
use Rattle.page_memory.specs.Words.{page_number, page_offset}
use Rattle.paged_memory.proofs.PeekLaws.{looked_stage, not_mapped, was_given_up}
use Rattle.paged_memory.specs.Whole.{stage_in}
use Rattle.paged_memory.specs.declared.peeking.PeekFault.{PeekFault}
use Rattle.paged_memory.specs.declared.peeking.PeekFault.TheVariants as fault
use Rattle.page_store.specs.declared.state.PageState.TheVariants.{Purged}
use Rattle.flat_machine.specs.Process.{Process, flat_run, opening}
use Rattle.flat_machine.specs.Schedule.{written_out}
use Rattle.space_core.specs.StandsFor.{SpaceValue, flat_with, own_ending}
use Rattle.machine_core.specs.Machine.{CoreValue}
use Rattle.machine_core.specs.Reading.{PeeksAt}
use Rattle.machine_core.proofs.TotalLaws.{get_set_same}
use Rattle.debug_core.specs.Points.{bytes_from}
use Rattle.paged_target.specs.Intact.{IsIntact, IsUnkilled, IsUnkilledIn}
use Rattle.paged_target.specs.Reads.{KeepsShown}
use Rattle.paged_target.specs.Recording.{recorded, recorded_in}
use Rattle.paged_target.specs.Shown.{flat_at, flat_in, flat_of, stage_of, stage_shown}
use Rattle.paged_target.proofs.PageBytes.{in_page, no_page}
use Rattle.paged_target.proofs.Showing.{ShowsFlat, page_shown, byte_shown}

-- an address lies in one of 2^20 pages
pub page_small : (address : ℕ) → address < 2 ^ 32 → page_number address < 2 ^ 20
page_small address fits = omega (arith, fits)

no_byte : {A : Type 0} (o : Option A) → is_some o ≡ false → o ≡ None
no_byte None e = refl
no_byte (Some x) e = cc

module _ {S : Type 0} (held : S → List ℕ) (honest : Type 0) where
  module _ (failures : S → ℕ) (address : ℕ) (room bytes : List (Option ℕ)) (answer : Result (Unit {0}) PeekFault) (old new : CoreValue S) (peeks : PeeksAt held honest failures 0 address room bytes (Some answer) old new) where
    left_at : slice_get new.processes 0 ≡ Some peeks.one.process'
    left_at = ap (λ l. slice_get l 0) peeks.one.is ∙ get_set_same old.processes 0 peeks.one.process peeks.one.process' peeks.one.found

    flat_stays : flat_at new ≡ flat_at old
    flat_stays = ap flat_in left_at ∙ ap (λ (p : SpaceValue S). flat_of p) peeks.one.how.stays ∙ ap flat_in (sym peeks.one.found)

    recorded_stays : recorded new ≡ recorded old
    recorded_stays = ap recorded_in left_at ∙ ap (λ (p : SpaceValue S). written_out p.schedule) peeks.one.how.stays ∙ ap recorded_in (sym peeks.one.found)

    stage_stays : (number : ℕ) → stage_shown new number ≡ stage_shown old number
    stage_stays number =
        ap (option_and_then (stage_of number)) left_at ∙ looked_stage held honest address peeks.one.process.memory peeks.one.process'.memory peeks.one.how.left number
        ∙ ap (option_and_then (stage_of number)) (sym peeks.one.found)

    unkilled_stays : IsUnkilled old → IsUnkilled new
    unkilled_stays unkilled =
        let own : own_ending peeks.one.process.running.ending ≡ peeks.one.process.running.ending = subst IsUnkilledIn peeks.one.found unkilled in
        subst IsUnkilledIn (sym left_at) (subst (λ (p : SpaceValue S). own_ending p.running.ending ≡ p.running.ending) (sym peeks.one.how.stays) own)

    pub peek_keeps : KeepsShown old new
    peek_keeps = record {
      there = subst IsSome (sym left_at) cc;
      flat = flat_stays;
      recorded = recorded_stays;
      purged = λ number e. sym (stage_stays number) ∙ e;
      unkilled = unkilled_stays;
    }

  module _ (failures : S → ℕ) (address : ℕ) (room bytes : List (Option ℕ)) (old new : CoreValue S) where
    side_is : (shows : ShowsFlat held old) (side : SpaceValue S) → slice_get old.processes 0 ≡ Some side → shows.side ≡ side
    side_is shows side at = let a = shows.found in cc

    -- the bytes are the flat process's
    pub bytes_are : honest → (shows : ShowsFlat held old) → page_offset address + length room ≤ 4096 → length bytes ≡ length room → (answer : Result (Unit {0}) PeekFault) → answer ≡ Ok (tt {0})
        → PeeksAt held honest failures 0 address room bytes (Some answer) old new → bytes ≡ bytes_from (flat_at old).memory address (length room)
    bytes_are is_honest shows within size answer is given =
        let peeks = subst (λ r. PeeksAt held honest failures 0 address room bytes (Some r) old new) is given in
        let ran = subst (λ (p : SpaceValue S). flat_run (written_out p.schedule) (opening p.image p.input) ≡ Some (flat_with shows.side.running shows.stands.memory))
        (side_is shows peeks.one.process peeks.one.found) shows.stands.ran in
        in_page (flat_with shows.side.running shows.stands.memory).memory address (length room) bytes within size (peeks.one.how.flat is_honest (flat_with shows.side.running shows.stands.memory) ran)
        ∙ ap (λ (p : Process). bytes_from p.memory address (length room)) (sym shows.flat)

    -- where none is mapped the flat process has none
    pub none_are : (shows : ShowsFlat held old) → page_number address < 2 ^ 20 → page_offset address + length room ≤ 4096 → (answer : Result (Unit {0}) PeekFault) → answer ≡ Err fault.NotMapped
        → PeeksAt held honest failures 0 address room bytes (Some answer) old new → replicate (length room) None ≡ bytes_from (flat_at old).memory address (length room)
    none_are shows small within answer is given =
        let peeks = subst (λ r. PeeksAt held honest failures 0 address room bytes (Some r) old new) is given in
        let none : stage_in shows.side.memory (page_number address) ≡ None = subst (λ (p : SpaceValue S). stage_in p.memory (page_number address) ≡ None)
        (sym (side_is shows peeks.one.process peeks.one.found)) (not_mapped held honest failures address peeks.one.process.memory peeks.one.process'.memory peeks.one.how.refused) in
        let missing : is_some (byte_at (flat_at old).memory address) ≡ false =
        byte_shown held old shows address ∙ sym (page_shown held old shows (page_number address) small) ∙ ap is_some none in
        no_page (flat_at old).memory address (length room) within (no_byte (byte_at (flat_at old).memory address) missing)

    -- the page was given back
    given_back_is : PeeksAt held honest failures 0 address room bytes (Some (Err fault.Purged)) old new → stage_shown old (page_number address) ≡ Some Purged
    given_back_is peeks =
        ap (option_and_then (stage_of (page_number address))) peeks.one.found
        ∙ was_given_up held honest failures address peeks.one.process.memory peeks.one.process'.memory peeks.one.how.refused

    pub given_back_never : IsIntact old → (answer : Result (Unit {0}) PeekFault) → answer ≡ Err fault.Purged → PeeksAt held honest failures 0 address room bytes (Some answer) old new → ⊥
    given_back_never intact answer is given = intact (page_number address) (given_back_is (subst (λ r. PeeksAt held honest failures 0 address room bytes (Some r) old new) is given))
