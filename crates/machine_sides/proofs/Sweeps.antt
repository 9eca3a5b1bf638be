-- A question's page, its accessed bit and what the list makes of it.
use Rattle.std.proofs.Common.{◌≡◌, ℕ, ◌^◌, ◌<◌, Bool, true, false, cond, nat_lt, Option, Some, None, is_some, Result, Ok, refl, sym, ap, ◌∙◌}
use borrow.Author.Tests.{ltb-true}
use Rattle.clock_policy.specs.declared.key.Key.{Key}
use Rattle.clock_policy.specs.declared.entry.Entry.{Entry}
use Rattle.clock_policy.specs.declared.entry.EntryKind.{EntryKind}
use Rattle.clock_policy.specs.declared.entry.EntryKind.TheVariants.{Hot, Test, Cold, Shadow}
use Rattle.clock_policy.specs.declared.answer.Bit.{Bit}
use Rattle.clock_policy.specs.declared.answer.Bit.TheVariants.{Zero, One, Gone}
use Rattle.clock_policy.specs.declared.answer.Verdict.{Verdict}
use Rattle.clock_policy.specs.declared.answer.Verdict.TheVariants.{Victim}
use Rattle.clock_policy.specs.declared.refusal.Refusal.{Refusal}
use Rattle.clock_policy.proofs.ResidentLaws.{victim_asked}
use Rattle.clock_policy.specs.ClockPro.{ClockState, question_of, answered, asked_entry, entry_answered, kind_answered, gone_on}
use Rattle.clock_policy.specs.Residents.{is_gone}
use Rattle.paged_memory.proofs.access_laws.AlikeLaws.{same_stage}
use Rattle.paged_memory.proofs.move_laws.LeaveLaws.{forgets_pages, accessed_stage}
use Rattle.paged_memory.specs.moves.Moving.{SamePage}
use Rattle.paged_memory.specs.moves.Stages.{is_resident_stage}
use Rattle.paged_memory.specs.Whole.{stage_in, accessed_in}
use Rattle.space_core.specs.StandsFor.{SpaceValue}
use Rattle.pager_core.specs.Pager.{PagerState, pager_answered}
use Rattle.machine_sides.specs.Sides.{PagerSideValue}
use Rattle.machine_sides.specs.Sweeping.{bit_of, bit_at, ReadsBit, Evicts, AnswersQuestion}

-- a page that is gone is no victim
kind_gone : (kind : EntryKind) (x : Entry) (s : ClockState) (k : Key) → (kind_answered kind Gone x s).1 ≡ Ok (Victim k) → ⊥
unfolding gone_on
kind_gone Hot x s k h = cc
kind_gone Test x s k h = cc
kind_gone Cold x s k h = cc
kind_gone Shadow x s k h = cc

gone_stays : (s : ClockState) (k : Key) → (answered Gone s).1 ≡ Ok (Victim k) → ⊥
unfolding answered
gone_stays s k h =
    elim (asked_entry s) as (λ found. (entry_answered found Gone s).1 ≡ Ok (Victim k) → ⊥) [
      | None ↦ λ g. cc
      | Some x ↦ λ g. kind_gone x.kind x s k g
    ] h

pub victim_is_there : (bit : Bit) (s : ClockState) (k : Key) → (answered bit s).1 ≡ Ok (Victim k) → is_gone bit ≡ false
victim_is_there Zero s k h = refl
victim_is_there One s k h = refl
victim_is_there Gone s k h = absurd (gone_stays s k h)

bit_there : (o : Option Bool) → is_gone (bit_of o) ≡ false → is_some o ≡ true
bit_there None h = cc
bit_there (Some b) h = refl

-- the verdict on what the list named
pub victim_told : (bit : Bit) (list : ClockState) (k : Key) (answer : Result Verdict Refusal) (verdict : Verdict) → answer ≡ (answered bit list).1 → answer ≡ Ok verdict → verdict ≡ Victim k → (answered bit list).1 ≡ Ok (Victim k)
victim_told bit list k answer verdict exact ok victim = sym exact ∙ ok ∙ ap {B = Result Verdict Refusal} (λ (v : Verdict). Ok v) victim

module _ {S : Type 0} where
  -- a page whose bit was read is resident
  pub read_resident : (space : SpaceValue S) (vpn : ℕ) → is_gone (bit_at space vpn) ≡ false → (vpn < 2 ^ 20) × (is_resident_stage (stage_in space.memory vpn) ≡ true)
  read_resident space vpn h =
      elim (nat_lt vpn (2 ^ 20)) as (λ t. nat_lt vpn (2 ^ 20) ≡ t → is_gone (cond t (bit_of (accessed_in space.memory vpn)) Gone) ≡ false → (vpn < 2 ^ 20) × (is_resident_stage (stage_in space.memory vpn) ≡ true)) [
        | true ↦ λ small there. (ltb-true vpn (2 ^ 20) small, sym (accessed_stage space.memory vpn) ∙ bit_there (accessed_in space.memory vpn) there)
        | false ↦ λ large there. cc
      ] refl h

  read_pages : (bit : Bit) (vpn : ℕ) (old new : SpaceValue S) → is_gone bit ≡ false → ReadsBit bit vpn old new → SamePage old.memory new.memory vpn
  read_pages Zero vpn old new there read = forgets_pages vpn old.memory new.memory read.moves vpn
  read_pages One vpn old new there read = forgets_pages vpn old.memory new.memory read.moves vpn
  read_pages Gone vpn old new there read = cc

  -- a victim's page is resident when it begins to leave
  pub victim_resident : (bit : Bit) (vpn : ℕ) (space between : SpaceValue S) (s : ClockState) (k : Key) → (answered bit s).1 ≡ Ok (Victim k) → bit ≡ bit_at space vpn → ReadsBit bit vpn space between
      → (vpn < 2 ^ 20) × (is_resident_stage (stage_in between.memory vpn) ≡ true)
  victim_resident bit vpn space between s k told is read =
      let there = victim_is_there bit s k told in
      let resident = read_resident space vpn (ap is_gone (sym is) ∙ there) in
      (resident.0, ap is_resident_stage (same_stage space.memory between.memory vpn (read_pages bit vpn space between there read)) ∙ resident.1)

  victim_answers : (pager pager' : PagerSideValue) (process process' : SpaceValue S) (between : SpaceValue S) (key k : Key) (bit : Bit)
      → question_of pager.pager.list ≡ Some key → (answered bit pager.pager.list).1 ≡ Ok (Victim k) → pager' ≡ record pager { pager = pager_answered bit pager.pager }
      → bit ≡ bit_at process key.vpn → ReadsBit bit key.vpn process between → Evicts key.vpn between process'
      → AnswersQuestion pager pager' process process' key bit (Victim key)
  victim_answers pager pager' process process' between key k bit asks told moved is read evicts =
      let same : k ≡ key = let e = victim_asked bit pager.pager.list k told in cc in
      record {
        question = asks;
        told = told ∙ ap {B = Result Verdict Refusal} (λ (q : Key). Ok (Victim q)) same;
        pager_is = moved;
        bit_is = sym is;
        between = between;
        read = read;
        heeded = evicts;
      }

  -- the same of the pager as its caller sees it
  pub victim_swept : (pager inside : PagerSideValue) (answering : PagerState) (process process' : SpaceValue S) (between : SpaceValue S) (key k : Key) (bit : Bit) → inside ≡ pager
      → question_of pager.pager.list ≡ Some key → (answered bit inside.pager.list).1 ≡ Ok (Victim k) → answering ≡ pager_answered bit inside.pager
      → bit ≡ bit_at process key.vpn → ReadsBit bit key.vpn process between → Evicts key.vpn between process'
      → AnswersQuestion pager (record inside { pager = answering }) process process' key bit (Victim key)
  victim_swept pager inside answering process process' between key k bit seen asks told moved is read evicts =
      victim_answers pager (record inside { pager = answering }) process process' between key k bit asks
      (ap (λ (p : PagerSideValue). (answered bit p.pager.list).1) (sym seen) ∙ told)
      (ap (λ (p : PagerState). record inside { pager = p }) moved ∙ ap (λ (p : PagerSideValue). record p { pager = pager_answered bit p.pager }) seen)
      is read evicts
