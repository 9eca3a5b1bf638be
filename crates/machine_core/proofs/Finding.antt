-- The page of the list's question is resident in the process that its key names.
use Rattle.std.proofs.Common.{◌≡◌, ℕ, zero, suc, ◌≤◌, ◌<◌, ◌^◌, ◌==◌, ◌&&◌, Bool, true, false, cond, List, [], ◌∷◌, length, Option, Some, None, is_some, slice_get, refl, sym, ap, ◌∙◌, arith}
use Rattle.std.proofs.lemmas.Option.{slice_get_within}
use borrow.Author.Tests.{eqb-true, lt-ltb}
use Rattle.clock_policy.specs.declared.key.Key.{Key}
use Rattle.clock_policy.proofs.AdmitLaws.{asked_once}
use Rattle.clock_policy.specs.ClockPro.{question_of}
use Rattle.clock_policy.specs.Residents.{is_key, is_gone}
use Rattle.paged_memory.proofs.access_laws.AmongLaws.{resident_there}
use Rattle.paged_memory.specs.moves.Stages.{is_resident_stage}
use Rattle.paged_memory.proofs.move_laws.StagesLaws.{resident_accessed}
use Rattle.paged_memory.specs.Whole.{stage_in, accessed_in}
use Rattle.clock_policy.specs.declared.answer.Bit.TheVariants.{Gone}
use Rattle.space_core.specs.StandsFor.{SpaceValue}
use Rattle.machine_core.specs.Machine.{CoreValue, IsMachine, total}
use Rattle.machine_sides.specs.Sweeping.{bit_of, bit_at}
use Rattle.machine_sides.specs.Together.{residents_in, key_of}

-- a place that counts where a sum does
pub record Counts {A : Type 0} (f : A → ℕ) (xs : List A) : Type 0 where
  pub place : ℕ
  pub item : A
  pub found : slice_get xs place ≡ Some item
  pub some : 1 ≤ f item

pub total_some : {A : Type 0} (f : A → ℕ) (xs : List A) → 1 ≤ total f xs → Counts f xs
unfolding total
total_some f [] h = absurd (omega arith)
total_some f (x ∷ xs) h = by_first (total_some f xs) (f x) refl
  where
    by_first : (1 ≤ total f xs → Counts f xs) → (n : ℕ) → f x ≡ n → Counts f (x ∷ xs)
    by_first more zero is = let rest = more (omega (arith, is, h)) in record { place = suc rest.place; item = rest.item; found = rest.found; some = rest.some }
    by_first more (suc n) is = record { place = 0; item = x; found = refl; some = omega (arith, is) }

both_true : (a b : Bool) → a && b ≡ true → (a ≡ true) × (b ≡ true)
both_true true true h = (refl, refl)
both_true true false h = cc
both_true false b h = cc

-- a bit that is told is not gone
bit_told : (bit : Option Bool) → is_some bit ≡ true → is_gone (bit_of bit) ≡ false
bit_told None h = cc
bit_told (Some true) h = refl
bit_told (Some false) h = refl

module _ {S : Type 0} where
  -- where a process has a key's page resident
  pub record HasResident (space : SpaceValue S) (key : Key) : Type 0 where
    pub of_process : space.memory.process ≡ key.process
    pub small : key.vpn < 2 ^ 20
    pub resident : is_resident_stage (stage_in space.memory key.vpn) ≡ true

  pub has_resident : (space : SpaceValue S) (key : Key) → 1 ≤ residents_in space (is_key key) → HasResident space key
  unfolding residents_in
  has_resident space key h =
      let found = resident_there space.memory (λ vpn. is_key key (key_of space.memory.process vpn)) h in
      let same = both_true (space.memory.process == key.process) (found.number == key.vpn) found.passes in
      let vpn : found.number ≡ key.vpn = eqb-true found.number key.vpn same.1 in
      let small = found.small in
      record {
        of_process = eqb-true space.memory.process key.process same.0;
        small = omega (arith, small, vpn);
        resident = ap (λ v. is_resident_stage (stage_in space.memory v)) (sym vpn) ∙ found.resident;
      }

  -- the process of the question's page
  pub record Asked (core : CoreValue S) (key : Key) : Type 0 where
    pub process : SpaceValue S
    pub found : slice_get core.processes key.process ≡ Some process
    pub within : key.process < length core.processes
    pub resident : HasResident process key

  pub asked_process : (core : CoreValue S) (key : Key) → IsMachine core → question_of core.pager.pager.list ≡ Some key → Asked core key
  asked_process core key machine asks =
      let once = asked_once key core.pager.pager.list machine.lawful asks in
      let listed = machine.listed (is_key key) in
      let one = total_some (λ (q : SpaceValue S). residents_in q (is_key key)) core.processes (omega (arith, once, listed)) in
      let there = has_resident one.item key one.some in
      let same : one.place ≡ key.process = sym (machine.numbered one.place one.item one.found) ∙ there.of_process in
      let found : slice_get core.processes key.process ≡ Some one.item = ap (slice_get core.processes) (sym same) ∙ one.found in
      record { process = one.item; found = found; within = slice_get_within core.processes key.process one.item found; resident = there }

  -- so its bit is told, and it is not gone
  pub bit_there : (space : SpaceValue S) (key : Key) → HasResident space key → is_gone (bit_at space key.vpn) ≡ false
  bit_there space key there =
      ap (λ b. is_gone (cond b (bit_of (accessed_in space.memory key.vpn)) Gone)) (lt-ltb key.vpn (2 ^ 20) there.small)
      ∙ bit_told (accessed_in space.memory key.vpn) (resident_accessed space.memory key.vpn there.resident)
