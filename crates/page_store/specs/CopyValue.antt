-- What callers see of a page in its slot: the slot, and the digest of what was saved.
use Rattle.std.specs.Prelude.{◌≡◌, ◌≢◌, ℕ, List}
use Rattle.sha2.specs.Sha256.{sha256}
use Rattle.swap_slots.specs.Slot.{Rose}
use Rattle.page_store.specs.declared.refusal.FillFault.{FillFault}
use Rattle.page_store.specs.declared.refusal.FillFault.TheVariants.{NotAbsent, Device, Damaged}

pub record CopyValue (S : Type 0) : Type 0 where
  pub slot : S
  pub digest : List ℕ

-- why a page is not loaded whole: the device failed, or what it gave, and only a slot that lies does, has another digest
abbrev pub RefusesLoad : {S : Type 0} → Type 0 → (S → ℕ) → CopyValue S → CopyValue S → List ℕ → FillFault → Type 0
RefusesLoad honest failures old new page NotAbsent = ⊥
RefusesLoad honest failures old new page Device = Rose (failures old.slot) (failures new.slot)
RefusesLoad honest failures old new page Damaged = (¬ honest) × ((sha256 page ≢ old.digest) × (failures new.slot ≡ failures old.slot))
