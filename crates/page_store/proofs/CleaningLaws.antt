-- Pages that are not being cleaned.
use Rattle.std.proofs.Common.{◌≡◌, ℕ, Bool, false, Option, refl}
use Rattle.frame_pool.specs.FrameValue.{FrameValue}
use Rattle.page_store.specs.Keeping.{NoSlot, Saved, Unbacked, Cleaning, CopyOut, is_copy_out}
use Rattle.page_store.specs.PageValue.{Place, Fresh, Resident, Leaving, Saving, Away, Purged, slot_of}
use Rattle.page_store.specs.declared.answer.CleanCopy.TheVariants as answer
use Rattle.page_store.specs.Cleaning.{copied_clean, is_being_cleaned, IfCopyOut}

-- no copy is made of one that is not being cleaned
pub not_cleaning : {S : Type 0} (process vpn : ℕ) (dirty marked : Bool) (place : Place S) (spare : Option S) → is_being_cleaned place ≡ false
    → (place, (spare, answer.NotCleaning)) ≡ copied_clean process vpn dirty marked place spare
not_cleaning process vpn dirty marked Fresh spare not = refl
not_cleaning process vpn dirty marked (Resident frame NoSlot) spare not = refl
not_cleaning process vpn dirty marked (Resident frame (Saved copy)) spare not = refl
not_cleaning process vpn dirty marked (Resident frame (Unbacked slot)) spare not = refl
not_cleaning process vpn dirty marked (Resident frame (Cleaning slot)) spare not = cc
not_cleaning process vpn dirty marked (Resident frame CopyOut) spare not = refl
not_cleaning process vpn dirty marked (Leaving frame slot mark) spare not = refl
not_cleaning process vpn dirty marked (Saving frame mark) spare not = refl
not_cleaning process vpn dirty marked (Away copy) spare not = refl
not_cleaning process vpn dirty marked Purged spare not = refl

-- none comes back to one of which none is out
pub not_out : {S : Type 0} (dirty : Bool) (place : Place S) (P : FrameValue → Bool → Type 0) → is_copy_out (slot_of place) ≡ false → ¬ IfCopyOut dirty place P
not_out dirty Fresh P not = λ out. out
not_out dirty (Resident frame NoSlot) P not = λ out. out
not_out dirty (Resident frame (Saved copy)) P not = λ out. out
not_out dirty (Resident frame (Unbacked slot)) P not = λ out. out
not_out dirty (Resident frame (Cleaning slot)) P not = λ out. out
not_out dirty (Resident frame CopyOut) P not = cc
not_out dirty (Leaving frame NoSlot mark) P not = λ out. out
not_out dirty (Leaving frame (Saved copy) mark) P not = λ out. out
not_out dirty (Leaving frame (Unbacked slot) mark) P not = λ out. out
not_out dirty (Leaving frame (Cleaning slot) mark) P not = λ out. out
not_out dirty (Leaving frame CopyOut mark) P not = cc
not_out dirty (Saving frame mark) P not = λ out. out
not_out dirty (Away copy) P not = λ out. out
not_out dirty Purged P not = λ out. out
