-- What each call leaves of the copies that are out, by its answer.
use Rattle.std.proofs.Common.{◌≡◌, List, ℕ, ◌^◌, ◌<◌, Bool, false, Option, Some, None, Result, Ok, Err, refl, sym, ap, ◌∙◌, subst}
use Rattle.std.specs.Prelude.{IfOk, IfErr, IfSome, IfNone, OnOk, OnErr, OnSome}
use Rattle.frame_pool.specs.FrameValue.{FrameValue}
use Rattle.page_store.specs.JobValue.{SavedValue}
use Rattle.page_store.specs.Moves.{RefusesSave}
use Rattle.page_store.specs.PageValue.{Place, Fresh, Resident, Leaving, Saving, Away, Purged}
use Rattle.page_store.specs.declared.answer.CleanCopy.{CleanCopy}
use Rattle.page_store.specs.declared.answer.CleanCopy.TheVariants as clean
use Rattle.page_store.specs.declared.answer.Cleaned.{Cleaned}
use Rattle.page_store.specs.declared.answer.Cleaned.TheVariants as end
use Rattle.page_store.specs.declared.answer.Collected.{Collected}
use Rattle.page_store.specs.declared.answer.Collected.TheVariants as answer
use Rattle.page_store.specs.declared.answer.SaveRefusal.{SaveRefusal}
use Rattle.page_store.specs.declared.answer.SaveRefusal.TheVariants.{WrongPage, Mismatch, Device}
use Rattle.page_store.specs.declared.refusal.CleanRefusal.{CleanRefusal}
use Rattle.page_store.specs.declared.refusal.LeaveRefusal.{LeaveRefusal}
use Rattle.paged_memory.proofs.cleaning_laws.CleanLaws.{begins_alike, copy_comes_to, CopyComesTo, clean_comes_to, CleanComesTo}
use Rattle.paged_memory.specs.cleaning.Cleaning.{BeginsCleaning, CopiesOut, CopiesBack, CopiesPage, EndsCleaningIn}
use Rattle.paged_memory.proofs.move_laws.ComeLaws.{come, refused_alike}
use Rattle.paged_memory.specs.cleaning.Copies.{LeavesCopies}
use Rattle.paged_memory.proofs.cleaning_laws.CopiesMoveLaws.{same_bits, moved_copies}
use Rattle.paged_memory.proofs.cleaning_laws.CopiesToldLaws.{leaves_itself, leaves_on, leaves_tables}
use Rattle.paged_memory.proofs.move_laws.GivenLaws.{has_given}
use Rattle.paged_memory.proofs.move_laws.LeaveLaws.{forgets_alike, returned}
use Rattle.paged_memory.specs.moves.Leaving.{lets_go}
use Rattle.paged_memory.proofs.access_laws.LooksLaws.{ComesTo, comes_to}
use Rattle.paged_memory.specs.moves.Moving.{BeginsToLeave, ComesIn, ForgetsUse, GivesIn, IsNotSaved, LooksAt, MapsAgain, OnlyPages, RefusesIn, SavedAway}
use Rattle.paged_memory.specs.access.Notices.{emptied}
use Rattle.paged_memory.specs.Paged.{PagedValue}
use Rattle.paged_memory.proofs.move_laws.SaveLaws.{gone, being_saved, gone_away}
use Rattle.paged_memory.specs.declared.filling.PageInFault.{PageInFault}

module _ {S : Type 0} where
  -- nothing changed
  pub same_copies : (old new : PagedValue S) → new ≡ old → LeavesCopies old new
  same_copies old new same = subst (LeavesCopies old) (sym same) (leaves_itself old)

  -- a page's use is read
  pub forgotten_copies : (o : Option Bool) (vpn : ℕ) (old new : PagedValue S) → IfNone o (new ≡ old) → OnSome o (ForgetsUse vpn old new) → LeavesCopies old new
  forgotten_copies None vpn old new same forgets = same_copies old new same
  forgotten_copies (Some bit) vpn old new same forgets = (forgets_alike vpn old new forgets).copies

  -- a page begins to leave
  pub left_copies : (r : Result Unit LeaveRefusal) (vpn : ℕ) (old new : PagedValue S) → OnErr r (new ≡ old) → OnOk r (BeginsToLeave vpn old new) → LeavesCopies old new
  left_copies (Err refusal) vpn old new same begins = same_copies old new same
  left_copies (Ok done) vpn old new same begins = begins.copies

  -- a page that leaves is collected
  pub collected_copies : (L : Type 0) (vpn : ℕ) (spare spare' : Option S) (a : Collected L S) (old new : PagedValue S) → vpn < 2 ^ 20 → OnlyPages old new → (lets_go a ≡ false → new ≡ old) → LooksAt vpn spare spare' a old new → LeavesCopies old new
  collected_copies L vpn spare spare' a old new small stays same looks = by_answer a same (comes_to L vpn spare spare' old new small stays a looks)
    where
      by_answer : (a : Collected L S) → (lets_go a ≡ false → new ≡ old) → ComesTo vpn spare spare' old new a → LeavesCopies old new
      by_answer answer.NotLeaving same came = same_copies old new (same refl)
      by_answer answer.NotYet same came = same_copies old new (same refl)
      by_answer answer.NoSlot same came = same_copies old new (same refl)
      by_answer (answer.Clean frame) same came = (gone vpn frame old new came.0).copies
      by_answer (answer.Dirty job) same came = (being_saved vpn job old new came.0).copies

  -- its save comes back
  pub saved_copies : (job : SavedValue S) (result : Result FrameValue (SaveRefusal S)) (old new : PagedValue S) → OnlyPages old new → IfOk result (λ frame. SavedAway job frame old new) → IfErr result (λ refusal. IsNotSaved job refusal old new) → LeavesCopies old new
  saved_copies job (Ok frame) old new stays ok err = (gone_away job frame old new ok).copies
  saved_copies job (Err (WrongPage back)) old new stays ok err = leaves_tables old new err.1.0 (ap (λ (m : PagedValue S). m.tables) stays)
  saved_copies job (Err Mismatch) old new stays ok err = by_place err.1.1.page.place refl err.1.1.how.1
    where
      by_place : (place : Place S) → err.1.1.page.place ≡ place → RefusesSave job place err.1.1.page'.place Mismatch → LeavesCopies old new
      by_place Fresh was how = absurd how
      by_place (Resident frame slot) was how = absurd how
      by_place (Leaving frame slot mark) was how = absurd how
      by_place (Saving frame mark) was how = moved_copies _ old new job.vpn err.1.1 (same_bits job.vpn old.tables new.tables (ap (λ (m : PagedValue S). m.tables) stays)) _ _ was how.1 refl
      by_place (Away copy) was how = absurd how
      by_place Purged was how = absurd how
  saved_copies job (Err Device) old new stays ok err = by_place err.1.1.page.place refl err.1.1.how.1
    where
      by_place : (place : Place S) → err.1.1.page.place ≡ place → RefusesSave job place err.1.1.page'.place Device → LeavesCopies old new
      by_place Fresh was how = absurd how
      by_place (Resident frame slot) was how = absurd how
      by_place (Leaving frame slot mark) was how = absurd how
      by_place (Saving frame mark) was how = moved_copies _ old new job.vpn err.1.1 (same_bits job.vpn old.tables new.tables (ap (λ (m : PagedValue S). m.tables) stays)) _ _ was how.2 refl
      by_place (Away copy) was how = absurd how
      by_place Purged was how = absurd how

  -- it is mapped again
  pub returned_copies : {E : Type 0} (result : Result Unit E) (vpn : ℕ) (old new : PagedValue S) → OnOk result (MapsAgain vpn old new) → OnErr result (new ≡ old) → LeavesCopies old new
  returned_copies (Ok done) vpn old new ok err = (returned vpn old new ok).copies
  returned_copies (Err refusal) vpn old new ok err = same_copies old new err

  -- a page is brought in
  pub paged_in_copies : {U : Type 0} (held : S → List ℕ) (honest : Type 0) (failures : S → ℕ) (frame : FrameValue) (vpn : ℕ) (old new : PagedValue S) (result : Result U (FrameValue × PageInFault)) → vpn < 2 ^ 20 → new.process ≡ old.process
      → OnErr result (new.tables ≡ old.tables) → OnOk result (ComesIn held honest frame vpn old new) → IfErr result (λ back. RefusesIn held honest failures frame vpn back.0 back.1 old new) → LeavesCopies old new
  paged_in_copies held honest failures frame vpn old new (Ok u) small process tables ok refused = (come held honest frame vpn old new ok).copies
  paged_in_copies held honest failures frame vpn old new (Err back) small process tables ok refused = (refused_alike held honest old new process tables vpn small failures frame back.0 back.1 refused).copies

  -- a page gives back what it has
  pub given_copies : (given : Option FrameValue × Option S) (old new : PagedValue S) → GivesIn given old new → LeavesCopies old new
  given_copies given old new gives = (has_given given old new gives).copies

  -- the same of what is taken of an ended process, whose caches are emptied first
  pub taken_copies : (taken : Option ((Option FrameValue × Option S) × ℕ)) (old between new : PagedValue S) → between ≡ emptied old → IfNone taken (new ≡ between) → IfSome taken (λ one. GivesIn one.0 between new) → LeavesCopies old new
  taken_copies None old between new empty none some = leaves_tables old new (ap (λ (m : PagedValue S). m.pages) (none ∙ empty)) (ap (λ (m : PagedValue S). m.tables) (none ∙ empty))
  taken_copies (Some one) old between new empty none gives =
      leaves_on old between new (leaves_tables old between (ap (λ (m : PagedValue S). m.pages) empty) (ap (λ (m : PagedValue S). m.tables) empty)) (given_copies one.0 between new gives)

  -- a cleaning begins
  pub begun_copies : (ended : Bool) (r : Result Unit CleanRefusal) (vpn : ℕ) (old new : PagedValue S) → vpn < 2 ^ 20 → OnErr r (new ≡ old) → OnOk r (BeginsCleaning ended vpn old new) → LeavesCopies old new
  begun_copies ended (Err refusal) vpn old new small same begins = same_copies old new same
  begun_copies ended (Ok done) vpn old new small same begins = (begins_alike ended vpn old new small begins).copies

  -- a copy goes out
  pub copies_out : (vpn : ℕ) (spare spare' : Option S) (a : CleanCopy S) (old new : PagedValue S) → vpn < 2 ^ 20 → OnlyPages old new → CopiesPage vpn spare spare' a old new → CopiesOut vpn a old new
  copies_out vpn spare spare' a old new small stays copies = by_answer a (copy_comes_to vpn spare spare' a old new small stays copies)
    where
      by_answer : (a : CleanCopy S) → CopyComesTo vpn spare spare' old new a → CopiesOut vpn a old new
      by_answer clean.NotCleaning came = came.0.copies
      by_answer clean.Stored came = came.0.copies
      by_answer clean.NotYet came = came.0.copies
      by_answer clean.NoSlot came = came.0.copies
      by_answer (clean.Copied job) came = came.goes

  -- it comes back
  pub copies_back : (job : SavedValue S) (a : Cleaned S) (old new : PagedValue S) → OnlyPages old new → EndsCleaningIn job a old new → CopiesBack job a old new
  copies_back job a old new stays ends = by_answer a (clean_comes_to job a old new stays ends)
    where
      by_answer : (a : Cleaned S) → CleanComesTo job old new a → CopiesBack job a old new
      by_answer (end.WrongPage back) came = same_copies old new came
      by_answer end.Stored came = came.back
      by_answer end.Device came = came.back
      by_answer end.Clean came = came.back
