-- A page comes in by one hold: it is admitted, and then loaded.
use Rattle.std.specs.Prelude.{◌≡◌, ℕ, Bool, true, false, List, Option, Some, None, Result, Ok, Err}
use Rattle.std.proofs.Common.{refl, sym, subst}
use Rattle.clock_policy.specs.declared.key.Key.{Key}
use Rattle.machine_sides.specs.Admitting.{AdmissionValue, is_resident_at}
use Rattle.machine_sides.specs.declared.admission.NotAdmitted.{NotAdmitted}
use Rattle.machine_sides.specs.declared.admission.NotAdmitted.TheVariants.{Ended, NotAbsent, AlreadyResident, NoFrame, NoMemory}
use Rattle.held_machine.specs.Answers.{IsOther}
use Rattle.held_machine.specs.DeskValue.{DeskValue}
use Rattle.held_machine.specs.HeldValue.{HeldValue}
use Rattle.held_machine.specs.Admitting.{AdmitsOrNot, RefusesHeld}
use Rattle.reclaim_daemon.specs.PagingIn.{LoadsAdmitted, PagesInHeld, told_as}
use Rattle.reclaim_daemon.specs.declared.paging_in.PagedIn.{PagedIn}
use Rattle.reclaim_daemon.specs.declared.paging_in.PagedIn.TheVariants as paged

module _ {S : Type 0} (L : Type 0) (content : S → List ℕ) (honest : Type 0) (failures : S → ℕ) (key : Key) (desk desk' : DeskValue) (held held' : HeldValue S) where
  refused : (is_here : Bool) (reason : NotAdmitted) → is_resident_at held.side key.vpn ≡ is_here → RefusesHeld desk desk' held key reason → held' ≡ held
      → PagesInHeld content honest failures key desk desk' held held' {L = L} (Some (told_as {L = L} is_here reason))
  unfolding told_as
  refused true NotAbsent is h stays = record { refuses = h; held_stays = stays; here = is }
  refused true Ended is h stays = record { refuses = h; held_stays = stays; away = λ e. cc }
  refused true AlreadyResident is h stays = record { refuses = h; held_stays = stays; away = λ e. cc }
  refused true NoFrame is h stays = record { refuses = h; held_stays = stays; away = λ e. cc }
  refused true NoMemory is h stays = record { refuses = h; held_stays = stays; away = λ e. cc }
  refused false reason is h stays = record { refuses = h; held_stays = stays; away = λ e. is }

module _ {L S : Type 0} (content : S → List ℕ) (honest : Type 0) (failures : S → ℕ) (key : Key) (desk desk' : DeskValue) (held held' : HeldValue S) where
  pub paged_in : (admitted : Option (Result AdmissionValue NotAdmitted)) (reply : Option (PagedIn L))
      → AdmitsOrNot desk desk' held key admitted → LoadsAdmitted content honest failures key held held' admitted reply → PagesInHeld content honest failures key desk desk' held held' reply
  paged_in None reply h k =
      subst (λ (r : Option (PagedIn L)). PagesInHeld content honest failures key desk desk' held held' r) (sym k.0)
      (subst (λ (x : HeldValue S). IsOther key.process desk desk' held x) (sym k.1) h)
  paged_in (Some (Err reason)) reply h k =
      subst (λ (r : Option (PagedIn L)). PagesInHeld content honest failures key desk desk' held held' r) (sym k.0) (refused L content honest failures key desk desk' held held' (is_resident_at held.side key.vpn) reason refl h k.1)
  paged_in (Some (Ok admission)) None h k = absurd k
  paged_in (Some (Ok admission)) (Some paged.Mapped) h k = record { admission = admission; admits = h; loads = k }
  paged_in (Some (Ok admission)) (Some paged.Here) h k = absurd k
  paged_in (Some (Ok admission)) (Some (paged.NotAdmitted reason)) h k = absurd k
  paged_in (Some (Ok admission)) (Some (paged.Failed back fault)) h k = record { admission = admission; admits = h; refuses = k }
