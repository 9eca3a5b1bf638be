-- When a page is not admitted.
use Rattle.std.specs.Prelude.{◌≡◌, Some, None}
use Rattle.clock_policy.specs.declared.key.Key.{Key}
use Rattle.clock_policy.specs.declared.refusal.Refusal.{Refusal}
use Rattle.clock_policy.specs.declared.refusal.Refusal.TheVariants as list
use Rattle.pager_core.specs.declared.refusal.AdmitRefusal.{AdmitRefusal}
use Rattle.pager_core.specs.declared.refusal.AdmitRefusal.TheVariants.{AlreadyResident, NoFrame, NoMemory}
use Rattle.pager_core.specs.Pager.{PagerState, admission_refused}

-- the page is refused for the first reason that holds, or, where none does, for want of memory
abbrev pub RefusesAdmission : AdmitRefusal → Key → PagerState → Type 0
RefusesAdmission AlreadyResident key pager = admission_refused key pager ≡ Some AlreadyResident
RefusesAdmission NoFrame key pager = admission_refused key pager ≡ Some NoFrame
RefusesAdmission NoMemory key pager = admission_refused key pager ≡ None

-- what a refusal of the list is for a page that is to be admitted
abbrev pub list_refusal : Refusal → AdmitRefusal
list_refusal list.AlreadyResident = AlreadyResident
list_refusal list.NoQuestion = NoFrame
list_refusal list.NotThere = NoFrame
list_refusal list.Full = NoFrame
list_refusal list.NoMemory = NoMemory
