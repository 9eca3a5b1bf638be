-- A question of the list under only the pager's lock.
use Rattle.std.specs.Prelude.{◌≡◌, ℕ, ◌≤◌, Bool, true, false, Some, None}
use Rattle.clock_policy.specs.declared.key.Key.{Key}
use Rattle.clock_policy.specs.ClockPro.{question_of}
use Rattle.held_machine.specs.DeskValue.{DeskValue}

module _ (processes : ℕ) (desk desk' : DeskValue) where
  -- the list asks for a page of none of so many processes: the machine counts as unsound from then on
  pub record AsksNowhere : Type 0 where
    pub key : Key
    pub question : question_of desk.pager.pager.list ≡ Some key
    pub none : processes ≤ key.process
    pub desk_is : desk' ≡ record desk { sound = false }

  -- no page is resident, or the page is of none of the processes
  abbrev pub AsksNone : Bool → Type 0
  AsksNone false = (question_of desk.pager.pager.list ≡ None) × (desk' ≡ desk)
  AsksNone true = AsksNowhere
