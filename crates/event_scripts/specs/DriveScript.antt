-- A drive script: the events that its lines write, and its first bad line.
use Rattle.std.specs.Prelude.{◌≡◌, ◌⊎◌, ◌+◌, ℕ, List, [], ◌∷◌, ◌++◌, Option, Some, None, codes, length}
use Rattle.clock_policy.specs.declared.key.Key.{Key}
use Rattle.text_lines.specs.Text.{words_of}
use Rattle.flat_machine.specs.Ending.{kill_number}
use Rattle.text_lines.specs.Calls.{AreNameAndNumber, AreNameAndNumbers}
use Rattle.machine_core.specs.declared.event.Event.{Event}
use Rattle.machine_core.specs.declared.event.Event.TheVariants.{Step, Notice, Sweep, Collect, Saved, PageIn, Kill, Purge, Clean, Copy, Cleaned}
use Rattle.text_lines.specs.Lines.{IsSkipped}

-- the words with which an event is written
abbrev pub WritesEvent : Event → List (List ℕ) → Type 0
WritesEvent (Step process hart) words = AreNameAndNumbers (codes "step") process hart words
WritesEvent (Notice process hart) words = AreNameAndNumbers (codes "notice") process hart words
WritesEvent Sweep words = words ≡ codes "sweep" ∷ []
WritesEvent (Collect key) words = AreNameAndNumbers (codes "collect") key.process key.vpn words
WritesEvent (Saved key) words = AreNameAndNumbers (codes "saved") key.process key.vpn words
WritesEvent (PageIn key) words = AreNameAndNumbers (codes "pagein") key.process key.vpn words
WritesEvent (Kill process cause) words = AreNameAndNumbers (codes "kill") process (kill_number cause) words
WritesEvent (Purge process) words = AreNameAndNumber (codes "purge") process words
WritesEvent (Clean key) words = AreNameAndNumbers (codes "clean") key.process key.vpn words
WritesEvent (Copy key) words = AreNameAndNumbers (codes "copy") key.process key.vpn words
WritesEvent (Cleaned key) words = AreNameAndNumbers (codes "cleaned") key.process key.vpn words

-- an event of a page that is cleaned, by its name
abbrev pub IsOfCleaning : List ℕ → Key → Event → Type 0
IsOfCleaning name key (Clean other) = (name ≡ codes "clean") × (other ≡ key)
IsOfCleaning name key (Copy other) = (name ≡ codes "copy") × (other ≡ key)
IsOfCleaning name key (Cleaned other) = (name ≡ codes "cleaned") × (other ≡ key)
IsOfCleaning name key _ = ⊥

-- a line is skipped, or writes one event
abbrev pub SaysEvents : List ℕ → List Event → Type 0
SaysEvents line events = (IsSkipped line × (events ≡ []))
    ⊎ ((event : Event) × WritesEvent event (words_of line) × (events ≡ event ∷ []))

-- each line is skipped or writes an event; these are the events
abbrev pub SayAll : List (List ℕ) → List Event → Type 0
SayAll [] events = events ≡ []
SayAll (line ∷ lines) events = (first : List Event) × ((others : List Event) ×
    SaysEvents line first × SayAll lines others × (events ≡ first ++ others))

abbrev pub IsBad : List ℕ → Type 0
IsBad line = (events : List Event) → ¬ SaysEvents line events

-- the lines say these events: all of them, or those above the first bad one, whose number is given, counted from 1
abbrev pub IsScript : List (List ℕ) → List Event → Option ℕ → Type 0
IsScript lines events None = SayAll lines events
IsScript lines events (Some number) = (above : List (List ℕ)) × ((bad : List ℕ) × ((below : List (List ℕ)) ×
    (lines ≡ above ++ bad ∷ below) × SayAll above events × IsBad bad × (number ≡ length above + 1)))
