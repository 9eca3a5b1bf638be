-- What the lines say that a reader has passed.
use Rattle.std.proofs.Common.{◌≡◌, inl, inr, ◌+◌, ℕ, List, [], ◌∷◌, ◌++◌, length, refl, sym, append_assoc, append-nil, arith, length-append}
use Rattle.text_lines.specs.Text.{words_of}
use Rattle.machine_core.specs.declared.event.Event.{Event}
use Rattle.event_scripts.specs.DriveScript.{WritesEvent, SaysEvents, SayAll}
use Rattle.text_lines.specs.Lines.{IsSkipped}

-- the lines above the rest say these events, and there are `number` of them
abbrev pub HavePassed : List (List ℕ) → List (List ℕ) → List Event → ℕ → Type 0
HavePassed lines rest events number = (above : List (List ℕ)) × (lines ≡ above ++ rest)
    × SayAll above events × (number ≡ length above)

one_more : (above : List (List ℕ)) (line : List ℕ) (events said : List Event) → SayAll above events → SaysEvents line said
    → SayAll (above ++ line ∷ []) (events ++ said)
one_more [] line events said none says = (said, ([], says, refl, rw (none, append-nil said) refl))
one_more (first ∷ above) line events said (those, (others, says, rest, e)) last =
    (those, (others ++ said, says, one_more above line others said rest last, rw e (append_assoc those others said)))

passes : (lines rest others : List (List ℕ)) (line : List ℕ) (events said : List Event) (number : ℕ)
    → HavePassed lines rest events number → rest ≡ line ∷ others → SaysEvents line said
    → HavePassed lines others (events ++ said) (number + 1)
passes lines rest others line events said number (above, e, says, n) cut last = (
  above ++ line ∷ [],
  rw (e, cut) (sym (append_assoc above (line ∷ []) others)),
  one_more above line events said says last,
  omega (arith, n, length-append above (line ∷ [])),
)

pub writes : (lines rest others : List (List ℕ)) (line : List ℕ) (events new : List Event) (event : Event) (number : ℕ)
    → HavePassed lines rest events number → rest ≡ line ∷ others → WritesEvent event (words_of line)
    → new ≡ events ++ event ∷ [] → HavePassed lines others new (number + 1)
writes lines rest others line events new event number passed cut written e =
    rw e (passes lines rest others line events (event ∷ []) number passed cut (inr (event, written, refl)))

pub skips : (lines rest others : List (List ℕ)) (line : List ℕ) (events : List Event) (number : ℕ)
    → HavePassed lines rest events number → rest ≡ line ∷ others → IsSkipped line
    → HavePassed lines others events (number + 1)
skips lines rest others line events number passed cut skipped =
    rw (← append-nil events) (passes lines rest others line events [] number passed cut (inl (skipped, refl)))
