-- What is told of neighbours to one page.
use Rattle.std.proofs.Common.{◌≡◌, ◌∙◌, ℕ, List, Option, None, Some, Ok, IfSome, ap, sym}
use Rattle.std.specs.Option.{option_map}
use Rattle.guest_strings.specs.declared.reference.Reference.{Reference}
use Rattle.trace_files.specs.References.{Trace, Ends, Gives, joined}
use Rattle.trace_files.specs.ReferenceAnswers.{BreaksBy, IsOver, Tells}
use Rattle.trace_files.specs.declared.fault.TraceFault.{TraceFault}
use Rattle.trace_files.specs.declared.fault.TraceFault.TheVariants.{NoMemory, CannotRead, Empty, NoColumn, Line, Id, Op, Text, Record, Compressed}

pub last_told : (f h : List ℕ → Trace) (held after : Option Reference) (known rest : Option (List ℕ)) → after ≡ None → IsOver (option_map f known) (option_map h rest)
    → Tells Gives (Ok held) (option_map (λ bytes. joined held (f bytes)) known) (option_map (λ bytes. joined after (h bytes)) rest)
unfolding joined
last_told f h None after None rest is over = tt
last_told f h None after (Some bytes) None is over = elim over [ ]
last_told f h None after (Some bytes) (Some others) is over = (ap (joined None) over.0, ap (joined after) over.1 ∙ ap (λ (o : Option Reference). joined o Ends) is)
last_told f h (Some reference) after None rest is over = tt
last_told f h (Some reference) after (Some bytes) None is over = elim over [ ]
last_told f h (Some reference) after (Some bytes) (Some others) is over =
    ap (joined (Some reference)) over.0 ∙ ap (Gives reference) (sym (ap (joined after) over.1 ∙ ap (λ (o : Option Reference). joined o Ends) is))

here_breaks : (held : Option Reference) (trace : Trace) (fault : TraceFault) → BreaksBy fault trace → BreaksBy fault (joined held trace)
unfolding joined
here_breaks held trace NoMemory breaks = tt
here_breaks held trace (CannotRead name) breaks = tt
here_breaks held trace (Empty name) breaks = breaks
here_breaks held trace (NoColumn name column) breaks = ap (joined held) breaks
here_breaks held trace (Line number text) breaks = ap (joined held) breaks
here_breaks held trace (Id number text) breaks = ap (joined held) breaks
here_breaks held trace (Op number text) breaks = ap (joined held) breaks
here_breaks held trace (Text name) breaks = ap (joined held) breaks
here_breaks held trace (Record number size) breaks = ap (joined held) breaks
here_breaks held trace (Compressed name compression) breaks = ap (joined held) breaks

pub held_breaks : (f : List ℕ → Trace) (held : Option Reference) (fault : TraceFault) (known : Option (List ℕ)) → IfSome (option_map f known) (BreaksBy fault) → IfSome (option_map (λ bytes. joined held (f bytes)) known) (BreaksBy fault)
held_breaks f held fault None breaks = tt
held_breaks f held fault (Some bytes) breaks = here_breaks held (f bytes) fault breaks
