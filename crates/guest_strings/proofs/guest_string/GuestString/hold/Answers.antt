use Rattle.std.proofs.Common.{◌∷◌, ◌++◌, sym, ap, ◌∙◌}
use Rattle.guest_strings.specs.References.{joined}
use Rattle.guest_strings.specs.ToCome.{listed}
use Rattle.guest_strings.proofs.Joining.{joined_same, joined_other}
use Rattle.guest_strings.proofs.guest_string.GuestString.hold.Goals as goal

pub returns-then-is_to_page_of-clause-string : goal.returns-then-is_to_page_of-clause-string
returns-then-is_to_page_of-clause-string c = λ string.
    ap (λ held. joined (listed held ++ c.args.next ∷ string)) c.in-Some.is
    ∙ joined_same c.in-Some.held c.args.next string (sym c.is_to_page_of.ensures ∙ c.if-is_to_page_of.true)
    ∙ ap (λ first. joined (first ∷ string)) (sym c.and.ensures)

pub returns-clause-string : goal.returns-clause-string
returns-clause-string c = λ string.
    ap (λ held. joined (listed held ++ c.args.next ∷ string)) c.in-Some.is
    ∙ joined_other c.in-Some.held c.args.next string (sym c.is_to_page_of.ensures ∙ c.if-is_to_page_of.false)
