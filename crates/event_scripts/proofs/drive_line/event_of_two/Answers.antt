-- No event is written where the name is none of those on two numbers.
use Rattle.std.proofs.Common.{sym, ◌∙◌, subst}
use Rattle.std.specs.Cmp.Lexicographic.{other_text}
use Rattle.std.specs.Prelude.{SomeIff}
use Rattle.text_lines.specs.Numbers.{IsNumber, number_value}
use Rattle.event_scripts.proofs.CleaningWords.{no_event}
use Rattle.event_scripts.proofs.drive_line.event_of_two.Goals as goal

pub returns-else-eq-6-clause-none : goal.returns-else-eq-6-clause-none
returns-else-eq-6-clause-none c none =
    no_event c.args.name.now c.args.first.now c.args.second.now (record { process = c.in_ok-process.process; vpn = c.in_ok-second.second })
    (subst (λ o. SomeIff o (IsNumber 4294967295 c.args.first.now) (number_value c.args.first.now)) c.in_ok-process.was c.word_number.ensures).1
    (subst (λ o. SomeIff o (IsNumber 4294967295 c.args.second.now) (number_value c.args.second.now)) c.in_ok-second.was c.word_number-2.ensures).1
    (λ e. other_text c.args.name.now c.as_slice.result.now (sym c.if-eq.false ∙ c.eq.ensures) (e ∙ sym c.as_slice.ensures))
    (λ e. other_text c.args.name.now c.as_slice-else-eq.result.now (sym c.if-eq-2.false ∙ c.eq-else-eq.ensures) (e ∙ sym c.as_slice-else-eq.ensures))
    (λ e. other_text c.args.name.now c.as_slice-else-eq-2.result.now (sym c.if-eq-3.false ∙ c.eq-else-eq-2.ensures) (e ∙ sym c.as_slice-else-eq-2.ensures))
    (λ e. other_text c.args.name.now c.as_slice-else-eq-3.result.now (sym c.if-eq-4.false ∙ c.eq-else-eq-3.ensures) (e ∙ sym c.as_slice-else-eq-3.ensures))
    (λ e. other_text c.args.name.now c.as_slice-else-eq-4.result.now (sym c.if-eq-5.false ∙ c.eq-else-eq-4.ensures) (e ∙ sym c.as_slice-else-eq-4.ensures))
    (λ e. other_text c.args.name.now c.as_slice-else-eq-5.result.now (sym c.if-eq-6.false ∙ c.eq-else-eq-5.ensures) (e ∙ sym c.as_slice-else-eq-5.ensures))
    (c.cleaning_event.ensures.none none)
