-- What is written of a record is read, and only that: proofs.
use Rattle.std.proofs.Common.{◌≡◌, ℕ, ◌+◌, ◌<◌, Bool, true, false, List, [], ◌∷◌, ◌++◌, codes, map, length, Option, Some, None, is_some, cond, refl, sym, ap, ◌∙◌}
use Rattle.std.specs.Prelude.{Result, Ok, Err}
use Rattle.std.specs.List.{flat_map}
use Rattle.std.specs.Str.{bytes_eq}
use Rattle.std.proofs.Common.{append_assoc}
use Rattle.std.proofs.lemmas.Bool.Decides.{Decides-eqb}
use Rattle.std.proofs.lemmas.Slice.Eq.{bytes_eq-Decides}
use Rattle.text_lines.specs.Text.{lines_of, is_line_end, ahead}
use Rattle.flat_machine.specs.declared.schedule.Turn.{Turn}
use Rattle.run_records.specs.Words.{is_space}
use Rattle.run_records.specs.RecordLines.{title, fingerprint_text, fingerprint_of, turn_text, turn_of, end_of, steps_text, steps_of}
use Rattle.run_records.specs.Records.{RecordValue, ended, closing_lines, record_lines, record_text, on_ok, said, next_of, turn_before, turns_of, behind_turns, alone, closing_of, rest_of, body_of, is_ended, titled, record_of}
use Rattle.run_records.specs.Fitting.{IsPrint, AreTurns, IsEnd, IsRecord}
use Rattle.run_records.proofs.WordLaws.{Lacks}
use Rattle.run_records.proofs.LineLaws.{fingerprint_read, fingerprint_written, fingerprint_endless, turn_read, turn_written, turn_endless, steps_read, steps_written, steps_endless, end_read, end_written, end_endless, no_turn_of_end}
use Rattle.run_records.specs.declared.fault.RecordFault.{RecordFault}
use Rattle.run_records.specs.declared.fault.RecordFault.TheVariants.{NotARecord, Cut, BadLine}
use Rattle.run_records.specs.declared.fingerprint.Fingerprint.{Fingerprint}
use Rattle.run_records.specs.declared.record.Closing.{Closing}

-- ---- texts and lines

line_before : (text rest : List ℕ) → Lacks is_line_end text → lines_of (text ++ 10 ∷ rest) ≡ text ∷ lines_of rest
line_before [] rest h = refl
line_before (c ∷ text) rest h = rw h.0 (ap (ahead c) (line_before text rest h.1))

abbrev AllLack : List (List ℕ) → Type 0
AllLack [] = Unit {0}
AllLack (line ∷ lines) = Lacks is_line_end line × AllLack lines

lines_read : (lines : List (List ℕ)) → AllLack lines → lines_of (flat_map ended lines) ≡ lines
lines_read [] h = refl
lines_read (line ∷ lines) h =
    ap lines_of (append_assoc line (10 ∷ []) (flat_map ended lines)) ∙ line_before line (flat_map ended lines) h.0 ∙ ap (λ (l : List (List ℕ)). line ∷ l) (lines_read lines h.1)

cons_ended : (c : ℕ) (text : List ℕ) → is_ended text ≡ true → is_ended (c ∷ text) ≡ true
cons_ended c [] h = absurd (cc)
cons_ended c (d ∷ text) h = h

tail_ended : (front rest : List ℕ) → is_ended rest ≡ true → is_ended (front ++ rest) ≡ true
tail_ended [] rest h = h
tail_ended (c ∷ front) rest h = cons_ended c (front ++ rest) (tail_ended front rest h)

ended_read : (line : List ℕ) (lines : List (List ℕ)) → is_ended (flat_map ended (line ∷ lines)) ≡ true
ended_read line [] = ap is_ended (append_assoc line (10 ∷ []) []) ∙ tail_ended line (10 ∷ []) refl
ended_read line (next ∷ lines) = tail_ended (line ++ 10 ∷ []) (flat_map ended (next ∷ lines)) (ended_read next lines)

ahead_ended : (c d : ℕ) (text : List ℕ) (lines : List (List ℕ)) → flat_map ended lines ≡ d ∷ text → flat_map ended (ahead c lines) ≡ c ∷ d ∷ text
ahead_ended c d text [] e = absurd (cc)
ahead_ended c d text (line ∷ lines) e = ap (λ (l : List ℕ). c ∷ l) e

-- a line end, or another byte, in front of ended lines
byte_written : (c d : ℕ) (text : List ℕ) (b : Bool) → is_line_end c ≡ b → flat_map ended (lines_of (d ∷ text)) ≡ d ∷ text → flat_map ended (cond b ([] ∷ lines_of (d ∷ text)) (ahead c (lines_of (d ∷ text)))) ≡ c ∷ d ∷ text
byte_written c d text true here later = ap (λ (l : List ℕ). 10 ∷ l) later ∙ ap (λ (x : ℕ). x ∷ d ∷ text) (sym ((Decides-eqb c 10).0 here))
byte_written c d text false there later = ahead_ended c d text (lines_of (d ∷ text)) later

lines_written : (text : List ℕ) → is_ended text ≡ true → flat_map ended (lines_of text) ≡ text
lines_written [] h = absurd (cc)
lines_written (c ∷ []) h = rw h (ap (λ (x : ℕ). x ∷ []) (sym ((Decides-eqb c 10).0 h)))
lines_written (c ∷ d ∷ text) h = byte_written c d text (is_line_end c) refl (lines_written (d ∷ text) h)

-- ---- what is written is read

image_name : Lacks is_space (codes "image")
image_name = (refl, (refl, (refl, (refl, (refl, tt)))))

input_name : Lacks is_space (codes "input")
input_name = (refl, (refl, (refl, (refl, (refl, tt)))))

output_name : Lacks is_space (codes "output")
output_name = (refl, (refl, (refl, (refl, (refl, (refl, tt))))))

closing_read : (number : ℕ) (closing : Closing) → IsEnd closing.end → closing.steps < 18446744073709551616 → IsPrint closing.output → closing_of number (closing_lines closing) ≡ Ok closing
unfolding closing_of next_of
closing_read number closing e s p = rw (end_read closing.end e) (rw (steps_read closing.steps s) (rw (fingerprint_read (codes "output") closing.output output_name p) refl))

turns_read : (turns : List Turn) (tail : List (List ℕ)) → AreTurns turns → turns_of tail ≡ [] → turns_of (map turn_text turns ++ tail) ≡ turns
unfolding turns_of
turns_read [] tail are none = none
turns_read (turn ∷ turns) tail are none = rw (turn_read turn are.0) (ap (λ (l : List Turn). turn ∷ l) (turns_read turns tail are.1 none))

behind_read : (turns : List Turn) (tail : List (List ℕ)) → AreTurns turns → behind_turns tail ≡ tail → behind_turns (map turn_text turns ++ tail) ≡ tail
unfolding behind_turns
behind_read [] tail are none = none
behind_read (turn ∷ turns) tail are none = rw (turn_read turn are.0) (behind_read turns tail are.1 none)

no_turns : (closing : Closing) → IsEnd closing.end → turns_of (closing_lines closing) ≡ []
unfolding turns_of
no_turns closing e = rw (no_turn_of_end closing.end e) refl

all_behind : (closing : Closing) → IsEnd closing.end → behind_turns (closing_lines closing) ≡ closing_lines closing
unfolding behind_turns
all_behind closing e = rw (no_turn_of_end closing.end e) refl

rest_read : (told : RecordValue) → IsRecord told → rest_of told.image told.input (map turn_text told.turns ++ closing_lines told.closing) ≡ Ok told
unfolding rest_of
rest_read told is =
    rw (turns_read told.turns (closing_lines told.closing) is.turns (no_turns told.closing is.ended))
    (rw (behind_read told.turns (closing_lines told.closing) is.turns (all_behind told.closing is.ended))
    (rw (closing_read (length told.turns + 4) told.closing is.ended is.steps is.output) refl))

body_read : (told : RecordValue) → IsRecord told
    → body_of (fingerprint_text (codes "image") told.image ∷ fingerprint_text (codes "input") told.input ∷ (map turn_text told.turns ++ closing_lines told.closing)) ≡ Ok told
unfolding body_of next_of
body_read told is =
    rw (fingerprint_read (codes "image") told.image image_name is.image) (rw (fingerprint_read (codes "input") told.input input_name is.input) (rest_read told is))

turns_lack : (turns : List Turn) (tail : List (List ℕ)) → AreTurns turns → AllLack tail → AllLack (map turn_text turns ++ tail)
turns_lack [] tail are h = h
turns_lack (turn ∷ turns) tail are h = (turn_endless turn are.0, turns_lack turns tail are.1 h)

title_lacks : Lacks is_line_end title
title_lacks = (refl, (refl, (refl, (refl, (refl, (refl, (refl, (refl, (refl, (refl, (refl, (refl, (refl, (refl, tt))))))))))))))

record_lacks : (told : RecordValue) → IsRecord told → AllLack (record_lines told)
record_lacks told is = (
  title_lacks,
  (
    fingerprint_endless (codes "image") told.image (refl, (refl, (refl, (refl, (refl, tt))))) is.image,
    (
      fingerprint_endless (codes "input") told.input (refl, (refl, (refl, (refl, (refl, tt))))) is.input,
      turns_lack told.turns (closing_lines told.closing) is.turns
          (end_endless told.closing.end is.ended, (steps_endless told.closing.steps is.steps, (fingerprint_endless (codes "output") told.closing.output (refl, (refl, (refl, (refl, (refl, (refl, tt)))))) is.output, tt))),
    ),
  ),
)

title_read : (told : RecordValue) (behind : List (List ℕ)) (whole : Bool) (lines : List (List ℕ)) → whole ≡ true → lines ≡ title ∷ behind → body_of behind ≡ Ok told → titled whole lines ≡ Ok told
title_read told behind whole lines whole_is lines_are body = ap (λ (b : Bool). titled b lines) whole_is ∙ ap (titled true) lines_are ∙ body

pub written_read : (told : RecordValue) → IsRecord told → record_of (record_text told) ≡ Ok told
unfolding record_of record_text
written_read told is =
    let behind : List (List ℕ) = fingerprint_text (codes "image") told.image ∷ fingerprint_text (codes "input") told.input ∷ (map turn_text told.turns ++ closing_lines told.closing) in
    title_read told behind (is_ended (flat_map ended (title ∷ behind))) (lines_of (flat_map ended (title ∷ behind))) (ended_read title behind) (lines_read (title ∷ behind) (record_lacks told is)) (body_read told is)

-- ---- what is read was written so

-- the parts of two steps that gave a value
record Gave {A B : Type 0} (f : A → Result B RecordFault) (r : Result A RecordFault) (y : B) : Type 0 where
  first : A
  is : r ≡ Ok first
  then_is : f first ≡ Ok y

no_ok : {A : Type 0} (fault : RecordFault) (x : A) → Err fault ≡ Ok x → ⊥
no_ok fault x e = cc

gave : {A B : Type 0} (f : A → Result B RecordFault) (r : Result A RecordFault) (y : B) → on_ok f r ≡ Ok y → Gave f r y
gave f (Ok x) y e = record { first = x; is = refl; then_is = e }
gave f (Err fault) y e = absurd (no_ok fault y e)

ok_same : {A : Type 0} (x y : A) → ◌≡◌ {A = Result A RecordFault} (Ok x) (Ok y) → x ≡ y
ok_same x y e = ap (λ r. of x r) e
  where
    of : {A : Type 0} → A → Result A RecordFault → A
    of x (Ok y) = y
    of x (Err fault) = x

-- the line that was read, and the lines behind it
record Said {A : Type 0} (says : List ℕ → Option A) (lines : List (List ℕ)) (read : A × List (List ℕ)) : Type 0 where
  line : List ℕ
  lines_are : lines ≡ line ∷ read.1
  says_so : says line ≡ Some read.0

next_said : {A : Type 0} (says : List ℕ → Option A) (number : ℕ) (lines : List (List ℕ)) (read : A × List (List ℕ)) → next_of says number lines ≡ Ok read → Said says lines read
unfolding next_of
next_said says number [] read e = absurd (no_ok (BadLine number) read e)
next_said {A = A} says number (line ∷ lines) read e = by_line (says line) refl e
  where
    by_line : (o : Option A) → says line ≡ o → said number lines o ≡ Ok read → Said says (line ∷ lines) read
    by_line None is e = absurd (no_ok (BadLine number) read e)
    by_line (Some x) is e =
        let same : (x, lines) ≡ read = ok_same (x, lines) read e in
        record {
          line = line;
          lines_are = ap (λ (r : A × List (List ℕ)). line ∷ r.1) same;
          says_so = is ∙ ap (λ (r : A × List (List ℕ)). Some r.0) same;
        }

alone_is : (number : ℕ) (lines : List (List ℕ)) (closing told : Closing) → alone number lines closing ≡ Ok told → (lines ≡ []) × (closing ≡ told)
alone_is number [] closing told e = (refl, ok_same closing told e)
alone_is number (line ∷ lines) closing told e = absurd (no_ok (BadLine number) told e)

closing_written : (number : ℕ) (lines : List (List ℕ)) (closing : Closing) → closing_of number lines ≡ Ok closing → closing_lines closing ≡ lines
unfolding closing_of
closing_written number lines closing e =
    let one = gave _ (next_of end_of number lines) closing e in
    let end = next_said end_of number lines one.first one.is in
    let two = gave _ (next_of steps_of (number + 1) one.first.1) closing one.then_is in
    let steps = next_said steps_of (number + 1) one.first.1 two.first two.is in
    let three = gave _ (next_of (fingerprint_of (codes "output")) (number + 2) two.first.1) closing two.then_is in
    let output = next_said (fingerprint_of (codes "output")) (number + 2) two.first.1 three.first three.is in
    let made : Closing = record { end = one.first.0; steps = two.first.0; output = three.first.0 } in
    let last = alone_is (number + 3) three.first.1 made closing three.then_is in
    ap closing_lines (sym last.1)
    ∙ ap (λ (l : List ℕ). l ∷ steps_text two.first.0 ∷ fingerprint_text (codes "output") three.first.0 ∷ []) (end_written end.line one.first.0 end.says_so)
    ∙ ap (λ (l : List ℕ). end.line ∷ l ∷ fingerprint_text (codes "output") three.first.0 ∷ []) (steps_written steps.line two.first.0 steps.says_so)
    ∙ ap (λ (l : List ℕ). end.line ∷ steps.line ∷ l ∷ []) (fingerprint_written (codes "output") output.line three.first.0 output.says_so)
    ∙ ap (λ (l : List (List ℕ)). end.line ∷ steps.line ∷ output.line ∷ l) (sym last.0)
    ∙ ap (λ (l : List (List ℕ)). end.line ∷ steps.line ∷ l) (sym output.lines_are)
    ∙ ap (λ (l : List (List ℕ)). end.line ∷ l) (sym steps.lines_are)
    ∙ sym end.lines_are

turn_in_front : (line : List ℕ) (lines : List (List ℕ)) (o : Option Turn) → turn_of line ≡ o → map turn_text (turns_of lines) ++ behind_turns lines ≡ lines
    → map turn_text (turn_before o (turns_of lines)) ++ cond (is_some o) (behind_turns lines) (line ∷ lines) ≡ line ∷ lines
turn_in_front line lines None is later = refl
turn_in_front line lines (Some turn) is later =
    ap (λ (l : List ℕ). l ∷ (map turn_text (turns_of lines) ++ behind_turns lines)) (turn_written line turn is) ∙ ap (λ (l : List (List ℕ)). line ∷ l) later

turns_written : (lines : List (List ℕ)) → map turn_text (turns_of lines) ++ behind_turns lines ≡ lines
unfolding turns_of behind_turns
turns_written [] = refl
turns_written (line ∷ lines) = turn_in_front line lines (turn_of line) refl (turns_written lines)

rest_written : (image input : Fingerprint) (lines : List (List ℕ)) (told : RecordValue) → rest_of image input lines ≡ Ok told
    → (told.image ≡ image) × (told.input ≡ input) × (map turn_text told.turns ++ closing_lines told.closing ≡ lines)
unfolding rest_of
rest_written image input lines told e =
    let one = gave _ (closing_of (length (turns_of lines) + 4) (behind_turns lines)) told e in
    let made : RecordValue = record { image = image; input = input; turns = turns_of lines; closing = one.first } in
    let same : made ≡ told = ok_same made told one.then_is in (
      ap (λ (t : RecordValue). t.image) (sym same),
      ap (λ (t : RecordValue). t.input) (sym same),
      ap (λ (t : RecordValue). map turn_text t.turns ++ closing_lines t.closing) (sym same)
          ∙ ap (λ (l : List (List ℕ)). map turn_text (turns_of lines) ++ l) (closing_written (length (turns_of lines) + 4) (behind_turns lines) one.first one.is)
          ∙ turns_written lines,
    )

body_written : (lines : List (List ℕ)) (told : RecordValue) → body_of lines ≡ Ok told
    → fingerprint_text (codes "image") told.image ∷ fingerprint_text (codes "input") told.input ∷ (map turn_text told.turns ++ closing_lines told.closing) ≡ lines
unfolding body_of
body_written lines told e =
    let one = gave _ (next_of (fingerprint_of (codes "image")) 2 lines) told e in
    let image = next_said (fingerprint_of (codes "image")) 2 lines one.first one.is in
    let two = gave _ (next_of (fingerprint_of (codes "input")) 3 one.first.1) told one.then_is in
    let input = next_said (fingerprint_of (codes "input")) 3 one.first.1 two.first two.is in
    let rest = rest_written one.first.0 two.first.0 two.first.1 told two.then_is in
    ap (λ (l : List (List ℕ)). fingerprint_text (codes "image") told.image ∷ fingerprint_text (codes "input") told.input ∷ l) rest.2
    ∙ ap (λ (l : List ℕ). l ∷ fingerprint_text (codes "input") told.input ∷ two.first.1) (ap (fingerprint_text (codes "image")) rest.0 ∙ fingerprint_written (codes "image") image.line one.first.0 image.says_so)
    ∙ ap (λ (l : List ℕ). image.line ∷ l ∷ two.first.1) (ap (fingerprint_text (codes "input")) rest.1 ∙ fingerprint_written (codes "input") input.line two.first.0 input.says_so)
    ∙ ap (λ (l : List (List ℕ)). image.line ∷ l) (sym input.lines_are)
    ∙ sym image.lines_are

whole_written : (line : List ℕ) (lines : List (List ℕ)) (told : RecordValue) (whole titled : Bool) → bytes_eq line title ≡ titled → cond titled (cond whole (body_of lines) (Err Cut)) (Err NotARecord) ≡ Ok told
    → (record_lines told ≡ line ∷ lines) × (whole ≡ true)
whole_written line lines told whole false other e = absurd (no_ok NotARecord told e)
whole_written line lines told false true same e = absurd (no_ok Cut told e)
whole_written line lines told true true same e = (
  ap (λ (l : List ℕ). l ∷ (fingerprint_text (codes "image") told.image ∷ fingerprint_text (codes "input") told.input ∷ (map turn_text told.turns ++ closing_lines told.closing))) (sym ((bytes_eq-Decides line title).0 same))
      ∙ ap (λ (l : List (List ℕ)). line ∷ l) (body_written lines told e),
  refl,
)

pub read_written : (text : List ℕ) (told : RecordValue) → record_of text ≡ Ok told → record_text told ≡ text
unfolding record_of record_text
read_written text told e = by_lines (lines_of text) refl e
  where
    by_lines : (lines : List (List ℕ)) → lines_of text ≡ lines → titled (is_ended text) lines ≡ Ok told → flat_map ended (record_lines told) ≡ text
    by_lines [] are e = absurd (no_ok NotARecord told e)
    by_lines (line ∷ lines) are e =
        let found = whole_written line lines told (is_ended text) (bytes_eq line title) refl e in
        ap (flat_map ended) found.0 ∙ ap (flat_map ended) (sym are) ∙ lines_written text found.1
