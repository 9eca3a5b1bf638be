-- Turns that are written one after another.
use Rattle.std.proofs.Common.{◌≡◌, ℕ, ◌+◌, ◌<◌, List, [], ◌∷◌, ◌++◌, map, length, take, get_or, Option, refl, sym, ap, ◌∙◌, subst, codes}
use Rattle.std.specs.List.{flat_map}
use Rattle.std.specs.Io.KnownBytes.{Appends}
use Rattle.std.proofs.KnownBytes.{Appends-trans}
use Rattle.std.proofs.lemmas.List.{take_more}
use Rattle.flat_machine.specs.declared.schedule.Turn.{Turn}
use Rattle.std.proofs.lemmas.Grind.{flat_map-append}
use Rattle.run_records.specs.RecordLines.{title, fingerprint_text, turn_text}
use Rattle.run_records.specs.Records.{RecordValue, closing_lines, ended, record_text}

abbrev pub turns_text : List Turn → List ℕ
turns_text turns = flat_map ended (map turn_text turns)

append_assoc : (a b c : List ℕ) → (a ++ b) ++ c ≡ a ++ (b ++ c)
append_assoc [] b c = refl
append_assoc (x ∷ a) b c = ap (λ (l : List ℕ). x ∷ l) (append_assoc a b c)

append_nil : (a : List ℕ) → a ++ [] ≡ a
append_nil [] = refl
append_nil (x ∷ a) = ap (λ (l : List ℕ). x ∷ l) (append_nil a)

one_more : (turns : List Turn) (turn : Turn) → turns_text (turns ++ turn ∷ []) ≡ turns_text turns ++ ended (turn_text turn)
one_more [] turn = append_nil (ended (turn_text turn))
one_more (first ∷ turns) turn =
    ap (λ (l : List ℕ). ended (turn_text first) ++ l) (one_more turns turn)
    ∙ sym (append_assoc (ended (turn_text first)) (turns_text turns) (ended (turn_text turn)))

pub turn_on : (old now new : Option (List ℕ)) (turns : List Turn) (k : ℕ) (turn : Turn) → k < length turns → turn ≡ get_or turns k turn → Appends old now (turns_text (take k turns))
    → Appends now new (ended (turn_text turn)) → Appends old new (turns_text (take (k + 1) turns))
turn_on old now new turns k turn inside is before one =
    let more : take (k + 1) turns ≡ take k turns ++ turn ∷ [] = take_more turns k turn inside ∙ ap (λ (t : Turn). take k turns ++ t ∷ []) (sym is) in
    subst (Appends old new) (sym (ap turns_text more ∙ one_more (take k turns) turn)) (Appends-trans old now new (turns_text (take k turns)) (ended (turn_text turn)) before one)

-- a record, part by part
pub whole_written : (a b c d e f : Option (List ℕ)) (told : RecordValue) (turns : List Turn) → turns ≡ told.turns → Appends a b (ended title) → Appends b c (ended (fingerprint_text (codes "image") told.image))
    → Appends c d (ended (fingerprint_text (codes "input") told.input)) → Appends d e (turns_text turns) → Appends e f (flat_map ended (closing_lines told.closing)) → Appends a f (record_text told)
unfolding record_text
whole_written a b c d e f told turns are first image input middle last =
    let turns_written : Appends d e (turns_text told.turns) = subst (λ (l : List Turn). Appends d e (turns_text l)) are middle in
    let image_text : List ℕ = ended (fingerprint_text (codes "image") told.image) in
    let input_text : List ℕ = ended (fingerprint_text (codes "input") told.input) in
    let behind : List ℕ = turns_text told.turns ++ flat_map ended (closing_lines told.closing) in
    subst (λ (l : List ℕ). Appends a f (ended title ++ (image_text ++ (input_text ++ l)))) (sym (flat_map-append ended (map turn_text told.turns) (closing_lines told.closing)))
    (Appends-trans a b f (ended title) (image_text ++ (input_text ++ behind)) first (Appends-trans b c f image_text (input_text ++ behind) image
    (Appends-trans c d f input_text behind input (Appends-trans d e f (turns_text told.turns) (flat_map ended (closing_lines told.closing)) turns_written last))))
