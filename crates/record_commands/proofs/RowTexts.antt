-- Rows that are written one after another.
use Rattle.std.proofs.Common.{◌≡◌, ℕ, ◌+◌, ◌<◌, List, [], ◌∷◌, ◌++◌, length, take, get_or, Option, sym, ap, ◌∙◌, subst, append_assoc, append-nil}
use Rattle.std.specs.List.{flat_map}
use Rattle.std.specs.Io.KnownBytes.{Appends}
use Rattle.std.proofs.KnownBytes.{Appends-trans}
use Rattle.std.proofs.lemmas.List.{take_more}
use Rattle.record_commands.specs.Tables.{row_text, row_values}
use Rattle.record_commands.specs.declared.row.Row.{Row}

one_more : (text : Row → List ℕ) (rows : List Row) (row : Row) → flat_map text (rows ++ row ∷ []) ≡ flat_map text rows ++ text row
one_more text [] row = append-nil (text row)
one_more text (first ∷ rows) row = ap (λ (l : List ℕ). text first ++ l) (one_more text rows row) ∙ sym (append_assoc (text first) (flat_map text rows) (text row))

on : (text : Row → List ℕ) (old now new : Option (List ℕ)) (rows : List Row) (k : ℕ) (row : Row) → k < length rows → row ≡ get_or rows k row → Appends old now (flat_map text (take k rows)) → Appends now new (text row)
    → Appends old new (flat_map text (take (k + 1) rows))
on text old now new rows k row inside is before one =
    let more : take (k + 1) rows ≡ take k rows ++ row ∷ [] = take_more rows k row inside ∙ ap (λ (r : Row). take k rows ++ r ∷ []) (sym is) in
    subst (Appends old new) (sym (ap (flat_map text) more ∙ one_more text (take k rows) row)) (Appends-trans old now new (flat_map text (take k rows)) (text row) before one)

pub row_on : (old now new : Option (List ℕ)) (rows : List Row) (k : ℕ) (row : Row) → k < length rows → row ≡ get_or rows k row → Appends old now (flat_map row_text (take k rows)) → Appends now new (row_text row)
    → Appends old new (flat_map row_text (take (k + 1) rows))
row_on = on row_text

pub values_on : (old now new : Option (List ℕ)) (rows : List Row) (k : ℕ) (row : Row) → k < length rows → row ≡ get_or rows k row → Appends old now (flat_map row_values (take k rows)) → Appends now new (row_values row)
    → Appends old new (flat_map row_values (take (k + 1) rows))
values_on = on row_values
