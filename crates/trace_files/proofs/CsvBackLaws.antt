-- A row of a table that is written of a page is read as that page: proofs.
use Rattle.std.specs.Prelude.{◌≡◌, ℕ, ◌-◌, ◌^◌, ◌<◌, ◌==◌, ◌&&◌, Bool, true, false, nat_eq, nat_lt, List, [], ◌∷◌, ◌++◌, length, reverse, slice_get, codes, Option, None, Some, refl}
use Rattle.std.specs.Option.{option_map, option_and_then}
use Rattle.std.specs.List.{prefix_len, starts_with, ends_with}
use Rattle.std.specs.Char.{digit_value, is_ascii_whitespace}
use Rattle.std.specs.Fmt.{decimal}
use Rattle.std.specs.Str.Parse.{AllDigits, digits_value}
use Rattle.std.proofs.Common.{arith, sym, ap, subst, ◌∙◌, append_assoc}
use Rattle.std.proofs.lemmas.Bool.Decides.{Decides-eqb, nat_tests}
use Rattle.std.proofs.lemmas.Fmt.{decimal_is_IsNumeral}
use Rattle.std.proofs.lemmas.List.{reverse-append}
use Rattle.clock_policy.specs.declared.key.Key.{Key}
use Rattle.text_lines.specs.Text.{ahead}
use Rattle.trace_lines.specs.Ids.{id_in, written_below}
use Rattle.trace_lines.proofs.IdLaws.{number_told}
use Rattle.trace_lines.specs.PageIds.{id_of, more_pages, page_of_id}
use Rattle.trace_lines.specs.PageLines.{IsPage}
use Rattle.trace_lines.specs.Columns.{is_id_name, separator_from, fields_from, fields_of, trimmed, unquoted, field_text, place_named, table_named, text_in}
use Rattle.trace_lines.specs.Lines.{to_page, with_ids}
use Rattle.trace_lines.specs.Rows.{id_of_kind, read_said, row_id, row_said, run_said}
use Rattle.trace_lines.specs.declared.format.Column.TheVariants.{At}
use Rattle.trace_lines.specs.declared.format.IdKind.{IdKind}
use Rattle.trace_lines.specs.declared.format.IdKind.TheVariants.{Numbers, Unknown}
use Rattle.trace_lines.specs.declared.rows.RowId.{RowId}
use Rattle.trace_lines.specs.declared.rows.RowId.TheVariants.{Number}
use Rattle.trace_lines.proofs.ColumnLaws.{take_whole}
use Rattle.trace_files.specs.Written.{csv_row, header, usual_table, written_table}
use Rattle.trace_files.proofs.ReadBackLaws.{Lacks, lacks_both, lacks_digits, other_byte, not_hexadecimal, page_back}

-- ---- fields of digits

no_comma : (c : ℕ) → digit_value c < 10 → (c == 44) ≡ false
no_comma c h = other_byte 44 c (c == 44) refl (λ k. absurd (omega (arith, k))) h

no_quote : (c : ℕ) → digit_value c < 10 → (c == 34) ≡ false
no_quote c h = other_byte 34 c (c == 34) refl (λ k. absurd (omega (arith, k))) h

field_before : (text rest : List ℕ) → AllDigits 10 text → fields_from 44 false (text ++ 44 ∷ rest) ≡ text ∷ fields_from 44 false rest
unfolding fields_from
field_before [] rest h = refl
field_before (c ∷ text) rest h = rw (no_comma c h.0) (rw (no_quote c h.0) (ap (ahead c) (field_before text rest h.1)))

-- ---- a field of digits says what it has

pub no_space : (c : ℕ) → digit_value c < 10 → is_ascii_whitespace c ≡ false
no_space c h =
    let tab : (c == 9) ≡ false = other_byte 9 c (c == 9) refl (λ k. absurd (omega (arith, k))) h in
    let feed : (c == 10) ≡ false = other_byte 10 c (c == 10) refl (λ k. absurd (omega (arith, k))) h in
    let form : (c == 12) ≡ false = other_byte 12 c (c == 12) refl (λ k. absurd (omega (arith, k))) h in
    let return : (c == 13) ≡ false = other_byte 13 c (c == 13) refl (λ k. absurd (omega (arith, k))) h in
    let space : (c == 32) ≡ false = other_byte 32 c (c == 32) refl (λ k. absurd (omega (arith, k))) h in
    grind arith

pub none_first : (ends : ℕ → Bool) (text : List ℕ) → Lacks ends text → prefix_len ends text ≡ 0
none_first ends [] h = refl
none_first ends (c ∷ text) h = rw h.0 refl

lacks_back : (ends : ℕ → Bool) (text : List ℕ) → Lacks ends text → Lacks ends (reverse text)
lacks_back ends [] h = tt
lacks_back ends (c ∷ text) h = subst (Lacks ends) (sym (reverse-append (c ∷ []) text)) (lacks_both ends (reverse text) (c ∷ []) (lacks_back ends text h.1) (h.0, tt))

not_trimmed : (text : List ℕ) → AllDigits 10 text → trimmed text ≡ text
unfolding trimmed
not_trimmed text h =
    let none : Lacks is_ascii_whitespace text = lacks_digits is_ascii_whitespace no_space text h in
    let front : prefix_len is_ascii_whitespace text ≡ 0 = none_first is_ascii_whitespace text none in
    let back : prefix_len is_ascii_whitespace (reverse text) ≡ 0 = none_first is_ascii_whitespace (reverse text) (lacks_back is_ascii_whitespace text none) in
    rw front (rw back (take_whole text (length text - 0) (omega arith)))

quote_is_no_digit : (d : ℕ) (b : Bool) → (34 == d) ≡ b → digit_value d < 10 → b ≡ false
quote_is_no_digit d false e h = refl
quote_is_no_digit d true e h =
    let same : 34 ≡ d = (Decides-eqb 34 d).0 e in
    let digit : digit_value 34 < 10 = subst (λ (n : ℕ). digit_value n < 10) (sym same) h in
    absurd (omega (arith, digit))

no_front : (a b c : Bool) → b ≡ false → (a && b && c) ≡ false
no_front true false c h = refl
no_front true true c h = cc
no_front false b c h = refl

front_no : (text : List ℕ) → AllDigits 10 text → starts_with nat_eq text (codes "\"") ≡ false
front_no [] h = refl
front_no (c ∷ text) h = rw (quote_is_no_digit c (34 == c) refl h.0) refl

not_quoted : (text : List ℕ) → AllDigits 10 text → unquoted text ≡ text
unfolding unquoted
not_quoted text h = rw (no_front (nat_lt 1 (length text)) (starts_with nat_eq text (codes "\"")) (ends_with nat_eq text (codes "\"")) (front_no text h)) refl

id_read : (n : ℕ) → n < 2 ^ 64 → id_in (decimal n) ≡ Some n
unfolding written_below
id_read n small =
    let told = decimal_is_IsNumeral n small in
    let fits : digits_value 10 (decimal n) < 2 ^ 64 = omega (arith, told.1, small) in
    rw (not_hexadecimal (decimal n) told.0.1) (sym (number_told (2 ^ 64) 10 (decimal n) (Some n) ((told.0, fits), sym told.1)))

-- ---- a row

row_is : (time : ℕ) (page : Key) → csv_row time page ≡ decimal time ++ 44 ∷ (decimal (id_of page) ++ 44 ∷ 49 ∷ [])
row_is time page =
    append_assoc (decimal time ++ 44 ∷ []) (decimal (id_of page)) (44 ∷ 49 ∷ [])
    ∙ append_assoc (decimal time) (44 ∷ []) (decimal (id_of page) ++ 44 ∷ 49 ∷ [])

-- the second column of a row has the id
id_column : (time : ℕ) (page : Key) → time < 2 ^ 64 → IsPage page → text_in (Some 44) (At 1) (csv_row time page) ≡ Some (decimal (id_of page))
id_column time page short h =
    let process = h.process in
    let vpn = h.vpn in
    let small : id_of page < 2 ^ 64 = omega (arith, process, vpn) in
    let first : AllDigits 10 (decimal time) = (decimal_is_IsNumeral time short).0.1 in
    let second : AllDigits 10 (decimal (id_of page)) = (decimal_is_IsNumeral (id_of page) small).0.1 in
    let fields : fields_of 44 (csv_row time page) ≡ decimal time ∷ decimal (id_of page) ∷ fields_of 44 (49 ∷ []) =
    ap (fields_of 44) (row_is time page)
    ∙ field_before (decimal time) (decimal (id_of page) ++ 44 ∷ 49 ∷ []) first
    ∙ ap (λ (l : List (List ℕ)). decimal time ∷ l) (field_before (decimal (id_of page)) (49 ∷ []) second) in
    let text : field_text (decimal (id_of page)) ≡ decimal (id_of page) = ap unquoted (not_trimmed (decimal (id_of page)) second) ∙ not_quoted (decimal (id_of page)) second in
    ap (λ (l : List (List ℕ)). option_map field_text (slice_get l 1)) fields
    ∙ ap (λ (l : List ℕ). Some l) text

-- no page comes after the only one
none_more : (id : ℕ) → more_pages id id ≡ Some 0
unfolding more_pages
none_more id = grind (arith, nat_tests)

one_page : (id : ℕ) (page : Key) → page_of_id id ≡ page → run_said None id id false ≡ Some (to_page page)
one_page id page is = rw (none_more id) (ap (λ (p : Key). Some (to_page p)) is)

-- a row says its page, where the ids are numbers, or the first one shows it
module _ (time : ℕ) (page : Key) (short : time < 2 ^ 64) (h : IsPage page) where
  said_by : (ids : IdKind) → ((text : List ℕ) (number : ℕ) → id_of_kind ids (Some number) text ≡ Some (Number number)) → row_said (with_ids ids written_table) (csv_row time page) ≡ Some (to_page page)
  unfolding row_said
  said_by ids takes =
      let small : id_of page < 2 ^ 64 = let process = h.process in let vpn = h.vpn in omega (arith, process, vpn) in
      let id : row_id (with_ids ids written_table) (csv_row time page) ≡ Some (Number (id_of page)) =
      ap (option_and_then (λ text. id_of_kind ids (id_in text) text)) (id_column time page short h)
      ∙ ap (λ (o : Option ℕ). id_of_kind ids o (decimal (id_of page))) (id_read (id_of page) small)
      ∙ takes (decimal (id_of page)) (id_of page) in
      ap (λ (o : Option RowId). read_said (with_ids ids written_table) (csv_row time page) o (Some false)) id
      ∙ one_page (id_of page) page (page_back page h)

pub first_row_said : (time : ℕ) (page : Key) → time < 2 ^ 64 → IsPage page → row_said written_table (csv_row time page) ≡ Some (to_page page)
first_row_said time page short h = said_by time page short h Unknown (λ text number. refl)

pub later_row_said : (time : ℕ) (page : Key) → time < 2 ^ 64 → IsPage page → row_said (with_ids Numbers written_table) (csv_row time page) ≡ Some (to_page page)
later_row_said time page short h = said_by time page short h Numbers (λ text number. refl)

-- the line of names names the column
pub header_read : table_named usual_table header ≡ Some written_table
unfolding place_named is_id_name trimmed unquoted separator_from fields_from
header_read = refl
