-- The first record of known bytes.
use Rattle.std.proofs.Common.{◌≡◌, ◌∙◌, ℕ, zero, suc, ◌<◌, ◌≤◌, Bool, true, false, not, List, [], ◌∷◌, ◌++◌, length, Option, None, Some, ap, arith, refl, subst, sym, append-nil}
use Rattle.std.specs.Io.KnownBytes.{Consumes, IsAtEnd}
use Rattle.text_lines.specs.Text.{ahead}
use Rattle.trace_files.specs.References.{records_from, records_of}
use Rattle.trace_files.specs.ReferenceAnswers.{TakesPiece}

full_record : (more : ℕ) (bytes rest : List ℕ) → length bytes ≡ suc more → records_from more (bytes ++ rest) ≡ bytes ∷ records_of rest
unfolding records_from
full_record more [] rest long = absurd (omega (arith, long))
full_record zero (byte ∷ []) rest long = refl
full_record zero (byte ∷ other ∷ bytes) rest long = absurd (omega (arith, long))
full_record (suc more) (byte ∷ bytes) rest long = ap (ahead byte) (full_record more bytes rest (omega (arith, long)))

part_record : (more byte : ℕ) (bytes : List ℕ) → length bytes ≤ more → records_from more (byte ∷ bytes) ≡ (byte ∷ bytes) ∷ []
unfolding records_from
part_record zero byte [] short = refl
part_record zero byte (other ∷ bytes) short = absurd (omega (arith, short))
part_record (suc more) byte [] short = refl
part_record (suc more) byte (other ∷ bytes) short = ap (ahead byte) (part_record more other bytes (omega (arith, short)))

no_record : records_of [] ≡ []
unfolding records_from
no_record = refl

-- 24 bytes were read
pub record_taken : (known rest : Option (List ℕ)) (bytes : List ℕ) → Consumes known rest bytes → length bytes ≡ 24 → TakesPiece records_of true bytes known rest
record_taken None rest bytes read long = tt
record_taken (Some all) None bytes read long = elim read [ ]
record_taken (Some all) (Some others) bytes read long = ap records_of read ∙ full_record 23 bytes others long

-- fewer were read, and there are no more
part_taken : (known now rest : Option (List ℕ)) (bytes : List ℕ) → Consumes known now bytes → Consumes now rest [] → IsAtEnd rest → length bytes < 24
    → (is_empty : Bool) → (is_empty ≡ true → length bytes ≡ 0) → (is_empty ≡ false → 0 < length bytes) → TakesPiece records_of (not is_empty) bytes known rest
part_taken None now rest bytes read none end short is_empty empty some = tt
part_taken (Some all) None rest bytes read none end short is_empty empty some = elim read [ ]
part_taken (Some all) (Some others) None bytes read none end short is_empty empty some = elim none [ ]
part_taken (Some all) (Some others) (Some left) [] read none end short false empty some = absurd (omega (arith, some refl))
part_taken (Some all) (Some others) (Some left) [] read none end short true empty some =
    (ap records_of (read ∙ none ∙ end) ∙ no_record, ap records_of end ∙ no_record)
part_taken (Some all) (Some others) (Some left) (byte ∷ bytes) read none end short false empty some =
    ap records_of (read ∙ ap (λ (l : List ℕ). (byte ∷ bytes) ++ l) (none ∙ end) ∙ append-nil (byte ∷ bytes)) ∙ part_record 23 byte bytes (omega (arith, short))
    ∙ ap (λ (l : List (List ℕ)). (byte ∷ bytes) ∷ l) (sym (ap records_of end ∙ no_record))
part_taken (Some all) (Some others) (Some left) (byte ∷ bytes) read none end short true empty some = absurd (omega (arith, empty refl))

pub end_taken : (known now rest : Option (List ℕ)) (bytes new part : List ℕ) → Consumes known now bytes → new ≡ bytes ++ part → length part ≡ 0 → Consumes now rest part → IsAtEnd rest → length bytes < 24
    → (is_empty : Bool) → (is_empty ≡ true → length new ≡ 0) → (is_empty ≡ false → 0 < length new) → TakesPiece records_of (not is_empty) new known rest
end_taken known now rest bytes new [] read appended long none end short is_empty empty some =
    let same : new ≡ bytes = appended ∙ append-nil bytes in
    subst (λ (l : List ℕ). TakesPiece records_of (not is_empty) l known rest) (sym same)
    (part_taken known now rest bytes read none end short is_empty (λ e. sym (ap length same) ∙ empty e) (λ e. subst (λ (l : List ℕ). 0 < length l) same (some e)))
end_taken known now rest bytes new (byte ∷ part) read appended long none end short is_empty empty some = absurd (omega (arith, long))
