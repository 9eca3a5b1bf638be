-- Where a run is counted.
use Rattle.std.proofs.Common.{◌≡◌, ℕ, zero, suc, ◌+◌, ◌<◌, List, [], ◌∷◌, ◌++◌, length, take, slice_index_or, slice_set, inl, inr, refl, sym, ap, subst, arith}
use Rattle.std.proofs.lemmas.List.{take_more}
use Rattle.run_records.specs.declared.record.Closing.{Closing}
use Rattle.record_commands.specs.declared.row.Row.{Row}
use Rattle.record_commands.specs.Rows.{IsLike, row_of, more, Counts, AreUnlike}

unlike_both : (closing : Closing) (rows : List Row) (row : Row) → AreUnlike closing rows → (¬ IsLike closing row) → AreUnlike closing (rows ++ row ∷ [])
unfolding AreUnlike
unlike_both closing [] row h k = (k, tt)
unlike_both closing (first ∷ rows) row h k = (h.0, unlike_both closing rows row h.1 k)

pub one_more_unlike : (closing : Closing) (rows : List Row) (place : ℕ) (row : Row) → place < length rows → AreUnlike closing (take place rows) → (¬ IsLike closing (slice_index_or rows place row))
    → AreUnlike closing (take (place + 1) rows)
one_more_unlike closing rows place row there before here =
    subst (AreUnlike closing) (sym (take_more rows place row there)) (unlike_both closing (take place rows) (slice_index_or rows place row) before here)

pub counted_again : (seed : ℕ) (closing : Closing) (rows : List Row) (place : ℕ) (row : Row) → place < length rows → row ≡ slice_index_or rows place row → IsLike closing row → AreUnlike closing (take place rows)
    → Counts seed closing rows (slice_set rows place (more row))
unfolding Counts AreUnlike
counted_again seed closing [] place row there is like unlike = absurd (omega (arith, there))
counted_again seed closing (first ∷ rows) zero row there is like unlike = inl (subst (IsLike closing) is like, ap (λ (r : Row). more r ∷ rows) is)
counted_again seed closing (first ∷ rows) (suc place) row there is like unlike =
    inr (unlike.0, (slice_set rows place (more row), (refl, counted_again seed closing rows place row (omega (arith, there)) is like unlike.1)))

pub counted_first : (seed : ℕ) (closing : Closing) (rows : List Row) → AreUnlike closing rows → Counts seed closing rows (rows ++ row_of seed closing ∷ [])
unfolding Counts AreUnlike
counted_first seed closing [] unlike = refl
counted_first seed closing (row ∷ rows) unlike = inr (unlike.0, (rows ++ row_of seed closing ∷ [], (refl, counted_first seed closing rows unlike.1)))
