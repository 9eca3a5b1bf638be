-- Laws of tables.
use Rattle.std.proofs.Common.{◌≡◌, ℕ, zero, suc, ◌+◌, ◌<◌, ◌≤◌, List, [], ◌∷◌, length, slice_index_or, Option, inl, inr, refl, sym, ap, subst, arith}
use Rattle.elf_image.specs.Image.{ImageContent}
use Rattle.run_records.specs.declared.fingerprint.Fingerprint.{Fingerprint}
use Rattle.run_records.specs.declared.record.Closing.{Closing}
use Rattle.record_commands.specs.declared.row.Row.{Row}
use Rattle.record_commands.specs.Exploring.{AllCame, AllRowsCame, CameTo}
use Rattle.record_commands.specs.Rows.{Counts, Tallies, times_of}

-- a row counts no more than all do
pub few_times : (rows : List Row) (k : ℕ) (d : Row) → k < length rows → (slice_index_or rows k d).times ≤ times_of rows
unfolding times_of
few_times [] k d h = absurd (omega (arith, h))
few_times (row ∷ rows) zero d h = omega arith
few_times (row ∷ rows) (suc k) d h = let later = few_times rows k d (omega (arith, h)) in omega (arith, later)

-- a run is one more
pub one_more_time : (seed : ℕ) (closing : Closing) (rows new : List Row) → Counts seed closing rows new → times_of new ≡ times_of rows + 1
unfolding Counts times_of
one_more_time seed closing [] new e = ap times_of e
one_more_time seed closing (row ∷ rows) new (inl (like, e)) = let all = ap times_of e in omega (arith, all)
one_more_time seed closing (row ∷ rows) new (inr (unlike, (later, (e, counts)))) =
    let grown = one_more_time seed closing rows later counts in
    let all = ap times_of e in
    omega (arith, grown, all)

-- as many are counted as there were
pub all_times : (until : Option ℕ) (seed : ℕ) (closings : List Closing) (rows : List Row) → Tallies until seed closings rows → times_of rows ≡ length closings
unfolding Tallies times_of
all_times until seed [] rows e = ap times_of e
all_times until seed (closing ∷ earlier) rows (before, (tallied, (on, counts))) =
    let one = one_more_time (seed + length earlier) closing before rows counts in
    let all = all_times until seed earlier before tallied in
    omega (arith, one, all)

-- a row counts what some run came to
pub one_more_row : (image : ImageContent) (input : List ℕ) (file : Fingerprint) (limit : ℕ) (seed : ℕ) (closing : Closing) (rows new : List Row) → CameTo image input file limit closing → AllRowsCame image input file limit rows
    → Counts seed closing rows new → AllRowsCame image input file limit new
unfolding Counts AllRowsCame
one_more_row image input file limit seed closing [] new came all e =
    subst (AllRowsCame image input file limit) (sym e) ((closing, (came, record { end = refl; output = refl })), tt)
one_more_row image input file limit seed closing (row ∷ rows) new came all (inl (like, e)) =
    subst (AllRowsCame image input file limit) (sym e) ((closing, (came, record { end = like.end; output = like.output })), all.1)
one_more_row image input file limit seed closing (row ∷ rows) new came all (inr (unlike, (later, (e, counts)))) =
    subst (AllRowsCame image input file limit) (sym e) (all.0, one_more_row image input file limit seed closing rows later came all.1 counts)

pub all_rows : (image : ImageContent) (input : List ℕ) (file : Fingerprint) (limit : ℕ) (until : Option ℕ) (seed : ℕ) (closings : List Closing) (rows : List Row) → AllCame image input file limit closings → Tallies until seed closings rows
    → AllRowsCame image input file limit rows
unfolding AllCame AllRowsCame Tallies
all_rows image input file limit until seed [] rows came e = subst (AllRowsCame image input file limit) (sym e) tt
all_rows image input file limit until seed (closing ∷ earlier) rows came (before, (tallied, (on, counts))) =
    one_more_row image input file limit (seed + length earlier) closing before rows came.0 (all_rows image input file limit until seed earlier before came.1 tallied) counts
