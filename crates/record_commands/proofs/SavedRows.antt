-- Saved rows, once one more run is counted.
use Rattle.std.proofs.Common.{◌≡◌, ℕ, List, [], ◌∷◌, length, Option, inl, inr, refl, sym, ap, subst, arith}
use Rattle.elf_image.specs.Image.{ImageContent}
use Rattle.run_records.specs.Records.{RecordValue}
use Rattle.run_records.specs.declared.fingerprint.Fingerprint.{Fingerprint}
use Rattle.run_records.specs.declared.record.Closing.{Closing}
use Rattle.record_commands.specs.Rows.{Counts, more}
use Rattle.record_commands.specs.Saved.{AreNoted, AreSaved, IsRunOf, IsSaved, SavesIn}
use Rattle.record_commands.specs.declared.row.Row.{Row}

-- one run more is no other row
more_saved : (takes : List ℕ → List ℕ → Type 0) (image : ImageContent) (input : List ℕ) (file : Fingerprint) (limit : ℕ) (folder : Option (List ℕ)) (row : Row) → IsSaved takes image input file limit folder row
    → IsSaved takes image input file limit folder (more row)
more_saved takes image input file limit folder row saved =
    record { told = saved.told; run = saved.run; like = record { end = saved.like.end; output = saved.like.output }; saved = saved.saved }

-- a run that begins no row
counted_saved : (takes : List ℕ → List ℕ → Type 0) (image : ImageContent) (input : List ℕ) (file : Fingerprint) (limit : ℕ) (folder : Option (List ℕ)) (seed : ℕ) (closing : Closing) (rows new : List Row)
    → Counts seed closing rows new → length new ≡ length rows → AreSaved takes image input file limit folder rows → AreSaved takes image input file limit folder new
unfolding Counts AreSaved
counted_saved takes image input file limit folder seed closing [] new e same all = let size = ap length e in absurd (omega (arith, size, same))
counted_saved takes image input file limit folder seed closing (row ∷ rows) new (inl (like, e)) same all =
    subst (AreSaved takes image input file limit folder) (sym e) (more_saved takes image input file limit folder row all.0, all.1)
counted_saved takes image input file limit folder seed closing (row ∷ rows) new (inr (unlike, (later, (e, counts)))) same all =
    let size = ap length e in
    subst (AreSaved takes image input file limit folder) (sym e) (all.0, counted_saved takes image input file limit folder seed closing rows later counts (omega (arith, size, same)) all.1)

-- a run that may begin one
begun_saved : (takes : List ℕ → List ℕ → Type 0) (image : ImageContent) (input : List ℕ) (file : Fingerprint) (limit : ℕ) (folder : Option (List ℕ)) (seed : ℕ) (told : RecordValue) (rows new : List Row)
    → IsRunOf image input file limit told → SavesIn takes folder seed told → Counts seed told.closing rows new → AreSaved takes image input file limit folder rows → AreSaved takes image input file limit folder new
unfolding Counts AreSaved
begun_saved takes image input file limit folder seed told [] new run saved e all =
    subst (AreSaved takes image input file limit folder) (sym e) (record { told = told; run = run; like = record { end = refl; output = refl }; saved = saved }, tt)
begun_saved takes image input file limit folder seed told (row ∷ rows) new run saved (inl (like, e)) all =
    subst (AreSaved takes image input file limit folder) (sym e) (more_saved takes image input file limit folder row all.0, all.1)
begun_saved takes image input file limit folder seed told (row ∷ rows) new run saved (inr (unlike, (later, (e, counts)))) all =
    subst (AreSaved takes image input file limit folder) (sym e) (all.0, begun_saved takes image input file limit folder seed told rows later run saved counts all.1)

pub noted_again : (takes : List ℕ → List ℕ → Type 0) (folder : Option (List ℕ)) (seed : ℕ) (told : RecordValue) (rows new : List Row) → Counts seed told.closing rows new → length new ≡ length rows
    → AreNoted takes folder told rows new
unfolding AreNoted
noted_again takes folder seed told rows new counts same = λ image input file limit run all. counted_saved takes image input file limit folder seed told.closing rows new counts same all

pub noted_first : (takes : List ℕ → List ℕ → Type 0) (folder : Option (List ℕ)) (seed : ℕ) (told : RecordValue) (rows new : List Row) → Counts seed told.closing rows new → SavesIn takes folder seed told
    → AreNoted takes folder told rows new
unfolding AreNoted
noted_first takes folder seed told rows new counts saved = λ image input file limit run all. begun_saved takes image input file limit folder seed told rows new run saved counts all
