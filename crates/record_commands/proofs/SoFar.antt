-- Runs, one after another.
use Rattle.std.proofs.Common.{◌≡◌, ℕ, ◌+◌, ◌<◌, List, [], ◌∷◌, length, Option, option_map, inl, inr, refl, sym, ◌∙◌, subst, arith}
use Rattle.elf_image.specs.Image.{ImageContent}
use Rattle.run_records.specs.Records.{RecordValue}
use Rattle.run_records.specs.declared.fingerprint.Fingerprint.{Fingerprint}
use Rattle.run_records.specs.declared.record.Closing.{Closing}
use Rattle.record_commands.specs.Exploring.{CameTo, AllCame, IsExplored}
use Rattle.record_commands.specs.Rows.{Counts, GoesOn, Tallies, times_of}
use Rattle.record_commands.proofs.RowLaws.{all_times}
use Rattle.record_commands.specs.Saved.{AreNoted, AreSaved, IsRunOf}
use Rattle.record_commands.specs.declared.request.ExploreRequest.{ExploreRequest}
use Rattle.record_commands.specs.declared.row.Row.{Row}

-- the folder that is asked for
abbrev pub folder_of : ExploreRequest → Option (List ℕ)
folder_of request = option_map (λ s. s.now) request.folder

-- so many runs were counted
pub record ExploredSoFar (takes : List ℕ → List ℕ → Type 0) (request : ExploreRequest) (image : ImageContent) (input : List ℕ) (file : Fingerprint) (done : ℕ) (rows : List Row) : Type 0 where
  pub closings : List Closing
  pub came : AllCame image input file request.limit closings
  pub tallied : Tallies request.until request.seed closings rows
  pub many : length closings ≡ done
  pub saved : AreSaved takes image input file request.limit (folder_of request) rows

pub nothing_explored : (takes : List ℕ → List ℕ → Type 0) (request : ExploreRequest) (image : ImageContent) (input : List ℕ) (file : Fingerprint) (rows : List Row) → rows ≡ []
    → ExploredSoFar takes request image input file 0 rows
unfolding AllCame Tallies AreSaved
nothing_explored takes request image input file rows none =
    record { closings = []; came = tt; tallied = none; many = refl; saved = subst (AreSaved takes image input file request.limit (folder_of request)) (sym none) tt }

-- a run came to what its record tells
came : (image : ImageContent) (input : List ℕ) (file : Fingerprint) (limit : ℕ) (told : RecordValue) → IsRunOf image input file limit told → CameTo image input file limit told.closing
came image input file limit told run = record { told = told; closing_is = refl; run = run }

pub one_more_explored : (takes : List ℕ → List ℕ → Type 0) (request : ExploreRequest) (image : ImageContent) (input : List ℕ) (file : Fingerprint) (done : ℕ) (rows new : List Row) (told : RecordValue) (own : ℕ)
    → ExploredSoFar takes request image input file done rows → GoesOn request.until rows → IsRunOf image input file request.limit told → own ≡ request.seed + done → Counts own told.closing rows new
    → AreNoted takes (folder_of request) told rows new → ExploredSoFar takes request image input file (done + 1) new
unfolding AllCame Tallies AreNoted
one_more_explored takes request image input file done rows new told own so_far on run own_is counts noted =
    let many = so_far.many in
    let next : own ≡ request.seed + length so_far.closings = omega (arith, own_is, many) in
    record {
      closings = told.closing ∷ so_far.closings;
      came = (came image input file request.limit told run, so_far.came);
      tallied = (rows, (so_far.tallied, (on, subst (λ (n : ℕ). Counts n told.closing rows new) next counts)));
      many = omega (arith, many);
      saved = noted image input file request.limit run so_far.saved;
    }

pub few_so_far : (takes : List ℕ → List ℕ → Type 0) (request : ExploreRequest) (image : ImageContent) (input : List ℕ) (file : Fingerprint) (done : ℕ) (rows : List Row)
    → ExploredSoFar takes request image input file done rows → done < 4294967296 → times_of rows < 9223372036854775808
few_so_far takes request image input file done rows so_far few =
    let many = so_far.many in
    let all = all_times request.until request.seed so_far.closings rows so_far.tallied in
    omega (arith, all, many, few)

pub all_explored : (takes : List ℕ → List ℕ → Type 0) (request : ExploreRequest) (image : ImageContent) (input : List ℕ) (file : Fingerprint) (done : ℕ) (rows : List Row)
    → ExploredSoFar takes request image input file done rows → done ≡ request.runs → IsExplored takes request image input file rows
all_explored takes request image input file done rows so_far all =
    let many = so_far.many in
    record { closings = so_far.closings; came = so_far.came; tallied = so_far.tallied; within = omega (arith, many, all); over = inl (many ∙ all); saved = so_far.saved }

pub enough_explored : (takes : List ℕ → List ℕ → Type 0) (request : ExploreRequest) (image : ImageContent) (input : List ℕ) (file : Fingerprint) (done : ℕ) (rows : List Row)
    → ExploredSoFar takes request image input file done rows → done < request.runs → (¬ GoesOn request.until rows) → IsExplored takes request image input file rows
enough_explored takes request image input file done rows so_far some enough =
    let many = so_far.many in
    record { closings = so_far.closings; came = so_far.came; tallied = so_far.tallied; within = omega (arith, many, some); over = inr enough; saved = so_far.saved }
