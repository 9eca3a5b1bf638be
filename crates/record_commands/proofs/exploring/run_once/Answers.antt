use Rattle.std.proofs.Common.{◌≡◌, ℕ, List, Result, Ok, Err, IfOk, subst}
use Rattle.elf_image.specs.Image.{ImageContent}
use Rattle.flat_machine.specs.Process.{Process, opening}
use Rattle.flat_machine.specs.Schedule.{IsJoined}
use Rattle.guest_records.specs.GoingOn.{EndsWithin}
use Rattle.run_records.specs.Fitting.{IsRecord}
use Rattle.run_records.specs.Prints.{print_of}
use Rattle.run_records.specs.Records.{value_of}
use Rattle.run_records.specs.Replaying.{Replays}
use Rattle.run_records.specs.declared.fingerprint.Fingerprint.{Fingerprint}
use Rattle.run_records.specs.declared.record.Record.{Record}
use Rattle.record_commands.specs.Saved.{IsRunOf}
use Rattle.record_commands.proofs.exploring.run_once.Goals as goal

is_run : {E : Type 0} (result : Result Record E) (image : ImageContent) (bytes input : List ℕ) (file : Fingerprint) (limit : ℕ) → bytes ≡ input → IfOk result (λ told. told.image ≡ file) → IfOk result (λ told. told.input ≡ print_of bytes)
    → IfOk result (λ told. (after : Process) × (Replays (value_of told) (opening image bytes) after × EndsWithin limit (value_of told) after)) → IfOk result (λ told. IsJoined told.turns.items) → IfOk result (λ told. IsRecord (value_of told))
    → IfOk result (λ told. IsRunOf image input file limit (value_of told))
is_run (Err why) image bytes input file limit same of_image of_input replays joined fits = tt
is_run (Ok told) image bytes input file limit same of_image of_input replays joined fits =
    subst (λ (all : List ℕ). IsRunOf image all file limit (value_of told)) same (record { of_image = of_image; of_input = of_input; after = replays.0; replays = replays.1.0; stops = replays.1.1; joined = joined; fits = fits })

pub returns : goal.returns
returns c =
    is_run c.explore_run.result c.args.program.now.image.now c.in_ok-input.input.items c.args.program.now.input.now c.args.program.now.file c.args.limit c.in_ok-input.ensures.items c.explore_run.ensures.image c.explore_run.ensures.input
    c.explore_run.ensures.replays c.explore_run.ensures.joined c.explore_run.ensures.fits
