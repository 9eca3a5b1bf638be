-- What a picture of a machine shows: what the machine is, and nothing else.
use Rattle.std.specs.Prelude.{◌≡◌, ℕ, List, length, map, slice_get}
use Rattle.std.specs.Option.{option_and_then}
use Rattle.clock_policy.specs.declared.key.Key.{Key}
use Rattle.machine_core.specs.Machine.{CoreValue}
use Rattle.machine_sides.specs.PageStatusAt.{status_at}
use Rattle.run_picture.specs.Processes.{process_by, process_seen}
use Rattle.run_picture.specs.declared.picture.Picture.{Picture}
use Rattle.run_picture.specs.declared.output.Output.{Output}
use Rattle.run_picture.specs.declared.shown_page.ShownPage.{ShownPage}
use Rattle.space_core.specs.StandsFor.{SpaceValue}

-- the bytes of a process's output
abbrev pub bytes_in : Output → List ℕ
bytes_in output = output.bytes.items

module _ {S : Type 0} where
  -- a page as the machine has it
  abbrev pub shown_in : CoreValue S → Key → ShownPage
  shown_in core key = record {
    key = key;
    status = option_and_then (λ process. status_at process key.vpn) (slice_get core.processes key.process);
  }

  -- what a process has written, and how much
  abbrev pub output_by : SpaceValue S → List ℕ
  output_by process = process.running.environment.output

  abbrev pub written_by : SpaceValue S → ℕ
  written_by process = length (output_by process)

  -- the picture of a machine, with these pages
  pub record IsPictureOf (core : CoreValue S) (keys : List Key) (picture : Picture) : Type 0 where
    pub pages : picture.pages.items ≡ map (shown_in core) keys
    pub processes : map process_seen picture.processes.items ≡ map process_by core.processes
    pub entries : picture.entries.items ≡ core.pager.pager.list.entries
    pub share : picture.hands.share ≡ core.pager.pager.list.share
    pub asked : picture.hands.asked ≡ core.pager.pager.list.asked
    pub cold : picture.hands.cold ≡ core.pager.pager.list.cold_hand
    pub test : picture.hands.test ≡ core.pager.pager.list.test_hand
    pub free : picture.counts.pager.free ≡ length core.pager.pager.free
    pub tallies : picture.counts.pager.tallies ≡ core.pager.pager.tallies
    pub saves : picture.counts.saves ≡ core.pager.saves
    pub drops : picture.counts.drops ≡ core.pager.drops
    pub written : picture.written.items ≡ map written_by core.processes
