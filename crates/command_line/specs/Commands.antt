-- The commands of the program and what each takes, in the words of clap's contracts. How words go to a command's arguments is
-- clap's (its `Walk`, `Takes` and `Faults`).
use Rattle.std.specs.Prelude.{ℕ, List, Some, codes, true}
use Rattle.clap.specs.Walk.{Rule}
use Rattle.clap.specs.Simple.{App, new_app, new_rule, with_rule, with_subcommand, on_top}
use Rattle.clap.specs.declared.builder.action.ArgAction.TheVariants.{Append, SetTrue}

-- a word that has to be there
abbrev pub file_rule : List ℕ → Rule
file_rule name = record (new_rule name) { required = true }

-- words of which one has to be there
abbrev pub files_rule : List ℕ → Rule
files_rule name = record (new_rule name) { required = true; action = Some Append }

-- an option with a value
abbrev pub option_rule : List ℕ → Rule
option_rule name = record (new_rule name) { long = Some name }

-- an option that has no value
abbrev pub flag_rule : List ℕ → Rule
flag_rule name = record (new_rule name) { long = Some name; action = Some SetTrue }

-- `asm SOURCE TARGET`
unfoldable pub asm_app : App
asm_app = with_rule (with_rule (new_app (codes "asm")) (file_rule (codes "source"))) (file_rule (codes "target"))

-- `flat [--limit N] [--input FILE] IMAGE`
unfoldable pub flat_app : App
flat_app = with_rule (with_rule (with_rule (new_app (codes "flat")) (option_rule (codes "limit"))) (option_rule (codes "input")))
    (file_rule (codes "image"))

-- `clock FRAMES SCRIPT`
unfoldable pub clock_app : App
clock_app = with_rule (with_rule (new_app (codes "clock")) (file_rule (codes "frames"))) (file_rule (codes "script"))

-- the options for the size of a machine
abbrev pub with_size : App → App
with_size app = with_rule (with_rule app (option_rule (codes "frames"))) (option_rule (codes "slots"))

-- `drive [--frames M] [--slots N] SCRIPT IMAGE...`
unfoldable pub drive_app : App
drive_app = with_rule (with_rule (with_size (new_app (codes "drive"))) (file_rule (codes "script"))) (files_rule (codes "image"))

-- `run [--frames M] [--slots N] [--workers W] [--slice B] [--limit N] [--input FILE] [--swap PREFIX] [--serial] [--status] [--ahead] IMAGE...`
unfoldable pub run_app : App
run_app = with_rule (with_rule (with_rule (with_rule (with_rule (with_rule (with_rule (with_rule (with_rule (with_size (new_app (codes "run")))
    (option_rule (codes "workers"))) (option_rule (codes "slice"))) (option_rule (codes "limit"))) (option_rule (codes "input")))
    (option_rule (codes "swap"))) (flag_rule (codes "serial"))) (flag_rule (codes "status"))) (flag_rule (codes "ahead")))
    (files_rule (codes "image"))

-- `debug [--frames M] IMAGE`
unfoldable pub debug_app : App
debug_app = with_rule (with_rule (new_app (codes "debug")) (option_rule (codes "frames"))) (file_rule (codes "image"))

-- the program, with no commands yet
unfoldable pub bare_app : App
bare_app = on_top (λ s. record s { no_binary_name = true; subcommand_required = true }) (new_app (codes "paged"))

-- the program with its commands
unfoldable pub paged_app : App
paged_app = with_subcommand (with_subcommand (with_subcommand (with_subcommand (with_subcommand (with_subcommand bare_app
    asm_app.top) flat_app.top) clock_app.top) drive_app.top) run_app.top) debug_app.top
