-- A process on flat memory, what it begins as, and its steps and runs.
use Rattle.std.specs.Prelude.{◌≡◌, ℕ, ◌+◌, ◌-◌, ◌*◌, ◌≤◌, ◌&&◌, Bool, true, false, List, length, slice_get, slice_set, slice_index_or, [], ◌∷◌, ◌++◌, map, Option, Some, None, is_none, option_map, option_and_then, if◌then◌else◌}
use Rattle.std.specs.List.{range_with_len}
use Rattle.std.specs.FinMap.{from_entries}
use Rattle.page_memory.specs.Pages.{Page, zero_page}
use Rattle.page_memory.specs.Memory.{Memory, unreserved}
use Rattle.page_memory.specs.MemoryMap.{stack_first_page, stack_page_count, first_stack_pointer}
use Rattle.rv_exec.specs.Registers.{Registers, cleared, with_register}
use Rattle.elf_image.specs.declared.image.ImagePage.{ImagePage}
use Rattle.elf_image.specs.Image.{ImageContent}
use Rattle.env_calls.specs.Calls.{sp}
use Rattle.env_calls.specs.Environment.{Environment, most_harts, any_live}
use Rattle.env_calls.specs.Effect.{Effect, Runs, Yields, Spawns, Finishes, Exits, Traps}
use Rattle.env_calls.specs.Step.{effect}
use Rattle.flat_machine.specs.declared.end.End.{End}
use Rattle.flat_machine.specs.declared.end.End.TheVariants.{Exited, Trapped}

pub record Process : Type 0 where
  -- the registers of each hart that was started, by its number
  pub harts : List Registers
  pub environment : Environment
  pub memory : Memory
  -- how it ended, if it did
  pub ending : Option End

-- a hart's registers, where the hart was started
abbrev pub hart_registers : ℕ → Process → Option Registers
hart_registers hart process = slice_get process.harts hart

-- whether a hart was started and is live
abbrev pub is_live : ℕ → Process → Bool
is_live hart process = slice_index_or process.environment.live hart false

-- what every process keeps: each hart that was started has its registers and its mark, and some hart is live
pub record IsWhole (process : Process) : Type 0 where
  pub marked : length process.harts ≡ length process.environment.live
  pub few : length process.environment.live ≤ most_harts
  pub some : any_live process.environment.live ≡ true

-- ---- the opening

-- a page of an image, by its number
abbrev pub image_entry : ImagePage → ℕ × Page
image_entry listed = (listed.number, listed.page)

-- a page of the stack: zeros that may be read and written
abbrev pub stack_entry : ℕ → ℕ × Page
stack_entry number = (number, zero_page)

-- the pages that a process begins with: its image's, and the stack's
abbrev pub opening_pages : List ImagePage → List (ℕ × Page)
opening_pages pages = map image_entry pages ++ map stack_entry (range_with_len stack_first_page stack_page_count)

-- the address after a page
abbrev pub after_page : Option ImagePage → ℕ
after_page None = 0
after_page (Some listed) = (listed.number + 1) * 4096

-- where the break is at first: after the highest page of the image, which is the last
unfoldable pub first_break : List ImagePage → ℕ
first_break pages = after_page (slice_get pages (length pages - 1))

-- what a process begins as: only hart 0, whose pc is the entry, with its stack pointer and 0 in every other register
unfoldable pub opening : ImageContent → List ℕ → Process
opening image input = record {
  harts = with_register (cleared image.entry) sp first_stack_pointer ∷ [];
  environment = record {
    input = input;
    output = [];
    break_at = first_break image.pages;
    pages = length image.pages + stack_page_count;
    live = true ∷ [];
  };
  memory = unreserved (from_entries (opening_pages image.pages));
  ending = None;
}

-- ---- steps

-- the process with a hart's registers, the environment and the memory as they are after its step
abbrev pub with_hart : ℕ → Registers → Environment → Memory → Process → Process
with_hart hart registers environment memory process =
    record process { harts = slice_set process.harts hart registers; environment = environment; memory = memory }

-- the process after a step of a hart with this effect, from these registers
abbrev pub after : ℕ → Process → Registers → Effect → Process
after hart process before (Runs registers environment memory) = with_hart hart registers environment memory process
after hart process before (Yields registers environment memory) = with_hart hart registers environment memory process
after hart process before (Spawns first registers environment memory) =
    record process { harts = slice_set process.harts hart registers ++ first ∷ []; environment = environment; memory = memory }
after hart process before (Finishes registers environment memory) = with_hart hart registers environment memory process
after hart process before (Exits status registers environment memory) =
    record { harts = slice_set process.harts hart registers; environment = environment; memory = memory; ending = Some (Exited status) }
after hart process before (Traps cause value) = record process { ending = Some (Trapped hart cause before.pc value) }

-- whether a hart may step: the process goes on, and the hart is live
abbrev pub may_step : ℕ → Process → Bool
may_step hart process = is_none process.ending && is_live hart process

-- the process after a hart's next step
abbrev pub stepped : ℕ → Process → Registers → Process
stepped hart process registers = after hart process registers (effect hart registers process.environment process.memory)

-- the process after one step of a hart, where it may step
unfoldable pub flat_step : ℕ → Process → Option Process
flat_step hart process = if may_step hart process then option_map (stepped hart process) (hart_registers hart process) else None

-- the process after steps of these harts, where each of them exists
unfoldable pub flat_run : List ℕ → Process → Option Process
flat_run [] process = Some process
flat_run (hart ∷ harts) process = option_and_then (flat_run harts) (flat_step hart process)
