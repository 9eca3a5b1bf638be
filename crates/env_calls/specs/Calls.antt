-- The environment calls, this project's profile: the number is in a7, the answer goes to a0, and pc goes on.
-- Negative answers are two's complement.
use Rattle.std.specs.Prelude.{ℕ, ◌+◌, ◌-◌, ◌/◌, ◌^◌, ◌==◌, ◌&&◌, nat_lt, nat_le, min, Bool, true, false, List, [], ◌∷◌, ◌++◌, length, take, drop, slice_set, Option, Some, None, Result, Ok, Err, if◌then◌else◌}
use Rattle.page_memory.specs.declared.fault.MemoryFault.{MemoryFault}
use Rattle.page_memory.specs.declared.words.Access.TheVariants.{Store}
use Rattle.page_memory.specs.Words.{page_offset}
use Rattle.page_memory.specs.MemoryMap.{image_end, most_pages}
use Rattle.page_memory.specs.Pages.{usable}
use Rattle.page_memory.specs.Memory.{Memory, copied_out, copied_in, with_zeroed}
use Rattle.rv_exec.specs.Registers.{Registers, register, with_register, with_pc, next_pc, cleared}
use Rattle.rv_exec.specs.Line.{computed}
use Rattle.rv_exec.specs.Uses.{page_of_access}
use Rattle.env_calls.specs.declared.calls.Call.{Call}
use Rattle.env_calls.specs.declared.calls.Call.TheVariants.{Read, Write, EndHart, EndProcess, Yield, Break, Spawn, HartNumber}
use Rattle.env_calls.specs.Environment.{Environment, most_harts, any_live}
use Rattle.env_calls.specs.Effect.{Effect, Runs, Yields, Spawns, Finishes, Exits}

-- ---- registers by their names in the calling convention

abbrev pub sp : ℕ
sp = 2

abbrev pub a0 : ℕ
a0 = 10

abbrev pub a1 : ℕ
a1 = 11

abbrev pub a2 : ℕ
a2 = 12

abbrev pub a7 : ℕ
a7 = 17

-- ---- numbers and answers

-- which call a number names
unfoldable pub call_of : ℕ → Option Call
call_of number =
    if number == 63 then Some Read
    else if number == 64 then Some Write
    else if number == 93 then Some EndHart
    else if number == 94 then Some EndProcess
    else if number == 124 then Some Yield
    else if number == 214 then Some Break
    else if number == 1024 then Some Spawn
    else if number == 1025 then Some HartNumber
    else None

-- -11: no more harts can be started
abbrev pub no_more_harts : ℕ
no_more_harts = 2 ^ 32 - 11

-- -14: the address is in no page that the call may use
abbrev pub bad_address : ℕ
bad_address = 2 ^ 32 - 14

-- -38: there is no such call
abbrev pub no_such_call : ℕ
no_such_call = 2 ^ 32 - 38

-- the hart goes on with an answer in a0
unfoldable pub answers : Registers → Environment → Memory → ℕ → Effect
answers regs env memory answer = Runs (computed regs a0 answer) env memory

-- ---- read and write: a1 is the address, a2 the length

-- how many bytes are copied at once: the rest of the page at most
unfoldable pub count_in_page : ℕ → ℕ → ℕ
count_in_page address length = min length (4096 - page_offset address)

-- and no more than what is left of the input
unfoldable pub count_to_read : Environment → ℕ → ℕ → ℕ
count_to_read env address wanted = min (count_in_page address wanted) (length env.input)

-- the next bytes of the input went to memory, and their number is the answer
abbrev pub did_read : Registers → Environment → Memory → ℕ → Result Memory MemoryFault → Effect
did_read regs env memory count (Ok changed) = answers regs (record env { input = drop count env.input }) changed count
did_read regs env memory count (Err fault) = answers regs env memory bad_address

-- a read of nothing uses no page; any other uses one as a store does, also where no input is left
unfoldable pub read : Registers → Environment → Memory → ℕ → ℕ → Effect
read regs env memory address wanted =
    if wanted == 0 then answers regs env memory 0
    else did_read regs env memory (count_to_read env address wanted)
    (copied_in memory address (take (count_to_read env address wanted) env.input))

-- the page that a read uses, where it may be written
unfoldable pub read_pages : Memory → ℕ → ℕ → List ℕ
read_pages memory address wanted =
    if wanted == 0 then []
    else page_of_access address (usable memory.pages Store address)

-- the bytes went to the output, and their number is the answer
abbrev pub wrote : Registers → Environment → Memory → ℕ → Result (List ℕ) MemoryFault → Effect
wrote regs env memory count (Ok bytes) = answers regs (record env { output = env.output ++ bytes }) memory count
wrote regs env memory count (Err fault) = answers regs env memory bad_address

-- a write of nothing uses no page
unfoldable pub write : Registers → Environment → Memory → ℕ → ℕ → Effect
write regs env memory address length =
    if length == 0 then answers regs env memory 0
    else wrote regs env memory (count_in_page address length) (copied_out memory address (count_in_page address length))

-- the page that a write uses, where it may be read
unfoldable pub write_pages : Memory → ℕ → ℕ → List ℕ
write_pages memory address length =
    if length == 0 then []
    else page_of_access address (copied_out memory address (count_in_page address length))

-- ---- the break: a0 is the address to which it is to move

-- how many pages lie below an address, the one that it cuts too
unfoldable pub pages_up_to : ℕ → ℕ
pages_up_to address = (address + 4095) / 4096

-- how many pages a break that moves up to an address adds
abbrev pub pages_to_add : Environment → ℕ → ℕ
pages_to_add env request = pages_up_to request - pages_up_to env.break_at

-- the break moves only up, no further than an image may reach, and with no more pages than may be mapped
unfoldable pub is_granted : Environment → ℕ → Bool
is_granted env request =
    nat_lt env.break_at request && (nat_le request image_end && nat_le (env.pages + pages_to_add env request) most_pages)

-- the answer is in every case the break after the call
abbrev pub moved_break : Registers → Environment → Memory → ℕ → Bool → Effect
moved_break regs env memory request true =
    answers regs (record env { break_at = request; pages = env.pages + pages_to_add env request })
    (with_zeroed (pages_up_to env.break_at) (pages_to_add env request) memory) request
moved_break regs env memory request false = answers regs env memory env.break_at

unfoldable pub move_break : Registers → Environment → Memory → ℕ → Effect
move_break regs env memory request = moved_break regs env memory request (is_granted env request)

-- ---- harts

-- the marks when a hart's has fallen
abbrev pub without : ℕ → List Bool → List Bool
without hart live = slice_set live hart false

-- a hart is done where another one is live; the last live one ends the process with the status in a0, and stays live
abbrev pub ended : Registers → Environment → Memory → List Bool → Bool → Effect
ended regs env memory left true = Finishes (with_pc regs (next_pc regs)) (record env { live = left }) memory
ended regs env memory left false = Exits (register regs a0) (with_pc regs (next_pc regs)) env memory

unfoldable pub end_hart : ℕ → Registers → Environment → Memory → Effect
end_hart hart regs env memory = ended regs env memory (without hart env.live) (any_live (without hart env.live))

-- what a new hart begins with: pc is the caller's a0, sp its a1, and a0 its a2; its other registers are 0
unfoldable pub new_hart : Registers → Registers
new_hart regs = with_register (with_register (cleared (register regs a0)) sp (register regs a1)) a0 (register regs a2)

-- a new hart has the next number, which is the answer, and is live
abbrev pub spawned : Registers → Environment → Memory → Bool → Effect
spawned regs env memory true =
    Spawns (new_hart regs) (computed regs a0 (length env.live)) (record env { live = env.live ++ true ∷ [] }) memory
spawned regs env memory false = answers regs env memory no_more_harts

-- there is a limit to the harts that are ever started
unfoldable pub spawn : Registers → Environment → Memory → Effect
spawn regs env memory = spawned regs env memory (nat_lt (length env.live) most_harts)

-- ---- the calls

abbrev pub called : ℕ → Registers → Environment → Memory → Option Call → Effect
called hart regs env memory (Some Read) = read regs env memory (register regs a1) (register regs a2)
called hart regs env memory (Some Write) = write regs env memory (register regs a1) (register regs a2)
called hart regs env memory (Some EndHart) = end_hart hart regs env memory
called hart regs env memory (Some EndProcess) = Exits (register regs a0) (with_pc regs (next_pc regs)) env memory
called hart regs env memory (Some Yield) = Yields (computed regs a0 0) env memory
called hart regs env memory (Some Break) = move_break regs env memory (register regs a0)
called hart regs env memory (Some Spawn) = spawn regs env memory
called hart regs env memory (Some HartNumber) = answers regs env memory hart
called hart regs env memory None = answers regs env memory no_such_call

-- what an ECALL of a hart, by its number, does
unfoldable pub call : ℕ → Registers → Environment → Memory → Effect
call hart regs env memory = called hart regs env memory (call_of (register regs a7))

-- ---- the pages that a call uses, each where it has the right

abbrev pub called_pages : Registers → Memory → Option Call → List ℕ
called_pages regs memory (Some Read) = read_pages memory (register regs a1) (register regs a2)
called_pages regs memory (Some Write) = write_pages memory (register regs a1) (register regs a2)
called_pages regs memory (Some EndHart) = []
called_pages regs memory (Some EndProcess) = []
called_pages regs memory (Some Yield) = []
called_pages regs memory (Some Break) = []
called_pages regs memory (Some Spawn) = []
called_pages regs memory (Some HartNumber) = []
called_pages regs memory None = []

unfoldable pub call_pages : Registers → Memory → List ℕ
call_pages regs memory = called_pages regs memory (call_of (register regs a7))

-- the pages among them that it stores to
abbrev pub called_stores : Registers → Memory → Option Call → List ℕ
called_stores regs memory (Some Read) = read_pages memory (register regs a1) (register regs a2)
called_stores regs memory _ = []

unfoldable pub call_stores : Registers → Memory → List ℕ
call_stores regs memory = called_stores regs memory (call_of (register regs a7))
