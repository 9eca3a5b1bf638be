-- Whose turn it is: processes by rising number, in each its live harts by rising number, each so many instructions.
use Rattle.std.specs.Prelude.{ℕ, zero, suc, ◌+◌, ◌-◌, ◌*◌, ◌&&◌, nat_lt, Bool, false, not, cond, List, [], ◌∷◌, length, Option, Some, None, option_map, slice_get}
use Rattle.std.specs.Option.{option_or}
use Rattle.page_memory.specs.Memory.{Memory}
use Rattle.rv_exec.specs.Registers.{Registers}
use Rattle.env_calls.specs.Environment.{most_harts}
use Rattle.machine_limits.specs.Limits.{most_processes}
use Rattle.flat_machine.specs.Process.{Process, hart_registers, may_step}
use Rattle.guest_strings.specs.Yields.{step_yields}
use Rattle.guest_strings.specs.declared.access_kinds.AccessKinds.{AccessKinds}
use Rattle.guest_strings.specs.declared.turns.Turn.{Turn}
use Rattle.guest_strings.specs.declared.reference.Reference.{Reference}
use Rattle.guest_strings.specs.References.{process_of, hart_of, moved, used, joined}

abbrev pub may_in : ℕ → Option Process → Bool
may_in place None = false
may_in place (Some process) = may_step (hart_of place) process

-- whether a place's hart may step
abbrev pub may_run : ℕ → List Process → Bool
may_run place processes = may_in place (slice_get processes (process_of place))

abbrev pub registers_yield : ℕ → Memory → Option Registers → Bool
registers_yield hart memory None = false
registers_yield hart memory (Some registers) = step_yields hart registers memory

-- whether the next step of a hart lets others have their turn
abbrev pub yields : ℕ → Process → Bool
yields hart process = registers_yield hart process.memory (hart_registers hart process)

abbrev pub yields_in : ℕ → Option Process → Bool
yields_in place None = false
yields_in place (Some process) = yields (hart_of place) process

abbrev pub yields_at : ℕ → List Process → Bool
yields_at place processes = yields_in place (slice_get processes (process_of place))

-- the first place among so many, from one on, whose hart may step
unfoldable pub first_place : ℕ → ℕ → List Process → Option ℕ
first_place zero place processes = None
first_place (suc count) place processes = cond (may_run place processes) (Some place) (first_place count (place + 1) processes)

-- of a machine's processes
abbrev pub most_places : ℕ
most_places = most_harts * most_processes

abbrev pub places : List Process → ℕ
places processes = most_harts * length processes

-- the next place whose hart may step: above this one, else from the first on, up to this one
abbrev pub next_place : ℕ → List Process → Option ℕ
next_place place processes = option_or (first_place (places processes - (place + 1)) (place + 1) processes) (first_place (place + 1) 0 processes)

-- the place of a turn, where it is one's
abbrev pub place_of : Option Turn → ℕ
place_of None = 0
place_of (Some turn) = turn.place

-- a whole slice
abbrev pub turn_at : ℕ → ℕ → Turn
turn_at slice place = record { place = place; left = slice }

-- a slice ends with its last instruction, with a call that lets others have their turn, and where the hart or its process is done
abbrev pub is_kept : Bool → Turn → List Process → Bool
is_kept yielded turn processes = not yielded && (nat_lt 1 turn.left && may_run turn.place processes)

-- whose turn it is after an instruction, which left these processes
unfoldable pub turn_after : ℕ → Bool → Turn → List Process → Option Turn
turn_after slice yielded turn processes =
    cond (is_kept yielded turn processes) (Some (record { place = turn.place; left = turn.left - 1 }))
    (option_map (turn_at slice) (next_place turn.place processes))

unfoldable pub first_turn : ℕ → List Process → Option Turn
first_turn slice processes = option_map (turn_at slice) (first_place (places processes) 0 processes)

-- the places of the next instructions by slices of so many, until no hart may step
unfoldable pub by_slices : ℕ → ℕ → Option Turn → List Process → List ℕ
by_slices slice zero turn processes = []
by_slices slice (suc count) None processes = []
by_slices slice (suc count) (Some turn) processes =
    turn.place ∷ by_slices slice count (turn_after slice (yields_at turn.place processes) turn (moved turn.place processes)) (moved turn.place processes)

-- the string of references of processes, of those that are kept, by slices of so many instructions, of up to so many instructions in all
unfoldable pub guest_string : AccessKinds → ℕ → ℕ → List Process → List Reference
guest_string accesses slice limit processes = joined (used accesses (by_slices slice limit (first_turn slice processes) processes) processes)
