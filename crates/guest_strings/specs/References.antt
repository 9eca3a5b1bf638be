-- Strings of references: the pages that steps of guests use, in order.
use Rattle.std.specs.Prelude.{ℕ, ◌/◌, ◌%◌, ◌==◌, ◌&&◌, ◌||◌, Bool, false, cond, List, [], ◌∷◌, ◌++◌, map, take, drop, Option, Some, None, unwrap_or, slice_get, slice_set}
use Rattle.std.specs.List.{list_any}
use Rattle.clock_policy.specs.declared.key.Key.{Key}
use Rattle.page_memory.specs.Memory.{Memory}
use Rattle.rv_exec.specs.Registers.{Registers}
use Rattle.env_calls.specs.Environment.{most_harts}
use Rattle.env_calls.specs.Step.{step_pages, step_stores}
use Rattle.flat_machine.specs.Process.{Process, hart_registers, flat_step}
use Rattle.guest_strings.specs.declared.access_kinds.AccessKinds.{AccessKinds}
use Rattle.guest_strings.specs.declared.access_kinds.AccessKinds.TheVariants.{All, Instructions, Data}
use Rattle.guest_strings.specs.declared.reference.Reference.{Reference}

-- ---- one step

-- a page of a process by its number, written where the step stores to it
abbrev pub referred : ℕ → List ℕ → ℕ → Reference
referred number stores page = record { page = record { process = number; vpn = page }; is_written = list_any (λ stored. stored == page) stores }

-- what the step of a hart at these registers refers to: the page of the instruction, then that of its data
abbrev pub step_references : ℕ → ℕ → Memory → Option Registers → List Reference
step_references number hart memory None = []
step_references number hart memory (Some registers) = map (referred number (step_stores hart registers memory)) (step_pages hart registers memory)

-- what the next step of a hart refers to
abbrev pub references_of : ℕ → ℕ → Process → List Reference
references_of number hart process = step_references number hart process.memory (hart_registers hart process)

-- a fetch writes nothing, also where its page is that of a store
abbrev pub of_fetch : Reference → Reference
of_fetch reference = record { page = reference.page; is_written = false }

-- what is kept of a step's references: all of them, only the page of its instruction, which is the first, or only that of its data
abbrev pub kept : AccessKinds → List Reference → List Reference
kept All references = references
kept Instructions references = map of_fetch (take 1 references)
kept Data references = drop 1 references

-- the process after that step, or as it is where the hart may not step
abbrev pub after_step : ℕ → Process → Process
after_step hart process = unwrap_or (flat_step hart process) process

-- ---- processes side by side: a place is a hart of one of them, eight places for each process

abbrev pub process_of : ℕ → ℕ
process_of place = place / most_harts

abbrev pub hart_of : ℕ → ℕ
hart_of place = place % most_harts

abbrev pub references_in : ℕ → Option Process → List Reference
references_in place None = []
references_in place (Some process) = references_of (process_of place) (hart_of place) process

-- what the next step of a place's hart refers to
abbrev pub references_at : ℕ → List Process → List Reference
references_at place processes = references_in place (slice_get processes (process_of place))

abbrev pub moved_in : ℕ → List Process → Option Process → List Process
moved_in place processes None = processes
moved_in place processes (Some process) = slice_set processes (process_of place) (after_step (hart_of place) process)

-- the processes after that step
abbrev pub moved : ℕ → List Process → List Process
moved place processes = moved_in place processes (slice_get processes (process_of place))

-- ---- many steps

-- what is kept of what the steps of these places' harts refer to, one step after another
unfoldable pub used : AccessKinds → List ℕ → List Process → List Reference
used accesses [] processes = []
used accesses (place ∷ places) processes = kept accesses (references_at place processes) ++ used accesses places (moved place processes)

abbrev pub is_same_page : Key → Key → Bool
is_same_page p q = (p.process == q.process) && (p.vpn == q.vpn)

-- two references to one page as one: a write where either is
abbrev pub both : Reference → Reference → Reference
both first next = record { page = first.page; is_written = first.is_written || next.is_written }

-- neighbours that refer to one page are one reference
unfoldable pub joined_to : Reference → List Reference → List Reference
joined_to held [] = held ∷ []
joined_to held (next ∷ string) = cond (is_same_page held.page next.page) (joined_to (both held next) string) (held ∷ joined_to next string)

unfoldable pub joined : List Reference → List Reference
joined [] = []
joined (first ∷ string) = joined_to first string
