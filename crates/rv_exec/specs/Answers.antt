-- What a bus may answer: as memory does, or that the page of the access is absent.
use Rattle.std.specs.Prelude.{◌≡◌, ℕ, Result, Ok, Err, IsOk}
use Rattle.page_memory.specs.declared.fault.MemoryFault.{MemoryFault}
use Rattle.page_memory.specs.Words.{page_number}
use Rattle.rv_exec.specs.declared.bus.BusError.{BusError}
use Rattle.rv_exec.specs.declared.bus.BusError.TheVariants.{Fault, Absent}

-- why a bus refused an access that memory answers so: by memory's fault, or since the page is one that may lack
abbrev pub BusRefuses : {A : Type 0} → (ℕ → Type 0) → ℕ → Result A MemoryFault → BusError → Type 0
BusRefuses lacks address expected (Fault fault) = expected ≡ Err fault
BusRefuses lacks address expected (Absent page) = (page ≡ page_number address) × lacks page × IsOk expected

-- an answer is memory's, by a page that the bus has, and whose use it has marked
abbrev pub Answers : {A : Type 0} → (has marks lacks : ℕ → Type 0) → ℕ → Result A MemoryFault → Result A BusError → Type 0
Answers has marks lacks address expected (Ok answer) = (expected ≡ Ok answer) × (has (page_number address) × marks (page_number address))
Answers has marks lacks address expected (Err refusal) = BusRefuses lacks address expected refusal

-- a bus's answer with a value in place of its own
abbrev pub with_answer : {A B : Type 0} → (A → B) → Result A BusError → Result B BusError
with_answer f (Ok answer) = Ok (f answer)
with_answer f (Err refusal) = Err refusal
