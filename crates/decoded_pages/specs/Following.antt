-- What becomes of a decoded instruction, as its line says it.
use Rattle.std.specs.Prelude.{◌≡◌, ℕ, ◌+◌, ◌*◌, ◌%◌, All}
use Rattle.page_memory.specs.declared.words.Access.{Access}
use Rattle.page_memory.specs.declared.words.Access.TheVariants.{Store}
use Rattle.page_memory.specs.Memory.{Memory}
use Rattle.rv_exec.specs.Arithmetic.{word_sum}
use Rattle.rv_exec.specs.Registers.{Registers, with_pc}
use Rattle.rv_exec.specs.Line.{Line, Next}
use Rattle.decoded_pages.specs.declared.performing.After.{After}
use Rattle.decoded_pages.specs.declared.performing.After.TheVariants as after
use Rattle.decoded_pages.specs.declared.instruction.DecodedInstruction.{DecodedInstruction}
use Rattle.decoded_pages.specs.Classes.{Class, class_of, decoded_as, data_of, stores_of, OfClass, Falls}
use Rattle.decoded_pages.specs.Running.{IsServed}

-- the instruction of that number of the page that starts there has this line. It left these registers, whose pc is kept separately, and
-- this memory
abbrev pub Follows : After → Line → (start place : ℕ) → Registers → Memory → Type 0
Follows after.Next line start place regs memory = line ≡ Next (with_pc regs (word_sum (start + place * 4) 4)) memory
Follows (after.To relative) line start place regs memory = (line ≡ Next (with_pc regs (word_sum start relative)) memory) × (relative % 4 ≡ 0)
Follows after.ByWord line start place regs memory = Unit {0}

-- a fact that holds where nothing was done
abbrev pub Stays : After → Type 0 → Type 0
Stays after.Next fact = Unit {0}
Stays (after.To relative) fact = Unit {0}
Stays after.ByWord fact = fact

-- a fact that holds where it was done
abbrev pub WhereDone : After → Type 0 → Type 0
WhereDone after.Next fact = fact
WhereDone (after.To relative) fact = fact
WhereDone after.ByWord fact = Unit {0}

-- where the next instruction of the page follows, it may
abbrev pub FallsAfter : After → Class → Type 0
FallsAfter after.Next c = Falls c
FallsAfter (after.To relative) c = Unit {0}
FallsAfter after.ByWord c = Unit {0}

-- a decoded instruction, the one of that number of the page that starts there, gave this result: whatever line it represents was done
pub record Performs (decoded : DecodedInstruction) (start place : ℕ) (result : After) (regs regs' : Registers) (memory memory' : Memory) : Type 0 where
  pub followed : (line : Line) → OfClass (class_of decoded.operation) (line ≡ decoded_as decoded start (with_pc regs (start + place * 4)) memory) → Follows result line start place regs' memory'
  pub falls : FallsAfter result (class_of decoded.operation)
  pub registers_stay : Stays result (regs' ≡ regs)
  pub memory_stays : Stays result (memory' ≡ memory)

-- where a decoded instruction was done, the pages of its data were at hand, and what stays over such accesses has stayed
pub record Reaches {B : Type 0} (memory : B → Memory) (serves : B → Access → ℕ → Type 0) (stays : B → B → Type 0) (decoded : DecodedInstruction) (result : After) (regs : Registers) (old new : B) : Type 0 where
  pub used : WhereDone result (All (IsServed serves old) (data_of decoded regs (memory old)))
  pub stored : WhereDone result (All (serves old Store) (stores_of decoded regs (memory old)))
  pub stayed : WhereDone result (stays old new)
