-- What a picture shows of a process: how it ended, each hart with what it has cached, and the words of its page tables.
use Rattle.std.specs.Prelude.{ℕ, Bool, false, ◌==◌, if◌then◌else◌, Option, Some, None, List, [], map, filter_map, slice_index_or, unwrap_or}
use Rattle.std.specs.List.{enumerate_from}
use Rattle.flat_machine.specs.declared.end.End.{End}
use Rattle.space_core.specs.StandsFor.{SpaceValue}
use Rattle.paged_memory.specs.Paged.{PagedValue}
use Rattle.paged_memory.specs.access.Translating.{framed_word_in, tables_in, translations_in}
use Rattle.rv_exec.specs.Registers.{Registers}
use Rattle.tlb_core.specs.declared.translation.Translation.{Translation}
use Rattle.run_picture.specs.declared.shown_hart.ShownHart.{ShownHart}
use Rattle.run_picture.specs.declared.shown_process.ShownProcess.{ShownProcess}
use Rattle.run_picture.specs.declared.shown_table.ShownTable.{ShownTable}
use Rattle.run_picture.specs.declared.shown_table.TableWord.{TableWord}

-- ---- a page table

-- a word by its place, unless it is 0
abbrev pub set_word : ℕ × ℕ → Option TableWord
set_word (index, word) = if word == 0 then None else Some (record { index = index; word = word })

-- the words of a table that are not 0, each with its place
abbrev pub set_words : List ℕ → List TableWord
set_words table = filter_map set_word (enumerate_from 0 table)

abbrev pub words_in : ShownTable → List TableWord
words_in table = table.words.items

-- ---- a hart

-- its registers, whether it is live, the word at its pc if that page is in a frame, and its translations, the oldest first
pub record HartSeen : Type 0 where
  pub registers : Registers
  pub live : Bool
  pub word : Option ℕ
  pub cached : List Translation

abbrev pub hart_seen : ShownHart → HartSeen
hart_seen hart = record { registers = hart.regs; live = hart.live; word = hart.word; cached = hart.cached.items }

module _ {S : Type 0} where
  -- what the hart of a number has cached
  abbrev pub cached_by : PagedValue S → ℕ → List Translation
  cached_by memory number = unwrap_or (translations_in memory number) []

  -- a hart by its number and its registers
  abbrev pub hart_by : SpaceValue S → ℕ × Registers → HartSeen
  hart_by process (number, registers) = record {
    registers = registers;
    live = slice_index_or process.running.environment.live number false;
    word = framed_word_in process.memory registers.pc;
    cached = cached_by process.memory number;
  }

-- ---- a process

pub record ProcessSeen : Type 0 where
  pub ending : Option End
  pub harts : List HartSeen
  pub page_tables : List (List TableWord)

abbrev pub process_seen : ShownProcess → ProcessSeen
process_seen process = record { ending = process.end; harts = map hart_seen process.harts.items; page_tables = map words_in process.page_tables.items }

module _ {S : Type 0} where
  -- the harts that were started
  abbrev pub harts_by : SpaceValue S → List HartSeen
  harts_by process = map (hart_by process) (enumerate_from 0 process.running.harts)

  abbrev pub process_by : SpaceValue S → ProcessSeen
  process_by process = record {
    ending = process.running.ending;
    harts = harts_by process;
    page_tables = map set_words (tables_in process.memory);
  }
