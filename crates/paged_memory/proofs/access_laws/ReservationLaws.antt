-- An access whose pages answer so answers so of memory, whose reservations it may end.
use Rattle.std.proofs.Common.{◌≡◌, ℕ, List, length, Result, Ok, Err, refl, ap}
use Rattle.page_memory.specs.declared.fault.MemoryFault.{MemoryFault}
use Rattle.page_memory.specs.declared.words.Access.TheVariants.{Store}
use Rattle.page_memory.specs.declared.words.Width.{Width}
use Rattle.page_memory.specs.declared.words.Width.TheVariants.{Word}
use Rattle.byteorder.specs.Endian.{little_bytes}
use Rattle.page_memory.specs.Words.{bytes_in}
use Rattle.page_memory.specs.Pages.{Pages, answer_by, aligned_page, number_at, memory_with}
use Rattle.page_memory.specs.Pages as plain
use Rattle.page_memory.specs.Reservations.{has_reserved}
use Rattle.page_memory.specs.Memory.{Memory, written, stored, replaced, copied_in, exchanged, loaded_reserved, reserving, stored_conditionally, stored_if}
use Rattle.page_store.specs.PageValue.{PageValue}
use Rattle.rv_exec.specs.declared.bus.BusError.{BusError}
use Rattle.rv_exec.specs.declared.bus.BusError.TheVariants.{Fault, Absent}
use Rattle.rv_exec.specs.Answers.{BusRefuses}
use Rattle.paged_memory.specs.access.Access.{KeepsBare}

-- a refusal stays, whatever is made of an answer
refused_by : {A B : Type 0} (lacks : ℕ → Type 0) (address : ℕ) (f : A → B) (refusal : BusError) (found : Result A MemoryFault)
    → BusRefuses lacks address found refusal → BusRefuses lacks address (answer_by f found) refusal
refused_by lacks address f (Fault fault) found is = ap (answer_by f) is
refused_by lacks address f (Absent page) (Ok answer) is = (is.0, is.1, refl)
refused_by lacks address f (Absent page) (Err fault) is = let clash = is.2 in cc

refused_from : {A B : Type 0} (lacks : ℕ → Type 0) (address : ℕ) (f : A → B) (refusal : BusError) (found : Result A MemoryFault)
    → BusRefuses lacks address (answer_by f found) refusal → BusRefuses lacks address found refusal
refused_from lacks address f (Fault fault) (Ok answer) is = absurd (cc)
refused_from lacks address f (Fault fault) (Err other) is = let same : other ≡ fault = cc in ap (λ x. Err x) same
refused_from lacks address f (Absent page) (Ok answer) is = (is.0, is.1, refl)
refused_from lacks address f (Absent page) (Err fault) is = let clash = is.2 in cc

module _ (lacks : ℕ → Type 0) (memory : Memory) (address : ℕ) (refusal : BusError) where
  pub store_refused : (width : Width) (word : ℕ) → BusRefuses lacks address (plain.stored memory.pages width address word) refusal → BusRefuses lacks address (stored memory width address word) refusal
  unfolding stored
  store_refused width word is = refused_by lacks address (written memory address (bytes_in width)) refusal (plain.stored memory.pages width address word) is

  pub replace_refused : (update : ℕ → ℕ) → BusRefuses lacks address (plain.replaced memory.pages update address) refusal → BusRefuses lacks address (replaced memory update address) refusal
  unfolding replaced
  replace_refused update is = refused_by lacks address (exchanged memory address) refusal (plain.replaced memory.pages update address) is

  pub copy_refused : (bytes : List ℕ) → BusRefuses lacks address (plain.copied_in memory.pages address bytes) refusal → BusRefuses lacks address (copied_in memory address bytes) refusal
  unfolding copied_in
  copy_refused bytes is = refused_by lacks address (written memory address (length bytes)) refusal (plain.copied_in memory.pages address bytes) is

  pub reserve_refused : (hart : ℕ) → BusRefuses lacks address (plain.loaded memory.pages Word address) refusal → BusRefuses lacks address (loaded_reserved memory hart address) refusal
  unfolding loaded_reserved
  reserve_refused hart is = refused_by lacks address (reserving memory hart address) refusal (plain.loaded memory.pages Word address) is

  pub conditional_refused : (hart word : ℕ) → BusRefuses lacks address (plain.stored memory.pages Word address word) refusal → BusRefuses lacks address (stored_conditionally memory hart address word) refusal
  unfolding stored_conditionally
  conditional_refused hart word is =
      refused_by lacks address (stored_if (has_reserved hart address memory.reserved) memory hart address) refusal (plain.stored memory.pages Word address word) is

  -- what may not be read to be replaced may not be stored
  pub untested_refused : (hart word : ℕ) → BusRefuses lacks address (answer_by (number_at 4 address) (aligned_page memory.pages Store 4 address)) refusal → BusRefuses lacks address (stored_conditionally memory hart address word) refusal
  unfolding plain.stored
  untested_refused hart word is =
      let found = aligned_page memory.pages Store 4 address in
      conditional_refused hart word (refused_by lacks address (memory_with memory.pages address (little_bytes 4 word)) refusal found (refused_from lacks address (number_at 4 address) refusal found is))

-- pages that nothing was written to
pub bare_itself : {S : Type 0} {number : ℕ} (pages : List (ℕ × PageValue S)) → KeepsBare number pages pages
bare_itself pages = record { bare = λ page. refl; places = λ page. refl; others = λ page apart. refl }
