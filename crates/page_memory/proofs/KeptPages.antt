-- Whatever is done to memory, pages that may not be written stay as they are.
use Rattle.std.proofs.Common.{◌≡◌, ℕ, ◌==◌, ◌%◌, Bool, true, false, cond, List, length, Option, Some, None, Result, Ok, Err, ap, ◌∙◌, sym, subst, refl, inl, inr, arith}
use Rattle.std.proofs.lemmas.Bool.Decides.{nat_tests, eqb_tells}
use Rattle.std.specs.Ordering.{nat_cmp, eq_by_cmp}
use Rattle.std.specs.Cmp.{nat_cmp_total}
use Rattle.std.specs.FinMap.{get, insert, get-insert}
use Rattle.byteorder.specs.Endian.{little_bytes}
use Rattle.page_memory.specs.declared.words.Access.TheVariants.{Store}
use Rattle.page_memory.specs.declared.words.Width.{Width}
use Rattle.page_memory.specs.declared.words.Width.TheVariants.{Word}
use Rattle.page_memory.specs.declared.fault.MemoryFault.{MemoryFault}
use Rattle.page_memory.specs.Words.{page_number, page_offset, bytes_in}
use Rattle.page_memory.specs.Rights.{may}
use Rattle.page_memory.specs.Pages.{Page, Pages, answer_by, page_if, with_right, usable, if_aligned, aligned_page, memory_with, overwritten, number_at}
use Rattle.page_memory.specs.Pages as plain
use Rattle.page_memory.specs.Memory.{Memory, written, exchanged, released, stored_if, stored, replaced, copied_in, loaded_reserved, reserving, stored_conditionally, with_zeroed}
use Rattle.page_memory.specs.Reservations.{has_reserved}
use Rattle.page_memory.specs.ReadOnly.{KeepsReadOnly}
use Rattle.page_memory.proofs.ZeroedLaws.{get-with_zeroed, kept_or_zero, in_range}

pub kept_itself : (memory : Memory) → KeepsReadOnly memory memory
kept_itself memory number page found sealed = found

pub kept_on : (a b c : Memory) → KeepsReadOnly a b → KeepsReadOnly b c → KeepsReadOnly a c
kept_on a b c first then number page found sealed = then number page (first number page found sealed) sealed

-- the same of pages
abbrev pub KeepsPages : Pages → Pages → Type 0
KeepsPages old new = (number : ℕ) (page : Page) → get old number ≡ Some page → may Store page.rights ≡ false → get new number ≡ Some page

same_key : (q page : ℕ) → eq_by_cmp nat_cmp q page ≡ (q == page)
same_key q page = grind (arith, nat_tests)

some_same : (a b : Page) → Some a ≡ Some b → a ≡ b
some_same a b h = cc

-- ---- a page that is written may be written

-- the page may be written, and is there
pub record Takes (pages : Pages) (address : ℕ) (page : Page) : Type 0 where
  pub found : get pages (page_number address) ≡ Some page
  pub allowed : may Store page.rights ≡ true

from_test : (b : Bool) (there page : Page) → page_if b there ≡ Ok page → (b ≡ true) × (there ≡ page)
from_test true there page h = (refl, cc)
from_test false there page h = absurd (cc)

from_right : (pages : Pages) (address : ℕ) (found : Option Page) (page : Page) → get pages (page_number address) ≡ found → with_right Store found ≡ Ok page → Takes pages address page
from_right pages address None page at h = absurd (cc)
from_right pages address (Some there) page at h =
    let both = from_test (may Store there.rights) there page h in
    record { found = at ∙ ap Some both.1; allowed = sym (ap (λ (p : Page). may Store p.rights) both.1) ∙ both.0 }

takes_usable : (pages : Pages) (address : ℕ) (page : Page) → usable pages Store address ≡ Ok page → Takes pages address page
unfolding usable
takes_usable pages address page h = from_right pages address (get pages (page_number address)) page refl h

from_alignment : (b : Bool) (pages : Pages) (address : ℕ) (page : Page) → if_aligned b (usable pages Store address) ≡ Ok page → Takes pages address page
from_alignment true pages address page h = takes_usable pages address page h
from_alignment false pages address page h = absurd (cc)

takes_aligned : (pages : Pages) (width address : ℕ) (page : Page) → aligned_page pages Store width address ≡ Ok page → Takes pages address page
unfolding aligned_page
takes_aligned pages width address page h = from_alignment (address % width == 0) pages address page h

-- ---- what is written

pub with_bytes : (pages : Pages) (address : ℕ) (bytes : List ℕ) (into : Page) → Takes pages address into → KeepsPages pages (memory_with pages address bytes into)
with_bytes pages address bytes into takes number page found sealed =
    get-insert nat_cmp_total pages (page_number address) (record into { bytes = overwritten into.bytes (page_offset address) bytes }) number
    ∙ ap (λ b. cond b (Some (record into { bytes = overwritten into.bytes (page_offset address) bytes })) (get pages number)) (same_key number (page_number address))
    ∙ elim (eqb_tells number (page_number address)) [
      | inl same ↦
          let one : page ≡ into = some_same page into (sym found ∙ ap (get pages) same.1 ∙ takes.found) in
          let both : false ≡ true = sym sealed ∙ ap (λ (p : Page). may Store p.rights) one ∙ takes.allowed in
          absurd (cc)
      | inr apart ↦ rw apart.0 found
    ]

-- ---- what an answer is made of

same_answer : {B : Type 0} (a b : B) → ◌≡◌ {A = Result B MemoryFault} (Ok a) (Ok b) → a ≡ b
same_answer a b h = cc

of_answer : {A B : Type 0} (f : A → B) (answer : Result A MemoryFault) (b : B) (P : B → Type 0) → ((a : A) → answer ≡ Ok a → P (f a)) → answer_by f answer ≡ Ok b → P b
of_answer f (Ok a) b P each h = subst P (same_answer (f a) b h) (each a refl)
of_answer f (Err fault) b P each h = absurd (cc)

stored_pages : (pages : Pages) (width : Width) (address word : ℕ) (left : Pages) → plain.stored pages width address word ≡ Ok left → KeepsPages pages left
unfolding plain.stored
stored_pages pages width address word left h =
    of_answer (memory_with pages address (little_bytes (bytes_in width) word)) (aligned_page pages Store (bytes_in width) address) left (KeepsPages pages)
    (λ into is. with_bytes pages address (little_bytes (bytes_in width) word) into (takes_aligned pages (bytes_in width) address into is)) h

replaced_pages : (pages : Pages) (update : ℕ → ℕ) (address : ℕ) (left : ℕ × Pages) → plain.replaced pages update address ≡ Ok left → KeepsPages pages left.1
unfolding plain.replaced
replaced_pages pages update address left h =
    of_answer (plain.exchanged pages update address) (aligned_page pages Store 4 address) left (λ pair. KeepsPages pages pair.1)
    (λ into is. with_bytes pages address (little_bytes 4 (update (number_at 4 address into))) into (takes_aligned pages 4 address into is)) h

copied_pages : (pages : Pages) (address : ℕ) (bytes : List ℕ) (left : Pages) → plain.copied_in pages address bytes ≡ Ok left → KeepsPages pages left
unfolding plain.copied_in
copied_pages pages address bytes left h =
    of_answer (memory_with pages address bytes) (usable pages Store address) left (KeepsPages pages)
    (λ into is. with_bytes pages address bytes into (takes_usable pages address into is)) h

-- ---- memory

pub stored_keeps : (memory : Memory) (width : Width) (address word : ℕ) (left : Memory) → stored memory width address word ≡ Ok left → KeepsReadOnly memory left
unfolding stored
stored_keeps memory width address word left h =
    of_answer (written memory address (bytes_in width)) (plain.stored memory.pages width address word) left (KeepsReadOnly memory)
    (λ pages is. stored_pages memory.pages width address word pages is) h

pub replaced_keeps : (memory : Memory) (update : ℕ → ℕ) (address : ℕ) (left : ℕ × Memory) → replaced memory update address ≡ Ok left → KeepsReadOnly memory left.1
unfolding replaced
replaced_keeps memory update address left h =
    of_answer (exchanged memory address) (plain.replaced memory.pages update address) left (λ pair. KeepsReadOnly memory pair.1)
    (λ pair is. replaced_pages memory.pages update address pair is) h

pub copied_keeps : (memory : Memory) (address : ℕ) (bytes : List ℕ) (left : Memory) → copied_in memory address bytes ≡ Ok left → KeepsReadOnly memory left
unfolding copied_in
copied_keeps memory address bytes left h =
    of_answer (written memory address (length bytes)) (plain.copied_in memory.pages address bytes) left (KeepsReadOnly memory)
    (λ pages is. copied_pages memory.pages address bytes pages is) h

pub reserved_keeps : (memory : Memory) (hart address : ℕ) (left : ℕ × Memory) → loaded_reserved memory hart address ≡ Ok left → KeepsReadOnly memory left.1
unfolding loaded_reserved
reserved_keeps memory hart address left h =
    of_answer (reserving memory hart address) (plain.loaded memory.pages Word address) left (λ pair. KeepsReadOnly memory pair.1)
    (λ word is. kept_itself memory) h

if_reserved : (b : Bool) (memory : Memory) (hart address : ℕ) (pages : Pages) → KeepsPages memory.pages pages → KeepsReadOnly memory (stored_if b memory hart address pages).1
if_reserved true memory hart address pages keeps = keeps
if_reserved false memory hart address pages keeps = kept_itself memory

pub conditional_keeps : (memory : Memory) (hart address word : ℕ) (left : Bool × Memory) → stored_conditionally memory hart address word ≡ Ok left → KeepsReadOnly memory left.1
unfolding stored_conditionally
conditional_keeps memory hart address word left h =
    of_answer (stored_if (has_reserved hart address memory.reserved) memory hart address) (plain.stored memory.pages Word address word) left (λ pair. KeepsReadOnly memory pair.1)
    (λ pages is. if_reserved (has_reserved hart address memory.reserved) memory hart address pages (stored_pages memory.pages Word address word pages is)) h

pub zeroed_keeps : (first count : ℕ) (memory : Memory) → KeepsReadOnly memory (with_zeroed first count memory)
zeroed_keeps first count memory number page found sealed =
    get-with_zeroed first count memory.pages number ∙ ap (λ f. kept_or_zero f (in_range first count number)) found
