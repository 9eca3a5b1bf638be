-- Runs of decoded instructions.
use Rattle.std.proofs.Common.{◌≡◌, ◌≢◌, ◌<◌, ◌≤◌, ℕ, zero, suc, ◌+◌, ◌*◌, ◌/◌, ◌%◌, ◌^◌, slice_index_or, Bool, true, false, if◌then◌else◌, ◌∷◌, All, Option, Some, None, IfSome, Ok, ap, ◌∙◌, sym, subst, refl, arith, inl, inr}
use Rattle.std.proofs.lemmas.Bool.Decides.{eqb_tells}
use Rattle.std.specs.FinMap.{get}
use Rattle.page_memory.specs.declared.words.Access.{Access}
use Rattle.page_memory.specs.declared.words.Access.TheVariants.{Fetch, Store}
use Rattle.page_memory.specs.Rights.{may}
use Rattle.page_memory.specs.Words.{page_number}
use Rattle.page_memory.specs.Pages.{Page, answer_by, number_at, aligned_page}
use Rattle.page_memory.specs.Pages as plain
use Rattle.page_memory.proofs.AccessLaws.{aligned_usable, usable_found}
use Rattle.page_memory.specs.Memory.{Memory, fetched}
use Rattle.page_memory.specs.ReadOnly.{KeepsReadOnly}
use Rattle.page_memory.proofs.KeptPages.{kept_itself, kept_on}
use Rattle.rv_exec.specs.Arithmetic.{word_sum}
use Rattle.rv_exec.specs.Registers.{Registers, with_pc}
use Rattle.rv_exec.proofs.RegistersLaws.{pc_aside, read_aside}
use Rattle.rv_exec.specs.Line.{Next, Call, line}
use Rattle.rv_exec.proofs.LineLaws.{line_fetched, all_front}
use Rattle.rv_exec.specs.Uses.{load_pages, store_pages, fetched_pages, fetched_stores, decoded_pages, pages_used, pages_stored}
use Rattle.rv_isa.specs.Table.{insn_of}
use Rattle.decoded_pages.specs.declared.performing.After.{After}
use Rattle.decoded_pages.specs.declared.performing.After.TheVariants as after
use Rattle.decoded_pages.specs.declared.page.DecodedPage.{DecodedPage}
use Rattle.decoded_pages.specs.declared.pages.DecodedPages.{DecodedPages}
use Rattle.decoded_pages.specs.declared.instruction.DecodedInstruction.{DecodedInstruction}
use Rattle.decoded_pages.specs.Classes.{Class, Continues, Constant, Links, Jumps, LinksRegister, JumpsRegister, Branches, Loads, Stores, WithImmediate, Shifts, Operates, class_of, class_data, class_stores, data_of, stores_of, decoded_as, OfClass, HasAligned, Falls, EndsLine, Undecoded}
use Rattle.decoded_pages.specs.Following.{Follows, Performs, Reaches}
use Rattle.decoded_pages.specs.Code.{Shows, ShowsAll}
use Rattle.decoded_pages.specs.Running.{Iterates, IsServed, Steps}
use Rattle.decoded_pages.proofs.Keeping.{next_keeps}

-- ---- steps of any relation

suc_is : (n : ℕ) → suc n ≡ n + 1
suc_is n = omega arith

none_more : (n : ℕ) → n ≡ n + zero
none_more n = omega arith

suc_more : (n m : ℕ) → suc (n + m) ≡ n + suc m
suc_more n m = omega arith

pub no_step : {A : Type 0} (step : A → A → Type 0) (a : A) → Iterates step 0 a a
unfolding Iterates
no_step step a = refl

pub one_more : {A : Type 0} (step : A → A → Type 0) (n : ℕ) (a b c : A) → Iterates step n a b → step b c → Iterates step (n + 1) a c
unfolding Iterates
one_more step n a b c before last = subst (λ k. Iterates step k a c) (suc_is n) (b, (before, last))

pub more_steps : {A : Type 0} (step : A → A → Type 0) (n m : ℕ) (a b c : A) → Iterates step n a b → Iterates step m b c → Iterates step (n + m) a c
unfolding Iterates
more_steps step n zero a b c before later = subst (λ k. Iterates step k a c) (none_more n) (subst (Iterates step n a) (sym later) before)
more_steps step n (suc m) a b c before later = subst (λ k. Iterates step k a c) (suc_more n m) (later.0, (more_steps step n m a b later.0 before later.1.0, later.1.1))

-- pages that may not be written stay as they are
pub kept_along : {B : Type 0} (memory : B → Memory) (serves : B → Access → ℕ → Type 0) (stays : B → B → Type 0) (n : ℕ) (a b : Registers × B) → Iterates (Steps memory serves stays) n a b → KeepsReadOnly (memory a.1) (memory b.1)
unfolding Iterates
kept_along memory serves stays zero a b same = subst (λ (s : Registers × _). KeepsReadOnly (memory a.1) (memory s.1)) (sym same) (kept_itself (memory a.1))
kept_along memory serves stays (suc n) a b run =
    kept_on (memory a.1) (memory run.0.1) (memory b.1) (kept_along memory serves stays n a run.0 run.1.0)
    (next_keeps 0 run.0.0 b.0 (memory run.0.1) (memory b.1) (run.1.1.its_line 0))

-- what stays over each step does so over a run
pub held_along : {B : Type 0} (memory : B → Memory) (serves : B → Access → ℕ → Type 0) (stays : B → B → Type 0) (P : B → Type 0) → ((old new : B) → stays old new → P old → P new) → (n : ℕ) (a b : Registers × B) → Iterates (Steps memory serves stays) n a b → P a.1 → P b.1
unfolding Iterates
held_along memory serves stays P on zero a b same held = subst (λ (s : Registers × _). P s.1) (sym same) held
held_along memory serves stays P on (suc n) a b run held = on run.0.1 b.1 run.1.1.stayed (held_along memory serves stays P on n a run.0 run.1.0 held)

both_rights : (store fetch : Bool) → (if store then false else fetch) ≡ true → (store ≡ false) × (fetch ≡ true)
both_rights true fetch h = absurd (cc)
both_rights false fetch h = (refl, h)

-- so a page is shown still
pub shows_on : (page : DecodedPage) (old new : Memory) → KeepsReadOnly old new → Shows page old → Shows page new
shows_on page old new keeps shows =
    record {
      content = shows.content;
      decoded = shows.decoded;
      found = keeps (page_number page.start) shows.content shows.found (both_rights (may Store shows.content.rights) (may Fetch shows.content.rights) shows.code).0;
      code = shows.code;
    }

slot_on : (old new : Memory) → KeepsReadOnly old new → (slot : Option DecodedPage) → IfSome slot (λ page. Shows page old) → IfSome slot (λ page. Shows page new)
slot_on old new keeps None shows = tt
slot_on old new keeps (Some page) shows = shows_on page old new keeps shows

pub all_shown_on : (pages : DecodedPages) (old new : Memory) → KeepsReadOnly old new → ShowsAll pages old → ShowsAll pages new
all_shown_on pages old new keeps shows = λ k d within. slot_on old new keeps (slice_index_or pages.pages.items k d) (shows k d within)

-- ---- one instruction of a page

same_page : (start place : ℕ) → start % 4096 ≡ 0 → place < 1024 → page_number (start + place * 4) ≡ page_number start
same_page start place page below = omega arith

word_aligned : (start place : ℕ) → start % 4096 ≡ 0 → (start + place * 4) % 4 ≡ 0
word_aligned start place page = omega arith

fetches : (page : DecodedPage) (memory : Memory) (place : ℕ) → (shows : Shows page memory) → place < 1024 → fetched memory (page.start + place * 4) ≡ Ok (number_at 4 (page.start + place * 4) shows.content)
unfolding plain.fetched
fetches page memory place shows below =
    ap (answer_by (number_at 4 (page.start + place * 4)))
    (aligned_usable memory.pages Fetch 4 (page.start + place * 4) (Ok shows.content) (word_aligned page.start place shows.decoded.aligned)
    (usable_found memory.pages Fetch (page.start + place * 4) shows.content
    (ap (get memory.pages) (same_page page.start place shows.decoded.aligned below) ∙ shows.found) (both_rights (may Store shows.content.rights) (may Fetch shows.content.rights) shows.code).1))

-- what came of a decoded instruction is its line's
pub follows_line : (page : DecodedPage) (memory memory' : Memory) (hart place : ℕ) (d : DecodedInstruction) (result : After) (regs regs' : Registers) → Shows page memory → place < 1024
    → Performs (slice_index_or page.instructions.items place d) page.start place result regs regs' memory memory'
    → Follows result (line hart (with_pc regs (page.start + place * 4)) memory) page.start place regs' memory'
follows_line page memory memory' hart place d result regs regs' shows below done =
    let pc = page.start + place * 4 in
    let word = number_at 4 pc shows.content in
    let decoded = slice_index_or page.instructions.items place d in
    let at : fetched memory (with_pc regs pc).pc ≡ Ok word = ap (fetched memory) (pc_aside regs pc) ∙ fetches page memory place shows below in
    done.followed (line hart (with_pc regs pc) memory)
    (subst (λ l. OfClass (class_of decoded.operation) (l ≡ decoded_as decoded page.start (with_pc regs pc) memory)) (sym (line_fetched hart (with_pc regs pc) memory word at))
    ((shows.decoded.stands place d below).line hart word (with_pc regs pc) memory (pc_aside regs pc)))

-- at the end of a page nothing is done
not_next : (decoded : DecodedInstruction) (start place : ℕ) (regs regs' : Registers) (memory memory' : Memory) → class_of decoded.operation ≡ Undecoded → Performs decoded start place after.Next regs regs' memory memory' → ⊥
not_next decoded start place regs regs' memory memory' class done =
    let never : Call ≡ Next (with_pc regs' (word_sum (start + place * 4) 4)) memory' = done.followed Call (subst (λ k. OfClass k (Call ≡ decoded_as decoded start (with_pc regs (start + place * 4)) memory)) (sym class) tt) in
    absurd (cc)

not_to : (decoded : DecodedInstruction) (start place relative : ℕ) (regs regs' : Registers) (memory memory' : Memory) → class_of decoded.operation ≡ Undecoded → Performs decoded start place (after.To relative) regs regs' memory memory' → ⊥
not_to decoded start place relative regs regs' memory memory' class done =
    let never : Call ≡ Next (with_pc regs' (word_sum start relative)) memory' = (done.followed Call (subst (λ k. OfClass k (Call ≡ decoded_as decoded start (with_pc regs (start + place * 4)) memory)) (sym class) tt)).0 in
    absurd (cc)

-- ---- steps of a page

pc_at : (start place : ℕ) → start % 4096 ≡ 0 → start < 2 ^ 32 → place < 1024 → start + place * 4 ≡ word_sum start (place * 4)
unfolding word_sum
pc_at start place page small below = omega arith

pc_after : (start place : ℕ) → word_sum (start + place * 4) 4 ≡ word_sum start ((place + 1) * 4)
unfolding word_sum
pc_after start place = let order : start + place * 4 + 4 ≡ start + (place + 1) * 4 = omega arith in ap (λ n. n % 2 ^ 32) order

at_end : (place : ℕ) → place ≤ 1024 → place ≢ 1024 → place < 1024
at_end place most apart = omega arith

pub aligned_at : (page : DecodedPage) (memory : Memory) (place : ℕ) (decoded : DecodedInstruction) → Shows page memory → place ≤ 1024
    → decoded ≡ slice_index_or page.instructions.items place decoded → HasAligned (class_of decoded.operation) decoded.immediate
aligned_at page memory place decoded shows most at =
    elim (eqb_tells place 1024) [
      | inl same ↦
          let class : class_of decoded.operation ≡ Undecoded =
          ap (λ (i : DecodedInstruction). class_of i.operation) (at ∙ ap (λ n. slice_index_or page.instructions.items n decoded) same.1) ∙ shows.decoded.last decoded in
          subst (λ k. HasAligned k decoded.immediate) (sym class) tt
      | inr apart ↦
          subst (λ (i : DecodedInstruction). HasAligned (class_of i.operation) i.immediate) (sym at) (shows.decoded.stands place decoded (at_end place most apart.1)).aligned
    ]

-- nothing is done after the last instruction
below_end : (page : DecodedPage) (memory : Memory) (place : ℕ) (decoded : DecodedInstruction) → Shows page memory → place ≤ 1024
    → decoded ≡ slice_index_or page.instructions.items place decoded → (class_of decoded.operation ≡ Undecoded → ⊥) → place < 1024
below_end page memory place decoded shows most at not =
    elim (eqb_tells place 1024) [
      | inl same ↦ absurd (not (ap (λ (i : DecodedInstruction). class_of i.operation) (at ∙ ap (λ n. slice_index_or page.instructions.items n decoded) same.1) ∙ shows.decoded.last decoded))
      | inr apart ↦ at_end place most apart.1
    ]

module _ {B : Type 0} (memory : B → Memory) (page : DecodedPage) (old new : B) (place : ℕ) (decoded : DecodedInstruction) (regs regs' : Registers) where
  pub next_below : Shows page (memory old) → place ≤ 1024 → decoded ≡ slice_index_or page.instructions.items place decoded
      → Performs decoded page.start place after.Next regs regs' (memory old) (memory new) → place < 1024
  next_below shows most at done = below_end page (memory old) place decoded shows most at (λ class. not_next decoded page.start place regs regs' (memory old) (memory new) class done)

  pub to_below : (relative : ℕ) → Shows page (memory old) → place ≤ 1024 → decoded ≡ slice_index_or page.instructions.items place decoded
      → Performs decoded page.start place (after.To relative) regs regs' (memory old) (memory new) → place < 1024
  to_below relative shows most at done = below_end page (memory old) place decoded shows most at (λ class. not_to decoded page.start place relative regs regs' (memory old) (memory new) class done)

  next_line : Shows page (memory old) → place < 1024 → page.start < 2 ^ 32 → decoded ≡ slice_index_or page.instructions.items place decoded
      → Performs decoded page.start place after.Next regs regs' (memory old) (memory new)
      → (hart : ℕ) → line hart (with_pc regs (word_sum page.start (place * 4))) (memory old) ≡ Next (with_pc regs' (word_sum page.start ((place + 1) * 4))) (memory new)
  next_line shows below small at done hart =
      ap (λ pc. line hart (with_pc regs pc) (memory old)) (sym (pc_at page.start place shows.decoded.aligned small below))
      ∙ follows_line page (memory old) (memory new) hart place decoded after.Next regs regs' shows below
      (subst (λ i. Performs i page.start place after.Next regs regs' (memory old) (memory new)) at done)
      ∙ ap (λ pc. Next (with_pc regs' pc) (memory new)) (pc_after page.start place)

  to_line : (relative : ℕ) → Shows page (memory old) → place < 1024 → page.start < 2 ^ 32 → decoded ≡ slice_index_or page.instructions.items place decoded
      → Performs decoded page.start place (after.To relative) regs regs' (memory old) (memory new)
      → (hart : ℕ) → line hart (with_pc regs (word_sum page.start (place * 4))) (memory old) ≡ Next (with_pc regs' (word_sum page.start relative)) (memory new)
  to_line relative shows below small at done hart =
      ap (λ pc. line hart (with_pc regs pc) (memory old)) (sym (pc_at page.start place shows.decoded.aligned small below))
      ∙ (follows_line page (memory old) (memory new) hart place decoded (after.To relative) regs regs' shows below
      (subst (λ i. Performs i page.start place (after.To relative) regs regs' (memory old) (memory new)) at done)).0

  pub to_aligned : (relative : ℕ) → Shows page (memory old) → place ≤ 1024 → decoded ≡ slice_index_or page.instructions.items place decoded
      → Performs decoded page.start place (after.To relative) regs regs' (memory old) (memory new) → relative % 4 ≡ 0
  to_aligned relative shows most at done =
      (follows_line page (memory old) (memory new) 0 place decoded (after.To relative) regs regs' shows (to_below relative shows most at done)
      (subst (λ i. Performs i page.start place (after.To relative) regs regs' (memory old) (memory new)) at done)).1

-- ---- the pages that it uses

done_of : (c : Class) (fact : Type 0) → (c ≡ Undecoded → ⊥) → OfClass c fact → fact
done_of Undecoded fact not h = absurd (not refl)
done_of Continues fact not h = h
done_of Constant fact not h = h
done_of Links fact not h = h
done_of Jumps fact not h = h
done_of LinksRegister fact not h = h
done_of JumpsRegister fact not h = h
done_of (Branches kind) fact not h = h
done_of (Loads kind) fact not h = h
done_of (Stores kind) fact not h = h
done_of (WithImmediate kind) fact not h = h
done_of (Shifts kind) fact not h = h
done_of (Operates kind) fact not h = h

-- its data do not depend on pc
data_aside : (c : Class) (rs1 rs2 immediate pc : ℕ) (regs : Registers) (memory : Memory) → class_data c rs1 rs2 immediate (with_pc regs pc) memory ≡ class_data c rs1 rs2 immediate regs memory
data_aside (Loads kind) rs1 rs2 immediate pc regs memory = ap (λ a. load_pages memory kind (word_sum a immediate)) (read_aside regs pc rs1)
data_aside (Stores kind) rs1 rs2 immediate pc regs memory = (λ i. store_pages memory kind (word_sum (read_aside regs pc rs1 i) immediate) (read_aside regs pc rs2 i))
data_aside _ rs1 rs2 immediate pc regs memory = refl

stores_aside : (c : Class) (rs1 rs2 immediate pc : ℕ) (regs : Registers) (memory : Memory) → class_stores c rs1 rs2 immediate (with_pc regs pc) memory ≡ class_stores c rs1 rs2 immediate regs memory
stores_aside (Stores kind) rs1 rs2 immediate pc regs memory = (λ i. store_pages memory kind (word_sum (read_aside regs pc rs1 i) immediate) (read_aside regs pc rs2 i))
stores_aside _ rs1 rs2 immediate pc regs memory = refl

module _ (page : DecodedPage) (memory : Memory) (place : ℕ) (d : DecodedInstruction) (regs : Registers) (shows : Shows page memory) (below : place < 1024)
    (not : class_of (slice_index_or page.instructions.items place d).operation ≡ Undecoded → ⊥) where
  fetched_there : fetched memory (with_pc regs (page.start + place * 4)).pc ≡ Ok (number_at 4 (page.start + place * 4) shows.content)
  fetched_there = ap (fetched memory) (pc_aside regs (page.start + place * 4)) ∙ fetches page memory place shows below

  -- the page that it is in, and those of its data
  uses_page : pages_used (with_pc regs (page.start + place * 4)) memory ≡ page_number page.start ∷ data_of (slice_index_or page.instructions.items place d) regs memory
  unfolding pages_used data_of
  uses_page =
      let pc = page.start + place * 4 in
      let word = number_at 4 pc shows.content in
      let decoded = slice_index_or page.instructions.items place d in
      let same : page_number (with_pc regs pc).pc ≡ page_number page.start = ap page_number (pc_aside regs pc) ∙ same_page page.start place shows.decoded.aligned below in
      let data_used : decoded_pages (with_pc regs pc) memory (insn_of word) ≡ data_of decoded regs memory =
      done_of (class_of decoded.operation) _ not ((shows.decoded.stands place d below).uses (with_pc regs pc) memory)
      ∙ data_aside (class_of decoded.operation) decoded.rs1 decoded.rs2 decoded.immediate pc regs memory in
      ap (fetched_pages (with_pc regs pc) memory) fetched_there ∙ (λ i. same i ∷ data_used i)

  stores_there : pages_stored (with_pc regs (page.start + place * 4)) memory ≡ stores_of (slice_index_or page.instructions.items place d) regs memory
  unfolding pages_stored stores_of
  stores_there =
      let pc = page.start + place * 4 in
      let decoded = slice_index_or page.instructions.items place d in
      ap (fetched_stores (with_pc regs pc) memory) fetched_there
      ∙ done_of (class_of decoded.operation) _ not ((shows.decoded.stands place d below).stores (with_pc regs pc) memory)
      ∙ stores_aside (class_of decoded.operation) decoded.rs1 decoded.rs2 decoded.immediate pc regs memory

module _ {B : Type 0} (memory : B → Memory) (serves : B → Access → ℕ → Type 0) (stays : B → B → Type 0) (page : DecodedPage) (old new : B) (place : ℕ) (decoded : DecodedInstruction) (regs regs' : Registers) where
  all_used : Shows page (memory old) → place < 1024 → page.start < 2 ^ 32 → decoded ≡ slice_index_or page.instructions.items place decoded → (class_of decoded.operation ≡ Undecoded → ⊥)
      → serves old Fetch (page_number page.start) → All (IsServed serves old) (data_of decoded regs (memory old))
      → All (IsServed serves old) (pages_used (with_pc regs (word_sum page.start (place * 4))) (memory old))
  all_used shows below small at not served reached =
      let whole : page_number page.start ∷ data_of decoded regs (memory old) ≡ pages_used (with_pc regs (word_sum page.start (place * 4))) (memory old) =
      ap (λ i. page_number page.start ∷ data_of i regs (memory old)) at
      ∙ sym (uses_page page (memory old) place decoded regs shows below (subst (λ (i : DecodedInstruction). class_of i.operation ≡ Undecoded → ⊥) at not))
      ∙ ap (λ pc. pages_used (with_pc regs pc) (memory old)) (pc_at page.start place shows.decoded.aligned small below) in
      subst (All (IsServed serves old)) whole (all_front (IsServed serves old) (page_number page.start) (data_of decoded regs (memory old)) (Fetch, served) reached)

  all_stored : Shows page (memory old) → place < 1024 → page.start < 2 ^ 32 → decoded ≡ slice_index_or page.instructions.items place decoded → (class_of decoded.operation ≡ Undecoded → ⊥)
      → All (serves old Store) (stores_of decoded regs (memory old))
      → All (serves old Store) (pages_stored (with_pc regs (word_sum page.start (place * 4))) (memory old))
  all_stored shows below small at not reached =
      let whole : stores_of decoded regs (memory old) ≡ pages_stored (with_pc regs (word_sum page.start (place * 4))) (memory old) =
      ap (λ i. stores_of i regs (memory old)) at
      ∙ sym (stores_there page (memory old) place decoded regs shows below (subst (λ (i : DecodedInstruction). class_of i.operation ≡ Undecoded → ⊥) at not))
      ∙ ap (λ pc. pages_stored (with_pc regs pc) (memory old)) (pc_at page.start place shows.decoded.aligned small below) in
      subst (All (serves old Store)) whole reached

  pub next_step : Shows page (memory old) → place ≤ 1024 → page.start < 2 ^ 32 → decoded ≡ slice_index_or page.instructions.items place decoded
      → serves old Fetch (page_number page.start) → Performs decoded page.start place after.Next regs regs' (memory old) (memory new)
      → Reaches memory serves stays decoded after.Next regs old new
      → Steps memory serves stays (with_pc regs (word_sum page.start (place * 4)), old) (with_pc regs' (word_sum page.start ((place + 1) * 4)), new)
  next_step shows most small at served done reached =
      let below = next_below memory page old new place decoded regs regs' shows most at done in
      let not : class_of decoded.operation ≡ Undecoded → ⊥ = λ class. not_next decoded page.start place regs regs' (memory old) (memory new) class done in
      record {
        its_line = next_line memory page old new place decoded regs regs' shows below small at done;
        used = all_used shows below small at not served reached.used;
        stored = all_stored shows below small at not reached.stored;
        stayed = reached.stayed;
      }

  pub to_step : (relative : ℕ) → Shows page (memory old) → place ≤ 1024 → page.start < 2 ^ 32 → decoded ≡ slice_index_or page.instructions.items place decoded
      → serves old Fetch (page_number page.start) → Performs decoded page.start place (after.To relative) regs regs' (memory old) (memory new)
      → Reaches memory serves stays decoded (after.To relative) regs old new
      → Steps memory serves stays (with_pc regs (word_sum page.start (place * 4)), old) (with_pc regs' (word_sum page.start relative), new)
  to_step relative shows most small at served done reached =
      let below = to_below memory page old new place decoded regs regs' relative shows most at done in
      let not : class_of decoded.operation ≡ Undecoded → ⊥ = λ class. not_to decoded page.start place relative regs regs' (memory old) (memory new) class done in
      record {
        its_line = to_line memory page old new place decoded regs regs' relative shows below small at done;
        used = all_used shows below small at not served reached.used;
        stored = all_stored shows below small at not reached.stored;
        stayed = reached.stayed;
      }

-- a page that is shown at the start of a run is shown along it
pub shown_along : {B : Type 0} (memory : B → Memory) (serves : B → Access → ℕ → Type 0) (stays : B → B → Type 0) (page : DecodedPage) (n : ℕ) (a b : Registers × B) → Iterates (Steps memory serves stays) n a b → Shows page (memory a.1) → Shows page (memory b.1)
shown_along memory serves stays page n a b run shows = shows_on page (memory a.1) (memory b.1) (kept_along memory serves stays n a b run) shows

pub all_shown_along : {B : Type 0} (memory : B → Memory) (serves : B → Access → ℕ → Type 0) (stays : B → B → Type 0) (pages : DecodedPages) (n : ℕ) (a b : Registers × B) → Iterates (Steps memory serves stays) n a b → ShowsAll pages (memory a.1) → ShowsAll pages (memory b.1)
all_shown_along memory serves stays pages n a b run shows = λ k d within.
    slot_on (memory a.1) (memory b.1) (kept_along memory serves stays n a b run) (slice_index_or pages.pages.items k d) (shows k d within)

pub counted_back : (relative : ℕ) → relative % 4 ≡ 0 → relative / 4 * 4 ≡ relative
counted_back relative even = omega arith

pub went_further : {B : Type 0} (step : Registers × B → Registers × B → Type 0) (page : DecodedPage) (old new : B) (place : ℕ) (decoded : DecodedInstruction) (regs regs' : Registers) (relative n m pc : ℕ) (first : Registers × B) → n + 1 ≡ m
    → Iterates step n first (with_pc regs (word_sum page.start (place * 4)), old)
    → step (with_pc regs (word_sum page.start (place * 4)), old) (with_pc regs' (word_sum page.start relative), new) → pc ≡ word_sum page.start relative
    → Iterates step m first (with_pc regs' pc, new)
went_further step page old new place decoded regs regs' relative n m pc first one ran last at =
    subst (λ k. Iterates step k first (with_pc regs' pc, new)) one
    (subst (λ p. Iterates step (n + 1) first (with_pc regs' p, new)) (sym at) (one_more step n first (with_pc regs (word_sum page.start (place * 4)), old) (with_pc regs' (word_sum page.start relative), new) ran last))

pub stayed : {B : Type 0} (step : Registers × B → Registers × B → Type 0) (page : DecodedPage) (old new : B) (place : ℕ) (regs regs' : Registers) (n pc : ℕ) (first : Registers × B)
    → Iterates step n first (with_pc regs (word_sum page.start (place * 4)), old) → regs' ≡ regs → new ≡ old → pc ≡ word_sum page.start (place * 4)
    → Iterates step n first (with_pc regs' pc, new)
stayed step page old new place regs regs' n pc first ran r m at =
    subst (λ p. Iterates step n first (with_pc regs' p, new)) (sym at)
    (subst (λ x. Iterates step n first (with_pc x (word_sum page.start (place * 4)), new)) (sym r)
    (subst (λ b. Iterates step n first (with_pc regs (word_sum page.start (place * 4)), b)) (sym m) ran))

-- ---- from page to page

page_address : (pc start : ℕ) → pc < 2 ^ 32 → pc % 4 ≡ 0 → start ≡ pc / 4096 * 4096 → word_sum start (pc % 4096 / 4 * 4) ≡ pc
unfolding word_sum
page_address pc start small even is = omega arith

pub page_ran : {B : Type 0} (step : Registers × B → Registers × B → Type 0) (first : Registers × B) (regs regs' : Registers) (old new : B) (n m k pc pc' start : ℕ) → pc < 2 ^ 32 → pc % 4 ≡ 0 → start ≡ pc / 4096 * 4096 → n + m ≡ k
    → Iterates step n first (with_pc regs pc, old)
    → Iterates step m (with_pc regs (word_sum start (pc % 4096 / 4 * 4)), old) (with_pc regs' pc', new)
    → Iterates step k first (with_pc regs' pc', new)
page_ran step first regs regs' old new n m k pc pc' start small even is sum before page =
    subst (λ j. Iterates step j first (with_pc regs' pc', new)) sum
    (more_steps step n m first (with_pc regs pc, old) (with_pc regs' pc', new) before
    (subst (λ p. Iterates step m (with_pc regs p, old) (with_pc regs' pc', new)) (page_address pc start small even is) page))

-- ---- straight lines

line_of_next : (c : Class) (place end next : ℕ) → (c ≡ Undecoded → ⊥) → Falls c → EndsLine c place end next → (place < end) × (next ≤ end)
line_of_next Undecoded place end next not falls ends = absurd (not refl)
line_of_next Continues place end next not falls ends = ends
line_of_next Constant place end next not falls ends = ends
line_of_next Links place end next not falls ends = absurd falls
line_of_next Jumps place end next not falls ends = absurd falls
line_of_next LinksRegister place end next not falls ends = absurd falls
line_of_next JumpsRegister place end next not falls ends = absurd falls
line_of_next (Branches kind) place end next not falls ends = ends
line_of_next (Loads kind) place end next not falls ends = ends
line_of_next (Stores kind) place end next not falls ends = ends
line_of_next (WithImmediate kind) place end next not falls ends = ends
line_of_next (Shifts kind) place end next not falls ends = ends
line_of_next (Operates kind) place end next not falls ends = ends

line_of_any : (c : Class) (place end next : ℕ) → (c ≡ Undecoded → ⊥) → EndsLine c place end next → place < end
line_of_any Undecoded place end next not ends = absurd (not refl)
line_of_any Continues place end next not ends = ends.0
line_of_any Constant place end next not ends = ends.0
line_of_any Links place end next not ends = ends
line_of_any Jumps place end next not ends = ends
line_of_any LinksRegister place end next not ends = ends
line_of_any JumpsRegister place end next not ends = ends
line_of_any (Branches kind) place end next not ends = ends.0
line_of_any (Loads kind) place end next not ends = ends.0
line_of_any (Stores kind) place end next not ends = ends.0
line_of_any (WithImmediate kind) place end next not ends = ends.0
line_of_any (Shifts kind) place end next not ends = ends.0
line_of_any (Operates kind) place end next not ends = ends.0

module _ {B : Type 0} (memory : B → Memory) (page : DecodedPage) (old new : B) (place : ℕ) (decoded : DecodedInstruction) (regs regs' : Registers) where
  its_line_ends : Shows page (memory old) → place < 1024 → decoded ≡ slice_index_or page.instructions.items place decoded
      → EndsLine (class_of decoded.operation) place (slice_index_or page.ends.items place 0) (slice_index_or page.ends.items (place + 1) 0)
  its_line_ends shows below at =
      subst (λ (i : DecodedInstruction). EndsLine (class_of i.operation) place (slice_index_or page.ends.items place 0) (slice_index_or page.ends.items (place + 1) 0)) (sym at) (shows.decoded.lines place decoded 0 below)

  -- a line goes on after an instruction that the next one follows
  pub next_in_line : (limit : ℕ) → Shows page (memory old) → place ≤ 1024 → decoded ≡ slice_index_or page.instructions.items place decoded
      → Performs decoded page.start place after.Next regs regs' (memory old) (memory new) → slice_index_or page.ends.items place 0 ≤ limit
      → (place < limit) × (slice_index_or page.ends.items (place + 1) 0 ≤ limit)
  next_in_line limit shows most at done within =
      let below = next_below memory page old new place decoded regs regs' shows most at done in
      let both = line_of_next (class_of decoded.operation) place (slice_index_or page.ends.items place 0) (slice_index_or page.ends.items (place + 1) 0)
      (λ class. not_next decoded page.start place regs regs' (memory old) (memory new) class done) done.falls (its_line_ends shows below at) in
      (omega (arith, both, within), omega (arith, both, within))

  pub to_in_line : (limit relative : ℕ) → Shows page (memory old) → place ≤ 1024 → decoded ≡ slice_index_or page.instructions.items place decoded
      → Performs decoded page.start place (after.To relative) regs regs' (memory old) (memory new) → slice_index_or page.ends.items place 0 ≤ limit → place < limit
  to_in_line limit relative shows most at done within =
      let below = to_below memory page old new place decoded regs regs' relative shows most at done in
      let here = line_of_any (class_of decoded.operation) place (slice_index_or page.ends.items place 0) (slice_index_or page.ends.items (place + 1) 0)
      (λ class. not_to decoded page.start place relative regs regs' (memory old) (memory new) class done) (its_line_ends shows below at) in
      omega (arith, here, within)
