use Rattle.std.proofs.Common.{◌+◌, true, None, ◌≡◌, ◌∷◌, ◌++◌, [], length, slice_index_or, arith, ap, ◌∙◌, sym, subst}
use Rattle.env_calls.specs.Environment.{Environment}
use Rattle.std.specs.FinMap.{get, from_entries}
use Rattle.elf_image.specs.Image.{ArePages}
use Rattle.page_memory.specs.Memory.{Memory, unreserved}
use Rattle.page_memory.specs.MemoryMap.{first_stack_pointer}
use Rattle.rv_exec.specs.Registers.{Registers, cleared, with_register}
use Rattle.env_calls.specs.Calls.{sp}
use Rattle.decoded_pages.specs.Code.{ShowsAll}
use Rattle.flat_machine.specs.Process.{opening, opening_pages, first_break}
use Rattle.flat_machine.proofs.OpeningLaws.{image_page_at}
use Rattle.flat_machine.proofs.StepLaws.{whole_alone}
use Rattle.flat_machine.proofs.process.FlatProcess.new.Goals as goal

pub invariant_of-result : goal.invariant_of-result
invariant_of-result c =
    let harts : length c.push_reserved.new.self.items ≡ 1 = ap length c.push_reserved.ensures.items ∙ ap (λ l. length (l ++ c.first_registers.result ∷ [])) c.in_ok-harts.ensures.items in
    record {
      whole = whole_alone _ harts (ap (λ (e : Environment). e.live) c.new-env.ensures);
      shows = subst (λ d. ShowsAll d c.in_ok-memory.memory) (sym c.in_ok-decoded.ensures.ok) (c.in_ok-decoded_pages_of.ensures c.in_ok-memory.memory
          (λ i d within. ap (λ (m : Memory). get m.pages (slice_index_or c.pages-pages.result.now i d).number) c.in_ok-memory.ensures ∙ image_page_at c.pages-pages.result.now i d (subst ArePages (sym c.pages-pages.ensures.pages) c.pages-pages.ensures.ordered) within));
      roomy = (let same = c.push_reserved.ensures.capacity in let room = c.in_ok-harts.ensures.exact in omega arith);
    }

pub returns : goal.returns
unfolding opening
returns c =
    let pages = c.args.image.now.pages in
    let same : c.pages-pages.result.now ≡ pages = c.pages-pages.ensures.pages in
    let first : Registers = with_register (cleared c.args.image.now.entry) sp first_stack_pointer in
    let regs : c.first_registers.result ≡ first = c.first_registers.ensures ∙ ap (λ entry. with_register (cleared entry) sp first_stack_pointer) c.entry.ensures in
    let harts : c.push_reserved.new.self.items ≡ first ∷ [] = c.push_reserved.ensures.items ∙ ap (λ l. l ++ c.first_registers.result ∷ []) c.in_ok-harts.ensures.items ∙ ap (λ r. r ∷ []) regs in
    let environment : c.new-env.result ≡ record { input = c.args.input.items; output = []; break_at = first_break pages; pages = length pages + 64; live = true ∷ [] } =
    c.new-env.ensures ∙ (λ i. record { input = c.in_ok-input.ensures i; output = []; break_at = (c.first_break.ensures ∙ ap first_break same) i; pages = length (same i) + 64; live = true ∷ [] }) in
    let memory : c.in_ok-memory.memory ≡ unreserved (from_entries (opening_pages pages)) = c.in_ok-memory.ensures ∙ ap (λ l. unreserved (from_entries (opening_pages l))) same in
    (λ i. record { harts = harts i; environment = environment i; memory = memory i; ending = None })
