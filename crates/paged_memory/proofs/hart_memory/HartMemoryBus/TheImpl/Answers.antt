use Rattle.std.proofs.Common.{[], length, refl, subst}
use Rattle.page_memory.specs.declared.words.Access.TheVariants.{Fetch, Load, Store}
use Rattle.page_memory.specs.Memory.{fetched, loaded, stored, replaced, loaded_reserved, stored_conditionally, copied_out, copied_in}
use Rattle.rv_exec.proofs.AccessLaws.{conditional_page, reserving_page}
use Rattle.rv_exec.specs.Amo.{amo_result}
use Rattle.rv_exec.specs.Answers.{with_answer}
use Rattle.rv_exec.specs.Bounds.{Bounds}
use Rattle.paged_memory.specs.access.HartMemory.{MarksWithin}
use Rattle.paged_memory.specs.Paged.{PagedValue, memory_of}
use Rattle.paged_memory.proofs.access_laws.BusLaws.{on_with, bus_answers, bus_bound, bus_bound_with, bus_leaves, bus_leaves_with, bus_leaves_written, bus_missed, bus_keeps, bus_keeps_written, bus_same, bus_refuses, bus_refuses_reserving}
use Rattle.paged_memory.proofs.access_laws.ToldLaws.{told_kept}
use Rattle.paged_memory.proofs.hart_memory.HartMemoryBus.TheImpl.Goals as goal

pub fetch-tells : goal.fetch-tells
fetch-tells g c =
    let old : PagedValue _ = c.args.self.now.memory.now in
    let new : PagedValue _ = c.new.self.now.memory.now in
    record {
      answer = bus_answers c.args.self.now.hart Fetch c.args.address c.result old new c.new.self.now.hart g.O.Opening.opening (fetched (memory_of g.S.SwapSlot.content old) c.args.address) c.result c.ensures.hart c.args.self.now.in_turn c.ensures.reads.accesses.uses.shown c.ensures.reads.accesses c.ensures.answer;
      same = bus_same c.args.self.now.hart Fetch c.args.address c.result old new g.S.SwapSlot.content c.ensures.reads;
      bound = bus_bound c.args.self.now.hart Fetch c.args.address c.result old new (fetched (memory_of g.S.SwapSlot.content old) c.args.address) c.ensures.reads.accesses c.ensures.answer;
      leaves = bus_leaves c.args.self.now.hart Fetch c.args.address c.result old new (fetched (memory_of g.S.SwapSlot.content old) c.args.address) _ (bus_missed c.args.self.now.hart Fetch c.args.address c.result old new c.new.self.now.hart c.ensures.hart c.ensures.reads.accesses) c.ensures.reads.accesses c.ensures.answer;
      kept = (c.ensures.hart, c.ensures.same_reference, told_kept c.args.self.now.hart g.O.Opening.opening old new (bus_keeps c.args.self.now.hart Fetch c.args.address c.result old new c.ensures.reads.accesses c.ensures.reads.pages));
    }

pub load-tells : goal.load-tells
load-tells g c =
    let old : PagedValue _ = c.args.self.now.memory.now in
    let new : PagedValue _ = c.new.self.now.memory.now in
    record {
      answer = bus_answers c.args.self.now.hart Load c.args.address c.result old new c.new.self.now.hart g.O.Opening.opening (loaded (memory_of g.S.SwapSlot.content old) c.args.width c.args.address) c.result c.ensures.hart c.args.self.now.in_turn c.ensures.reads.accesses.uses.shown c.ensures.reads.accesses c.ensures.answer;
      same = bus_same c.args.self.now.hart Load c.args.address c.result old new g.S.SwapSlot.content c.ensures.reads;
      bound = bus_bound c.args.self.now.hart Load c.args.address c.result old new (loaded (memory_of g.S.SwapSlot.content old) c.args.width c.args.address) c.ensures.reads.accesses c.ensures.answer;
      leaves = bus_leaves c.args.self.now.hart Load c.args.address c.result old new (loaded (memory_of g.S.SwapSlot.content old) c.args.width c.args.address) (Unit {0}) tt c.ensures.reads.accesses c.ensures.answer;
      kept = (c.ensures.hart, c.ensures.same_reference, told_kept c.args.self.now.hart g.O.Opening.opening old new (bus_keeps c.args.self.now.hart Load c.args.address c.result old new c.ensures.reads.accesses c.ensures.reads.pages));
    }

pub store-tells : goal.store-tells
store-tells g c =
    let old : PagedValue _ = c.args.self.now.memory.now in
    let new : PagedValue _ = c.new.self.now.memory.now in
    record {
      answer = bus_answers c.args.self.now.hart Store c.args.address c.result old new c.new.self.now.hart g.O.Opening.opening (stored (memory_of g.S.SwapSlot.content old) c.args.width c.args.address c.args.word) (with_answer (λ _. memory_of g.S.SwapSlot.content new) c.result) c.ensures.hart c.args.self.now.in_turn (on_with _ (λ _. memory_of g.S.SwapSlot.content new) c.result c.ensures.writes.accesses.uses.shown) c.ensures.writes.accesses c.ensures.answer;
      refused = bus_refuses c.args.self.now.hart Store c.args.address c.result old new g.S.SwapSlot.content c.ensures.writes;
      bound = bus_bound_with c.args.self.now.hart Store c.args.address c.result old new (stored (memory_of g.S.SwapSlot.content old) c.args.width c.args.address c.args.word) (λ _. memory_of g.S.SwapSlot.content new) c.ensures.writes.accesses c.ensures.answer;
      leaves = bus_leaves_written c.args.self.now.hart Store c.args.address c.result old new g.O.Opening.opening (stored (memory_of g.S.SwapSlot.content old) c.args.width c.args.address c.args.word) (λ _. memory_of g.S.SwapSlot.content new) refl c.args.self.now.in_turn c.ensures.writes c.ensures.answer;
      kept = (c.ensures.hart, c.ensures.same_reference, told_kept c.args.self.now.hart g.O.Opening.opening old new (bus_keeps_written c.args.self.now.hart Store c.args.address c.result old new c.ensures.writes));
    }

pub amo-tells : goal.amo-tells
amo-tells g c =
    let old : PagedValue _ = c.args.self.now.memory.now in
    let new : PagedValue _ = c.new.self.now.memory.now in
    record {
      answer = bus_answers c.args.self.now.hart Store c.args.address c.result old new c.new.self.now.hart g.O.Opening.opening (replaced (memory_of g.S.SwapSlot.content old) (λ old_word. amo_result c.args.operation old_word c.args.operand) c.args.address) (with_answer (λ old_word. (old_word, memory_of g.S.SwapSlot.content new)) c.result) c.ensures.hart c.args.self.now.in_turn (on_with _ (λ old_word. (old_word, memory_of g.S.SwapSlot.content new)) c.result c.ensures.writes.accesses.uses.shown) c.ensures.writes.accesses c.ensures.answer;
      refused = bus_refuses c.args.self.now.hart Store c.args.address c.result old new g.S.SwapSlot.content c.ensures.writes;
      bound = bus_bound_with c.args.self.now.hart Store c.args.address c.result old new (replaced (memory_of g.S.SwapSlot.content old) (λ old_word. amo_result c.args.operation old_word c.args.operand) c.args.address) (λ old_word. (old_word, memory_of g.S.SwapSlot.content new)) c.ensures.writes.accesses c.ensures.answer;
      leaves = bus_leaves_written c.args.self.now.hart Store c.args.address c.result old new g.O.Opening.opening (replaced (memory_of g.S.SwapSlot.content old) (λ old_word. amo_result c.args.operation old_word c.args.operand) c.args.address) (λ old_word. (old_word, memory_of g.S.SwapSlot.content new)) refl c.args.self.now.in_turn c.ensures.writes c.ensures.answer;
      kept = (c.ensures.hart, c.ensures.same_reference, told_kept c.args.self.now.hart g.O.Opening.opening old new (bus_keeps_written c.args.self.now.hart Store c.args.address c.result old new c.ensures.writes));
    }

pub load_reserved-tells : goal.load_reserved-tells
load_reserved-tells g c =
    let old : PagedValue _ = c.args.self.now.memory.now in
    let new : PagedValue _ = c.new.self.now.memory.now in
    record {
      answer = bus_answers c.args.self.now.hart Load c.args.address c.result old new c.new.self.now.hart g.O.Opening.opening (loaded_reserved (memory_of g.S.SwapSlot.content old) c.args.hart c.args.address) (with_answer (λ word. (word, memory_of g.S.SwapSlot.content new)) c.result) c.ensures.hart c.args.self.now.in_turn (on_with _ (λ word. (word, memory_of g.S.SwapSlot.content new)) c.result c.ensures.reserves.accesses.uses.shown) c.ensures.reserves.accesses c.ensures.answer;
      refused = bus_refuses_reserving c.args.self.now.hart Load c.args.address c.result old new g.S.SwapSlot.content c.ensures.reserves;
      bound = subst (λ pages. Bounds (MarksWithin old.tables) (MarksWithin new.tables) pages []) (reserving_page (memory_of g.S.SwapSlot.content old) c.args.hart c.args.address) (bus_bound_with c.args.self.now.hart Load c.args.address c.result old new (loaded_reserved (memory_of g.S.SwapSlot.content old) c.args.hart c.args.address) (λ word. (word, memory_of g.S.SwapSlot.content new)) c.ensures.reserves.accesses c.ensures.answer);
      leaves = bus_leaves_with c.args.self.now.hart Load c.args.address c.result old new (loaded_reserved (memory_of g.S.SwapSlot.content old) c.args.hart c.args.address) (λ word. (word, memory_of g.S.SwapSlot.content new)) c.ensures.reserves.accesses c.ensures.answer;
      kept = (c.ensures.hart, c.ensures.same_reference, told_kept c.args.self.now.hart g.O.Opening.opening old new (bus_keeps c.args.self.now.hart Load c.args.address c.result old new c.ensures.reserves.accesses c.ensures.reserves.pages));
    }

pub store_conditional-tells : goal.store_conditional-tells
store_conditional-tells g c =
    let old : PagedValue _ = c.args.self.now.memory.now in
    let new : PagedValue _ = c.new.self.now.memory.now in
    record {
      answer = bus_answers c.args.self.now.hart Store c.args.address c.result old new c.new.self.now.hart g.O.Opening.opening (stored_conditionally (memory_of g.S.SwapSlot.content old) c.args.hart c.args.address c.args.word) (with_answer (λ is_stored. (is_stored, memory_of g.S.SwapSlot.content new)) c.result) c.ensures.hart c.args.self.now.in_turn (on_with _ (λ is_stored. (is_stored, memory_of g.S.SwapSlot.content new)) c.result c.ensures.writes.accesses.uses.shown) c.ensures.writes.accesses c.ensures.answer;
      refused = bus_refuses c.args.self.now.hart Store c.args.address c.result old new g.S.SwapSlot.content c.ensures.writes;
      bound = subst (λ pages. Bounds (MarksWithin old.tables) (MarksWithin new.tables) pages pages) (conditional_page (memory_of g.S.SwapSlot.content old) c.args.hart c.args.address c.args.word)
          (bus_bound_with c.args.self.now.hart Store c.args.address c.result old new (stored_conditionally (memory_of g.S.SwapSlot.content old) c.args.hart c.args.address c.args.word) (λ is_stored. (is_stored, memory_of g.S.SwapSlot.content new)) c.ensures.writes.accesses c.ensures.answer);
      leaves = bus_leaves_written c.args.self.now.hart Store c.args.address c.result old new g.O.Opening.opening (stored_conditionally (memory_of g.S.SwapSlot.content old) c.args.hart c.args.address c.args.word) (λ is_stored. (is_stored, memory_of g.S.SwapSlot.content new)) refl c.args.self.now.in_turn c.ensures.writes c.ensures.answer;
      kept = (c.ensures.hart, c.ensures.same_reference, told_kept c.args.self.now.hart g.O.Opening.opening old new (bus_keeps_written c.args.self.now.hart Store c.args.address c.result old new c.ensures.writes));
    }

pub copy_out-tells : goal.copy_out-tells
copy_out-tells g c =
    let old : PagedValue _ = c.args.self.now.memory.now in
    let new : PagedValue _ = c.new.self.now.memory.now in
    record {
      answer = bus_answers c.args.self.now.hart Load c.args.address c.result old new c.new.self.now.hart g.O.Opening.opening (copied_out (memory_of g.S.SwapSlot.content old) c.args.address (length c.args.to.now)) (with_answer (λ _. c.new.to.now) c.result) c.ensures.hart c.args.self.now.in_turn (on_with _ (λ _. c.new.to.now) c.result c.ensures.reads.accesses.uses.shown) c.ensures.reads.accesses c.ensures.answer;
      same = bus_same c.args.self.now.hart Load c.args.address c.result old new g.S.SwapSlot.content c.ensures.reads;
      refused = c.ensures.refused;
      bound = bus_bound_with c.args.self.now.hart Load c.args.address c.result old new (copied_out (memory_of g.S.SwapSlot.content old) c.args.address (length c.args.to.now)) (λ _. c.new.to.now) c.ensures.reads.accesses c.ensures.answer;
      leaves = bus_leaves_with c.args.self.now.hart Load c.args.address c.result old new (copied_out (memory_of g.S.SwapSlot.content old) c.args.address (length c.args.to.now)) (λ _. c.new.to.now) c.ensures.reads.accesses c.ensures.answer;
      kept = (c.ensures.hart, c.ensures.same_reference, told_kept c.args.self.now.hart g.O.Opening.opening old new (bus_keeps c.args.self.now.hart Load c.args.address c.result old new c.ensures.reads.accesses c.ensures.reads.pages));
    }

pub copy_in-tells : goal.copy_in-tells
copy_in-tells g c =
    let old : PagedValue _ = c.args.self.now.memory.now in
    let new : PagedValue _ = c.new.self.now.memory.now in
    record {
      answer = bus_answers c.args.self.now.hart Store c.args.address c.result old new c.new.self.now.hart g.O.Opening.opening (copied_in (memory_of g.S.SwapSlot.content old) c.args.address c.args.from.now) (with_answer (λ _. memory_of g.S.SwapSlot.content new) c.result) c.ensures.hart c.args.self.now.in_turn (on_with _ (λ _. memory_of g.S.SwapSlot.content new) c.result c.ensures.writes.accesses.uses.shown) c.ensures.writes.accesses c.ensures.answer;
      refused = bus_refuses c.args.self.now.hart Store c.args.address c.result old new g.S.SwapSlot.content c.ensures.writes;
      bound = bus_bound_with c.args.self.now.hart Store c.args.address c.result old new (copied_in (memory_of g.S.SwapSlot.content old) c.args.address c.args.from.now) (λ _. memory_of g.S.SwapSlot.content new) c.ensures.writes.accesses c.ensures.answer;
      leaves = bus_leaves_written c.args.self.now.hart Store c.args.address c.result old new g.O.Opening.opening (copied_in (memory_of g.S.SwapSlot.content old) c.args.address c.args.from.now) (λ _. memory_of g.S.SwapSlot.content new) refl c.args.self.now.in_turn c.ensures.writes c.ensures.answer;
      kept = (c.ensures.hart, c.ensures.same_reference, told_kept c.args.self.now.hart g.O.Opening.opening old new (bus_keeps_written c.args.self.now.hart Store c.args.address c.result old new c.ensures.writes));
    }
