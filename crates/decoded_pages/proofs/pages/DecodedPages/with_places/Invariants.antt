use Rattle.std.proofs.Common.{◌≡◌, ◌≤◌, length, All}
use Rattle.std.specs.Prelude.{vec_capacity, IfSome}
use Rattle.page_memory.specs.Memory.{Memory}
use Rattle.decoded_pages.specs.Code.{Shows}
use Rattle.decoded_pages.proofs.pages.DecodedPages.with_places.Given as goal

abbrev pub invariant-loop : goal.invariant-loop
invariant-loop l = record {
  count : length l.pages.items ≡ l.counter;
  room : l.fn.count ≤ vec_capacity l.pages;
  shows : (memory : Memory) → All (λ slot. IfSome slot (λ page. Shows page memory)) l.pages.items;
}
