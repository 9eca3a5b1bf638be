use Rattle.std.proofs.Common.{◌≡◌, ◌≤◌, length}
use Rattle.std.specs.Prelude.{vec_capacity}
use Rattle.decoded_pages.proofs.Listing.{StandBelow}
use Rattle.decoded_pages.proofs.page.DecodedPage.of_bytes.Given as goal

abbrev pub invariant-loop-place : goal.invariant-loop-place
invariant-loop-place l = record {
  count : length l.instructions.items ≡ l.place;
  room : 1025 ≤ vec_capacity l.instructions;
  stand : StandBelow l.place l.fn.start l.fn.bytes l.instructions.items;
}
