use Rattle.std.proofs.Common.{◌≡◌, ◌≤◌, ◌++◌, length, drop}
use Rattle.page_store.specs.Reading.{some_from}
use Rattle.page_store.proofs.reading.read_bytes.Given as goal

-- the bytes so far are read, and the others as before
abbrev pub invariant-bytes : goal.invariant-bytes
invariant-bytes l = record {
  here : l.bytes ≡ some_from l.page l.offset l.i ++ drop l.i l.fn.bytes;
  size : length l.bytes ≡ length l.fn.bytes;
  within : l.i ≤ length l.fn.bytes;
}
