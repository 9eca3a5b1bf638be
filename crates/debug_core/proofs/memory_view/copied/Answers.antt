use Rattle.std.proofs.Common.{◌+◌, ◌≤◌, Some, length, map, ◌∙◌, sym, subst, ap, arith}
use Rattle.std.proofs.lemmas.List.{length_push}
use Rattle.debug_core.proofs.ReadingLaws.{copied_more, there_more}
use Rattle.debug_core.proofs.memory_view.copied.Goals as goal

pub bytes-preserved : goal.bytes-preserved
bytes-preserved c = record {
  here = ap (map Some) c.push_reserved.ensures.items ∙ copied_more c.args.bytes.now c.bytes.i c.bytes.copy.items c.unwrap_or.result c.bytes-test.true c.bytes.invariant.here c.bytes.invariant.rest c.unwrap_or.ensures;
  size = ap length c.push_reserved.ensures.items ∙ length_push c.bytes.copy.items c.unwrap_or.result ∙ ap (λ n. n + 1) c.bytes.invariant.size;
  rest = there_more c.args.bytes.now c.bytes.i c.bytes-test.true c.bytes.invariant.rest;
  within = omega (arith, c.bytes-test.true);
  room = subst (λ n. length c.args.bytes.now ≤ n) (sym c.push_reserved.ensures.capacity) c.bytes.invariant.room;
}
