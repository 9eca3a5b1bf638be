use Rattle.std.specs.Prelude.{◌<◌, ◌∷◌, [], ◌++◌, List, length, take}
use Rattle.std.proofs.Common.{arith, sym, ap, ◌∙◌, append_assoc}
use Rattle.clock_policy.specs.declared.entry.Entry.{Entry}
use Rattle.page_ring.specs.Index.{entries_of}
use Rattle.clock_ring.proofs.CountedLaws.{entries_length}
use Rattle.clock_ring.proofs.ScanLaws.{walk_goes_on}
use Rattle.clock_ring.proofs.body.Body.copy_entries.Goals as goal

pub returns-in_err-reserve-clause-room : goal.returns-in_err-reserve-clause-room
returns-in_err-reserve-clause-room c = λ room. let never = c.in_err-reserve.ensures.succeeds (omega (arith, room, entries_length c.args.self.now.ring.cells, c.len-len.ensures.len)) in cc

pub loop-copied-preserved : goal.loop-copied-preserved
loop-copied-preserved c =
    let cells = c.args.self.now.ring.cells in
    let within : c.loop-copied._copied < length cells = omega (arith, c.len-len.ensures.len) in
    let step = walk_goes_on cells c.loop-copied.at c.loop-copied._copied c.node-node.result c.len-len.ensures.apart c.loop-copied.invariant.rests c.loop-copied.invariant.here within c.node-node.ensures in
    record {
      rests = step.rests;
      here = step.around;
      items =
          c.push_reserved.ensures.items
          ∙ ap (λ (l : List Entry). l ++ c.node-node.result.entry ∷ []) c.loop-copied.invariant.items
          ∙ append_assoc c.reserve.new.self.items (entries_of (take c.loop-copied._copied cells)) (c.node-node.result.entry ∷ [])
          ∙ ap (λ (l : List Entry). c.reserve.new.self.items ++ l) (sym step.items);
      len = omega (arith, c.push_reserved.ensures.len, c.loop-copied.invariant.len);
      room = omega (arith, c.push_reserved.ensures.capacity, c.loop-copied.invariant.room);
    }
