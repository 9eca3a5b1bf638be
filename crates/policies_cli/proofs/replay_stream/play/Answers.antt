use Rattle.std.proofs.Common.{◌≡◌, ◌<◌, ◌≤◌, ◌-◌, ℕ, List, arith, length, min, subst}
use Rattle.std.proofs.lemmas.Grind.{common_steps}
use Rattle.guest_strings.specs.declared.reference.Reference.{Reference}
use Rattle.miss_counts.specs.Replayed.{RowsPlay}
use Rattle.trace_files.specs.ReferenceAnswers.{to_come}
use Rattle.trace_files.proofs.ManyTold.{empty_string}
use Rattle.policies_cli.proofs.Streaming.{ends_at, plays_end, plays_none, plays_on}
use Rattle.policies_cli.proofs.replay_stream.play.Goals as goal

no_more : (r a : ℕ) → r ≡ min a 16384 → r ≤ a
no_more r a h = omega (arith, h)

some_left : (r a c : ℕ) → r ≡ min (a - c) 16384 → c < a → 0 < r
some_left r a c h less = omega (arith, h, less)

pub turns-init : goal.turns-init
turns-init g c = record { played = plays_none (to_come g.B.Read.remaining c.args.trace.now) c.args.rows.now; few = omega arith; turns = omega arith }

pub turns-preserved : goal.turns-preserved
turns-preserved g c =
    let size : length c.fill.new.block.items ≡ c.len.result = grind (arith, common_steps, c.fill.new.block.ok.0, c.len.ensures) in
    let some : 0 < c.len.result = grind (arith, common_steps, c.len.ensures, c.is_empty.ensures, c.if-is_empty.false) in
    let most : c.min-left.result ≤ c.args.most - c.turns.count = no_more c.min-left.result (c.args.most - c.turns.count) c.min-left.ensures in
    let few : length c.fill.new.block.items ≤ c.min-left.result = c.fill.ensures.few in
    let bound : c.turns.count ≤ c.args.most = c.turns.invariant.few in
    let past : c.turns.counter ≤ c.turns.count = c.turns.invariant.turns in
    let plays : RowsPlay c.fill.new.block.items c.turns.rows c.play.new.self = subst (λ (l : List Reference). RowsPlay l c.turns.rows c.play.new.self) c.as_slice.ensures.value c.in_ok-play.ensures in record {
      played = plays_on c.fill.new.block.items (to_come g.B.Read.remaining c.args.trace.now) (to_come g.B.Read.remaining c.turns.trace) (to_come g.B.Read.remaining c.fill.new.self) c.args.rows.now c.turns.rows c.play.new.self
          c.turns.count c.len.result c.turns.invariant.played c.in_ok-fill.ensures.told size plays;
      few = omega (arith, size, few, most, bound);
      turns = omega (arith, past, some);
    }

pub returns-then-is_empty-clause-played : goal.returns-then-is_empty-clause-played
returns-then-is_empty-clause-played g c =
    let none : length c.fill.new.block.items ≡ 0 = grind (arith, common_steps, c.fill.new.block.ok.0) in
    plays_end c.fill.new.block.items (to_come g.B.Read.remaining c.args.trace.now) (to_come g.B.Read.remaining c.turns.trace) (to_come g.B.Read.remaining c.fill.new.self) c.args.rows.now c.turns.rows c.turns.count
    c.turns.invariant.played c.in_ok-fill.ensures.told (empty_string c.fill.new.block.items none)

pub returns-then-is_empty-clause-end : goal.returns-then-is_empty-clause-end
returns-then-is_empty-clause-end g c = λ less.
    let none : length c.fill.new.block.items ≡ 0 = grind (arith, common_steps, c.fill.new.block.ok.0) in
    let some : 0 < c.min-left.result = some_left c.min-left.result c.args.most c.turns.count c.min-left.ensures less in
    ends_at (to_come g.B.Read.remaining c.args.trace.now) (to_come g.B.Read.remaining c.turns.trace) (to_come g.B.Read.remaining c.fill.new.self) c.args.rows.now c.turns.rows c.turns.count c.turns.invariant.played
    (c.in_ok-fill.ensures.full (omega (arith, none, some)))

pub returns-clause-played : goal.returns-clause-played
returns-clause-played g c = c.turns.invariant.played
