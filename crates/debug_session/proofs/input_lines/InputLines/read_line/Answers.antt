use Rattle.std.proofs.Common.{◌≡◌, ◌∷◌, ◌++◌, [], None, Some, arith, false, rules, subst, sym}
use Rattle.std.proofs.lemmas.Grind.{common_steps}
use Rattle.std.specs.Io.KnownBytes.{Consumes}
use Rattle.text_lines.specs.Text.{is_line_end}
use Rattle.debug_session.specs.InputLines.{GivesByte, known_bytes}
use Rattle.debug_session.proofs.TakenLines.{Unended, grown, longer, none_left, taken, too_long}
use Rattle.debug_session.proofs.input_lines.InputLines.read_line.Goals as goal

pub returns-in-None-clause-taken : goal.returns-in-None-clause-taken
returns-in-None-clause-taken g c =
    let gives : GivesByte (known_bytes g.I.Read.remaining c.bytes.self) None (known_bytes g.I.Read.remaining c.next_byte.new.self) = search rules in
    none_left _ _ _ c.bytes.line.items c.is_empty.result c.bytes.invariant.unended c.bytes.invariant.read gives.0 gives.1
    (λ e. grind (arith, common_steps, c.bytes.line.ok.0)) (λ e. grind (arith, common_steps, c.bytes.line.ok.0))

pub returns-in-Some-eq10-clause-taken : goal.returns-in-Some-eq10-clause-taken
returns-in-Some-eq10-clause-taken g c =
    let gives : GivesByte (known_bytes g.I.Read.remaining c.bytes.self) (Some 10) (known_bytes g.I.Read.remaining c.next_byte.new.self) = search rules in
    taken _ _ _ c.bytes.line.items c.bytes.invariant.unended c.bytes.invariant.read gives

pub bytes-preserved : goal.bytes-preserved
bytes-preserved g c =
    let gives : GivesByte (known_bytes g.I.Read.remaining c.bytes.self) (Some c.in-Some.byte) (known_bytes g.I.Read.remaining c.next_byte.new.self) = search rules in
    let pushed : c.push.new.self.items ≡ c.bytes.line.items ++ c.in-Some.byte ∷ [] = search rules in
    let inside : is_line_end c.in-Some.byte ≡ false = search rules in
    record {
      read = subst (Consumes (known_bytes g.I.Read.remaining c.args.self.now) (known_bytes g.I.Read.remaining c.next_byte.new.self)) (sym pushed)
          (grown _ _ _ c.bytes.line.items c.in-Some.byte c.bytes.invariant.read gives);
      unended = subst Unended (sym pushed) (longer c.bytes.line.items c.in-Some.byte c.bytes.invariant.unended inside);
      short = grind (arith, common_steps, c.bytes.line.ok.0);
    }

pub returns-clause-too_long : goal.returns-clause-too_long
returns-clause-too_long g c = λ _.
    too_long _ _ c.bytes.line.items c.bytes.invariant.unended c.bytes.invariant.read (grind (arith, common_steps, c.bytes.line.ok.0))
