use Rattle.std.proofs.Common.{rules, ◌-◌, ◌^◌, true, false, []}
use Rattle.std.proofs.Output.{has_written_of_eq}
use Rattle.std.proofs.lemmas.Fmt.{hex_byte}
use Rattle.std.specs.Fmt.{digits, format_spec, padded_integral}
use Rattle.debug_session.specs.ReplyText.{byte_text}
use Rattle.debug_session.proofs.hexadecimal.HexByteDisplay.fmt.Goals as goal

pub returns-clause-writes : goal.returns-clause-writes
unfolding byte_text
returns-clause-writes g c = λ plain ok.
    has_written_of_eq _ _ (padded_integral (format_spec 32 0 4 2 (2 ^ 64 - 1)) false [] (digits 16 true c.args.self.now.0)) _ _
    (hex_byte true c.args.self.now.0 (search rules)) (search rules)
