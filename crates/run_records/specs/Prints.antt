-- The fingerprint of bytes.
use Rattle.std.specs.Prelude.{ℕ, List, length}
use Rattle.sha2.specs.Sha256.{sha256}
use Rattle.run_records.specs.declared.fingerprint.Fingerprint.{Fingerprint}

-- the digest of FIPS 180-4, and how many they are
abbrev pub print_of : List ℕ → Fingerprint
print_of bytes = record { digest = sha256 bytes; length = length bytes }
