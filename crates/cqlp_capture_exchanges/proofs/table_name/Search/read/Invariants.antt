use Rattle.std.proofs.Common.{◌≡◌, drop}
use Rattle.cqlp_capture_exchanges.specs.TableNames.{read_from}
use Rattle.cqlp_capture_exchanges.proofs.table_name.Search.read.Given as goal

abbrev pub invariant-loop-byte : goal.invariant-loop-byte
invariant-loop-byte l = read_from (drop l.byte-index l.fingerprint) l.self ≡ read_from l.fingerprint l.fn.self
