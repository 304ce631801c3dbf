use Rattle.std.specs.Int.{w32, from_be_bytes}
use Rattle.std.proofs.Common.{take}
use Rattle.cqlp_note.proofs.Fronts.{natural_some}
use Rattle.cqlp_note.proofs.head.read_bytes.Goals as goal

pub returns-in-Some : goal.returns-in-Some
returns-in-Some c =
    let natural = natural_some (from_be_bytes w32 (take 4 c.args.bytes.now)) c.in-Some.len c.in-Some.ensures in
    rw (natural.0, natural.1) (c.admit_content.ensures _)
