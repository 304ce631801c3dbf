use Rattle.std.proofs.Common.{◌≡◌, SFits, of_z, rules, to_z}
use Rattle.std.proofs.Math.Facts.{to_z-of_z}
use Rattle.std.specs.Int.{w16}
use Rattle.cqlp_note.proofs.Written.{written_is_read}
use Rattle.cqlp_note.proofs.header.Header.write.Goals as goal

pub returns-clause-reads : goal.returns-clause-reads
returns-clause-reads c =
    let h = c.args.self.now in
    let fits : SFits w16 h.stream = search rules in
    let same : to_z w16 (of_z w16 h.stream) ≡ h.stream = to_z-of_z {w = w16} fits in
    rw (c.version.ensures, c.to_be_bytes.ensures, c.number.ensures, c.to_be_bytes-2.ensures, same) (written_is_read h c.requires fits)
