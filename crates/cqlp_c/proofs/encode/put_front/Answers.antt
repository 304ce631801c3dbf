use Rattle.std.proofs.Common.{[], refl, length, arith}
use Rattle.cqlp_c.proofs.Written.{more_conform, none_conform, put_conform}
use Rattle.cqlp_c.proofs.encode.put_front.Goals as goal

pub returns : goal.returns
returns c =
    let room = c.args.room.now in
    let bytes = c.args.bytes.now in
    put_conform room bytes c.put.new.room (length bytes) (omega (arith, c.if-room-bytes.false)) refl
    (more_conform room [] room c.put.new.room bytes 0 c.put.result (none_conform room) refl c.put.ensures.behind c.put.ensures.first c.put.ensures.others)
