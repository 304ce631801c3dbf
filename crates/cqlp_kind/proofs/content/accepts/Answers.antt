use Rattle.cqlp_kind.proofs.Texts.{ascii_decided, timeuuid_decided, others_accepted}
use Rattle.cqlp_kind.proofs.content.accepts.Goals as goal

pub returns-in-Ascii : goal.returns-in-Ascii
returns-in-Ascii c = rw c.in-Ascii.is (ascii_decided _ _ c.is_ascii.ensures.cases)

pub returns-in-Timeuuid : goal.returns-in-Timeuuid
returns-in-Timeuuid c = rw c.in-Timeuuid.is (timeuuid_decided c.args.bytes.now)

pub returns-in_default : goal.returns-in_default
returns-in_default c =
    let other = c.in_default in
    others_accepted c.args.kind c.args.bytes.now c.requires.scalar other.not-Ascii other.not-Varchar other.not-Time other.not-Timeuuid
