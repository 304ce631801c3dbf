use Rattle.std.proofs.Common.{◌∙◌, sym, arith}
use Rattle.cqlp_message.specs.Owned.{frame_of}
use Rattle.cqlp_encode.proofs.Checking.{appended, filled, none_if_some, same_room}
use Rattle.cqlp_encode.proofs.appending.extend.Goals as goal

pub returns : goal.returns
returns c =
    let f = frame_of c.args.frame.now in
    let directed = sym c.is_directed.ensures ∙ c.if-not-is_directed.false in
    let agrees = sym c.agrees.ensures ∙ c.if-not-agrees.false in
    let cells = sym c.has_its_cells.ensures ∙ c.if-not-has_its_cells.false in
    let whole = rw c.behind-target.ensures at c.write_checked-len.ensures in
    rw (← c.replace.ensures.value) (record {
      extends = record {
        bytes = whole.bytes;
        given = c.into_bytes.ensures.items ∙ appended _ _ c.replace.result.items _ whole.bytes whole.given;
        fit = whole.fit;
        none = none_if_some f _ directed agrees cells whole.fit;
        whole = whole.whole;
        full = filled f _ _ _ _ whole.bytes _ _ whole.given whole.failed c.into_bytes.ensures.full;
      };
      capacity = omega (arith, c.into_bytes.ensures.capacity, same_room _ _ _ _ whole.given);
    })
