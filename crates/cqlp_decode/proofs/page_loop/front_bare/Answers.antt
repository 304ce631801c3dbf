use Rattle.std.proofs.Common.{List, ℕ, ap, ◌∙◌, arith}
use Rattle.std.specs.Int.{w32, from_be_bytes}
use Rattle.cqlp_decode.proofs.PageLoop.{says_null, says_empty}
use Rattle.cqlp_decode.proofs.page_loop.front_bare.Goals as goal

pub returns-then-len : goal.returns-then-len
returns-then-len c = λ l k.
    says_null l k c.args.room c.from_be_bytes-len.result c.args.input.now (c.from_be_bytes-len.ensures ∙ ap (λ (b : List ℕ). from_be_bytes w32 b) c.read_array.ensures) (omega (arith, c.if-room-lt4.false)) (omega (arith, c.if-input-lt4.false)) (omega (arith, c.if-len.true))

pub returns-then-len-eq0 : goal.returns-then-len-eq0
returns-then-len-eq0 c = λ l k.
    says_empty l k c.args.room c.from_be_bytes-len.result c.args.input.now (c.from_be_bytes-len.ensures ∙ ap (λ (b : List ℕ). from_be_bytes w32 b) c.read_array.ensures) (omega (arith, c.if-room-lt4.false)) (omega (arith, c.if-input-lt4.false)) c.if-len-eq0.true
