use Rattle.std.proofs.Common.{◌≡◌, take, drop, rules}
use Rattle.cqlp_text.proofs.Texts.{hex_block}
use Rattle.cqlp_text.proofs.Writing.{progress_goes_on, progress_stops, progress_writes}
use Rattle.cqlp_text.proofs.text_writer.TextWriter.put_hex.Goals as goal

pub returns-in_err-put : goal.returns-in_err-put
returns-in_err-put g c =
    let front : c.in-Some.block.now ≡ take 64 c.loop-block.rest.now = search rules in
    let left : c.in-Some.behind.now ≡ drop 64 c.loop-block.rest.now = search rules in
    progress_stops _ c.from_residual.result c.from_residual.ensures.0 c.loop-block.invariant (hex_block _ _ _ _ c.digits_of.ensures front left) c.in_err-put.ensures

pub loop-block-preserved : goal.loop-block-preserved
loop-block-preserved g c =
    let front : c.in-Some.block.now ≡ take 64 c.loop-block.rest.now = search rules in
    let left : c.in-Some.behind.now ≡ drop 64 c.loop-block.rest.now = search rules in
    progress_goes_on _ c.loop-block.invariant (hex_block _ _ _ _ c.digits_of.ensures front left) c.in_ok-put.ensures

pub returns : goal.returns
returns g c = progress_writes _ c.put_few_as_hex.result c.loop-block.invariant c.put_few_as_hex.ensures
