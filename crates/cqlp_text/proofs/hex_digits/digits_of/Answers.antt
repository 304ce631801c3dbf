use Rattle.std.proofs.Common.{◌≡◌, ◌∙◌, ◌+◌, ◌*◌, ◌<◌, ◌≤◌, ◌%◌, ℕ, length, ap, arith, rules, slice_index, slice_set}
use Rattle.std.proofs.lemmas.List.{length-set}
use Rattle.std.proofs.lemmas.Nat.{and_mask}
use Rattle.hex.specs.Hex.{lower_digits}
use Rattle.hex.proofs.Pairs.{encode_step, encode_done}
use Rattle.cqlp_text.proofs.hex_digits.digits_of.Goals as goal

pub loop-at-preserved : goal.loop-at-preserved
loop-at-preserved c =
    let block = c.args.block.now in
    let digits = c.loop-at.digits in
    let at = c.loop-at.at in
    let room : length digits ≡ 128 = c.loop-at.invariant.1 in
    let before : at < 64 = search rules in
    let inside : at < length block = search rules in
    let fits : 2 * at + 1 < length digits = omega (arith, before, room) in
    let low : c.digit_of-in-loop-at.result ≡ slice_index lower_digits (slice_index block at % 16) =
    c.digit_of-in-loop-at.ensures ∙ ap (λ (k : ℕ). slice_index lower_digits k) (and_mask (slice_index block at) 4) in
    let long = length-set (slice_set digits (2 * at) c.digit_of.result) (2 * at + 1) c.digit_of-in-loop-at.result ∙ length-set digits (2 * at) c.digit_of.result ∙ room in
    (encode_step lower_digits block digits at _ _ inside fits c.digit_of.ensures low c.loop-at.invariant.0, long)

pub returns : goal.returns
returns c =
    let all : length c.args.block.now ≡ 64 = search rules in
    let over : length c.args.block.now ≤ c.loop-at.at = omega (arith, all, c.loop-at-test.false) in
    let room : length c.loop-at.digits ≡ 2 * length c.args.block.now = omega (arith, all, c.loop-at.invariant.1) in
    encode_done lower_digits c.args.block.now c.loop-at.digits c.loop-at.at over room c.loop-at.invariant.0
