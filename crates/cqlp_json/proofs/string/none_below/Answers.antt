use Rattle.std.proofs.Common.{nat_lt, eqb-true, sym, ◌∙◌, arith, w8, ltb}
use Rattle.std.proofs.lemmas.Simd.{bitmask_splat}
use Rattle.cqlp_text.proofs.Blocks.{none_in_mask}
use Rattle.cqlp_json.proofs.string.none_below.Goals as goal

pub returns : goal.returns
returns c = λ yes k within.
    none_in_mask (λ x. nat_lt x c.args.byte) c.args.block (sym (bitmask_splat w8 ltb c.args.block 16 c.args.byte c.fits-block.0 (omega arith)) ∙ eqb-true _ _ yes) k (omega (arith, c.fits-block.0))
