use Rattle.std.proofs.Common.{◌==◌, eqb, eqb-true, sym, ◌∙◌, arith, w8}
use Rattle.std.proofs.lemmas.Simd.{bitmask_splat}
use Rattle.cqlp_text.proofs.Blocks.{none_in_mask}
use Rattle.cqlp_row_text.proofs.quotes.lacks.Goals as goal

pub returns : goal.returns
returns c = λ yes k within.
    none_in_mask (λ x. x == c.args.byte) c.args.block (sym (bitmask_splat w8 eqb c.args.block 16 c.args.byte c.fits-block.0 (omega arith)) ∙ eqb-true _ _ yes) k (omega (arith, c.fits-block.0))
