use Rattle.std.proofs.Common.{length}
use Rattle.cqlp_note.specs.declared.prim.Address.TheVariants.{V6}
use Rattle.cqlp_text.specs.Text.{address_text}
use Rattle.cqlp_text.proofs.Texts.{colon_groups}
use Rattle.cqlp_text.proofs.Writing.{Progress}
use Rattle.cqlp_text.proofs.text_writer.TextWriter.put_groups.Given as goal

abbrev pub invariant-loop-rest : goal.invariant-loop-rest
invariant-loop-rest g l = Progress l.fn.self (address_text (V6 l.fn.bytes)) (colon_groups l.rest) l.self

abbrev pub decreases-loop-rest : goal.decreases-loop-rest
decreases-loop-rest g l = length l.rest
