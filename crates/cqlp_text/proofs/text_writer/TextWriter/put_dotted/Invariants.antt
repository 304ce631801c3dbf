use Rattle.std.proofs.Common.{length}
use Rattle.cqlp_note.specs.declared.prim.Address.TheVariants.{V4}
use Rattle.cqlp_text.specs.Text.{address_text}
use Rattle.cqlp_text.proofs.Texts.{dotted}
use Rattle.cqlp_text.proofs.Writing.{Progress}
use Rattle.cqlp_text.proofs.text_writer.TextWriter.put_dotted.Given as goal

abbrev pub invariant-loop-rest : goal.invariant-loop-rest
invariant-loop-rest g l = Progress l.fn.self (address_text (V4 l.fn.bytes)) (dotted l.rest) l.self

abbrev pub decreases-loop-rest : goal.decreases-loop-rest
decreases-loop-rest g l = length l.rest
