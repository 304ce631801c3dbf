use Rattle.cqlp_text.proofs.text_writer.TextWriter.put_event_words.Goals as goal

pub returns-in-Byte : goal.returns-in-Byte
returns-in-Byte g c = rw c.in-Byte.is (rw c.from.ensures at c.put_natural.ensures)

pub returns-in-Short : goal.returns-in-Short
returns-in-Short g c = rw c.in-Short.is (rw c.from-in-Short.ensures at c.put_natural-in-Short.ensures)
