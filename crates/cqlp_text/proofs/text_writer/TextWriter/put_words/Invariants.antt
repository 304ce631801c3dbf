use Rattle.std.proofs.Common.{drop, map}
use Rattle.cqlp_text.specs.Lines.{spaced}
use Rattle.cqlp_text.specs.Words.{word_text}
use Rattle.cqlp_text.proofs.Writing.{Progress}
use Rattle.cqlp_text.proofs.text_writer.TextWriter.put_words.Given as goal

abbrev pub invariant-loop-word : goal.invariant-loop-word
invariant-loop-word g l = Progress l.fn.self (spaced (map word_text l.words)) (spaced (map word_text (drop l.word-index l.words))) l.self
