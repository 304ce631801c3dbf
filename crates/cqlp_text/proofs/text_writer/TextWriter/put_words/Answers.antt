use Rattle.std.proofs.Common.{refl}
use Rattle.cqlp_text.proofs.Texts.{words_at}
use Rattle.cqlp_text.specs.declared.word.Word.TheVariants.{Digits}
use Rattle.cqlp_text.proofs.Writing.{progress_goes_on, progress_stops}
use Rattle.cqlp_text.proofs.text_writer.TextWriter.put_words.Goals as goal

pub returns-in_err-put : goal.returns-in_err-put
returns-in_err-put g c =
    progress_stops _ c.from_residual.result c.from_residual.ensures.0 c.loop-word.invariant (words_at c.args.words.now c.loop-word.word-index (Digits 0) c.loop-word-test.true) c.in_err-put.ensures

pub returns-in_err-put_word : goal.returns-in_err-put_word
returns-in_err-put_word g c =
    let space = progress_goes_on _ c.loop-word.invariant (words_at c.args.words.now c.loop-word.word-index _ c.loop-word-test.true) c.in_ok-put.ensures in
    progress_stops _ c.from_residual-in_err-put_word.result c.from_residual-in_err-put_word.ensures.0 space refl c.in_err-put_word.ensures

pub loop-word-preserved : goal.loop-word-preserved
loop-word-preserved g c =
    let space = progress_goes_on _ c.loop-word.invariant (words_at c.args.words.now c.loop-word.word-index _ c.loop-word-test.true) c.in_ok-put.ensures in
    progress_goes_on _ space refl c.in_ok-put_word.ensures
