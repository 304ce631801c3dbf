use Rattle.std.proofs.Common.{◌++◌, map, codes, refl, sym, ap}
use Rattle.cqlp_text.specs.Lines.{spaced}
use Rattle.cqlp_text.specs.Words.{word_text}
use Rattle.cqlp_text.proofs.Writing.{progress_starts, progress_goes_on, progress_stops, progress_writes}
use Rattle.cqlp_text.proofs.ending.TextWriter+LinePen+W.put_line.Goals as goal

pub returns-in_err-put-clause-line : goal.returns-in_err-put-clause-line
returns-in_err-put-clause-line g c =
    let text = ap (λ t. t ++ (spaced (map word_text c.args.words.now) ++ codes "\n")) (sym c.as_bytes.ensures.value) in
    progress_stops _ c.from_residual.result c.from_residual.ensures.0 (progress_starts _ _) text c.in_err-put.ensures

pub returns-in_err-put_words-clause-line : goal.returns-in_err-put_words-clause-line
returns-in_err-put_words-clause-line g c =
    let text = ap (λ t. t ++ (spaced (map word_text c.args.words.now) ++ codes "\n")) (sym c.as_bytes.ensures.value) in
    let first = progress_goes_on _ (progress_starts _ _) text c.in_ok-put.ensures in
    progress_stops _ c.from_residual-in_err-put_words.result c.from_residual-in_err-put_words.ensures.0 first refl c.in_err-put_words.ensures

pub returns-in_err-put-2-clause-line : goal.returns-in_err-put-2-clause-line
returns-in_err-put-2-clause-line g c =
    let text = ap (λ t. t ++ (spaced (map word_text c.args.words.now) ++ codes "\n")) (sym c.as_bytes.ensures.value) in
    let first = progress_goes_on _ (progress_starts _ _) text c.in_ok-put.ensures in
    let words = progress_goes_on _ first refl c.in_ok-put_words.ensures in
    progress_stops _ c.from_residual-in_err-put-2.result c.from_residual-in_err-put-2.ensures.0 words refl c.in_err-put-2.ensures

pub returns-clause-line : goal.returns-clause-line
returns-clause-line g c =
    let text = ap (λ t. t ++ (spaced (map word_text c.args.words.now) ++ codes "\n")) (sym c.as_bytes.ensures.value) in
    let first = progress_goes_on _ (progress_starts _ _) text c.in_ok-put.ensures in
    let words = progress_goes_on _ first refl c.in_ok-put_words.ensures in
    let end = progress_goes_on _ words refl c.in_ok-put-2.ensures in
    progress_writes _ c.flush.result end c.flush.ensures.writes
