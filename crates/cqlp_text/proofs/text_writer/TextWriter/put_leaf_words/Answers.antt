use Rattle.std.proofs.Common.{refl, codes, decimal, ◌∷◌, []}
use Rattle.cqlp_text.proofs.Texts.{place_words}
use Rattle.cqlp_kind.specs.Contents.{value_of}
use Rattle.cqlp_text.specs.CellText.{cell_text}
use Rattle.cqlp_text.proofs.Writing.{progress_starts, progress_goes_on, progress_stops, progress_last}
use Rattle.cqlp_text.proofs.text_writer.TextWriter.put_leaf_words.Goals as goal

pub returns-in_err-put_place : goal.returns-in_err-put_place
returns-in_err-put_place g c =
    progress_stops _ c.from_residual.result c.from_residual.ensures.0 (progress_starts _ _) (place_words (codes " Leaf ") (decimal c.args.row) (decimal c.args.column) (decimal c.args.level) (cell_text (value_of c.args.scalar.now) ∷ [])) c.in_err-put_place.ensures

pub returns-in_err-put : goal.returns-in_err-put
returns-in_err-put g c =
    let s1 = progress_goes_on _ (progress_starts _ _) (place_words (codes " Leaf ") (decimal c.args.row) (decimal c.args.column) (decimal c.args.level) (cell_text (value_of c.args.scalar.now) ∷ [])) c.in_ok-put_place.ensures in
    progress_stops _ c.from_residual-in_err-put.result c.from_residual-in_err-put.ensures.0 s1 refl c.in_err-put.ensures

pub returns : goal.returns
returns g c =
    let s1 = progress_goes_on _ (progress_starts _ _) (place_words (codes " Leaf ") (decimal c.args.row) (decimal c.args.column) (decimal c.args.level) (cell_text (value_of c.args.scalar.now) ∷ [])) c.in_ok-put_place.ensures in
    let s2 = progress_goes_on _ s1 refl c.in_ok-put.ensures in
    progress_last _ _ c.put_cell.result s2 refl c.put_cell.ensures
