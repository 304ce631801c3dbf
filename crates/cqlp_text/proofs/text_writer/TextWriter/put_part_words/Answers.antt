use Rattle.std.proofs.Common.{refl, codes, decimal, ◌∷◌, []}
use Rattle.cqlp_text.proofs.Texts.{place_words}
use Rattle.cqlp_text.specs.Lines.{part_place}
use Rattle.cqlp_text.specs.Text.{hex_text}
use Rattle.cqlp_text.proofs.Writing.{progress_starts, progress_goes_on, progress_stops, progress_last}
use Rattle.cqlp_text.proofs.text_writer.TextWriter.put_part_words.Goals as goal

pub returns-in_err-put_place : goal.returns-in_err-put_place
returns-in_err-put_place g c =
    progress_stops _ c.from_residual.result c.from_residual.ensures.0 (progress_starts _ _) (place_words (codes " Part ") (decimal c.args.row) (decimal c.args.column) (decimal c.args.level) (decimal c.args.offset ∷ part_place c.args.last ∷ hex_text c.args.bytes.now ∷ [])) c.in_err-put_place.ensures

pub returns-in_err-put : goal.returns-in_err-put
returns-in_err-put g c =
    let s1 = progress_goes_on _ (progress_starts _ _) (place_words (codes " Part ") (decimal c.args.row) (decimal c.args.column) (decimal c.args.level) (decimal c.args.offset ∷ part_place c.args.last ∷ hex_text c.args.bytes.now ∷ [])) c.in_ok-put_place.ensures in
    progress_stops _ c.from_residual-in_err-put.result c.from_residual-in_err-put.ensures.0 s1 refl c.in_err-put.ensures

pub returns-in_err-put_count : goal.returns-in_err-put_count
returns-in_err-put_count g c =
    let s1 = progress_goes_on _ (progress_starts _ _) (place_words (codes " Part ") (decimal c.args.row) (decimal c.args.column) (decimal c.args.level) (decimal c.args.offset ∷ part_place c.args.last ∷ hex_text c.args.bytes.now ∷ [])) c.in_ok-put_place.ensures in
    let s2 = progress_goes_on _ s1 refl c.in_ok-put.ensures in
    progress_stops _ c.from_residual-in_err-put_count.result c.from_residual-in_err-put_count.ensures.0 s2 refl c.in_err-put_count.ensures

pub returns-in_err-put-2 : goal.returns-in_err-put-2
returns-in_err-put-2 g c =
    let s1 = progress_goes_on _ (progress_starts _ _) (place_words (codes " Part ") (decimal c.args.row) (decimal c.args.column) (decimal c.args.level) (decimal c.args.offset ∷ part_place c.args.last ∷ hex_text c.args.bytes.now ∷ [])) c.in_ok-put_place.ensures in
    let s2 = progress_goes_on _ s1 refl c.in_ok-put.ensures in
    let s3 = progress_goes_on _ s2 refl c.in_ok-put_count.ensures in
    progress_stops _ c.from_residual-in_err-put-2.result c.from_residual-in_err-put-2.ensures.0 s3 refl c.in_err-put-2.ensures

pub returns-in_err-put_part_place : goal.returns-in_err-put_part_place
returns-in_err-put_part_place g c =
    let s1 = progress_goes_on _ (progress_starts _ _) (place_words (codes " Part ") (decimal c.args.row) (decimal c.args.column) (decimal c.args.level) (decimal c.args.offset ∷ part_place c.args.last ∷ hex_text c.args.bytes.now ∷ [])) c.in_ok-put_place.ensures in
    let s2 = progress_goes_on _ s1 refl c.in_ok-put.ensures in
    let s3 = progress_goes_on _ s2 refl c.in_ok-put_count.ensures in
    let s4 = progress_goes_on _ s3 refl c.in_ok-put-2.ensures in
    progress_stops _ c.from_residual-in_err-put_part_place.result c.from_residual-in_err-put_part_place.ensures.0 s4 refl c.in_err-put_part_place.ensures

pub returns-in_err-put-3 : goal.returns-in_err-put-3
returns-in_err-put-3 g c =
    let s1 = progress_goes_on _ (progress_starts _ _) (place_words (codes " Part ") (decimal c.args.row) (decimal c.args.column) (decimal c.args.level) (decimal c.args.offset ∷ part_place c.args.last ∷ hex_text c.args.bytes.now ∷ [])) c.in_ok-put_place.ensures in
    let s2 = progress_goes_on _ s1 refl c.in_ok-put.ensures in
    let s3 = progress_goes_on _ s2 refl c.in_ok-put_count.ensures in
    let s4 = progress_goes_on _ s3 refl c.in_ok-put-2.ensures in
    let s5 = progress_goes_on _ s4 refl c.in_ok-put_part_place.ensures in
    progress_stops _ c.from_residual-in_err-put-3.result c.from_residual-in_err-put-3.ensures.0 s5 refl c.in_err-put-3.ensures

pub returns : goal.returns
returns g c =
    let s1 = progress_goes_on _ (progress_starts _ _) (place_words (codes " Part ") (decimal c.args.row) (decimal c.args.column) (decimal c.args.level) (decimal c.args.offset ∷ part_place c.args.last ∷ hex_text c.args.bytes.now ∷ [])) c.in_ok-put_place.ensures in
    let s2 = progress_goes_on _ s1 refl c.in_ok-put.ensures in
    let s3 = progress_goes_on _ s2 refl c.in_ok-put_count.ensures in
    let s4 = progress_goes_on _ s3 refl c.in_ok-put-2.ensures in
    let s5 = progress_goes_on _ s4 refl c.in_ok-put_part_place.ensures in
    let s6 = progress_goes_on _ s5 refl c.in_ok-put-3.ensures in
    progress_last _ _ c.put_hex_text.result s6 refl c.put_hex_text.ensures
