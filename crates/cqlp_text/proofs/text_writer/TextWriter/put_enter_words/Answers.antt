use Rattle.std.proofs.Common.{refl, codes, decimal, ◌∷◌, []}
use Rattle.cqlp_text.proofs.Texts.{place_words}
use Rattle.cqlp_text.specs.Names.{kind_name}
use Rattle.cqlp_text.proofs.Writing.{progress_starts, progress_goes_on, progress_stops, progress_last}
use Rattle.cqlp_text.proofs.text_writer.TextWriter.put_enter_words.Goals as goal

pub returns-in_err-put_place : goal.returns-in_err-put_place
returns-in_err-put_place g c =
    progress_stops _ c.from_residual.result c.from_residual.ensures.0 (progress_starts _ _) (place_words (codes " Enter ") (decimal c.args.row) (decimal c.args.column) (decimal c.args.level) (kind_name c.args.kind ∷ decimal c.args.items ∷ [])) c.in_err-put_place.ensures

pub returns-in_err-put : goal.returns-in_err-put
returns-in_err-put g c =
    let s1 = progress_goes_on _ (progress_starts _ _) (place_words (codes " Enter ") (decimal c.args.row) (decimal c.args.column) (decimal c.args.level) (kind_name c.args.kind ∷ decimal c.args.items ∷ [])) c.in_ok-put_place.ensures in
    progress_stops _ c.from_residual-in_err-put.result c.from_residual-in_err-put.ensures.0 s1 refl c.in_err-put.ensures

pub returns-in_err-put_kind_name : goal.returns-in_err-put_kind_name
returns-in_err-put_kind_name g c =
    let s1 = progress_goes_on _ (progress_starts _ _) (place_words (codes " Enter ") (decimal c.args.row) (decimal c.args.column) (decimal c.args.level) (kind_name c.args.kind ∷ decimal c.args.items ∷ [])) c.in_ok-put_place.ensures in
    let s2 = progress_goes_on _ s1 refl c.in_ok-put.ensures in
    progress_stops _ c.from_residual-in_err-put_kind_name.result c.from_residual-in_err-put_kind_name.ensures.0 s2 refl c.in_err-put_kind_name.ensures

pub returns-in_err-put-2 : goal.returns-in_err-put-2
returns-in_err-put-2 g c =
    let s1 = progress_goes_on _ (progress_starts _ _) (place_words (codes " Enter ") (decimal c.args.row) (decimal c.args.column) (decimal c.args.level) (kind_name c.args.kind ∷ decimal c.args.items ∷ [])) c.in_ok-put_place.ensures in
    let s2 = progress_goes_on _ s1 refl c.in_ok-put.ensures in
    let s3 = progress_goes_on _ s2 refl c.in_ok-put_kind_name.ensures in
    progress_stops _ c.from_residual-in_err-put-2.result c.from_residual-in_err-put-2.ensures.0 s3 refl c.in_err-put-2.ensures

pub returns : goal.returns
returns g c =
    let s1 = progress_goes_on _ (progress_starts _ _) (place_words (codes " Enter ") (decimal c.args.row) (decimal c.args.column) (decimal c.args.level) (kind_name c.args.kind ∷ decimal c.args.items ∷ [])) c.in_ok-put_place.ensures in
    let s2 = progress_goes_on _ s1 refl c.in_ok-put.ensures in
    let s3 = progress_goes_on _ s2 refl c.in_ok-put_kind_name.ensures in
    let s4 = progress_goes_on _ s3 refl c.in_ok-put-2.ensures in
    progress_last _ _ c.put_count.result s4 refl c.put_count.ensures
