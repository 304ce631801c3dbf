use Rattle.std.proofs.Common.{◌∷◌, [], length, arith, refl}
use Rattle.cqlp_text.specs.PageText.{gap_text, line_end}
use Rattle.cqlp_text.proofs.ItemText.{gap_short, text_len, text_written}
use Rattle.cqlp_text.proofs.items.write_text.Goals as goal

pub returns-clause-len : goal.returns-clause-len
returns-clause-len c =
    text_len (gap_text c.args.gap) (34 ∷ []) c.args.text.now (line_end c.args.ends_line) _ (length c.args.text.now) _ c.write_gap-front.ensures.len refl refl c.write_line_end.ensures.len

pub returns-clause-written : goal.returns-clause-written
returns-clause-written c =
    text_written _ c.place.new.buffer c.place-2.new.buffer c.place-3.new.buffer c.write_line_end.new.room (gap_text c.args.gap) (34 ∷ []) c.args.text.now (line_end c.args.ends_line) _ (length c.args.text.now) _ refl refl
    (omega (arith, c.write_gap-front.ensures.len, c.write_gap-front.auto.room, gap_short c.args.gap, c.requires)) c.place.auto.buffer (omega (arith, c.place-2.auto.buffer, c.place.auto.buffer)) c.write_gap-front.ensures.written
    c.place.ensures c.place-2.ensures c.place-3.ensures c.write_line_end.ensures.written
