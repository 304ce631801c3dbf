use Rattle.std.specs.Str.{IsUtf8}
use Rattle.std.specs.Str.Iter.{chars_rest}
use Rattle.cqlp_text.proofs.Writing.{Progress}
use Rattle.cqlp_capture_summary.specs.Shown.{shown_in_field}
use Rattle.cqlp_capture_summary.proofs.shown.put_shown_in_field.Given as goal

abbrev pub invariant-loop-c : goal.invariant-loop-c
invariant-loop-c g l =
    IsUtf8 (chars_rest l.c-iterator) × Progress l.fn.writer (shown_in_field l.text) (shown_in_field (chars_rest l.c-iterator)) l.writer
