use Rattle.std.proofs.Common.{◌≡◌, rules, sym, subst}
use Rattle.std.specs.Str.{IsUtf8}
use Rattle.std.specs.Str.Iter.{chars_rest}
use Rattle.std.proofs.lemmas.Str.{IsUtf8-past_char}
use Rattle.cqlp_text.proofs.Writing.{Progress, progress_ends, progress_goes_on, progress_starts, progress_stops}
use Rattle.cqlp_capture_summary.specs.Shown.{shown_in_field}
use Rattle.cqlp_capture_summary.proofs.Texts.{field_at, field_none}
use Rattle.cqlp_capture_summary.proofs.shown.put_shown_in_field.Goals as goal

pub loop-c-init : goal.loop-c-init
loop-c-init g c =
    let whole : chars_rest c.into_iter-c-iterator.result ≡ c.args.text.now = search rules in
    (subst IsUtf8 (sym whole) c.utf8.text, subst (λ z. Progress c.args.writer.now (shown_in_field c.args.text.now) (shown_in_field z) c.args.writer.now) (sym whole) (progress_starts c.args.writer.now (shown_in_field c.args.text.now)))

pub returns-in_err-put_in_field : goal.returns-in_err-put_in_field
returns-in_err-put_in_field g c =
    let held = c.loop-c.invariant in
    progress_stops _ c.from_residual.result c.from_residual.ensures.0 held.1 (field_at _ _ c.in-Some.c held.0 c.in-Some.ensures.steps.0) c.in_err-put_in_field.ensures

pub loop-c-preserved : goal.loop-c-preserved
loop-c-preserved g c =
    let held = c.loop-c.invariant in
    let parts = c.in-Some.ensures.steps.0 in
    (IsUtf8-past_char _ _ c.in-Some.c held.0 parts, progress_goes_on _ held.1 (field_at _ _ c.in-Some.c held.0 parts) c.in_ok-put_in_field.ensures)

pub returns : goal.returns
returns g c = progress_ends c.loop-c.invariant.1 (field_none _ c.in-None.ensures.steps.0.0)
