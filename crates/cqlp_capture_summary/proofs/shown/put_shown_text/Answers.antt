use Rattle.std.proofs.Common.{◌≡◌, ◌∙◌, rules, sym, subst}
use Rattle.std.specs.Str.{IsUtf8}
use Rattle.std.specs.Str.Iter.{chars_rest}
use Rattle.std.proofs.lemmas.Str.{IsUtf8-past_char}
use Rattle.cqlp_text.proofs.Writing.{Progress, progress_ends, progress_goes_on, progress_starts, progress_stops}
use Rattle.cqlp_capture_summary.specs.Shown.{shown_text}
use Rattle.cqlp_text.specs.Written.{Writes}
use Rattle.cqlp_capture_summary.proofs.Texts.{plain_shown_text, shown_at, shown_none}
use Rattle.cqlp_capture_summary.proofs.shown.put_shown_text.Goals as goal

pub loop-c-init : goal.loop-c-init
loop-c-init g c =
    let whole : chars_rest c.into_iter-c-iterator.result ≡ c.args.text.now = search rules in
    (subst IsUtf8 (sym whole) c.utf8.text, subst (λ z. Progress c.args.writer.now (shown_text c.args.text.now) (shown_text z) c.args.writer.now) (sym whole) (progress_starts c.args.writer.now (shown_text c.args.text.now)))

pub returns-in_err-put_shown : goal.returns-in_err-put_shown
returns-in_err-put_shown g c =
    let held = c.loop-c.invariant in
    progress_stops _ c.from_residual.result c.from_residual.ensures.0 held.1 (shown_at _ _ c.in-Some.c held.0 c.in-Some.ensures.steps.0) c.in_err-put_shown.ensures

pub loop-c-preserved : goal.loop-c-preserved
loop-c-preserved g c =
    let held = c.loop-c.invariant in
    let parts = c.in-Some.ensures.steps.0 in
    (IsUtf8-past_char _ _ c.in-Some.c held.0 parts, progress_goes_on _ held.1 (shown_at _ _ c.in-Some.c held.0 parts) c.in_ok-put_shown.ensures)

pub returns : goal.returns
returns g c = progress_ends c.loop-c.invariant.1 (shown_none _ c.in-None.ensures.steps.0.0)

pub returns-then-are_plain : goal.returns-then-are_plain
returns-then-are_plain g c =
    let bytes : c.as_bytes-then-are_plain.result.now ≡ c.args.text.now = search rules in
    let is : shown_text c.args.text.now ≡ c.args.text.now = plain_shown_text c.args.text.now (search rules) in
    subst (λ z. Writes c.args.writer.now z c.put.result c.put.new.self) (bytes ∙ sym is) c.put.ensures
