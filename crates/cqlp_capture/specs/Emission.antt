-- Short forms of what bytes say.
use Rattle.std.specs.Prelude.{ℕ, None, Result, Ok, Err}
use Rattle.cqlp_capture.specs.declared.event.Emission.{Emission}
use Rattle.cqlp_capture.specs.declared.interfaces.TableChange.TheVariants.{Keep}
use Rattle.cqlp_capture.specs.declared.place.Stage.{Stage}
use Rattle.cqlp_capture.specs.declared.refusal.CaptureReason.{CaptureReason}
use Rattle.cqlp_capture.specs.declared.refusal.CaptureRefusal.{CaptureRefusal}

abbrev pub refused : (at : ℕ) → CaptureReason → Result Emission CaptureRefusal
refused at why = Err (record { at = at; why = why })

-- no event, and this is read next, from this offset on
abbrev pub goes_on : (offset : ℕ) → Stage → Result Emission CaptureRefusal
goes_on offset s =
    Ok (record { at = offset; what = None; place = record { offset = offset; stage = s }; change = Keep })
