-- Texts that end early.
use Rattle.std.proofs.Common.{◌≡◌, ◌∙◌, ℕ, Bool, true, false, List, ◌++◌, Result, Ok, Err, sym, ap, append_assoc}
use Rattle.cqlp_grammar.specs.declared.sink.SinkFault.{SinkFault}
use Rattle.cqlp_text.specs.Written.{Receives, Writes, Written}
use Rattle.cqlp_text.proofs.Writing.{Progress, breaks_in_more, progress_breaks, takes_then_breaks, takes_then_takes}
use Rattle.cqlp_capture_frames.specs.Faults.{Stops, Takes}

-- within a longer text
pub stops_in_more : (refused : Bool) (old new : Written) (text later : List ℕ) → Stops refused old text new → Stops refused old (text ++ later) new
stops_in_more false old new text later breaks = breaks_in_more old new text later breaks
stops_in_more true old new text later (front, rest, split, takes) =
    (front, rest ++ later, sym (append_assoc front rest later) ∙ ap (λ (z : List ℕ). z ++ later) split, takes)

-- after a text that was taken
pub takes_then_stops : (refused : Bool) (old mid new : Written) (text later : List ℕ) → Receives old text mid → Stops refused mid later new → Stops refused old (text ++ later) new
takes_then_stops false old mid new text later takes breaks = takes_then_breaks old mid new text later takes breaks
takes_then_stops true old mid new text later takes (front, rest, split, more) =
    (text ++ front, rest, append_assoc text front rest ∙ ap (λ (z : List ℕ). text ++ z) split, takes_then_takes old mid new text front takes more)

-- within what is left
pub progress_stops_by : (refused : Bool) (old now new : Written) (text left part later : List ℕ) → Progress old text left now → left ≡ part ++ later → Stops refused now part new → Stops refused old text new
progress_stops_by false old now new text left part later here parts breaks = progress_breaks later here parts breaks
progress_stops_by true old now new text left part later here parts (front, rest, split, takes) = (
  here.front ++ front,
  rest ++ later,
  append_assoc here.front front (rest ++ later) ∙ ap (λ (z : List ℕ). here.front ++ z) (sym (append_assoc front rest later) ∙ ap (λ (z : List ℕ). z ++ later) split ∙ sym parts) ∙ here.split,
  takes_then_takes old now new here.front front here.takes takes,
)

-- where memory is never refused
pub writes_takes : (old new : Written) (text : List ℕ) (r : Result (Unit {0}) SinkFault) → Writes old text r new → Takes (λ e. false) old text r new
writes_takes old new text (Ok u) writes = writes
writes_takes old new text (Err e) writes = writes
