-- Texts that end early.
use Rattle.std.proofs.Common.{◌≡◌, ◌∙◌, List, ℕ, Bool, true, false, [], ◌++◌, Result, Ok, Err, IfErr, IsErr, IsErrAnd, refl, sym, ap, subst, append-nil}
use Rattle.cqlp_text.specs.Written.{Written, BreaksOff, Receives}
use Rattle.cqlp_text.proofs.Writing.{breaks_in_more, takes_nothing, takes_then_breaks}
use Rattle.cqlp_capture_frames.specs.declared.fault.ReportFault.{ReportFault}
use Rattle.cqlp_capture_frames.specs.declared.fault.ReportFault.TheVariants as fault
use Rattle.cqlp_capture_frames.specs.Faults.{ReceivesFront, Takes}
use Rattle.cqlp_capture_frames.specs.Reportings.{is_memory}

-- the output fails
pub breaks_here : (old new : Written) (text : List ℕ) (r : Result (Unit {0}) ReportFault) → IsErr r × IsErrAnd r (λ f. f ≡ fault.Write) → BreaksOff old text new → Takes is_memory old text r new
breaks_here old new text (Ok u) stops breaks = cc
breaks_here old new text (Err f) stops breaks = subst (λ (z : ReportFault). Takes is_memory old text (Err z) new) (sym stops.1) breaks

-- memory is refused before anything was taken
pub refused_here : (w : Written) (text : List ℕ) (r : Result (Unit {0}) ReportFault) → IsErr r × IsErrAnd r (λ f. f ≡ fault.NoMemory) → Takes is_memory w text r w
refused_here w text (Ok u) stops = cc
refused_here w text (Err f) stops = subst (λ (z : ReportFault). Takes is_memory w text (Err z) w) (sym stops.1) ([], text, refl, takes_nothing w)

-- memory was asked for
pub asked_here : {T X : Type 0} (r : Result T ReportFault) → X → IfErr r (λ f. is_memory f ≡ true → X)
asked_here (Ok u) x = tt
asked_here (Err f) x = λ is. x

-- the output failed, and no memory was refused
pub none_refused : {T : Type 0} (X : Type 0) (r : Result T ReportFault) → IsErr r × IsErrAnd r (λ f. f ≡ fault.Write) → IfErr r (λ f. is_memory f ≡ true → X)
none_refused X (Ok u) stops = tt
none_refused X (Err f) stops = λ memory. absurd (let no : ◌≡◌ {A = Bool} true false = sym memory ∙ ap is_memory stops.1 in cc)

-- the ways in which a text ends early where memory is asked for
pub ruleset early_ends = (asked_here, breaks_here, none_refused, refused_here)

-- what was taken is passed on, and the output fails then
pub passing_fails : (old mid new : Written) (text : List ℕ) (r : Result (Unit {0}) ReportFault) → IsErr r × IsErrAnd r (λ f. f ≡ fault.Write) → Receives old text mid → BreaksOff mid [] new → Takes is_memory old text r new
passing_fails old mid new text r stops takes breaks =
    breaks_here old new text r stops (subst (λ (t : List ℕ). BreaksOff old t new) (append-nil text) (takes_then_breaks old mid new text [] takes breaks))

-- the same where memory was refused before
pub passing_front_fails : (old mid new : Written) (text : List ℕ) (r : Result (Unit {0}) ReportFault) → IsErr r × IsErrAnd r (λ f. f ≡ fault.Write) → ReceivesFront old text mid → BreaksOff mid [] new → Takes is_memory old text r new
passing_front_fails old mid new text r stops (front, later, split, takes) breaks =
    let within = subst (λ (t : List ℕ). BreaksOff old t new) (append-nil front) (takes_then_breaks old mid new front [] takes breaks) in
    breaks_here old new text r stops (subst (λ (t : List ℕ). BreaksOff old t new) split (breaks_in_more old new front later within))

-- one text, and then another
pub first_breaks : (old new : Written) (first later : List ℕ) (r : Result (Unit {0}) ReportFault) → IsErr r × IsErrAnd r (λ f. f ≡ fault.Write) → BreaksOff old first new → Takes is_memory old (first ++ later) r new
first_breaks old new first later r stops breaks = breaks_here old new (first ++ later) r stops (breaks_in_more old new first later breaks)

pub then_breaks : (old mid new : Written) (first later : List ℕ) (r : Result (Unit {0}) ReportFault) → IsErr r × IsErrAnd r (λ f. f ≡ fault.Write) → Receives old first mid → BreaksOff mid later new → Takes is_memory old (first ++ later) r new
then_breaks old mid new first later r stops takes breaks = breaks_here old new (first ++ later) r stops (takes_then_breaks old mid new first later takes breaks)
