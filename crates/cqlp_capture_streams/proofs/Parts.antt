-- Texts that are taken one part after the other.
use Rattle.std.proofs.Common.{◌≡◌, ◌∙◌, List, ℕ, [], ◌++◌, Result, IsErr, sym, ap}
use Rattle.cqlp_grammar.specs.declared.sink.SinkFault.{SinkFault}
use Rattle.cqlp_text.specs.Written.{Written, BreaksOff, Receives, Writes}
use Rattle.cqlp_text.proofs.Writing.{Progress, progress_goes_on, progress_last, progress_stops}

pub part_taken : {a b c : Written} {text left x y : List ℕ} (later : List ℕ) → Progress a text left b → left ≡ y ++ later → x ≡ y → Receives b x c → Progress a text later c
part_taken {a} {b} {c} {text} {left} {x} {y} later here parts same takes = progress_goes_on later here (parts ∙ ap (λ z. z ++ later) (sym same)) takes

pub part_stops : {a b c : Written} {text left x y : List ℕ} (later : List ℕ) (r : Result (Unit {0}) SinkFault) → IsErr r → Progress a text left b → left ≡ y ++ later → x ≡ y → BreaksOff b x c → Writes a text r c
part_stops {a} {b} {c} {text} {left} {x} {y} later r stops here parts same breaks = progress_stops later r stops here (parts ∙ ap (λ z. z ++ later) (sym same)) breaks

pub part_last : {a b : Written} (c : Written) {text left : List ℕ} {y : List ℕ} (x : List ℕ) (r : Result (Unit {0}) SinkFault) → Progress a text left b → left ≡ y ++ [] → x ≡ y → Writes b x r c → Writes a text r c
part_last {a} {b} c {text} {left} {y} x r here parts same writes = progress_last c x r here (parts ∙ ap (λ z. z ++ []) (sym same)) writes
