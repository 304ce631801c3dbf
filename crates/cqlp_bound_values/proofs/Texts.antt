-- Texts in parts.
use Rattle.std.proofs.Common.{◌≡◌, ◌∙◌, ℕ, List, [], ◌++◌, length, take, Result, IsErr, sym, ap, arith}
use Rattle.std.proofs.lemmas.Grind.{common_steps}
use Rattle.std.proofs.lemmas.Str.{utf8_valid_len-IsUtf8}
use Rattle.std.specs.Str.{IsUtf8}
use Rattle.std.specs.Str.Lossy.{utf8_valid_len}
use Rattle.cqlp_grammar.specs.declared.sink.SinkFault.{SinkFault}
use Rattle.cqlp_text.specs.Written.{Written, BreaksOff, Receives, Writes}
use Rattle.cqlp_text.proofs.Writing.{Progress, progress_goes_on, progress_last, progress_stops}

-- a text is its own longest front that is UTF-8
pub front_of_text : (text b : List ℕ) → text ≡ b → IsUtf8 b → text ≡ take (utf8_valid_len b) b
front_of_text text b same is =
    let all : take (length b) b ≡ b = grind (arith, common_steps) in
    same ∙ sym all ∙ ap (λ n. take n b) (sym (utf8_valid_len-IsUtf8 b is))

-- ---- one part after the other, which is another way of writing what is due

pub said_next : {a b c : Written} {text left x y : List ℕ} (later : List ℕ) → Progress a text left b → left ≡ y ++ later → x ≡ y → Receives b x c → Progress a text later c
said_next {a} {b} {c} {text} {left} {x} {y} later here parts same takes = progress_goes_on later here (parts ∙ ap (λ z. z ++ later) (sym same)) takes

pub said_stops : {a b c : Written} {text left x y : List ℕ} (later : List ℕ) (r : Result (Unit {0}) SinkFault) → IsErr r → Progress a text left b → left ≡ y ++ later → x ≡ y → BreaksOff b x c → Writes a text r c
said_stops {a} {b} {c} {text} {left} {x} {y} later r stops here parts same breaks = progress_stops later r stops here (parts ∙ ap (λ z. z ++ later) (sym same)) breaks

pub said_last : {a b : Written} (c : Written) {text left : List ℕ} {y : List ℕ} (x : List ℕ) (r : Result (Unit {0}) SinkFault) → Progress a text left b → left ≡ y ++ [] → x ≡ y → Writes b x r c → Writes a text r c
said_last {a} {b} c {text} {left} {y} x r here parts same writes = progress_last c x r here (parts ∙ ap (λ z. z ++ []) (sym same)) writes
