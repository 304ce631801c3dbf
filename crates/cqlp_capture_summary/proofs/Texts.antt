-- Texts in parts.
use Rattle.std.proofs.Common.{true, zero, suc, ◌≡◌, ◌∙◌, ◌+◌, ◌<◌, ℕ, List, [], ◌∷◌, ◌++◌, length, take, drop, get_or, add-one, Result, IsErr, refl, sym, ap, arith}
use Rattle.std.proofs.Math.Seq.{drop-cons}
use Rattle.std.proofs.lemmas.Bool.{and_parts}
use Rattle.std.proofs.lemmas.Grind.{common_steps}
use Rattle.std.proofs.lemmas.Str.{chars-nil, chars-IsAscii, chars_past_char, encode_ascii, utf8_valid_len-IsUtf8}
use Rattle.std.specs.Char.{encode_utf8}
use Rattle.std.specs.List.{flat_map, list_all}
use Rattle.std.specs.Str.{IsAscii, IsUtf8}
use Rattle.std.specs.Str.Lossy.{utf8_valid_len}
use Rattle.cqlp_grammar.specs.declared.sink.SinkFault.{SinkFault}
use Rattle.cqlp_text.specs.Written.{Written, BreaksOff, Receives, Writes}
use Rattle.cqlp_text.proofs.Writing.{Progress, progress_goes_on, progress_last, progress_stops}
use Rattle.cqlp_capture_summary.specs.Shown.{escape, is_plain, shown, shown_in_field, shown_in_fields, shown_text}

-- one part after the other, which is another way of writing what is due

pub said_next : {a b c : Written} {text left x y : List ℕ} (later : List ℕ) → Progress a text left b → left ≡ y ++ later → x ≡ y → Receives b x c → Progress a text later c
said_next {a} {b} {c} {text} {left} {x} {y} later here parts same takes = progress_goes_on later here (parts ∙ ap (λ z. z ++ later) (sym same)) takes

pub said_stops : {a b c : Written} {text left x y : List ℕ} (later : List ℕ) (r : Result (Unit {0}) SinkFault) → IsErr r → Progress a text left b → left ≡ y ++ later → x ≡ y → BreaksOff b x c → Writes a text r c
said_stops {a} {b} {c} {text} {left} {x} {y} later r stops here parts same breaks = progress_stops later r stops here (parts ∙ ap (λ z. z ++ later) (sym same)) breaks

pub said_last : {a b : Written} (c : Written) {text left : List ℕ} {y : List ℕ} (x : List ℕ) (r : Result (Unit {0}) SinkFault) → Progress a text left b → left ≡ y ++ [] → x ≡ y → Writes b x r c → Writes a text r c
said_last {a} {b} c {text} {left} {y} x r here parts same writes = progress_last c x r here (parts ∙ ap (λ z. z ++ []) (sym same)) writes

-- a text is its own longest front that is UTF-8
pub front_of_text : (text b : List ℕ) → text ≡ b → IsUtf8 b → text ≡ take (utf8_valid_len b) b
front_of_text text b same is =
    let all : take (length b) b ≡ b = grind (arith, common_steps) in
    same ∙ sym all ∙ ap (λ n. take n b) (sym (utf8_valid_len-IsUtf8 b is))

-- ---- bytes that are escaped, and characters

pub escapes_at : (bytes : List ℕ) (i : ℕ) → i < length bytes → flat_map escape (drop i bytes) ≡ escape (get_or bytes i 0) ++ flat_map escape (drop (i + 1) bytes)
escapes_at bytes i within = rw (drop-cons bytes i 0 within, add-one) refl

-- the first character, and then the others
pub shown_at : (text rest : List ℕ) (c : ℕ) → IsUtf8 text → text ≡ encode_utf8 c ++ rest → shown_text text ≡ shown c ++ shown_text rest
shown_at text rest c is parts = ap (flat_map shown) (chars_past_char text rest c is parts)

pub shown_none : (text : List ℕ) → length text ≡ 0 → shown_text text ≡ []
shown_none [] none = ap (flat_map shown) chars-nil
shown_none (b ∷ bs) none = absurd (omega arith)

pub field_at : (text rest : List ℕ) (c : ℕ) → IsUtf8 text → text ≡ encode_utf8 c ++ rest → shown_in_field text ≡ shown_in_fields c ++ shown_in_field rest
field_at text rest c is parts = ap (flat_map shown_in_fields) (chars_past_char text rest c is parts)

pub field_none : (text : List ℕ) → length text ≡ 0 → shown_in_field text ≡ []
field_none [] none = ap (flat_map shown_in_fields) chars-nil
field_none (b ∷ bs) none = absurd (omega arith)

-- ---- a text of plain bytes is written as it is

plain_below : (b : ℕ) → is_plain b ≡ true → b < 128
plain_below b h = grind (arith, common_steps, h)

plain_shown : (b : ℕ) → is_plain b ≡ true → shown b ≡ b ∷ []
plain_shown b h = grind (arith, common_steps, h, encode_ascii b (plain_below b h))

plain_is_ascii : (text : List ℕ) → list_all is_plain text ≡ true → IsAscii text
plain_is_ascii [] h i = omega arith
plain_is_ascii (b ∷ bs) h zero = plain_below b (and_parts (is_plain b) (list_all is_plain bs) h).0
plain_is_ascii (b ∷ bs) h (suc i) = plain_is_ascii bs (and_parts (is_plain b) (list_all is_plain bs) h).1 i

plain_each : (text : List ℕ) → list_all is_plain text ≡ true → flat_map shown text ≡ text
plain_each [] h = refl
plain_each (b ∷ bs) h =
    let parts = and_parts (is_plain b) (list_all is_plain bs) h in
    rw (plain_shown b parts.0, plain_each bs parts.1) refl

pub plain_shown_text : (text : List ℕ) → list_all is_plain text ≡ true → shown_text text ≡ text
plain_shown_text text h = ap (flat_map shown) (chars-IsAscii text (plain_is_ascii text h)) ∙ plain_each text h
