-- Names of which a label has the first bytes.
use Rattle.std.proofs.Common.{◌≡◌, ◌∙◌, ℕ, ◌<◌, Bool, true, false, nat_le, List, [], ◌∷◌, ◌++◌, length, take, Option, Some, None, Result, Ok, Err, refl, sym, ap, arith}
use Rattle.std.proofs.lemmas.Bool.{lt-leb}
use Rattle.std.proofs.lemmas.Grind.{common_steps}
use Rattle.std.proofs.lemmas.List.{length-append}
use Rattle.std.specs.Prelude.{is_ok}
use Rattle.cqlp_grammar.specs.declared.sink.SinkFault.{SinkFault}
use Rattle.cqlp_text.specs.Outputs.{Output, WritesText, output}
use Rattle.cqlp_text.proofs.Writing.{front_of}
use Rattle.cqlp_capture_summary.specs.Names.{Name, name, name_of}
use Rattle.cqlp_capture_summary.specs.Summaries.{Summary, noted_request, place_of, with_name, with_request}
use Rattle.cqlp_capture_exchanges.specs.Notings.{request_as}
use Rattle.cqlp_capture_exchanges.specs.declared.outcome.Outcome.{Outcome}

-- ---- what is counted of a request does not depend on its name

same_counts : (place : Option ℕ) (a b : List ℕ) (v w : Bool) (o : Outcome) (s : Summary) → with_request place (request_as a v o) s ≡ with_request place (request_as b w o) s
same_counts None a b v w o s = refl
same_counts (Some at) a b v w o s = refl

noted_alike : (a b : List ℕ) (v w : Bool) (o : Outcome) (s : Summary) → name_of a v ≡ name_of b w → noted_request (request_as a v o) s ≡ noted_request (request_as b w o) s
noted_alike a b v w o s e =
    same_counts (place_of (name_of a v) s) a b v w o (with_name (name_of a v) s) ∙ ap (λ (n : Name). with_request (place_of n s) (request_as b w o) (with_name n s)) e

-- ---- what a label took of a text is called as the text is

all_of : (xs : List ℕ) (k : ℕ) → length xs ≡ k → take k xs ≡ xs
all_of xs k long = grind (arith, common_steps)

-- the front of a text that is longer
cut_name : (sent : List ℕ) (lost : ℕ) (later : List ℕ) → length sent ≡ 256 → name_of sent false ≡ name_of (sent ++ lost ∷ later) true
cut_name sent lost later full =
    let front : take 256 sent ≡ take 256 (sent ++ lost ∷ later) = all_of sent 256 full ∙ sym (front_of sent (lost ∷ later) 256 full) in
    let long : nat_le (length (sent ++ lost ∷ later)) 256 ≡ false = lt-leb _ 256 (omega (arith, full, length-append sent (lost ∷ later))) in
    λ i. name (front i) (sym long i)

name_taken : (text held : List ℕ) (f : ℕ) (r : Result (Unit {0}) SinkFault) → WritesText (output (Some []) 0) text r (output (Some held) f) → (0 < f → length held ≡ 256) → name_of held (is_ok r) ≡ name_of text true
name_taken text held f (Ok u) writes full =
    let given : Some held ≡ Some text = ap (λ (o : Output). o.given) writes in
    let same : held ≡ text = cc in
    ap (λ t. name_of t true) same
name_taken text held f (Err e) writes full =
    let given : Some held ≡ Some writes.sent = writes.given in
    let same : held ≡ writes.sent = cc in
    let failed : 0 < f = omega (arith, writes.failures) in
    ap (λ t. name_of t false) same ∙ cut_name writes.sent writes.lost writes.later (ap length (sym same) ∙ full failed) ∙ ap (λ t. name_of t true) writes.split

pub noted_by_label : (text held : List ℕ) (f : ℕ) (r : Result (Unit {0}) SinkFault) (o : Outcome) (s : Summary) → WritesText (output (Some []) 0) text r (output (Some held) f) → (0 < f → length held ≡ 256) → noted_request (request_as held (is_ok r) o) s ≡ noted_request (request_as text true o) s
noted_by_label text held f r o s writes full = noted_alike held text (is_ok r) true o s (name_taken text held f r writes full)
