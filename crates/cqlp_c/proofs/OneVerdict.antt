-- Of one stream there is one verdict.
use Rattle.std.proofs.Common.{◌≡◌, ℕ, List, sym, subst, ◌∙◌}
use Rattle.std.specs.Prelude.{None}
use Rattle.cqlp_note.specs.Limits.{Rules}
use Rattle.cqlp_grammar.specs.declared.event.Finish.{Finish}
use Rattle.cqlp_decode.specs.Reading.{Event, Verdict, Waits, Refused, start}
use Rattle.cqlp_laws.specs.OneAnswer.{EndsBy}
use Rattle.cqlp_laws.proofs.OneAnswer.{finish_by}
use Rattle.cqlp_laws.proofs.Whole.{says_once}
use Rattle.cqlp_c.specs.Checks.{HasVerdict}

ends_once : (v : Verdict) (stream : List ℕ) (es : List (ℕ × Event)) (f f' : Finish) → EndsBy v stream es f → EndsBy v stream es f' → f' ≡ f
ends_once Waits stream es f f' x y = finish_by None stream es f f' x y
ends_once (Refused at why) stream es f f' x y = y ∙ sym x

pub one_verdict : (l : Rules) (stream : List ℕ) (f f' : Finish) → HasVerdict l stream f → HasVerdict l stream f' → f' ≡ f
one_verdict l stream f f' x y =
    let once = says_once l start stream x.0 y.0 x.1 y.1 x.2 y.2 in
    ends_once x.1 stream x.0 f f' x.3 (subst (λ (es : List (ℕ × Event)). EndsBy x.1 stream es f') once.0 (subst (λ (v : Verdict). EndsBy v stream y.0 f') once.1 y.3))
