-- What a table that is given or taken back leaves.
use Rattle.std.proofs.Common.{◌≡◌, ℕ, List, length, drop, refl, sym, ap, ◌∙◌, subst}
use Rattle.std.specs.Prelude.{Option, Some, None}
use Rattle.cqlp_note.specs.declared.refusal.Reason.{Reason}
use Rattle.cqlp_note.specs.Limits.{Rules}
use Rattle.cqlp_note.specs.Reader.{Bad, says}
use Rattle.cqlp_type.specs.Table.{Table}
use Rattle.cqlp_decode.specs.Giving.{after_taking, GivesAlso as GivesStream, TakesAlso as TakesStream}
use Rattle.cqlp_decode.specs.Reading.{Event, Gift, Gifts, TakesBack, Place, Refused, Says, gifts_now, gifts_later, held_after_all, settled, start_with, step, with_gift}
use Rattle.cqlp_decode.specs.Progress.{StreamState}
use Rattle.cqlp_decode.specs.Streams.{Decoding, state, AfterGifts}
use Rattle.cqlp_decode.proofs.Gifts.{runs_more, refused_same}
use Rattle.cqlp_skip.specs.Giving.{GivesAlso, TakesAlso}
use Rattle.cqlp_skip.specs.Skipping.{AfterSkips}
use Rattle.cqlp_skip.specs.Stretches.{Stretch, GivenUp}
use Rattle.cqlp_skip.specs.declared.frame.OpenFrame.{OpenFrame}
use Rattle.cqlp_skip.proofs.Feeding.{is_bad, skipping}

-- A refusal stays, whatever is given where the reading is.
says_more : (l : Rules) (x : Gift) (gifts : Gifts) (bytes : List ℕ) (es : List (ℕ × Event)) (k : ℕ) (why : Reason) → Says l (start_with gifts) bytes es (Refused k why)
    → Says l (start_with (with_gift (length es) x gifts)) bytes es (Refused k why)
says_more l x gifts bytes es k why a =
    let q = a.0 in
    let more : Place = record q { gifts = with_gift 0 x q.gifts } in
    let given = held_after_all (gifts_now more.gifts) q.given in
    let bad : says (step l more) 0 a.1 ≡ Bad (k, why) = refused_same l (settled q) given (gifts_later more.gifts) q.symbols a.1 (k, why) (is_bad (says (step l q) 0 a.1) k why a.3) in
    (more, a.1, runs_more l x (start_with gifts) q bytes a.1 es a.2, rw bad refl)

module _ (d d' : Decoding) (base used last : ℕ) (frame : Option OpenFrame) (same : (state d').refusal ≡ (state d).refusal) (rules : (state d').rules ≡ (state d).rules) where
  -- Where only what is given differs, the history is the same but for the gifts.
  conforms_on : (more : Gifts) (xs s : List ℕ) (stretches : List Stretch) (gifts : Gifts) (es : List (ℕ × Event)) → AfterSkips xs (skipping d base used frame last) s stretches gifts es
      → AfterGifts more (state d') (drop base s) es
      → ((k : ℕ) (why : Reason) → Says (state d).rules (start_with gifts) (drop base xs) es (Refused k why) → Says (state d).rules (start_with more) (drop base xs) es (Refused k why))
      → AfterSkips xs (skipping d' base used frame last) s stretches more es
  conforms_on more xs s stretches gifts es a conforms says = record {
    unread = a.unread;
    whole = a.whole;
    given_up = subst (λ (l : Rules). GivenUp l xs stretches) (sym rules) a.given_up;
    base = a.base;
    conforms = conforms;
    frame = a.frame;
    used = a.used;
    near = a.near;
    refused = λ r is. subst (λ (l : Rules). Says l (start_with more) (drop base xs) es (Refused r.at r.why)) (sym rules) (says r.at r.why (a.refused r (sym same ∙ is)));
  }

  pub gives_on : (x : Gift) → GivesStream x (state d) (state d') → GivesAlso x (skipping d base used frame last) (skipping d' base used frame last)
  gives_on x gives xs s stretches gifts es a =
      conforms_on (with_gift (length es) x gifts) xs s stretches gifts es a (gives gifts (drop base s) es a.conforms) (says_more (state d).rules x gifts (drop base xs) es)

  pub takes_on : (o : Option Table) → TakesStream o (state d) (state d') → TakesAlso o (skipping d base used frame last) (skipping d' base used frame last)
  takes_on None takes xs s stretches gifts es a = conforms_on gifts xs s stretches gifts es a (takes gifts (drop base s) es a.conforms) (λ k why says. says)
  takes_on (Some t) takes xs s stretches gifts es a = gives_on TakesBack takes xs s stretches gifts es a

-- what was taken back leaves the rules, and what is refused
pub left_refusal : (o : Option Table) (d d' : StreamState) → d' ≡ after_taking o d → d'.refusal ≡ d.refusal
left_refusal None d d' is = ap (λ (z : StreamState). z.refusal) is
left_refusal (Some t) d d' is = ap (λ (z : StreamState). z.refusal) is

pub left_rules : (o : Option Table) (d d' : StreamState) → d' ≡ after_taking o d → d'.rules ≡ d.rules
left_rules None d d' is = ap (λ (z : StreamState). z.rules) is
left_rules (Some t) d d' is = ap (λ (z : StreamState). z.rules) is
