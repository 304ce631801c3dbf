use Rattle.std.proofs.Common.{◌≡◌, true, Bool, false, None, refl, sym, ◌∙◌}
use Rattle.cqlp_decode.specs.Reading.{is_in_use}
use Rattle.cqlp_decode.specs.Progress.{parts_state, state_of}
use Rattle.cqlp_decode.specs.Streams.{state}
use Rattle.cqlp_decode.proofs.Gifts.{refused_free}
use Rattle.cqlp_decode.proofs.Tables.{given_lawful, given_state, taken_is, nothing_held, takes_also}
use Rattle.cqlp_decode.proofs.decoder.Decoder.take_given.Goals as goal

pub invariant_of-self : goal.invariant_of-self
invariant_of-self g c =
    let free : is_in_use (state c.args.self.now).place.given ≡ false = sym c.is_in_use.ensures ∙ c.if-is_in_use.false in
    rw c.take.ensures.after (given_lawful c.self.inside.progress (parts_state c.self.inside.parts) c.self.inside.progress.given_use None c.self.invariant (rw (← c.self.view_is) at free) tt)

pub returns-clause-given : goal.returns-clause-given
returns-clause-given g c =
    let free : is_in_use (state c.args.self.now).place.given ≡ false = sym c.is_in_use.ensures ∙ c.if-is_in_use.false in
    rw free (rw (← c.self.view_is) c.take.ensures.value)

pub returns-clause-left : goal.returns-clause-left
returns-clause-left g c =
    let free : is_in_use (state c.args.self.now).place.given ≡ false = sym c.is_in_use.ensures ∙ c.if-is_in_use.false in
    let q = parts_state c.self.inside.parts in
    let s = c.self.inside.progress in
    rw (← c.self.view_is, c.take.ensures.after) (given_state s q s.given_use None c.self.invariant (rw (← c.self.view_is) at free) ∙ taken_is (state_of s q) c.take.result c.take.ensures.value (nothing_held s q))

pub returns-clause-after : goal.returns-clause-after
returns-clause-after g c =
    let free : is_in_use (state c.args.self.now).place.given ≡ false = sym c.is_in_use.ensures ∙ c.if-is_in_use.false in
    let q = parts_state c.self.inside.parts in
    let s = c.self.inside.progress in
    takes_also c.take.result (state c.args.self.now) _
    (rw (← c.self.view_is, c.take.ensures.after) (given_state s q s.given_use None c.self.invariant (rw (← c.self.view_is) at free) ∙ taken_is (state_of s q) c.take.result c.take.ensures.value (nothing_held s q)))

pub returns-then-is_in_use-clause-after : goal.returns-then-is_in_use-clause-after
returns-then-is_in_use-clause-after g c = takes_also None (state c.args.self.now) _ refl

pub returns-clause-refused : goal.returns-clause-refused
returns-clause-refused g c = λ r gifts s es is a. rw (← c.self.view_is) c.take.ensures.value

pub returns-then-is_in_use-clause-refused : goal.returns-then-is_in_use-clause-refused
returns-then-is_in_use-clause-refused g c = λ r gifts s es is a.
    let d = state c.args.self.now in
    let busy : is_in_use d.place.given ≡ true = sym c.is_in_use.ensures ∙ c.if-is_in_use.true in
    let free = refused_free d.refusal r gifts d s es is a in
    absurd (let shut : ◌≡◌ {A = Bool} true false = sym busy ∙ free in cc)
