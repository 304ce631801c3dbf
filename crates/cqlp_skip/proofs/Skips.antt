-- What a skip leaves.
use Rattle.std.proofs.Common.{◌≡◌, ℕ, ◌+◌, ◌-◌, ◌^◌, ◌≤◌, ◌<◌, ltb, leb, Bool, true, false, ◌&&◌, cond, List, [], ◌∷◌, drop, refl, sym, ◌∙◌, subst, arith}
use Rattle.std.specs.Prelude.{Option, Some, None}
use Rattle.std.proofs.lemmas.Bool.{ltb-true, leb-true}
use Rattle.std.proofs.lemmas.List.{drop_all}
use Rattle.cqlp_note.specs.declared.refusal.Refusal.{Refusal}
use Rattle.cqlp_note.specs.Limits.{Rules}
use Rattle.cqlp_decode.specs.Reading.{Event, Gifts}
use Rattle.cqlp_decode.specs.Streams.{Decoding, state, After, IsUnrefused}
use Rattle.cqlp_grammar.specs.declared.event.Finish.{Finish}
use Rattle.cqlp_grammar.specs.declared.event.Finish.TheVariants as finish
use Rattle.cqlp_skip.specs.declared.frame.OpenFrame.{OpenFrame}
use Rattle.cqlp_skip.specs.Stretches.{Stretch, GivenUp, IsGivenUp, end_of, end_within}
use Rattle.cqlp_skip.specs.Skipping.{AfterSkips}
use Rattle.cqlp_skip.proofs.Feeding.{skipping}

-- a frame's end that has an offset
within_by : (a b : Bool) (n end : ℕ) → ◌≡◌ {A = Option ℕ} (cond (a && b) (Some n) None) (Some end) → (a ≡ true) × (b ≡ true) × (end ≡ n)
within_by true true n end is = (refl, refl, cc)
within_by true false n end is = absurd cc
within_by false b n end is = absurd cc

pub end_there : (f : OpenFrame) (base used end : ℕ) → end_within f base used ≡ Some end → (end < 2 ^ 64 - 1) × (used ≤ end) × (end ≡ base + end_of f)
end_there f base used end is =
    let w = within_by (ltb (base + end_of f) (2 ^ 64 - 1)) (leb used (base + end_of f)) (base + end_of f) end is in
    (omega (arith, ltb-true (base + end_of f) (2 ^ 64 - 1) w.0, w.2), omega (arith, leb-true used (base + end_of f) w.1, w.2), w.2)

module _ (d d' : Decoding) (base used last last' : ℕ) (f : OpenFrame) (r : Refusal) (end : ℕ) (was : (state d).refusal ≡ Some r) (there : end_within f base used ≡ Some end) (fresh : After (state d') [] []) (unrefused : (state d').refusal ≡ None) (rules : (state d').rules ≡ (state d).rules) where
  -- one more stretch was given up
  pub skips_on : (xs s : List ℕ) (stretches : List Stretch) (gifts : Gifts) (es : List (ℕ × Event)) → AfterSkips xs (skipping d base used (Some f) last) s stretches gifts es
      → AfterSkips xs (skipping d' end used None last') s (record { from = base; gifts = gifts; events = es; frame = f; refusal = r } ∷ stretches) [] []
  skips_on xs s stretches gifts es a =
      let e = end_there f base used end there in
      let x : Stretch = record { from = base; gifts = gifts; events = es; frame = f; refusal = r } in
      let given : IsGivenUp (state d).rules (drop base xs) x = (a.refused r was, sym a.frame) in
      let gone : drop end s ≡ [] = drop_all end s (omega (arith, a.used, e.0, e.1)) in
      record {
        unread = a.unread;
        whole = a.whole;
        given_up = subst (λ (l : Rules). GivenUp l xs (x ∷ stretches)) (sym rules) (a.base, given, a.given_up);
        base = e.2;
        conforms = rw gone fresh;
        frame = refl;
        used = a.used;
        near = omega (arith, e.0);
        refused = λ q is. absurd (let no = sym unrefused ∙ is in cc);
      }

-- what `finish` says of a refusal is what the decoder has refused
refused_is : (o : Option Refusal) (x : Finish) (r : Refusal) → ((q : Refusal) → o ≡ Some q → x ≡ finish.Refused q) → (o ≡ None → IsUnrefused x) → x ≡ finish.Refused r → o ≡ Some r
refused_is None x r some none is = absurd (subst IsUnrefused is (none refl))
refused_is (Some q) x r some none is = let same : ◌≡◌ {A = Finish} (finish.Refused q) (finish.Refused r) = sym (some q refl) ∙ is in cc

-- the same, of what a skip finds
pub goes_behind : (d d' : Decoding) (base used last last' : ℕ) (frame : Option OpenFrame) (f : OpenFrame) (end : ℕ) → frame ≡ Some f
    → (x : Finish) (r : Refusal) → ((q : Refusal) → (state d).refusal ≡ Some q → x ≡ finish.Refused q) → ((state d).refusal ≡ None → IsUnrefused x) → x ≡ finish.Refused r
    → end_within f base used ≡ Some end → After (state d') [] [] → (state d').refusal ≡ None → (state d').rules ≡ (state d).rules
    → (xs s : List ℕ) (stretches : List Stretch) (gifts : Gifts) (es : List (ℕ × Event)) → AfterSkips xs (skipping d base used frame last) s stretches gifts es
    → (f' : OpenFrame) × (r' : Refusal) × (frame ≡ Some f') × ((state d).refusal ≡ Some r') × AfterSkips xs (skipping d' end used None last') s (record { from = base; gifts = gifts; events = es; frame = f'; refusal = r' } ∷ stretches) [] []
goes_behind d d' base used last last' frame f end under x r some none is there fresh unrefused rules xs s stretches gifts es a =
    let was = refused_is (state d).refusal x r some none is in
    let a' = subst (λ (o : Option OpenFrame). AfterSkips xs (skipping d base used o last) s stretches gifts es) under a in
    (f, r, under, was, skips_on d d' base used last last' f r end was there fresh unrefused rules xs s stretches gifts es a')

-- a stream of which nothing was read
pub starts : (d : Decoding) (xs : List ℕ) → After (state d) [] [] → (state d).refusal ≡ None → AfterSkips xs (skipping d 0 0 None 0) [] [] [] []
starts d xs fresh unrefused = record {
  unread = xs;
  whole = refl;
  given_up = tt;
  base = refl;
  conforms = fresh;
  frame = refl;
  used = refl;
  near = omega arith;
  refused = λ q is. absurd (let no = sym unrefused ∙ is in cc);
}
