-- What a skip leaves, in the words of cqlp_skip.
use Rattle.std.proofs.Common.{◌≡◌, ℕ, ◌+◌, ◌-◌, List, [], ◌∷◌, refl, sym, ap, ◌∙◌, subst, inl, inr, arith}
use Rattle.std.specs.Prelude.{Option, Some, None, Result, Ok, Err, ◌⊎◌}
use Rattle.cqlp_note.specs.declared.refusal.Refusal.{Refusal}
use Rattle.cqlp_decode.specs.Reading.{Event, Gifts}
use Rattle.cqlp_decode.specs.Streams.{Decoding, state}
use Rattle.cqlp_skip.specs.declared.frame.OpenFrame.{OpenFrame}
use Rattle.cqlp_skip.specs.Stretches.{Stretch, end_within, frame_under_way, stream_offset}
use Rattle.cqlp_skip.specs.Skipping.{AfterSkips, skip_by, skip_of, skip_to, stretch_given_up}
use Rattle.cqlp_skip.proofs.Skips.{end_there, skips_on}
use Rattle.cqlp_c.specs.declared.course.CqlpBegun.{CqlpBegun}
use Rattle.cqlp_c.specs.declared.course.CqlpCourse.{CqlpCourse}
use Rattle.cqlp_c.specs.declared.course.CqlpSkipped.{CqlpSkipped}
use Rattle.cqlp_c.specs.Course as course
use Rattle.cqlp_c.specs.declared.course.Unskippable.{Unskippable}
use Rattle.cqlp_laws.specs.OneAnswer.{IsAtStart}
use Rattle.cqlp_c.specs.Handle.{BeginsAgain, PassesBy, PassesOver}
use Rattle.cqlp_c.specs.Stretched.{AfterCalls, IsOneAnswerOfSkip, SkipsBy, begun_of, skipping_of}

module _ (xs s : List ℕ) (old new : Decoding) (from to : CqlpCourse) (stretches : List Stretch) (gifts : Gifts) (events : List (ℕ × Event)) (code : ℕ) (was written : CqlpSkipped) where
  -- what cqlp_skip answers, and what is passed over, by what is refused, the frame under way, and its end
  skips_to : (f : OpenFrame) (r : Refusal) → (state old).refusal ≡ Some r → frame_under_way events ≡ Some f → AfterSkips xs (skipping_of old from (Some f)) s stretches gifts events
      → (end : Option ℕ) → end_within f from.base from.used ≡ end → PassesBy (course.skip_to end r (record from { frame = begun_of (Some f) })) old from code new to was written → SkipsBy (skip_to end r f from.base from.used) xs old new from to s stretches gifts events code was written
  skips_to f r refused under a None there h = h
  skips_to f r refused under a (Some end) there h =
      let e = end_there f from.base from.used end there in
      let behind : from.used + (end - from.used) ≡ end = omega (arith, e.1) in
      let reached : CqlpCourse = record { base = end; used = from.used; last = stream_offset from.base f.at; frame = course.no_frame } in
      let at : to ≡ reached = h.2 ∙ ap (λ (n : ℕ). record reached { base = n }) behind in
      let conforms : AfterCalls xs new reached s (stretch_given_up (skipping_of old from (Some f)) gifts events f r ∷ stretches) [] [] = record {
        conforms = skips_on old new from.base from.used from.last (stream_offset from.base f.at) f r end refused there h.1.fresh h.1.unrefused h.1.rules xs s stretches gifts events a;
        frame = refl;
      } in
      (h.0, h.3, f, r, under, refused, subst (λ (c : CqlpCourse). AfterCalls xs new c s (stretch_given_up (skipping_of old from (Some f)) gifts events f r ∷ stretches) [] []) (sym at) conforms)

  skips_by : (o : Option Refusal) → (state old).refusal ≡ o → (f : Option OpenFrame) → frame_under_way events ≡ f → AfterSkips xs (skipping_of old from f) s stretches gifts events
      → PassesBy (course.skip_by o (record from { frame = begun_of f })) old from code new to was written → SkipsBy (skip_by o f from.base from.used) xs old new from to s stretches gifts events code was written
  skips_by None refused f under a h = h
  skips_by (Some r) refused None under a h = h
  skips_by (Some r) refused (Some f) under a h = skips_to f r refused under a (end_within f from.base from.used) refl h

  pub skips : AfterCalls xs old from s stretches gifts events → PassesOver old from code new to was written → SkipsBy (skip_of (skipping_of old from (frame_under_way events))) xs old new from to s stretches gifts events code was written
  skips a h = skips_by (state old).refusal refl (frame_under_way events) refl a.conforms (subst (λ (g : CqlpBegun). PassesBy (course.skip_by (state old).refusal (record from { frame = g })) old from code new to was written) a.frame h)

-- ---- one answer

at_start : (d e : Decoding) → BeginsAgain d e → IsAtStart (state d).rules e
at_start d e b = record { fresh = b.fresh; unrefused = b.unrefused; rules = b.rules; nothing_held = b.nothing_held; nothing_given = b.nothing_given }

one_skip : (r : Result CqlpSkipped Unskippable) (d e e' : Decoding) (from to to' : CqlpCourse) (code code' : ℕ) (was written written' : CqlpSkipped) → PassesBy r d from code e to was written → PassesBy r d from code' e' to' was written'
    → (code' ≡ code) × (to' ≡ to) × (written' ≡ written) × ((e' ≡ e) ⊎ (IsAtStart (state d).rules e × IsAtStart (state d).rules e'))
one_skip (Err why) d e e' from to to' code code' was written written' x y = (y.0 ∙ sym x.0, y.2 ∙ sym x.2, y.3 ∙ sym x.3, inl (y.1 ∙ sym x.1))
one_skip (Ok s) d e e' from to to' code code' was written written' x y = (y.0 ∙ sym x.0, y.2 ∙ sym x.2, y.3 ∙ sym x.3, inr (at_start d e x.1, at_start d e' y.1))

pub one_answer : IsOneAnswerOfSkip
one_answer d e e' from to to' code code' was written written' x y = one_skip (course.skip_by (state d).refusal from) d e e' from to to' code code' was written written' x y
