-- How a stream over skips ends, and that a call over skips has one answer.
use Rattle.std.proofs.Common.{◌≡◌, ℕ, ◌-◌, ◌^◌, ◌≤◌, List, [], ◌∷◌, length, take, drop, refl, sym, ap, ◌∙◌, subst, arith}
use Rattle.std.specs.Prelude.{min, Option, Some, None}
use Rattle.std.specs.Ptr.{Ptr}
use denote.RawPtr.{◌+ₚ◌}
use Rattle.std.proofs.lemmas.Bool.{le-ltb, lt-ltb}
use Rattle.std.proofs.lemmas.List.{length-drop}
use Rattle.cqlp_note.specs.declared.refusal.Refusal.{Refusal}
use Rattle.cqlp_grammar.specs.declared.event.Finish.{Finish}
use Rattle.cqlp_grammar.specs.declared.event.Finish.TheVariants as finish
use Rattle.cqlp_decode.specs.Reading.{Event}
use Rattle.cqlp_decode.specs.Streams.{FinishesBy, state}
use Rattle.cqlp_skip.specs.Stretches.{frame_under_way, stream_offset}
use Rattle.cqlp_skip.specs.Skipping.{Skipping}
use Rattle.cqlp_skip.specs.Skipping as skip
use Rattle.cqlp_c.specs.declared.batch.Batch.{Batch}
use Rattle.cqlp_c.specs.declared.course.CqlpBegun.{CqlpBegun}
use Rattle.cqlp_c.specs.declared.course.CqlpCourse.{CqlpCourse}
use Rattle.cqlp_c.specs.declared.event.CqlpEvent.{CqlpEvent}
use Rattle.cqlp_c.specs.Batches.{Put, buffer_in}
use Rattle.cqlp_c.specs.Course.{batch_from, begun_after, begun_by, finish_from, gone_on}
use Rattle.cqlp_c.specs.Handle.{PutsInto}
use Rattle.cqlp_c.specs.Laws.{AreSame}
use Rattle.cqlp_c.specs.Stretched.{FinishEndsThere, IsOneAnswerOverSkips, skipping_of}
use Rattle.cqlp_c.proofs.OneBatch.{one_answer}

-- ---- the end

ends_so : (d : Skipping) (s : List ℕ) (events : List (ℕ × Event)) (o : Option Refusal) (f : Finish) → d.used ≡ min (length s) (2 ^ 64 - 1) → d.base ≤ d.used → FinishesBy o (drop d.base s) events f → finish_from d.base f ≡ skip.finish_from d f
ends_so d s events None (finish.Whole bytes) used le h = ap finish.Whole (omega (arith, h.0, length-drop d.base s, used, le))
ends_so d s events None (finish.Cut frame_at bytes) used le h = ap (λ (n : ℕ). finish.Cut (stream_offset d.base frame_at) n) (omega (arith, h.0, length-drop d.base s, used, le))
ends_so d s events None (finish.Refused r) used le h = absurd h
ends_so d s events (Some r) (finish.Whole bytes) used le h = absurd (let e = h in cc)
ends_so d s events (Some r) (finish.Cut frame_at bytes) used le h = absurd (let e = h in cc)
ends_so d s events (Some r) (finish.Refused q) used le h = refl

pub finishes : FinishEndsThere
finishes xs s d c stretches gifts events f a is = record {
  within = λ lt. rw (lt-ltb c.used c.base lt) refl;
  behind = λ le. (f, is.0, rw (le-ltb c.used c.base le) (ends_so (skipping_of d c (frame_under_way events)) s events (state d).refusal f a.conforms.used le (is.0 gifts (drop c.base s) events a.conforms.conforms)));
}

-- ---- one answer

-- where contents lie is no part of what a frame is
begun_same : (x y : Ptr) (f : CqlpBegun) (ps : List Put) (cs ds : List CqlpEvent) → AreSame x y ps cs ds → begun_by f ds ≡ begun_by f cs
begun_same x y f [] [] [] h = refl
begun_same x y f [] [] (d ∷ ds) h = absurd h
begun_same x y f [] (c ∷ cs) ds h = absurd h
begun_same x y f (p ∷ ps) [] ds h = absurd h
begun_same x y f (p ∷ ps) (c ∷ cs) [] h = absurd h
begun_same x y f (p ∷ ps) (c ∷ cs) (d ∷ ds) h = ap (λ (g : CqlpBegun). begun_by g ds) (ap (begun_after f) h.0) ∙ begun_same x y (begun_after f c) ps cs ds h.3

pub one_over_skips : IsOneAnswerOverSkips
one_over_skips gifts s events old new new' from to to' input begins b b' before after after' a p q =
    let same : q.passed ≡ p.passed = q.is_passed ∙ sym p.is_passed in
    let puts = subst (λ (n : ℕ). PutsInto (state old) (state new') (drop n input) (begins +ₚ n) (buffer_in new') q.own before q.events) same q.puts in
    let one = one_answer gifts (state old) (state new) (state new') (drop from.base s) (drop p.passed input) (begins +ₚ p.passed) (buffer_in new) (buffer_in new') events p.own q.own before p.events q.events a p.puts puts in
    let batch : b' ≡ b = q.batch ∙ ap (λ (n : ℕ). batch_from from.base n q.own) same ∙ ap (λ (z : Batch). batch_from from.base p.passed z) one.batch ∙ sym p.batch in
    let count : q.own.events ≡ p.own.events = ap (λ (z : Batch). z.events) one.batch in
    let frame : begun_by from.frame (take q.own.events q.events) ≡ begun_by from.frame (take p.own.events p.events) =
    ap (λ (n : ℕ). begun_by from.frame (take n q.events)) count ∙ begun_same (buffer_in new).at (buffer_in new').at from.frame one.puts (take p.own.events p.events) (take p.own.events q.events) one.events in
    let reached : (n m : ℕ) (f g : CqlpBegun) → m ≡ n → g ≡ f → ◌≡◌ {A = CqlpCourse} (record (gone_on from m) { frame = g }) (record (gone_on from n) { frame = f }) = λ n m f g e h. ap (λ (k : ℕ). record (gone_on from k) { frame = g }) e ∙ ap (λ (z : CqlpBegun). record (gone_on from n) { frame = z }) h in
    (batch, q.course ∙ reached b.used b'.used _ _ (ap (λ (z : Batch). z.used) batch) frame ∙ sym p.course)
