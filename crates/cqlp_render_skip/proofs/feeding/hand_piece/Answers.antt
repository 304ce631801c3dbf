use Rattle.std.proofs.Common.{◌++◌, List, ℕ, [], Ok, refl, sym, subst, append-nil, append_assoc, take, arith}
use Rattle.cqlp_decode.proofs.Gets.{rest_is}
use Rattle.cqlp_render.proofs.Buffering.{goes_nowhere}
use Rattle.cqlp_skip.specs.Skipping.{BeginsAnew, SkipsOn}
use Rattle.cqlp_render_skip.specs.Reporting.{Reports}
use Rattle.cqlp_render_skip.proofs.Outgoing.{passes_keep}
use Rattle.cqlp_render_skip.proofs.Stretching.{begins_later, both_go, fails_over, fed_fault, fed_more, fed_refused, kept_goes, next_parts, next_split, refused_here, reports_over, skips, still_known, whole_piece}
use Rattle.cqlp_render_skip.proofs.feeding.hand_piece.Goals as goal

pub stretches-init : goal.stretches-init
stretches-init g c = record {
  goes = (goes_nowhere _, goes_nowhere _);
  emitted = ([], refl, λ form k xs s later first fresh known is r. subst (λ (z : List ℕ). Reports form k xs first c.args.decoder.now z c.args.report) (sym (append-nil s)) r);
}

pub returns-in-More-clause-goes_on : goal.returns-in-More-clause-goes_on
returns-in-More-clause-goes_on g c = kept_goes c.args.report c.stretches.reporter c.feed-fed.result.1 c.stretches.invariant.goes (passes_keep _ _ c.feed-fed.ensures.also)

pub returns-in-Fault-clause-goes_on : goal.returns-in-Fault-clause-goes_on
returns-in-Fault-clause-goes_on g c = kept_goes c.args.report c.stretches.reporter c.feed-fed.result.1 c.stretches.invariant.goes (passes_keep _ _ c.feed-fed.ensures.also)

pub returns-in-More-clause-hands : goal.returns-in-More-clause-hands
returns-in-More-clause-hands g c = λ form k xs s later first fresh known is r.
    let inv = c.stretches.invariant.emitted in
    let r0 = inv.2 form k xs s later first fresh known is r in
    let keep = passes_keep c.stretches.reporter c.feed-fed.result.1 c.feed-fed.ensures.also in
    let feeds = c.feed-fed.ensures.feeds (still_known form k xs first c.stretches.decoder (s ++ inv.0) c.stretches.reporter r0 known).0 in
    fed_more form k xs first c.stretches.decoder c.feed-fed.new.self (s ++ inv.0) c.stretches.rest.now later c.stretches.reporter c.feed-fed.result.1 r0 (next_parts xs s c.args.piece.now inv.0 c.stretches.rest.now later inv.1 is)
    c.feed-fed.ensures.rules c.feed-fed.ensures.place.1 keep.1 keep.2 (rw c.in-More.is at feeds) (rw c.in-More.is at c.feed-fed.ensures.refusal) s c.args.piece.now (whole_piece s c.args.piece.now inv.0 c.stretches.rest.now inv.1)

pub returns-in-Fault-clause-hands : goal.returns-in-Fault-clause-hands
returns-in-Fault-clause-hands g c = λ form k xs s later first fresh known is r.
    let inv = c.stretches.invariant.emitted in
    let r0 = inv.2 form k xs s later first fresh known is r in
    let keep = passes_keep c.stretches.reporter c.feed-fed.result.1 c.feed-fed.ensures.also in
    let feeds = c.feed-fed.ensures.feeds (still_known form k xs first c.stretches.decoder (s ++ inv.0) c.stretches.reporter r0 known).0 in
    fed_fault form k xs first c.stretches.decoder c.feed-fed.new.self (s ++ inv.0) c.stretches.rest.now later c.stretches.reporter c.feed-fed.result.1 r0 (next_parts xs s c.args.piece.now inv.0 c.stretches.rest.now later inv.1 is)
    c.feed-fed.ensures.rules c.feed-fed.ensures.place.1 keep.1 keep.2 c.in-Fault.used (rw c.in-Fault.is at feeds)

pub returns-in-Err-clause-goes_on : goal.returns-in-Err-clause-goes_on
returns-in-Err-clause-goes_on g c = kept_goes c.args.report c.stretches.reporter c.feed-fed.result.1 c.stretches.invariant.goes (passes_keep _ _ c.feed-fed.ensures.also)

pub returns-in-Err-clause-hands : goal.returns-in-Err-clause-hands
returns-in-Err-clause-hands g c = λ form k xs s later first fresh known is r.
    let inv = c.stretches.invariant.emitted in
    let r0 = inv.2 form k xs s later first fresh known is r in
    let keep = passes_keep c.stretches.reporter c.feed-fed.result.1 c.feed-fed.ensures.also in
    let feeds = c.feed-fed.ensures.feeds (still_known form k xs first c.stretches.decoder (s ++ inv.0) c.stretches.reporter r0 known).0 in
    let r1 = fed_refused form k xs first c.stretches.decoder c.feed-fed.new.self (s ++ inv.0) c.stretches.rest.now later c.stretches.reporter c.feed-fed.result.1 r0 (next_parts xs s c.args.piece.now inv.0 c.stretches.rest.now later inv.1 is)
    c.feed-fed.ensures.rules c.feed-fed.ensures.place.1 keep.1 keep.2 c.in-Refused.used c.in-Refused.refusal (rw c.in-Refused.is at feeds) in
    refused_here form k xs first c.feed-fed.new.self c.skip.new.self ((s ++ inv.0) ++ take c.in-Refused.used c.stretches.rest.now) s c.args.piece.now c.feed-fed.result.1 c.in-Refused.refusal c.in-Refused.used c.in-Err.field-0 c.skip.result r1
    (rw c.in-Refused.is at c.feed-fed.ensures.refusal) c.skip.ensures.is c.in-Err.is (rw c.in-Err.is at c.skip.ensures.anew)

pub returns-in-Err-end_stretch-clause-goes_on : goal.returns-in-Err-end_stretch-clause-goes_on
returns-in-Err-end_stretch-clause-goes_on g c =
    both_go c.args.report c.feed-fed.result.1 c.end_stretch.new.self (kept_goes c.args.report c.stretches.reporter c.feed-fed.result.1 c.stretches.invariant.goes (passes_keep _ _ c.feed-fed.ensures.also)) c.end_stretch.ensures.goes_on

pub returns-in-Err-end_stretch-clause-hands : goal.returns-in-Err-end_stretch-clause-hands
returns-in-Err-end_stretch-clause-hands g c = λ form k xs s later first fresh known is r.
    let inv = c.stretches.invariant.emitted in
    let r0 = inv.2 form k xs s later first fresh known is r in
    let keep = passes_keep c.stretches.reporter c.feed-fed.result.1 c.feed-fed.ensures.also in
    let feeds = c.feed-fed.ensures.feeds (still_known form k xs first c.stretches.decoder (s ++ inv.0) c.stretches.reporter r0 known).0 in
    let r1 = fed_refused form k xs first c.stretches.decoder c.feed-fed.new.self (s ++ inv.0) c.stretches.rest.now later c.stretches.reporter c.feed-fed.result.1 r0 (next_parts xs s c.args.piece.now inv.0 c.stretches.rest.now later inv.1 is)
    c.feed-fed.ensures.rules c.feed-fed.ensures.place.1 keep.1 keep.2 c.in-Refused.used c.in-Refused.refusal (rw c.in-Refused.is at feeds) in
    let s1 = (s ++ inv.0) ++ take c.in-Refused.used c.stretches.rest.now in
    let d1 = c.feed-fed.new.self in
    let known1 = still_known form k xs first d1 s1 c.feed-fed.result.1 r1 known in
    let x = c.in-Ok.skipped in
    let skip = skips d1 x c.skip.result c.skip.ensures.is c.in-Ok.is in
    let on : SkipsOn (Ok x) d1 c.skip.new.self = rw c.in-Ok.is at c.skip.ensures.goes_on in
    let anew : BeginsAnew (Ok x) d1 c.skip.new.self = rw c.in-Ok.is at c.skip.ensures.anew in
    fails_over form k xs first d1 s1 c.feed-fed.result.1 r1 c.skip.new.self s1 c.end_stretch.new.self x skip on anew fresh c.end_stretch.ensures.passed c.in-Err-end_stretch.field-0 (c.in-Err-end_stretch.ensures.ends known1.0 known1.1)

pub stretches-smaller : goal.stretches-smaller
stretches-smaller g c =
    let d1 = c.feed-fed.new.self in
    let x = c.in-Ok.skipped in
    let anew : BeginsAnew (Ok x) d1 c.skip.new.self = rw c.in-Ok.is at c.skip.ensures.anew in
    let later = begins_later d1 c.skip.new.self x (skips d1 x c.skip.result c.skip.ensures.is c.in-Ok.is) anew.2 in
    let place = c.feed-fed.ensures.place.0 in
    let less = later.0 in
    let near = later.1 in
    omega (arith, less, near, place)

pub stretches-preserved : goal.stretches-preserved
stretches-preserved g c = record {
  goes = both_go c.args.report c.feed-fed.result.1 c.end_stretch.new.self (kept_goes c.args.report c.stretches.reporter c.feed-fed.result.1 c.stretches.invariant.goes (passes_keep _ _ c.feed-fed.ensures.also)) c.end_stretch.ensures.goes_on;
  emitted = (
    c.stretches.invariant.emitted.0 ++ take c.in-Refused.used c.stretches.rest.now,
    rw rest_is (next_split c.args.piece.now c.stretches.invariant.emitted.0 c.stretches.rest.now c.in-Refused.used c.stretches.invariant.emitted.1),
    λ form k xs s later first fresh known is r.
        let inv = c.stretches.invariant.emitted in
        let r0 = inv.2 form k xs s later first fresh known is r in
        let keep = passes_keep c.stretches.reporter c.feed-fed.result.1 c.feed-fed.ensures.also in
        let feeds = c.feed-fed.ensures.feeds (still_known form k xs first c.stretches.decoder (s ++ inv.0) c.stretches.reporter r0 known).0 in
        let r1 = fed_refused form k xs first c.stretches.decoder c.feed-fed.new.self (s ++ inv.0) c.stretches.rest.now later c.stretches.reporter c.feed-fed.result.1 r0 (next_parts xs s c.args.piece.now inv.0 c.stretches.rest.now later inv.1 is)
        c.feed-fed.ensures.rules c.feed-fed.ensures.place.1 keep.1 keep.2 c.in-Refused.used c.in-Refused.refusal (rw c.in-Refused.is at feeds) in
        let s1 = (s ++ inv.0) ++ take c.in-Refused.used c.stretches.rest.now in
        let d1 = c.feed-fed.new.self in
        let known1 = still_known form k xs first d1 s1 c.feed-fed.result.1 r1 known in
        let x = c.in-Ok.skipped in
        let skip = skips d1 x c.skip.result c.skip.ensures.is c.in-Ok.is in
        let on : SkipsOn (Ok x) d1 c.skip.new.self = rw c.in-Ok.is at c.skip.ensures.goes_on in
        let anew : BeginsAnew (Ok x) d1 c.skip.new.self = rw c.in-Ok.is at c.skip.ensures.anew in
        subst (λ (z : List ℕ). Reports form k xs first c.skip.new.self z c.end_stretch.new.self) (append_assoc s inv.0 (take c.in-Refused.used c.stretches.rest.now))
        (reports_over form k xs first d1 s1 c.feed-fed.result.1 r1 c.skip.new.self s1 c.end_stretch.new.self x skip on anew fresh c.end_stretch.ensures.passed (c.in_default.ensures.ends known1.0 known1.1)),
  );
}
