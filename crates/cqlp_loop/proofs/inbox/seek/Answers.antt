use Rattle.std.proofs.Common.{◌≤◌, [], length, drop, sym, ◌∙◌, arith}
use Rattle.std.proofs.lemmas.List.{length-drop}
use Rattle.cqlp_decode.specs.Streams.{state}
use Rattle.cqlp_decode.proofs.Gets.{rest_is}
use Rattle.cqlp_loop.specs.Inboxes.{awaiting}
use Rattle.cqlp_loop.proofs.Seeking.{is_at, emits_none, emits_skipped, emits_mark, emits_more, says_more, says_refused, stops_mark}
use Rattle.cqlp_loop.proofs.inbox.seek.Goals as goal

pub events-init : goal.events-init
events-init c = record {
  within = omega arith;
  emits = λ hs. emits_none (state c.args.decoder.now) (awaiting c.args.edge hs);
}

pub returns-in-More : goal.returns-in-More
returns-in-More c =
    let goes = rw c.in-More.is at c.next.follows.holds-at-none.0 in
    let leads = rw (c.in-More.is, rest_is) at c.next.follows.holds-at-none.1 in (
      λ hs. says_more (state c.args.decoder.now) (state c.events.decoder) (state c.next.follows.lender-at-none) c.args.piece.now c.events.used c.args.edge hs (c.events.invariant.emits hs) _ goes leads,
      λ hs. emits_more (state c.args.decoder.now) (state c.events.decoder) (state c.next.follows.lender-at-none) c.args.piece.now c.events.used c.args.edge hs (c.events.invariant.emits hs) _ goes leads,
    )

pub returns-in-Some : goal.returns-in-Some
returns-in-Some c =
    let taken : c.in-Event.taken ≤ length (drop c.events.used c.args.piece.now) = rw rest_is at c.in-Event.ensures.uses in
    let left = length-drop c.events.used c.args.piece.now in
    let within = c.events.invariant.within in
    let goes = rw c.in-Event.is at c.next.follows.holds-at-none.0 in
    let leads = rw (c.in-Event.is, rest_is) at c.next.follows.holds-at-none.1 in
    let is = sym c.mark_in.ensures ∙ c.in-Some.is in (
      omega arith,
      is_at c.args.edge _ c.in-Some.mark is,
      stops_mark (state c.args.decoder.now) (state c.events.decoder) (state c.next.follows.lender-at-none) c.args.piece.now c.events.used c.args.edge [] (c.events.invariant.emits []) c.in-Event.at c.in-Event.taken c.in-Event.event c.in-Some.mark leads is,
      λ hs. emits_mark (state c.args.decoder.now) (state c.events.decoder) (state c.next.follows.lender-at-none) c.args.piece.now c.events.used c.args.edge hs (c.events.invariant.emits hs) c.in-Event.at c.in-Event.taken c.in-Event.event c.in-Some.mark goes leads is,
    )

pub events-preserved : goal.events-preserved
events-preserved c =
    let taken : c.in-Event.taken ≤ length (drop c.events.used c.args.piece.now) = rw rest_is at c.in-Event.ensures.uses in
    let left = length-drop c.events.used c.args.piece.now in
    let within = c.events.invariant.within in
    let goes = rw c.in-Event.is at c.next.follows.holds-at-none.0 in
    let leads = rw (c.in-Event.is, rest_is) at c.next.follows.holds-at-none.1 in
    let is = sym c.mark_in.ensures ∙ c.in-None.is in
    record {
      within = omega arith;
      emits = λ hs. emits_skipped (state c.args.decoder.now) (state c.events.decoder) (state c.next.follows.lender-at-none) c.args.piece.now c.events.used c.args.edge hs (c.events.invariant.emits hs) c.in-Event.at c.in-Event.taken c.in-Event.event goes leads is;
    }

pub returns-in-Refused : goal.returns-in-Refused
returns-in-Refused c =
    let leads = rw (c.in-Refused.is, rest_is) at c.next.follows.holds-at-none.1 in
    (_, λ hs. says_refused (state c.args.decoder.now) (state c.events.decoder) (state c.next.follows.lender-at-none) c.args.piece.now c.events.used c.args.edge hs (c.events.invariant.emits hs) _ leads)
