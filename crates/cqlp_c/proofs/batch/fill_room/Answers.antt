use Rattle.std.proofs.Common.{◌≡◌, ℕ, ◌+◌, ◌-◌, ◌≤◌, List, ◌++◌, length, take, drop, refl, sym, ap, subst, ◌∙◌, arith}
use Rattle.std.specs.Prelude.{Option, Some, None, set}
use Rattle.std.specs.Borrow.{Bor}
use Rattle.std.specs.Ptr.{Ptr, as_ptr, block_ptr}
use denote.RawPtr.{◌+ₚ◌}
use Rattle.cqlp_note.specs.declared.refusal.Refusal.{Refusal}
use Rattle.std.proofs.lemmas.Bool.{ltb-true, ltb-false}
use Rattle.std.proofs.lemmas.List.{take_more_set, drop-set-lt, length-set, length-take-le, length-append, length-drop}
use Rattle.cqlp_decode.specs.Progress.{StreamState}
use Rattle.cqlp_decode.specs.Streams.{state}
use Rattle.cqlp_decode.proofs.Leads.{repeated}
use Rattle.cqlp_decode.proofs.Gets.{rest_is}
use Rattle.cqlp_c.specs.declared.batch.Stop.TheVariants as stop
use Rattle.cqlp_c.specs.declared.event.CqlpEvent.{CqlpEvent}
use Rattle.cqlp_grammar.specs.Events.{Event, event_of}
use Rattle.cqlp_c.specs.Batches.{Put, WritesStep, buffer_in, events_of, put_of}
use Rattle.cqlp_decode.proofs.Taken.{takes_pays}
use Rattle.cqlp_c.specs.Course.{begun_after}
use Rattle.cqlp_c.proofs.Beginning.{begun_more, begun_one}
use Rattle.cqlp_c.proofs.Fills.{filled_none, filled_more, fills_gathered, fills_full}
use Rattle.cqlp_c.proofs.Gathering.{step_put}
use Rattle.cqlp_c.proofs.Handed.{filled_items, span_size}
use Rattle.cqlp_c.proofs.Putting.{drops_more}
use Rattle.cqlp_c.proofs.batch.fill_room.Goals as goal

drops : {X : Type 0} (n : ℕ) (xs ys : List X) → drop n xs ≡ drop n ys → drop (n + 1) xs ≡ drop (n + 1) ys
drops n xs ys same = drops_more n 1 xs ys same

same_refusal : (mid old : Option Refusal) → mid ≡ old → (new : Option Refusal) → new ≡ None → ((r : Refusal) → mid ≡ Some r → ⊥) → new ≡ old
same_refusal None old is new none some = none ∙ is
same_refusal (Some r) old is new none some = absurd (some r refl)

-- the event of a step lies where it says
put_at : (begins : Ptr) (c : CqlpEvent) (at : ℕ) (e : Event) (used taken end : ℕ) → end ≡ used + taken → WritesStep begins c (put_of at e end taken) → WritesStep begins c (record { at = at; event = e; from = used; end = used + taken })
put_at begins c at e used taken end is writes =
    let from : end - taken ≡ used = omega (arith, is) in
    subst (λ (p : Put). WritesStep begins c p) (λ i. record { at = at; event = e; from = from i; end = is i }) writes

pub returns-then-gathered-clause-fills : goal.returns-then-gathered-clause-fills
returns-then-gathered-clause-fills c = λ gifts s es a.
    let f = c.slots.invariant.filled gifts s es a in
    let begins = as_ptr c.args.input in
    let old = state c.slots.decoder in
    let new = state c.next.follows.lender-at-none in
    let goes = rw c.in-Event.is at c.next.follows.holds-at-none.0 in
    let leads = rw (c.in-Event.is, rest_is) at (c.next.follows.holds-at-none.1 gifts _ _ f.after) in
    let long = length-take-le c.slots.count c.slots.events (omega (arith, c.slots-test.true)) in
    let gathered = ltb-true _ _ (sym c.put_step-gathered.ensures.gathered ∙ c.if-gathered.true) in
    let e = event_of c.in-Event.event in
    let put : Put = record { at = c.in-Event.at; event = e; from = c.slots.used; end = c.slots.used + c.in-Event.taken } in
    let far = length-take-le (c.slots.used + c.in-Event.taken) c.args.input.now (omega (arith, leads.0, c.slots.invariant.within, length-drop c.slots.used c.args.input.now)) in
    let written = put_at begins c.put_step-gathered.new.slot c.in-Event.at e c.slots.used c.in-Event.taken _ far c.put_step-gathered.ensures.writes in
    let held = goes.5 (omega (arith, gathered, span_size e)) in
    let there = c.put_gathered.ensures begins put (omega arith) (omega (arith, gathered)) held written in
    fills_gathered gifts (state c.args.decoder.now).rules old new s c.args.input.now begins es c.slots.used (take c.slots.count c.slots.events) f c.in-Event.at c.in-Event.taken e (goes.2 ∙ c.slots.invariant.rules) c.slots.invariant.within leads c.put_gathered.new.slot (buffer_in c.next.follows.lender-at-none) there (state c.args.decoder.now) (length c.args.events.now) _ _ refl
    (ap (λ (n : ℕ). record { used = c.slots.used + c.in-Event.taken; events = n + 1; stop = stop.Full }) (sym long))
    (rw long (take_more_set c.slots.events c.slots.count c.put_gathered.new.slot c.slots-test.true))
    (omega (arith, gathered))

-- where a content lies is no part of what a frame is
pub returns-then-gathered-clause-frame : goal.returns-then-gathered-clause-frame
returns-then-gathered-clause-frame c =
    let begins = as_ptr c.args.input in
    let goes = rw c.in-Event.is at c.next.follows.holds-at-none.0 in
    let taken : c.in-Event.taken ≤ length (drop c.slots.used c.args.input.now) = rw rest_is at c.in-Event.ensures.uses in
    let gathered = ltb-true _ _ (sym c.put_step-gathered.ensures.gathered ∙ c.if-gathered.true) in
    let e = event_of c.in-Event.event in
    let put : Put = record { at = c.in-Event.at; event = e; from = c.slots.used; end = c.slots.used + c.in-Event.taken } in
    let far = length-take-le (c.slots.used + c.in-Event.taken) c.args.input.now (omega (arith, taken, c.slots.invariant.within, length-drop c.slots.used c.args.input.now)) in
    let t = c.put_step-gathered.ensures.writes in
    let written = put_at begins c.put_step-gathered.new.slot c.in-Event.at e c.slots.used c.in-Event.taken _ far t in
    let there = c.put_gathered.ensures begins put (omega arith) (omega (arith, gathered)) (goes.5 (omega (arith, gathered, span_size e))) written in
    let g = c.slots.frame in
    let one : c.note.new.self ≡ begun_after g c.put_gathered.new.slot = c.note.ensures c.in-Event.at t.0 t.2 ∙ (ap (begun_after g) t.2 ∙ ap (begun_after g) (sym there.2)) in
    begun_one c.args.frame.now g c.note.new.self (take c.slots.count c.slots.events) c.put_gathered.new.slot _ c.slots.invariant.framed one (take_more_set c.slots.events c.slots.count c.put_gathered.new.slot c.slots-test.true)

pub slots-init : goal.slots-init
slots-init c = record {
  within = omega arith;
  room = omega arith;
  long = refl;
  rules = refl;
  refused = λ r is. (refl, refl, refl);
  clear = λ none. none;
  same = refl;
  pays = omega arith;
  others = refl;
  framed = refl;
  filled = λ gifts s es a. filled_none gifts (state c.args.decoder.now).rules (state c.args.decoder.now) s c.args.input.now (as_ptr c.args.input) es a;
}

pub put_whole-put-requires : goal.put_whole-put-requires
put_whole-put-requires c = omega (arith, c.slots-test.true, length-set c.slots.events c.slots.count c.put_step-gathered.new.slot)

pub slots-preserved : goal.slots-preserved
slots-preserved c =
    let i = c.slots.invariant in
    let input = c.args.input.now in
    let old = state c.slots.decoder in
    let mid = state c.next.follows.lender-at-none in
    let new = state c.put_whole-put.new.decoder in
    let array = set c.slots.events c.slots.count c.put_step-gathered.new.slot in
    let after = c.put_whole-put.new.events in
    let used = c.slots.used + c.in-Event.taken in
    let count = c.slots.count + 1 in
    let taken : c.in-Event.taken ≤ length (drop c.slots.used input) = rw rest_is at c.in-Event.ensures.uses in
    let goes = rw c.in-Event.is at c.next.follows.holds-at-none.0 in
    let p = rw rest_is at c.put_whole-put.ensures.puts in
    let w = rw rest_is at c.put_whole-put.ensures.within in
    let stays = c.put_whole-put.ensures.stays in
    let far : used ≤ length input = omega (arith, taken, i.within, length-drop c.slots.used input) in
    let pays = takes_pays mid new (drop used input) p.items p.takes in
    let same = same_refusal old.refusal (state c.args.decoder.now).refusal i.same mid.refusal goes.3 (λ r is.
    let again = (repeated old mid _ old.refusal r is c.next.follows.holds-at-none.2).0 in
    let e = sym c.in-Event.is ∙ again in cc) in
    record {
      within = omega (arith, w.0, far, length-drop used input);
      room = omega (arith, w.1, p.long);
      long = p.long ∙ length-set c.slots.events c.slots.count c.put_step-gathered.new.slot ∙ i.long;
      rules = stays.1 ∙ goes.2 ∙ i.rules;
      refused = λ r is.
          let before = ap (λ (z : StreamState). z.refusal) (i.refused r is).0 ∙ is in
          let again = (repeated old mid _ old.refusal r before c.next.follows.holds-at-none.2).0 in
          absurd (let e = sym c.in-Event.is ∙ again in cc);
      clear = λ none. stays.0 ∙ goes.3;
      same = stays.0 ∙ same;
      pays = omega (arith, pays, p.all, p.count, i.pays, goes.0);
      others =
          let behind : drop count array ≡ drop count c.args.events.now = drop-set-lt count c.slots.events c.slots.count c.put_step-gathered.new.slot (omega arith) ∙ drops c.slots.count c.slots.events c.args.events.now i.others in
          p.others ∙ rw p.count (drops_more count (length p.items) array c.args.events.now behind);
      framed =
          let put = take_more_set c.slots.events c.slots.count c.put_step-gathered.new.slot c.slots-test.true in
          let t = c.put_step-gathered.ensures.writes in
          begun_more c.args.frame.now c.slots.frame c.note.new.self c.put_whole-put.new.frame (take c.slots.count c.slots.events) c.put_step-gathered.new.slot p.events _ i.framed (c.note.ensures c.in-Event.at t.0 t.2) p.frame
          (p.first ∙ ap (λ (z : List CqlpEvent). z ++ p.events) put);
      filled = λ gifts s es a.
          let f = i.filled gifts s es a in
          let leads = rw (c.in-Event.is, rest_is) at (c.next.follows.holds-at-none.1 gifts _ _ f.after) in
          let free = ltb-false _ _ (sym c.put_step-gathered.ensures.gathered ∙ c.if-gathered.false) in
          let rules = goes.2 ∙ i.rules in
          let one =
          filled_more gifts (state c.args.decoder.now).rules old mid s input (as_ptr c.args.input) es c.slots.used (take c.slots.count c.slots.events) f c.in-Event.at c.in-Event.taken (event_of c.in-Event.event) rules i.within leads c.put_step-gathered.new.slot
          (λ b. step_put (as_ptr c.args.input) b c.put_step-gathered.new.slot _ (omega (arith, free)) (put_at (as_ptr c.args.input) c.put_step-gathered.new.slot c.in-Event.at (event_of c.in-Event.event) c.slots.used c.in-Event.taken _ (length-take-le (c.slots.used + c.in-Event.taken) c.args.input.now far) c.put_step-gathered.ensures.writes)) _
          (take_more_set c.slots.events c.slots.count c.put_step-gathered.new.slot c.slots-test.true)
          (omega (arith, free)) in
          let written = p.written gifts (s ++ take used input) (es ++ events_of one.puts) one.after goes.3 in
          let base : length (s ++ take used input) ≡ length s + used = omega (arith, length-append s (take used input), length-take-le used input far) in
          let rest : Bor (List ℕ) = record { ref_ptr = (c.args.input.ref_ptr.0, used + c.args.input.ref_ptr.1); now = drop used input } in
          let there : as_ptr rest ≡ as_ptr c.args.input +ₚ used = ap (block_ptr c.args.input.ref_ptr.0) (omega arith) in
          let all = filled_items gifts (state c.args.decoder.now).rules s input (as_ptr c.args.input) es (record { input = rest; offset = length (s ++ take used input) }) used base (length-drop used input) there mid new used (take count array) p.events p.items one rules leads.2 far (omega arith) p.takes written in
          rw (p.all, p.first) all;
    }

pub slots-smaller : goal.slots-smaller
slots-smaller c =
    let p = rw rest_is at c.put_whole-put.ensures.puts in
    omega (arith, p.long, p.count, length-set c.slots.events c.slots.count c.put_step-gathered.new.slot, c.slots-test.true)

pub returns-clause-fills : goal.returns-clause-fills
returns-clause-fills c = λ gifts s es a.
    let f = c.slots.invariant.filled gifts s es a in
    let d = state c.slots.decoder in
    let long = length-take-le c.slots.count c.slots.events c.slots.invariant.room in
    fills_full gifts (state c.args.decoder.now).rules d d s c.args.input.now (as_ptr c.args.input) es c.slots.used (take c.slots.count c.slots.events) f (buffer_in c.slots.decoder) (state c.args.decoder.now) refl (length c.args.events.now) _ _ refl (sym long) refl refl refl (omega (arith, long, c.slots.invariant.room, c.slots-test.false, c.slots.invariant.long))

pub returns-then-gathered-clause-goes_on : goal.returns-then-gathered-clause-goes_on
returns-then-gathered-clause-goes_on c = λ full.
    let goes = rw c.in-Event.is at c.next.follows.holds-at-none.0 in (
      same_refusal (state c.slots.decoder).refusal (state c.args.decoder.now).refusal c.slots.invariant.same (state c.next.follows.lender-at-none).refusal goes.3 (λ r is.
          let again = (repeated (state c.slots.decoder) (state c.next.follows.lender-at-none) _ (state c.slots.decoder).refusal r is c.next.follows.holds-at-none.2).0 in
          let e = sym c.in-Event.is ∙ again in cc),
      λ some. omega arith,
      let paid = c.slots.invariant.pays in let less = goes.0 in omega (arith, paid, less),
    )
