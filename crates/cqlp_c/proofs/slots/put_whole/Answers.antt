use Rattle.std.proofs.Common.{◌<◌, [], length, take, drop, refl, sym, ap, subst, ◌≡◌, ◌∙◌, ℕ, arith}
use Rattle.std.proofs.lemmas.List.{append-nil}
use Rattle.cqlp_decode.specs.Streams.{state}
use Rattle.cqlp_decode.proofs.Taken.{takes_within}
use Rattle.cqlp_c.specs.Slots.{WritesItems}
use Rattle.cqlp_c.proofs.Putting.{PutsItems, puts_whole, puts_full}
use Rattle.cqlp_c.proofs.slots.put_whole.Goals.{in-Ok, in-Err}
use Rattle.cqlp_c.proofs.slots.put_whole.Goals as goal

pub returns-then-count-events-clause-puts : goal.returns-then-count-events-clause-puts
returns-then-count-events-clause-puts c = record {
  items = [];
  takes = refl;
  all = refl;
  events = [];
  written = λ gifts s es a none. tt;
  first = sym (append-nil _);
  others = refl;
  long = refl;
  count = omega arith;
  frame = refl;
}

-- what the loops put, whether the array is full or not
whole : (c : goal.After-events-1) → PutsItems (state c.args.decoder.now) (state c.hand_whole.new.self) c.args.input.now c.match-hand_whole.used (record { origin = record { input = c.args.input; offset = c.bytes_used.result }; events = record c.args.events { ghost_name = c.slots-1.given }; count = c.args.count; frame = c.args.frame.now }) c.hand_whole.new.sink
whole c =
    let room : c.args.count < length c.args.events.now = omega (arith, c.requires, c.if-count-events.false) in
    elim c.match-hand_whole.branch [
      | in-Ok w ↦ puts_whole _ (λ s t at e h room. ((h.0 room).0, h.1 room)) _ _ _ _ _ w.used-is _ _ room w.in-Ok.ensures.drains
      | in-Err w ↦ puts_full _ (λ s t at e h room. ((h.0 room).0, h.1 room)) _ _ _ _ _ w.used-is _ _ room _ (λ u v at e h. h.1) w.in-Err.ensures.drains
    ]

pub returns-clause-puts : goal.returns-clause-puts
returns-clause-puts c =
    let w = whole c in
    let now : c.events-1.given.0 ≡ c.hand_whole.new.sink.events.now = c.events-1.given.1.1 (sym w.puts.same) in
    record {
      items = w.items;
      takes = w.takes;
      all = w.all;
      events = w.puts.events;
      written = λ gifts s es a none. subst (λ (n : ℕ). WritesItems (record { input = c.args.input; offset = n }) w.puts.events w.items) (c.bytes_used.ensures gifts s es a none) w.puts.written;
      first = ap (take c.hand_whole.new.sink.count) now ∙ w.puts.first;
      others = ap (drop c.hand_whole.new.sink.count) now ∙ w.puts.others;
      long = ap length now ∙ w.puts.long;
      count = w.puts.count;
      frame = w.puts.frame;
    }

pub returns-clause-within : goal.returns-clause-within
returns-clause-within c =
    let w = whole c in
    let within = takes_within _ _ _ w.items w.takes in
    (omega (arith, within, w.all), omega (arith, w.puts.fits, w.puts.long))
