use Rattle.std.proofs.Common.{◌≡◌, ◌+◌, ◌-◌, ◌*◌, ◌≤◌, List, ℕ, length, take, drop, Some, None}
use Rattle.std.specs.Ptr.{as_ptr}
use Rattle.cqlp_note.specs.declared.refusal.Refusal.{Refusal}
use Rattle.cqlp_decode.specs.Reading.{Event, Gifts}
use Rattle.cqlp_decode.specs.Streams.{AfterGifts, state}
use Rattle.cqlp_c.specs.Batches.{due}
use Rattle.cqlp_c.specs.Course.{begun_by}
use Rattle.cqlp_c.proofs.Fills.{IsFilled}
use Rattle.cqlp_c.proofs.batch.fill_room.Given as goal

-- what is used is of the input, and its events are in the array
abbrev pub invariant-slots : goal.invariant-slots
invariant-slots l = record {
  within : l.used ≤ length l.source.input.now;
  room : l.count ≤ length l.events;
  long : length l.events ≡ length l.fn.events;
  rules : (state l.decoder).rules ≡ (state l.fn.decoder).rules;
  refused : (r : Refusal) → (state l.fn.decoder).refusal ≡ Some r → (state l.decoder ≡ state l.fn.decoder) × (l.count ≡ 0) × (l.used ≡ 0);
  clear : (state l.fn.decoder).refusal ≡ None → (state l.decoder).refusal ≡ None;
  same : (state l.decoder).refusal ≡ (state l.fn.decoder).refusal;
  pays : due (state l.decoder) + l.count ≤ due (state l.fn.decoder) + 2 * l.used;
  others : drop l.count l.events ≡ drop l.count l.fn.events;
  framed : l.frame ≡ begun_by l.fn.frame (take l.count l.events);
  filled : (gifts : Gifts) (s : List ℕ) (es : List (ℕ × Event)) → AfterGifts gifts (state l.fn.decoder) s es → IsFilled gifts (state l.fn.decoder).rules (state l.decoder) s l.source.input.now (as_ptr l.source.input) es l.used (take l.count l.events);
}

abbrev pub decreases-slots : goal.decreases-slots
decreases-slots l = length l.events - l.count
