-- A message that is taken, by what waits under its id.
use Rattle.std.proofs.Common.{◌≡◌, Bool, true, false, refl, Some, None}
use Rattle.std.specs.BTreeMap.{is_at}
use Rattle.std.specs.Ordering.{int_cmp}
use Rattle.cqlp_observer.specs.declared.message.Message.{Message}
use Rattle.cqlp_observer.specs.Messages.{id_of, is_event, meets}
use Rattle.cqlp_observer.specs.Pairings.{Waiting, alone, awaited, exchange, paired, taken, taken_after, under, with_message, without}
use Rattle.cqlp_observer.proofs.Entries.{without_none}

-- where none does
pub taken_gap : {T : Type 0} (m : Message T) (has_room : Bool) (w : Waiting T) → is_event m ≡ false → under (id_of m) w ≡ None → taken m has_room w ≡ awaited m has_room w
taken_gap m has_room w isnt none = rw (isnt, none, without_none (is_at (int_cmp (id_of m))) w none) refl

-- where one does, and the two meet or not
pub met_together : {T : Type 0} (m first : Message T) (has_room : Bool) (w : Waiting T) → under (id_of m) w ≡ Some first → meets first m ≡ true → taken_after (under (id_of m) w) m has_room (without (id_of m) w) ≡ paired (Some (exchange first m)) (without (id_of m) w)
met_together m first has_room w some meet = rw (some, meet) refl

pub met_apart : {T : Type 0} (m first : Message T) (has_room : Bool) (w : Waiting T) → under (id_of m) w ≡ Some first → meets first m ≡ false → taken_after (under (id_of m) w) m has_room (without (id_of m) w) ≡ paired (Some (alone first)) (with_message m (without (id_of m) w))
met_apart m first has_room w some apart = rw (some, apart) refl
