-- What is counted of the messages that wait.
use Rattle.std.proofs.Common.{inl, inr, ◌⊎◌, ◌≡◌, ℕ, List, take, drop, ◌+◌, ◌-◌, ◌<◌, ◌≤◌, Bool, true, false, [], ◌∷◌, length, refl, sym, ap, subst, ◌∙◌, arith, Option, Some, None, ℤ}
use Rattle.std.specs.Prelude.{is_some, max, nat_le, if◌then◌else◌}
use Rattle.std.specs.Cmp.{int_cmp_total}
use Rattle.std.specs.List.Sorted.{IsStrictlySortedBy}
use Rattle.std.specs.Map.{values_of}
use Rattle.std.specs.Ordering.{int_cmp}
use Rattle.std.proofs.lemmas.Bool.{cases_Bool, leb-true, ltb-true}
use Rattle.std.proofs.lemmas.List.Sorted.{length_permutation, sum_by-IsPermutation}
use Rattle.std.proofs.lemmas.List.Sums.{sum_by-cons}
use Rattle.std.proofs.lemmas.Map.Entries.{length-values_of}
use Rattle.cqlp_note.specs.declared.header.Header.{Header}
use Rattle.cqlp_observer.specs.declared.heads.Heads.{Heads}
use Rattle.cqlp_observer.specs.declared.heads.Heard.{Heard}
use Rattle.cqlp_observer.specs.declared.heads.Heard.TheVariants as heard_as
use Rattle.cqlp_observer.specs.declared.message.Frame.{Frame}
use Rattle.cqlp_observer.specs.declared.message.Message.{Message}
use Rattle.cqlp_observer.specs.declared.missed.Missed.{Missed}
use Rattle.cqlp_observer.specs.declared.pairing.Fate.{Fate}
use Rattle.cqlp_observer.specs.declared.pairing.Fate.TheVariants as fate_is
use Rattle.cqlp_observer.specs.declared.room.WatchRoom.{WatchRoom}
use Rattle.cqlp_observer.specs.Keeping.{Kept, cost_of}
use Rattle.cqlp_observer.specs.Messages.{id_of, is_event, is_request, meets}
use Rattle.cqlp_observer.specs.Misses.{with_gap, with_text}
use Rattle.cqlp_observer.specs.Pairings.{Waiting, alone, fate_of, none_wait, taken, under, with_message, without}
use Rattle.cqlp_observer.specs.Passing.{Passing, broken_if, read_on_if}
use Rattle.cqlp_observer.specs.Rooms.{IsCounted, KeepsWithinRoom, StaysWithin, all_text, passing_text, text_of}
use Rattle.cqlp_observer.specs.Speakers as side
use Rattle.cqlp_observer.specs.Speakers.{Speaker}
use Rattle.cqlp_observer.specs.Directions as direction
use Rattle.cqlp_observer.specs.Watches.{Fits, Watched, after_end, after_gap, alone_text, bare, begun, changed, finished, fitted, fitted_as, has_room, has_text_room, heard, is_keeping_on, new_watched, opened, opening_of, paired_if, recounted, settled, side_of, taken_by, text_beside, text_in, watched, with_bare, with_missed}
use Rattle.cqlp_observer.proofs.Entries.{cases_Option, sorted_with, sorted_without, values_with, values_without, without_none}
use Rattle.cqlp_observer.proofs.Settled.{settled_as}
use Rattle.cqlp_observer.proofs.Taken.{IsInOrder, is_id, under_gone}

abbrev bytes_in : Message Kept → ℕ
bytes_in m = cost_of m.kept

-- ---- one message more or less

text_with : (m : Message Kept) (w : Waiting Kept) → under (id_of m) w ≡ None → text_of (with_message m w) ≡ bytes_in m + text_of w
text_with m w none =
    sum_by-IsPermutation bytes_in (m ∷ values_of w) (values_of (with_message m w)) (values_with int_cmp (id_of m) m w none) ∙ sum_by-cons bytes_in m (values_of w)

text_without : (id : ℤ) (m : Message Kept) (w : Waiting Kept) → under id w ≡ Some m → text_of w ≡ bytes_in m + text_of (without id w)
text_without id m w some =
    sym (sum_by-IsPermutation bytes_in (values_of w) (m ∷ values_of (without id w)) (values_without (is_id id) m w some)) ∙ sum_by-cons bytes_in m (values_of (without id w))

count_with : (m : Message Kept) (w : Waiting Kept) → under (id_of m) w ≡ None → length (with_message m w) ≡ length w + 1
count_with m w none =
    let long = length_permutation (m ∷ values_of w) (values_of (with_message m w)) (values_with int_cmp (id_of m) m w none) in
    omega (arith, long, length-values_of w, length-values_of (with_message m w))

count_without : (id : ℤ) (m : Message Kept) (w : Waiting Kept) → under id w ≡ Some m → length w ≡ length (without id w) + 1
count_without id m w some =
    let long = length_permutation (values_of w) (m ∷ values_of (without id w)) (values_without (is_id id) m w some) in
    omega (arith, long, length-values_of w, length-values_of (without id w))

-- ---- a message that waits, as it fits

waits_within : (m : Message Kept) (room : WatchRoom) (w : Watched) (beside : ℕ) (others : Waiting Kept) (hr : Bool) → beside ≡ text_of others + passing_text w.requests + passing_text w.responses → under (id_of m) others ≡ None → IsInOrder others → (taken m hr w.waiting).after ≡ with_message m others → (taken (bare m) hr w.waiting).after ≡ with_message (bare m) others → length others + 1 ≤ max room.messages (length w.waiting) → text_of others ≤ text_of w.waiting → StaysWithin room w (taken_by hr (fitted m beside room w)).after
waits_within m room w beside others hr is none sorted full emptied few less = elim (cases_Bool (nat_le (bytes_in m) (room.text - beside))) [
  | inl fits ↦
      let text = text_with m others none in
      let within = leb-true (bytes_in m) (room.text - beside) fits in
      rw (fits, full) (record {
        counted = record { ordered = sorted_with int_cmp_total (id_of m) m others sorted; text = omega (arith, text, is) };
        messages = omega (arith, few, count_with m others none);
        text = omega (arith, text, is, within, less);
      })
  | inr too_many ↦
      let text = text_with (bare m) others none in
      rw (too_many, emptied) (record {
        counted = record { ordered = sorted_with int_cmp_total (id_of m) (bare m) others sorted; text = omega (arith, text, is) };
        messages = omega (arith, few, count_with (bare m) others none);
        text = omega (arith, text, less);
      })
]

-- ---- a message that is paired

within_as : (room : WatchRoom) (w new : Watched) (v : Waiting Kept) → new.waiting ≡ v → new.requests ≡ w.requests → new.responses ≡ w.responses → IsInOrder v → new.text ≡ text_of v + passing_text w.requests + passing_text w.responses → length v ≤ max room.messages (length w.waiting) → text_of v ≤ text_of w.waiting → StaysWithin room w new
within_as room w new v waiting requests responses sorted text few little =
    let long = ap (λ (u : Waiting Kept). length u) waiting in
    let much = ap (λ (u : Waiting Kept). text_of u) waiting in
    let asked = ap (λ (s : Speaker). passing_text s) requests in
    let answered = ap (λ (s : Speaker). passing_text s) responses in
    record {
      counted = record {
        ordered = subst (λ (u : Waiting Kept). IsInOrder u) (sym waiting) sorted;
        text = omega (arith, text, much, asked, answered);
      };
      messages = omega (arith, long, few);
      text = omega (arith, much, asked, answered, little);
    }

within_same : (room : WatchRoom) (w new : Watched) → IsCounted w → new.waiting ≡ w.waiting → new.requests ≡ w.requests → new.responses ≡ w.responses → new.text ≡ w.text → StaysWithin room w new
within_same room w new k waiting requests responses text =
    within_as room w new w.waiting waiting requests responses k.ordered (text ∙ k.text) (omega arith) (omega arith)

-- what is left of a message that is settled so
by_fate : (m : Message Kept) (room : WatchRoom) (w : Watched) (hr : Bool) (f : Fate) → f ≡ fate_of (under (id_of m) w.waiting) m hr → StaysWithin room w (taken_by hr (fitted_as f m room w)).after → StaysWithin room w (taken_by hr (settled m hr room w)).after
by_fate m room w hr f fate stays =
    subst (λ (x : Fits). StaysWithin room w (taken_by hr x).after) (sym (settled_as m hr room w (under (id_of m) w.waiting) f refl fate)) stays

takes_none : (m : Message Kept) (w : Waiting Kept) → is_event m ≡ false → under (id_of m) w ≡ None → (taken m true w).after ≡ with_message m w
takes_none m w isnt none = rw (isnt, none, without_none (is_id (id_of m)) w none) refl

takes_some : (first m : Message Kept) (hr : Bool) (w : Waiting Kept) → is_event m ≡ false → under (id_of m) w ≡ Some first → meets first m ≡ false → (taken m hr w).after ≡ with_message m (without (id_of m) w)
takes_some first m hr w isnt some apart = rw (isnt, some, apart) refl

pair_none : (m : Message Kept) (room : WatchRoom) (w : Watched) (hr : Bool) → (hr ≡ true → length w.waiting < room.messages) → is_event m ≡ false → under (id_of m) w.waiting ≡ None → IsCounted w → StaysWithin room w (taken_by hr (settled m hr room w)).after
pair_none m room w true few isnt none k =
    let least = few refl in
    let zero : text_in (under (id_of m) w.waiting) ≡ 0 = ap (λ (o : Option (Message Kept)). text_in o) none in
    by_fate m room w true fate_is.Waits (rw (isnt, none) refl)
    (waits_within m room w (text_beside m w) w.waiting true (omega (arith, k.text, zero)) none k.ordered (takes_none m w.waiting isnt none) (takes_none (bare m) w.waiting isnt none) (omega arith) (omega arith))
pair_none m room w false few isnt none k =
    by_fate m room w false fate_is.IsOvertaken (rw (isnt, none) refl)
    (within_same room w _ k (rw (isnt, none, without_none (is_id (id_of m)) w.waiting none) refl) refl refl refl)

pair_some : (first m : Message Kept) (room : WatchRoom) (w : Watched) (hr : Bool) → is_event m ≡ false → under (id_of m) w.waiting ≡ Some first → IsCounted w → StaysWithin room w (taken_by hr (settled m hr room w)).after
pair_some first m room w hr isnt some k =
    let others = without (id_of m) w.waiting in
    let text = text_without (id_of m) first w.waiting some in
    let count = count_without (id_of m) first w.waiting some in
    let sorted = sorted_without int_cmp (is_id (id_of m)) w.waiting k.ordered in
    let gone : text_in (under (id_of m) w.waiting) ≡ bytes_in first = ap (λ (o : Option (Message Kept)). text_in o) some in
    let beside : text_beside m w ≡ text_of others + passing_text w.requests + passing_text w.responses = omega (arith, k.text, text, gone) in
    elim (cases_Bool (meets first m)) [
      | inl meet ↦
          by_fate m room w hr fate_is.Meets (rw (isnt, some, meet) refl)
          (within_as room w _ others (rw (isnt, some, meet) refl) refl refl sorted beside (omega (arith, count)) (omega (arith, text)))
      | inr apart ↦
          by_fate m room w hr fate_is.Waits (rw (isnt, some, apart) refl)
          (waits_within m room w (text_beside m w) others hr beside (under_gone (id_of m) w.waiting k.ordered) sorted (takes_some first m hr w.waiting isnt some apart) (takes_some first (bare m) hr w.waiting isnt some apart) (omega (arith, count)) (omega (arith, text)))
    ]

pair_within : (m : Message Kept) (room : WatchRoom) (w : Watched) (hr : Bool) → (hr ≡ true → length w.waiting < room.messages) → IsCounted w → StaysWithin room w (taken_by hr (settled m hr room w)).after
pair_within m room w hr few k = elim (cases_Bool (is_event m)) [
  | inl is ↦ by_fate m room w hr fate_is.IsReported (rw is refl) (within_same room w _ k (rw is refl) refl refl refl)
  | inr isnt ↦ elim (cases_Option (under (id_of m) w.waiting)) [
    | inl none ↦ pair_none m room w hr few isnt none k
    | inr some ↦ pair_some some.0 m room w hr isnt some.1 k
  ]
]

if_within : (o : Option (Message Kept)) (room : WatchRoom) (w : Watched) → IsCounted w → StaysWithin room w (paired_if o room w).after
if_within None room w k = within_same room w w k refl refl refl refl
if_within (Some m) room w k = pair_within m room w (has_room room w) (ltb-true (length w.waiting) room.messages) k

-- ---- all calls

-- a connection that was changed, where as many messages wait and the texts take no more room than there is, or was taken before
within_from : (room : WatchRoom) (w c : Watched) (o : Option (Message Kept)) → IsCounted c → length c.waiting ≡ length w.waiting → all_text c ≤ max room.text (all_text w) → StaysWithin room w (paired_if o room c).after
within_from room w c o k long little =
    let p = if_within o room c k in
    record { counted = p.counted; messages = omega (arith, p.messages, long); text = omega (arith, p.text, little) }

-- A side keeps no text that it did not keep before, but where there is room.
abbrev Keeps : (room text : ℕ) → (before after : Bool) → Type 0
Keeps room text before after = after ≡ true → (before ≡ true) ⊎ (nat_le 832 (room - text) ≡ true)

-- the room that a side's text takes, before and after
abbrev taken_text : Bool → ℕ
taken_text keeping = if keeping then 832 else 0

recounted_is : (room text others : ℕ) (before after : Bool) → Keeps room text before after → text ≡ others + taken_text before → (recounted room text before after ≡ others + taken_text after) × (others + taken_text after ≤ max room (others + taken_text before))
recounted_is room text others true true keeps is = (is, omega arith)
recounted_is room text others true false keeps is = (omega (arith, is), omega arith)
recounted_is room text others false false keeps is = (is, omega arith)
recounted_is room text others false true keeps is = elim (keeps refl) [
  | inl before ↦ absurd (cc before)
  | inr fits ↦ let within = leb-true 832 (room - text) fits in rw fits (omega (arith, is), omega (arith, is, within))
]

pub record Changes (room : WatchRoom) (w c : Watched) : Type 0 where
  pub counted : IsCounted c
  pub long : length c.waiting ≡ length w.waiting
  pub little : all_text c ≤ max room.text (all_text w)

changed_counted : (responses : Bool) (s : Speaker) (room : WatchRoom) (w : Watched) → IsCounted w → Keeps room.text w.text (is_keeping_on responses w) (side.is_keeping s) → Changes room w (changed responses s room w)
changed_counted true s room w k keeps =
    let r = recounted_is room.text w.text (text_of w.waiting + passing_text w.requests) (side.is_keeping w.responses) (side.is_keeping s) keeps k.text in
    record { counted = record { ordered = k.ordered; text = r.0 }; long = refl; little = r.1 }
changed_counted false s room w k keeps =
    let r = recounted_is room.text w.text (text_of w.waiting + passing_text w.responses) (side.is_keeping w.requests) (side.is_keeping s) keeps (omega (arith, k.text)) in
    record { counted = record { ordered = k.ordered; text = omega (arith, r.0) }; long = refl; little = omega (arith, r.1) }

-- what is missed changes nothing that is counted
missed_changes : (room : WatchRoom) (w c : Watched) (missed : Missed) → Changes room w c → Changes room w (with_missed missed c)
missed_changes room w c missed p = record { counted = record { ordered = p.counted.ordered; text = p.counted.text }; long = p.long; little = p.little }

missed_counted : (missed : Missed) (w : Watched) → IsCounted w → IsCounted (with_missed missed w)
missed_counted missed w k = record { ordered = k.ordered; text = k.text }

bare_changes : (room : WatchRoom) (w c : Watched) (is_bare : Bool) → Changes room w c → Changes room w (with_bare is_bare c)
bare_changes room w c true p = missed_changes room w c (with_text c.missed) p
bare_changes room w c false p = p

-- ---- which side keeps a text after a call

reads_on : (b : List ℕ) (p : Option Passing) → is_some (read_on_if b p) ≡ true → is_some p ≡ true
reads_on b None is = is
reads_on b (Some p) is = refl

breaks_off : (p : Option Passing) → is_some (broken_if p) ≡ true → is_some p ≡ true
breaks_off None is = is
breaks_off (Some p) is = refl

begins_keeping : (h : Header) (used : ℕ) (time : Option ℕ) (heads : Heads) (rest : List ℕ) (has : Bool) → side.is_keeping (side.begins h used time heads rest has).after ≡ true → has ≡ true
begins_keeping h used time heads rest true is = refl
begins_keeping h used time heads rest false is = elim (cases_Bool (nat_le h.length (length rest))) [
  | inl whole ↦ absurd (let f = rw whole at is in cc f)
  | inr more ↦ absurd (let f = rw more at is in cc f)
]

keeps_of : (h : Heard) (used : ℕ) (time : Option ℕ) (heads : Heads) (b : List ℕ) (has : Bool) (s : Speaker) → side.is_keeping (side.heard_of h used time heads b has s).after ≡ true → (side.is_keeping s ≡ true) ⊎ (has ≡ true)
keeps_of (heard_as.Begins h) used time heads b has s is = inr (begins_keeping h used time heads (drop used b) has is)
keeps_of heard_as.Body used time heads b has s is = inl (reads_on (take used b) s.present is)
keeps_of (heard_as.Ends f) used time heads b has s is = absurd (cc is)
keeps_of heard_as.Stray used time heads b has s is = inl is
keeps_of heard_as.More used time heads b has s is = inl is

keeps_closed : (f : Option Frame) (heads : Heads) (p : Option Passing) → side.is_keeping (side.closed f heads p).after ≡ true → is_some p ≡ true
keeps_closed None heads p is = is
keeps_closed (Some f) heads p is = absurd (cc is)

keeps_heard : (responses : Bool) (time : Option ℕ) (begins : Bool) (b : List ℕ) (room : WatchRoom) (w : Watched) → Keeps room.text w.text (is_keeping_on responses w) (side.is_keeping (side.heard time begins b (has_text_room room w) (side_of responses w)).after)
keeps_heard responses time begins b room w is =
    let x = direction.heard time begins b (side_of responses w).heads in
    keeps_of x.step.heard x.step.used time x.after b (has_text_room room w) (side_of responses w) is

keeps_gap : (responses : Bool) (n : ℕ) (time : Option ℕ) (room : WatchRoom) (w : Watched) → Keeps room.text w.text (is_keeping_on responses w) (side.is_keeping (side.after_gap n time (side_of responses w)).after)
keeps_gap responses n time room w is =
    let s = side_of responses w in
    let x = direction.after_gap n time s.heads in
    inl (breaks_off s.present (keeps_closed x.frame x.after (broken_if s.present) is))

keeps_end : (responses : Bool) (room : WatchRoom) (w : Watched) → Keeps room.text w.text (is_keeping_on responses w) (side.is_keeping (side.after_end (side_of responses w)).after)
keeps_end responses room w is =
    let s = side_of responses w in
    let x = direction.after_end s.heads in
    inl (keeps_closed x.frame x.after s.present is)

-- ---- all calls

pub heard_within : (responses : Bool) (time : Option ℕ) (begins : Bool) (b : List ℕ) (room : WatchRoom) (w : Watched) → IsCounted w → StaysWithin room w (heard responses time begins b room w).after
heard_within responses time begins b room w k =
    let v = opened (opening_of responses b w) w in
    let h = side.heard time begins b (has_text_room room v) (side_of responses v) in
    let p = changed_counted responses h.after room v (missed_counted v.missed w k) (keeps_heard responses time begins b room v) in
    let q = bare_changes room v (changed responses h.after room v) h.is_bare p in
    within_from room w (with_bare h.is_bare (changed responses h.after room v)) h.message q.counted q.long q.little

pub gap_within : (responses : Bool) (n : ℕ) (time : Option ℕ) (room : WatchRoom) (w : Watched) → IsCounted w → StaysWithin room w (after_gap responses n time room w).after
gap_within responses n time room w k =
    let v = with_missed (with_gap w.missed) w in
    let e = side.after_gap n time (side_of responses v) in
    let p = changed_counted responses e.after room v (missed_counted v.missed w k) (keeps_gap responses n time room v) in
    within_from room w (changed responses e.after room v) e.message p.counted p.long p.little

pub end_within : (responses : Bool) (room : WatchRoom) (w : Watched) → IsCounted w → StaysWithin room w (after_end responses room w).after
end_within responses room w k =
    let e = side.after_end (side_of responses w) in
    let p = changed_counted responses e.after room w k (keeps_end responses room w) in
    within_from room w (changed responses e.after room w) e.message p.counted p.long p.little

pub begun_within : (responses from_start : Bool) (room : WatchRoom) (w : Watched) → IsCounted w → StaysWithin room w (begun responses from_start w)
begun_within true from_start room w k =
    let r = recounted_is 0 w.text (text_of w.waiting + passing_text w.requests) (side.is_keeping w.responses) false (λ never. absurd (cc never)) k.text in
    record { counted = record { ordered = k.ordered; text = r.0 }; messages = omega arith; text = omega (arith, r.1) }
begun_within false from_start room w k =
    let r = recounted_is 0 w.text (text_of w.waiting + passing_text w.responses) (side.is_keeping w.requests) false (λ never. absurd (cc never)) (omega (arith, k.text)) in
    record { counted = record { ordered = k.ordered; text = omega (arith, r.0) }; messages = omega arith; text = omega (arith, r.1) }

alone_long : (m : Message Kept) → alone_text (alone m) ≡ bytes_in m
alone_long m = elim (cases_Bool (is_request m)) [ inl is ↦ rw is refl | inr isnt ↦ rw isnt refl ]

in_order_tail : (e : ℤ × Message Kept) (w : Waiting Kept) → IsInOrder (e ∷ w) → IsInOrder w
unfolding IsStrictlySortedBy
in_order_tail e w sorted = sorted.1

finished_counted : (requests responses : Speaker) (v : Waiting Kept) (text : ℕ) (missed : Missed) → IsCounted (watched requests responses v text missed) → IsCounted (finished (watched requests responses v text missed)).after
finished_counted requests responses [] text missed k = record { ordered = k.ordered; text = omega (arith, k.text) }
finished_counted requests responses (e ∷ v) text missed k = record {
  ordered = in_order_tail e v k.ordered;
  text = omega (arith, k.text, alone_long e.1, sum_by-cons bytes_in e.1 (values_of v));
}

none_in_order : IsInOrder {T = Kept} none_wait
unfolding IsStrictlySortedBy
none_in_order = tt

pub new_counted : IsCounted new_watched
new_counted = record { ordered = none_in_order; text = refl }

pub stays_within : KeepsWithinRoom
stays_within = (
  new_counted,
  begun_within,
  heard_within,
  gap_within,
  end_within,
  λ w k. finished_counted w.requests w.responses w.waiting w.text w.missed (record { ordered = k.ordered; text = k.text }),
)
