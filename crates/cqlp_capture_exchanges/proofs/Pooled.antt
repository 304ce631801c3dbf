-- The pools are the sums over the connections.
use Rattle.std.proofs.Common.{inl, inr, ◌≡◌, ℕ, zero, suc, ◌+◌, ◌-◌, ◌≤◌, ◌==◌, ◌&&◌, Bool, List, [], ◌∷◌, length, drop, refl, sym, ap, subst, arith, Option, Some, None}
use Rattle.std.specs.Prelude.{sum_by}
use Rattle.std.specs.List.{AllByRecursion}
use Rattle.std.specs.List.Sorted.{IsStrictlySortedBy}
use Rattle.std.specs.BTreeMap.{insert_entry, is_at}
use Rattle.std.specs.Cmp.{nat_cmp_total}
use Rattle.std.specs.Map.{lookup, remove_entry, set_value, values_of}
use Rattle.std.specs.Ordering.{nat_cmp}
use Rattle.std.proofs.lemmas.Bool.{cases_Bool}
use Rattle.std.proofs.lemmas.List.Sums.{sum_by-cons}
use Rattle.std.proofs.lemmas.Map.{keys-set_value}
use Rattle.cqlp_tcp_reassembly.specs.declared.step.StreamStep.{StreamStep}
use Rattle.cqlp_tcp_reassembly.specs.declared.step.StreamStep.TheVariants as step
use Rattle.cqlp_tcp_connections.specs.declared.delivery.Delivery.{Delivery}
use Rattle.cqlp_tcp_connections.specs.declared.totals.ConnectionTotals.{ConnectionTotals}
use Rattle.cqlp_capture_streams.specs.NewestFirst.{newest_first}
use Rattle.cqlp_observer.specs.declared.room.WatchRoom.{WatchRoom}
use Rattle.cqlp_observer.specs.Rooms.{IsCounted, StaysWithin, all_text}
use Rattle.cqlp_observer.specs.Watches.{Watched, heard}
use Rattle.cqlp_observer.proofs.Counted.{begun_within, end_within, gap_within, heard_within, new_counted}
use Rattle.cqlp_observer.proofs.Entries.{cases_Option, cases_Ordering, sorted_with, sorted_without}
use Rattle.cqlp_capture_exchanges.specs.declared.pool.ExchangeLimits.{ExchangeLimits}
use Rattle.cqlp_capture_exchanges.specs.Pooled.{AreNumbers, GetsWhatIsLeft, IsPooled, KeepsPools, messages_on, others, text_on}
use Rattle.cqlp_capture_exchanges.specs.Pools.{amount, held_in, room_for}
use Rattle.cqlp_capture_exchanges.specs.Tables.{Table, becomes, begins, gone, leaves, leaves_at, new_table, slot_of, takes_delivery, takes_delivery_at}
use Rattle.cqlp_capture_exchanges.specs.Reports.{end_of}
use Rattle.cqlp_capture_exchanges.specs.Talks.{Slot, Talk, all_heard, is_responses, left, new_slot, step_heard, steps_for, stepped, delivery_heard}

-- ---- a sum over the values of a map

abbrev all_of : (f : Slot → ℕ) → List (ℕ × Slot) → ℕ
all_of f es = sum_by f (values_of es)

abbrev Each : List (ℕ × Slot) → Type 0
Each es = AllByRecursion (λ s. IsCounted s.watch) (values_of es)

sum_with : (f : Slot → ℕ) (n : ℕ) (s : Slot) (es : List (ℕ × Slot)) → lookup (is_at (nat_cmp n)) es ≡ None → all_of f (insert_entry nat_cmp es n s) ≡ f s + all_of f es
sum_with f n s [] none = sum_by-cons f s []
sum_with f n s (e ∷ es) none = elim (cases_Ordering (nat_cmp n e.0)) [
  | inl less ↦ rw less (sum_by-cons f s (values_of (e ∷ es)))
  | inr (inl equal) ↦ absurd (let g = rw equal at none in cc g)
  | inr (inr greater) ↦
      let rest = sum_with f n s es (rw greater at none) in
      let here = sum_by-cons f e.1 (values_of (insert_entry nat_cmp es n s)) in
      let there = sum_by-cons f e.1 (values_of es) in
      rw greater (omega (arith, rest, here, there))
]

sum_set : (f : Slot → ℕ) (test : ℕ → Bool) (s t : Slot) (es : List (ℕ × Slot)) → lookup test es ≡ Some s → all_of f (set_value test es t) + f s ≡ all_of f es + f t
sum_set f test s t [] some = absurd (cc some)
sum_set f test s t (e ∷ es) some = elim (cases_Bool (test e.0)) [
  | inl is ↦
      let g = rw is at some in
      let same : e.1 ≡ s = cc g in
      let own = ap f same in
      rw is (omega (arith, own, sum_by-cons f t (values_of es), sum_by-cons f e.1 (values_of es)))
  | inr isnt ↦
      let rest = sum_set f test s t es (rw isnt at some) in
      rw isnt (omega (arith, rest, sum_by-cons f e.1 (values_of (set_value test es t)), sum_by-cons f e.1 (values_of es)))
]

sum_without : (f : Slot → ℕ) (test : ℕ → Bool) (s : Slot) (es : List (ℕ × Slot)) → lookup test es ≡ Some s → all_of f es ≡ f s + all_of f (remove_entry test es)
sum_without f test s [] some = absurd (cc some)
sum_without f test s (e ∷ es) some = elim (cases_Bool (test e.0)) [
  | inl is ↦
      let g = rw is at some in
      let same : e.1 ≡ s = cc g in
      let own = ap f same in
      rw is (omega (arith, own, sum_by-cons f e.1 (values_of es)))
  | inr isnt ↦
      let rest = sum_without f test s es (rw isnt at some) in
      rw isnt (omega (arith, rest, sum_by-cons f e.1 (values_of (remove_entry test es)), sum_by-cons f e.1 (values_of es)))
]

each_with : (n : ℕ) (s : Slot) (es : List (ℕ × Slot)) → IsCounted s.watch → Each es → Each (insert_entry nat_cmp es n s)
each_with n s [] k all = (k, tt)
each_with n s (e ∷ es) k all = elim (cases_Ordering (nat_cmp n e.0)) [
  | inl less ↦ rw less (k, all)
  | inr (inl equal) ↦ rw equal (k, all.1)
  | inr (inr greater) ↦ rw greater (all.0, each_with n s es k all.1)
]

each_set : (test : ℕ → Bool) (t : Slot) (es : List (ℕ × Slot)) → IsCounted t.watch → Each es → Each (set_value test es t)
each_set test t [] k all = tt
each_set test t (e ∷ es) k all = elim (cases_Bool (test e.0)) [
  | inl is ↦ rw is (k, all.1)
  | inr isnt ↦ rw isnt (all.0, each_set test t es k all.1)
]

each_without : (test : ℕ → Bool) (es : List (ℕ × Slot)) → Each es → Each (remove_entry test es)
each_without test [] all = tt
each_without test (e ∷ es) all = elim (cases_Bool (test e.0)) [
  | inl is ↦ rw is all.1
  | inr isnt ↦ rw isnt (all.0, each_without test es all.1)
]

each_at : (test : ℕ → Bool) (s : Slot) (es : List (ℕ × Slot)) → lookup test es ≡ Some s → Each es → IsCounted s.watch
each_at test s [] some all = absurd (cc some)
each_at test s (e ∷ es) some all = elim (cases_Bool (test e.0)) [
  | inl is ↦
      let g = rw is at some in
      let same : e.1 ≡ s = cc g in
      subst (λ (t : Slot). IsCounted t.watch) same all.0
  | inr isnt ↦ each_at test s es (rw isnt at some) all.1
]

-- ---- one connection stays within its room

abbrev Stays : WatchRoom → (old new : Slot) → Type 0
Stays room old new = StaysWithin room old.watch new.watch

stays_same : (room : WatchRoom) (s t : Slot) → t.watch ≡ s.watch → IsCounted s.watch → Stays room s t
stays_same room s t same k =
    let long = ap (λ (w : Watched). length w.waiting) same in
    let much = ap (λ (w : Watched). all_text w) same in
    record {
      counted = subst (λ (w : Watched). IsCounted w) (sym same) k;
      messages = omega (arith, long);
      text = omega (arith, much);
    }

stays_then : (room : WatchRoom) (s t u : Slot) → Stays room s t → Stays room t u → Stays room s u
stays_then room s t u p q = record {
  counted = q.counted;
  messages = omega (arith, p.messages, q.messages);
  text = omega (arith, p.text, q.text);
}

all_within : (n : ℕ) (responses : Bool) (time : Option ℕ) (begins : Bool) (room : WatchRoom) (b : List ℕ) (s : Slot) → IsCounted s.watch → Stays room s (all_heard n responses time begins room b s).after
all_within zero responses time begins room b s k = stays_same room s s refl k
all_within (suc n) responses time begins room b s k =
    let x = heard responses time begins b room s.watch in
    let p : Stays room s (stepped x s) = heard_within responses time begins b room s.watch k in
    let last = (all_heard n responses time (begins && x.used == 0) room (drop x.used b) (stepped x s)).after in
    let more : Stays room (stepped x s) last = all_within n responses time (begins && x.used == 0) room (drop x.used b) (stepped x s) p.counted in
    elim (cases_Bool x.is_done) [
      | inl done ↦ rw done p
      | inr on ↦ rw on (stays_then room s (stepped x s) last p more)
    ]

step_within : (step : StreamStep) (responses : Bool) (present : Option ℕ) (room : WatchRoom) (b : List ℕ) (s : Slot) → IsCounted s.watch → Stays room s (step_heard step responses present room b s).after
step_within (step.Began syn) responses present room b s k = begun_within responses syn room s.watch k
step_within (step.Payload from count) responses present room b s k = all_within (steps_for b) responses present (from == 0) room b s k
step_within (step.Held time begins) responses present room b s k = all_within (steps_for b) responses time begins room b s k
step_within (step.Gap n cause time) responses present room b s k = gap_within responses n time room s.watch k
step_within step.Kept responses present room b s k = stays_same room s s refl k
step_within step.Ended responses present room b s k = end_within responses room s.watch k
step_within step.Reset responses present room b s k = end_within responses room s.watch k
step_within step.Done responses present room b s k = stays_same room s s refl k

-- ---- the table

abbrev waiting_on : Slot → ℕ
waiting_on s = length s.watch.waiting

abbrev text_of_slot : Slot → ℕ
text_of_slot s = s.watch.text

new_pooled : (limits : ExchangeLimits) → AreNumbers limits → IsPooled (new_table limits)
unfolding IsStrictlySortedBy
new_pooled limits are = record {
  limits = are;
  ordered = tt;
  counted = tt;
  messages = refl;
  text = refl;
  few = omega arith;
  little = omega arith;
}

begins_pooled : (n : ℕ) (w : Table) → slot_of n w ≡ None → IsPooled w → IsPooled (begins n w).table
begins_pooled n w none k =
    let long = sum_with waiting_on (newest_first n) new_slot w.slots none in
    let much = sum_with text_of_slot (newest_first n) new_slot w.slots none in
    record {
      limits = k.limits;
      ordered = sorted_with nat_cmp_total (newest_first n) new_slot w.slots k.ordered;
      counted = each_with (newest_first n) new_slot w.slots new_counted k.counted;
      messages = omega (arith, k.messages, long);
      text = omega (arith, k.text, much);
      few = omega (arith, k.few, long);
      little = omega (arith, k.little, much);
    }

becomes_pooled : (n : ℕ) (s : Slot) (t : Talk) (w : Table) → slot_of n w ≡ Some s → Stays (room_for (held_in s) w.pool) s t.after → IsPooled w → IsPooled (becomes n s t w).table
becomes_pooled n s t w some p k =
    let test = is_at (nat_cmp (newest_first n)) in
    let own = each_at test s w.slots some k.counted in
    let long = sum_set waiting_on test s t.after w.slots some in
    let much = sum_set text_of_slot test s t.after w.slots some in
    let out_long = sum_without waiting_on test s w.slots some in
    let out_much = sum_without text_of_slot test s w.slots some in
    let few : messages_on (set_value test w.slots t.after) ≤ w.pool.limits.open = omega (arith, k.few, k.messages, long, out_long, p.messages) in
    let little : text_on (set_value test w.slots t.after) ≤ w.pool.limits.text = omega (arith, k.little, k.text, much, out_much, p.text, p.counted.text, own.text) in
    record {
      limits = k.limits;
      ordered = subst (λ (ks : List ℕ). IsStrictlySortedBy nat_cmp ks) (sym (keys-set_value test w.slots t.after)) k.ordered;
      counted = each_set test t.after w.slots p.counted k.counted;
      messages = omega (arith, k.messages, long, out_long, few, k.limits.messages);
      text = omega (arith, k.text, much, out_much, little, k.limits.text);
      few = few;
      little = little;
    }

gone_pooled : (n : ℕ) (s : Slot) (t : Talk) (w : Table) → slot_of n w ≡ Some s → IsPooled w → IsPooled (gone n s t w).table
gone_pooled n s t w some k =
    let test = is_at (nat_cmp (newest_first n)) in
    let long = sum_without waiting_on test s w.slots some in
    let much = sum_without text_of_slot test s w.slots some in
    record {
      limits = k.limits;
      ordered = sorted_without nat_cmp test w.slots k.ordered;
      counted = each_without test w.slots k.counted;
      messages = omega (arith, k.messages, long, k.few, k.limits.messages);
      text = omega (arith, k.text, much, k.little, k.limits.text);
      few = omega (arith, k.few, long);
      little = omega (arith, k.little, much);
    }

reports_pooled : (present : Option ℕ) (delivered : Delivery) (b : List ℕ) (w : Table) → IsPooled w → IsPooled (takes_delivery present delivered b w).table
reports_pooled present delivered b w k = elim (cases_Option (slot_of delivered.number w)) [
  | inl none ↦ rw none k
  | inr some ↦
      let s = some.0 in
      let room = room_for (held_in s) w.pool in
      let own = each_at (is_at (nat_cmp (newest_first delivered.number))) s w.slots some.1 k.counted in
      let t = delivery_heard present delivered room b s in
      subst (λ (o : Option Slot). IsPooled (takes_delivery_at o present delivered b w).table) (sym some.1)
      (becomes_pooled delivered.number s t w some.1 (step_within delivered.step (is_responses delivered.way) present room b s own) k)
]

leaves_pooled : (totals : ConnectionTotals) (w : Table) → IsPooled w → IsPooled (leaves totals w).table
leaves_pooled totals w k = elim (cases_Option (slot_of totals.number w)) [
  | inl none ↦ rw none k
  | inr some ↦
      let s = some.0 in
      subst (λ (o : Option Slot). IsPooled (leaves_at o totals w).table) (sym some.1)
      (gone_pooled totals.number s (left (end_of totals) (room_for (held_in s) w.pool) s) w some.1 k)
]

gets_left : (w : Table) → IsPooled w → GetsWhatIsLeft w
gets_left w k n s some =
    let test = is_at (nat_cmp (newest_first n)) in
    let long = sum_without waiting_on test s w.slots some in
    let much = sum_without text_of_slot test s w.slots some in
    let messages : w.pool.held.messages - waiting_on s ≡ messages_on (others n w) = omega (arith, k.messages, long) in
    let text : w.pool.held.text - text_of_slot s ≡ text_on (others n w) = omega (arith, k.text, much) in
    λ i. amount (w.pool.limits.open - messages i) (w.pool.limits.text - text i)

pub keeps_pools : KeepsPools
keeps_pools = (new_pooled, begins_pooled, reports_pooled, leaves_pooled, gets_left)
