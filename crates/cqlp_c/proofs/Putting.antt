-- Events that a sink put into an array.
use Rattle.std.proofs.Common.{◌≡◌, ℕ, ◌+◌, ◌≤◌, List, [], ◌∷◌, ◌++◌, length, take, drop, drop-drop, refl, sym, ap, subst, ◌∙◌, append_assoc, arith}
use Rattle.std.proofs.lemmas.List.{append-nil, length-set, take_more_set, drop-set-lt}
use Rattle.cqlp_decode.specs.Reading.{Event}
use Rattle.cqlp_decode.specs.Progress.{StreamState}
use Rattle.cqlp_decode.specs.Cells.{Item, TakesItems, GetsAll, HandsOut, FailsAfter, bytes_of}
use Rattle.cqlp_c.specs.declared.course.CqlpBegun.{CqlpBegun}
use Rattle.cqlp_c.specs.declared.event.CqlpEvent.{CqlpEvent}
use Rattle.cqlp_c.specs.declared.slots.Origin.{Origin}
use Rattle.cqlp_c.specs.declared.slots.Slots.{Slots}
use Rattle.cqlp_c.specs.Course.{begun_by}
use Rattle.cqlp_c.specs.Slots.{HasRoom, PutsOne, WritesItems}

-- These events were put, after those that were there, into the same array.
pub record PutsAll (before : Slots) (xs : List Item) (after : Slots) : Type 0 where
  pub events : List CqlpEvent
  pub written : WritesItems before.origin events xs
  pub first : take after.count after.events.now ≡ take before.count before.events.now ++ events
  pub others : drop after.count after.events.now ≡ drop after.count before.events.now
  pub long : length after.events.now ≡ length before.events.now
  pub count : after.count ≡ before.count + length xs
  pub fits : after.count ≤ length after.events.now
  pub same : after.events.ghost_name ≡ before.events.ghost_name
  pub origin : after.origin ≡ before.origin
  pub frame : after.frame ≡ begun_by before.frame events

puts_none : (s : Slots) → s.count ≤ length s.events.now → PutsAll s [] s
puts_none s fits = record { events = []; written = tt; first = sym (append-nil (take s.count s.events.now)); others = refl; long = refl; count = omega arith; fits = fits; same = refl; origin = refl; frame = refl }

pub drops_more : {X : Type 0} (n k : ℕ) (xs ys : List X) → drop n xs ≡ drop n ys → drop (n + k) xs ≡ drop (n + k) ys
drops_more {X = X} n k xs ys same = sym (drop-drop k n xs) ∙ ap (λ (z : List X). drop k z) same ∙ drop-drop k n ys

puts_then : (s t u : Slots) (x : Item) (ys : List Item) → HasRoom s → PutsOne s x.at x.event t → PutsAll t ys u → PutsAll s (x ∷ ys) u
puts_then s t u x ys room one more = record {
  events = one.written ∷ more.events;
  written = (one.writes, subst (λ (o : Origin). WritesItems o more.events ys) one.origin more.written);
  first =
      more.first ∙ ap (λ (z : List CqlpEvent). z ++ more.events) (ap (λ (n : ℕ). take n t.events.now) one.count ∙ ap (take (s.count + 1)) one.events ∙ take_more_set s.events.now s.count one.written room)
      ∙ append_assoc (take s.count s.events.now) (one.written ∷ []) more.events;
  others =
      let behind : drop (s.count + 1) t.events.now ≡ drop (s.count + 1) s.events.now = ap (drop (s.count + 1)) one.events ∙ drop-set-lt (s.count + 1) s.events.now s.count one.written (omega arith) in
      let at : u.count ≡ (s.count + 1) + length ys = omega (arith, more.count, one.count) in
      more.others ∙ rw at (drops_more (s.count + 1) (length ys) t.events.now s.events.now behind);
  long = more.long ∙ ap length one.events ∙ length-set s.events.now s.count one.written;
  count = omega (arith, more.count, one.count);
  fits = more.fits;
  same = more.same ∙ one.same;
  origin = more.origin ∙ one.origin;
  frame = more.frame ∙ ap (λ (f : CqlpBegun). begun_by f more.events) one.frame;
}

-- Items were taken, of this many bytes, and their events were put.
pub record PutsItems (old new : StreamState) (input : List ℕ) (used : ℕ) (before after : Slots) : Type 0 where
  pub items : List Item
  pub takes : TakesItems old input items new
  pub all : used ≡ bytes_of items
  pub puts : PutsAll before items after

module _ (Gets : Slots → ℕ → Event → Slots → Type 0) (puts : (s t : Slots) (at : ℕ) (e : Event) → Gets s at e t → HasRoom s → HasRoom t × PutsOne s at e t) where
  puts_all : (s t : Slots) (xs : List Item) → GetsAll Gets s xs t → HasRoom s → PutsAll s xs t
  puts_all s t [] g room = rw g (puts_none s (omega (arith, room)))
  puts_all s t (x ∷ xs) g room =
      let one = puts s g.0 x.at x.event g.1 room in puts_then s g.0 t x xs room one.1 (puts_all g.0 t xs g.2 one.0)

  -- the last of them, too
  puts_last : (s t u : Slots) (xs : List Item) (y : Item) → GetsAll Gets s xs t → HasRoom s → (HasRoom t → PutsOne t y.at y.event u) → PutsAll s (xs ++ y ∷ []) u
  puts_last s t u [] y g room last =
      let one : PutsOne s y.at y.event u = subst (λ (z : Slots). PutsOne z y.at y.event u) g (last (subst HasRoom (sym g) room)) in
      let long : length u.events.now ≡ length s.events.now = ap length one.events ∙ length-set s.events.now s.count one.written in
      puts_then s u u y [] room one (puts_none u (omega (arith, one.count, long, room)))
  puts_last s t u (x ∷ xs) y g room last =
      let one = puts s g.0 x.at x.event g.1 room in
      puts_then s g.0 u x (xs ++ y ∷ []) room one.1 (puts_last g.0 t u xs y g.2 one.0 last)

  module _ (old new : StreamState) (input : List ℕ) (used taken : ℕ) (is : used ≡ taken) (s t : Slots) (room : HasRoom s) where
    pub puts_whole : HandsOut Gets old new input taken s t → PutsItems old new input used s t
    puts_whole h = record { items = h.items; takes = h.takes; all = is ∙ h.all; puts = puts_all s t h.items h.got room }

    pub puts_full : (Fails : Slots → ℕ → Event → Slots → Type 0) → ((u v : Slots) (at : ℕ) (e : Event) → Fails u at e v → HasRoom u → PutsOne u at e v) → FailsAfter Gets Fails old new input taken s t → PutsItems old new input used s t
    puts_full Fails last h = record { items = h.items ++ h.last ∷ []; takes = h.takes; all = is ∙ h.all; puts = puts_last s h.mid t h.items h.last h.got room (last h.mid t h.last.at h.last.event h.fault) }
