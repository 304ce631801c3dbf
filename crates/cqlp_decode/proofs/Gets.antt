-- One more event for a sink, and the end of the input.
use Rattle.std.proofs.Common.{◌≡◌, ℕ, ◌+◌, ◌-◌, ◌<◌, ◌≤◌, List, [], ◌∷◌, ◌++◌, length, take, drop, refl, sym, ap, subst, ◌∙◌, append_assoc, arith}
use Rattle.std.specs.Prelude.{Option, Some, None}
use Rattle.std.specs.Io.KnownBytes.{Consumes, Keeps, IsAtEnd}
use Rattle.std.proofs.lemmas.List.{append-nil, take-append-drop, take_all, take-take, drop-take, length-append, length-drop, length-take-le}
use Rattle.cqlp_note.specs.declared.refusal.Refusal.{Refusal}
use Rattle.cqlp_grammar.specs.declared.event.Event.{Event}
use Rattle.cqlp_decode.specs.declared.step.Step.TheVariants as steps
use Rattle.cqlp_decode.specs.Reading as reading
use Rattle.cqlp_decode.specs.Reading.{Gifts, start_with, Says, Waits}
use Rattle.cqlp_grammar.specs.Events.{event_of}
use Rattle.cqlp_decode.specs.Progress.{StreamState}
use Rattle.cqlp_grammar.specs.declared.event.Finish.{Finish}
use Rattle.cqlp_grammar.specs.declared.event.Finish.TheVariants as finish
use Rattle.cqlp_decode.specs.declared.running.Outcome.TheVariants as outcome
use Rattle.cqlp_decode.specs.Streams.{AfterGifts, IsUnrefused, LeadsAfter, Goes, Refuses}
use Rattle.cqlp_decode.specs.Draining.{Drains, DrainsAll, Fails, Feeds, FeedsInto, HasAll, InReads, fold_events, idle_reads}

pub take_two : (k n : ℕ) (bytes : List ℕ) → take (k + n) bytes ≡ take k bytes ++ take n (drop k bytes)
take_two k n bytes = sym (rw (take-take k (k + n) bytes (omega arith), drop-take k n bytes) at (take-append-drop k (take (k + n) bytes)))

-- what `&input[used..]` is
pub rest_is : (used : ℕ) (input : List ℕ) → take (length input - used) (drop used input) ≡ drop used input
rest_is used input = take_all _ _ (omega (arith, length-drop used input))

pub refuses_new : (o : Option Refusal) (gifts : Gifts) (old : StreamState) (s : List ℕ) (es : List (ℕ × reading.Event)) (input : List ℕ) (r : Refusal) → o ≡ None → Refuses o gifts old s es input r → Says old.rules (start_with gifts) (s ++ input) es (reading.Refused r.at r.why)
refuses_new None gifts old s es input r is h = h
refuses_new (Some b) gifts old s es input r is h = absurd cc

module _ {V : Type 0} (f : V → ℕ → reading.Event → V) where
  fold_more : (v : V) (es : List (ℕ × reading.Event)) (at : ℕ) (e : reading.Event) → fold_events f v (es ++ (at, e) ∷ []) ≡ f (fold_events f v es) at e
  fold_more v [] at e = refl
  fold_more v (x ∷ es) at e = fold_more (f v x.0 x.1) es at e

  pub fold_append : (v : V) (es fs : List (ℕ × reading.Event)) → fold_events f v (es ++ fs) ≡ fold_events f (fold_events f v es) fs
  fold_append v [] fs = refl
  fold_append v (x ∷ es) fs = fold_append (f v x.0 x.1) es fs

  pub drains_none : (gifts : Gifts) (d : StreamState) (s : List ℕ) (es : List (ℕ × reading.Event)) (v : V) → AfterGifts gifts d s es → Drains f gifts d s es [] v v
  drains_none gifts d s es v a = record { more = []; conforms = rw (append-nil s, append-nil es) a; got = refl }

  module _ (gifts : Gifts) (old new : StreamState) (s input : List ℕ) (used : ℕ) (es : List (ℕ × reading.Event)) (v w : V) (d : Drains f gifts old s es (take used input) v w) where
    -- after one more event
    abbrev Onward : (at taken : ℕ) → reading.Event → Type 0
    Onward at taken e = AfterGifts gifts new ((s ++ take used input) ++ take taken (drop used input)) ((es ++ d.more) ++ (at, e) ∷ [])

    conforms_more : (at taken : ℕ) (e : reading.Event) → Onward at taken e → AfterGifts gifts new (s ++ take (used + taken) input) (es ++ (d.more ++ (at, e) ∷ []))
    conforms_more at taken e conforms = rw (take_two used taken input, ← (append_assoc s (take used input) (take taken (drop used input))), ← (append_assoc es d.more ((at, e) ∷ []))) conforms

    pub drains_one : (at taken : ℕ) (e : reading.Event) (w' : V) → Onward at taken e → w' ≡ f w at e → Drains f gifts new s es (take (used + taken) input) v w'
    drains_one at taken e w' conforms is = record {
      more = d.more ++ (at, e) ∷ [];
      conforms = conforms_more at taken e conforms;
      got = is ∙ ap (λ (z : V). f z at e) d.got ∙ sym (fold_more v d.more at e);
    }

    pub fails_one : (faulted : V → ℕ → reading.Event → V → Type 0) (at taken : ℕ) (e : reading.Event) (w' : V) → Onward at taken e → faulted w at e w' → Fails f faulted gifts new s es (take (used + taken) input) v w'
    fails_one faulted at taken e w' conforms fault = record {
      more = d.more;
      at = at;
      event = e;
      conforms = rw (append_assoc es d.more ((at, e) ∷ [])) (conforms_more at taken e conforms);
      fault = rw (← d.got) fault;
    }

    pub drains_event : (at taken : ℕ) (e : Event) (w' : V) → LeadsAfter gifts old (s ++ take used input) (es ++ d.more) (drop used input) (steps.Event at taken e) new → w' ≡ f w at (event_of e) → Drains f gifts new s es (take (used + taken) input) v w'
    drains_event at taken e w' leads is = drains_one at taken (event_of e) w' leads.3 is

    pub fails_event : (faulted : V → ℕ → reading.Event → V → Type 0) (at taken : ℕ) (e : Event) (w' : V) → LeadsAfter gifts old (s ++ take used input) (es ++ d.more) (drop used input) (steps.Event at taken e) new → faulted w at (event_of e) w'
        → Fails f faulted gifts new s es (take (used + taken) input) v w'
    fails_event faulted at taken e w' leads fault = fails_one faulted at taken (event_of e) w' leads.3 fault

    all : (s ++ take used input) ++ drop used input ≡ s ++ input
    all = append_assoc s (take used input) (drop used input) ∙ ap (λ (z : List ℕ). s ++ z) (take-append-drop used input)

    pub drains_all : (free : StreamState) → (free.refusal ≡ None → old.refusal ≡ None) → (taken : ℕ) → Goes old (steps.More taken) new → LeadsAfter gifts old (s ++ take used input) (es ++ d.more) (drop used input) (steps.More taken) new → DrainsAll f gifts free new s es input input v w
    drains_all free clear taken goes leads =
        let h = rw all at leads in record { drains = record { more = d.more; conforms = h.2; got = d.got }; says = λ none. rw goes.1 h.3 }

    pub drains_refused : (free : StreamState) → (free.refusal ≡ None → old.refusal ≡ None) → (r : Refusal) → Goes old (steps.Refused r) new → LeadsAfter gifts old (s ++ take used input) (es ++ d.more) (drop used input) (steps.Refused r) new → DrainsAll f gifts free new s es input (take used input) v w
    drains_refused free clear r goes leads = record {
      drains = record { more = d.more; conforms = leads.1; got = d.got };
      says = λ none. rw (goes.0, goes.1) (rw all at (refuses_new old.refusal gifts old (s ++ take used input) (es ++ d.more) (drop used input) r (clear none) leads.2));
    }

  -- one piece after another
  abbrev pub drains_then : (gifts : Gifts) (mid new : StreamState) (s a b : List ℕ) (es : List (ℕ × reading.Event)) (v w x : V) (d : Drains f gifts mid s es a v w) → Drains f gifts new (s ++ a) (es ++ d.more) b w x → Drains f gifts new s es (a ++ b) v x
  drains_then gifts mid new s a b es v w x d e = record {
    more = d.more ++ e.more;
    conforms = rw (← (append_assoc s a b), ← (append_assoc es d.more e.more)) e.conforms;
    got = e.got ∙ ap (λ (z : V). fold_events f z e.more) d.got ∙ sym (fold_append v d.more e.more);
  }

  pub fails_then : (faulted : V → ℕ → reading.Event → V → Type 0) (gifts : Gifts) (mid new : StreamState) (s a b : List ℕ) (es : List (ℕ × reading.Event)) (v w x : V) (d : Drains f gifts mid s es a v w) → Fails f faulted gifts new (s ++ a) (es ++ d.more) b w x → Fails f faulted gifts new s es (a ++ b) v x
  fails_then faulted gifts mid new s a b es v w x d e = record {
    more = d.more ++ e.more;
    at = e.at;
    event = e.event;
    conforms = rw (← (append_assoc s a b), ← (append_assoc es d.more e.more)) e.conforms;
    fault = rw (fold_append v d.more e.more, ← d.got) e.fault;
  }

  -- of the rest of an input more was used
  pub drains_rest : (gifts : Gifts) (mid new : StreamState) (s input : List ℕ) (used taken : ℕ) (es : List (ℕ × reading.Event)) (v w x : V) (d : Drains f gifts mid s es (take used input) v w)
      → Drains f gifts new (s ++ take used input) (es ++ d.more) (take taken (drop used input)) w x → Drains f gifts new s es (take (used + taken) input) v x
  drains_rest gifts mid new s input used taken es v w x d e = rw (take_two used taken input) (drains_then gifts mid new s (take used input) (take taken (drop used input)) es v w x d e)

  pub fails_rest : (faulted : V → ℕ → reading.Event → V → Type 0) (gifts : Gifts) (mid new : StreamState) (s input : List ℕ) (used taken : ℕ) (es : List (ℕ × reading.Event)) (v w x : V) (d : Drains f gifts mid s es (take used input) v w)
      → Fails f faulted gifts new (s ++ take used input) (es ++ d.more) (take taken (drop used input)) w x → Fails f faulted gifts new s es (take (used + taken) input) v x
  fails_rest faulted gifts mid new s input used taken es v w x d e = rw (take_two used taken input) (fails_then faulted gifts mid new s (take used input) (take taken (drop used input)) es v w x d e)

  -- a piece of which more is wanted has no event
  pub drains_waits : (gifts : Gifts) (old new : StreamState) (s piece : List ℕ) (es : List (ℕ × reading.Event)) (v : V) (used : ℕ) → LeadsAfter gifts old s es piece (steps.More used) new → DrainsAll f gifts old new s es piece piece v v
  drains_waits gifts old new s piece es v used leads = record {
    drains = record { more = []; conforms = rw (append-nil es) leads.2; got = refl };
    says = λ none. rw (leads.1, append-nil es) leads.3;
  }

  abbrev pub feeds_none : (d : StreamState) (xs : List ℕ) (v : V) → Feeds f d d xs v v
  feeds_none d xs v = record { bytes = []; rest = xs; parts = refl; drained = λ gifts s es a. drains_none gifts d s es v a }

  module _ (old mid new : StreamState) (xs piece left : List ℕ) (v w x : V) (d : Feeds f old mid xs v w) (is : d.rest ≡ piece ++ left) (part end : List ℕ) (split : piece ≡ part ++ end) where
    pub parts_then : xs ≡ (d.bytes ++ part) ++ (end ++ left)
    parts_then = d.parts ∙ ap (λ (z : List ℕ). d.bytes ++ z) (is ∙ ap (λ (z : List ℕ). z ++ left) split ∙ append_assoc part end left) ∙ sym (append_assoc d.bytes part (end ++ left))

    abbrev pub feeds_then : ((gifts : Gifts) (s : List ℕ) (es : List (ℕ × reading.Event)) → AfterGifts gifts mid s es → Drains f gifts new s es part w x) → Feeds f old new xs v x
    feeds_then next = record {
      bytes = d.bytes ++ part;
      rest = end ++ left;
      parts = parts_then;
      drained = λ gifts s es a. let e = d.drained gifts s es a in drains_then gifts mid new s d.bytes part es v w x e (next gifts (s ++ d.bytes) (es ++ e.more) e.conforms);
    }

    pub end_fits : length piece ≤ 4096 → length end ≤ 4096
    end_fits small = omega (arith, small, ap length split, length-append part end)

    -- of the piece, what was looked at but not used was refused
    pub has_all : length piece ≤ 4096 → (left' : Option (List ℕ)) → left' ≡ Some left → (new.refusal ≡ None → end ≡ []) → (old.refusal ≡ None → mid.refusal ≡ None) → (next : (gifts : Gifts) (s : List ℕ) (es : List (ℕ × reading.Event)) → AfterGifts gifts mid s es → DrainsAll f gifts mid new s es piece part w x)
        → HasAll f old new xs left' v x (feeds_then (λ gifts s es a. (next gifts s es a).drains))
    has_all small left' is' none clear next = record {
      looked = end;
      unread = left;
      parts = refl;
      others = is';
      none = none;
      few = end_fits small;
      says = λ free gifts s es a.
          let e = d.drained gifts s es a in
          let n = next gifts (s ++ d.bytes) (es ++ e.more) e.conforms in
          let bytes : s ++ (d.bytes ++ part) ++ end ≡ s ++ d.bytes ++ piece = ap (λ (z : List ℕ). z ++ end) (sym (append_assoc s d.bytes part)) ∙ append_assoc (s ++ d.bytes) part end ∙ ap (λ (z : List ℕ). s ++ d.bytes ++ z) (sym split) in
          rw (bytes, ← (append_assoc es e.more n.drains.more)) (n.says (clear free));
    }

    abbrev pub feeds_into : length piece ≤ 4096 → (left' : Option (List ℕ)) → left' ≡ Some left → (faulted : V → ℕ → reading.Event → V → Type 0) → ((gifts : Gifts) (s : List ℕ) (es : List (ℕ × reading.Event)) → AfterGifts gifts mid s es → Fails f faulted gifts new s es part w x) → FeedsInto f faulted old new xs left' v x
    feeds_into small left' is' faulted next = record {
      bytes = d.bytes ++ part;
      rest = end ++ left;
      parts = parts_then;
      lost = end;
      unread = left;
      split = refl;
      few = end_fits small;
      others = is';
      failed = λ gifts s es a. let e = d.drained gifts s es a in fails_then faulted gifts mid new s d.bytes part es v w x e (next gifts (s ++ d.bytes) (es ++ e.more) e.conforms);
    }

-- the reader's bytes stay
pub has_all_still : {V : Type 0} (f : V → ℕ → reading.Event → V) (old new : StreamState) (xs : List ℕ) (left left' : Option (List ℕ)) (v w : V) (d : Feeds f old new xs v w) → left ≡ left' → HasAll f old new xs left v w d → HasAll f old new xs left' v w d
has_all_still f old new xs left left' v w d same all = subst (λ (l : Option (List ℕ)). HasAll f old new xs l v w d) same all

-- what is left of a reader's bytes after a read
pub read_some : (old new : Option (List ℕ)) (rest buffer : List ℕ) (n : ℕ) → old ≡ Some rest → Consumes old new (take n buffer) → (n ≡ 0 → 0 < length buffer → IsAtEnd new)
    → (left : List ℕ) × (new ≡ Some left) × (rest ≡ take n buffer ++ left) × (n ≡ 0 → 0 < length buffer → left ≡ [])
read_some None new rest buffer n is reads end = absurd cc
read_some (Some xs) None rest buffer n is reads end = absurd reads
read_some (Some xs) (Some ys) rest buffer n is reads end = let same : xs ≡ rest = cc in (ys, refl, sym same ∙ reads, end)

pub keeps_some : (old new : Option (List ℕ)) (rest : List ℕ) → old ≡ Some rest → Keeps old new → new ≡ Some rest
keeps_some None new rest is k = absurd cc
keeps_some (Some xs) None rest is k = absurd k
keeps_some (Some xs) (Some ys) rest is k = let same : xs ≡ rest = cc in ap Some (k ∙ same)

pub at_end : (rest left buffer : List ℕ) (n : ℕ) → rest ≡ take n buffer ++ left → n ≡ 0 → left ≡ [] → rest ≡ []
at_end rest left buffer n is zero none = rw (zero, none) at is

-- ---- how many reads gave how many bytes

pub gives_none : (xs : List ℕ) (left : Option (List ℕ)) → left ≡ Some xs → InReads 0 xs left
gives_none xs left is = record { read = []; rest = xs; parts = refl; some = omega arith; few = omega arith; others = is }

pub gives_kept : (reads : ℕ) (xs : List ℕ) (old new : Option (List ℕ)) → InReads reads xs old → Keeps old new → InReads reads xs new
gives_kept reads xs old new d k = record { read = d.read; rest = d.rest; parts = d.parts; some = d.some; few = d.few; others = keeps_some old new d.rest d.others k }

-- a read at the end of the input, into a buffer with some room
pub gives_end : (reads : ℕ) (xs : List ℕ) (old new : Option (List ℕ)) (buffer : List ℕ) (n : ℕ) → n ≡ 0 → 0 < length buffer → InReads reads xs old
    → Consumes old new (take n buffer) × (n ≡ 0 → 0 < length buffer → IsAtEnd new) → InReads reads xs new
gives_end reads xs old new buffer n zero long d came =
    let r = read_some old new d.rest buffer n d.others came.0 came.1 in
    let none = r.3 zero long in
    let same : d.rest ≡ r.0 = at_end d.rest r.0 buffer n r.2 zero none ∙ sym none in
    record { read = d.read; rest = d.rest; parts = d.parts; some = d.some; few = d.few; others = r.1 ∙ sym (ap (λ (z : List ℕ). Some z) same) }

-- one more read that gave some bytes, into a buffer of 4,096
pub gives_more : (reads : ℕ) (xs : List ℕ) (old new : Option (List ℕ)) (buffer : List ℕ) (n : ℕ) → 0 < n → n ≤ length buffer → length buffer ≡ 4096 → InReads reads xs old
    → Consumes old new (take n buffer) × (n ≡ 0 → 0 < length buffer → IsAtEnd new) → InReads (reads + 1) xs new
gives_more reads xs old new buffer n one bound long d came =
    let r = read_some old new d.rest buffer n d.others came.0 came.1 in
    let some = d.some in
    let few = d.few in
    record {
      read = d.read ++ take n buffer;
      rest = r.0;
      parts = d.parts ∙ ap (λ (z : List ℕ). d.read ++ z) r.2 ∙ sym (append_assoc d.read (take n buffer) r.0);
      some = omega (arith, length-append d.read (take n buffer), length-take-le n buffer bound);
      few = omega (arith, length-append d.read (take n buffer), length-take-le n buffer bound);
      others = r.1;
    }

-- ---- how many reads gave nothing

pub idle_refused : (f : Finish) (r : Refusal) → f ≡ finish.Refused r → idle_reads (outcome.Finished f) ≡ 0
idle_refused f r is = ap (λ (z : Finish). idle_reads (outcome.Finished z)) is

pub idle_at_end : (f : Finish) → IsUnrefused f → idle_reads (outcome.Finished f) ≡ 1
idle_at_end (finish.Whole n) unrefused = refl
idle_at_end (finish.Cut at n) unrefused = refl
idle_at_end (finish.Refused r) unrefused = absurd unrefused
