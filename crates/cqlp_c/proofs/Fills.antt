-- One more event in a batch.
use Rattle.std.proofs.Common.{◌≡◌, ℕ, ◌+◌, ◌≤◌, ◌<◌, List, [], ◌∷◌, ◌++◌, length, take, drop, refl, sym, ap, subst, ◌∙◌, append_assoc, inl, inr, arith}
use Rattle.std.specs.Prelude.{Option, Some, None}
use Rattle.std.specs.Ptr.{Ptr}
use Rattle.std.proofs.lemmas.List.{append-nil, length-append, length-drop, take-append-drop, take_all}
use Rattle.cqlp_note.specs.Limits.{Rules}
use Rattle.cqlp_note.specs.declared.refusal.Refusal.{Refusal}
use Rattle.cqlp_decode.specs.declared.step.Step.TheVariants as steps
use Rattle.cqlp_decode.specs.Reading.{Event, Gifts, Reads, start_with}
use Rattle.cqlp_decode.specs.Progress.{StreamState, IsPending}
use Rattle.cqlp_decode.specs.Streams.{AfterGifts, AfterBy, Conforms, LeadsAfter, Refuses}
use Rattle.cqlp_decode.proofs.Gets.{take_two, refuses_new}
use Rattle.cqlp_laws.proofs.OneAnswer.{pending_none}
use Rattle.cqlp_c.specs.declared.event.CqlpEvent.{CqlpEvent}
use Rattle.cqlp_c.specs.declared.batch.Batch.{Batch}
use Rattle.cqlp_c.specs.declared.batch.Stop.TheVariants as stop
use Rattle.cqlp_c.specs.Batches.{Buffer, Fills, Put, Puts, IsRead, IsInInput, AllInInput, OthersInInput, LastIsGathered, IsGathered, WritesAll, WritesPut, events_of, end_of}

-- ---- lists of events that were put

pub length_snoc : (ps : List Put) (p : Put) → length (ps ++ p ∷ []) ≡ length ps + 1
length_snoc ps p = length-append ps (p ∷ [])

pub events_snoc : (ps : List Put) (p : Put) → events_of (ps ++ p ∷ []) ≡ events_of ps ++ (p.at, p.event) ∷ []
events_snoc [] p = refl
events_snoc (q ∷ ps) p = ap (λ (z : List (ℕ × Event)). (q.at, q.event) ∷ z) (events_snoc ps p)

pub end_snoc : (from : ℕ) (ps : List Put) (p : Put) → end_of from (ps ++ p ∷ []) ≡ p.end
end_snoc from [] p = refl
end_snoc from (q ∷ ps) p = end_snoc q.end ps p

pub puts_snoc : (gifts : Gifts) (l : Rules) (s input : List ℕ) (es : List (ℕ × Event)) (from : ℕ) (ps : List Put) (p : Put) → Puts gifts l s input es from ps → p.from ≡ end_of from ps → p.end ≤ length input
    → IsRead gifts l (s ++ take p.end input) ((es ++ events_of ps) ++ (p.at, p.event) ∷ []) → Puts gifts l s input es from (ps ++ p ∷ [])
puts_snoc gifts l s input es from [] p put is within read = (is, within, subst (λ (z : List (ℕ × Event)). IsRead gifts l (s ++ take p.end input) (z ++ (p.at, p.event) ∷ [])) (append-nil es) read, tt)
puts_snoc gifts l s input es from (q ∷ ps) p put is within read = (
  put.0,
  put.1,
  put.2,
  puts_snoc gifts l s input (es ++ (q.at, q.event) ∷ []) q.end ps p put.3 is within
      (subst (λ (z : List (ℕ × Event)). IsRead gifts l (s ++ take p.end input) (z ++ (p.at, p.event) ∷ [])) (sym (append_assoc es ((q.at, q.event) ∷ []) (events_of ps))) read),
)

pub all_snoc : (ps : List Put) (p : Put) → AllInInput ps → IsInInput p → AllInInput (ps ++ p ∷ [])
all_snoc [] p all is = (is, tt)
all_snoc (q ∷ ps) p all is = (all.0, all_snoc ps p all.1 is)

pub others_snoc : (ps : List Put) (p : Put) → AllInInput ps → OthersInInput (ps ++ p ∷ [])
others_snoc [] p all = tt
others_snoc (q ∷ []) p all = (all.0, tt)
others_snoc (q ∷ r ∷ ps) p all = (all.0, others_snoc (r ∷ ps) p all.1)

pub others_of_all : (ps : List Put) → AllInInput ps → OthersInInput ps
others_of_all [] all = tt
others_of_all (q ∷ []) all = tt
others_of_all (q ∷ r ∷ ps) all = (all.0, others_of_all (r ∷ ps) all.1)

pub last_snoc : (ps : List Put) (p : Put) → IsGathered p → LastIsGathered (ps ++ p ∷ [])
last_snoc [] p is = is
last_snoc (q ∷ []) p is = is
last_snoc (q ∷ r ∷ ps) p is = last_snoc (r ∷ ps) p is

pub writes_snoc : (begins : Ptr) (b : Buffer) (cs : List CqlpEvent) (ps : List Put) (c : CqlpEvent) (p : Put) → WritesAll begins b cs ps → WritesPut begins b c p → WritesAll begins b (cs ++ c ∷ []) (ps ++ p ∷ [])
writes_snoc begins b [] [] c p all is = (is, tt)
writes_snoc begins b [] (q ∷ ps) c p all is = absurd all
writes_snoc begins b (d ∷ cs) [] c p all is = absurd all
writes_snoc begins b (d ∷ cs) (q ∷ ps) c p all is = (all.0, writes_snoc begins b cs ps c p all.1 is)

-- ---- a batch so far

-- what a step leads to that takes this many bytes of the input and ends in this event
abbrev pub LeadsTo : Gifts → (s : List ℕ) → (es : List (ℕ × Event)) → (input : List ℕ) → (at used : ℕ) → Event → StreamState → Type 0
LeadsTo gifts s es input at used e new =
    (used ≤ length input) × (new.refusal ≡ None) × IsPending new.pending [] × AfterGifts gifts new (s ++ take used input) (es ++ (at, e) ∷ [])

-- what was read, where nothing has come of what is next
is_read : (gifts : Gifts) (l : Rules) (d : StreamState) (s : List ℕ) (es : List (ℕ × Event)) → d.rules ≡ l → d.refusal ≡ None → IsPending d.pending [] → AfterGifts gifts d s es → IsRead gifts l s es
is_read gifts l d s es rules none begun a =
    let st : Conforms gifts d s es = subst (λ (o : Option Refusal). AfterBy o gifts d s es) none a in (
      st.place,
      subst (λ (z : Rules). Reads z (start_with gifts) s es st.place []) rules (subst (λ (b : List ℕ). Reads d.rules (start_with gifts) s es st.place b) (pending_none d.pending st.bytes begun st.pending) st.read),
    )

-- These were put: the reading of the bytes used says their events, and the decoder is after them.
pub record IsFilled (gifts : Gifts) (l : Rules) (d : StreamState) (s input : List ℕ) (begins : Ptr) (es : List (ℕ × Event)) (used : ℕ) (cs : List CqlpEvent) : Type 0 where
  pub puts : List Put
  pub count : length puts ≡ length cs
  pub put : Puts gifts l s input es 0 puts
  pub written : (b : Buffer) → WritesAll begins b cs puts
  pub ends : used ≡ end_of 0 puts
  pub after : AfterGifts gifts d (s ++ take used input) (es ++ events_of puts)
  pub lie : AllInInput puts

pub filled_none : (gifts : Gifts) (l : Rules) (d : StreamState) (s input : List ℕ) (begins : Ptr) (es : List (ℕ × Event)) → AfterGifts gifts d s es → IsFilled gifts l d s input begins es 0 []
filled_none gifts l d s input begins es a = record { puts = []; count = refl; put = tt; written = λ b. tt; ends = refl; after = rw (append-nil s, append-nil es) a; lie = tt }

module _ (gifts : Gifts) (l : Rules) (old new : StreamState) (s input : List ℕ) (begins : Ptr) (es : List (ℕ × Event)) (used : ℕ) (cs : List CqlpEvent) (f : IsFilled gifts l old s input begins es used cs) where
  all : (s ++ take used input) ++ drop used input ≡ s ++ input
  all = append_assoc s (take used input) (drop used input) ∙ ap (λ (z : List ℕ). s ++ z) (take-append-drop used input)

  -- the event of a step
  module _ (at taken : ℕ) (e : Event) (rules : new.rules ≡ l) (within : used ≤ length input)
      (leads : LeadsTo gifts (s ++ take used input) (es ++ events_of f.puts) (drop used input) at taken e new) where
    abbrev pub next_put : Put
    next_put = record { at = at; event = e; from = used; end = used + taken }

    there : AfterGifts gifts new (s ++ take (used + taken) input) ((es ++ events_of f.puts) ++ (at, e) ∷ [])
    there = rw (take_two used taken input, ← (append_assoc s (take used input) (take taken (drop used input)))) leads.3

    pub read_more : IsRead gifts l (s ++ take (used + taken) input) ((es ++ events_of f.puts) ++ (at, e) ∷ [])
    read_more = is_read gifts l new (s ++ take (used + taken) input) ((es ++ events_of f.puts) ++ (at, e) ∷ []) rules leads.1 leads.2 there

    put_more : Puts gifts l s input es 0 (f.puts ++ next_put ∷ [])
    put_more = puts_snoc gifts l s input es 0 f.puts next_put f.put f.ends (omega (arith, leads.0, within, length-drop used input)) read_more

    after_more : AfterGifts gifts new (s ++ take (used + taken) input) (es ++ events_of (f.puts ++ next_put ∷ []))
    after_more = rw (events_snoc f.puts next_put, ← (append_assoc es (events_of f.puts) ((at, e) ∷ []))) there

    module _ (c : CqlpEvent) where
      pub filled_more : ((b : Buffer) → WritesPut begins b c next_put) → (ds : List CqlpEvent) → ds ≡ cs ++ c ∷ [] → IsInInput next_put → IsFilled gifts l new s input begins es (used + taken) ds
      filled_more writes ds is lies = record {
        puts = f.puts ++ next_put ∷ [];
        count = omega (arith, length_snoc f.puts next_put, f.count, ap length is, length-append cs (c ∷ []));
        put = put_more;
        written = λ b. rw is (writes_snoc begins b cs f.puts c next_put (f.written b) (writes b));
        ends = sym (end_snoc 0 f.puts next_put);
        after = after_more;
        lie = all_snoc f.puts next_put f.lie lies;
      }

      pub fills_gathered : (buffer : Buffer) → WritesPut begins buffer c next_put → (free : StreamState) (room : ℕ) (b : Batch) (events : List CqlpEvent) → free.rules ≡ l → b ≡ record { used = used + taken; events = length cs + 1; stop = stop.Full } → take (length cs + 1) events ≡ cs ++ c ∷ [] → IsGathered next_put
          → Fills gifts free new s input begins buffer es room b events
      fills_gathered buffer writes free room b events same is put gathered = record {
        puts = f.puts ++ next_put ∷ [];
        count = rw is (omega (arith, length_snoc f.puts next_put, f.count));
        put = rw same put_more;
        written = rw (is, put) (writes_snoc begins buffer cs f.puts c next_put (f.written buffer) writes);
        after = rw is after_more;
        stops = rw is (sym (end_snoc 0 f.puts next_put), others_snoc f.puts next_put f.lie, inr (last_snoc f.puts next_put gathered));
      }

  -- the end of a batch
  module _ (buffer : Buffer) (free : StreamState) (same : free.rules ≡ l) (room : ℕ) (b : Batch) (events : List CqlpEvent) (put : take b.events events ≡ cs) (count : b.events ≡ length cs) where
    pub fills_full : b.used ≡ used → b.stop ≡ stop.Full → old ≡ new → length cs ≡ room → Fills gifts free new s input begins buffer es room b events
    fills_full at is still full = record {
      puts = f.puts;
      count = f.count ∙ sym count;
      put = rw same f.put;
      written = rw put (f.written buffer);
      after = rw (at, ← still) f.after;
      stops = rw (at, is) (f.ends, others_of_all f.puts f.lie, inl (f.count ∙ full));
    }

    pub fills_all : (taken : ℕ) → b.used ≡ used + taken → used ≤ length input → b.stop ≡ stop.More → length cs < room → LeadsAfter gifts old (s ++ take used input) (es ++ events_of f.puts) (drop used input) (steps.More taken) new → Fills gifts free new s input begins buffer es room b events
    fills_all taken at within is room' leads =
        let h = rw all at leads in
        let whole : b.used ≡ length input = omega (arith, at, h.0, length-drop used input, within) in
        record {
          puts = f.puts;
          count = f.count ∙ sym count;
          put = rw same f.put;
          written = rw put (f.written buffer);
          after = rw (whole, take_all (length input) input (omega arith)) h.2;
          stops = rw is (whole, omega (arith, f.count, room'), f.lie, h.1, h.3);
        }

    -- what is refused, over the whole stream
    refuses_free : (o : Option Refusal) → old.rules ≡ free.rules → (o ≡ None → old.refusal ≡ None) → ((z : Refusal) → o ≡ Some z → old.refusal ≡ Some z) → (r : Refusal) → Refuses old.refusal gifts old (s ++ take used input) (es ++ events_of f.puts) (drop used input) r
        → Refuses o gifts free s (es ++ events_of f.puts) input r
    refuses_free None rules clear still r h = rw (all, rules) at (refuses_new old.refusal gifts old (s ++ take used input) (es ++ events_of f.puts) (drop used input) r (clear refl) h)
    refuses_free (Some before) rules clear still r h = subst (λ (o : Option Refusal). Refuses o gifts old (s ++ take used input) (es ++ events_of f.puts) (drop used input) r) (still before refl) h

    pub fills_refused : (r : Refusal) → b.used ≡ used → b.stop ≡ stop.Refused r → length cs < room → old.rules ≡ free.rules → (free.refusal ≡ None → old.refusal ≡ None) → ((z : Refusal) → free.refusal ≡ Some z → old.refusal ≡ Some z)
        → LeadsAfter gifts old (s ++ take used input) (es ++ events_of f.puts) (drop used input) (steps.Refused r) new → Fills gifts free new s input begins buffer es room b events
    fills_refused r at is room' rules clear still leads = record {
      puts = f.puts;
      count = f.count ∙ sym count;
      put = rw same f.put;
      written = rw put (f.written buffer);
      after = rw at leads.1;
      stops = rw (at, is) (f.ends, inl (omega (arith, f.count, room')), f.lie, leads.0, refuses_free free.refusal rules clear still r leads.2);
    }
