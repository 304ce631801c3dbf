-- Items that were taken one after the other.
use Rattle.std.proofs.Common.{◌≡◌, ℕ, ◌+◌, ◌*◌, ◌≤◌, List, [], ◌∷◌, ◌++◌, length, take, drop, drop-drop, refl, sym, ap, subst, ◌∙◌, append_assoc, arith}
use Rattle.std.specs.Prelude.{Option, None}
use Rattle.std.proofs.lemmas.List.{append-nil, length-drop}
use Rattle.cqlp_note.specs.declared.refusal.Refusal.{Refusal}
use Rattle.cqlp_decode.specs.Reading.{Event, Gifts}
use Rattle.cqlp_decode.specs.Progress.{StreamState, ends_due}
use Rattle.cqlp_decode.specs.Streams.{AfterBy, AfterGifts}
use Rattle.cqlp_decode.specs.Draining.{Drains, FailsWithin, Passes, fold_events}
use Rattle.cqlp_decode.specs.Items.{TakesItem}
use Rattle.cqlp_grammar.specs.declared.sink.Sink as sink
use Rattle.cqlp_decode.specs.Sinks.{Gets, Fails}
use Rattle.cqlp_decode.specs.Cells.{Item, TakesItems, GetsAll, HandsOut, FailsAfter, bytes_of, emitted_of}
use Rattle.cqlp_decode.proofs.Leads.{hands_conforms}
use Rattle.cqlp_decode.proofs.Gets.{take_two}

-- ---- lists of items

bytes_append : (xs ys : List Item) → bytes_of (xs ++ ys) ≡ bytes_of xs + bytes_of ys
bytes_append [] ys = omega arith
bytes_append (x ∷ xs) ys = let more = bytes_append xs ys in omega (arith, more)

pub emitted_append : (xs ys : List Item) → emitted_of (xs ++ ys) ≡ emitted_of xs ++ emitted_of ys
emitted_append [] ys = refl
emitted_append (x ∷ xs) ys = ap (λ (z : List (ℕ × Event)). (x.at, x.event) ∷ z) (emitted_append xs ys)

-- ---- what they lead to

pub takes_append : (old mid new : StreamState) (input : List ℕ) (xs ys : List Item) → TakesItems old input xs mid → TakesItems mid (drop (bytes_of xs) input) ys new → TakesItems old input (xs ++ ys) new
takes_append old mid new input [] ys a b = subst (λ (z : StreamState). TakesItems z input ys new) a b
takes_append old mid new input (x ∷ xs) ys a b = (
  a.0,
  a.1,
  a.2,
  takes_append a.0 mid new (drop x.used input) xs ys a.3 (subst (λ (z : List ℕ). TakesItems mid z ys new) (sym (drop-drop (bytes_of xs) x.used input)) b),
)

pub takes_within : (old new : StreamState) (input : List ℕ) (xs : List Item) → TakesItems old input xs new → bytes_of xs ≤ length input
takes_within old new input [] t = omega arith
takes_within old new input (x ∷ xs) t =
    let more = takes_within t.0 new (drop x.used input) xs t.3 in
    let first = t.2.3.within in omega (arith, more, first, length-drop x.used input)

-- each takes some byte, or ends its frame or a value that is open
pub takes_pays : (old new : StreamState) (input : List ℕ) (xs : List Item) → TakesItems old input xs new
    → ends_due new.place.symbols + new.open_values + length xs ≤ ends_due old.place.symbols + old.open_values + 2 * bytes_of xs
takes_pays old new input [] t = rw t (omega arith)
takes_pays old new input (x ∷ xs) t =
    let more = takes_pays t.0 new (drop x.used input) xs t.3 in
    let first = t.2.3.pays in omega (arith, more, first)

pub takes_conforms : (gifts : Gifts) (old new : StreamState) (s input : List ℕ) (es : List (ℕ × Event)) (xs : List Item) → TakesItems old input xs new → AfterGifts gifts old s es → AfterGifts gifts new (s ++ take (bytes_of xs) input) (es ++ emitted_of xs)
takes_conforms gifts old new s input es [] t a = rw (t, append-nil s, append-nil es) a
takes_conforms gifts old new s input es (x ∷ xs) t a =
    let after = subst (λ (o : Option Refusal). AfterBy o gifts old s es) t.1 a in
    let first = hands_conforms old t.0 input s es gifts x.at x.used x.event t.2.3 (t.2.0 ∙ t.1) t.2.1 after in
    let more = takes_conforms gifts t.0 new (s ++ take x.used input) (drop x.used input) (es ++ (x.at, x.event) ∷ []) xs t.3 first in
    rw (take_two x.used (bytes_of xs) input, ← (append_assoc s (take x.used input) (take (bytes_of xs) (drop x.used input))), ← (append_assoc es ((x.at, x.event) ∷ []) (emitted_of xs))) more

-- ---- what a sink has got

module _ {S : Type 0} (Gets : S → ℕ → Event → S → Type 0) where
  gets_append : (s t u : S) (xs ys : List Item) → GetsAll Gets s xs t → GetsAll Gets t ys u → GetsAll Gets s (xs ++ ys) u
  gets_append s t u [] ys a b = subst (λ (z : S). GetsAll Gets z ys u) a b
  gets_append s t u (x ∷ xs) ys a b = (a.0, a.1, gets_append a.0 t u xs ys a.2 b)

  -- ---- one after the other

  pub hands_none : (d : StreamState) (input : List ℕ) (s : S) → HandsOut Gets d d input 0 s s
  hands_none d input s = record { items = []; takes = refl; all = refl; got = refl }

  pub hands_then : (old mid new : StreamState) (input : List ℕ) (used taken : ℕ) (s t u : S) → HandsOut Gets old mid input used s t → HandsOut Gets mid new (drop used input) taken t u → HandsOut Gets old new input (used + taken) s u
  hands_then old mid new input used taken s t u d e = record {
    items = d.items ++ e.items;
    takes = takes_append old mid new input d.items e.items d.takes (subst (λ (n : ℕ). TakesItems mid (drop n input) e.items new) d.all e.takes);
    all = omega (arith, d.all, e.all, bytes_append d.items e.items);
    got = gets_append s t u d.items e.items d.got e.got;
  }

  pub fails_then : (Fails : S → ℕ → Event → S → Type 0) (old mid new : StreamState) (input : List ℕ) (used taken : ℕ) (s t u : S) → HandsOut Gets old mid input used s t → FailsAfter Gets Fails mid new (drop used input) taken t u → FailsAfter Gets Fails old new input (used + taken) s u
  fails_then Fails old mid new input used taken s t u d e =
      let items : (d.items ++ e.items) ++ e.last ∷ [] ≡ d.items ++ (e.items ++ e.last ∷ []) = append_assoc d.items e.items (e.last ∷ []) in record {
        items = d.items ++ e.items;
        last = e.last;
        takes = rw items (takes_append old mid new input d.items (e.items ++ e.last ∷ []) d.takes (subst (λ (n : ℕ). TakesItems mid (drop n input) (e.items ++ e.last ∷ []) new) d.all e.takes));
        all = rw items (omega (arith, d.all, e.all, bytes_append d.items (e.items ++ e.last ∷ [])));
        mid = e.mid;
        got = gets_append s t e.mid d.items e.items d.got e.got;
        fault = e.fault;
      }

  -- ---- one more

  module _ (old mid new : StreamState) (input : List ℕ) (used : ℕ) (s t : S) (d : HandsOut Gets old mid input used s t) (unrefused : mid.refusal ≡ None) (at taken : ℕ) (emitted : Event) (h : TakesItem mid (drop used input) at taken emitted new) where
    abbrev one : Item
    one = record { at = at; used = taken; event = emitted }

    takes_one : TakesItems mid (drop used input) (one ∷ []) new
    takes_one = (new, unrefused, h, refl)

    pub item_drains : (u : S) → Gets t at emitted u → HandsOut Gets old new input (used + taken) s u
    item_drains u got = hands_then old mid new input used taken s t u d (record { items = one ∷ []; takes = takes_one; all = omega arith; got = (u, got, refl) })

    pub item_fails : (Fails : S → ℕ → Event → S → Type 0) (u : S) → Fails t at emitted u → FailsAfter Gets Fails old new input (used + taken) s u
    item_fails Fails u fault = fails_then Fails old mid new input used taken s t u d (record { items = []; last = one; takes = takes_one; all = omega arith; mid = t; got = refl; fault = fault })

-- ---- over the whole stream, where the sink reports what it has got

module _ {S : Type 0} (m : sink.Ghosts S) where
  gets_emitted : (s t : S) (xs : List Item) → GetsAll (Gets m) s xs t → m.reports s → m.reports t × (m.view t ≡ fold_events m.after (m.view s) (emitted_of xs))
  gets_emitted s t [] g is = rw g (is, refl)
  gets_emitted s t (x ∷ xs) g is =
      let first = g.1.0 is in
      let more = gets_emitted g.0 t xs g.2 first.0 in (more.0, more.1 ∙ ap (λ (z : m.View). fold_events m.after z (emitted_of xs)) first.1)

  module _ (old new : StreamState) (input : List ℕ) (used : ℕ) (s t : S) where
    pub still_reports : HandsOut (Gets m) old new input used s t → m.reports s → m.reports t
    still_reports h is = (gets_emitted s t h.items h.got is).0

    pub drained : HandsOut (Gets m) old new input used s t → m.reports s → (gifts : Gifts) (bytes : List ℕ) (es : List (ℕ × Event)) → AfterGifts gifts old bytes es → Drains m.after gifts new bytes es (take used input) (m.view s) (m.view t)
    drained h is gifts bytes es a = record { more = emitted_of h.items; conforms = rw h.all (takes_conforms gifts old new bytes input es h.items h.takes a); got = (gets_emitted s t h.items h.got is).1 }

    pub failed : FailsAfter (Gets m) (Fails m) old new input used s t → m.reports s → FailsWithin m.after m.faulted old new (take used input) (m.view s) (m.view t)
    failed h is =
        let got = gets_emitted s h.mid h.items h.got is in
        λ gifts bytes es a. record {
          more = emitted_of h.items;
          at = h.last.at;
          event = h.last.event;
          conforms = rw (h.all, append_assoc es (emitted_of h.items) ((h.last.at, h.last.event) ∷ []), ← (emitted_append h.items (h.last ∷ []))) (takes_conforms gifts old new bytes input es (h.items ++ h.last ∷ []) h.takes a);
          fault = rw (← got.1) (h.fault.0 got.0);
        }

-- ---- from one sink to another

module _ {S : Type 0} (also : S → ℕ → Event → S → Type 0) where
  pub passes_none : (s : S) → Passes also s s
  passes_none s = ([], refl)

  pub passes_then : (s t u : S) → Passes also s t → Passes also t u → Passes also s u
  passes_then s t u a b = (a.0 ++ b.0, gets_append also s t u a.0 b.0 a.1 b.1)

  pub passes_one : (s t u : S) (at : ℕ) (e : Event) → Passes also s t → also t at e u → Passes also s u
  passes_one s t u at e a b = passes_then s t u a (record { at = at; used = 0; event = e } ∷ [], (u, b, refl))

module _ {S : Type 0} (m : sink.Ghosts S) where
  also_all : (s t : S) (xs : List Item) → GetsAll (Gets m) s xs t → GetsAll m.also s xs t
  also_all s t [] g = g
  also_all s t (x ∷ xs) g = (g.0, g.1.1, also_all g.0 t xs g.2)

  module _ (old new : StreamState) (input : List ℕ) (used : ℕ) (s t u : S) (before : Passes m.also s t) where
    pub passes_handed : HandsOut (Gets m) old new input used t u → Passes m.also s u
    passes_handed h = passes_then m.also s t u before (h.items, also_all t u h.items h.got)

    pub passes_failed : FailsAfter (Gets m) (Fails m) old new input used t u → Passes m.also s u
    passes_failed h = passes_one m.also s h.mid u h.last.at h.last.event (passes_then m.also s t h.mid before (h.items, also_all t h.mid h.items h.got)) h.fault.1
