-- What an inbox hears, read by read.
use Rattle.std.proofs.Common.{◌≡◌, ℕ, true, ◌+◌, ◌-◌, ◌≤◌, List, [], ◌∷◌, ◌++◌, length, take, drop, inl, inr, refl, sym, ap, subst, ◌∙◌, append_assoc, arith}
use Rattle.std.proofs.lemmas.List.{append-nil, take-append-drop, length-append, length-take, drop-take, drop-drop}
use Rattle.std.proofs.KnownBytes.{Consumes-nil, Consumes-trans}
use Rattle.std.specs.Prelude.{Ok, Err}
use Rattle.cqlp_note.specs.declared.header.Header.{Header}
use Rattle.cqlp_note.specs.declared.refusal.Refusal.{Refusal}
use Rattle.cqlp_decode.specs.Reading.{Verdict, Waits, Refused}
use Rattle.cqlp_decode.specs.Streams.{state}
use Rattle.cqlp_decode.specs.Draining.{Calls}
use Rattle.cqlp_loop.specs.declared.fault.LoopFault.{LoopFault}
use Rattle.cqlp_loop.specs.declared.fault.LoopFault.TheVariants as fault
use Rattle.cqlp_loop.specs.declared.inbox.Edge.{Edge}
use Rattle.cqlp_loop.specs.declared.inbox.Mark.{Mark}
use Rattle.cqlp_loop.specs.declared.inbox.Mark.TheVariants as mark
use Rattle.cqlp_loop.specs.Hearing.{Hearing, idle, amid}
use Rattle.cqlp_loop.specs.Inboxes.{Supply, MakesCalls, InboxState, Emits, SaysAll, IsWithout, Uses, Fills, Reads, IsShort, AreNeeded, Hears, Lacks, Misses, HearsRest, Receives, StopsAt, awaiting, for_next}
use Rattle.cqlp_loop.proofs.Seeking.{emits_none, emits_then, says_then}

-- the bytes that wait, once some of them are used
pub waiting_split : (next end used : ℕ) (piece : List ℕ) → used ≤ length (take (end - next) (drop next piece))
    → take (end - next) (drop next piece) ≡ take used (take (end - next) (drop next piece)) ++ take (end - (next + used)) (drop (next + used) piece)
waiting_split next end used piece within =
    let some : used ≤ end - next = omega (arith, length-take (end - next) (drop next piece)) in
    let m = end - (next + used) in
    let size : end - next ≡ used + m = omega arith in
    let rest : drop used (take (end - next) (drop next piece)) ≡ take m (drop (next + used) piece)
    = ap (λ (n : ℕ). drop used (take n (drop next piece))) size ∙ drop-take used m (drop next piece) ∙ ap (λ (l : List ℕ). take m l) (drop-drop used next piece) in
    sym (take-append-drop used (take (end - next) (drop next piece))) ∙ ap (λ (l : List ℕ). take used (take (end - next) (drop next piece)) ++ l) rest

-- ---- reads

calls_none : (c : Calls) → MakesCalls 0 c c
calls_none c = record { reads = λ small. omega arith; asked = λ small. omega arith }

calls_then : (n m : ℕ) (a b c : Calls) → MakesCalls n a b → MakesCalls m b c → MakesCalls (n + m) a c
calls_then n m a b c p q = record {
  reads = λ small. let one = p.reads (omega (arith, small)) in let two = q.reads (omega (arith, small, one)) in omega (arith, one, two);
  asked = λ small. let one = p.asked (omega (arith, small)) in let two = q.asked (omega (arith, small, one)) in omega (arith, one, two);
}

reads_none : (n : ℕ) (from : Supply) → Reads n from [] n from
reads_none n from = record {
  taken = Consumes-nil from.left;
  failures = refl;
  calls = let none : 0 ≡ n - n = omega arith in subst (λ (k : ℕ). MakesCalls k from.calls from.calls) none (calls_none from.calls);
  least = omega arith;
  most = omega arith;
}

reads_then : (n m k : ℕ) (from at left : Supply) (a b : List ℕ) → Reads n from a m at → Reads m at b k left → Reads n from (a ++ b) k left
reads_then n m k from at left a b p q = record {
  taken = Consumes-trans from.left at.left left.left a b p.taken q.taken;
  failures = q.failures ∙ p.failures;
  calls =
      let both : (n - m) + (m - k) ≡ n - k = omega (arith, p.most, q.most) in
      subst (λ (c : ℕ). MakesCalls c from.calls left.calls) both (calls_then (n - m) (m - k) from.calls at.calls left.calls p.calls q.calls);
  least = omega (arith, p.least, q.least, length-append a b);
  most = omega (arith, p.most, q.most, length-append a b);
}

-- ---- what is needed

short_then : (x y z : Hearing) → IsShort x y → IsShort y z → IsShort x z
short_then x y z (inl same) (inl again) = inl (again ∙ same)
short_then x y z (inl same) (inr w) = inr (ap (λ (v : Hearing). v.under_way) (sym same) ∙ w.0, w.1, w.2 ∙ ap (λ (v : Hearing). amid (v.headers ++ w.1 ∷ [])) same)
short_then x y z (inr w) (inl again) = inr (w.0, w.1, again ∙ w.2)
short_then x y z (inr w) (inr v) = let within : y.under_way ≡ true = ap (λ (u : Hearing). u.under_way) w.2 in absurd (let without = v.0 in cc)

-- what was needed before some of the bytes were used, and more were read
needed_then : (old mid : InboxState) (used a b : List ℕ) (x y : Hearing) → old.waiting ++ a ≡ used ++ mid.waiting → Emits (state old.decoder) used (state mid.decoder) x y → IsShort x y → AreNeeded old a x → AreNeeded mid b y → AreNeeded old (a ++ b) x
needed_then old mid used a b x y split emits short first (inl none) = rw (none, append-nil a) first
needed_then old mid used a b x y split emits short first (inr n) = inr (record {
  earlier = a ++ n.earlier;
  last = n.last;
  split = ap (λ (z : List ℕ). a ++ z) n.split ∙ sym (append_assoc a n.earlier n.last);
  most = n.most;
  conforms = n.conforms;
  short = short_then x y n.conforms short n.short;
  says =
      let is : used ++ (mid.waiting ++ n.earlier) ≡ old.waiting ++ (a ++ n.earlier)
      = sym (append_assoc used mid.waiting n.earlier) ∙ ap (λ (z : List ℕ). z ++ n.earlier) (sym split) ∙ append_assoc old.waiting a n.earlier in
      rw is at (says_then (state old.decoder) (state mid.decoder) used (mid.waiting ++ n.earlier) _ x y n.conforms emits n.says);
})

-- ---- what is heard

pub hears_none : (old : InboxState) (from : Supply) (x : Hearing) → Hears old from old from x x
hears_none old from x = record {
  read = [];
  used = [];
  reads = reads_none old.reads from;
  needed = inl refl;
  split = append-nil old.waiting;
  emits = emits_none (state old.decoder) x;
}

pub hears_then : (old mid new : InboxState) (from at left : Supply) (x y z : Hearing) → IsShort x y → Hears old from mid at x y → Hears mid at new left y z → Hears old from new left x z
hears_then old mid new from at left x y z short h k = record {
  read = h.read ++ k.read;
  used = h.used ++ k.used;
  reads = reads_then old.reads mid.reads new.reads from at left h.read k.read h.reads k.reads;
  needed = needed_then old mid h.used h.read k.read x y h.split h.emits short h.needed k.needed;
  split = sym (append_assoc old.waiting h.read k.read) ∙ ap (λ (l : List ℕ). l ++ k.read) h.split ∙ append_assoc h.used mid.waiting k.read ∙ ap (λ (l : List ℕ). h.used ++ l) k.split ∙ sym (append_assoc h.used k.used new.waiting);
  emits = emits_then (state old.decoder) (state mid.decoder) (state new.decoder) h.used k.used x y z h.emits k.emits;
}

lacks_then : (old mid : InboxState) (from at left : Supply) (v : Verdict) (n : ℕ) (x y z : Hearing) → IsShort x y → Hears old from mid at x y → Lacks mid at v n left y z → Lacks old from v n left x z
lacks_then old mid from at left v n x y z short h k = record {
  read = h.read ++ k.read;
  reads = reads_then old.reads mid.reads n from at left h.read k.read h.reads k.reads;
  needed = needed_then old mid h.used h.read k.read x y h.split h.emits short h.needed k.needed;
  says =
      let is : h.used ++ (mid.waiting ++ k.read) ≡ old.waiting ++ (h.read ++ k.read)
      = sym (append_assoc h.used mid.waiting k.read) ∙ ap (λ (l : List ℕ). l ++ k.read) (sym h.split) ∙ append_assoc old.waiting h.read k.read in
      rw is at (says_then (state old.decoder) (state mid.decoder) h.used (mid.waiting ++ k.read) v x y z h.emits k.says);
}

pub misses_then : (e : LoopFault) (old mid : InboxState) (from at left : Supply) (x y z : Hearing) → IsShort x y → Hears old from mid at x y → Misses mid at e left y z → Misses old from e left x z
misses_then fault.BadReply old mid from at left x y z short h k = (k.0, k.1, lacks_then old mid from at left _ k.1 x y z short h k.2)
misses_then fault.TooManyTurns old mid from at left x y z short h k = lacks_then old mid from at left Waits 0 x y z short h k
misses_then fault.SocketFault old mid from at left x y z short h k = (k.0, k.1, lacks_then old mid from at k.1 Waits k.0 x y z short h k.2, k.3, k.4)
misses_then fault.NoMemory old mid from at left x y z short h k = absurd k
misses_then fault.WriteFault old mid from at left x y z short h k = absurd k

-- ---- one step of an inbox

-- some of what waits is used
uses_hears : (old new : InboxState) (from : Supply) (x y : Hearing) → new.reads ≡ old.reads → Uses old new x y → Hears old from new from x y
uses_hears old new from x y reads u = record {
  read = [];
  used = u.used;
  reads = rw reads (reads_none old.reads from);
  needed = inl refl;
  split = append-nil old.waiting ∙ u.split;
  emits = u.emits;
}

-- all that waits is used, and a read gives more
fill_hears : (old mid new : InboxState) (from left : Supply) (x : Hearing) → mid.reads ≡ old.reads → mid.waiting ≡ [] → SaysAll (state old.decoder) old.waiting Waits x x → Emits (state old.decoder) old.waiting (state mid.decoder) x x → Fills mid from (Ok tt) new left → Hears old from new left x x
fill_hears old mid new from left x reads waiting says emits f = record {
  read = new.waiting;
  used = old.waiting;
  reads = record {
    taken = f.4;
    failures = f.5;
    calls = let one : 1 ≡ old.reads - new.reads = omega (arith, f.0, reads) in subst (λ (k : ℕ). MakesCalls k from.calls left.calls) one f.6;
    least = omega (arith, f.0, f.3, reads);
    most = omega (arith, f.0, f.2, reads);
  };
  needed = inr (record {
    earlier = [];
    last = new.waiting;
    split = refl;
    most = f.2;
    conforms = x;
    short = inl refl;
    says = rw (append-nil old.waiting) says;
  });
  split = refl;
  emits = rw f.1 emits;
}

lacks_now : (old : InboxState) (from : Supply) (v : Verdict) (n : ℕ) (x : Hearing) → n ≡ old.reads → SaysAll (state old.decoder) old.waiting v x x → Lacks old from v n from x x
lacks_now old from v n x reads says = record {
  read = [];
  reads = rw reads (reads_none old.reads from);
  needed = inl refl;
  says = rw (append-nil old.waiting) says;
}

-- a read that fails
fill_misses : (e : LoopFault) (old mid new : InboxState) (from left : Supply) (x : Hearing) → mid.reads ≡ old.reads → SaysAll (state old.decoder) old.waiting Waits x x → Fills mid from (Err e) new left → Misses old from e left x x
fill_misses fault.TooManyTurns old mid new from left x reads says f = rw f.2 (lacks_now old from Waits 0 x (sym f.0 ∙ reads) says)
fill_misses fault.SocketFault old mid new from left x reads says f = (old.reads, from, lacks_now old from Waits old.reads x refl says, f.0, f.1)
fill_misses fault.BadReply old mid new from left x reads says f = absurd f
fill_misses fault.NoMemory old mid new from left x reads says f = absurd f
fill_misses fault.WriteFault old mid new from left x reads says f = absurd f

-- after what was heard before
stops_then : (old mid new : InboxState) (m : Mark) (from at : Supply) (x y : Hearing) → Hears old from mid at x y → StopsAt mid m new → StopsAt old m new
stops_then old mid new m from at x y h at_mark = record { stops = λ s es emitted. at_mark.stops (s ++ h.used) (es ++ h.emits.more) (h.emits.leads s es emitted); waiting = at_mark.waiting }

-- ---- what comes of waiting for an edge, after some reads that did not lead to it

module _ (edge : Edge) (old cur : InboxState) (from at : Supply) (so_far : (hs : List Header) → Hears old from cur at (awaiting edge hs) (awaiting edge hs)) where
  pub used_last : (new : InboxState) (hs : List Header) (y : Hearing) → new.reads ≡ cur.reads → Uses cur new (awaiting edge hs) y → Hears old from new at (awaiting edge hs) y
  used_last new hs y reads u = hears_then old cur new from at at _ _ y (inl refl) (so_far hs) (uses_hears cur new at _ y reads u)

  pub stops_last : (m : Mark) (new : InboxState) → StopsAt cur m new → StopsAt old m new
  stops_last m new at_mark = stops_then old cur new m from at _ _ (so_far []) at_mark

  pub refused_last : (r : Refusal) → IsWithout edge (state cur.decoder) cur.waiting (Refused r.at r.why) → (hs : List Header) → Misses old from fault.BadReply at (awaiting edge hs) (awaiting edge hs)
  refused_last r says hs = (r, cur.reads, lacks_then old cur from at at _ cur.reads _ _ _ (inl refl) (so_far hs) (lacks_now cur at _ cur.reads _ refl (says hs)))

  pub filled_last : (mid new : InboxState) (left : Supply) → mid.reads ≡ cur.reads → mid.waiting ≡ [] → IsWithout edge (state cur.decoder) cur.waiting Waits → ((hs : List Header) → Emits (state cur.decoder) cur.waiting (state mid.decoder) (awaiting edge hs) (awaiting edge hs)) → Fills mid at (Ok tt) new left → (hs : List Header) → Hears old from new left (awaiting edge hs) (awaiting edge hs)
  filled_last mid new left reads waiting says emits f hs = hears_then old cur new from at left _ _ _ (inl refl) (so_far hs) (fill_hears cur mid new at left _ reads waiting (says hs) (emits hs) f)

  pub failed_last : (e : LoopFault) (mid new : InboxState) (left : Supply) → mid.reads ≡ cur.reads → IsWithout edge (state cur.decoder) cur.waiting Waits → Fills mid at (Err e) new left → (hs : List Header) → Misses old from e left (awaiting edge hs) (awaiting edge hs)
  failed_last e mid new left reads says f hs = misses_then e old cur from at left _ _ _ (inl refl) (so_far hs) (fill_misses e cur mid new at left _ reads (says hs) f)

-- ---- one message

module _ (takes refuses : Header → Type 0) (old mid : InboxState) (from at : Supply) (h : Header) (head : (hs : List Header) → Hears (for_next old) from mid at (idle hs) (amid (hs ++ h ∷ []))) where
  pub received : (new : InboxState) (left : Supply) → takes h → HearsRest mid at (Ok tt) new left → Receives takes refuses old from (Ok h) new left
  received new left taken rest = (
    taken,
    stops_then (for_next old) mid new mark.Tail from at _ _ (head []) rest.0,
    hears_then (for_next old) mid new from at left (idle []) (amid (h ∷ [])) (idle (h ∷ [])) (inr (refl, h, refl)) (head []) (rest.1 (h ∷ [])),
  )

  pub cut_short : (e : LoopFault) (new : InboxState) (left : Supply) → takes h → ((hs : List Header) → Misses mid at e left (amid hs) (amid hs)) → Receives takes refuses old from (Err e) new left
  cut_short e new left taken rest = inr (inl (h, taken, misses_then e (for_next old) mid from at left (idle []) (amid (h ∷ [])) (amid (h ∷ [])) (inr (refl, h, refl)) (head []) (rest (h ∷ []))))

  pub turned_away : refuses h → Receives takes refuses old from (Err fault.BadReply) mid at
  turned_away refused = inr (inr (h, refused, refl, head []))
