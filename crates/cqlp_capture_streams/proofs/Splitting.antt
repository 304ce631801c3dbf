-- What a listener has got of an input after some reads.
use Rattle.std.proofs.Common.{◌≡◌, ◌∙◌, ℕ, ◌+◌, ◌*◌, ◌<◌, ◌≤◌, true, false, List, [], ◌++◌, length, take, Option, Some, None, Result, Ok, Err, IfOk, IsSome, OnOk, refl, sym, ap, subst, inl, inr, append_assoc, append-nil, arith}
use Rattle.std.specs.Io.KnownBytes.{Consumes, IsAtEnd, Keeps}
use Rattle.cqlp_note.specs.Reader.{More, says}
use Rattle.cqlp_note.specs.Streams.{CountsUp, counted_up}
use Rattle.cqlp_capture.specs.declared.event.CaptureEnd.{CaptureEnd}
use Rattle.cqlp_capture.specs.declared.event.CaptureEnd.TheVariants as end
use Rattle.cqlp_capture.specs.declared.limits.CaptureLimits.{CaptureLimits}
use Rattle.cqlp_capture.specs.declared.refusal.CaptureRefusal.{CaptureRefusal}
use Rattle.cqlp_capture.specs.Reading.{Event, Hears, start, step}
use Rattle.cqlp_capture.specs.Progress.{After, CaptureState, ending, ending_by, new_state}
use Rattle.cqlp_capture_streams.specs.declared.fault.StreamsFault.{StreamsFault}
use Rattle.cqlp_capture_streams.specs.declared.fault.StreamsFault.TheVariants as fault
use Rattle.cqlp_capture_streams.specs.declared.running.Drained.{Drained}
use Rattle.cqlp_capture_streams.specs.declared.running.Drained.TheVariants as drained
use Rattle.cqlp_capture_streams.specs.ConnectionEvents.{ConnectionEvent}
use Rattle.cqlp_capture_streams.specs.Packets.{SplitState}
use Rattle.cqlp_capture_streams.specs.Captures.{DrainsTo, EndsTo, Has, HearsAll, IsAll, IsAtEndBy, IsRefused, ReadsMade, ReadsOn, SplitsTo, ReportsSoFar, most_read}
use Rattle.cqlp_capture_streams.specs.Streams.{read_of}
use Rattle.cqlp_capture_streams.proofs.Events.{hears_here}

-- one more read, with the whole room
pub room_again : (before was now room turn : ℕ) → CountsUp (most_read * turn) before was → now ≡ counted_up room was → room ≡ most_read → CountsUp (most_read * (turn + 1)) before now
room_again before was now room turn so_far one whole = λ fits. let mid = so_far (omega arith) in omega (arith, mid, one, whole)

-- so many reads, of which none failed, or the last one
abbrev pub well_made : ℕ → ReadsMade
well_made n = record { made = n; failed = false }

abbrev pub badly_made : ℕ → ReadsMade
badly_made n = record { made = n; failed = true }

pub record SoFar {V : Type 0} (after : V → ConnectionEvent → V) (l : CaptureLimits) (t : SplitState) (before : V) (xs : List ℕ)
    (left : Option (List ℕ)) (d : CaptureState) (u : SplitState) (v : V) : Type 0 where
  pub read : List ℕ
  pub rest : List ℕ
  pub parts : xs ≡ read ++ rest
  pub others : left ≡ Some rest
  pub has : Has after t before read d u v
  pub limits : d.limits ≡ l
  pub free : d.refusal ≡ None
  pub wants : says (step d.limits d.spot) 0 d.pending ≡ More

-- before the first read
pub none_read : {V : Type 0} (after : V → ConnectionEvent → V) (xs : List ℕ) (left : Option (List ℕ)) (d : CaptureState) (u : SplitState) (v : V) → d ≡ new_state d.limits → left ≡ Some xs → SoFar after d.limits u v xs left d u v
none_read after xs left d u v made is = record {
  read = [];
  rest = xs;
  parts = refl;
  others = is;
  has = record {
    events = [];
    connection_events = [];
    conforms = subst (λ (z : CaptureState). After z [] []) (sym made) (record { steps = []; events = refl; reads = (refl, refl) });
    reports = (refl, refl);
    got = refl;
  };
  limits = refl;
  free = ap (λ (z : CaptureState). z.refusal) made;
  wants = subst (λ (z : CaptureState). says (step z.limits z.spot) 0 z.pending ≡ More) (sym made) refl;
}

-- a read gave the first of what was left
pub read_some : (old new : Option (List ℕ)) (rest buffer : List ℕ) (n : ℕ) → old ≡ Some rest → Consumes old new (take n buffer) → (n ≡ 0 → 0 < length buffer → IsAtEnd new) → (left : List ℕ) × (new ≡ Some left) × (rest ≡ take n buffer ++ left) × (n ≡ 0 → 0 < length buffer → left ≡ [])
read_some None new rest buffer n is reads end = absurd (let x = is in cc)
read_some (Some xs) None rest buffer n is reads end = absurd reads
read_some (Some xs) (Some ys) rest buffer n is reads end = let same : xs ≡ rest = (let x = is in cc) in (ys, refl, sym same ∙ reads, end)

keeps_some : (old new : Option (List ℕ)) (rest : List ℕ) → old ≡ Some rest → Keeps old new → new ≡ Some rest
keeps_some None new rest is k = absurd (let x = is in cc)
keeps_some (Some xs) None rest is k = absurd k
keeps_some (Some xs) (Some ys) rest is k = let same : xs ≡ rest = (let x = is in cc) in ap (λ z. Some z) (k ∙ same)

at_end : (o : Option CaptureRefusal) (d : CaptureState) (read s : List ℕ) (es : List (ℕ × Event)) → o ≡ None → IsAtEndBy o d read s es → (s ≡ read) × (says (step d.limits d.spot) 0 d.pending ≡ More)
at_end None d read s es none a = a
at_end (Some r) d read s es none a = absurd (let x = none in cc)

-- what is left is known
pub is_known : {o : Option (List ℕ)} {xs : List ℕ} → o ≡ Some xs → IsSome o
is_known is = subst IsSome (sym is) refl

-- counts that do not change
pub counts_kept : (n old mid new : ℕ) → new ≡ mid → CountsUp n old mid → CountsUp n old new
counts_kept n old mid new same counted = subst (CountsUp n old) (sym same) counted

-- the same reader and the same splitter, of which a call left both as they were
pub as_drained : {V : Type 0} (after : V → ConnectionEvent → V) (faulted : V → ConnectionEvent → StreamsFault → V → Type 0) (l : CaptureLimits) (t : SplitState) (before : V) (s piece : List ℕ) (r : Result Drained StreamsFault) (d d' : CaptureState) (u u' : SplitState) (v : V) → d' ≡ d → u' ≡ u → DrainsTo after faulted l t before s piece r d u v → DrainsTo after faulted l t before s piece r d' u' v
as_drained after faulted l t before s piece r d d' u u' v same_reader same_splitter a =
    subst (λ (z : SplitState). DrainsTo after faulted l t before s piece r d' z v) (sym same_splitter) (subst (λ (z : CaptureState). DrainsTo after faulted l t before s piece r z u v) (sym same_reader) a)

-- all was read
pub all_read : (r : Result CaptureEnd StreamsFault) (rest : List ℕ) → rest ≡ [] → IsAll r rest
all_read (Ok (end.Whole n)) rest none = none
all_read (Ok (end.Cut at n)) rest none = none
all_read (Ok (end.Refused x)) rest none = tt
all_read (Err e) rest none = tt

refused_by : (o : Option CaptureRefusal) (d : CaptureState) (x : CaptureRefusal) (r : Result CaptureEnd StreamsFault) (rest : List ℕ) → o ≡ Some x → IfOk r (λ e. e ≡ ending_by o d) → IsAll r rest
refused_by None d x r rest some is = absurd (let y = some in cc)
refused_by (Some y) d x (Ok (end.Whole n)) rest some is = absurd (let no : ◌≡◌ {A = CaptureEnd} (end.Whole n) (end.Refused y) = is in cc)
refused_by (Some y) d x (Ok (end.Cut at n)) rest some is = absurd (let no : ◌≡◌ {A = CaptureEnd} (end.Cut at n) (end.Refused y) = is in cc)
refused_by (Some y) d x (Ok (end.Refused z)) rest some is = tt
refused_by (Some y) d x (Err e) rest some is = tt

-- or it is refused
pub refused_all : (d : CaptureState) (r : Result CaptureEnd StreamsFault) (rest : List ℕ) → IsRefused drained.Refused d.refusal → IfOk r (λ e. e ≡ ending d) → IsAll r rest
refused_all d r rest some is = refused_by d.refusal d some.0 r rest some.1 is

module _ {V : Type 0} (after : V → ConnectionEvent → V) (faulted : V → ConnectionEvent → StreamsFault → V → Type 0) (l : CaptureLimits) (t : SplitState) (before : V) (xs : List ℕ) (left left' : Option (List ℕ)) (d : CaptureState) (u : SplitState) (v : V) (f : SoFar after l t before xs left d u v) (turns made : ℕ) (few : made ≤ turns) where
  so_far_heard : HearsAll l f.read f.has.events d.spot d.pending
  so_far_heard = record {
    hears = subst (λ (z : CaptureLimits). Hears z start f.read f.has.events d.spot d.pending) f.limits (hears_here d f.read f.has.events f.free f.has.conforms);
    wants = subst (λ (z : CaptureLimits). says (step z d.spot) 0 d.pending ≡ More) f.limits f.wants;
  }

  so_far_delivered : ReportsSoFar l t f.read f.has.connection_events u
  so_far_delivered = record {
    events = f.has.events;
    spot = d.spot;
    rest = d.pending;
    hears = so_far_heard;
    reports = f.has.reports;
  }

  -- with what the last read gave
  reads_on : (piece : List ℕ) → length piece ≤ most_read → ReadsOn l (f.read ++ piece)
  reads_on piece short = record {
    earlier = f.read;
    last = piece;
    parts = refl;
    few = short;
    events = f.has.events;
    spot = d.spot;
    rest = d.pending;
    hears = so_far_heard;
  }

  none_more : ReadsOn l f.read
  none_more = subst (λ z. ReadsOn l z) (append-nil f.read) (reads_on [] (omega arith))

  -- the input failed
  pub read_fails : Keeps left left' → SplitsTo after faulted l t turns (badly_made made) before xs (Err fault.Read) left' u v
  read_fails k = record {
    few = few;
    failed = λ bad. refl;
    read = f.read;
    rest = f.rest;
    parts = f.parts;
    others = keeps_some left left' f.rest f.others k;
    on = none_more;
    all = tt;
    ends = (
      f.has.connection_events,
      inl (refl, so_far_delivered, f.has.got),
    );
  }

  -- no more reads are to be made
  pub turns_end : made ≡ turns → SplitsTo after faulted l t turns (well_made made) before xs (Err fault.TooManyTurns) left u v
  turns_end all = record {
    few = few;
    failed = λ bad. absurd (let no = bad in cc);
    read = f.read;
    rest = f.rest;
    parts = f.parts;
    others = f.others;
    on = none_more;
    all = tt;
    ends = (f.has.connection_events, inl (all, so_far_delivered, f.has.got));
  }

  module _ (piece rest : List ℕ) (is : left' ≡ Some rest) (reads : f.rest ≡ piece ++ rest) (short : length piece ≤ most_read) (d' : CaptureState) (u' : SplitState) (v' : V) where
    split_at : xs ≡ (f.read ++ piece) ++ rest
    split_at = f.parts ∙ ap (λ z. f.read ++ z) reads ∙ sym (append_assoc f.read piece rest)

    -- something failed within the piece
    pub drain_fails : (e : StreamsFault) → DrainsTo after faulted d.limits t before f.read piece (Err e) d' u' v' → SplitsTo after faulted l t turns (well_made made) before xs (Err e) left' u' v'
    drain_fails e a =
        let b = subst (λ (z : CaptureLimits). DrainsTo after faulted z t before f.read piece (Err e) d' u' v') f.limits a in record {
          few = few;
          failed = λ bad. absurd (let no = bad in cc);
          read = f.read ++ piece;
          rest = rest;
          parts = split_at;
          others = is;
          on = reads_on piece short;
          all = tt;
          ends = (b.0, inr (inl (b.1, b.2, omega (arith, b.3, short))));
        }

    -- the file ends after it, or is refused in it
    pub file_ends : (x : Drained) (r : Result CaptureEnd StreamsFault) (u'' : SplitState) (v'' : V) → DrainsTo after faulted d.limits t before f.read piece (Ok x) d' u' v' → IsAll r rest → EndsTo after faulted d'.limits t turns (well_made made) before (f.read ++ piece) r u'' v'' → SplitsTo after faulted l t turns (well_made made) before xs r left' u'' v''
    file_ends x r u'' v'' a all ends = record {
      few = few;
      failed = λ bad. absurd (let no = bad in cc);
      read = f.read ++ piece;
      rest = rest;
      parts = split_at;
      others = is;
      on = reads_on piece short;
      all = all;
      ends = subst (λ (z : CaptureLimits). EndsTo after faulted z t turns (well_made made) before (f.read ++ piece) r u'' v'') (a.0 ∙ f.limits) ends;
    }

    -- more is wanted after it
    pub more_read : DrainsTo after faulted d.limits t before f.read piece (Ok drained.More) d' u' v' → SoFar after l t before xs left' d' u' v'
    more_read a =
        let at = at_end d'.refusal d' (f.read ++ piece) a.2 a.3.events a.1 a.4 in record {
          read = f.read ++ piece;
          rest = rest;
          parts = split_at;
          others = is;
          has = subst (λ z. Has after t before z d' u' v') at.0 a.3;
          limits = a.0 ∙ f.limits;
          free = a.1;
          wants = at.1;
        }

-- the same under other names
pub splits_as : {V : Type 0} (after : V → ConnectionEvent → V) (faulted : V → ConnectionEvent → StreamsFault → V → Type 0) (l l' : CaptureLimits) (t t' : SplitState) (turns : ℕ) (m : ReadsMade) (before : V) (xs : List ℕ) (r : Result CaptureEnd StreamsFault) (left : Option (List ℕ)) (u : SplitState) (v : V) → l ≡ l' → t ≡ t' → SplitsTo after faulted l t turns m before xs r left u v → SplitsTo after faulted l' t' turns m before xs r left u v
splits_as after faulted l l' t t' turns m before xs r left u v el et a =
    let one = subst (λ (z : SplitState). SplitsTo after faulted l z turns m before xs r left u v) et a in
    subst (λ (z : CaptureLimits). SplitsTo after faulted z t' turns m before xs r left u v) el one

-- a capture that was read is one that was split
pub read_on : (P : Type 0) (r : Result CaptureEnd StreamsFault) (u : SplitState) → OnOk r P → OnOk (read_of r u) P
read_on P (Ok e) u p = p
read_on P (Err f) u p = tt
