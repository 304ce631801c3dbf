-- What calls over skips leave, in the words of cqlp_skip.
use Rattle.std.proofs.Common.{◌≡◌, ℕ, zero, suc, ◌+◌, ◌-◌, ◌^◌, ◌≤◌, List, [], ◌∷◌, ◌++◌, length, take, drop, refl, sym, ap, ◌∙◌, subst, arith}
use Rattle.std.specs.Prelude.{min, Option, Some, None}
use Rattle.std.specs.Ptr.{Ptr}
use denote.RawPtr.{◌+ₚ◌}
use Rattle.std.proofs.lemmas.List.{append-nil, length-drop, length-take-le, nil_from_length}
use Rattle.cqlp_note.specs.declared.refusal.Refusal.{Refusal}
use Rattle.cqlp_note.specs.Limits.{Rules}
use Rattle.cqlp_note.specs.Field as field
use Rattle.cqlp_note.specs.declared.prim.Address.TheVariants as address
use Rattle.cqlp_kind.specs.CellStep as cell
use Rattle.cqlp_kind.specs.Scalars as scalar
use Rattle.cqlp_grammar.specs.Events.{Frame, Holds, Node_of, Cell_at, Leave, End}
use Rattle.cqlp_decode.specs.Reading.{Event, Gifts, Says, Refused, Waits, start_with}
use Rattle.cqlp_decode.specs.Progress.{StreamState}
use Rattle.cqlp_decode.specs.Streams.{Decoding, Refuses, state}
use Rattle.cqlp_skip.specs.declared.frame.OpenFrame.{OpenFrame}
use Rattle.cqlp_skip.specs.Stretches.{Stretch, frame_after, frame_from, frame_under_way, stream_offset}
use Rattle.cqlp_skip.proofs.Passing.{behind_all, behind_piece}
use Rattle.cqlp_skip.proofs.Folding.{frame-append}
use Rattle.cqlp_skip.proofs.Feeding.{goes_on, still_refused}
use Rattle.cqlp_c.specs.declared.batch.Batch.{Batch}
use Rattle.cqlp_c.specs.declared.batch.Stop.{Stop}
use Rattle.cqlp_c.specs.declared.batch.Stop.TheVariants as stop
use Rattle.cqlp_c.specs.declared.course.CqlpBegun.{CqlpBegun}
use Rattle.cqlp_c.specs.declared.course.CqlpCourse.{CqlpCourse}
use Rattle.cqlp_c.specs.declared.event.CqlpEvent.{CqlpEvent}
use Rattle.cqlp_c.specs.Batches.{Buffer, Fills, Put, StopsBy, WritesAll, buffer_in, events_of}
use Rattle.cqlp_c.specs.Course.{batch_from, begun_after, begun_by, gone_on, placed, placed_from, stop_from}
use Rattle.cqlp_c.specs.Events as model
use Rattle.cqlp_c.specs.Handle.{PutsOn}
use Rattle.cqlp_c.specs.Stretched.{AfterCalls, AreWritten, EndsBy, ReadsOn, begun_of}
use Rattle.cqlp_c.proofs.Beginning.{not_edge}
use Rattle.cqlp_c.proofs.Placing.{used_from}

-- ---- the frame under way

begun_from_c : (f : Option OpenFrame) (at : ℕ) (e : Event) (place : Ptr) → begun_after (begun_of f) (model.written_at at e place) ≡ begun_of (frame_after f at e)
begun_from_c f at (Frame h) place = refl
begun_from_c f at (Holds g v) place = not_edge (begun_of f) at (Holds g v) place refl
begun_from_c f at (Node_of k) place = refl
begun_from_c f at (Cell_at row column e) place = not_edge (begun_of f) at (Cell_at row column e) place refl
begun_from_c f at (Leave level n) place = refl
begun_from_c f at (End n) place = refl

begun_puts : (f : Option OpenFrame) (begins : Ptr) (b : Buffer) (cs : List CqlpEvent) (ps : List Put) → WritesAll begins b cs ps → begun_by (begun_of f) cs ≡ begun_of (frame_from f (events_of ps))
begun_puts f begins b [] [] t = refl
begun_puts f begins b [] (p ∷ ps) t = absurd t
begun_puts f begins b (c ∷ cs) [] t = absurd t
begun_puts f begins b (c ∷ cs) (p ∷ ps) t =
    ap (λ (g : CqlpBegun). begun_by g cs) (ap (λ (d : CqlpEvent). begun_after (begun_of f) d) t.0.2 ∙ begun_from_c f p.at p.event t.0.0)
    ∙ begun_puts (frame_after f p.at p.event) begins b cs ps t.1

-- ---- offsets in the whole stream

moved : (g : ℕ → ℕ) (at : ℕ) (e : Event) (place : Ptr) → ◌≡◌ {A = CqlpEvent} (record (model.written_at at e place) { at = g (model.written_at at e place).at }) (model.written_at (g at) e place)
moved g at (Frame h) place = refl
moved g at (Holds f (field.Byte n)) place = refl
moved g at (Holds f (field.Short n)) place = refl
moved g at (Holds f (field.Int z)) place = refl
moved g at (Holds f (field.Long z)) place = refl
moved g at (Holds f (field.Uuid b)) place = refl
moved g at (Holds f (field.Count n)) place = refl
moved g at (Holds f (field.Text t)) place = refl
moved g at (Holds f (field.Bytes (Some c))) place = refl
moved g at (Holds f (field.Bytes None)) place = refl
moved g at (Holds f (field.Bound field.Null)) place = refl
moved g at (Holds f (field.Bound field.Unset)) place = refl
moved g at (Holds f (field.Bound (field.Known c))) place = refl
moved g at (Holds f (field.Inet (address.V4 a) z)) place = refl
moved g at (Holds f (field.Inet (address.V6 a) z)) place = refl
moved g at (Node_of k) place = refl
moved g at (Cell_at row column (cell.Leaf level (scalar.Custom b))) place = refl
moved g at (Cell_at row column (cell.Leaf level (scalar.Ascii t))) place = refl
moved g at (Cell_at row column (cell.Leaf level (scalar.Bigint z))) place = refl
moved g at (Cell_at row column (cell.Leaf level (scalar.Blob b))) place = refl
moved g at (Cell_at row column (cell.Leaf level (scalar.Boolean b))) place = refl
moved g at (Cell_at row column (cell.Leaf level (scalar.Counter z))) place = refl
moved g at (Cell_at row column (cell.Leaf level (scalar.Decimal z b))) place = refl
moved g at (Cell_at row column (cell.Leaf level (scalar.Double b))) place = refl
moved g at (Cell_at row column (cell.Leaf level (scalar.Float b))) place = refl
moved g at (Cell_at row column (cell.Leaf level (scalar.Int z))) place = refl
moved g at (Cell_at row column (cell.Leaf level (scalar.Timestamp z))) place = refl
moved g at (Cell_at row column (cell.Leaf level (scalar.Uuid b))) place = refl
moved g at (Cell_at row column (cell.Leaf level (scalar.Varchar t))) place = refl
moved g at (Cell_at row column (cell.Leaf level (scalar.Varint b))) place = refl
moved g at (Cell_at row column (cell.Leaf level (scalar.Timeuuid b))) place = refl
moved g at (Cell_at row column (cell.Leaf level (scalar.Inet (address.V4 a)))) place = refl
moved g at (Cell_at row column (cell.Leaf level (scalar.Inet (address.V6 a)))) place = refl
moved g at (Cell_at row column (cell.Leaf level (scalar.Date n))) place = refl
moved g at (Cell_at row column (cell.Leaf level (scalar.Time z))) place = refl
moved g at (Cell_at row column (cell.Leaf level (scalar.Smallint z))) place = refl
moved g at (Cell_at row column (cell.Leaf level (scalar.Tinyint z))) place = refl
moved g at (Cell_at row column (cell.Leaf level (scalar.Raw b))) place = refl
moved g at (Cell_at row column (cell.Null level)) place = refl
moved g at (Cell_at row column (cell.Empty level)) place = refl
moved g at (Cell_at row column (cell.Enter level k n)) place = refl
moved g at (Cell_at row column (cell.Leave level n)) place = refl
moved g at (Cell_at row column (cell.Part level offset c last)) place = refl
moved g at (Leave level n) place = refl
moved g at (End n) place = refl

written_first : (begins : Ptr) (b : Buffer) (cs : List CqlpEvent) (ps : List Put) → WritesAll begins b cs ps → AreWritten 0 cs ps
written_first begins b [] [] t = tt
written_first begins b [] (p ∷ ps) t = absurd t
written_first begins b (c ∷ cs) [] t = absurd t
written_first begins b (c ∷ cs) (p ∷ ps) t = ((t.0.0, t.0.2), written_first begins b cs ps t.1)

written_further : (n : ℕ) (begins : Ptr) (b : Buffer) (cs : List CqlpEvent) (ps : List Put) → WritesAll begins b cs ps → AreWritten (suc n) (placed_from (suc n) cs) ps
written_further n begins b [] [] t = tt
written_further n begins b [] (p ∷ ps) t = absurd t
written_further n begins b (c ∷ cs) [] t = absurd t
written_further n begins b (c ∷ cs) (p ∷ ps) t = (
  (t.0.0, ap (λ (d : CqlpEvent). record d { at = stream_offset (suc n) d.at }) t.0.2 ∙ moved (stream_offset (suc n)) p.at p.event t.0.0),
  written_further n begins b cs ps t.1,
)

are_written : (base : ℕ) (begins : Ptr) (b : Buffer) (cs : List CqlpEvent) (ps : List Put) → WritesAll begins b cs ps → AreWritten base (placed base cs) ps
are_written zero begins b cs ps t = written_first begins b cs ps t
are_written (suc n) begins b cs ps t = written_further n begins b cs ps t

length_further : (base : ℕ) (cs : List CqlpEvent) → length (placed_from base cs) ≡ length cs
length_further base [] = refl
length_further base (c ∷ cs) = ap suc (length_further base cs)

pub length_placed : (base : ℕ) (cs : List CqlpEvent) → length (placed base cs) ≡ length cs
length_placed zero cs = refl
length_placed (suc n) cs = length_further (suc n) cs

front : {X : Type 0} (n : ℕ) (xs ys : List X) → length xs ≡ n → take n (xs ++ ys) ≡ xs
front zero [] ys is = refl
front (suc n) [] ys is = absurd (omega (arith, is))
front zero (x ∷ xs) ys is = absurd (omega (arith, is))
front {X = X} (suc n) (x ∷ xs) ys is = ap (λ (z : List X). x ∷ z) (front n xs ys (omega (arith, is)))

-- ---- a batch

count_from : (base passed : ℕ) (b : Batch) → (batch_from base passed b).events ≡ b.events
count_from zero passed b = refl
count_from (suc n) passed b = refl

-- how a batch ends, with a refusal at its offset in the whole stream
abbrev stop_in : (base : ℕ) → Stop → Stop
stop_in zero x = x
stop_in (suc n) x = stop_from (suc n) x

stops_in : (base passed : ℕ) (b : Batch) → (batch_from base passed b).stop ≡ stop_in base b.stop
stops_in zero passed b = refl
stops_in (suc n) passed b = refl

-- what is said of a batch, by its end
waits_in : (base : ℕ) (new : Decoding) (s input : List ℕ) (gifts : Gifts) (events : List (ℕ × Event)) → Says (state new).rules (start_with gifts) (drop base (s ++ input)) events Waits → EndsBy (stop_in base stop.More) new base s input gifts events
waits_in zero new s input gifts events says = says
waits_in (suc n) new s input gifts events says = says

refused_in : (base : ℕ) (new : Decoding) (s input : List ℕ) (gifts : Gifts) (events : List (ℕ × Event)) (r : Refusal) → (state new).refusal ≡ Some r → EndsBy (stop_in base (stop.Refused r)) new base s input gifts events
refused_in zero new s input gifts events r is = (r, is, refl)
refused_in (suc n) new s input gifts events r is = (r, is, refl)

full_in : (base : ℕ) (new : Decoding) (s input : List ℕ) (gifts : Gifts) (events : List (ℕ × Event)) → EndsBy (stop_in base stop.Full) new base s input gifts events
full_in zero new s input gifts events = tt
full_in (suc n) new s input gifts events = tt

module _ (xs s later : List ℕ) (old new : Decoding) (from to : CqlpCourse) (input : List ℕ) (begins : Ptr) (b : Batch) (before after : List CqlpEvent) (stretches : List Stretch) (gifts : Gifts) (events : List (ℕ × Event))
    (is : xs ≡ (s ++ input) ++ later) (a : AfterCalls xs old from s stretches gifts events) (p : PutsOn old new from to input begins b before after) where
  abbrev f : Fills gifts (state old) (state new) (drop from.base s) (drop p.passed input) (begins +ₚ p.passed) (buffer_in new) events (length before) p.own p.events
  f = p.puts.fills gifts (drop from.base s) events a.conforms.conforms

  abbrev more : List (ℕ × Event)
  more = events_of f.puts

  abbrev bytes : List ℕ
  bytes = drop from.base s ++ drop p.passed input

  first : p.passed ≡ min (from.base - length s) (length input)
  first = omega (arith, p.is_passed, a.conforms.used, a.conforms.near)

  used : b.used ≡ p.passed + p.own.used
  used = ap (λ (z : Batch). z.used) p.batch ∙ used_from from.base p.passed p.own (λ none. omega (arith, none, p.is_passed))

  count : b.events ≡ p.own.events
  count = ap (λ (z : Batch). z.events) p.batch ∙ count_from from.base p.passed p.own

  few : p.passed + p.own.used ≤ length input
  few = omega (arith, p.puts.within.0, length-drop p.passed input, p.is_passed)

  -- what is refused, the stream is
  refused_here : (r : Refusal) → Says (state new).rules (start_with gifts) bytes (events ++ more) (Refused r.at r.why) → Says (state new).rules (start_with gifts) (drop from.base xs) (events ++ more) (Refused r.at r.why)
  refused_here r says =
      let t = behind_piece from.base s input later p.passed first in
      subst (λ (z : List ℕ). Says (state new).rules (start_with gifts) z (events ++ more) (Refused r.at r.why)) (sym (ap (λ (z : List ℕ). drop from.base z) is ∙ t.1))
      (still_refused (state new).rules (start_with gifts) bytes t.0 (events ++ more) r.at r.why says)

  refused_before : (r : Refusal) → (state old).refusal ≡ Some r → (q : Refusal) → (state new).refusal ≡ Some q → Says (state new).rules (start_with gifts) (drop from.base xs) (events ++ more) (Refused q.at q.why)
  refused_before r was q now =
      let again = p.puts.refused r was in
      let none : f.puts ≡ [] = nil_from_length f.puts (f.count ∙ ap (λ (z : Batch). z.events) again.0) in
      let same : events ++ more ≡ events = ap (λ (z : List Put). events ++ events_of z) none ∙ append-nil events in
      let then : (state old).refusal ≡ Some q = sym (ap (λ (z : StreamState). z.refusal) again.1) ∙ now in
      subst (λ (l : Rules). Says l (start_with gifts) (drop from.base xs) (events ++ more) (Refused q.at q.why)) (sym p.puts.rules)
      (subst (λ (z : List (ℕ × Event)). Says (state old).rules (start_with gifts) (drop from.base xs) z (Refused q.at q.why)) (sym same) (a.conforms.refused q then))

  refused_by : (x : Stop) → p.own.stop ≡ x → (state old).refusal ≡ None → StopsBy gifts (state old) (state new) (drop from.base s) (drop p.passed input) events (length before) p.own.used f.puts x → (q : Refusal) → (state new).refusal ≡ Some q
      → Says (state new).rules (start_with gifts) (drop from.base xs) (events ++ more) (Refused q.at q.why)
  refused_by stop.More stops none h q now = absurd (let no = sym h.3 ∙ now in cc)
  refused_by stop.Full stops none h q now = absurd (let no = sym none ∙ sym (p.puts.goes_on stops).0 ∙ now in cc)
  refused_by (stop.Refused r) stops none h q now =
      let same : r ≡ q = (let e = sym h.3 ∙ now in cc) in
      let says : Says (state old).rules (start_with gifts) bytes (events ++ more) (Refused r.at r.why) = subst (λ (o : Option Refusal). Refuses o gifts (state old) (drop from.base s) (events ++ more) (drop p.passed input) r) none h.4 in
      subst (λ (z : Refusal). Says (state new).rules (start_with gifts) (drop from.base xs) (events ++ more) (Refused z.at z.why)) same
      (refused_here r (subst (λ (l : Rules). Says l (start_with gifts) bytes (events ++ more) (Refused r.at r.why)) (sym p.puts.rules) says))

  refused : (o : Option Refusal) → (state old).refusal ≡ o → (q : Refusal) → (state new).refusal ≡ Some q → Says (state new).rules (start_with gifts) (drop from.base xs) (events ++ more) (Refused q.at q.why)
  refused None was = refused_by p.own.stop refl was f.stops
  refused (Some r) was = refused_before r was

  frame : frame_under_way (events ++ more) ≡ frame_from (frame_under_way events) more
  frame = frame-append None events more

  abbrev reached : CqlpCourse
  reached = record (gone_on from b.used) { frame = begun_by from.frame (take p.own.events p.events) }

  conforms : AfterCalls xs new reached (s ++ take b.used input) stretches gifts (events ++ more)
  conforms = record {
    conforms = goes_on old new from.base from.used (min (from.used + b.used) (2 ^ 64 - 1)) from.last (frame_under_way events) (frame_under_way (events ++ more)) xs s input later stretches gifts events p.passed a.conforms is p.is_passed p.puts.rules
        (s ++ take b.used input) more p.own.used (ap (λ (n : ℕ). s ++ take n input) used) few f.after frame (ap (λ (n : ℕ). min (from.used + n) (2 ^ 64 - 1)) used) (refused (state old).refusal refl);
    frame = ap (λ (g : CqlpBegun). begun_by g (take p.own.events p.events)) a.frame ∙ begun_puts (frame_under_way events) (begins +ₚ p.passed) (buffer_in new) (take p.own.events p.events) f.puts f.written ∙ ap begun_of (sym frame);
  }

  ends : (x : Stop) → StopsBy gifts (state old) (state new) (drop from.base s) (drop p.passed input) events (length before) p.own.used f.puts x → EndsBy (stop_in from.base x) new from.base s input gifts (events ++ more)
  ends stop.More h = waits_in from.base new s input gifts (events ++ more) (subst (λ (z : List ℕ). Says (state new).rules (start_with gifts) z (events ++ more) Waits) (sym (behind_all from.base s input p.passed first)) h.4)
  ends stop.Full h = full_in from.base new s input gifts (events ++ more)
  ends (stop.Refused r) h = refused_in from.base new s input gifts (events ++ more) r h.3

  written_here : AreWritten from.base (take b.events after) f.puts
  written_here =
      let cs = take p.own.events p.events in
      let long : length (placed from.base cs) ≡ p.own.events = length_placed from.base cs ∙ length-take-le p.own.events p.events (omega (arith, p.puts.within.1, p.puts.room)) in
      let at : take b.events after ≡ placed from.base cs = ap (λ (n : ℕ). take n after) count ∙ ap (take p.own.events) p.placed ∙ front p.own.events (placed from.base cs) (drop p.own.events p.events) long in
      subst (λ (z : List CqlpEvent). AreWritten from.base z f.puts) (sym at) (are_written from.base (begins +ₚ p.passed) (buffer_in new) cs f.puts f.written)

  pub reads_on : ReadsOn xs new from to s input stretches gifts events b after
  reads_on = record {
    puts = f.puts;
    count = f.count ∙ sym count;
    conforms = subst (λ (c : CqlpCourse). AfterCalls xs new c (s ++ take b.used input) stretches gifts (events ++ more)) (sym p.course) conforms;
    written = written_here;
    ends = subst (λ (x : Stop). EndsBy x new from.base s input gifts (events ++ more)) (sym (ap (λ (z : Batch). z.stop) p.batch ∙ stops_in from.base p.passed p.own)) (ends p.own.stop f.stops);
  }
