-- Items whose events a sink put into the array.
use Rattle.std.proofs.Common.{◌≡◌, ℕ, ◌+◌, ◌≤◌, List, [], ◌∷◌, ◌++◌, ◌-◌, length, take, drop, drop-drop, refl, ap, subst, ◌∙◌, append_assoc, arith}
use Rattle.std.specs.Prelude.{Option, Some, None}
use Rattle.std.specs.Ptr.{Ptr, as_ptr, block_ptr, null_ptr}
use denote.RawPtr.{◌+ₚ◌}
use Rattle.std.specs.Int.{w32, to_be_bytes, cast_unsigned}
use Rattle.std.proofs.lemmas.List.{append-nil, length-append, length-drop, length-take-le}
use Rattle.cqlp_note.specs.declared.refusal.Refusal.{Refusal}
use Rattle.cqlp_note.specs.Limits.{Rules}
use Rattle.cqlp_note.specs.Field as field
use Rattle.cqlp_kind.specs.CellStep as cell
use Rattle.cqlp_kind.specs.Scalars as scalar
use Rattle.cqlp_grammar.specs.Events.{Frame, Holds, Node_of, Cell_at, Leave, End}
use Rattle.cqlp_decode.specs.Reading.{Event, Gifts}
use Rattle.cqlp_decode.specs.Progress.{StreamState, IsPending}
use Rattle.cqlp_decode.specs.Streams.{AfterBy}
use Rattle.cqlp_decode.specs.Items.{TakesItem}
use Rattle.cqlp_decode.specs.Cells.{Item, TakesItems, bytes_of}
use Rattle.cqlp_decode.proofs.Leads.{hands_conforms}
use Rattle.cqlp_decode.specs.Progress.{content_size_of}
use Rattle.cqlp_laws.specs.Contents.{before_content, content_in}
use Rattle.cqlp_laws.proofs.Heads.{ends_what_is_read}
use Rattle.cqlp_decode.proofs.Within.{content_within}
use Rattle.cqlp_c.specs.declared.event.CqlpEvent.{CqlpEvent}
use Rattle.cqlp_c.specs.declared.slots.Origin.{Origin}
use Rattle.cqlp_c.specs.Events.{content_span}
use Rattle.cqlp_c.specs.Batches.{Buffer, IsInInput, LiesBy, Put, events_of}
use Rattle.cqlp_c.specs.Slots.{IsPlaced, WritesIn, WritesItems}
use Rattle.cqlp_c.proofs.Fills.{IsFilled, LeadsTo, filled_more, read_more}
use Rattle.cqlp_c.proofs.Spans.{content_spanned}

-- ---- what lies in the array is no more than what lies in the bytes

pub span_size : (e : Event) → content_span e ≤ content_size_of e
span_size (Frame h) = omega arith
span_size (Holds f (field.Byte n)) = omega arith
span_size (Holds f (field.Short n)) = omega arith
span_size (Holds f (field.Int z)) = omega arith
span_size (Holds f (field.Long z)) = omega arith
span_size (Holds f (field.Uuid b)) = omega arith
span_size (Holds f (field.Count n)) = omega arith
span_size (Holds f (field.Text t)) = omega arith
span_size (Holds f (field.Bytes (Some c))) = omega arith
span_size (Holds f (field.Bytes None)) = omega arith
span_size (Holds f (field.Bound field.Null)) = omega arith
span_size (Holds f (field.Bound field.Unset)) = omega arith
span_size (Holds f (field.Bound (field.Known c))) = omega arith
span_size (Holds f (field.Inet a z)) = omega arith
span_size (Node_of k) = omega arith
span_size (Cell_at row column (cell.Leaf level (scalar.Custom b))) = omega arith
span_size (Cell_at row column (cell.Leaf level (scalar.Ascii t))) = omega arith
span_size (Cell_at row column (cell.Leaf level (scalar.Bigint z))) = omega arith
span_size (Cell_at row column (cell.Leaf level (scalar.Blob b))) = omega arith
span_size (Cell_at row column (cell.Leaf level (scalar.Boolean b))) = omega arith
span_size (Cell_at row column (cell.Leaf level (scalar.Counter z))) = omega arith
span_size (Cell_at row column (cell.Leaf level (scalar.Decimal z b))) = omega (arith, length-append (to_be_bytes w32 (cast_unsigned w32 z)) b)
span_size (Cell_at row column (cell.Leaf level (scalar.Double b))) = omega arith
span_size (Cell_at row column (cell.Leaf level (scalar.Float b))) = omega arith
span_size (Cell_at row column (cell.Leaf level (scalar.Int z))) = omega arith
span_size (Cell_at row column (cell.Leaf level (scalar.Timestamp z))) = omega arith
span_size (Cell_at row column (cell.Leaf level (scalar.Uuid b))) = omega arith
span_size (Cell_at row column (cell.Leaf level (scalar.Varchar t))) = omega arith
span_size (Cell_at row column (cell.Leaf level (scalar.Varint b))) = omega arith
span_size (Cell_at row column (cell.Leaf level (scalar.Timeuuid b))) = omega arith
span_size (Cell_at row column (cell.Leaf level (scalar.Inet a))) = omega arith
span_size (Cell_at row column (cell.Leaf level (scalar.Date n))) = omega arith
span_size (Cell_at row column (cell.Leaf level (scalar.Time z))) = omega arith
span_size (Cell_at row column (cell.Leaf level (scalar.Smallint z))) = omega arith
span_size (Cell_at row column (cell.Leaf level (scalar.Tinyint z))) = omega arith
span_size (Cell_at row column (cell.Leaf level (scalar.Raw b))) = omega arith
span_size (Cell_at row column (cell.Null level)) = omega arith
span_size (Cell_at row column (cell.Empty level)) = omega arith
span_size (Cell_at row column (cell.Enter level k n)) = omega arith
span_size (Cell_at row column (cell.Leave level n)) = omega arith
span_size (Cell_at row column (cell.Part level offset c last)) = omega arith
span_size (Leave level n) = omega arith
span_size (End n) = omega arith

-- ---- the batch

further : (p : Ptr) (m n : ℕ) → p +ₚ m +ₚ n ≡ p +ₚ (m + n)
further (block_ptr b o) m n = ap (block_ptr b) (omega arith)
further null_ptr m n = refl

-- A content that is read last lies where its offset in the stream says. The bytes from `from` on were handed out.
placed : (o : Origin) (s input : List ℕ) (begins : Ptr) (b : Buffer) (from : ℕ) → o.offset ≡ length s + from → length o.input.now ≡ length input - from → as_ptr o.input ≡ begins +ₚ from
    → (p : Put) (c : Option (List ℕ)) → p.end ≤ length input → from ≤ p.from → p.from ≤ p.end
    → ((content : List ℕ) → c ≡ Some content → (before : List ℕ) × (s ++ take p.end input ≡ before ++ content) × (length before ≡ p.at + before_content p.event))
    → ((content : List ℕ) → c ≡ Some content → length content ≤ p.end - p.from) → IsInInput p → (place : Ptr) → IsPlaced o p.at p.event c place → LiesBy begins b p c place
placed o s input begins b from base long there p None within later on last short lies place is = is
placed o s input begins b from base long there p (Some content) within later on last short lies place is =
    let read = last content refl in
    let size = short content refl in
    let all : p.at + before_content p.event + length content ≡ length s + p.end = omega (arith, ap length read.1, read.2, length-append s (take p.end input), length-append read.0 content, length-take-le p.end input within) in
    let at : from + ((p.at + before_content p.event) - o.offset) ≡ p.end - length content = omega (arith, all, base, size, later, on) in (
      λ _. is (omega (arith, all, base, size, later, on)) (omega (arith, all, base, long, within, later, on))
          ∙ ap (λ (q : Ptr). q +ₚ ((p.at + before_content p.event) - o.offset)) there ∙ further begins from ((p.at + before_content p.event) - o.offset) ∙ ap (λ (n : ℕ). begins +ₚ n) at,
      λ gathered. absurd (omega (arith, gathered, lies)),
    )

module _ (gifts : Gifts) (l : Rules) (s input : List ℕ) (begins : Ptr) (es : List (ℕ × Event)) (o : Origin) (from : ℕ) (base : o.offset ≡ length s + from) (long : length o.input.now ≡ length input - from) (there : as_ptr o.input ≡ begins +ₚ from) where
  -- one item
  module _ (old new : StreamState) (used : ℕ) (cs : List CqlpEvent) (f : IsFilled gifts l old s input begins es used cs) (rules : old.rules ≡ l) (none : old.refusal ≡ None) (begun : IsPending old.pending []) (within : used ≤ length input) (later : from ≤ used)
      (x : Item) (t : TakesItem old (drop used input) x.at x.used x.event new) (c : CqlpEvent) (writes : WritesIn o c x.at x.event) where
    lies : content_span x.event ≤ x.used
    lies =
        let g = t.3.gives [] begun in
        let size = content_within old.rules old.place (drop used input) g.0 (0 + x.used) g.1 in
        omega (arith, span_size x.event, subst (λ (e : Event). content_size_of e ≤ 0 + x.used) g.3 size)

    filled_item : IsFilled gifts l new s input begins es (used + x.used) (cs ++ c ∷ [])
    filled_item =
        let after = subst (λ (o : Option Refusal). AfterBy o gifts old (s ++ take used input) (es ++ events_of f.puts)) none f.after in
        let leads : LeadsTo gifts (s ++ take used input) (es ++ events_of f.puts) (drop used input) x.at x.used x.event new = (t.3.within, t.0 ∙ none, t.3.begun, hands_conforms old new (drop used input) (s ++ take used input) (es ++ events_of f.puts) gifts x.at x.used x.event t.3 (t.0 ∙ none) t.1 after) in
        let put : Put = record { at = x.at; event = x.event; from = used; end = used + x.used } in
        let read = read_more gifts l old new s input begins es used cs f x.at x.used x.event (t.1 ∙ rules) within leads in
        let at : (b : Buffer) → LiesBy begins b put (content_in x.event) writes.0 = λ b.
        placed o s input begins b from base long there put (content_in x.event) (omega (arith, t.3.within, within, length-drop used input)) later (omega arith)
        (λ content is. ends_what_is_read l gifts (s ++ take (used + x.used) input) (es ++ events_of f.puts) x.at x.event read.0 content read.1 is)
        (λ content is. omega (arith, lies, content_spanned x.event content is)) (omega (arith, lies)) writes.0 writes.1 in
        filled_more gifts l old new s input begins es used cs f x.at x.used x.event (t.1 ∙ rules) within leads c (λ b. (writes.0, at b, writes.2)) (cs ++ c ∷ []) refl (omega (arith, lies))

  pub filled_items : (old new : StreamState) (used : ℕ) (cs ds : List CqlpEvent) (xs : List Item) → IsFilled gifts l old s input begins es used cs → old.rules ≡ l → IsPending old.pending [] → used ≤ length input → from ≤ used → TakesItems old (drop used input) xs new → WritesItems o ds xs
      → IsFilled gifts l new s input begins es (used + bytes_of xs) (cs ++ ds)
  filled_items old new used cs [] [] f rules begun within later t writes = rw (t, append-nil cs) (subst (λ (n : ℕ). IsFilled gifts l old s input begins es n cs) (omega arith) f)
  filled_items old new used cs (d ∷ ds) [] f rules begun within later t writes = absurd writes
  filled_items old new used cs [] (x ∷ xs) f rules begun within later t writes = absurd writes
  filled_items old new used cs (d ∷ ds) (x ∷ xs) f rules begun within later t writes =
      let first = filled_item old t.0 used cs f rules t.1 begun within later x t.2 d writes.0 in
      let far : used + x.used ≤ length input = omega (arith, t.2.3.within, within, length-drop used input) in
      let rest = subst (λ (z : List ℕ). TakesItems t.0 z xs new) (drop-drop x.used used input) t.3 in
      let more = filled_items t.0 new (used + x.used) (cs ++ d ∷ []) ds xs first (t.2.1 ∙ rules) t.2.3.begun far (omega (arith, later)) rest writes.1 in
      let at : (used + x.used) + bytes_of xs ≡ used + bytes_of (x ∷ xs) = omega arith in
      let all : (cs ++ d ∷ []) ++ ds ≡ cs ++ d ∷ ds = append_assoc cs (d ∷ []) ds in
      subst (λ (n : ℕ). IsFilled gifts l new s input begins es n (cs ++ d ∷ ds)) at (subst (λ (z : List CqlpEvent). IsFilled gifts l new s input begins es ((used + x.used) + bytes_of xs) z) all more)
