-- What is held of a content that was gathered, and where.
use Rattle.std.proofs.Common.{◌≡◌, ℕ, ◌+◌, ◌≤◌, Bool, true, false, List, length, drop, min, Option, Some, None, refl, ap, subst, ◌∙◌, arith}
use Rattle.std.specs.Prelude.{if◌then◌else◌}
use Rattle.std.specs.Int.{w32, to_be_bytes, cast_unsigned}
use Rattle.std.specs.Ptr.{Ptr}
use denote.RawPtr.{◌+ₚ◌}
use Rattle.std.proofs.lemmas.List.{length-append}
use Rattle.cqlp_note.specs.Field as field
use Rattle.cqlp_note.specs.Field.{address_of, signed}
use Rattle.cqlp_kind.specs.declared.kind.Kind.{Kind}
use Rattle.cqlp_kind.specs.declared.kind.Kind.TheVariants as kind
use Rattle.cqlp_kind.specs.CellStep as cell
use Rattle.cqlp_kind.specs.Scalars.{ScalarValue, only_if, scalar_of}
use Rattle.cqlp_kind.specs.Scalars as scalar
use Rattle.cqlp_grammar.specs.Events.{Event, Frame, Holds, Node_of, Cell_at, Leave, End}
use Rattle.cqlp_decode.specs.Progress.{IsContent}
use Rattle.cqlp_decode.specs.Streams.{Decoding, buffer_of, state}
use Rattle.cqlp_laws.specs.Contents.{content_in, scalar_content}
use Rattle.cqlp_c.specs.declared.event.CqlpEvent.{CqlpEvent}
use Rattle.cqlp_c.specs.Events.{before_gathered, content_of, content_span, is_decimal, scale_in, span_in}
use Rattle.cqlp_c.specs.Batches.{Buffer, IsGathered, IsInInput, LiesBy, LiesByStep, Put, PutsGathered, WritesPut, WritesStep, buffer_in}
use Rattle.cqlp_c.proofs.Spans.{span_event}

-- the bytes of a scalar that come before its content
abbrev scale_before : ScalarValue → ℕ
scale_before (scalar.Decimal scale b) = 4
scale_before v = 0

-- ---- what a scalar's bytes are

module _ (held : List ℕ) where
  -- these bytes end in the content
  abbrev Ends_in : ScalarValue → Type 0
  Ends_in v = (content : List ℕ) → scalar_content v ≡ Some content → drop (scale_before v) held ≡ content

  known : (w v : ScalarValue) → ◌≡◌ {A = Option ScalarValue} (Some w) (Some v) → Ends_in w → Ends_in v
  known w v is h = let same : w ≡ v = cc in subst Ends_in same h

  known_if : (b : Bool) (w v : ScalarValue) → only_if b w ≡ Some v → Ends_in w → Ends_in v
  known_if true w v is h = known w v is h
  known_if false w v is h = absurd cc

  scalar_held : (k : Kind) (v : ScalarValue) → scalar_of k held ≡ Some v → Ends_in v
  unfolding scalar_of
  scalar_held kind.Custom v e = known (scalar.Custom held) v e (λ content is. let same : held ≡ content = cc in same)
  scalar_held kind.Ascii v e = known_if _ (scalar.Ascii held) v e (λ content is. let same : held ≡ content = cc in same)
  scalar_held kind.Bigint v e = known _ v e (λ content is. absurd cc)
  scalar_held kind.Blob v e = known (scalar.Blob held) v e (λ content is. let same : held ≡ content = cc in same)
  scalar_held kind.Boolean v e = known _ v e (λ content is. absurd cc)
  scalar_held kind.Counter v e = known _ v e (λ content is. absurd cc)
  scalar_held kind.Decimal v e = known _ v e (λ content is. let same : drop 4 held ≡ content = cc in same)
  scalar_held kind.Double v e = known _ v e (λ content is. absurd cc)
  scalar_held kind.Float v e = known _ v e (λ content is. absurd cc)
  scalar_held kind.Int v e = known _ v e (λ content is. absurd cc)
  scalar_held kind.Timestamp v e = known _ v e (λ content is. absurd cc)
  scalar_held kind.Uuid v e = known _ v e (λ content is. absurd cc)
  scalar_held kind.Varchar v e = known_if _ (scalar.Varchar held) v e (λ content is. let same : held ≡ content = cc in same)
  scalar_held kind.Varint v e = known (scalar.Varint held) v e (λ content is. let same : held ≡ content = cc in same)
  scalar_held kind.Timeuuid v e = known_if _ _ v e (λ content is. absurd cc)
  scalar_held kind.Inet v e = known _ v e (λ content is. absurd cc)
  scalar_held kind.Date v e = known _ v e (λ content is. absurd cc)
  scalar_held kind.Time v e = known_if _ _ v e (λ content is. absurd cc)
  scalar_held kind.Smallint v e = known _ v e (λ content is. absurd cc)
  scalar_held kind.Tinyint v e = known _ v e (λ content is. absurd cc)
  scalar_held kind.Raw v e = known (scalar.Raw held) v e (λ content is. let same : held ≡ content = cc in same)
  scalar_held kind.List v e = absurd cc
  scalar_held kind.Map v e = absurd cc
  scalar_held kind.Set v e = absurd cc
  scalar_held kind.Udt v e = absurd cc
  scalar_held kind.Tuple v e = absurd cc

-- ---- what an event's bytes are

gathered_scalar : (row column level : ℕ) (v : ScalarValue) (content : List ℕ) → scalar_content v ≡ Some content → before_gathered (Cell_at row column (cell.Leaf level v)) ≡ scale_before v
gathered_scalar row column level (scalar.Custom b) content is = omega arith
gathered_scalar row column level (scalar.Ascii b) content is = omega arith
gathered_scalar row column level (scalar.Bigint b) content is = omega arith
gathered_scalar row column level (scalar.Blob b) content is = omega arith
gathered_scalar row column level (scalar.Boolean b) content is = omega arith
gathered_scalar row column level (scalar.Counter b) content is = omega arith
gathered_scalar row column level (scalar.Decimal z b) content is = omega arith
gathered_scalar row column level (scalar.Double b) content is = omega arith
gathered_scalar row column level (scalar.Float b) content is = omega arith
gathered_scalar row column level (scalar.Int b) content is = omega arith
gathered_scalar row column level (scalar.Timestamp b) content is = omega arith
gathered_scalar row column level (scalar.Uuid b) content is = omega arith
gathered_scalar row column level (scalar.Varchar b) content is = omega arith
gathered_scalar row column level (scalar.Varint b) content is = omega arith
gathered_scalar row column level (scalar.Timeuuid b) content is = omega arith
gathered_scalar row column level (scalar.Inet b) content is = omega arith
gathered_scalar row column level (scalar.Date b) content is = omega arith
gathered_scalar row column level (scalar.Time b) content is = omega arith
gathered_scalar row column level (scalar.Smallint b) content is = omega arith
gathered_scalar row column level (scalar.Tinyint b) content is = omega arith
gathered_scalar row column level (scalar.Raw b) content is = omega arith

same_content : (held content other : List ℕ) → ◌≡◌ {A = Option (List ℕ)} (Some other) (Some content) → held ≡ other → (n : ℕ) → n ≡ 0 → drop n held ≡ content
same_content held content other is same n none = let e : other ≡ content = cc in rw none (same ∙ e)

pub held_content : (e : Event) (held content : List ℕ) → content_in e ≡ Some content → IsContent e held → drop (before_gathered e) held ≡ content
held_content (Frame h) held content is same = absurd cc
held_content (Holds f (field.Byte n)) held content is same = absurd cc
held_content (Holds f (field.Short n)) held content is same = absurd cc
held_content (Holds f (field.Int z)) held content is same = absurd cc
held_content (Holds f (field.Long z)) held content is same = absurd cc
held_content (Holds f (field.Uuid b)) held content is same = absurd cc
held_content (Holds f (field.Count n)) held content is same = absurd cc
held_content (Holds f (field.Text t)) held content is same = same_content held content t is same (before_gathered (Holds f (field.Text t))) (omega arith)
held_content (Holds f (field.Bytes (Some c))) held content is same = same_content held content c is same (before_gathered (Holds f (field.Bytes (Some c)))) (omega arith)
held_content (Holds f (field.Bytes None)) held content is same = absurd cc
held_content (Holds f (field.Bound field.Null)) held content is same = absurd cc
held_content (Holds f (field.Bound field.Unset)) held content is same = absurd cc
held_content (Holds f (field.Bound (field.Known c))) held content is same = same_content held content c is same (before_gathered (Holds f (field.Bound (field.Known c)))) (omega arith)
held_content (Holds f (field.Inet a z)) held content is same = absurd cc
held_content (Node_of k) held content is same = absurd cc
held_content (Cell_at row column (cell.Leaf level v)) held content is same = rw (gathered_scalar row column level v content is) (scalar_held held same.0 v same.1 content is)
held_content (Cell_at row column (cell.Null level)) held content is same = absurd cc
held_content (Cell_at row column (cell.Empty level)) held content is same = absurd cc
held_content (Cell_at row column (cell.Enter level k n)) held content is same = absurd cc
held_content (Cell_at row column (cell.Leave level n)) held content is same = absurd cc
held_content (Cell_at row column (cell.Part level offset c last)) held content is same = same_content held content c is same (before_gathered (Cell_at row column (cell.Part level offset c last))) (omega arith)
held_content (Leave level n) held content is same = absurd cc
held_content (End n) held content is same = absurd cc

-- what has no content has nothing to be gathered
none_spans : (e : Event) → content_in e ≡ None → content_span e ≡ 0
none_spans (Frame h) is = refl
none_spans (Holds f (field.Byte n)) is = refl
none_spans (Holds f (field.Short n)) is = refl
none_spans (Holds f (field.Int z)) is = refl
none_spans (Holds f (field.Long z)) is = refl
none_spans (Holds f (field.Uuid b)) is = refl
none_spans (Holds f (field.Count n)) is = refl
none_spans (Holds f (field.Text t)) is = absurd cc
none_spans (Holds f (field.Bytes (Some c))) is = absurd cc
none_spans (Holds f (field.Bytes None)) is = refl
none_spans (Holds f (field.Bound field.Null)) is = refl
none_spans (Holds f (field.Bound field.Unset)) is = refl
none_spans (Holds f (field.Bound (field.Known c))) is = absurd cc
none_spans (Holds f (field.Inet a z)) is = refl
none_spans (Node_of k) is = refl
none_spans (Cell_at row column (cell.Leaf level (scalar.Custom b))) is = absurd cc
none_spans (Cell_at row column (cell.Leaf level (scalar.Ascii b))) is = absurd cc
none_spans (Cell_at row column (cell.Leaf level (scalar.Bigint b))) is = refl
none_spans (Cell_at row column (cell.Leaf level (scalar.Blob b))) is = absurd cc
none_spans (Cell_at row column (cell.Leaf level (scalar.Boolean b))) is = refl
none_spans (Cell_at row column (cell.Leaf level (scalar.Counter b))) is = refl
none_spans (Cell_at row column (cell.Leaf level (scalar.Decimal z b))) is = absurd cc
none_spans (Cell_at row column (cell.Leaf level (scalar.Double b))) is = refl
none_spans (Cell_at row column (cell.Leaf level (scalar.Float b))) is = refl
none_spans (Cell_at row column (cell.Leaf level (scalar.Int b))) is = refl
none_spans (Cell_at row column (cell.Leaf level (scalar.Timestamp b))) is = refl
none_spans (Cell_at row column (cell.Leaf level (scalar.Uuid b))) is = refl
none_spans (Cell_at row column (cell.Leaf level (scalar.Varchar b))) is = absurd cc
none_spans (Cell_at row column (cell.Leaf level (scalar.Varint b))) is = absurd cc
none_spans (Cell_at row column (cell.Leaf level (scalar.Timeuuid b))) is = refl
none_spans (Cell_at row column (cell.Leaf level (scalar.Inet b))) is = refl
none_spans (Cell_at row column (cell.Leaf level (scalar.Date b))) is = refl
none_spans (Cell_at row column (cell.Leaf level (scalar.Time b))) is = refl
none_spans (Cell_at row column (cell.Leaf level (scalar.Smallint b))) is = refl
none_spans (Cell_at row column (cell.Leaf level (scalar.Tinyint b))) is = refl
none_spans (Cell_at row column (cell.Leaf level (scalar.Raw b))) is = absurd cc
none_spans (Cell_at row column (cell.Null level)) is = refl
none_spans (Cell_at row column (cell.Empty level)) is = refl
none_spans (Cell_at row column (cell.Enter level k n)) is = refl
none_spans (Cell_at row column (cell.Leave level n)) is = refl
none_spans (Cell_at row column (cell.Part level offset c last)) is = absurd cc
none_spans (Leave level n) is = refl
none_spans (End n) is = refl

-- what comes before a content is held with it
before_held : (e : Event) (held : List ℕ) → IsContent e held → before_gathered e ≤ length held
before_held (Frame h) held same = omega arith
before_held (Holds f (field.Byte n)) held same = omega arith
before_held (Holds f (field.Short n)) held same = omega arith
before_held (Holds f (field.Int z)) held same = omega arith
before_held (Holds f (field.Long z)) held same = omega arith
before_held (Holds f (field.Uuid b)) held same = omega arith
before_held (Holds f (field.Count n)) held same = omega arith
before_held (Holds f (field.Text t)) held same = omega arith
before_held (Holds f (field.Bytes (Some c))) held same = omega arith
before_held (Holds f (field.Bytes None)) held same = omega arith
before_held (Holds f (field.Bound field.Null)) held same = omega arith
before_held (Holds f (field.Bound field.Unset)) held same = omega arith
before_held (Holds f (field.Bound (field.Known c))) held same = omega arith
before_held (Holds f (field.Inet a z)) held same = omega arith
before_held (Node_of k) held same = omega arith
before_held (Cell_at row column (cell.Leaf level (scalar.Custom b))) held same = omega arith
before_held (Cell_at row column (cell.Leaf level (scalar.Ascii b))) held same = omega arith
before_held (Cell_at row column (cell.Leaf level (scalar.Bigint b))) held same = omega arith
before_held (Cell_at row column (cell.Leaf level (scalar.Blob b))) held same = omega arith
before_held (Cell_at row column (cell.Leaf level (scalar.Boolean b))) held same = omega arith
before_held (Cell_at row column (cell.Leaf level (scalar.Counter b))) held same = omega arith
before_held (Cell_at row column (cell.Leaf level (scalar.Decimal z b))) held same = omega (arith, same.2, length-append (to_be_bytes w32 (cast_unsigned w32 z)) b)
before_held (Cell_at row column (cell.Leaf level (scalar.Double b))) held same = omega arith
before_held (Cell_at row column (cell.Leaf level (scalar.Float b))) held same = omega arith
before_held (Cell_at row column (cell.Leaf level (scalar.Int b))) held same = omega arith
before_held (Cell_at row column (cell.Leaf level (scalar.Timestamp b))) held same = omega arith
before_held (Cell_at row column (cell.Leaf level (scalar.Uuid b))) held same = omega arith
before_held (Cell_at row column (cell.Leaf level (scalar.Varchar b))) held same = omega arith
before_held (Cell_at row column (cell.Leaf level (scalar.Varint b))) held same = omega arith
before_held (Cell_at row column (cell.Leaf level (scalar.Timeuuid b))) held same = omega arith
before_held (Cell_at row column (cell.Leaf level (scalar.Inet b))) held same = omega arith
before_held (Cell_at row column (cell.Leaf level (scalar.Date b))) held same = omega arith
before_held (Cell_at row column (cell.Leaf level (scalar.Time b))) held same = omega arith
before_held (Cell_at row column (cell.Leaf level (scalar.Smallint b))) held same = omega arith
before_held (Cell_at row column (cell.Leaf level (scalar.Tinyint b))) held same = omega arith
before_held (Cell_at row column (cell.Leaf level (scalar.Raw b))) held same = omega arith
before_held (Cell_at row column (cell.Null level)) held same = omega arith
before_held (Cell_at row column (cell.Empty level)) held same = omega arith
before_held (Cell_at row column (cell.Enter level k n)) held same = omega arith
before_held (Cell_at row column (cell.Leave level n)) held same = omega arith
before_held (Cell_at row column (cell.Part level offset c last)) held same = omega arith
before_held (Leave level n) held same = omega arith
before_held (End n) held same = omega arith

-- ---- where it lies

step_lies : (input : Ptr) (b : Buffer) (p : Put) (o : Option (List ℕ)) (place : Ptr) → IsInInput p → LiesByStep input p o place → LiesBy input b p o place
step_lies input b p None place lies is = is
step_lies input b p (Some content) place lies is = (is, λ gathered. absurd (omega (arith, gathered, lies)))

-- one that lies in the input is put as it is written
pub step_put : (input : Ptr) (b : Buffer) (c : CqlpEvent) (p : Put) → IsInInput p → WritesStep input c p → WritesPut input b c p
step_put input b c p lies t = (t.0, step_lies input b p (content_in p.event) t.0 lies t.1, t.2)

there_lies : (input : Ptr) (b : Buffer) (p : Put) (some : p.from ≤ p.end) (gathered : IsGathered p) (held : IsContent p.event b.bytes) (o : Option (List ℕ)) → content_in p.event ≡ o → (n : ℕ) → n ≡ before_gathered p.event → LiesBy input b p o (b.at +ₚ n)
there_lies input b p some gathered held None is n before = absurd (omega (arith, gathered, some, none_spans p.event is))
there_lies input b p some gathered held (Some content) is n before = (
  λ lies. absurd (omega (arith, gathered, lies)),
  λ _. record { is = held_content p.event b.bytes content is held; there = ap (λ (k : ℕ). b.at +ₚ k) before },
)

scale_more : (scaled : Bool) (n : ℕ) → (if scaled then n + 4 else n) ≡ n + (if scaled then 4 else 0)
scale_more true n = refl
scale_more false n = omega arith

-- what is written of a gathered content, with its place in the decoder
pub put_there : (d : Decoding) (c : CqlpEvent) → PutsGathered (buffer_in d) c (record c { content = buffer_of d +ₚ min (scale_in c) (length (state d).held) })
put_there d c = λ input p some gathered held t.
    let span : span_in c ≡ content_span p.event = ap span_in t.2 ∙ span_event p.at p.event t.0 in
    let long : c.length ≡ length (content_of p.event) = ap (λ (z : CqlpEvent). z.length) t.2 in
    let scaled : span_in c ≡ c.length + scale_in c = scale_more (is_decimal c) c.length in
    let scale : scale_in c ≡ before_gathered p.event = omega (arith, span, long, scaled) in
    let n = min (scale_in c) (length (state d).held) in
    let before : n ≡ before_gathered p.event = omega (arith, scale, before_held p.event (state d).held held) in (
      buffer_of d +ₚ n,
      there_lies input (buffer_in d) p some gathered held (content_in p.event) refl n before,
      ap (λ (z : CqlpEvent). record z { content = buffer_of d +ₚ n }) t.2,
    )
