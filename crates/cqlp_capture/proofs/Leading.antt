-- Where a step leads.
use Rattle.std.proofs.Common.{◌≡◌, ℕ, ◌+◌, ◌-◌, ◌^◌, ◌<◌, ◌≤◌, ltb, leb, eqb, Bool, true, false, cond, List, [], ◌∷◌, ◌++◌, length, Result, Ok, Err, refl, sym, ap, subst, ◌∙◌, inl, inr, arith}
use Rattle.std.specs.Prelude.{Option, Some, None, ◌⊎◌, min, slice_get, slice_index}
use Rattle.std.proofs.lemmas.Bool.{eqb-true, eqb-false, ltb-true, ltb-false}
use Rattle.std.proofs.lemmas.List.{length-append}
use Rattle.cqlp_capture.specs.declared.block.Block.{Block}
use Rattle.cqlp_capture.specs.declared.block.BlockKind.{BlockKind}
use Rattle.cqlp_capture.specs.declared.block.BlockKind.TheVariants as kind
use Rattle.cqlp_capture.specs.declared.block.EitherLength.{EitherLength}
use Rattle.cqlp_capture.specs.declared.file.ByteOrder.{ByteOrder}
use Rattle.cqlp_capture.specs.declared.file.ByteOrder.TheVariants.{BigEndian}
use Rattle.cqlp_capture.specs.declared.file.FileForm.{FileForm}
use Rattle.cqlp_capture.specs.declared.event.InterfaceHead.{InterfaceHead}
use Rattle.cqlp_capture.specs.declared.event.PacketHead.{PacketHead}
use Rattle.cqlp_capture.specs.declared.event.SkipReason.{SkipReason}
use Rattle.cqlp_capture.specs.declared.event.SkipReason.TheVariants.{ShortBlock, BadOptionLength, UnknownTimeUnit, NegativeTimeOffset, UnknownInterface, UnreadInterface, TimeTooLarge, PacketBeyondBlock, PacketTooLong, TooManyInterfaces}
use Rattle.cqlp_capture.specs.declared.event.EventOutline.TheVariants as outline
use Rattle.cqlp_capture.specs.declared.interfaces.TableChange.TheVariants.{Keep, Add}
use Rattle.cqlp_capture.specs.declared.event.Emission.{Emission}
use Rattle.cqlp_capture.specs.declared.interfaces.KnownInterface.{KnownInterface}
use Rattle.cqlp_capture.specs.declared.limits.CaptureLimits.{CaptureLimits}
use Rattle.cqlp_capture.specs.declared.place.RecordForm.{RecordForm}
use Rattle.cqlp_capture.specs.declared.place.Stage.{Stage}
use Rattle.cqlp_capture.specs.declared.place.Stage.TheVariants.{Magic, FileHead, RecordHead, Data, Rest, SectionLength, SectionBody, BlockHead, InterfaceBody, OptionHead, TimeUnit, TimeOffset, EnhancedBody, PacketBody, SimpleBody, BlockData, Pass, BlockEnd}
use Rattle.cqlp_capture.specs.declared.refusal.CaptureRefusal.{CaptureRefusal}
use Rattle.cqlp_capture.specs.Interfaces.{changed}
use Rattle.cqlp_capture.specs.Emission.{goes_on}
use Rattle.cqlp_capture.specs.Numbers.{form_of, is_block_length, is_gzip, is_section, number_16, number_32, number_64, order_of, padded, unit_of}
use Rattle.cqlp_capture.specs.Records as records
use Rattle.cqlp_capture.specs.Blocks.{IsBlock, IsInBlock, block_at, block_end, captured_of, described, describing, either_length, kind_of, lawful_length, least_length, length_in, passing, redescribed, room_of, section_at, skipped, skipped_option, time_of, read_block_of, read_by_unit, read_enhanced, read_known, read_option, read_option_head, read_packet, read_section, read_section_in, read_simple, read_timed, read_unit, units_of, untimed_block, with_offset, with_unit}
use Rattle.cqlp_capture.specs.Blocks as blocks
use Rattle.cqlp_capture.specs.Reading.{Event, Interface, Bytes, Packet, Spot, event_if, after_emission, wanted, read_at}
use Rattle.cqlp_capture.specs.Places.{IsNear, IsKnownAt, IsSpot, ComesAfterHead, began_at, began, due, is_between}
use Rattle.cqlp_capture.specs.Laws.{BeginsAfterHead, counted}
use Rattle.cqlp_capture.proofs.Tests.{Fits, allowed, length_is, not_refused, ok_same}
use Rattle.cqlp_capture.proofs.Insides.{Inside, described_inside, option_inside, passing_inside}

-- this many bytes of a packet are read next
abbrev pub IsDataOf : Stage → ℕ → Type 0
IsDataOf (Data r n) k = n ≡ k
IsDataOf (BlockData b n) k = n ≡ k
IsDataOf s k = ⊥

-- how many interfaces a section has after a step
abbrev pub counted_if : ℕ → Option Event → ℕ
counted_if n None = n
counted_if n (Some e) = counted n e

-- The place after it is as far as the bytes that were read, and what was under way goes on, or the file may end there.
pub record Leads (l : CaptureLimits) (known : List KnownInterface) (offset : ℕ) (s : Stage) (b : List ℕ) (t : Emission) : Type 0 where
  pub near : IsSpot l (after_emission known t)
  pub offset_is : t.place.offset ≡ offset + wanted s
  pub pays : 1 + due t.place.stage ≤ due s + wanted s
  pub begins : (began t.place ≡ began_at offset s) ⊎ ((is_between t.place.stage ≡ true) × (began t.place ≡ t.place.offset))
  pub counts : length (changed t.change known) ≡ counted_if (length known) (event_if t.what b)
  pub bytes : (c : List ℕ) → event_if t.what b ≡ Some (Bytes c) → (t.at ≡ offset) × (c ≡ b)
  pub head : (h : PacketHead) → event_if t.what b ≡ Some (Packet h) → BeginsAfterHead t.at t.place.offset h × IsDataOf t.place.stage h.captured
  pub numbered : (i : InterfaceHead) → event_if t.what b ≡ Some (Interface i) → i.number ≡ length known

-- where the rest of a record is passed over, or the next one is read
pub record RestsIn (l : CaptureLimits) (known : List KnownInterface) (start offset : ℕ) (s : Stage) : Type 0 where
  pub near : IsNear l offset s × ComesAfterHead offset s
  pub kept : IsKnownAt l s known
  pub begins : (began_at offset s ≡ start) ⊎ ((is_between s ≡ true) × (began_at offset s ≡ offset))
  pub free : due s ≡ 0

module _ (l : CaptureLimits) (fits : Fits l) (known : List KnownInterface) (offset : ℕ) (bytes : List ℕ) (t : Emission) where
  abbrev Rests : (start o : ℕ) → Stage → Type 0
  Rests start o s = RestsIn l known start o s

  -- a step that says no event
  silent : (s : Stage) (o : ℕ) (next : Stage) → goes_on o next ≡ Ok t → o ≡ offset + wanted s → 1 ≤ wanted s → IsNear l o next × ComesAfterHead o next → IsKnownAt l next known → began_at o next ≡ began_at offset s → due next ≡ 0 → Leads l known offset s bytes t
  silent s o next is far some near few begins free = subst (λ (u : Emission). Leads l known offset s bytes u) (ok_same t _ is) (record {
    near = record { place = near; known = few };
    offset_is = far;
    pays = omega arith;
    begins = inl begins;
    counts = refl;
    bytes = λ c e. absurd cc;
    head = λ h e. absurd cc;
    numbered = λ i e. absurd cc;
  })

  -- and that goes on in a block
  within : (s : Stage) (b : Block) (o : ℕ) (next : Stage) → goes_on o next ≡ Ok t → o ≡ offset + wanted s → 1 ≤ wanted s → Inside l b o next → length known ≤ l.interfaces → b.start ≡ began_at offset s → Leads l known offset s bytes t
  within s b o next is far some inside few begins = silent s o next is far some inside.near (inside.known known few) (inside.begins ∙ begins) inside.free

  -- what is left of a block is passed over
  skip_leads : (s : Stage) (b : Block) (n : ℕ) (why : SkipReason) → IsInBlock b (offset + n) 0 → n ≡ wanted s → 1 ≤ n → length known ≤ l.interfaces → b.start ≡ began_at offset s → skipped (offset + n) b why ≡ Ok t → Leads l known offset s bytes t
  skip_leads s b n why here wants some few begins is =
      let before = here.before in
      let inside = passing_inside l b (offset + n) (block_end b) here (omega arith) (omega arith) in
      subst (λ (u : Emission). Leads l known offset s bytes u) (ok_same t _ is) (record {
        near = record { place = inside.near; known = inside.known known few };
        offset_is = omega arith;
        pays = let free = inside.free in omega arith;
        begins = inl (inside.begins ∙ begins);
        counts = refl;
        bytes = λ c e. absurd cc;
        head = λ h e. absurd cc;
        numbered = λ i e. absurd cc;
      })

  -- with an option that cannot be read
  skip_option_leads : (s : Stage) (b : Block) (n : ℕ) (why : SkipReason) → IsInBlock b (offset + n) 0 → n ≡ wanted s → 1 ≤ n → length known ≤ l.interfaces → b.start ≡ began_at offset s → skipped_option (offset + n) b why ≡ Ok t → Leads l known offset s bytes t
  skip_option_leads s b n why here wants some few begins is =
      let block = here.block in
      skip_leads s (untimed_block b) n why (record { block = record { near = block.near; least = block.least; most = block.most }; after = here.after; before = here.before }) wants some few begins is

  -- ---- pcap

  form_leads : (o : Option FileForm) → offset ≡ 0 → known ≡ [] → records.read_form o ≡ Ok t → Leads l known offset Magic bytes t
  form_leads None zero none is = absurd cc
  form_leads (Some f) zero none is = subst (λ (u : Emission). Leads l known offset Magic bytes u) (ok_same t _ is) (record {
    near = record { place = (refl, tt); known = none };
    offset_is = omega arith;
    pays = omega arith;
    begins = inl refl;
    counts = ap length none;
    bytes = λ c e. absurd cc;
    head = λ h e. absurd cc;
    numbered = λ i e. absurd cc;
  })

  magic_leads : (x : Bool) (o : Option FileForm) → offset ≡ 0 → known ≡ [] → cond x (goes_on 4 SectionLength) (records.read_form o) ≡ Ok t → Leads l known offset Magic bytes t
  magic_leads true o zero none is = silent Magic 4 SectionLength is (omega arith) (omega arith) (refl, tt) (let e : length known ≡ 0 = ap length none in omega arith) refl refl
  magic_leads false o zero none is = form_leads o zero none is

  file_read : (f : FileForm) (x : Bool) (u : Emission) (r : CaptureRefusal) → Leads l known offset (FileHead f) bytes u → cond x (Ok u) (Err r) ≡ Ok t → Leads l known offset (FileHead f) bytes t
  file_read f true u r leads is = subst (λ (u : Emission). Leads l known offset (FileHead f) bytes u) (ok_same t u is) leads
  file_read f false u r leads is = absurd cc

  file_leads : (f : FileForm) → offset ≡ 4 → known ≡ [] → records.read_file_head f bytes ≡ Ok t → Leads l known offset (FileHead f) bytes t
  file_leads f four none is =
      let empty : length known ≡ 0 = ap length none in
      let some = fits.some in
      let more : length (known ++ records.known_of f bytes ∷ []) ≡ length known + 1 = length-append known (records.known_of f bytes ∷ []) in
      file_read f (records.is_known_version f bytes) _ _ (record {
        near = record { place = (omega arith, tt); known = omega arith };
        offset_is = omega arith;
        pays = omega arith;
        begins = inr (refl, refl);
        counts = more;
        bytes = λ c e. absurd cc;
        head = λ h e. absurd cc;
        numbered = λ i e.
            let same : records.interface_of f bytes ≡ i = cc in
            let n : 0 ≡ i.number = ap (λ (x : InterfaceHead). x.number) same in
            omega arith;
      }) is

  rest_by : (r : RecordForm) (start left o : ℕ) (x : Bool) → (x ≡ true → left ≡ 0) → (x ≡ false → left ≡ 0 → ⊥) → o + left ≤ 2 ^ 63 + 2 ^ 33 → start + 16 ≤ o → length known ≤ l.interfaces
      → Rests start o (cond x (RecordHead r) (Rest r start left))
  rest_by r start left o true none some far after few = record { near = (omega arith, tt); kept = few; begins = inr (refl, refl); free = refl }
  rest_by r start left o false none some far after few =
      let apart : left ≡ 0 → ⊥ = some refl in
      record { near = ((far, omega arith), after); kept = few; begins = inl refl; free = refl }

  rest_leads : (r : RecordForm) (start left : ℕ) → offset + left ≤ 2 ^ 63 + 2 ^ 33 → 0 < left → start + 16 ≤ offset → length known ≤ l.interfaces → goes_on (offset + min left 64) (records.rest_of r start (left - min left 64)) ≡ Ok t → Leads l known offset (Rest r start left) bytes t
  rest_leads r start left far some after few is =
      let n = min left 64 in
      let rests = rest_by r start (left - n) (offset + n) (eqb (left - n) 0) (eqb-true _ _) (eqb-false _ _) (omega arith) (omega arith) few in
      let free = rests.free in
      subst (λ (u : Emission). Leads l known offset (Rest r start left) bytes u) (ok_same t _ is) (record {
        near = record { place = rests.near; known = rests.kept };
        offset_is = refl;
        pays = omega arith;
        begins = rests.begins;
        counts = refl;
        bytes = λ c e. absurd cc;
        head = λ h e. absurd cc;
        numbered = λ i e. absurd cc;
      })

  record_by : (r : RecordForm) (n : ℕ) (x : Bool) (u : Emission) → offset ≤ 2 ^ 63 → length known ≤ l.interfaces → (x ≡ true → 0 < n) → (x ≡ false → Leads l known offset (RecordHead r) bytes u) → cond x (records.skipped_record offset n r) (Ok u) ≡ Ok t → Leads l known offset (RecordHead r) bytes t
  record_by r n true u near few long read is =
      let some : 0 < n = long refl in
      subst (λ (u : Emission). Leads l known offset (RecordHead r) bytes u) (ok_same t _ is) (record {
        near = record { place = ((omega arith, omega arith), omega arith); known = few };
        offset_is = refl;
        pays = omega arith;
        begins = inl refl;
        counts = refl;
        bytes = λ c e. absurd cc;
        head = λ h e. absurd cc;
        numbered = λ i e. absurd cc;
      })
  record_by r n false u near few long read is = subst (λ (u : Emission). Leads l known offset (RecordHead r) bytes u) (ok_same t u is) (read refl)

  record_leads : (r : RecordForm) → length known ≤ l.interfaces → records.read_record_head l.packet offset r bytes ≡ Ok t → Leads l known offset (RecordHead r) bytes t
  record_leads r few is =
      let a = not_refused _ _ _ _ is in
      let near : offset ≤ 2 ^ 63 = ltb-false _ _ a.0 in
      let n = number_32 r.form.order 8 bytes in
      record_by r n (ltb l.packet n) _ near few (λ e. let long = ltb-true l.packet n e in omega arith) (λ e.
      let small = ltb-false l.packet n e in
      record {
        near = record { place = ((omega arith, small), omega arith); known = few };
        offset_is = refl;
        pays = omega arith;
        begins = inl (omega arith);
        counts = refl;
        bytes = λ c e. absurd cc;
        head = λ h e. (inl refl, cc);
        numbered = λ i e. absurd cc;
      }) a.1

  data_leads : (r : RecordForm) (n : ℕ) → offset ≤ 2 ^ 63 + 16 → n ≤ l.packet → length known ≤ l.interfaces → length bytes ≡ n → blocks.read_data (offset + n) offset (RecordHead r) ≡ Ok t → Leads l known offset (Data r n) bytes t
  data_leads r n far small few long is =
      let greatest = fits.greatest in
      subst (λ (u : Emission). Leads l known offset (Data r n) bytes u) (ok_same t _ is) (record {
        near = record { place = (omega arith, tt); known = few };
        offset_is = refl;
        pays = omega arith;
        begins = inr (refl, refl);
        counts = refl;
        bytes = λ c e. (refl, cc);
        head = λ h e. absurd cc;
        numbered = λ i e. absurd cc;
      })

  -- ---- sections

  section_leads : (e : EitherLength) → offset ≤ 2 ^ 63 + 8 → 8 ≤ offset → (o : Option ByteOrder) → read_section_in offset e bytes o ≡ Ok t → Leads l known offset (SectionBody e) bytes t
  section_leads e far begun None is = absurd cc
  section_leads e far begun (Some o) is =
      let b = section_at offset e o in
      let a = allowed (is_block_length 28 (length_in o e)) _ _ _ is in
      let c = allowed (blocks.is_known_version o bytes) _ (read_section b) _ a.1 in
      let long = length_is 28 (length_in o e) a.0 in
      let least = long.0 in
      let most = long.1 in
      let block : IsBlock b = record { near = omega arith; least = omega arith; most = most } in
      let here : IsInBlock b (b.start + 24) 0 = record { block = block; after = omega arith; before = omega arith } in
      let inside = passing_inside l b (b.start + 24) (block_end b) here (omega arith) (omega arith) in
      subst (λ (u : Emission). Leads l known offset (SectionBody e) bytes u) (ok_same t _ c.1) (record {
        near = record { place = inside.near; known = inside.known [] (omega arith) };
        offset_is = omega arith;
        pays = let free = inside.free in omega arith;
        begins = inl inside.begins;
        counts = refl;
        bytes = λ c e. absurd cc;
        head = λ h e. absurd cc;
        numbered = λ i e. absurd cc;
      })

  -- ---- blocks

  module _ (few : length known ≤ l.interfaces) where
    body_leads : (o : ByteOrder) (k : BlockKind) (b : Block) → b.start ≡ offset → IsBlock b → least_length k ≤ b.length → blocks.read_block k b ≡ Ok t → Leads l known offset (BlockHead o) bytes t
    body_leads o k b start block least is = by k least is
      where
        in_block : (n : ℕ) → 12 + n ≤ b.length → IsInBlock b (b.start + 8) n
        in_block n long = record { block = block; after = omega arith; before = omega arith }

        passed : blocks.read_block kind.Other b ≡ Ok t → Leads l known offset (BlockHead o) bytes t
        passed is =
            let least = block.least in
            let inside = passing_inside l b (b.start + 8) (block_end b) (in_block 0 (omega arith)) (omega arith) (omega arith) in
            within (BlockHead o) b (b.start + 8) _ is (omega arith) (omega arith) inside few start

        by : (k : BlockKind) → least_length k ≤ b.length → blocks.read_block k b ≡ Ok t → Leads l known offset (BlockHead o) bytes t
        by kind.Section least is = passed is
        by kind.Interface least is = silent (BlockHead o) (b.start + 8) (InterfaceBody b) is (omega arith) (omega arith) (in_block 8 (omega arith), tt) few start refl
        by kind.Packet least is = silent (BlockHead o) (b.start + 8) (PacketBody b) is (omega arith) (omega arith) (record { block = in_block 20 (omega arith); here = refl }, tt) few start refl
        by kind.EnhancedPacket least is = silent (BlockHead o) (b.start + 8) (EnhancedBody b) is (omega arith) (omega arith) (record { block = in_block 20 (omega arith); here = refl }, tt) few start refl
        by kind.SimplePacket least is = silent (BlockHead o) (b.start + 8) (SimpleBody b) is (omega arith) (omega arith) (record { block = in_block 4 (omega arith); here = refl }, tt) few start refl
        by kind.Other least is = passed is

    least_is : (k : BlockKind) → 12 ≤ lawful_length k
    least_is kind.Section = omega arith
    least_is kind.Interface = omega arith
    least_is kind.Packet = omega arith
    least_is kind.EnhancedPacket = omega arith
    least_is kind.SimplePacket = omega arith
    least_is kind.Other = omega arith

    -- a block that is long enough for its kind, or is passed over
    long_by : (o : ByteOrder) (k : BlockKind) (b : Block) (x : Bool) → b.start ≡ offset → IsBlock b → (x ≡ false → least_length k ≤ b.length) → cond x (skipped (b.start + 8) b ShortBlock) (blocks.read_block k b) ≡ Ok t → Leads l known offset (BlockHead o) bytes t
    long_by o k b true start block long is =
        let least = block.least in
        let same : skipped (offset + 8) b ShortBlock ≡ Ok t = ap (λ (n : ℕ). skipped (n + 8) b ShortBlock) (sym start) ∙ is in
        skip_leads (BlockHead o) b 8 ShortBlock (record { block = block; after = omega arith; before = omega arith }) refl (omega arith) few start same
    long_by o k b false start block long is = body_leads o k b start block (long refl) is

    head_by : (o : ByteOrder) (x : Bool) → offset ≤ 2 ^ 63 → cond x (goes_on (offset + 8) (SectionBody (either_length 4 bytes))) (read_block_of (kind_of (number_32 o 0 bytes)) (block_at offset o bytes)) ≡ Ok t → Leads l known offset (BlockHead o) bytes t
    head_by o true near is = silent (BlockHead o) (offset + 8) (SectionBody (either_length 4 bytes)) is refl (omega arith) (omega arith, omega arith) few (omega arith) refl
    head_by o false near is =
        let a = allowed _ _ _ _ is in
        let k = kind_of (number_32 o 0 bytes) in
        let b = block_at offset o bytes in
        let long = length_is (lawful_length k) b.length a.0 in
        let least = long.0 in
        let most = long.1 in
        let block : IsBlock b = record { near = near; least = omega (arith, least_is k); most = most } in
        long_by o k b (ltb b.length (least_length k)) refl block (λ e. ltb-false b.length (least_length k) e) a.1

    head_leads : (o : ByteOrder) → blocks.read_block_head offset o bytes ≡ Ok t → Leads l known offset (BlockHead o) bytes t
    head_leads o is =
        let a = not_refused _ _ _ _ is in
        head_by o (is_section (number_32 o 0 bytes)) (ltb-false _ _ a.0) a.1

    -- ---- interfaces

    described_leads : (s : Stage) (b : Block) (i : KnownInterface) (n : ℕ) → IsInBlock b offset n → n ≡ wanted s → 1 ≤ n → b.start ≡ began_at offset s → described (offset + n) b i ≡ Ok t → Leads l known offset s bytes t
    described_leads s b i n here wants some begins is =
        let there : IsInBlock b (offset + n) 0 = let before = here.before in let after = here.after in record { block = here.block; after = omega arith; before = omega arith } in
        let inside = option_inside l (describing b i) (offset + n) (described_inside b i (offset + n) 0 there) in
        within s (describing b i) (offset + n) _ is (omega arith) (omega arith) inside few begins

    redescribed_leads : (s : Stage) (b : Block) (f : KnownInterface → KnownInterface) (n : ℕ) → IsInBlock b offset n → n ≡ wanted s → 1 ≤ n → b.start ≡ began_at offset s → (o : Option KnownInterface) → redescribed (offset + n) b o f ≡ Ok t → Leads l known offset s bytes t
    redescribed_leads s b f n here wants some begins (Some i) is = described_leads s b (f i) n here wants some begins is
    redescribed_leads s b f n here wants some begins None is =
        let there : IsInBlock b (offset + n) 0 = let before = here.before in let after = here.after in record { block = here.block; after = omega arith; before = omega arith } in
        within s b (offset + n) _ is (omega arith) (omega arith) (option_inside l b (offset + n) there) few begins

    -- after bytes that lie in a block
    past : (b : Block) (n : ℕ) → IsInBlock b offset n → IsInBlock b (offset + n) 0
    past b n here = let before = here.before in let after = here.after in record { block = here.block; after = omega arith; before = omega arith }

    bad_option : (b : Block) → IsInBlock b offset 4 → skipped_option (offset + 4) b BadOptionLength ≡ Ok t → Leads l known offset (OptionHead b) bytes t
    bad_option b here is = skip_option_leads (OptionHead b) b 4 BadOptionLength (past b 4 here) refl (omega arith) few refl is

    option_by : (b : Block) (size : ℕ) (x y z w : Bool) → IsInBlock b offset 4 → IsInBlock b offset (4 + padded size) → (y ≡ true → size ≡ 1) → (w ≡ true → size ≡ 8)
        → cond x (cond y (goes_on (offset + 4) (TimeUnit b)) (skipped_option (offset + 4) b BadOptionLength)) (cond z (cond w (goes_on (offset + 4) (TimeOffset b)) (skipped_option (offset + 4) b BadOptionLength)) (goes_on (offset + 4) (passing b (offset + 4) (offset + 4 + padded size)))) ≡ Ok t
        → Leads l known offset (OptionHead b) bytes t
    option_by b size true true z w four here one eight is =
        let size_is = one refl in
        let length_is : padded size ≡ 4 = ap padded size_is in
        let before = here.before in
        let after = here.after in
        silent (OptionHead b) (offset + 4) (TimeUnit b) is refl (omega arith) (record { block = here.block; after = omega arith; before = omega arith }, tt) few refl refl
    option_by b size true false z w four here one eight is = bad_option b four is
    option_by b size false y true true four here one eight is =
        let size_is = eight refl in
        let length_is : padded size ≡ 8 = ap padded size_is in
        let before = here.before in
        let after = here.after in
        silent (OptionHead b) (offset + 4) (TimeOffset b) is refl (omega arith) (record { block = here.block; after = omega arith; before = omega arith }, tt) few refl refl
    option_by b size false y true false four here one eight is = bad_option b four is
    option_by b size false y false w four here one eight is =
        let before = here.before in
        within (OptionHead b) b (offset + 4) _ is refl (omega arith) (passing_inside l b (offset + 4) (offset + 4 + padded size) (past b 4 four) (omega arith) (omega arith)) few refl

    options_by : (b : Block) (x y : Bool) → IsInBlock b offset 4 → (size : ℕ) → (o : Result Emission CaptureRefusal) → (y ≡ false → offset + 4 + padded size ≤ block_end b)
        → cond x (goes_on (offset + 4) (passing b (offset + 4) (block_end b))) (cond y (skipped_option (offset + 4) b BadOptionLength) o) ≡ Ok t
        → (IsInBlock b offset (4 + padded size) → o ≡ Ok t → Leads l known offset (OptionHead b) bytes t)
        → Leads l known offset (OptionHead b) bytes t
    options_by b true y here size o fits is later =
        let before = here.before in
        within (OptionHead b) b (offset + 4) _ is refl (omega arith) (passing_inside l b (offset + 4) (block_end b) (past b 4 here) (omega arith) (omega arith)) few refl
    options_by b false true here size o fits is later = bad_option b here is
    options_by b false false here size o fits is later =
        let far = fits refl in
        let after = here.after in
        later (record { block = here.block; after = omega arith; before = omega arith }) is

    option_leads : (b : Block) → IsInBlock b offset 4 → read_option_head offset b bytes ≡ Ok t → Leads l known offset (OptionHead b) bytes t
    option_leads b here is =
        let code = number_16 b.order 0 bytes in
        let size = number_16 b.order 2 bytes in
        options_by b (eqb code 0) (ltb (block_end b) (offset + 4 + padded size)) here size (read_option offset b code size) (λ e. ltb-false (block_end b) (offset + 4 + padded size) e) is
        (λ inside emission. option_by b size (eqb code 9) (eqb size 1) (eqb code 14) (eqb size 8) here inside (eqb-true size 1) (eqb-true size 8) emission)

    unit_leads : (b : Block) → IsInBlock b offset 4 → (u : Option ℕ) → read_unit offset b u ≡ Ok t → Leads l known offset (TimeUnit b) bytes t
    unit_leads b here None is = skip_option_leads (TimeUnit b) b 4 UnknownTimeUnit (past b 4 here) refl (omega arith) few refl is
    unit_leads b here (Some u) is = redescribed_leads (TimeUnit b) b (with_unit u) 4 here refl (omega arith) refl b.interface is

    offset_by : (b : Block) (x : Bool) → IsInBlock b offset 8 → cond x (skipped_option (offset + 8) b NegativeTimeOffset) (redescribed (offset + 8) b b.interface (with_offset (number_64 b.order 0 bytes))) ≡ Ok t → Leads l known offset (TimeOffset b) bytes t
    offset_by b true here is =
        skip_option_leads (TimeOffset b) b 8 NegativeTimeOffset (past b 8 here) refl (omega arith) few refl is
    offset_by b false here is = redescribed_leads (TimeOffset b) b (with_offset (number_64 b.order 0 bytes)) 8 here refl (omega arith) refl b.interface is

    offset_leads : (b : Block) → IsInBlock b offset 8 → blocks.read_time_offset offset b bytes ≡ Ok t → Leads l known offset (TimeOffset b) bytes t
    offset_leads b here is = offset_by b (leb (2 ^ 63) (number_64 b.order 0 bytes)) here is

    -- ---- packets

    packet_leads : (s : Stage) (b : Block) (n : ℕ) (h : PacketHead) → IsInBlock b (offset + n) h.captured → n ≡ wanted s → 2 ≤ n → b.start ≡ began_at offset s → h.captured ≤ l.packet → BeginsAfterHead b.start (offset + n) h → read_packet (offset + n) b h ≡ Ok t → Leads l known offset s bytes t
    packet_leads s b n h here wants some begins small follows is = subst (λ (u : Emission). Leads l known offset s bytes u) (ok_same t _ is) (record {
      near = record { place = (record { block = here; few = small }, tt); known = few };
      offset_is = omega arith;
      pays = omega arith;
      begins = inl begins;
      counts = refl;
      bytes = λ c e. absurd cc;
      head = λ k e.
          let same : h ≡ k = cc in
          (subst (λ (x : PacketHead). BeginsAfterHead b.start (offset + n) x) same follows, ap (λ (x : PacketHead). x.captured) same);
      numbered = λ i e. absurd cc;
    })

    within_by : (s : Stage) (b : Block) (n : ℕ) (h : PacketHead) (x y : Bool) → IsInBlock b offset n → n ≡ wanted s → 2 ≤ n → b.start ≡ began_at offset s → BeginsAfterHead b.start (offset + n) h → (x ≡ false → h.captured ≤ room_of b (offset + n)) → (y ≡ false → h.captured ≤ l.packet)
        → cond x (skipped (offset + n) b PacketBeyondBlock) (cond y (skipped (offset + n) b PacketTooLong) (read_packet (offset + n) b h)) ≡ Ok t → Leads l known offset s bytes t
    within_by s b n h true y here wants some begins follows room small is = skip_leads s b n PacketBeyondBlock (past b n here) wants (omega arith) few begins is
    within_by s b n h false true here wants some begins follows room small is = skip_leads s b n PacketTooLong (past b n here) wants (omega arith) few begins is
    within_by s b n h false false here wants some begins follows room small is =
        let fits = room refl in
        let before = here.before in
        let after = here.after in
        packet_leads s b n h (record { block = here.block; after = omega arith; before = omega arith }) wants some begins (small refl) follows is

    within_leads : (s : Stage) (b : Block) (n : ℕ) (h : PacketHead) → IsInBlock b offset n → n ≡ wanted s → 2 ≤ n → b.start ≡ began_at offset s → BeginsAfterHead b.start (offset + n) h → blocks.read_within l.packet (offset + n) b h ≡ Ok t → Leads l known offset s bytes t
    within_leads s b n h here wants some begins follows is =
        within_by s b n h (ltb (room_of b (offset + n)) h.captured) (ltb l.packet h.captured) here wants some begins follows (λ e. ltb-false (room_of b (offset + n)) h.captured e) (λ e. ltb-false l.packet h.captured e) is

    -- the numbers of a packet in a block
    pub record IsNumbers (s : Stage) (b : Block) : Type 0 where
      pub block : IsInBlock b offset 20
      pub here : offset ≡ b.start + 8
      pub wants : 20 ≡ wanted s
      pub begins : b.start ≡ began_at offset s

    skip_packet : (s : Stage) (b : Block) (why : SkipReason) → IsNumbers s b → skipped (offset + 20) b why ≡ Ok t → Leads l known offset s bytes t
    skip_packet s b why at is =
        skip_leads s b 20 why (past b 20 at.block) at.wants (omega arith) few at.begins is

    timed_leads : (s : Stage) (number : ℕ) (b : Block) (i : KnownInterface) → IsNumbers s b → (o : Option ℕ) → read_timed l.packet number offset b bytes i o ≡ Ok t → Leads l known offset s bytes t
    timed_leads s number b i at None is = skip_packet s b TimeTooLarge at is
    timed_leads s number b i at (Some time) is =
        let first = at.here in
        within_leads s b 20 (blocks.enhanced_of number b.order i time bytes) at.block at.wants (omega arith) at.begins (inr (inl (omega arith))) is

    unit_by : (s : Stage) (number : ℕ) (b : Block) (i : KnownInterface) → IsNumbers s b → (u : Option ℕ) → read_by_unit l.packet number offset b bytes i u ≡ Ok t → Leads l known offset s bytes t
    unit_by s number b i at None is = skip_packet s b UnreadInterface at is
    unit_by s number b i at (Some unit) is = timed_leads s number b i at (time_of unit i.offset (units_of b.order bytes)) is

    enhanced_leads : (s : Stage) (number : ℕ) (b : Block) → IsNumbers s b → (o : Option KnownInterface) → read_enhanced l.packet number offset b bytes o ≡ Ok t → Leads l known offset s bytes t
    enhanced_leads s number b at None is = skip_packet s b UnknownInterface at is
    enhanced_leads s number b at (Some i) is = unit_by s number b i at i.unit is

    simple_leads : (b : Block) (original : ℕ) → IsInBlock b offset 4 → offset ≡ b.start + 8 → (o : Option KnownInterface) → read_simple l.packet offset b original o ≡ Ok t → Leads l known offset (SimpleBody b) bytes t
    simple_leads b original here first None is = skip_leads (SimpleBody b) b 4 UnknownInterface (past b 4 here) refl (omega arith) few refl is
    simple_leads b original here first (Some i) is =
        within_leads (SimpleBody b) b 4 (blocks.simple_of i original (captured_of i original (room_of b (offset + 4)))) here refl (omega arith) refl (inr (inr (omega arith, refl))) is

    content_leads : (b : Block) (n : ℕ) → IsInBlock b offset n → length bytes ≡ n → blocks.read_data (offset + n) offset (passing b (offset + n) (block_end b)) ≡ Ok t → Leads l known offset (BlockData b n) bytes t
    content_leads b n here long is =
        let before = here.before in
        let after = here.after in
        let there : IsInBlock b (offset + n) 0 = record { block = here.block; after = omega arith; before = omega arith } in
        let inside = passing_inside l b (offset + n) (block_end b) there (omega arith) (omega arith) in
        let free = inside.free in
        subst (λ (u : Emission). Leads l known offset (BlockData b n) bytes u) (ok_same t _ is) (record {
          near = record { place = inside.near; known = inside.known known few };
          offset_is = refl;
          pays = omega arith;
          begins = inl inside.begins;
          counts = refl;
          bytes = λ c e. (refl, cc);
          head = λ h e. absurd cc;
          numbered = λ i e. absurd cc;
        })

    pass_leads : (b : Block) (until : ℕ) → IsInBlock b offset 1 → offset < until → until ≤ block_end b → goes_on (offset + 1) (passing b (offset + 1) until) ≡ Ok t → Leads l known offset (Pass b until) bytes t
    pass_leads b until here some inside is =
        let before = here.before in
        let after = here.after in
        let there : IsInBlock b (offset + 1) 0 = record { block = here.block; after = omega arith; before = omega arith } in
        within (Pass b until) b (offset + 1) _ is refl (omega arith) (passing_inside l b (offset + 1) until there (omega arith) inside) few refl

    -- an interface is known from here on, or it is one beyond the limit
    abbrev added : Block → KnownInterface → Emission
    added b i = record {
      at = b.start;
      what = Some (outline.Interface (record { number = length known; link = i.link; snap_length = i.snap_length }));
      place = record { offset = offset + 4; stage = BlockHead b.order };
      change = Add i;
    }

    abbrev too_many : Block → Emission
    too_many b = record {
      at = b.start;
      what = Some (outline.Skipped TooManyInterfaces);
      place = record { offset = offset + 4; stage = BlockHead b.order };
      change = Keep;
    }

    known_by : (b : Block) → IsInBlock b offset 0 → offset ≡ block_end b → (k : KnownInterface) (x : Bool) → (x ≡ true → length known < l.interfaces) → ◌≡◌ {A = Result Emission CaptureRefusal} (cond {A = Result Emission CaptureRefusal} x (Ok (added b k)) (Ok (too_many b))) (Ok t) → Leads l known offset (BlockEnd b) bytes t
    known_by b here end k true fits is =
        let room = fits refl in
        let near = here.block.near in
        let most = here.block.most in
        let more : length (known ++ k ∷ []) ≡ length known + 1 = length-append known (k ∷ []) in
        subst (λ (u : Emission). Leads l known offset (BlockEnd b) bytes u) (ok_same t _ is) (record {
          near = record { place = (omega arith, tt); known = omega arith };
          offset_is = refl;
          pays = omega arith;
          begins = inr (refl, refl);
          counts = more;
          bytes = λ c e. absurd cc;
          head = λ h e. absurd cc;
          numbered = λ i e.
              let same : ◌≡◌ {A = InterfaceHead} (record { number = length known; link = k.link; snap_length = k.snap_length }) i = cc in
              sym (ap (λ (x : InterfaceHead). x.number) same);
        })
    known_by b here end k false fits is =
        let near = here.block.near in
        let most = here.block.most in
        subst (λ (u : Emission). Leads l known offset (BlockEnd b) bytes u) (ok_same t _ is) (record {
          near = record { place = (omega arith, tt); known = few };
          offset_is = refl;
          pays = omega arith;
          begins = inr (refl, refl);
          counts = refl;
          bytes = λ c e. absurd cc;
          head = λ h e. absurd cc;
          numbered = λ i e. absurd cc;
        })

    known_leads : (b : Block) → IsInBlock b offset 0 → offset ≡ block_end b → (o : Option KnownInterface) → read_known l.interfaces known offset b o ≡ Ok t → Leads l known offset (BlockEnd b) bytes t
    known_leads b here end None is =
        let near = here.block.near in
        let most = here.block.most in
        subst (λ (u : Emission). Leads l known offset (BlockEnd b) bytes u) (ok_same t _ is) (record {
          near = record { place = (omega arith, tt); known = few };
          offset_is = refl;
          pays = omega arith;
          begins = inr (refl, refl);
          counts = refl;
          bytes = λ c e. absurd cc;
          head = λ h e. absurd cc;
          numbered = λ i e. absurd cc;
        })
    known_leads b here end (Some k) is = known_by b here end k (ltb (length known) l.interfaces) (ltb-true (length known) l.interfaces) is

    end_leads : (b : Block) → IsInBlock b offset 0 → offset ≡ block_end b → blocks.read_block_end l.interfaces known offset b bytes ≡ Ok t → Leads l known offset (BlockEnd b) bytes t
    end_leads b here end is =
        let a = allowed _ _ _ _ is in
        known_leads b here end b.interface a.1

  pub leads_at : (s : Stage) → IsNear l offset s × ComesAfterHead offset s → IsKnownAt l s known → length bytes ≡ wanted s → read_at l known offset s bytes ≡ Ok t → Leads l known offset s bytes t
  leads_at Magic here few long is =
      let a = not_refused (is_gzip (number_32 BigEndian 0 bytes)) _ _ _ is in
      magic_leads (is_section (number_32 BigEndian 0 bytes)) (form_of (number_32 BigEndian 0 bytes)) here.0 few a.1
  leads_at (FileHead f) here few long is = file_leads f here.0 few is
  leads_at (RecordHead r) here few long is = record_leads r few is
  leads_at (Data r n) here few long is = let near = here.0 in data_leads r n near.0 near.1 few long is
  leads_at (Rest r start left) here few long is = let near = here.0 in rest_leads r start left near.0 near.1 here.1 few is
  leads_at SectionLength here few long is =
      let four = here.0 in
      silent SectionLength 8 (SectionBody (either_length 0 bytes)) is (omega arith) (omega arith) (omega arith, omega arith) few refl refl
  leads_at (SectionBody e) here few long is = section_leads e here.0 here.1 (order_of (number_32 BigEndian 0 bytes)) is
  leads_at (BlockHead o) here few long is = head_leads few o is
  leads_at (InterfaceBody b) here few long is = described_leads few (InterfaceBody b) b _ 8 here.0 refl (omega arith) refl is
  leads_at (OptionHead b) here few long is = option_leads few b here.0 is
  leads_at (TimeUnit b) here few long is = unit_leads few b here.0 (unit_of (slice_index bytes 0)) is
  leads_at (TimeOffset b) here few long is = offset_leads few b here.0 is
  leads_at (EnhancedBody b) here few long is =
      let body = here.0 in
      let number = number_32 b.order 0 bytes in
      enhanced_leads few (EnhancedBody b) number b (record { block = body.block; here = body.here; wants = refl; begins = refl }) (slice_get known number) is
  leads_at (PacketBody b) here few long is =
      let body = here.0 in
      let number = number_16 b.order 0 bytes in
      enhanced_leads few (PacketBody b) number b (record { block = body.block; here = body.here; wants = refl; begins = refl }) (slice_get known number) is
  leads_at (SimpleBody b) here few long is = let body = here.0 in simple_leads few b (number_32 b.order 0 bytes) body.block body.here (slice_get known 0) is
  leads_at (BlockData b n) here few long is = let packet = here.0 in content_leads few b n packet.block long is
  leads_at (Pass b until) here few long is = let pass = here.0 in pass_leads few b until pass.block pass.some pass.inside is
  leads_at (BlockEnd b) here few long is = let end = here.0 in end_leads few b end.block end.here is

pub read_leads : (l : CaptureLimits) → Fits l → (p : Spot) (b : List ℕ) (t : Emission) → IsSpot l p → length b ≡ wanted p.place.stage → read_at l p.known p.place.offset p.place.stage b ≡ Ok t → Leads l p.known p.place.offset p.place.stage b t
read_leads l fits p b t here long is = leads_at l fits p.known p.place.offset b t p.place.stage here.place here.known long is

-- where the bytes of a packet are read next, they are what is emitted
pub data_read : (l : CaptureLimits) (known : List KnownInterface) (offset k : ℕ) (s : Stage) (b : List ℕ) (t : Emission) → IsDataOf s k → length b ≡ wanted s → read_at l known offset s b ≡ Ok t → (event_if t.what b ≡ Some (Bytes b)) × (length b ≡ k) × (t.at ≡ offset)
data_read l known offset k (Data r n) b t next long is =
    let same = ok_same t _ is in
    (sym (ap (λ (u : Emission). event_if u.what b) same), long ∙ next, sym (ap (λ (u : Emission). u.at) same))
data_read l known offset k (BlockData c n) b t next long is =
    let same = ok_same t _ is in
    (sym (ap (λ (u : Emission). event_if u.what b) same), long ∙ next, sym (ap (λ (u : Emission). u.at) same))
data_read l known offset k Magic b t next long is = absurd next
data_read l known offset k (FileHead f) b t next long is = absurd next
data_read l known offset k (RecordHead r) b t next long is = absurd next
data_read l known offset k (Rest r start left) b t next long is = absurd next
data_read l known offset k SectionLength b t next long is = absurd next
data_read l known offset k (SectionBody e) b t next long is = absurd next
data_read l known offset k (BlockHead o) b t next long is = absurd next
data_read l known offset k (InterfaceBody c) b t next long is = absurd next
data_read l known offset k (OptionHead c) b t next long is = absurd next
data_read l known offset k (TimeUnit c) b t next long is = absurd next
data_read l known offset k (TimeOffset c) b t next long is = absurd next
data_read l known offset k (EnhancedBody c) b t next long is = absurd next
data_read l known offset k (PacketBody c) b t next long is = absurd next
data_read l known offset k (SimpleBody c) b t next long is = absurd next
data_read l known offset k (Pass c until) b t next long is = absurd next
data_read l known offset k (BlockEnd c) b t next long is = absurd next
