-- Steps that say no event, whose bytes lie whole in the input, where none had come before.
use Rattle.std.proofs.Common.{◌≡◌, ℕ, ◌+◌, ◌^◌, ◌%◌, ◌≤◌, true, false, List, [], ◌++◌, length, take, refl, sym, ap, ◌∙◌, arith}
use Rattle.std.specs.Prelude.{Option, None, ◌==◌, ◌&&◌, nat_lt, nat_le}
use Rattle.std.proofs.lemmas.Bool.{le-ltb, le-leb, leb-true, eq-eqb, and_parts}
use Rattle.cqlp_capture.specs.declared.block.Block.{Block}
use Rattle.cqlp_capture.specs.declared.block.BlockKind.TheVariants.{EnhancedPacket}
use Rattle.cqlp_capture.specs.declared.file.ByteOrder.{ByteOrder}
use Rattle.cqlp_capture.specs.declared.gathered.BytesPlace.TheVariants.{InInput}
use Rattle.cqlp_capture.specs.declared.interfaces.KnownInterface.{KnownInterface}
use Rattle.cqlp_capture.specs.declared.limits.CaptureLimits.{CaptureLimits}
use Rattle.cqlp_capture.specs.declared.place.Place.{Place}
use Rattle.cqlp_capture.specs.declared.place.Stage.{Stage}
use Rattle.cqlp_capture.specs.declared.place.Stage.TheVariants.{BlockEnd, BlockHead, EnhancedBody}
use Rattle.cqlp_capture.specs.declared.reader.StepTaken.TheVariants as taken
use Rattle.cqlp_capture.specs.declared.refusal.CaptureRefusal.{CaptureRefusal}
use Rattle.cqlp_capture.specs.Blocks.{block_at, read_block_of, read_known}
use Rattle.cqlp_capture.specs.Emission.{goes_on}
use Rattle.cqlp_capture.specs.Gathering.{Gathered, Finds, begun}
use Rattle.cqlp_capture.specs.Interfaces.{Interfaces}
use Rattle.cqlp_capture.specs.Numbers.{is_block_length, number_32}
use Rattle.cqlp_capture.specs.Reading.{read_at, wanted}
use Rattle.cqlp_capture.specs.Progress.{IsLawful, TakesStep, progress}
use Rattle.cqlp_capture.proofs.Advancing.{read_passes}

-- an enhanced packet's block that is long enough
enhanced_is_read : (b : Block) → is_block_length 32 b.length ≡ true → read_block_of EnhancedPacket b ≡ goes_on (b.start + 8) (EnhancedBody b)
enhanced_is_read b is =
    let both : (((b.length % 4 == 0) && nat_le 32 b.length) ≡ true) × (nat_lt b.length (2 ^ 32) ≡ true) = and_parts _ _ is in
    let first : ((b.length % 4 == 0) ≡ true) × (nat_le 32 b.length ≡ true) = and_parts _ _ both.0 in
    let least : 32 ≤ b.length = leb-true 32 b.length first.1 in
    let fours : (b.length % 4 == 0) ≡ true = first.0 in
    let most : nat_lt b.length (2 ^ 32) ≡ true = both.1 in
    let lawful : nat_le 12 b.length ≡ true = le-leb 12 b.length (omega (arith, least)) in
    let enough : nat_lt b.length 32 ≡ false = le-ltb _ _ least in
    rw (fours, lawful, most, enough) refl

module _ (l : CaptureLimits) (p : Place) (t : Interfaces) (g : Gathered) (input : List ℕ) (lawful : IsLawful l p t g) (none : g.pending ≡ []) where
  found : (n : ℕ) → wanted p.stage ≡ n → n ≤ length input → Finds g (wanted p.stage) input (record { used = n; lies = InInput n }) (begun [] g.room)
  found n count within =
      let empty : length g.pending ≡ 0 = ap length none in
      record {
        count = omega (arith, count, empty);
        within = within;
        there = within;
        is = ap (λ (x : List ℕ). x ++ take n input) (sym none);
        none = refl;
        room = refl;
        lent = λ _. refl;
        kept = λ some. absurd (omega (arith, empty, some));
      }

  silent : (n : ℕ) → wanted p.stage ≡ n → n ≤ length input → (offset : ℕ) (s : Stage) → read_at l t.known p.offset p.stage (take n input) ≡ goes_on offset s → (o : Option CaptureRefusal) → o ≡ None → TakesStep (progress l p t g o) input (taken.Passed n) (progress l (record { offset = offset; stage = s }) t (begun [] g.room) o)
  silent n count within offset s is o unrefused = read_passes l p t g (begun [] g.room) input (take n input) (record { used = n; lies = InInput n }) lawful (found n count within) refl _ is o unrefused refl

  -- the head of an enhanced packet's block
  pub head_passes : (o : ByteOrder) → p.stage ≡ BlockHead o → 8 ≤ length input → p.offset ≤ 2 ^ 63 → number_32 o 0 (take 8 input) ≡ 6 → is_block_length 32 (number_32 o 4 (take 8 input)) ≡ true
      → (x : Option CaptureRefusal) → x ≡ None → TakesStep (progress l p t g x) input (taken.Passed 8) (progress l (record { offset = p.offset + 8; stage = EnhancedBody (block_at p.offset o (take 8 input)) }) t (begun [] g.room) x)
  head_passes o here within near typed long =
      let far : nat_lt (2 ^ 63) p.offset ≡ false = le-ltb _ _ near in
      let is : read_at l t.known p.offset (BlockHead o) (take 8 input) ≡ goes_on (p.offset + 8) (EnhancedBody (block_at p.offset o (take 8 input))) = rw (far, typed) (enhanced_is_read (block_at p.offset o (take 8 input)) long) in
      silent 8 (ap wanted here) within _ _ (ap (λ (s : Stage). read_at l t.known p.offset s (take 8 input)) here ∙ is)

  -- the end of a block in which no interface was read
  pub end_passes : (b : Block) → p.stage ≡ BlockEnd b → 4 ≤ length input → b.interface ≡ None → number_32 b.order 0 (take 4 input) ≡ b.length
      → (x : Option CaptureRefusal) → x ≡ None → TakesStep (progress l p t g x) input (taken.Passed 4) (progress l (record { offset = p.offset + 4; stage = BlockHead b.order }) t (begun [] g.room) x)
  end_passes b here within plain same =
      let equal : (number_32 b.order 0 (take 4 input) == b.length) ≡ true = eq-eqb _ _ same in
      let is : read_at l t.known p.offset (BlockEnd b) (take 4 input) ≡ goes_on (p.offset + 4) (BlockHead b.order) = rw equal (ap (λ (i : Option KnownInterface). read_known l.interfaces t.known p.offset b i) plain) in
      silent 4 (ap wanted here) within _ _ (ap (λ (s : Stage). read_at l t.known p.offset s (take 4 input)) here ∙ is)
