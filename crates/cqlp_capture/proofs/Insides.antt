-- Stages within a block.
use Rattle.std.proofs.Common.{◌≡◌, ℕ, ◌+◌, ◌≤◌, ◌<◌, ltb, leb, eqb, Bool, true, false, cond, List, length, refl, subst, arith}
use Rattle.std.proofs.lemmas.Bool.{leb-true, ltb-true, ltb-false, eqb-true, eqb-false}
use Rattle.cqlp_capture.specs.declared.block.Block.{Block}
use Rattle.cqlp_capture.specs.declared.interfaces.KnownInterface.{KnownInterface}
use Rattle.cqlp_capture.specs.declared.limits.CaptureLimits.{CaptureLimits}
use Rattle.cqlp_capture.specs.declared.place.Stage.{Stage}
use Rattle.cqlp_capture.specs.declared.place.Stage.TheVariants.{OptionHead, Pass, BlockEnd}
use Rattle.cqlp_capture.specs.Blocks.{IsInBlock, at_option, block_end, describing, passing}
use Rattle.cqlp_capture.specs.Places.{IsNear, IsKnownAt, ComesAfterHead, began_at, due}

-- a stage in this block, in which no step is owed
pub record Inside (l : CaptureLimits) (b : Block) (offset : ℕ) (s : Stage) : Type 0 where
  pub near : IsNear l offset s × ComesAfterHead offset s
  pub known : (known : List KnownInterface) → length known ≤ l.interfaces → IsKnownAt l s known
  pub begins : began_at offset s ≡ b.start
  pub free : due s ≡ 0

module _ (l : CaptureLimits) (b : Block) where
  option_by : (o : ℕ) (x y : Bool) → IsInBlock b o 0 → (x ≡ true → o + 4 ≤ block_end b) → (y ≡ true → o < block_end b) → (y ≡ false → block_end b ≤ o) → Inside l b o (cond x (OptionHead b) (cond y (Pass b (block_end b)) (BlockEnd b)))
  option_by o true y here fits some none =
      let far = fits refl in
      record {
        near = (record { block = here.block; after = here.after; before = far }, tt);
        known = λ known few. few;
        begins = refl;
        free = refl;
      }
  option_by o false true here fits some none =
      let more = some refl in
      record {
        near = (record { block = record { block = here.block; after = here.after; before = omega arith }; some = more; inside = omega arith }, tt);
        known = λ known few. few;
        begins = refl;
        free = refl;
      }
  option_by o false false here fits some none =
      let end = none refl in
      let before = here.before in
      record {
        near = (record { block = here; here = omega arith }, tt);
        known = λ known few. few;
        begins = refl;
        free = refl;
      }

  pub option_inside : (o : ℕ) → IsInBlock b o 0 → Inside l b o (at_option b o)
  option_inside o here = option_by o (leb (o + 4) (block_end b)) (ltb o (block_end b)) here (leb-true _ _) (ltb-true _ _) (ltb-false _ _)

  passing_by : (o until : ℕ) (x : Bool) → IsInBlock b o 0 → o ≤ until → until ≤ block_end b → (x ≡ true → o ≡ until) → (x ≡ false → o ≡ until → ⊥) → Inside l b o (cond x (at_option b until) (Pass b until))
  passing_by o until true here le within same other =
      let is : o ≡ until = same refl in
      subst (λ (k : ℕ). Inside l b o (at_option b k)) is (option_inside o here)
  passing_by o until false here le within same other =
      let apart : o ≡ until → ⊥ = other refl in
      let some : o < until = omega arith in
      record {
        near = (record { block = record { block = here.block; after = here.after; before = omega arith }; some = some; inside = within }, tt);
        known = λ known few. few;
        begins = refl;
        free = refl;
      }

  pub passing_inside : (o until : ℕ) → IsInBlock b o 0 → o ≤ until → until ≤ block_end b → Inside l b o (passing b o until)
  passing_inside o until here le within = passing_by o until (eqb o until) here le within (eqb-true _ _) (eqb-false _ _)

-- what is known of an interface changes nothing of where its block lies
pub described_inside : (b : Block) (i : KnownInterface) (o n : ℕ) → IsInBlock b o n → IsInBlock (describing b i) o n
described_inside b i o n here =
    record { block = record { near = here.block.near; least = here.block.least; most = here.block.most }; after = here.after; before = here.before }
