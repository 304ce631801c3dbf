-- What a value is by its length.
use Rattle.std.proofs.Common.{◌≡◌, ℕ, ◌+◌, ◌-◌, ◌^◌, ◌<◌, ◌≤◌, Bool, true, false, ◌&&◌, ◌≢◌, List, refl, ◌∙◌, arith, lt-ltb, le-ltb}
use Rattle.std.proofs.lemmas.Bool.{ne_eqb}
use Rattle.cqlp_note.specs.declared.refusal.Reason.TheVariants.{Overrun, TooLong, BadSize}
use Rattle.cqlp_note.specs.Limits.{Rules}
use Rattle.cqlp_kind.specs.declared.kind.Kind.{Kind}
use Rattle.cqlp_kind.specs.declared.kind.Kind.TheVariants as kind
use Rattle.cqlp_kind.specs.Types.{Types, has_no_items}
use Rattle.cqlp_cell.specs.declared.size.Sized.{Sized}
use Rattle.cqlp_cell.specs.declared.size.Sized.TheVariants as size
use Rattle.cqlp_kind.specs.Scalars.{size_or_lenient}
use Rattle.cqlp_kind.specs.CellStep.{CellSymbol, CellPlace, is_opaque, content_step, scalar_step}
use Rattle.cqlp_cell.specs.Sizes.{is_counted, sized_as, IsContent, HasRoom, IsSized}

-- a scalar's content is read by its kind alone
pub scalar_content_is : (l : Rules) (p : CellPlace) (rest : List CellSymbol) (level : ℕ) (k : Kind) (inner : Types) (n : ℕ) → has_no_items k ≡ true → content_step l p rest level k inner n ≡ scalar_step l p rest level k n
scalar_content_is l p rest level kind.List inner n t = absurd cc
scalar_content_is l p rest level kind.Set inner n t = absurd cc
scalar_content_is l p rest level kind.Map inner n t = absurd cc
scalar_content_is l p rest level kind.Udt inner n t = absurd cc
scalar_content_is l p rest level kind.Tuple inner n t = absurd cc
scalar_content_is l p rest level k inner n t = refl

counted_content_is : (l : Rules) (p : CellPlace) (rest : List CellSymbol) (level : ℕ) (k : Kind) (inner : Types) (n : ℕ) → is_counted k ≡ true → content_step l p rest level k inner n ≡ sized_as l p rest k inner level (size.Counted n)
counted_content_is l p rest level kind.List inner n t = refl
counted_content_is l p rest level kind.Set inner n t = refl
counted_content_is l p rest level kind.Map inner n t = refl
counted_content_is l p rest level k inner n t = absurd cc

module _ (l : Rules) (n : ℕ) where
  pub counted_content : (k : Kind) → is_counted k ≡ true → IsContent l k n (size.Counted n)
  counted_content k t = record { is = λ p rest inner level. counted_content_is l p rest level k inner n t; can = (refl, t) }

  pub udt_content : IsContent l kind.Udt n (size.Fields n)
  udt_content = record { is = λ p rest inner level. refl; can = (refl, refl, refl) }

  pub tuple_content : IsContent l kind.Tuple n (size.Fields n)
  tuple_content = record { is = λ p rest inner level. refl; can = (refl, refl, refl) }

module _ (l : Rules) (k : Kind) (n : ℕ) (scalar : has_no_items k ≡ true) where
  pub bad_size : size_or_lenient l.lenient k n ≡ false → IsContent l k n (size.Refused BadSize)
  bad_size t = record { is = λ p rest inner level. scalar_content_is l p rest level k inner n scalar ∙ rw t refl; can = tt }

  and_false : (a b : Bool) → (a && b && false) ≡ false
  and_false true true = refl
  and_false true false = refl
  and_false false b = refl

  pub short_is : l.part ≡ l.cell → size_or_lenient l.lenient k n ≡ true → n ≤ l.cell → IsContent l k n (size.Scalar n)
  short_is e t le = record {
    is = λ p rest inner level. scalar_content_is l p rest level k inner n scalar ∙ rw (t, e, le-ltb l.cell n le, and_false l.parts (is_opaque k)) refl;
    can = (refl, le, scalar, t);
  }

  pub long_is : l.part ≡ l.cell → size_or_lenient l.lenient k n ≡ true → l.cell < n → l.parts ≡ true → is_opaque k ≡ true → IsContent l k n (size.Parts n)
  long_is e t lt parts opaque = record {
    is = λ p rest inner level. scalar_content_is l p rest level k inner n scalar ∙ rw (t, e, lt-ltb l.cell n lt, parts, opaque) refl;
    can = (refl, lt, parts, scalar);
  }

  pub too_long : size_or_lenient l.lenient k n ≡ true → l.cell < n → (l.parts && is_opaque k) ≡ false → IsContent l k n (size.Refused TooLong)
  too_long t lt whole = record {
    is = λ p rest inner level. scalar_content_is l p rest level k inner n scalar ∙ rw (t, whole, lt-ltb l.cell n lt) refl;
    can = tt;
  }

module _ (l : Rules) (k : Kind) (room n : ℕ) where
  pub null_is : 2 ^ 31 ≤ n → IsSized l k room n size.Null
  null_is le = record { is = λ p rest inner level. rw (lt-ltb (2 ^ 31 - 1) n (omega arith)) refl; can = tt; fits = tt }

  pub empty_is : n ≡ 0 → IsSized l k room n size.Empty
  empty_is e = record { is = λ p rest inner level. rw e refl; can = tt; fits = tt }

  pub overrun_is : n < 2 ^ 31 → n ≢ 0 → room < 4 + n → IsSized l k room n (size.Refused Overrun)
  overrun_is lt some short = record {
    is = λ p rest inner level. rw (le-ltb (2 ^ 31 - 1) n (omega arith), ne_eqb n 0 some, lt-ltb room (4 + n) short) refl;
    can = tt;
    fits = tt;
  }

  has_room : (s : Sized) → (4 + n ≤ room) × (n < 2 ^ 31) → HasRoom room n s
  has_room size.Null le = tt
  has_room size.Empty le = tt
  has_room (size.Refused why) le = tt
  has_room (size.Scalar m) le = le
  has_room (size.Parts m) le = le
  has_room (size.Counted m) le = le
  has_room (size.Fields m) le = le

  pub fitting_is : (s : Sized) → n < 2 ^ 31 → n ≢ 0 → 4 + n ≤ room → IsContent l k n s → IsSized l k room n s
  fitting_is s lt some enough h = record {
    is = λ p rest inner level. rw (le-ltb (2 ^ 31 - 1) n (omega arith), ne_eqb n 0 some, le-ltb room (4 + n) enough) (h.is p rest inner level);
    can = h.can;
    fits = has_room s (enough, lt);
  }
