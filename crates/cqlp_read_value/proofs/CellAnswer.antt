-- One answer meets the clause of `read_cell`.
use Rattle.std.proofs.Common.{◌≡◌, ◌≢◌, ℕ, zero, suc, ◌+◌, Bool, true, false, cond, ltb, List, [], length, take, drop, refl, sym, ap, ◌∙◌, arith}
use Rattle.std.specs.Prelude.{Option, Some, None, Result, Ok, Err}
use Rattle.std.specs.Int.{w32, from_be_bytes}
use Rattle.std.specs.Borrow.{Bor}
use Rattle.cqlp_note.specs.declared.refusal.Reason.{Reason}
use Rattle.cqlp_note.specs.Field.{is_negative}
use Rattle.cqlp_note.specs.Limits.{Rules}
use Rattle.cqlp_note.specs.Reader.{More, Bad, Got, Said, says, number_of}
use Rattle.cqlp_note.specs.Step.{Emitted, Step}
use Rattle.cqlp_kind.specs.declared.kind.Kind.{Kind}
use Rattle.cqlp_kind.specs.declared.kind.Kind.TheVariants as kind
use Rattle.cqlp_kind.specs.declared.scalars.Scalar.{Scalar}
use Rattle.cqlp_kind.specs.Types.{NoMore, has_no_items}
use Rattle.cqlp_kind.specs.Contents.{value_of}
use Rattle.cqlp_kind.specs.Scalars.{ScalarValue}
use Rattle.cqlp_kind.specs.CellStep.{CellEvent, CellPlace, content_step, counted_step}
use Rattle.cqlp_kind.specs.CellStep as event
use Rattle.cqlp_read_value.specs.declared.cell.PageCell.{PageCell}
use Rattle.cqlp_read_value.specs.declared.cell.CellContent.{CellContent}
use Rattle.cqlp_read_value.specs.declared.cell.CellContent.TheVariants as content
use Rattle.cqlp_read_value.specs.Cells.{AreSameCells, IsCell, Lies, LiesWithin, OneAnswerOfReadCell, cell_says}
use Rattle.cqlp_read_value.specs.Fronts.{value_at}

abbrev CellSaid : Type 0
CellSaid = Said (Emitted CellEvent CellPlace) (ℕ × Reason)

-- ---- what kind of answer it is

abbrev of_event : CellEvent → ℕ
of_event (event.Null level) = 0
of_event (event.Empty level) = 1
of_event (event.Leaf level v) = 2
of_event e = 3

abbrev of_offset : ℕ → ℕ
of_offset zero = 4
of_offset (suc n) = 3

abbrev sort_of : CellSaid → ℕ
sort_of More = 3
sort_of (Bad fault) = of_offset fault.0
sort_of (Got x used) = of_event x.event

abbrev used_of : CellSaid → ℕ
used_of (Got x used) = used
used_of s = 0

abbrev leaf_of : CellEvent → Option ScalarValue
leaf_of (event.Leaf level v) = Some v
leaf_of e = None

abbrev scalar_of : CellSaid → Option ScalarValue
scalar_of (Got x used) = leaf_of x.event
scalar_of s = None

abbrev reason_of : CellSaid → Option Reason
reason_of (Bad fault) = Some fault.1
reason_of s = None

module _ (taken : ℕ) (bytes : List ℕ) where
  either_sort : (b : Bool) (x y : Step CellEvent CellPlace) → sort_of (says x taken bytes) ≡ 3 → sort_of (says y taken bytes) ≡ 3 → sort_of (says (cond b x y) taken bytes) ≡ 3
  either_sort true x y p q = p
  either_sort false x y p q = q

more_sort : (b : Bool) (d : CellSaid) → sort_of d ≡ 3 → sort_of (cond b More d) ≡ 3
more_sort true d h = refl
more_sort false d h = h

abbrev start : Kind → List ℕ → CellPlace
start k b = value_at 0 k NoMore b 0 []

module _ (l : Rules) (b : List ℕ) where
  counted_sort : (j k : Kind) (n : ℕ) → sort_of (says (counted_step (start j b) [] 0 k NoMore n) 4 (drop 4 b)) ≡ 3
  unfolding number_of
  counted_sort j k n =
      let c = from_be_bytes w32 (take 4 (drop 4 b)) in
      either_sort 4 (drop 4 b) (ltb n 4) _ _ refl (more_sort (ltb (length (drop 4 b)) 4) _ (either_sort (4 + 4) (drop 4 (drop 4 b)) (is_negative c) _ _ refl refl))

  items_sort : (k : Kind) (n : ℕ) → has_no_items k ≡ false → sort_of (says (content_step l (start k b) [] 0 k NoMore n) 4 (drop 4 b)) ≡ 3
  items_sort kind.List n e = counted_sort kind.List kind.List n
  items_sort kind.Set n e = counted_sort kind.Set kind.Set n
  items_sort kind.Map n e = counted_sort kind.Map kind.Map n
  items_sort kind.Udt n e = refl
  items_sort kind.Tuple n e = refl
  items_sort k n e = absurd cc

-- ---- of two answers

abbrev sort_in : CellContent → ℕ
sort_in content.Null = 0
sort_in content.Empty = 1
sort_in (content.Scalar s) = 2
sort_in (content.Items c) = 3

abbrev sort_among : Result PageCell Reason → ℕ
sort_among (Ok c) = sort_in c.content
sort_among (Err why) = 4

module _ (l : Rules) (k : Kind) (b : List ℕ) where
  abbrev emitted : Result PageCell Reason → CellSaid
  emitted r = cell_says l k NoMore b (start k b) 0 [] r

  content_sort : (used : ℕ) (c : CellContent) → Lies k b used c → sort_of (emitted (Ok (record { used = used; content = c }))) ≡ sort_in c
  content_sort used content.Null h = refl
  content_sort used content.Empty h = refl
  content_sort used (content.Scalar s) h = refl
  content_sort used (content.Items c) h = items_sort l b k (length c.now) h.0

  said_sort : (r : Result PageCell Reason) → LiesWithin k b r → sort_of (emitted r) ≡ sort_among r
  said_sort (Ok c) h = content_sort c.used c.content h.1
  said_sort (Err why) h = refl

  both : (r s : Result PageCell Reason) → IsCell l k b r → IsCell l k b s → emitted r ≡ emitted s
  both r s a c = sym (a.1 NoMore 0 0 []) ∙ c.1 NoMore 0 0 []

  same_sort : (r s : Result PageCell Reason) → IsCell l k b r → IsCell l k b s → sort_among r ≡ sort_among s
  same_sort r s a c = sym (said_sort r a.0) ∙ ap sort_of (both r s a c) ∙ said_sort s c.0

  same_items : (c d : Bor (List ℕ)) (u w : ℕ) → Lies k b u (content.Items c) → Lies k b w (content.Items d) → (u ≡ w) × (c.now ≡ d.now)
  same_items c d u w a e =
      let long : length c.now ≡ length d.now = sym a.3.is ∙ e.3.is in
      (a.2 ∙ ap (λ (n : ℕ). 4 + n) long ∙ sym e.2, a.4 ∙ ap (λ (n : ℕ). take n (drop 4 b)) long ∙ sym e.4)

  same_scalar : (s t : Scalar) (u w : ℕ) → emitted (Ok (record { used = u; content = content.Scalar s })) ≡ emitted (Ok (record { used = w; content = content.Scalar t })) → value_of s ≡ value_of t
  same_scalar s t u w e = let some : ◌≡◌ {A = Option ScalarValue} (Some (value_of s)) (Some (value_of t)) = ap scalar_of e in cc

  same_contents : (u w : ℕ) (x y : CellContent) → sort_in x ≡ sort_in y → Lies k b u x → Lies k b w y → emitted (Ok (record { used = u; content = x })) ≡ emitted (Ok (record { used = w; content = y }))
      → AreSameCells (Ok (record { used = u; content = x })) (Ok (record { used = w; content = y }))
  same_contents u w content.Null content.Null h a c e = (ap used_of e, tt)
  same_contents u w content.Null content.Empty h a c e = absurd cc
  same_contents u w content.Null (content.Scalar t) h a c e = absurd cc
  same_contents u w content.Null (content.Items d) h a c e = absurd cc
  same_contents u w content.Empty content.Null h a c e = absurd cc
  same_contents u w content.Empty content.Empty h a c e = (ap used_of e, tt)
  same_contents u w content.Empty (content.Scalar t) h a c e = absurd cc
  same_contents u w content.Empty (content.Items d) h a c e = absurd cc
  same_contents u w (content.Scalar s) content.Null h a c e = absurd cc
  same_contents u w (content.Scalar s) content.Empty h a c e = absurd cc
  same_contents u w (content.Scalar s) (content.Scalar t) h a c e = (ap used_of e, same_scalar s t u w e)
  same_contents u w (content.Scalar s) (content.Items d) h a c e = absurd cc
  same_contents u w (content.Items d) content.Null h a c e = absurd cc
  same_contents u w (content.Items d) content.Empty h a c e = absurd cc
  same_contents u w (content.Items d) (content.Scalar t) h a c e = absurd cc
  same_contents u w (content.Items c) (content.Items d) h a x e = same_items c d u w a x

  never_refused : (c : CellContent) → sort_in c ≢ 4
  never_refused content.Null e = absurd cc
  never_refused content.Empty e = absurd cc
  never_refused (content.Scalar s) e = absurd cc
  never_refused (content.Items c) e = absurd cc

  same_reason : (why other : Reason) → emitted (Err why) ≡ emitted (Err other) → why ≡ other
  same_reason why other e = let some : ◌≡◌ {A = Option Reason} (Some why) (Some other) = ap reason_of e in cc

  same_cells : (r s : Result PageCell Reason) → IsCell l k b r → IsCell l k b s → AreSameCells r s
  same_cells (Ok c) (Ok d) a e = same_contents c.used d.used c.content d.content (same_sort (Ok c) (Ok d) a e) a.0.1 e.0.1 (both (Ok c) (Ok d) a e)
  same_cells (Ok c) (Err why) a e = absurd (never_refused c.content (same_sort (Ok c) (Err why) a e))
  same_cells (Err why) (Ok d) a e = absurd (never_refused d.content (sym (same_sort (Err why) (Ok d) a e)))
  same_cells (Err why) (Err other) a e = same_reason why other (both (Err why) (Err other) a e)

pub one_cell : OneAnswerOfReadCell
one_cell l k b r s a c = same_cells l k b r s a c
