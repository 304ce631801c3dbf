-- What a value is by its length.
use Rattle.std.specs.Prelude.{◌≡◌, ℕ, ◌+◌, ◌^◌, ◌<◌, ◌≤◌, Bool, true, false, List, []}
use Rattle.cqlp_note.specs.Reader.{Refuses, Takes}
use Rattle.cqlp_note.specs.Step.{Step, Emit}
use Rattle.cqlp_note.specs.Limits.{Rules}
use Rattle.cqlp_kind.specs.declared.kind.Kind.{Kind}
use Rattle.cqlp_kind.specs.declared.kind.Kind.TheVariants as kind
use Rattle.cqlp_kind.specs.Types.{Types, has_no_items}
use Rattle.cqlp_cell.specs.declared.size.Sized.{Sized}
use Rattle.cqlp_cell.specs.declared.size.Sized.TheVariants as size
use Rattle.cqlp_kind.specs.Scalars.{size_or_lenient, scalar_or_lenient}
use Rattle.cqlp_kind.specs.CellStep.{CellSymbol, CellEvent, Null, Empty, CellPlace, place_after, leaf_step, part_step, counted_step}
use Rattle.cqlp_kind.specs.CellStep.{fielded_step, content_step, sized_step}

abbrev pub is_counted : Kind → Bool
is_counted kind.List = true
is_counted kind.Set = true
is_counted kind.Map = true
is_counted _ = false

-- how the step goes on after the length
abbrev pub sized_as : Rules → CellPlace → List CellSymbol → Kind → Types → (level : ℕ) → Sized
    → Step CellEvent CellPlace
sized_as l p rest k inner level size.Null = Emit p.offset (Null level) (place_after p rest [])
sized_as l p rest k inner level size.Empty = Emit p.offset (Empty level) (place_after p rest [])
sized_as l p rest k inner level (size.Scalar n) = Takes n (λ c. leaf_step p rest level k (scalar_or_lenient l.lenient k c))
sized_as l p rest k inner level (size.Parts n) = part_step l p rest level 4 0 n
sized_as l p rest k inner level (size.Counted n) = counted_step p rest level k inner n
sized_as l p rest k inner level (size.Fields n) = fielded_step p rest level k inner n
sized_as l p rest k inner level (size.Refused why) = Refuses (p.offset, why)

-- such a value can be of this kind and of n bytes
abbrev pub CanBe : Rules → Kind → (n : ℕ) → Sized → Type 0
CanBe l k n (size.Scalar m) = (m ≡ n) × (n ≤ l.cell) × (has_no_items k ≡ true) × (size_or_lenient l.lenient k n ≡ true)
CanBe l k n (size.Parts m) = (m ≡ n) × (l.cell < n) × (l.parts ≡ true) × (has_no_items k ≡ true)
CanBe l k n (size.Counted m) = (m ≡ n) × (is_counted k ≡ true)
CanBe l k n (size.Fields m) = (m ≡ n) × (is_counted k ≡ false) × (has_no_items k ≡ false)
CanBe l k n s = Unit {0}

-- what a value of n bytes is, after its length
pub record IsContent (l : Rules) (k : Kind) (n : ℕ) (s : Sized) : Type 0 where
  pub is : (p : CellPlace) (rest : List CellSymbol) (inner : Types) (level : ℕ)
      → content_step l p rest level k inner n ≡ sized_as l p rest k inner level s
  pub can : CanBe l k n s

-- a value that has bytes has room for them, and a length that is not negative
abbrev pub HasRoom : (room n : ℕ) → Sized → Type 0
HasRoom room n size.Null = Unit {0}
HasRoom room n size.Empty = Unit {0}
HasRoom room n (size.Refused why) = Unit {0}
HasRoom room n s = (4 + n ≤ room) × (n < 2 ^ 31)

-- what a value is by its length, the number n, in a container with this much room
pub record IsSized (l : Rules) (k : Kind) (room n : ℕ) (s : Sized) : Type 0 where
  pub is : (p : CellPlace) (rest : List CellSymbol) (inner : Types) (level : ℕ)
      → sized_step l p rest k inner level room n ≡ sized_as l p rest k inner level s
  pub can : CanBe l k n s
  pub fits : HasRoom room n s
