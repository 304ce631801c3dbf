-- What bytes say of a cell in a smaller room, they say in a larger one, whatever follows them.
use Rattle.std.proofs.Common.{◌≡◌, ℕ, ◌+◌, ◌≤◌, ◌==◌, List, ◌++◌, length, take, drop, refl, inl, inr, arith}
use Rattle.std.specs.Int.{from_be_bytes, w32}
use Rattle.std.proofs.lemmas.Bool.{cases_Bool, cases_lt, lt-ltb, le-ltb}
use Rattle.std.proofs.lemmas.List.{length-append, take-append-le, drop-append-le, take-append-drop}
use Rattle.cqlp_note.specs.Reader.{Reader, Said, More, Bad, Got, Gives, Refuses, Takes, Idles, fits, number_of, says}
use Rattle.cqlp_note.specs.Field.{is_negative}
use Rattle.cqlp_note.specs.Step.{Emitted}
use Rattle.cqlp_note.specs.Limits.{Rules}
use Rattle.cqlp_note.specs.declared.refusal.Reason.TheVariants.{Overrun}
use Rattle.cqlp_kind.specs.declared.kind.Kind.{Kind}
use Rattle.cqlp_kind.specs.Types.{Types}
use Rattle.cqlp_kind.specs.CellStep.{CellEvent, CellPlace, CellSymbol, content_step, sized_step, value_step}
use Rattle.cqlp_decode.specs.Reading.{Event}
use Rattle.cqlp_decode.specs.Cells.{SaysCell, HandsCell}

bad_or_got : {A F : Type 0} (f : F) (v : A) (k : ℕ) → ◌≡◌ {A = Said A F} (Bad f) (Got v k) → ⊥
bad_or_got f v k e = absurd cc

more_or_got : {A F : Type 0} (v : A) (k : ℕ) → ◌≡◌ {A = Said A F} More (Got v k) → ⊥
more_or_got v k e = absurd cc

-- ---- whatever follows

pub says_on : {A F : Type 0} (r : Reader A F) (taken : ℕ) (b c : List ℕ) (v : A) (k : ℕ) → says r taken b ≡ Got v k → says r taken (b ++ c) ≡ Got v k
says_on (Gives w) taken b c v k g = g
says_on (Refuses why) taken b c v k g = absurd cc
says_on Idles taken b c v k g = absurd cc
says_on (Takes n next) taken b c v k g = elim (cases_lt (length b) n) [
  | inl lt ↦ absurd (more_or_got v k (rw (lt-ltb _ _ lt) at g))
  | inr le ↦
      let long : n ≤ length (b ++ c) = omega (arith, le, length-append b c) in
      rw (le-ltb _ _ long, take-append-le n b c le, drop-append-le n b c le) (says_on (next (take n b)) (taken + n) (drop n b) c v k (rw (le-ltb _ _ le) at g))
]

-- ---- in a larger room

fits_on : {A F : Type 0} (fault : F) (small room n : ℕ) (next : Reader A F) (taken : ℕ) (b : List ℕ) (v : A) (k : ℕ) → small ≤ room → says (fits fault small n next) taken b ≡ Got v k → says (fits fault room n next) taken b ≡ Got v k
fits_on fault small room n next taken b v k le g = elim (cases_lt small n) [
  | inl lt ↦ absurd (bad_or_got fault v k (rw (lt-ltb _ _ lt) at g))
  | inr fit ↦ rw (le-ltb room n (omega arith)) (rw (le-ltb small n fit) at g)
]

module _ (l : Rules) (p : CellPlace) (rest : List CellSymbol) (k : Kind) (inner : Types) (level small room : ℕ) (le : small ≤ room) (v : Emitted CellEvent CellPlace) (used : ℕ) where
  sized_on : (n taken : ℕ) (b : List ℕ) → says (sized_step l p rest k inner level small n) taken b ≡ Got v used → says (sized_step l p rest k inner level room n) taken b ≡ Got v used
  sized_on n taken b g = elim (cases_Bool (is_negative n)) [
    | inl below ↦ rw below (rw below at g)
    | inr above ↦ elim (cases_Bool (n == 0)) [
      | inl none ↦ rw (above, none) (rw (above, none) at g)
      | inr full ↦ rw (above, full) (fits_on (p.offset, Overrun) small room (4 + n) (content_step l p rest level k inner n) taken b v used le (rw (above, full) at g))
    ]
  ]

  pub value_on : (b : List ℕ) → says (value_step l p rest k inner level small) 0 b ≡ Got v used → says (value_step l p rest k inner level room) 0 b ≡ Got v used
  unfolding number_of
  value_on b g = elim (cases_lt small 4) [
    | inl lt ↦ absurd (bad_or_got (p.offset, Overrun) v used (rw (lt-ltb _ _ lt) at g))
    | inr fit ↦ elim (cases_lt (length b) 4) [
      | inl short ↦ absurd (more_or_got v used (rw (le-ltb small 4 fit, lt-ltb _ _ short) at g))
      | inr long ↦ rw (le-ltb room 4 (omega arith), le-ltb _ _ long) (sized_on (from_be_bytes w32 (take 4 b)) 4 (drop 4 b) (rw (le-ltb small 4 fit, le-ltb _ _ long) at g))
    ]
  ]

module _ (l : Rules) (k : Kind) (b c : List ℕ) (room : ℕ) (le : length b ≤ room) where
  pub cell_on : (used : ℕ) (e : CellEvent) → SaysCell l k (length b) b used e → SaysCell l k room (b ++ c) used e
  cell_on used e h = record {
    is = λ p rest inner.
        let x = value_on l p rest k inner 0 (length b) room le _ used b (h.is p rest inner) in
        says_on (value_step l p rest k inner 0 room) 0 b c _ used x;
    within = omega (arith, h.within, length-append b c);
    inside = omega (arith, h.inside);
    some = h.some;
  }

  pub hands_on : (row column used : ℕ) (Holds : Event → Type 0) → HandsCell l k (length b) b row column used Holds → HandsCell l k room (b ++ c) row column used Holds
  hands_on row column used Holds h = record { event = h.event; says = cell_on used h.event h.says; holds = h.holds }

-- ---- of an input that is cut to a room

-- the bytes after those that are used, and what is beyond the room
pub front_is : (room used : ℕ) (input : List ℕ) → used ≤ length (take room input) → drop used (take room input) ++ drop room input ≡ drop used input
front_is room used input le = rw (← (drop-append-le used (take room input) (drop room input) le), take-append-drop room input) refl
