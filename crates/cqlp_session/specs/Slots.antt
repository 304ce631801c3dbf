-- What is under each stream id (section 2.3 of native_protocol_v4.spec): a list with a slot for each id.
use Rattle.std.specs.Prelude.{◌≡◌, ◌<ℤ◌, ℕ, ◌≤◌, IsTrue, IsSome, ℤ, pos, negsuc, Bool, false, nat_lt, List, length, Option, Some}
use Rattle.std.specs.Prelude.{None, slice_index_or, slice_set, is_none, is_some, position, ◌<◌, ◌↔◌, ◌⊎◌, Result, IfOk, IsErrOf}
use Rattle.cqlp_session.specs.declared.refusal.SlotsOrMemory.{SlotsOrMemory}
use Rattle.cqlp_session.specs.declared.refusal.SlotsOrMemory.TheVariants.{BadSlots}

-- an id's place
abbrev pub index_of : ℤ → Option ℕ
index_of (pos i) = Some i
index_of (negsuc i) = None

-- it is one of these slots' ids
abbrev pub has_slot : {A : Type 0} → List (Option A) → ℤ → Bool
has_slot slots (pos i) = nat_lt i (length slots)
has_slot slots (negsuc i) = false

-- what is under an id: nothing under a negative one, and past the last
abbrev pub under : {A : Type 0} → List (Option A) → ℤ → Option A
under slots (pos i) = slice_index_or slots i None
under slots (negsuc i) = None

-- something is under an id
abbrev pub is_open : {A : Type 0} → List (Option A) → ℤ → Bool
is_open slots id = is_some (under slots id)

-- the slots with this under an id
abbrev pub put : {A : Type 0} → List (Option A) → ℤ → Option A → List (Option A)
put slots (pos i) what = slice_set slots i what
put slots (negsuc i) what = slots

-- the least id that is free
abbrev pub least_free : {A : Type 0} → List (Option A) → Option ℕ
least_free slots = position is_none slots

-- an id is free, and each one below it is taken
pub record IsLeastFree {A : Type 0} (slots : List (Option A)) (id : ℤ) : Type 0 where
  pub has : IsTrue (has_slot slots id)
  pub free : under slots id ≡ None
  pub least : (i : ℕ) → pos i <ℤ id → IsSome (under slots (pos i))

-- a core may have this many slots
abbrev pub IsSlotCount : ℕ → Type 0
IsSlotCount n = (1 ≤ n) × (n ≤ 32768)

-- What comes of making a core with this many slots: BadSlots exactly outside 1 to 32,768; else this core, or no memory.
pub record Makes {C : Type 0} (slots : ℕ) (core : C) (made : Result C SlotsOrMemory) : Type 0 where
  pub bad_slots : IsErrOf made BadSlots ↔ ((slots ≡ 0) ⊎ (32768 < slots))
  pub new : IfOk made (λ c. c ≡ core)
