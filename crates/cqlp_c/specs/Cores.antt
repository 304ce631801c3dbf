-- How a core is made that C holds, of a client or of a server.
use Rattle.std.specs.Prelude.{◌≡◌, ℕ, nat_lt, Bool, true, false, ◌&&◌, Option, Some, None, ◌⊎◌}
use Rattle.cqlp_c.specs.declared.numbers.TheConstants as numbers

-- a core may have this many slots (section 2.3 of native_protocol_v4.spec)
abbrev pub is_slot_count : ℕ → Bool
is_slot_count n = nat_lt 0 n && nat_lt n 32769

-- A core is made where memory is there and the number of slots is in its range; else the code says what is not so, and
-- the handle stays empty.
abbrev pub StartsAnew : {C : Type 0} → (fresh : ℕ → C) → (slots : ℕ) → Bool → (code : ℕ) → (new : Option C) → Type 0
StartsAnew fresh slots false code new = (code ≡ numbers.BAD_SLOTS) × (new ≡ None)
StartsAnew fresh slots true code new =
    ((code ≡ numbers.NO_MEMORY) × (new ≡ None)) ⊎ ((code ≡ numbers.DONE) × (new ≡ Some (fresh slots)))

-- What making a core makes of a handle: one in use is refused, and stays as it is.
abbrev pub Starts : {C : Type 0} → (fresh : ℕ → C) → (slots : ℕ) → (old : Option C) → (code : ℕ) → (new : Option C) → Type 0
Starts fresh slots None code new = StartsAnew fresh slots (is_slot_count slots) code new
Starts fresh slots (Some c) code new = (code ≡ numbers.IN_USE) × (new ≡ Some c)
