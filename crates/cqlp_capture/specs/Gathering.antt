-- Bytes out of pieces.
use Rattle.std.specs.Prelude.{◌≡◌, ℕ, ◌+◌, ◌<◌, ◌≤◌, ◌++◌, Bool, if◌then◌else◌, List, [], length, take, Option, Some, None, ⊤}
use Rattle.cqlp_capture.specs.declared.gathered.BytesPlace.{BytesPlace}
use Rattle.cqlp_capture.specs.declared.gathered.BytesPlace.TheVariants.{InInput, Held}
use Rattle.cqlp_capture.specs.declared.gathered.FoundBytes.{FoundBytes}

-- the bytes so far of those that are wanted, the bytes that are held, and the greatest number of them that there can be
pub record Gathered : Type 0 where
  pub pending : List ℕ
  pub held : List ℕ
  pub room : ℕ

-- once they are found the bytes stay, until others are wanted
abbrev pub gathered : (held : List ℕ) → (found : Bool) → (room : ℕ) → Gathered
gathered held found room = record { pending = if found then [] else held; held = held; room = room }

-- these bytes have come
abbrev pub begun : List ℕ → (room : ℕ) → Gathered
begun bytes room = record { pending = bytes; held = bytes; room = room }

-- the bytes that lie there
abbrev pub bytes_at : BytesPlace → (input held : List ℕ) → List ℕ
bytes_at (InInput n) input held = take n input
bytes_at Held input held = held

abbrev pub LieThere : BytesPlace → (input : List ℕ) → Type 0
LieThere (InInput n) input = n ≤ length input
LieThere Held input = ⊤

-- The bytes before and the first of the input are as many as were wanted. Where none came before, none are held; else all
-- of them are.
pub record Finds (old : Gathered) (wanted : ℕ) (input : List ℕ) (f : FoundBytes) (new : Gathered) : Type 0 where
  pub count : length old.pending + f.used ≡ wanted
  pub within : f.used ≤ length input
  pub there : LieThere f.lies input
  pub is : bytes_at f.lies input new.held ≡ old.pending ++ take f.used input
  pub none : new.pending ≡ []
  pub room : new.room ≡ old.room
  pub lent : old.pending ≡ [] → new.held ≡ []
  pub kept : 0 < length old.pending → new.held ≡ old.pending ++ take f.used input

-- What was wanted is there, or all of the input is held too.
abbrev pub Gathers : Gathered → (wanted : ℕ) → (input : List ℕ) → Option FoundBytes → Gathered → Type 0
Gathers old wanted input None new =
    (length old.pending + length input < wanted) × (new ≡ begun (old.pending ++ input) old.room)
Gathers old wanted input (Some f) new = Finds old wanted input f new
