-- The input and the two outputs of a command.
use Rattle.std.specs.Prelude.{◌≡◌, ℕ, List, Option, Some, IsSome}
use Rattle.cqlp_note.specs.declared.streams.Source as source
use Rattle.cqlp_note.specs.declared.streams.Target as target
use Rattle.cqlp_text.specs.Outputs.{Output, written}

-- the bytes that a reader has left, where they are known, how often it failed, how often it was called, and how many bytes
-- of room the calls had
pub record Input : Type 0 where
  pub left : Option (List ℕ)
  pub failures : ℕ
  pub reads : ℕ
  pub asked : ℕ

abbrev pub unread : {R : Type 0} → source.Ghosts R → R → Input
unread members reader =
    record {
      left = members.left reader;
      failures = members.failures reader;
      reads = members.reads reader;
      asked = members.asked reader;
    }

-- What holds of the bytes that a reader has left, where they are known, and it is known what a target was given.
abbrev pub IfKnown : Input → Output → (List ℕ → Type 0) → Type 0
IfKnown input out holds = (xs : List ℕ) → input.left ≡ Some xs → IsSome out.given → holds xs

pub record Streams : Type 0 where
  pub input : Input
  pub out : Output
  pub err : Output

module _ {I O E : Type 0} (i : source.Ghosts I) (o : target.Ghosts O) (e : target.Ghosts E) where
  abbrev pub streams : I → O → E → Streams
  streams input out err = record { input = unread i input; out = written o out; err = written e err }
