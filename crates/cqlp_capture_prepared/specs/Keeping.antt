-- What is known of the statements of a connection, and which EXECUTEs wait for their responses.
use Rattle.std.specs.Prelude.{ℕ, ℤ, List, length, nat_le, Option, Some, None, option_and_then, if◌then◌else◌}
use Rattle.std.specs.Ordering.{int_eq}
use Rattle.std.specs.Option.{option_map_or}
use Rattle.std.specs.Str.{bytes_eq}
use Rattle.std.specs.Map.{lookup}
use Rattle.cqlp_kind.specs.declared.node.Node.{Node}
use Rattle.cqlp_capture_prepared.specs.Latest.{Latest, none_yet, put, used, without}

-- An id is known up to 64 bytes.
abbrev pub short_enough : List ℕ → Option (List ℕ)
short_enough id = if nat_le (length id) 64 then Some id else None

-- the statements that were prepared by their ids, and those that EXECUTEs name which wait, by their stream ids
pub record Keeping : Type 0 where
  pub known : Latest (List ℕ) (List Node)
  pub awaited : Latest ℤ (List ℕ)

abbrev pub keeping : Latest (List ℕ) (List Node) → Latest ℤ (List ℕ) → Keeping
keeping known awaited = record { known = known; awaited = awaited }

abbrev pub new_keeping : (statements executes : ℕ) → Keeping
new_keeping statements executes = keeping (none_yet statements) (none_yet executes)

-- A PREPARED response gives a statement its id and its types (section 4.2.5.4).
abbrev pub prepared : (id : List ℕ) → List Node → Keeping → Keeping
prepared id types p = option_map_or (λ i. keeping (put bytes_eq i types p.known) p.awaited) (short_enough id) p

-- A response, or a request of another kind: no EXECUTE waits under its stream id any more.
abbrev pub answered : (stream : ℤ) → Keeping → Keeping
answered stream p = keeping p.known (without (int_eq stream) p.awaited)

-- An EXECUTE names a statement, which is used by that (section 4.1.6).
abbrev pub executed : (stream : ℤ) (id : List ℕ) → Keeping → Keeping
executed stream id p =
    option_map_or (λ i. keeping (used (bytes_eq i) p.known) (put int_eq stream i p.awaited)) (short_enough id) (answered stream p)

-- A statement is used, if it is known.
abbrev pub noted : (id : List ℕ) → Keeping → Keeping
noted id p = keeping (used (bytes_eq id) p.known) p.awaited

-- the statement that the EXECUTE names which waits under a stream id
abbrev pub named_under : (stream : ℤ) → Keeping → Option (List ℕ)
named_under stream p = lookup (int_eq stream) p.awaited.entries

abbrev pub types_of : (id : List ℕ) → Keeping → Option (List Node)
types_of id p = lookup (bytes_eq id) p.known.entries

-- the types of a page that answers it
abbrev pub types_for : (stream : ℤ) → Keeping → Option (List Node)
types_for stream p = option_and_then (λ id. types_of id p) (named_under stream p)
