-- What it does to a stream that a table of types is given or taken back.
use Rattle.std.specs.Prelude.{◌≡◌, ℕ, Bool, true, not, ◌&&◌, List, [], ◌∷◌, length, is_some, nat_lt, Option, Some, None}
use Rattle.std.specs.Prelude.{if◌then◌else◌}
use Rattle.cqlp_note.specs.declared.refusal.Refusal.{Refusal}
use Rattle.cqlp_kind.specs.declared.node.Node.{Node}
use Rattle.cqlp_kind.specs.Types.{types_of}
use Rattle.cqlp_type.specs.Forests.{depth_of}
use Rattle.cqlp_type.specs.Table.{Table}
use Rattle.cqlp_decode.specs.declared.given.GiveReason.{GiveReason}
use Rattle.cqlp_decode.specs.declared.given.GiveReason.TheVariants.{Ended, Off, Busy, Open, TooMany, TooDeep}
use Rattle.cqlp_decode.specs.Reading.{Event, Given, Nothing, Waiting, Gift, TakesBack, Gifts, is_in_use, with_gift}
use Rattle.cqlp_decode.specs.Progress.{StreamState}
use Rattle.cqlp_decode.specs.Streams.{AfterGifts}

-- the types of the metadata begun last, in a table with as much room as the limits allow types
abbrev pub last_types : StreamState → Table
last_types d = record { nodes = d.place.nodes; room = d.rules.entries }

-- no type of these nodes is under way
abbrev pub are_whole : List Node → Bool
are_whole [] = true
are_whole (x ∷ xs) = nat_lt 0 x.span && are_whole xs

-- the first reason that holds
abbrev pub first_reason : List (Bool × GiveReason) → Option GiveReason
first_reason [] = None
first_reason (x ∷ xs) = if x.0 then Some x.1 else first_reason xs

-- Why a table of these nodes is not taken, if so.
abbrev pub reason_against : StreamState → List Node → Option GiveReason
reason_against d nodes = first_reason (
    (is_some d.refusal, Ended)
    ∷ (not d.rules.types, Off)
    ∷ (is_in_use d.place.given, Busy)
    ∷ (not (are_whole nodes), Open)
    ∷ (nat_lt d.rules.entries (length nodes), TooMany)
    ∷ (nat_lt d.rules.depth (depth_of (types_of nodes)), TooDeep)
    ∷ []
    )

-- the stream with this table, or none, held, for this use
abbrev pub with_given : StreamState → Option Table → Given → StreamState
with_given d table given = record d { given = table; place = record d.place { given = given } }

-- the stream once a table was taken
abbrev pub once_given : StreamState → Table → StreamState
once_given d table = with_given d (Some table) (Waiting (types_of table.nodes))

-- the stream once what is held was taken back
abbrev pub once_taken : StreamState → StreamState
once_taken d = with_given d None Nothing

-- the table that is held, if it is not in use
abbrev pub free_table : StreamState → Option Table
free_table d = if is_in_use d.place.given then None else d.given

-- the gifts with the taking back of a table, if there is one, after n events
abbrev pub with_taking : Option Table → (n : ℕ) → Gifts → Gifts
with_taking None n gifts = gifts
with_taking (Some table) n gifts = with_gift n TakesBack gifts

-- what a stream is that gave back this
abbrev pub after_taking : Option Table → StreamState → StreamState
after_taking None d = d
after_taking (Some table) d = once_taken d

-- After any calls that led to the one, one more gift leads to the other.
abbrev pub GivesAlso : Gift → (old new : StreamState) → Type 0
GivesAlso x old new =
    (gifts : Gifts) (s : List ℕ) (es : List (ℕ × Event)) → AfterGifts gifts old s es
    → AfterGifts (with_gift (length es) x gifts) new s es

-- the same of what was taken back, if anything was
abbrev pub TakesAlso : Option Table → (old new : StreamState) → Type 0
TakesAlso table old new =
    (gifts : Gifts) (s : List ℕ) (es : List (ℕ × Event)) → AfterGifts gifts old s es
    → AfterGifts (with_taking table (length es) gifts) new s es

-- after a refusal all that is held is given back
abbrev pub GivesBack : Option Table → StreamState → Type 0
GivesBack table d =
    (r : Refusal) (gifts : Gifts) (s : List ℕ) (es : List (ℕ × Event))
    → d.refusal ≡ Some r → AfterGifts gifts d s es → table ≡ d.given
