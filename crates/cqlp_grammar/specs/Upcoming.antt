-- What is still to be read of a message, as it is kept.
use Rattle.std.specs.Prelude.{◌≡◌, ℕ, ◌+◌, ◌<◌, ◌≤◌, ◌++◌, ◌-◌, List, [], ◌∷◌, drop, length, slice_index_or, Option, Some, None}
use Rattle.std.specs.Prelude.{max, ⊤}
use Rattle.cqlp_grammar.specs.declared.grammar.Group.{Group}
use Rattle.cqlp_grammar.specs.declared.grammar.Group.TheVariants as group_of
use Rattle.cqlp_grammar.specs.declared.grammar.Role.{Role}
use Rattle.cqlp_grammar.specs.declared.grammar.Role.TheVariants as role
use Rattle.cqlp_grammar.specs.Productions.{Symbol, In, In_type, copies, group, following, number_in}
use Rattle.cqlp_kind.specs.Types.{Types}
use Rattle.cqlp_kind.specs.TypeStep.{Option_at}
use Rattle.cqlp_note.specs.Field.{FieldValue}
use Rattle.cqlp_note.specs.Head.{fixed_of}
use Rattle.cqlp_grammar.specs.declared.productions.Expected.{Expected}
use Rattle.cqlp_grammar.specs.declared.productions.Expected.TheVariants as due
use Rattle.cqlp_grammar.specs.declared.upcoming.Slot.{Slot}
use Rattle.cqlp_grammar.specs.declared.upcoming.Slot.TheVariants.{One, Many}

abbrev pub wanted : Expected → Symbol
wanted (due.Field w) = In w.field w.notation w.role
wanted due.Option = In_type (Option_at 1 ∷ [])

abbrev pub wants : List Expected → List Symbol
wants [] = []
wants (w ∷ ws) = wanted w ∷ wants ws

abbrev pub symbols_of : Slot → List Symbol
symbols_of (One w) = wanted w ∷ []
symbols_of (Many g n) = copies n (group g)

-- the last slot is read first
abbrev pub symbols_in : List Slot → List Symbol
symbols_in [] = []
symbols_in (s ∷ ss) = symbols_in ss ++ symbols_of s

-- a field that has some bytes of its own
abbrev pub IsRead : Expected → Type 0
IsRead (due.Field w) = 0 < fixed_of w.notation
IsRead due.Option = ⊤

abbrev pub AreRead : List Expected → Type 0
AreRead [] = ⊤
AreRead (w ∷ ws) = IsRead w × AreRead ws

-- ---- room

-- the slots that the fields of one group, once it is opened, can come to take
abbrev pub opened : Group → ℕ
opened group_of.Warnings = 0
opened group_of.PayloadItems = 1
opened group_of.StringPairs = 1
opened group_of.OptionLists = 1
opened group_of.OptionValues = 0
opened group_of.EventTypes = 0
opened (group_of.QueryValues named) = 1
opened group_of.BatchValues = 0
opened group_of.BatchEntries = 2
opened group_of.Arguments = 0
opened group_of.KeyIndexes = 0
opened (group_of.Columns one_table) = 3

-- the slots that what follows a field of this role can come to take
abbrev pub room_after : Role → ℕ
room_after role.Alone = 0
room_after (role.Counts g) = opened g + 1
room_after role.QueryFlags = 6
room_after role.EntryKind = 2
room_after role.BatchFlags = 2
room_after role.ErrorCode = 6
room_after role.ResultKind = 5
room_after role.ChangeTarget = 3
room_after role.EventType = 3
room_after (role.MetaFlags rows) = 5
room_after (role.MetaColumns rows flags) = 5
room_after role.PreparedFlags = 5
room_after (role.PreparedColumns flags) = 5
room_after (role.PreparedKeys flags columns) = 5
room_after (role.PageRows flags columns) = 0

abbrev pub room_after_due : Expected → ℕ
room_after_due (due.Field w) = room_after w.role
room_after_due due.Option = 0

-- the slots that a slot can come to take
abbrev pub need : Slot → ℕ
need (One w) = max 1 (room_after_due w)
need (Many g n) = opened g + 1

-- the slots that these fields, the first of them on top, can come to take
abbrev pub room_for : List Expected → ℕ
room_for [] = 0
room_for (w ∷ ws) = max (room_for ws) (length ws + max 1 (room_after_due w))

-- beside the other fields, what follows the first takes no more slots than these
abbrev pub FirstFits : List Expected → (most : ℕ) → Type 0
FirstFits ws most = (d : Expected) → (length ws - 1) + room_after_due (slice_index_or ws 0 d) ≤ most

-- no slot represents nothing
abbrev pub IsSlot : Slot → Type 0
IsSlot (One w) = IsRead w
IsSlot (Many g n) = 0 < n

-- the slots from number k on never come to take more than there are
abbrev pub Fits : ℕ → List Slot → Type 0
Fits k [] = ⊤
Fits k (s ∷ ss) = IsSlot s × (k + need s ≤ 16) × Fits (k + 1) ss

-- ---- steps

abbrev pub Popped : List Slot → Option Slot → List Slot → Type 0
Popped old None new = (old ≡ []) × (new ≡ [])
Popped old (Some s) new = (old ≡ new ++ s ∷ []) × (length new + need s ≤ 16) × IsSlot s

-- what follows a field of this role and number comes before all else
abbrev pub PutsFollowing : Role → (number : ℕ) → List Slot → List Slot → Type 0
PutsFollowing r number old new =
    (types : Types) (v : FieldValue) → number_in v ≡ number → symbols_in new ≡ following types r v ++ symbols_in old

-- these symbols begin with this one
abbrev pub IsFirst : Symbol → List Symbol → Type 0
IsFirst s symbols = symbols ≡ s ∷ drop 1 symbols

-- what is due next
abbrev pub IsDue : List Slot → Option Expected → Type 0
IsDue slots None = slots ≡ []
IsDue slots (Some w) = IsFirst (wanted w) (symbols_in slots) × IsRead w

-- the next field, and room for what follows it
abbrev pub Pops : List Slot → Option Expected → List Slot → Type 0
Pops old None new = (symbols_in old ≡ []) × (new ≡ [])
Pops old (Some w) new = (symbols_in old ≡ wanted w ∷ symbols_in new) × (length new + room_after_due w ≤ 16) × IsRead w
