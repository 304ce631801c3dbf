-- Given types come into use for pages without metadata alone.
use Rattle.std.proofs.Common.{◌≡◌, ℕ, zero, suc, ◌+◌, ◌-◌, ◌^◌, Bool, true, false, eqb, ltb, cond, bytes_eq, List, [], ◌∷◌, ◌++◌, length, drop, Option, Some, None, Ok, Err, refl, ap, subst, arith}
use Rattle.std.specs.Prelude.{All}
use Rattle.std.proofs.lemmas.List.Elements.{All-head, All-tail, All-take}
use Rattle.std.proofs.lemmas.List.{take_at}
use Rattle.cqlp_note.specs.declared.field.Field.{Field}
use Rattle.cqlp_note.specs.declared.field.Field.TheVariants as field
use Rattle.cqlp_note.specs.declared.field.Notation.TheVariants as notation
use Rattle.cqlp_note.specs.declared.opcode.Opcode.{Opcode}
use Rattle.cqlp_note.specs.declared.opcode.Opcode.TheVariants as opcode
use Rattle.cqlp_note.specs.declared.header.Header.{Header}
use Rattle.cqlp_note.specs.declared.refusal.Reason.{Reason}
use Rattle.cqlp_note.specs.Field.{FieldValue, field_of}
use Rattle.cqlp_note.specs.Heading.{Heading, heading, has, beside_number}
use Rattle.cqlp_note.specs.Limits.{Rules, limit_of}
use Rattle.cqlp_note.specs.Step.{Emitted, map_step}
use Rattle.cqlp_note.proofs.Readers.{Always}
use Rattle.cqlp_note.proofs.Fields.{either_always}
use Rattle.cqlp_kind.specs.Types.{Types, NoMore, Type_and}
use Rattle.cqlp_kind.specs.TypeStep.{TypeSymbol, type_step}
use Rattle.cqlp_kind.specs.CellStep.{CellSymbol, Value_of, cell_step}
use Rattle.cqlp_grammar.specs.declared.grammar.Group.{Group}
use Rattle.cqlp_grammar.specs.declared.grammar.Group.TheVariants as group_of
use Rattle.cqlp_grammar.specs.declared.grammar.Role.{Role}
use Rattle.cqlp_grammar.specs.declared.grammar.Role.TheVariants as role
use Rattle.cqlp_grammar.specs.Productions.{Symbol, Stream, In, In_type, Cell_due, In_cell, Extra, plain, counted, copies, where_set, group, body, announced, message, query_parts, errors, results, by_text, targets, events, specs, table_name, row_from, rows_from, or_nothing, number_in, text_in, following, fault_in}
use Rattle.cqlp_decode.specs.Reading.{Event, Holds, Place, Given, Nothing, Waiting, Gives as GivesTypes, TakesBack, Gift, start_with, settled, held_after_all, gifts_now, serves_after, is_in_use, types_for, type_event, cell_event, types_left, cells_left, place_of_types, place_of_cells, header_step, value_step, step_at, step, Reads}
use Rattle.cqlp_decode.proofs.Always.{after_always, map_always, yields_always}
use Rattle.cqlp_laws.specs.Untyped.{BringsMetadata, GivenTypesAreForPagesWithoutMetadata}
use Rattle.cqlp_laws.proofs.EventCounts.{always_then}
use Rattle.cqlp_laws.proofs.RunsBack.{taken, runs_split}
use Rattle.cqlp_laws.proofs.PlainRuns.{always_any, closed_due, retired_free}

-- ---- what is due

abbrev is_meta_flags : Field → Bool
is_meta_flags field.MetaFlags = true
is_meta_flags f = false

-- Flags of metadata are a field of that name, and those that are known have not the flag No_metadata: how many symbols are
-- not so.
abbrev symbol_odd : Symbol → ℕ
symbol_odd (In f n (role.MetaFlags rows)) = cond (is_meta_flags f) 0 1
symbol_odd (In f n (role.MetaColumns rows flags)) = cond (has flags 0x04) 1 0
symbol_odd (In f n (role.PageRows flags columns)) = cond (has flags 0x04) 1 0
symbol_odd s = 0

abbrev odd : List Symbol → ℕ
odd [] = 0
odd (s ∷ rest) = symbol_odd s + odd rest

odd-append : (xs ys : List Symbol) → odd (xs ++ ys) ≡ odd xs + odd ys
odd-append [] ys = omega arith
odd-append (x ∷ xs) ys = omega (arith, odd-append xs ys)

-- ---- productions

abbrev IsFair : List Symbol → Type 0
IsFair ss = odd ss ≡ 0

both_fair : (xs ys : List Symbol) → IsFair xs → IsFair ys → IsFair (xs ++ ys)
both_fair xs ys a b = omega (arith, odd-append xs ys, a, b)

either_fair : (t : Bool) (xs ys : List Symbol) → IsFair xs → IsFair ys → IsFair (cond t xs ys)
either_fair true xs ys a b = a
either_fair false xs ys a b = b

where_fair : (flags bit : ℕ) (ss : List Symbol) → IsFair ss → IsFair (where_set flags bit ss)
where_fair flags bit ss fair = either_fair (has flags bit) ss [] fair refl

copies_fair : (n : ℕ) (ss : List Symbol) → IsFair ss → IsFair (copies n ss)
copies_fair zero ss fair = refl
copies_fair (suc n) ss fair = both_fair ss (copies n ss) fair (copies_fair n ss fair)

abbrev AllFair : List (ℕ × List Symbol) → Type 0
AllFair [] = Unit {0}
AllFair (entry ∷ table) = IsFair entry.1 × AllFair table

entry_fair : (n : ℕ) (entry : ℕ × List Symbol) (table : List (ℕ × List Symbol)) (t : Bool) → AllFair (entry ∷ table) → IsFair (or_nothing (beside_number n table)) → IsFair (or_nothing (cond t (Some entry.1) (beside_number n table)))
entry_fair n entry table true fair later = fair.0
entry_fair n entry table false fair later = later

table_fair : (n : ℕ) (table : List (ℕ × List Symbol)) → AllFair table → IsFair (or_nothing (beside_number n table))
table_fair n [] fair = refl
table_fair n (entry ∷ table) fair = entry_fair n entry table (eqb n entry.0) fair (table_fair n table fair.1)

abbrev AllTextsFair : List (List ℕ × List Symbol) → Type 0
AllTextsFair [] = Unit {0}
AllTextsFair (entry ∷ table) = IsFair entry.1 × AllTextsFair table

texts_fair : (text : List ℕ) (table : List (List ℕ × List Symbol)) → AllTextsFair table → IsFair (by_text text table)
texts_fair text [] fair = refl
texts_fair text (entry ∷ table) fair = either_fair (bytes_eq text entry.0) entry.1 (by_text text table) fair.0 (texts_fair text table fair.1)

group_fair : (g : Group) → IsFair (group g)
group_fair group_of.Warnings = refl
group_fair group_of.PayloadItems = refl
group_fair group_of.StringPairs = refl
group_fair group_of.OptionLists = refl
group_fair group_of.OptionValues = refl
group_fair group_of.EventTypes = refl
group_fair (group_of.QueryValues true) = refl
group_fair (group_of.QueryValues false) = refl
group_fair group_of.BatchValues = refl
group_fair group_of.BatchEntries = refl
group_fair group_of.Arguments = refl
group_fair group_of.KeyIndexes = refl
group_fair (group_of.Columns true) = refl
group_fair (group_of.Columns false) = refl

body_fair : (o : Opcode) → IsFair (body o)
body_fair opcode.Error = refl
body_fair opcode.Startup = refl
body_fair opcode.Ready = refl
body_fair opcode.Authenticate = refl
body_fair opcode.Options = refl
body_fair opcode.Supported = refl
body_fair opcode.Query = refl
body_fair opcode.Result = refl
body_fair opcode.Prepare = refl
body_fair opcode.Execute = refl
body_fair opcode.Register = refl
body_fair opcode.Event = refl
body_fair opcode.Batch = refl
body_fair opcode.AuthChallenge = refl
body_fair opcode.AuthResponse = refl
body_fair opcode.AuthSuccess = refl

announced_fair : (h : Header) → IsFair (announced h)
announced_fair h =
    both_fair _ _
    (either_fair h.response _ [] (both_fair _ _ (where_fair h.flags 0x02 _ refl) (where_fair h.flags 0x08 _ refl)) refl)
    (where_fair h.flags 0x04 _ refl)

message_fair : (h : Header) → IsFair (message h)
message_fair h = both_fair (announced h ++ body h.opcode) (Extra ∷ []) (both_fair (announced h) (body h.opcode) (announced_fair h) (body_fair h.opcode)) refl

specs_fair : (flags columns : ℕ) → IsFair (specs flags columns)
specs_fair flags columns = both_fair _ _ (where_fair flags 0x01 table_name refl) (copies_fair columns _ (group_fair (group_of.Columns (has flags 0x01))))

row_fair : (row column : ℕ) (ts : Types) → IsFair (row_from row column ts)
row_fair row column NoMore = refl
row_fair row column (Type_and k inner others) = omega (arith, row_fair row (column + 1) others)

rows_fair : (row : ℕ) (ts : Types) (n : ℕ) → IsFair (rows_from row ts n)
rows_fair row ts zero = refl
rows_fair row ts (suc n) = both_fair _ _ (row_fair row 0 ts) (rows_fair (row + 1) ts n)

query_fair : (flags : ℕ) → IsFair (query_parts flags)
query_fair flags =
    both_fair _ _ (both_fair _ _ (both_fair _ _ (both_fair _ _
    (where_fair flags 0x01 (counted field.Values (group_of.QueryValues (has flags 0x40)) ∷ []) refl)
    (where_fair flags 0x04 (plain field.PageSize notation.Int ∷ []) refl))
    (where_fair flags 0x08 (plain field.PagingState notation.Bytes32 ∷ []) refl))
    (where_fair flags 0x10 (plain field.SerialConsistency notation.Short ∷ []) refl))
    (where_fair flags 0x20 (plain field.Timestamp notation.Long ∷ []) refl)

-- What a field of this role says of metadata is that it comes.
abbrev Brings : Role → FieldValue → Type 0
Brings (role.MetaFlags rows) v = has (number_in v) 0x04 ≡ false
Brings (role.MetaColumns rows flags) v = has flags 0x04 ≡ false
Brings r v = Unit {0}

following_fair : (ts : Types) (r : Role) (v : FieldValue) → Brings r v → IsFair (following ts r v)
following_fair ts role.Alone v b = refl
following_fair ts (role.Counts g) v b = copies_fair (number_in v) (group g) (group_fair g)
following_fair ts role.QueryFlags v b = query_fair (number_in v)
following_fair ts role.EntryKind v b = both_fair _ _ (either_fair (eqb (number_in v) 0) _ _ refl refl) refl
following_fair ts role.BatchFlags v b = both_fair _ _ (where_fair (number_in v) 0x10 _ refl) (where_fair (number_in v) 0x20 _ refl)
following_fair ts role.ErrorCode v b = omega (arith, table_fair (number_in v) errors (refl, (refl, (refl, (refl, (refl, (refl, (refl, (refl, tt)))))))))
following_fair ts role.ResultKind v b = table_fair (number_in v) results (refl, (refl, (refl, (refl, tt))))
following_fair ts role.ChangeTarget v b = texts_fair (text_in v) targets (refl, (refl, (refl, (refl, (refl, tt)))))
following_fair ts role.EventType v b = texts_fair (text_in v) events (refl, (refl, (refl, tt)))
following_fair ts (role.MetaFlags rows) v b = rw b refl
following_fair ts (role.MetaColumns rows flags) v b =
    both_fair _ _ (both_fair _ _ (where_fair flags 0x02 _ refl) (either_fair (has flags 0x04) [] _ refl (specs_fair flags (number_in v))))
    (either_fair rows (In field.Rows notation.Count32 (role.PageRows flags (number_in v)) ∷ []) [] (rw b refl) refl)
following_fair ts role.PreparedFlags v b = refl
following_fair ts (role.PreparedColumns flags) v b = refl
following_fair ts (role.PreparedKeys flags columns) v b =
    both_fair _ _ (both_fair _ _ (copies_fair (number_in v) _ refl) (specs_fair flags columns)) refl
following_fair ts (role.PageRows flags columns) v b = rows_fair 0 ts (number_in v)

-- ---- steps

not_set : (t : Bool) → ◌≡◌ {A = ℕ} (cond t 1 0) 0 → t ≡ false
not_set true is = absurd (omega (arith, is))
not_set false is = refl

named : (f : Field) → ◌≡◌ {A = ℕ} (cond (is_meta_flags f) 0 1) 0 → f ≡ field.MetaFlags
named field.MetaFlags is = refl
named f is = absurd (omega (arith, is))

brings : (at : ℕ) (f : Field) (r : Role) (v : FieldValue) → symbol_odd (In f notation.Int r) ≡ 0 → BringsMetadata (at, Holds f v) → Brings r v
brings at f (role.MetaFlags rows) v fair b = b v (ap (λ (g : Field). Holds g v) (named f fair))
brings at f (role.MetaColumns rows flags) v fair b = not_set (has flags 0x04) fair
brings at f r v fair b = tt

serves_none : (f : Field) (r : Role) (g : Given) → symbol_odd (In f notation.Int r) ≡ 0 → serves_after r g ≡ false
serves_none f (role.PageRows flags columns) (Waiting ts) fair = rw (not_set (has flags 0x04) fair) refl
serves_none f (role.PageRows flags columns) g fair = refl
serves_none f r g fair = refl

-- no given types are in use, nor will they be of what is known of metadata
abbrev IsUntyped : Place → Type 0
IsUntyped p = (is_in_use p.given ≡ false) × IsFair p.symbols

abbrev Stays : Emitted Event Place → List ℕ → Type 0
Stays x b = BringsMetadata (x.at, x.event) → IsUntyped (x.after (length b))

types_fair : (ts : List TypeSymbol) (rest : List Symbol) → IsFair rest → IsFair (types_left ts ++ rest)
types_fair [] rest fair = fair
types_fair (t ∷ ts) rest fair = omega (arith, fair)

cells_fair : (row column : ℕ) (cs : List CellSymbol) (rest : List Symbol) → IsFair rest → IsFair (cells_left row column cs ++ rest)
cells_fair row column [] rest fair = fair
cells_fair row column (c ∷ cs) rest fair = omega (arith, fair)

module _ (l : Rules) (p : Place) (free : is_in_use p.given ≡ false) where
  header_stays : (h : Heading) (b : List ℕ) → Always Stays (header_step p h) b
  header_stays (Err e) b = tt
  header_stays (Ok h) b = λ _. (free, message_fair h)

  value_stays : (f : Field) (r : Role) (rest : List Symbol) (v : FieldValue) (o : Option Reason) (b : List ℕ) → symbol_odd (In f notation.Int r) ≡ 0 → IsFair rest → Always Stays (value_step l.types p f r rest v o) b
  value_stays f r rest v (Some why) b fair later = tt
  value_stays f r rest v None b fair later = λ described.
      let ts = types_for l.types r p.nodes p.given in
      (rw (serves_none f r p.given fair) free, both_fair (following ts r v) rest (following_fair ts r v (brings p.offset f r v fair described)) later)

  cells_stay : (row column : ℕ) (cs : List CellSymbol) (rest : List Symbol) → IsFair rest → Always Stays (map_step (cell_event row column) (place_of_cells row column p rest) (cell_step l (record { offset = p.offset; symbols = cs }))) []
  cells_stay row column cs rest fair =
      let r = cell_step l (record { offset = p.offset; symbols = cs }) in
      map_always (cell_event row column) (place_of_cells row column p rest) Stays r [] (always_then (λ x b. Unit {0}) _ r [] (λ x b _ _. (free, cells_fair row column (x.after (length b)).symbols rest fair)) (always_any r []))

  step_stays : (ss : List Symbol) → IsFair ss → Always Stays (step_at l p ss) []
  step_stays [] fair = tt
  step_stays (Stream ∷ rest) fair = either_always Stays [] (ltb (2 ^ 63) p.offset) _ _ (λ _. tt) (λ _ c long. header_stays (heading c) c)
  step_stays (In f m r ∷ rest) fair =
      let room = p.stop - p.offset in
      after_always (λ v b. Unit {0}) Stays p.offset (field_of m (limit_of l m) room) _ [] (always_any (field_of m (limit_of l m) room) []) (λ v b _. value_stays f r rest v (fault_in r v) b (omega (arith, fair)) (omega (arith, fair)))
  step_stays (In_type ts ∷ rest) fair =
      let r = type_step l (record { offset = p.offset; stop = p.stop; symbols = ts; nodes = p.nodes }) in
      map_always type_event (place_of_types p rest) Stays r [] (always_then (λ x b. Unit {0}) _ r [] (λ x b _ _. (free, types_fair (x.after (length b)).symbols rest (omega (arith, fair)))) (always_any r []))
  step_stays (Cell_due row column k inner ∷ rest) fair = cells_stay row column (Value_of k inner 0 p.stop ∷ []) rest (omega (arith, fair))
  step_stays (In_cell row column cs ∷ rest) fair = cells_stay row column cs rest (omega (arith, fair))
  step_stays (Extra ∷ rest) fair = λ c long _. (retired_free p.given, refl)

-- ---- runs

never_in_use : (xs : List Gift) (g : Given) → is_in_use g ≡ false → is_in_use (held_after_all xs g) ≡ false
never_in_use [] g free = free
never_in_use (GivesTypes ts ∷ xs) g free = never_in_use xs (Waiting ts) refl
never_in_use (TakesBack ∷ xs) g free = never_in_use xs Nothing refl

reads_untyped : (l : Rules) (es : List (ℕ × Event)) (p q : Place) (b left : List ℕ) → IsUntyped p → All BringsMetadata es → Reads l p b es q left → IsUntyped q
reads_untyped l [] p q b left h described r = rw r.0 h
reads_untyped l (e ∷ es) p q b left h described r =
    let x : Emitted Event Place = record { at = e.0; event = e.1; after = r.1 } in
    let t = taken (step l p) x r.0 b r.2 in
    let next : BringsMetadata e → IsUntyped (r.1 r.0) = rw t.long at (yields_always Stays (step l p) x [] t.front (step_stays l (settled p) (never_in_use (gifts_now p.gifts) p.given h.0) p.symbols h.1) t.yields) in
    reads_untyped l es (r.1 r.0) q (drop r.0 b) left (next (All-head BringsMetadata e es described)) (All-tail BringsMetadata e es described) r.3

all_front : (front back : List (ℕ × Event)) → All BringsMetadata (front ++ back) → All BringsMetadata front
all_front front back all = subst (λ (xs : List (ℕ × Event)). All BringsMetadata xs) (take_at front back (length front) refl) (All-take BringsMetadata (length front) (front ++ back) all)

pub given_types_are_for_pages_without_metadata : GivenTypesAreForPagesWithoutMetadata
given_types_are_for_pages_without_metadata l gifts bytes before es closed described front back p left is run =
    let c = runs_split (step l) (start_with gifts) p bytes left before front run in
    let here = closed_due l before false (start_with gifts) c.0 bytes c.1 (λ _. (refl, refl)) closed c.2 in
    let fair : IsUntyped c.0 = (here.1, rw here.0 refl) in
    (reads_untyped l front c.0 p c.1 left fair (all_front front back (subst (λ (xs : List (ℕ × Event)). All BringsMetadata xs) is described)) c.3).0
