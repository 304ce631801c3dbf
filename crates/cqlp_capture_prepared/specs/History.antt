-- What happened on a connection, the latest first, and which types a page has by that.
use Rattle.std.specs.Prelude.{ℕ, Bool, false, ◌||◌, suc, ◌≤◌, ◌-◌, ℤ, List, [], ◌∷◌, length, is_some, Option, Some, None, option_and_then, if◌then◌else◌, ⊤}
use Rattle.std.specs.Ordering.{int_eq}
use Rattle.std.specs.Str.{bytes_eq}
use Rattle.cqlp_kind.specs.declared.node.Node.{Node}
use Rattle.cqlp_capture_prepared.specs.Keeping.{Keeping, answered, executed, new_keeping, prepared}

-- What comes to pass under a stream id that is no EXECUTE is a response, or a request of another kind.
pub data Heard : Type 0 where
  Prepared : (id : List ℕ) (types : List Node) → Heard
  Executed : (stream : ℤ) (id : List ℕ) → Heard
  Other : (stream : ℤ) → Heard

-- ---- the definition

-- The last PREPARED of an id says its types.
abbrev pub types_said : (id : List ℕ) → List Heard → Option (List Node)
types_said id [] = None
types_said id (Prepared own types ∷ before) = if bytes_eq id own then Some types else types_said id before
types_said id (Executed stream own ∷ before) = types_said id before
types_said id (Other stream ∷ before) = types_said id before

-- The last that came under a stream id says which statement is asked for under it.
abbrev pub id_asked : (stream : ℤ) → List Heard → Option (List ℕ)
id_asked stream [] = None
id_asked stream (Prepared id types ∷ before) = id_asked stream before
id_asked stream (Executed own id ∷ before) = if int_eq stream own then Some id else id_asked stream before
id_asked stream (Other own ∷ before) = if int_eq stream own then None else id_asked stream before

-- the types of a page that comes under a stream id
abbrev pub types_by : (stream : ℤ) → List Heard → Option (List Node)
types_by stream heard = option_and_then (λ id. types_said id heard) (id_asked stream heard)

-- ---- what is kept of it

abbrev pub heard_one : Heard → Keeping → Keeping
heard_one (Prepared id types) p = prepared id types p
heard_one (Executed stream id) p = executed stream id p
heard_one (Other stream) p = answered stream p

abbrev pub after : (statements executes : ℕ) → List Heard → Keeping
after statements executes [] = new_keeping statements executes
after statements executes (h ∷ before) = heard_one h (after statements executes before)

-- ---- how many there are

-- All ids have at most 64 bytes.
abbrev pub AreShort : List Heard → Type 0
AreShort [] = ⊤
AreShort (Prepared id types ∷ before) = (length id ≤ 64) × AreShort before
AreShort (Executed stream id ∷ before) = (length id ≤ 64) × AreShort before
AreShort (Other stream ∷ before) = AreShort before

-- how many different statements were prepared
abbrev pub statements_prepared : List Heard → ℕ
statements_prepared [] = 0
statements_prepared (Prepared id types ∷ before) =
    if is_some (types_said id before) then statements_prepared before else suc (statements_prepared before)
statements_prepared (Executed stream id ∷ before) = statements_prepared before
statements_prepared (Other stream ∷ before) = statements_prepared before

-- how many EXECUTEs wait
abbrev pub executes_waiting : List Heard → ℕ
executes_waiting [] = 0
executes_waiting (Prepared id types ∷ before) = executes_waiting before
executes_waiting (Executed stream id ∷ before) =
    if is_some (id_asked stream before) then executes_waiting before else suc (executes_waiting before)
executes_waiting (Other stream ∷ before) =
    if is_some (id_asked stream before) then executes_waiting before - 1 else executes_waiting before

-- At no time more than so many waited.
abbrev pub WaitNeverMore : (most : ℕ) → List Heard → Type 0
WaitNeverMore most [] = ⊤
WaitNeverMore most (h ∷ before) = (executes_waiting (h ∷ before) ≤ most) × WaitNeverMore most before

-- ---- which statements were named

-- Something names a statement by its id.
abbrev pub is_named : List ℕ → List Heard → Bool
is_named id [] = false
is_named id (Prepared own types ∷ before) = bytes_eq id own || is_named id before
is_named id (Executed stream own ∷ before) = bytes_eq id own || is_named id before
is_named id (Other stream ∷ before) = is_named id before

-- how many different ids were named
abbrev pub ids_named : List Heard → ℕ
ids_named [] = 0
ids_named (Prepared own types ∷ before) = if is_named own before then ids_named before else suc (ids_named before)
ids_named (Executed stream own ∷ before) = if is_named own before then ids_named before else suc (ids_named before)
ids_named (Other stream ∷ before) = ids_named before
