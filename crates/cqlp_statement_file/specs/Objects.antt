-- Objects with an id and a text.
use Rattle.std.specs.Prelude.{◌≡◌, ℕ, Bool, true, false, List, [], ◌∷◌, ◌++◌, Option, Some, None, codes, is_some, option_and_then}
use Rattle.json.specs.Find.{as_str, get}
use Rattle.json.specs.Json.{Json}
use Rattle.cqlp_statement_file.specs.Ids.{id_of}
use Rattle.cqlp_statement_file.specs.Texts.{FindAlike, StatementText, Texts, kept}

abbrev pub text_at : (name : List ℕ) → Json → Option (List ℕ)
text_at name v = option_and_then as_str (get name v)

abbrev pub with_id : (text : List ℕ) → (id : Option (List ℕ)) → Option (List ℕ × StatementText)
with_id text None = None
with_id text (Some id) = Some (id, kept text)

abbrev pub statement_with : (id text : Option (List ℕ)) → Option (List ℕ × StatementText)
statement_with None text = None
statement_with (Some id) None = None
statement_with (Some id) (Some text) = with_id text (id_of id)

-- the statement of an object
abbrev pub statement_of : Json → Option (List ℕ × StatementText)
statement_of v = statement_with (text_at (codes "prepared_id") v) (text_at (codes "query_string") v)

-- a row of a schema names a keyspace
abbrev pub is_of_schema : Json → Bool
is_of_schema v = is_some (text_at (codes "keyspace_name") v)

-- A statement is behind the others, if there is one, and its text is found where its id had none.
abbrev pub Adds : Option (List ℕ × StatementText) → (is_one : Bool) → (old new : Texts) → Type 0
Adds None is_one old new = (is_one ≡ false) × (new ≡ old)
Adds (Some s) is_one old new = (is_one ≡ true) × FindAlike new (old ++ s ∷ [])

-- Else a row of a schema is one of those that a file has.
abbrev pub TakesSome : Option (List ℕ × StatementText) → (is_of_schema is_one : Bool) → (old new : Texts) → Type 0
TakesSome None schema is_one old new = (is_one ≡ schema) × (new ≡ old)
TakesSome (Some s) schema is_one old new = Adds (Some s) is_one old new

abbrev pub TakesText : (old : Texts) → Json → (is_one : Bool) → (new : Texts) → Type 0
TakesText old v is_one new = TakesSome (statement_of v) (is_of_schema v) is_one old new

-- the object of a line, if it has one, is taken so
abbrev pub IsTaken : {S : Type 0} → (S → Json → Bool → S → Type 0) → Option Json → (is_one : Bool) → (old new : S) → Type 0
IsTaken takes None is_one old new = (is_one ≡ false) × (new ≡ old)
IsTaken takes (Some v) is_one old new = takes old v is_one new
