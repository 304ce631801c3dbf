-- Statements that were prepared: their texts by their ids, as the capture has them, or as they were given.
use Rattle.std.specs.Prelude.{ℕ, Bool, true, false, not, ◌&&◌, ◌==◌, nat_lt, List, [], ◌∷◌, ◌++◌, length, drop}
use Rattle.std.specs.Prelude.{Option, Some, None, if◌then◌else◌}
use Rattle.std.specs.List.{list_any}
use Rattle.std.specs.Str.{bytes_eq}
use Rattle.cqlp_statement_file.specs.Texts.{StatementText, Texts, text_of}
use Rattle.cqlp_note.specs.declared.opcode.Opcode.{Opcode}
use Rattle.cqlp_note.specs.declared.opcode.Opcode.TheVariants as opcode
use Rattle.cqlp_observer.specs.Keeping.{Kept}
use Rattle.cqlp_observer.specs.declared.message.Message.{Message}
use Rattle.cqlp_observer.specs.declared.paired.Paired.{Paired}
use Rattle.cqlp_observer.specs.declared.paired.Paired.TheVariants.{Exchange}
use Rattle.cqlp_capture_exchanges.specs.Reports.{Report, Messages, Unread}
use Rattle.cqlp_capture_exchanges.specs.declared.reply.Reply.{Reply}
use Rattle.cqlp_capture_exchanges.specs.declared.reply.Reply.TheVariants as reply_as
use Rattle.cqlp_capture_exchanges.specs.Replies.{reply}
use Rattle.cqlp_capture_exchanges.specs.Statements.{Said, Id, Text, short_bytes, statement}

-- a PREPARE, and the response that gives its statement an id
pub record Preparation : Type 0 where
  pub request : Message Kept
  pub response : Message Kept

abbrev pub preparation : (request response : Message Kept) → Preparation
preparation q r = record { request = q; response = r }

-- the statements that were prepared in the capture, and the texts that were given by their ids
pub record Known : Type 0 where
  pub prepared : List Preparation
  pub given : Texts

abbrev pub known_of : List Preparation → Texts → Known
known_of prepared given = record { prepared = prepared; given = given }

-- ---- the id that a response gives to a statement (section 4.2.5.4)

abbrev pub id_of_said : Option Said → Option (List ℕ)
id_of_said (Some (Id id true)) = Some id
id_of_said s = None

-- behind the kind of the result
abbrev pub prepared_by : Reply → (front : List ℕ) → Option (List ℕ)
prepared_by (reply_as.Result kind) b = if kind == 4 then id_of_said (short_bytes (drop 4 b)) else None
prepared_by r b = None

abbrev pub prepared_id : Message Kept → Option (List ℕ)
prepared_id m = prepared_by (reply m.frame.header m.kept.front) m.kept.front

-- ---- the text of the statement with an id

abbrev pub has_id : List ℕ → Option (List ℕ) → Bool
has_id id None = false
has_id id (Some own) = bytes_eq own id

abbrev pub is_of : List ℕ → Preparation → Bool
is_of id p = has_id id (prepared_id p.response)

abbrev pub text_for : List Preparation → List ℕ → Option Said
text_for [] id = None
text_for (p ∷ ps) id = if is_of id p then statement p.request.frame.header p.request.kept.front else text_for ps id

abbrev pub said_in : Option StatementText → Option Said
said_in None = None
said_in (Some t) = Some (Text t.text t.is_whole)

-- that of a PREPARE, or else the one that was given
abbrev pub or_given : Option Said → Option StatementText → Option Said
or_given (Some s) given = Some s
or_given None given = said_in given

abbrev pub known_text : Known → List ℕ → Option Said
known_text known id = or_given (text_for known.prepared id) (text_of known.given id)

abbrev pub or_id : Option Said → List ℕ → Option Said
or_id (Some s) id = Some s
or_id None id = Some (Id id true)

abbrev pub named_id : Known → List ℕ → Option Said
named_id known id = or_id (known_text known id) id

abbrev pub named : Known → Option Said → Option Said
named known (Some (Id id true)) = named_id known id
named known s = s

-- ---- the first bytes of the response that gave the statement with an id

abbrev pub response_for : List Preparation → List ℕ → List ℕ
response_for [] id = []
response_for (p ∷ ps) id = if is_of id p then p.response.kept.front else response_for ps id

abbrev pub prepared_front : List Preparation → Option Said → List ℕ
prepared_front known (Some (Id id true)) = response_for known id
prepared_front known s = []

-- ---- A PREPARE whose response gives its statement an id that is not known is one more; of too many the first one goes.

abbrev pub is_prepare : Opcode → Bool
is_prepare opcode.Prepare = true
is_prepare o = false

abbrev pub is_known : List Preparation → Option (List ℕ) → Bool
is_known known None = true
is_known known (Some id) = list_any (is_of id) known

abbrev pub is_news : List Preparation → (request response : Message Kept) → Bool
is_news known q r = is_prepare q.frame.header.opcode && not (is_known known (prepared_id r))

abbrev pub with_one_more : Preparation → List Preparation → List Preparation
with_one_more p known = (if nat_lt (length known) 256 then known else drop 1 known) ++ p ∷ []

-- with the statement that these messages prepare, if they are a request and its response
abbrev pub known_with : Option (Paired Kept) → Known → Known
known_with (Some (Exchange q r)) known = known_of (with_one_more (preparation q r) known.prepared) known.given
known_with t known = known

-- whether they prepare one that is not known
abbrev pub has_news : List Preparation → Option (Paired Kept) → Bool
has_news known (Some (Exchange q r)) = is_news known q r
has_news known t = false

abbrev pub known_from : Option (Paired Kept) → Known → Known
known_from t known = if has_news known.prepared t then known_with t known else known

abbrev pub known_after : Report → Known → Known
known_after (Messages t end) known = known_from (Some t) known
known_after (Unread time o) known = known
