-- What the requests of a connection say of statements.
use Rattle.std.specs.Prelude.{ℕ, zero, suc, ◌+◌, ◌-◌, ◌*◌, ◌==◌, ◌&&◌, not, Bool, true, false, nat_le, nat_lt, if◌then◌else◌}
use Rattle.std.specs.Prelude.{List, [], ◌++◌, length, take, drop, Option, Some, None}
use Rattle.std.specs.Int.{w16, from_be_bytes}
use Rattle.cqlp_note.specs.declared.header.Header.{Header}
use Rattle.cqlp_note.specs.declared.opcode.Opcode.{Opcode}
use Rattle.cqlp_note.specs.declared.opcode.Opcode.TheVariants as opcode
use Rattle.cqlp_note.specs.Heading.{has}
use Rattle.cqlp_observer_facts.specs.Reading.{begun, read}
use Rattle.cqlp_observer_facts.specs.Reading as facts
use Rattle.cqlp_tcp_reassembly.specs.declared.step.StreamStep.{StreamStep}
use Rattle.cqlp_tcp_reassembly.specs.declared.step.StreamStep.TheVariants as step
use Rattle.cqlp_observer.specs.declared.heads.Heads.{Heads}
use Rattle.cqlp_observer.specs.declared.heads.Heard.{Heard}
use Rattle.cqlp_observer.specs.declared.heads.Heard.TheVariants as heard
use Rattle.cqlp_observer.specs.Directions as direction
use Rattle.cqlp_observer.specs.Directions.{anew}
use Rattle.cqlp_capture_prepared.specs.declared.execute.Execute.{Execute}
use Rattle.cqlp_capture_prepared.specs.declared.requests.Requests.{Requests}
use Rattle.cqlp_capture_prepared.specs.Keeping.{Keeping, answered, executed, new_keeping}

-- ---- an EXECUTE, as far as it came

-- Section 4.1.6: <id><query_parameters>, where the id is [short bytes], a length of two bytes and as many bytes (section 3).
abbrev pub id_in : List ℕ → Option (List ℕ)
id_in b =
    if nat_lt (length b) 2 then None
    else if nat_le (from_be_bytes w16 (take 2 b)) (length (drop 2 b)) then Some (take (from_be_bytes w16 (take 2 b)) (drop 2 b))
    else None

-- Of bytes of its body those that lie behind what its flags announce, a custom payload (section 2.2), are of the message proper, of which as many
-- are kept as the longest id needs.
abbrev pub read_more : List ℕ → Execute → Execute
read_more b e = record {
  stream = e.stream;
  reader = read b e.reader;
  front = e.front ++ take (66 - length e.front) (drop (facts.before b e.reader) b);
}

abbrev pub is_execute : Opcode → Bool
is_execute opcode.Execute = true
is_execute o = false

-- An EXECUTE that is not compressed (section 2.2) names a statement.
abbrev pub names_statement : Header → Bool
names_statement h = is_execute h.opcode && not (has h.flags 0x01)

abbrev pub execute_of : Header → Option Execute
execute_of h = if names_statement h then Some (record { stream = h.stream; reader = begun h; front = [] }) else None

-- ---- the requests, and what is known of statements

abbrev pub requests : Heads → Option Execute → Requests
requests heads execute = record { heads = heads; execute = execute }

-- Nothing came, and the first byte begins a frame or not.
abbrev pub silent : (from_start : Bool) → Requests
silent from_start = requests (anew false from_start) None

pub record Asked : Type 0 where
  pub requests : Requests
  pub known : Keeping

abbrev pub asked : Requests → Keeping → Asked
asked requests known = record { requests = requests; known = known }

-- The id of an EXECUTE came whole, or more of it is to come.
abbrev pub named_by : Option (List ℕ) → Execute → Heads → Keeping → Asked
named_by (Some id) e heads known = asked (requests heads None) (executed e.stream id known)
named_by None e heads known = asked (requests heads (Some e)) known

abbrev pub body_of : List ℕ → Option Execute → Heads → Keeping → Asked
body_of b None heads known = asked (requests heads None) known
body_of b (Some e) heads known = named_by (id_in (read_more b e).front) (read_more b e) heads known

-- what bytes are: with a header nothing waits under its stream id any more, and an EXECUTE may follow
abbrev pub heard_as : List ℕ → Heard → Asked → Asked
heard_as b (heard.Begins h) a = asked (requests a.requests.heads (execute_of h)) (answered h.stream a.known)
heard_as b heard.Body a = body_of b a.requests.execute a.requests.heads a.known
heard_as b (heard.Ends f) a = asked (requests a.requests.heads None) a.known
heard_as b heard.Stray a = asked (requests a.requests.heads None) a.known
heard_as b heard.More a = a

-- ---- bytes, step by step. Their first one begins a segment or not.

abbrev pub is_done : Heard → Bool
is_done heard.More = true
is_done h = false

abbrev pub with_heads : Heads → Asked → Asked
with_heads heads a = asked (requests heads a.requests.execute) a.known

abbrev pub all_asked : (steps : ℕ) → (begins : Bool) → List ℕ → Asked → Asked
all_asked zero begins b a = a
all_asked (suc n) begins b a =
    let x = direction.heard None begins b a.requests.heads in
    let next = heard_as (take x.step.used b) x.step.heard (with_heads x.after a) in
    if is_done x.step.heard then next else all_asked n (begins && x.step.used == 0) (drop x.step.used b) next

-- as many steps as they can take: each uses some byte, or ends a frame
abbrev pub bytes_asked : (begins : Bool) → List ℕ → Asked → Asked
bytes_asked begins b a = all_asked (2 * length b + 2) begins b a

-- ---- what a stream delivers: the first bytes of a segment's payload begin it

-- With a SYN nothing is known any more.
abbrev pub begins : (syn : Bool) → Asked → Asked
begins syn a = asked (silent syn) (if syn then new_keeping a.known.known.limit a.known.awaited.limit else a.known)

abbrev pub step_asked : StreamStep → List ℕ → Asked → Asked
step_asked (step.Began syn) b a = begins syn a
step_asked (step.Payload from count) b a = bytes_asked (from == 0) b a
step_asked (step.Held time begins) b a = bytes_asked begins b a
step_asked (step.Gap n cause time) b a = asked (requests (direction.after_gap n None a.requests.heads).after None) a.known
step_asked step.Kept b a = a
step_asked step.Ended b a = asked (requests (direction.after_end a.requests.heads).after None) a.known
step_asked step.Reset b a = asked (requests (direction.after_end a.requests.heads).after None) a.known
step_asked step.Done b a = a
