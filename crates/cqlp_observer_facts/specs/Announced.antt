-- What comes before the message proper, by the flags of the header (section 2.2 of native_protocol_v4.spec): in a response a tracing id (02) and
-- warnings (08), and then a custom payload (04). Nothing is read of a body that is compressed (01).
use Rattle.std.specs.Prelude.{ℕ, ◌-◌, ◌==◌, ◌&&◌, List, take, if◌then◌else◌}
use Rattle.cqlp_note.specs.declared.header.Header.{Header}
use Rattle.cqlp_note.specs.declared.opcode.Opcode.{Opcode}
use Rattle.cqlp_note.specs.Heading.{has}
use Rattle.cqlp_observer_facts.specs.declared.announced.Announced.{Announced}
use Rattle.cqlp_observer_facts.specs.declared.announced.Announced.TheVariants.{TraceId, WarningCount, Warning, PayloadCount, PayloadKey, PayloadValue}
use Rattle.cqlp_observer_facts.specs.declared.due.Due.{Due}
use Rattle.cqlp_observer_facts.specs.declared.due.Due.TheVariants as due
use Rattle.cqlp_observer_facts.specs.declared.due.Next.{Next}
use Rattle.cqlp_observer_facts.specs.declared.facts.Fact.TheVariants as fact
use Rattle.cqlp_observer_facts.specs.Contents.{past_bytes}
use Rattle.cqlp_observer_facts.specs.Due.{at, opening_of, past, says}
use Rattle.cqlp_observer_facts.specs.Numbers.{int, short}

abbrev pub after_warnings : (flags : ℕ) → Opcode → Due
after_warnings flags o = if has flags 0x04 then due.Announced PayloadCount else opening_of o

abbrev pub after_trace_id : (flags : ℕ) → Opcode → Due
after_trace_id flags o = if has flags 0x08 then due.Announced WarningCount else after_warnings flags o

-- the first field of a body
abbrev pub opening : Header → Due
opening h =
    if has h.flags 0x01 then due.Unread
    else if h.response && has h.flags 0x02 then due.Announced TraceId
    else if h.response then after_trace_id h.flags h.opcode
    else after_warnings h.flags h.opcode

-- a [string list]: so many warnings
abbrev pub warnings_due : (flags : ℕ) → Opcode → ℕ → Due
warnings_due flags o n = if n == 0 then after_warnings flags o else due.Announced (Warning (n - 1))

-- a [bytes map]: so many keys, each a [string] before its value in [bytes]
abbrev pub keys_due : Opcode → ℕ → Due
keys_due o n = if n == 0 then opening_of o else due.Announced (PayloadKey (n - 1))

abbrev pub announced_width : Announced → ℕ
announced_width TraceId = 16
announced_width WarningCount = 2
announced_width (Warning more) = 2
announced_width PayloadCount = 2
announced_width (PayloadKey more) = 2
announced_width (PayloadValue more) = 4

abbrev pub announced_following : (flags : ℕ) → Opcode → Announced → List ℕ → Next
announced_following flags o TraceId b = says (fact.TraceId (take 16 b)) (after_trace_id flags o)
announced_following flags o WarningCount b = says (fact.Warnings (short b)) (warnings_due flags o (short b))
announced_following flags o (Warning more) b = past (short b) (warnings_due flags o more)
announced_following flags o PayloadCount b = at (keys_due o (short b))
announced_following flags o (PayloadKey more) b = past (short b) (due.Announced (PayloadValue more))
announced_following flags o (PayloadValue more) b = past_bytes (int b) (keys_due o more)
