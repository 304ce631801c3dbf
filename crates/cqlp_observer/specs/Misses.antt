-- What is missed of a connection, in numbers, each up to 2^64 - 1.
use Rattle.cqlp_note.specs.Streams.{counted_up}
use Rattle.cqlp_observer.specs.declared.missed.Missed.{Missed}
use Rattle.cqlp_observer.specs.declared.opening.Opening.{Opening}
use Rattle.cqlp_observer.specs.declared.opening.Opening.TheVariants as opening

abbrev pub none_missed : Missed
none_missed = record { overtaken = 0; texts = 0; gaps = 0; other_versions = 0; tls = 0; http = 0 }

-- one message more that is reported alone since there is no room for it
abbrev pub with_overtaken : Missed → Missed
with_overtaken m = record m { overtaken = counted_up 1 m.overtaken }

-- one message more of which the header alone is kept
abbrev pub with_text : Missed → Missed
with_text m = record m { texts = counted_up 1 m.texts }

abbrev pub with_gap : Missed → Missed
with_gap m = record m { gaps = counted_up 1 m.gaps }

-- what a direction begins with
abbrev pub with_opening : Opening → Missed → Missed
with_opening opening.Frames m = m
with_opening (opening.OtherVersion version) m = record m { other_versions = counted_up 1 m.other_versions }
with_opening opening.Tls m = record m { tls = counted_up 1 m.tls }
with_opening opening.Http m = record m { http = counted_up 1 m.http }

-- what was missed of one connection and of another
abbrev pub added : Missed → Missed → Missed
added m n = record {
  overtaken = counted_up n.overtaken m.overtaken;
  texts = counted_up n.texts m.texts;
  gaps = counted_up n.gaps m.gaps;
  other_versions = counted_up n.other_versions m.other_versions;
  tls = counted_up n.tls m.tls;
  http = counted_up n.http m.http;
}
