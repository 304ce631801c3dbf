-- How a piece ends.
use Rattle.std.specs.Prelude.{ℕ, ◌+◌}
use Rattle.cqlp_note.specs.declared.refusal.Refusal.{Refusal}
use Rattle.cqlp_decode.specs.declared.feeding.Fed.{Fed}
use Rattle.cqlp_decode.specs.declared.feeding.Fed.TheVariants as fed
use Rattle.cqlp_skip.specs.Stretches.{stream_offset}

-- a refusal, at its offset in the whole stream
abbrev pub refusal_from : (base : ℕ) → Refusal → Refusal
refusal_from base r = record { at = stream_offset base r.at; why = r.why }

-- how a piece ends of which the first bytes were passed over, and the others ended so
abbrev pub fed_from : (base passed : ℕ) → Fed → Fed
fed_from base passed fed.More = fed.More
fed_from base passed (fed.Refused used r) = fed.Refused (passed + used) (refusal_from base r)
fed_from base passed (fed.Fault used) = fed.Fault (passed + used)
