-- Contents, which are passed over by the length before them (section 3 of native_protocol_v4.spec), and the field behind them.
use Rattle.std.specs.Prelude.{ℕ, ◌-◌, ◌^◌, ◌==◌, ◌||◌, if◌then◌else◌}
use Rattle.cqlp_note.specs.Field.{is_negative}
use Rattle.cqlp_observer_facts.specs.declared.due.Due.{Due}
use Rattle.cqlp_observer_facts.specs.declared.due.Due.TheVariants as due
use Rattle.cqlp_observer_facts.specs.declared.due.Next.{Next}
use Rattle.cqlp_observer_facts.specs.Due.{at, past}

-- a [long string]
abbrev pub past_text : (length : ℕ) → Due → Next
past_text n d = if is_negative n then at due.Over else past n d

-- [bytes], of which a negative length is null
abbrev pub past_bytes : (length : ℕ) → Due → Next
past_bytes n d = if is_negative n then at d else past n d

-- a [value], of which the length -1 is null and -2 is not set
abbrev pub past_value : (length : ℕ) → Due → Next
past_value n d =
    if (n == (2 ^ 32 - 1)) || (n == (2 ^ 32 - 2)) then at d
    else if is_negative n then at due.Over
    else past n d
