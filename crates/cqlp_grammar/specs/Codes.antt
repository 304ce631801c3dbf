-- The numbers of errors and results, by their names in native_protocol_v4.spec.
use Rattle.std.specs.Prelude.{ℕ}

-- ---- errors after whose message more fields come (section 9)

abbrev pub unavailable : ℕ
unavailable = 0x1000

abbrev pub write_timeout : ℕ
write_timeout = 0x1100

abbrev pub read_timeout : ℕ
read_timeout = 0x1200

abbrev pub read_failure : ℕ
read_failure = 0x1300

abbrev pub function_failure : ℕ
function_failure = 0x1400

abbrev pub write_failure : ℕ
write_failure = 0x1500

abbrev pub already_exists : ℕ
already_exists = 0x2400

abbrev pub unprepared : ℕ
unprepared = 0x2500

-- ---- kinds of results (section 4.2.5)

abbrev pub void : ℕ
void = 1

abbrev pub rows : ℕ
rows = 2

abbrev pub set_keyspace : ℕ
set_keyspace = 3

abbrev pub prepared : ℕ
prepared = 4

abbrev pub schema_change : ℕ
schema_change = 5
