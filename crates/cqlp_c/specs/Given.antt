-- What the calls on a table of types answer, and what they leave.
use Rattle.std.specs.Prelude.{◌≡◌, ℕ, Option, Some, None, ◌⊎◌}
use Rattle.cqlp_kind.specs.Types.{types_of}
use Rattle.cqlp_type.specs.Table.{Table}
use Rattle.cqlp_decode.specs.declared.given.GiveReason.{GiveReason}
use Rattle.cqlp_decode.specs.declared.given.GiveReason.TheVariants as reason
use Rattle.cqlp_decode.specs.Giving.{GivesAlso, TakesAlso, after_taking, free_table, last_types, once_given, reason_against}
use Rattle.cqlp_decode.specs.Progress.{levels_of}
use Rattle.cqlp_decode.specs.Reading.{Gives as a_gift}
use Rattle.cqlp_decode.specs.Streams.{Decoding, state}
use Rattle.cqlp_c.specs.declared.numbers.TheConstants as numbers

-- the table that a handle has: it may have memory for one, and none in it
abbrev pub table_in : Option (Option Table) → Option Table
table_in None = None
table_in (Some held) = held

-- ---- the types of the metadata that was read last

-- A handle without a table gets one that is equal to this one, where memory is there.
abbrev pub CopiesFrom : Table → Option Table → (code : ℕ) → (was written : Option (Option Table)) → Type 0
CopiesFrom types (Some t) code was written = (code ≡ numbers.IN_USE) × (written ≡ was)
CopiesFrom types None code was written =
    ((code ≡ numbers.NO_MEMORY) × (written ≡ was))
    ⊎ ((code ≡ numbers.DONE) × (written ≡ Some (Some types)))

abbrev pub Copies : (old : Option Decoding) → (code : ℕ) → (new : Option Decoding) → (was written : Option (Option Table))
    → Type 0
Copies None code new was written = (code ≡ numbers.NO_DECODER) × (new ≡ None) × (written ≡ was)
Copies (Some d) code new was written = (new ≡ Some d) × CopiesFrom (last_types (state d)) (table_in was) code was written

-- ---- give

-- the code for a table that is not taken
abbrev pub code_of_reason : GiveReason → ℕ
code_of_reason reason.Ended = numbers.ENDED
code_of_reason reason.Off = numbers.OFF
code_of_reason reason.Busy = numbers.BUSY
code_of_reason reason.Open = numbers.OPEN
code_of_reason reason.TooMany = numbers.TOO_MANY
code_of_reason reason.TooDeep = numbers.TOO_DEEP

-- The decoder has this table from here on, and gives back what it had before.
pub record HasTaken (d : Decoding) (t : Table) (e : Decoding) (written : Option Table) : Type 0 where
  pub given : state e ≡ once_given (state d) t
  pub also : GivesAlso (a_gift (types_of t.nodes)) (state d) (state e)
  pub levels : levels_of e.parts ≡ levels_of d.parts
  pub back : written ≡ (state d).given

-- what giving a table comes to, by what is against it
abbrev pub GivesBy : Decoding → Table → Option GiveReason → (code : ℕ) → (new : Decoding) → (written : Option Table) → Type 0
GivesBy d t (Some why) code new written = (code ≡ code_of_reason why) × (new ≡ d) × (written ≡ Some t)
GivesBy d t None code new written = (code ≡ numbers.DONE) × HasTaken d t new written

abbrev pub GivesTo : Decoding → Option Table → (code : ℕ) → (new : Decoding) → (written : Option Table) → Type 0
GivesTo d None code new written = (code ≡ numbers.NO_TYPES) × (new ≡ d) × (written ≡ None)
GivesTo d (Some t) code new written = GivesBy d t (reason_against (state d) t.nodes) code new written

-- what giving what a handle has comes to, by whether it has memory
abbrev pub GivesHeld : Decoding → (was : Option (Option Table)) → (code : ℕ) → (new : Decoding)
    → (written : Option (Option Table)) → Type 0
GivesHeld d None code new written = (code ≡ numbers.NO_TYPES) × (new ≡ d) × (written ≡ None)
GivesHeld d (Some held) code new written = (left : Option Table) × (written ≡ Some left) × GivesTo d held code new left

abbrev pub Gives : (old : Option Decoding) → (code : ℕ) → (new : Option Decoding) → (was written : Option (Option Table)) → Type 0
Gives None code new was written = (code ≡ numbers.NO_DECODER) × (new ≡ None) × (written ≡ was)
Gives (Some d) code new was written = (e : Decoding) × (new ≡ Some e) × GivesHeld d was code e written

-- ---- take back

-- The decoder has given back this table.
pub record HasGivenBack (d : Decoding) (t : Table) (e : Decoding) : Type 0 where
  pub left : state e ≡ after_taking (Some t) (state d)
  pub also : TakesAlso (Some t) (state d) (state e)
  pub levels : levels_of e.parts ≡ levels_of d.parts

-- The decoder is where it was in its stream, and holds the same.
pub record IsLeft (d e : Decoding) : Type 0 where
  pub state_is : state e ≡ state d
  pub levels : levels_of e.parts ≡ levels_of d.parts

-- what taking a table back comes to, by what the decoder has to give back
abbrev pub TakesBy : Decoding → Option Table → (code : ℕ) → (new : Decoding) → (written : Option Table) → Type 0
TakesBy d None code new written = (code ≡ numbers.NO_TYPES) × IsLeft d new × (written ≡ None)
TakesBy d (Some t) code new written = (code ≡ numbers.DONE) × HasGivenBack d t new × (written ≡ Some t)

abbrev pub TakesFrom : Decoding → (was : Option Table) → (code : ℕ) → (new : Decoding) → (written : Option Table) → Type 0
TakesFrom d (Some t) code new written = (code ≡ numbers.IN_USE) × (new ≡ d) × (written ≡ Some t)
TakesFrom d None code new written = TakesBy d (free_table (state d)) code new written

-- what a handle without memory gets, for which some is asked
abbrev pub TakesAnew : Decoding → Option Table → (code : ℕ) → (new : Decoding) → (written : Option (Option Table)) → Type 0
TakesAnew d None code new written =
    ((code ≡ numbers.NO_MEMORY) ⊎ (code ≡ numbers.NO_TYPES)) × IsLeft d new × (written ≡ None)
TakesAnew d (Some t) code new written =
    ((code ≡ numbers.NO_MEMORY) × (new ≡ d) × (written ≡ None))
    ⊎ ((code ≡ numbers.DONE) × HasGivenBack d t new × (written ≡ Some (Some t)))

abbrev pub TakesHeld : Decoding → (was : Option (Option Table)) → (code : ℕ) → (new : Decoding)
    → (written : Option (Option Table)) → Type 0
TakesHeld d None code new written = TakesAnew d (free_table (state d)) code new written
TakesHeld d (Some held) code new written = (left : Option Table) × (written ≡ Some left) × TakesFrom d held code new left

abbrev pub TakesBack : (old : Option Decoding) → (code : ℕ) → (new : Option Decoding) → (was written : Option (Option Table))
    → Type 0
TakesBack None code new was written = (code ≡ numbers.NO_DECODER) × (new ≡ None) × (written ≡ was)
TakesBack (Some d) code new was written = (e : Decoding) × (new ≡ Some e) × TakesHeld d was code e written

-- ---- free

abbrev pub code_of_free : Option (Option Table) → ℕ
code_of_free None = numbers.NO_TYPES
code_of_free (Some held) = numbers.DONE
