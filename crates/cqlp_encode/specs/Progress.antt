-- What was written of a frame.
use Rattle.std.specs.Prelude.{◌≡◌, ◌≢◌, ◌+◌, ◌-◌, ◌*◌, ◌^◌, ◌≤◌, ℕ, Bool, true, false, List, [], ◌++◌, length, take, drop, min}
use Rattle.std.specs.Int.{w32, to_be_bytes}
use Rattle.std.specs.Io.KnownBytes.{Appends}
use Rattle.cqlp_note.specs.Streams.{counted}
use Rattle.cqlp_note.specs.Outputs.{Output}
use Rattle.cqlp_note.specs.declared.header.TheConstants.Header.{LONGEST_BODY}
use Rattle.cqlp_message.specs.Parts.{Part, parts_size, parts_bytes}

-- Some calls of a target took all of their bytes, which were this many at most: each took some, and but for two of them they took 256 each on
-- average.
pub record FewCalls (bytes old new : ℕ) : Type 0 where
  pub some : new ≤ old + bytes
  pub few : 256 * new ≤ 256 * old + bytes + 512

-- Where a target was, how many of the bytes to come it has from before, and how many calls had taken all of their bytes.
pub record Start : Type 0 where
  pub output : Output
  pub skip : ℕ
  pub calls : ℕ

-- What a target was given, how many calls took all of their bytes, the bytes that wait to be passed on, how many bytes the target took or had
-- from before, up to 2^64 - 1, how many it still has from before, and whether it failed; and the name of the borrow through which it is given
-- them.
pub record Progress : Type 0 where
  pub output : Output
  pub calls : ℕ
  pub waiting : List ℕ
  pub taken : ℕ
  pub skip : ℕ
  pub failed : Bool
  pub lender : ℕ

abbrev pub begun : Start → (lender : ℕ) → Progress
begun s lender = record { output = s.output; calls = s.calls; waiting = []; taken = 0; skip = s.skip; failed = false; lender = lender }

-- From where a target was so, it took some of these bytes, in order, but for those that it had from before, and the
-- others wait; or it failed once, and the others are lost. With so many bytes to spare, all calls but one had 256 bytes each.
pub record HasTakenWith (spare : ℕ) (start : Start) (all : List ℕ) (p : Progress) : Type 0 where
  pub sent : List ℕ
  pub left : List ℕ
  pub whole : all ≡ sent ++ left
  pub given : Appends start.output.given p.output.given (drop start.skip sent)
  pub count : p.taken ≡ min (length sent) (2 ^ 64 - 1)
  pub skip : p.skip ≡ start.skip - length sent
  pub passed : p.failed ≡ true → start.skip ≤ length sent
  pub failures : p.output.failures ≡ counted p.failed start.output.failures
  pub waits : p.failed ≡ false → left ≡ p.waiting
  pub lost : p.failed ≡ true → left ≢ []
  pub calls : FewCalls (length sent - start.skip) start.calls p.calls
  pub dense : p.failed ≡ false → 256 * p.calls ≤ 256 * start.calls + (length sent - start.skip) + spare + 256

-- The same, where of the bytes that wait those after the first 256 are to spare.
pub record HasTaken (start : Start) (all : List ℕ) (p : Progress) : Type 0 where
  pub so : HasTakenWith (length p.waiting - 256) start all p

-- All that waited was passed on. Where that was less than 256 bytes, the others of them are missing.
pub record Flushes (old new : Progress) : Type 0 where
  pub taken : (start : Start) (all : List ℕ) → HasTaken start all old → HasTakenWith (256 - length old.waiting) start all new
  pub lender : new.lender ≡ old.lender
  pub empty : new.waiting ≡ []

-- These bytes are passed on after all before them, of which none wait.
pub record PassesOn (old : Progress) (bytes : List ℕ) (new : Progress) : Type 0 where
  pub taken : (start : Start) (all : List ℕ) → HasTakenWith 256 start all old → HasTaken start (all ++ bytes) new
  pub lender : new.lender ≡ old.lender

-- These bytes are taken after all before them.
pub record Puts (old : Progress) (bytes : List ℕ) (new : Progress) : Type 0 where
  pub taken : (start : Start) (all : List ℕ) → HasTaken start all old → HasTaken start (all ++ bytes) new
  pub lender : new.lender ≡ old.lender

-- The same of this many bytes, if a body can have as many.
pub record PutsWithin (size : ℕ) (old : Progress) (bytes : List ℕ) (new : Progress) : Type 0 where
  pub puts : size ≤ LONGEST_BODY → Puts old bytes new
  pub lender : new.lender ≡ old.lender

-- These bytes are put to those that wait, and nothing else changes. Where there is no room for all of them, some bytes may be put.
pub record Keeps (old : Progress) (whole : Bool) (bytes : List ℕ) (new : Progress) : Type 0 where
  pub more : List ℕ
  pub kept : new ≡ record old { waiting = old.waiting ++ more }
  pub all : whole ≡ true → more ≡ bytes

-- Of these bytes the four from start are the length of those after them.
abbrev pub with_length : (start : ℕ) → List ℕ → List ℕ
with_length start waiting =
    take start waiting ++ (to_be_bytes w32 (length (drop (start + 4) waiting)) ++ drop (start + 4) waiting)

-- What was there before the parts of a frame: where the target was, what was taken first, and the name of the borrow.
pub record Before : Type 0 where
  pub start : Start
  pub front : List ℕ
  pub lender : ℕ

-- These parts were taken after that, if a body can have as many bytes; and they have as many as their sizes say.
pub record HasTakenParts (before : Before) (p : Progress) (parts : List Part) : Type 0 where
  pub size : length (parts_bytes parts) ≡ parts_size parts
  pub taken : parts_size parts ≤ LONGEST_BODY → HasTaken before.start (before.front ++ parts_bytes parts) p
  pub lender : p.lender ≡ before.lender
