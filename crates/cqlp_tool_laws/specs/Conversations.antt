-- Laws of one answer: what comes of a conversation is decided by the bytes that come, but for what only the outside
-- decides: whether there is memory, whether a stream fails, and how many bytes a read gives.
use Rattle.std.specs.Prelude.{◌≡◌, ℕ, ◌-◌, ◌^◌, ◌<◌, ◌≤◌, List, ◌++◌, length, Some, Result, Ok, Err, ◌⊎◌}
use Rattle.std.specs.Io.KnownBytes.{Appends}
use Rattle.cqlp_note.specs.Outputs.{Output}
use Rattle.cqlp_loop.specs.declared.fault.LoopFault.{LoopFault}
use Rattle.cqlp_loop.specs.declared.fault.LoopFault.TheVariants as fault
use Rattle.cqlp_loop.specs.Inboxes.{Supply}
use Rattle.cqlp_loop.specs.Script.{End, Wires, Talks}

-- ---- what the outside decides

-- no call failed of what counts these failures before and after
abbrev pub IsSound : (before after : ℕ) → Type 0
IsSound before after = (before < 2 ^ 64 - 1) × (after ≡ before)

-- no read and no write of this end failed
abbrev pub IsSoundEnd : (before after : End) → Type 0
IsSoundEnd before after =
    IsSound before.source.failures after.source.failures × IsSound before.target.failures after.target.failures

-- The bytes that came decided the answer: it is Ok or BadReply, or it is SocketFault where no read and no write of a
-- socket failed, so that a source was at its end.
abbrev pub IsDecided : Result (Unit {0}) LoopFault → (before after : Wires) → Type 0
IsDecided (Ok u) before after = Unit {0}
IsDecided (Err fault.BadReply) before after = Unit {0}
IsDecided (Err fault.SocketFault) before after =
    IsSoundEnd before.client after.client × IsSoundEnd before.server after.server
IsDecided (Err e) before after = ⊥

-- ---- two conversations

-- A conversation in which these bytes are all that come to the client and to the server.
pub record TalksOver
    (count : ℕ) (to_client to_server : List ℕ) (before : Wires) (r : Result (Unit {0}) LoopFault) (after : Wires)
    : Type 0 where
  pub client : before.client.source.left ≡ Some to_client
  pub server : before.server.source.left ≡ Some to_server
  pub talks : Talks count before r after

-- Two targets were given the same bytes, where it is known what they were given.
abbrev pub AreGivenTheSame : (old new old' new' : Output) → Type 0
AreGivenTheSame old new old' new' =
    (bytes : List ℕ) × Appends old.given new.given bytes × Appends old'.given new'.given bytes

-- In both conversations the ends sent the same bytes, and the same lines were printed.
pub record SaidTheSame (before after before' after' : Wires) : Type 0 where
  pub client : AreGivenTheSame before.client.target after.client.target before'.client.target after'.client.target
  pub server : AreGivenTheSame before.server.target after.server.target before'.server.target after'.server.target
  pub lines : AreGivenTheSame before.out after.out before'.out after'.out

-- Of all bytes that come, a source gave these and at most 4,096 more, as many as a read may give.
pub record ReadTo (all used : List ℕ) (source : Supply) : Type 0 where
  pub ahead : List ℕ
  pub rest : List ℕ
  pub split : all ≡ used ++ (ahead ++ rest)
  pub few : length ahead ≤ 4096
  pub left : source.left ≡ Some rest

-- Two sources gave the same bytes, but for what was read ahead.
abbrev pub ReadTheSame : (all : List ℕ) (source source' : Supply) → Type 0
ReadTheSame all source source' = (used : List ℕ) × ReadTo all used source × ReadTo all used source'

-- So it is of the sources of both ends.
abbrev pub BothReadTheSame : (to_client to_server : List ℕ) (after after' : Wires) → Type 0
BothReadTheSame to_client to_server after after' =
    ReadTheSame to_client after.client.source after'.client.source
    × ReadTheSame to_server after.server.source after'.server.source

-- The second target was given what the first was, and then perhaps more, where it is known what they were given.
abbrev pub IsGivenMore : (old new old' new' : Output) → Type 0
IsGivenMore old new old' new' =
    (bytes : List ℕ) × (more : List ℕ) × Appends old.given new.given bytes
    × Appends old'.given new'.given (bytes ++ more)

-- In the second conversation the ends sent what they sent in the first, and then perhaps more, and so it is of what was
-- printed.
pub record SaidMore (before after before' after' : Wires) : Type 0 where
  pub client : IsGivenMore before.client.target after.client.target before'.client.target after'.client.target
  pub server : IsGivenMore before.server.target after.server.target before'.server.target after'.server.target
  pub lines : IsGivenMore before.out after.out before'.out after'.out

-- ---- the laws

-- Two conversations of one count, over the same bytes, of which the bytes decided the answers: these are one, and both
-- said the same; where they are Ok, both read the same.
abbrev pub IsOneAnswerOfTalk : Type 0
IsOneAnswerOfTalk =
    (count : ℕ) (to_client to_server : List ℕ) (r r' : Result (Unit {0}) LoopFault)
    (before after before' after' : Wires)
    → TalksOver count to_client to_server before r after → TalksOver count to_client to_server before' r' after'
    → IsDecided r before after → IsDecided r' before' after'
    → (r' ≡ r) × SaidTheSame before after before' after'
    × (r ≡ Ok tt → BothReadTheSame to_client to_server after after')

-- Whatever the outside decides, one of them said what the other did, and then perhaps more.
abbrev pub OneGoesOnFromOther : Type 0
OneGoesOnFromOther =
    (count : ℕ) (to_client to_server : List ℕ) (r r' : Result (Unit {0}) LoopFault)
    (before after before' after' : Wires)
    → TalksOver count to_client to_server before r after → TalksOver count to_client to_server before' r' after'
    → SaidMore before after before' after' ⊎ SaidMore before' after' before after

-- Where the bytes decided the answer of the second, that is the one.
abbrev pub DecidedGoesFurthest : Type 0
DecidedGoesFurthest =
    (count : ℕ) (to_client to_server : List ℕ) (r r' : Result (Unit {0}) LoopFault)
    (before after before' after' : Wires)
    → TalksOver count to_client to_server before r after → TalksOver count to_client to_server before' r' after'
    → IsDecided r' before' after' → SaidMore before after before' after'
