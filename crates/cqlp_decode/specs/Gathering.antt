-- A content that is gathered straight from a reader.
use Rattle.std.specs.Prelude.{◌≡◌, None, ⊤}
use Rattle.cqlp_note.specs.Partial.{GathersMore}
use Rattle.cqlp_decode.specs.declared.progress.StreamStage.{StreamStage}
use Rattle.cqlp_decode.specs.declared.progress.StreamStage.TheVariants as stage
use Rattle.cqlp_decode.specs.Streams.{Decoding}

-- a field or a cell is under way
abbrev pub HoldsContent : StreamStage → Type 0
HoldsContent (stage.Field w) = ⊤
HoldsContent (stage.InCell p) = ⊤
HoldsContent t = ⊥

-- Nothing was refused, and a content of a field or of a cell is gathered, which goes on also after as many bytes more as
-- one read of a run gives.
pub record Gathers (d : Decoding) : Type 0 where
  pub unrefused : d.progress.refusal ≡ None
  pub stage : HoldsContent d.progress.stage
  pub more : GathersMore 4096 d.parts.partial
