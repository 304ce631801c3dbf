-- What came of a direction, and what its reader knows of it: a frame that is reported as whole came whole.
use Rattle.std.specs.Prelude.{◌≡◌, ℕ, ◌+◌, ◌^◌, ◌<◌, Bool, List, [], ◌++◌, length, map, take, replicate, Option, Some, None, IfSome, ⊤}
use Rattle.cqlp_observer.specs.declared.message.Extent.TheVariants.{Whole}
use Rattle.cqlp_observer.specs.declared.message.Frame.{Frame}
use Rattle.cqlp_observer.specs.declared.heads.Heads.{Heads}
use Rattle.cqlp_observer.specs.declared.heads.HeardStep.{HeardStep}
use Rattle.cqlp_observer.specs.declared.heads.Heard.{Heard}
use Rattle.cqlp_observer.specs.declared.heads.Heard.TheVariants as heard_as
use Rattle.cqlp_observer.specs.declared.heads.Stage.{Stage}
use Rattle.cqlp_observer.specs.declared.heads.Stage.TheVariants as stage
use Rattle.cqlp_observer.specs.Heads.{head_of}
use Rattle.cqlp_observer.specs.Directions.{after_end, after_gap, anew, closing, heard, stepping}

-- at each position the byte that came, or none in a gap
abbrev pub Came : Type 0
Came = List (Option ℕ)

-- These bytes lie one after the other from a position on, and are the last that came.
pub record EndsWith (came : Came) (at : ℕ) (bytes : List ℕ) : Type 0 where
  pub before : Came
  pub is : came ≡ before ++ map Some bytes
  pub from : length before ≡ at

-- They are a header, and so many bytes of its body that `left` are still to come.
pub record IsBegun (responses : Bool) (f : Frame) (left : ℕ) (bytes : List ℕ) : Type 0 where
  pub head : List ℕ
  pub body : List ℕ
  pub is : bytes ≡ head ++ body
  pub nine : length head ≡ 9
  pub says : head_of responses head ≡ Some f.header
  pub long : length body + left ≡ f.header.length

-- A frame came whole: its header and the bytes of its body, one after the other, are the last that came.
pub record CameWhole (responses : Bool) (came : Came) (f : Frame) : Type 0 where
  pub bytes : List ℕ
  pub frame : IsBegun responses f 0 bytes
  pub there : EndsWith came f.at bytes

pub record CameSoFar (responses : Bool) (came : Came) (f : Frame) (left : ℕ) : Type 0 where
  pub bytes : List ℕ
  pub frame : IsBegun responses f left bytes
  pub there : EndsWith came f.at bytes

-- ---- what a reader knows

abbrev pub KnowsIn : Stage → (responses : Bool) → Came → Type 0
KnowsIn stage.Lost responses came = ⊤
KnowsIn stage.Between responses came = ⊤
KnowsIn (stage.Header front at first) responses came = (length front < 9) × EndsWith came at front
KnowsIn (stage.Body f left) responses came = f.extent ≡ Whole → CameSoFar responses came f left

pub record Knows (came : Came) (s : Heads) : Type 0 where
  pub position : s.position ≡ length came
  pub conforms : KnowsIn s.stage s.responses came

abbrev pub EndsWhole : (responses : Bool) → Came → Heard → Type 0
EndsWhole responses came (heard_as.Ends f) = f.extent ≡ Whole → CameWhole responses came f
EndsWhole responses came h = ⊤

-- a piece's bytes as far as they were used
abbrev pub used_of : HeardStep → List ℕ → Came
used_of step b = map Some (take step.used b)

abbrev pub ReportsWholeFrames : Type 0
ReportsWholeFrames =
    ((responses from_start : Bool) → Knows [] (anew responses from_start))
    × ((came : Came) (time : Option ℕ) (begins : Bool) (b : List ℕ) (old new : Heads) (step : HeardStep)
    → stepping step new ≡ heard time begins b old → Knows came old → length came + length b < 2 ^ 64
    → Knows (came ++ used_of step b) new × EndsWhole old.responses came step.heard)
    × ((came : Came) (n : ℕ) (time : Option ℕ) (old new : Heads) (reported : Option Frame)
    → closing reported new ≡ after_gap n time old → Knows came old → length came + n < 2 ^ 64
    → Knows (came ++ replicate n None) new × IfSome reported (λ f. f.extent ≡ Whole → CameWhole old.responses came f))
    × ((came : Came) (old new : Heads) (reported : Option Frame)
    → closing reported new ≡ after_end old → Knows came old
    → IfSome reported (λ f. f.extent ≡ Whole → CameWhole old.responses came f))
