-- How many steps a piece takes, until all of it is reported.
use Rattle.std.specs.Prelude.{◌≡◌, ℕ, ◌+◌, ◌*◌, ◌<◌, Bool, true, false, List, length, drop, Option, if◌then◌else◌, ⊤}
use Rattle.cqlp_observer.specs.declared.message.Frame.{Frame}
use Rattle.cqlp_observer.specs.declared.heads.Heads.{Heads}
use Rattle.cqlp_observer.specs.declared.heads.HeardStep.{HeardStep}
use Rattle.cqlp_observer.specs.declared.heads.Heard.{Heard}
use Rattle.cqlp_observer.specs.declared.heads.Heard.TheVariants as heard_as
use Rattle.cqlp_observer.specs.declared.heads.Stage.{Stage}
use Rattle.cqlp_observer.specs.declared.heads.Stage.TheVariants as stage
use Rattle.cqlp_observer.specs.Directions.{after_end, after_gap, anew, closing, heard, is_over, stepping}

-- a header that has begun is not whole
abbrev pub IsShort : Stage → Type 0
IsShort stage.Lost = ⊤
IsShort stage.Between = ⊤
IsShort (stage.Header front at first) = length front < 9
IsShort (stage.Body f left) = ⊤

abbrev pub is_more : Heard → Bool
is_more (heard_as.Begins h) = false
is_more heard_as.Body = false
is_more (heard_as.Ends f) = false
is_more heard_as.Stray = false
is_more heard_as.More = true

-- at most so many steps report something of these bytes: two of each, and one of a frame that is over
abbrev pub steps_of : List ℕ → Heads → ℕ
steps_of b s = 2 * length b + (if is_over s.stage then 1 else 0)

-- A step that reports something leaves fewer.
pub record StepsOn (b : List ℕ) (old new : Heads) (step : HeardStep) : Type 0 where
  pub short : IsShort new.stage
  pub fewer : is_more step.heard ≡ false → steps_of (drop step.used b) new < steps_of b old

abbrev pub TakesFewSteps : Type 0
TakesFewSteps =
    ((responses from_start : Bool) → IsShort (anew responses from_start).stage)
    × ((time : Option ℕ) (begins : Bool) (b : List ℕ) (old new : Heads) (step : HeardStep)
    → stepping step new ≡ heard time begins b old → IsShort old.stage → StepsOn b old new step)
    × ((n : ℕ) (time : Option ℕ) (old new : Heads) (reported : Option Frame)
    → closing reported new ≡ after_gap n time old → IsShort old.stage → IsShort new.stage)
    × ((old new : Heads) (reported : Option Frame) → closing reported new ≡ after_end old → IsShort new.stage)
