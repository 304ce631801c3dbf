-- Frames as they are sent, one after the other, and what a reader of their bytes reports, in whatever pieces they come.
use Rattle.std.specs.Prelude.{◌≡◌, ℕ, ◌<◌, Bool, true, List, [], ◌∷◌, ◌++◌, length, drop, Option, Some}
use Rattle.cqlp_note.specs.declared.header.Header.{Header}
use Rattle.cqlp_observer.specs.declared.message.Extent.TheVariants.{Whole}
use Rattle.cqlp_observer.specs.declared.message.Frame.{Frame}
use Rattle.cqlp_observer.specs.declared.heads.Heads.{Heads}
use Rattle.cqlp_observer.specs.declared.heads.HeardStep.{HeardStep}
use Rattle.cqlp_observer.specs.declared.heads.Heard.{Heard}
use Rattle.cqlp_observer.specs.declared.heads.Heard.TheVariants as heard_as
use Rattle.cqlp_observer.specs.declared.heads.Stage.{Stage}
use Rattle.cqlp_observer.specs.declared.heads.Stage.TheVariants as stage
use Rattle.cqlp_observer.specs.Heads.{head_of}
use Rattle.cqlp_observer.specs.Directions.{anew, heard, stepping}

-- a frame by its bytes, which are those of a header of the direction and of its body
pub record Sent (responses : Bool) : Type 0 where
  pub header : Header
  pub head : List ℕ
  pub body : List ℕ
  pub nine : length head ≡ 9
  pub says : head_of responses head ≡ Some header
  pub long : length body ≡ header.length

abbrev pub bytes_of : {responses : Bool} → List (Sent responses) → List ℕ
bytes_of [] = []
bytes_of (x ∷ sent) = x.head ++ (x.body ++ bytes_of sent)

-- In the body of the first of these frames, all of whose bytes came so far, and so many of which are still to come.
pub record IsInBody {responses : Bool} (f : Frame) (left : ℕ) (rest : List ℕ) (sent : List (Sent responses)) : Type 0 where
  pub first : Sent responses
  pub others : List (Sent responses)
  pub is : sent ≡ first ∷ others
  pub header : f.header ≡ first.header
  pub whole : f.extent ≡ Whole
  pub body : List ℕ
  pub ahead : rest ≡ body ++ bytes_of others
  pub long : length body ≡ left

-- These bytes are still to come, with which these frames end.
abbrev pub IsAt : {responses : Bool} → Stage → List ℕ → List (Sent responses) → Type 0
IsAt stage.Lost rest sent = ⊥
IsAt stage.Between rest sent = rest ≡ bytes_of sent
IsAt (stage.Header front at first) rest sent = (length front < 9) × (front ++ rest ≡ bytes_of sent)
IsAt (stage.Body f left) rest sent = IsInBody f left rest sent

-- The next of the frames is reported where it ends, as whole; and nothing is stray.
abbrev pub ReportsNext : {responses : Bool} → Heard → (sent after : List (Sent responses)) → Type 0
ReportsNext {responses} (heard_as.Ends f) sent after =
    (x : Sent responses) × (sent ≡ x ∷ after) × (f.header ≡ x.header) × (f.extent ≡ Whole)
ReportsNext heard_as.Stray sent after = ⊥
ReportsNext h sent after = after ≡ sent

pub record GoesOn {responses : Bool} (step : HeardStep) (new : Heads) (b more : List ℕ) (sent : List (Sent responses)) : Type 0 where
  pub after : List (Sent responses)
  pub reported : ReportsNext step.heard sent after
  pub conforms : IsAt new.stage (drop step.used b ++ more) after

-- So of frames that are sent from the start of a direction each is reported, in order and as whole, in whatever pieces their bytes come.
abbrev pub ReportsEachFrame : Type 0
ReportsEachFrame =
    ((responses : Bool) (sent : List (Sent responses)) → IsAt (anew responses true).stage (bytes_of sent) sent)
    × ((time : Option ℕ) (begins : Bool) (b more : List ℕ) (old new : Heads) (step : HeardStep) (sent : List (Sent old.responses))
    → stepping step new ≡ heard time begins b old → IsAt old.stage (b ++ more) sent
    → GoesOn step new b more sent)
