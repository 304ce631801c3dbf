-- What a command leaves that shows a stream and passes over frames whose bodies are refused.
use Rattle.std.specs.Prelude.{◌≡◌, ℕ, ◌+◌, ◌≤◌, Bool, true, false, List, [], ◌++◌, max, Option, Some, None, IsSome, ◌⊎◌}
use Rattle.cqlp_grammar.specs.declared.event.Finish.{Finish}
use Rattle.cqlp_grammar.specs.declared.event.Finish.TheVariants as finish
use Rattle.cqlp_note.specs.Limits.{Rules}
use Rattle.cqlp_note.specs.Streams.{CountsUp}
use Rattle.cqlp_decode.specs.Reading.{Event}
use Rattle.cqlp_decode.specs.Draining.{InReads}
use Rattle.cqlp_render.specs.declared.text_form.TextForm.{TextForm}
use Rattle.cqlp_render.specs.declared.text_form.TextForm.TheVariants as forms
use Rattle.cqlp_render.specs.Rendering.{GoesOn}
use Rattle.cqlp_render.specs.Showing.{Concludes, ConcludesCheck, CountsReads, ReadsBy}
use Rattle.cqlp_render.specs.Streams.{Input, Streams, IfKnown}
use Rattle.cqlp_skip.specs.Skipping.{Skipping, AfterSkips, FinishesAs, rules_in, stream}
use Rattle.cqlp_skip.specs.Stretches.{Stretch}
use Rattle.cqlp_text.specs.declared.ending.Ending.{Ending}
use Rattle.cqlp_text.specs.declared.ending.Ending.TheVariants as ending
use Rattle.cqlp_text.specs.Outputs.{Output, with_text}
use Rattle.cqlp_text.specs.Written.{bare}
use Rattle.cqlp_render_skip.specs.Reporting.{AreKnown, Outputs, Reporting, Fails, IsRefusedForGood, SaysAll, ConformsAt}
use Rattle.cqlp_render_skip.specs.Texts.{afresh, any, lines_before, text_with}

-- where a frame was passed over an end that was otherwise good has the status 1
abbrev pub status_after : (passed : Bool) → (status : ℕ) → ℕ
status_after false status = status
status_after true status = max status 1

module _ (form : TextForm) (l : Rules) (xs : List ℕ) (before : Outputs) where
  -- The bytes s of the stream xs were used. The text of all their events was written, and a line for each frame that was
  -- passed over.
  pub record Shows (passed : Bool) (after : Outputs) : Type 0 where
    pub d : Skipping
    pub s : List ℕ
    pub stretches : List Stretch
    pub events : List (ℕ × Event)
    pub conforms : ConformsAt l xs d s stretches events
    pub out : after.out ≡ with_text before.out (text_with form stretches events)
    pub err : after.err ≡ with_text before.err (lines_before stretches)
    pub any_passed : passed ≡ any stretches

  -- All bytes that were read were used, and the present stretch is not refused; the others are left.
  abbrev pub ShowsAll : (passed : Bool) → (after : Outputs) → (left : Option (List ℕ)) → Type 0
  ShowsAll passed after left =
      (x : Shows passed after) × SaysAll l x.d x.s x.events
      × (rest : List ℕ) × (xs ≡ x.s ++ rest) × (left ≡ Some rest)

  -- At the end of the input the stream ends as it does after all its bytes. Else it is refused in a frame that cannot be
  -- passed over.
  abbrev pub FinishesIn : Finish → (passed : Bool) → (after : Outputs) → (left : Option (List ℕ)) → Type 0
  FinishesIn (finish.Refused r) passed after left = (x : Shows passed after) × IsRefusedForGood x.d r
  FinishesIn f passed after left = (x : ShowsAll passed after left) × (left ≡ Some []) × FinishesAs x.0.d f

  -- what was written, by how the command ends; it does not end as a conversation does
  abbrev pub ShowsTo : Ending → (passed : Bool) → (after : Outputs) → (left : Option (List ℕ)) → Type 0
  ShowsTo (ending.Finished f) passed after left = FinishesIn f passed after left
  ShowsTo ending.ReadFault passed after left = ShowsAll passed after left
  ShowsTo ending.TooManyTurns passed after left = ShowsAll passed after left
  ShowsTo ending.WriteFault passed after left = Fails form l xs before passed after
  ShowsTo ending.NoMemory passed after left = (passed ≡ false) × (after ≡ before)
  ShowsTo ending.BadReply passed after left = ⊥
  ShowsTo ending.SocketFault passed after left = ⊥

  -- The last read. The reads before it gave the bytes s, which are not refused; and before it both outputs were given all
  -- text of the events of these bytes and the lines of the frames passed over. That is a front of what they were given in the end.
  pub record ReadsAfterText (turns : ℕ) (was now : ℕ) (left : Option (List ℕ)) (after : Outputs) : Type 0 where
    pub earlier : ℕ
    pub counted : CountsUp (earlier + 1) was now
    pub within : earlier + 1 ≤ turns
    pub d : Skipping
    pub s : List ℕ
    pub stretches : List Stretch
    pub events : List (ℕ × Event)
    pub conforms : ConformsAt l xs d s stretches events
    pub waits : SaysAll l d s events
    pub rest : List ℕ
    pub parts : xs ≡ s ++ rest
    pub gave : InReads earlier xs (Some rest)
    pub out : GoesOn (with_text before.out (text_with form stretches events)).given after.out.given
    pub err : GoesOn (with_text before.err (lines_before stretches)).given after.err.given
    pub last : (giving : ℕ) × (giving ≤ 1) × InReads giving rest left

  -- no read was made, or the last one after that text
  abbrev pub ReadsOnlyAfterText : (turns : ℕ) → (was now : ℕ) → (left : Option (List ℕ)) → (after : Outputs) → Type 0
  ReadsOnlyAfterText turns was now left after =
      ((now ≡ was) × (left ≡ Some xs)) ⊎ ReadsAfterText turns was now left after

  -- What reading the stream left, by how the command ends: what was written, which calls of the reader failed, how often it
  -- was called, and after what.
  pub record Reads (turns : ℕ) (e : Ending) (passed : Bool) (was now : Input) (after : Outputs) : Type 0 where
    pub shows : ShowsTo e passed after now.left
    pub failures : CountsReads e was.failures now.failures
    pub reads : ReadsBy turns e was now
    pub in_time : ReadsOnlyAfterText turns was.reads now.reads now.left after

-- Nothing of the stream xs was read, and nothing written.
pub record Begins (form : TextForm) (l : Rules) (xs : List ℕ) (first : Outputs) (left : Option (List ℕ)) (d : Skipping)
    (now : Reporting) : Type 0 where
  pub fresh : afresh form ≡ form
  pub known : AreKnown first
  pub here : left ≡ Some xs
  pub after : AfterSkips xs d [] [] [] []
  pub unrefused : (stream d).refusal ≡ None
  pub rules : rules_in d ≡ l
  pub begun : now ≡ record {
    text = record { written = bare first.out.given first.out.failures; form = form };
    err = first.err;
    passed = false;
  }

-- ---- with the verdict

-- the line of the ending was written, and the status is its own, but that a frame was passed over; or the target failed
abbrev pub ConcludesAfter : (passed : Bool) → Ending → (before : Output) → (status : ℕ) → (after : Output) → Type 0
ConcludesAfter passed e before status after =
    (own : ℕ) × Concludes e before own after × (status ≡ status_after passed own)

abbrev pub outputs_of : Streams → Outputs
outputs_of s = record { out = s.out; err = s.err }

-- The bytes xs of the input were shown, and how it ended was reported on the error output.
abbrev pub ShowsBytes : TextForm → Rules → (turns : ℕ) → List ℕ
    → (before : Streams) → (status : ℕ) → (after : Streams) → Type 0
ShowsBytes form limits turns xs before status after =
    (e : Ending) × (passed : Bool) × (emitted : Outputs)
    × Reads form limits xs (outputs_of before) turns e passed before.input after.input emitted
    × (after.out ≡ emitted.out) × ConcludesAfter passed e emitted.err status after.err

-- The bytes xs of the input were read and nothing of them written but the lines of frames passed over, and how it ended
-- was reported.
abbrev pub ChecksBytes : Rules → (turns : ℕ) → List ℕ → (before : Streams) → (status : ℕ) → (after : Streams) → Type 0
ChecksBytes limits turns xs before status after =
    (e : Ending) × (passed : Bool) × (emitted : Outputs)
    × Reads forms.Nothing limits xs (outputs_of before) turns e passed before.input after.input emitted
    × (own : ℕ) × ConcludesCheck e emitted.out emitted.err own after.out after.err × (status ≡ status_after passed own)

-- A stream was shown, and how it ended was reported.
abbrev pub ShowsAndReports : TextForm → Rules → (turns : ℕ)
    → (before : Streams) → (status : ℕ) → (after : Streams) → Type 0
ShowsAndReports form limits turns before status after =
    IfKnown before.input before.out (λ xs. IsSome before.err.given → ShowsBytes form limits turns xs before status after)

-- A stream was checked, and how it ended was reported.
abbrev pub ChecksAndReports : Rules → (turns : ℕ) → (before : Streams) → (status : ℕ) → (after : Streams) → Type 0
ChecksAndReports limits turns before status after =
    IfKnown before.input before.out (λ xs. IsSome before.err.given → ChecksBytes limits turns xs before status after)
