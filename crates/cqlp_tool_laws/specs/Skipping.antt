-- One answer.
use Rattle.std.specs.Prelude.{◌≡◌, ◌≢◌, ℕ, Bool, List, Option, None}
use Rattle.cqlp_grammar.specs.declared.event.Finish.{Finish}
use Rattle.cqlp_grammar.specs.declared.event.Finish.TheVariants as finish
use Rattle.cqlp_note.specs.Limits.{Rules}
use Rattle.cqlp_render.specs.declared.text_form.TextForm.{TextForm}
use Rattle.cqlp_render.specs.Showing.{Concludes, ConcludesCheck}
use Rattle.cqlp_render_skip.specs.Reporting.{Outputs}
use Rattle.cqlp_render_skip.specs.Showing.{FinishesIn, status_after}
use Rattle.cqlp_text.specs.declared.ending.Ending.TheVariants as ending
use Rattle.cqlp_text.specs.Outputs.{Output}

-- where the stream is refused, a header is: it is not refused in a frame that ends too far to be passed over
abbrev pub IsPlain : (form : TextForm) (l : Rules) (xs : List ℕ) (before : Outputs) (f : Finish) (passed : Bool)
    (after : Outputs) (left : Option (List ℕ)) → FinishesIn form l xs before f passed after left → Type 0
IsPlain form l xs before (finish.Refused r) passed after left x = x.0.d.frame ≡ None
IsPlain form l xs before (finish.Whole bytes) passed after left x = Unit {0}
IsPlain form l xs before (finish.Cut frame_at bytes) passed after left x = Unit {0}

-- Of one stream there is one verdict, one text for each output, and one answer whether a frame was passed over.
abbrev pub IsOneAnswer : Type 0
IsOneAnswer =
    (form : TextForm) (l : Rules) (xs : List ℕ) (before : Outputs) (f f' : Finish) (passed passed' : Bool)
    (after after' : Outputs) (left left' : Option (List ℕ))
    → (a : FinishesIn form l xs before f passed after left) → (b : FinishesIn form l xs before f' passed' after' left')
    → IsPlain form l xs before f passed after left a → IsPlain form l xs before f' passed' after' left' b
    → (f' ≡ f) × (passed' ≡ passed) × (after' ≡ after)

-- Of one verdict there is one status and one line, where the target does not fail.
abbrev pub IsOneReport : Type 0
IsOneReport =
    (f : Finish) (passed : Bool) (before : Output) (own own' : ℕ) (after after' : Output)
    → Concludes (ending.Finished f) before own after → Concludes (ending.Finished f) before own' after'
    → own ≢ 3 → own' ≢ 3
    → (status_after passed own' ≡ status_after passed own) × (after' ≡ after)

-- the same where it goes to the output
abbrev pub IsOneCheck : Type 0
IsOneCheck =
    (f : Finish) (passed : Bool) (out err : Output) (own own' : ℕ) (out' out'' err' err'' : Output)
    → ConcludesCheck (ending.Finished f) out err own out' err' → ConcludesCheck (ending.Finished f) out err own' out'' err''
    → own ≢ 3 → own' ≢ 3
    → (status_after passed own' ≡ status_after passed own) × (out'' ≡ out') × (err'' ≡ err')
