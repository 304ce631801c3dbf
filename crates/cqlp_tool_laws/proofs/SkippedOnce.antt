-- One answer of a task that passes over frames.
use Rattle.std.proofs.Common.{◌≡◌, ◌≢◌, ℕ, Bool, true, false, List, IsSome, sym, ap, ◌∙◌, inl, subst}
use Rattle.cqlp_note.specs.Limits.{Rules}
use Rattle.cqlp_grammar.specs.declared.event.Finish.{Finish}
use Rattle.cqlp_text.specs.declared.ending.Ending.TheVariants as ending
use Rattle.cqlp_render.specs.declared.text_form.TextForm.{TextForm}
use Rattle.cqlp_render.specs.declared.text_form.TextForm.TheVariants as forms
use Rattle.cqlp_render.specs.Showing.{Concludes, ConcludesCheck}
use Rattle.cqlp_render.specs.Streams.{Streams}
use Rattle.cqlp_render_skip.specs.Reporting.{Outputs}
use Rattle.cqlp_render_skip.specs.Showing.{ChecksBytes, ShowsBytes, outputs_of, status_after}
use Rattle.cqlp_tool_laws.proofs.SkippedEnds.{one_answer, one_check, one_report}
use Rattle.cqlp_tool.specs.CommandLines.{turns}
use Rattle.cqlp_tool_laws.specs.CommandLines.{ChecksPlainly, EndsPlainly, IsOneAnswer}

-- the status is not that of a fault, so its own is not
sound_status : (passed : Bool) (own status : ℕ) → status ≡ status_after passed own → status ≢ 3 → own ≢ 3
sound_status false own status is sound = λ three. sound (is ∙ three)
sound_status true own status is sound = λ three. sound (is ∙ ap (status_after true) three)

module _ (limits : Rules) (xs : List ℕ) (before : Streams) (status status' : ℕ) (after after' : Streams) (known : IsSome before.err.given) where
  pub skipping_once : (form : TextForm) (a : ShowsBytes form limits turns xs before status after) (b : ShowsBytes form limits turns xs before status' after') → EndsPlainly limits xs before status after form a → EndsPlainly limits xs before status' after' form b → IsOneAnswer before status status' after after'
  skipping_once form (ending.Finished f, passed, reported, reads, same, ends) (ending.Finished f', passed', reported', reads', same', ends') p q =
      let one = one_answer form limits xs (outputs_of before) f f' passed passed' reported reported' after.input.left after'.input.left reads.shows reads'.shows p.1 q.1 in
      let c = ends in
      let c' = ends' in
      let d : Concludes (ending.Finished f) reported.err c'.0 after'.err =
      subst (λ (o : Outputs). Concludes (ending.Finished f) o.err c'.0 after'.err) one.2
      (subst (λ (g : Finish). Concludes (ending.Finished g) reported'.err c'.0 after'.err) one.0 c'.1) in
      let r = one_report f passed reported.err c.0 c'.0 after.err after'.err c.1 d (sound_status passed c.0 status c.2 p.0) (sound_status passed' c'.0 status' c'.2 q.0) in
      (c'.2 ∙ ap (λ z. status_after z c'.0) one.1 ∙ r.0 ∙ sym c.2, inl (same' ∙ ap (λ (o : Outputs). o.out) one.2 ∙ sym same), inl r.1)
  skipping_once form (ending.ReadFault, passed, reported, reads, same, ends) b p q = absurd p
  skipping_once form (ending.WriteFault, passed, reported, reads, same, ends) b p q = absurd p
  skipping_once form (ending.NoMemory, passed, reported, reads, same, ends) b p q = absurd p
  skipping_once form (ending.TooManyTurns, passed, reported, reads, same, ends) b p q = absurd p
  skipping_once form (ending.BadReply, passed, reported, reads, same, ends) b p q = absurd p
  skipping_once form (ending.SocketFault, passed, reported, reads, same, ends) b p q = absurd p
  skipping_once form (ending.Finished f, passed, reported, reads, same, ends) (ending.ReadFault, passed', reported', reads', same', ends') p q = absurd q
  skipping_once form (ending.Finished f, passed, reported, reads, same, ends) (ending.WriteFault, passed', reported', reads', same', ends') p q = absurd q
  skipping_once form (ending.Finished f, passed, reported, reads, same, ends) (ending.NoMemory, passed', reported', reads', same', ends') p q = absurd q
  skipping_once form (ending.Finished f, passed, reported, reads, same, ends) (ending.TooManyTurns, passed', reported', reads', same', ends') p q = absurd q
  skipping_once form (ending.Finished f, passed, reported, reads, same, ends) (ending.BadReply, passed', reported', reads', same', ends') p q = absurd q
  skipping_once form (ending.Finished f, passed, reported, reads, same, ends) (ending.SocketFault, passed', reported', reads', same', ends') p q = absurd q

  pub checking_skipping_once : (a : ChecksBytes limits turns xs before status after) (b : ChecksBytes limits turns xs before status' after') → ChecksPlainly limits xs before status after a → ChecksPlainly limits xs before status' after' b → IsOneAnswer before status status' after after'
  checking_skipping_once (ending.Finished f, passed, reported, reads, own, ends, is) (ending.Finished f', passed', reported', reads', own', ends', is') p q =
      let one = one_answer forms.Nothing limits xs (outputs_of before) f f' passed passed' reported reported' after.input.left after'.input.left reads.shows reads'.shows p.1 q.1 in
      let d : ConcludesCheck (ending.Finished f) reported.out reported.err own' after'.out after'.err =
      subst (λ (o : Outputs). ConcludesCheck (ending.Finished f) o.out o.err own' after'.out after'.err) one.2
      (subst (λ (g : Finish). ConcludesCheck (ending.Finished g) reported'.out reported'.err own' after'.out after'.err) one.0 ends') in
      let r = one_check f passed reported.out reported.err own own' after.out after'.out after.err after'.err ends d (sound_status passed own status is p.0) (sound_status passed' own' status' is' q.0) in
      (is' ∙ ap (λ z. status_after z own') one.1 ∙ r.0 ∙ sym is, inl r.1, inl r.2)
  checking_skipping_once (ending.ReadFault, passed, reported, reads, own, ends, is) b p q = absurd p
  checking_skipping_once (ending.WriteFault, passed, reported, reads, own, ends, is) b p q = absurd p
  checking_skipping_once (ending.NoMemory, passed, reported, reads, own, ends, is) b p q = absurd p
  checking_skipping_once (ending.TooManyTurns, passed, reported, reads, own, ends, is) b p q = absurd p
  checking_skipping_once (ending.BadReply, passed, reported, reads, own, ends, is) b p q = absurd p
  checking_skipping_once (ending.SocketFault, passed, reported, reads, own, ends, is) b p q = absurd p
  checking_skipping_once (ending.Finished f, passed, reported, reads, own, ends, is) (ending.ReadFault, passed', reported', reads', own', ends', is') p q = absurd q
  checking_skipping_once (ending.Finished f, passed, reported, reads, own, ends, is) (ending.WriteFault, passed', reported', reads', own', ends', is') p q = absurd q
  checking_skipping_once (ending.Finished f, passed, reported, reads, own, ends, is) (ending.NoMemory, passed', reported', reads', own', ends', is') p q = absurd q
  checking_skipping_once (ending.Finished f, passed, reported, reads, own, ends, is) (ending.TooManyTurns, passed', reported', reads', own', ends', is') p q = absurd q
  checking_skipping_once (ending.Finished f, passed, reported, reads, own, ends, is) (ending.BadReply, passed', reported', reads', own', ends', is') p q = absurd q
  checking_skipping_once (ending.Finished f, passed, reported, reads, own, ends, is) (ending.SocketFault, passed', reported', reads', own', ends', is') p q = absurd q
