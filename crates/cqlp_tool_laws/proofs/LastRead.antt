-- The last read of a command.
use Rattle.std.proofs.Common.{◌≡◌, ℕ, List, [], ◌++◌, length, Option, Some, None, ◌⊎◌, ap, ◌∙◌, inl, inr, subst, append-nil, arith}
use Rattle.std.proofs.lemmas.List.{length-append}
use Rattle.cqlp_note.specs.declared.refusal.Refusal.{Refusal}
use Rattle.cqlp_note.specs.Limits.{Rules}
use Rattle.cqlp_decode.specs.declared.running.Outcome.TheVariants as outcome
use Rattle.cqlp_decode.specs.Reading.{Waits, Says, start}
use Rattle.cqlp_decode.specs.Progress.{StreamState}
use Rattle.cqlp_decode.specs.Streams.{After}
use Rattle.cqlp_decode.specs.Draining.{verdict_of}
use Rattle.cqlp_text.specs.Outputs.{Output}
use Rattle.cqlp_render.specs.declared.text_form.TextForm.{TextForm}
use Rattle.cqlp_render.specs.declared.text_form.TextForm.TheVariants as forms
use Rattle.cqlp_render.specs.Rendering.{GoesOn, ReadsAfterText, ReadsOnlyAfterText}
use Rattle.cqlp_render.specs.Showing.{ReadsNew}
use Rattle.cqlp_render.specs.Streams.{Input}
use Rattle.cqlp_render.proofs.Renders.{texts_to}
use Rattle.cqlp_tool_laws.specs.Tool.{LastReadAfterText, IsReadAfterText, IsReadUnrefused}

module _ (form : TextForm) (limits : Rules) (turns : ℕ) (xs : List ℕ) (was now : Input) (before after : Output) where
  last_read : (old : StreamState) → After old [] [] → old.refusal ≡ None → old.rules ≡ limits → ReadsAfterText form turns old xs was.reads now.reads now.left before after.given → LastReadAfterText form limits turns xs was now before after
  last_read old fresh unrefused rules r =
      let ran = texts_to form r.earlier outcome.Turns old r.mid xs (Some r.rest) before r.sent r.wrote in
      let d = ran.0 in
      let w = d.events [] [] [] fresh in
      let all = ran.3 in
      let bytes : d.bytes ++ all.looked ≡ d.bytes = ap (λ (z : List ℕ). d.bytes ++ z) (all.none r.free) ∙ append-nil d.bytes in
      let said = all.says unrefused [] [] [] fresh in
      let here : d.rest ≡ r.gave.rest = let a = ran.1 in let b = r.gave.others in cc in
      let size : length d.bytes ≡ length r.gave.read = omega (arith, ap length d.parts, ap length r.gave.parts, length-append d.bytes d.rest, length-append r.gave.read r.gave.rest, ap length here) in
      record {
        earlier = r.earlier;
        counted = r.counted;
        within = r.within;
        first = d.bytes;
        rest = d.rest;
        parts = d.parts;
        some = omega (arith, size, r.gave.some);
        few = omega (arith, size, r.gave.few);
        events = w.more;
        says = subst (λ (k : Rules). Says k start d.bytes w.more Waits) (r.rules ∙ rules) (subst (λ (o : Option Refusal). Says r.mid.rules start d.bytes w.more (verdict_of o)) r.free (subst (λ (z : List ℕ). Says r.mid.rules start z w.more (verdict_of r.mid.refusal)) bytes said));
        given = subst (λ (o : Output). GoesOn o.given after.given) w.written r.front;
      }

  timely : (old : StreamState) → After old [] [] → old.refusal ≡ None → old.rules ≡ limits → ReadsOnlyAfterText form turns old xs was.reads now.reads now.left before after.given → (now.reads ≡ was.reads) ⊎ LastReadAfterText form limits turns xs was now before after
  timely old fresh unrefused rules (inl none) = inl none.0
  timely old fresh unrefused rules (inr r) = inr (last_read old fresh unrefused rules r)

  pub reads_new : ReadsNew form limits turns xs was now before after → (now.reads ≡ was.reads) ⊎ LastReadAfterText form limits turns xs was now before after
  reads_new (inl same) = inl (ap (λ (i : Input). i.reads) same)
  reads_new (inr r) = timely r.0 r.1 r.2 r.3 r.4

pub read_after_text : (form : TextForm) → IsReadAfterText form
read_after_text form limits turns xs before status after a = reads_new form limits turns xs before.input after.input before.out after.out a.5

pub read_unrefused : IsReadUnrefused
read_unrefused limits turns xs before status after a = reads_new forms.Nothing limits turns xs before.input after.input before.out a.1 a.6
