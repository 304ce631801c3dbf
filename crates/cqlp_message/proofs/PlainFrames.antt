-- The flags that are derived of the parts of a frame.
use Rattle.std.proofs.Common.{◌≡◌, ℕ, Bool, true, false, not, [], ◌∷◌, Option, Some, cond, refl, ◌∙◌, sym, ◌⊎◌, inl, inr}
use Rattle.std.specs.Prelude.{◌&&◌, ◌||◌, is_some, nat_lt, bit_or, if◌then◌else◌}
use Rattle.std.specs.List.{list_all}
use Rattle.cqlp_note.specs.declared.header.TheConstants.Header.{LONGEST_BODY}
use Rattle.cqlp_note.specs.Heading.{has, same}
use Rattle.cqlp_message.specs.declared.unfit.Unfit.{Unfit}
use Rattle.cqlp_message.specs.declared.unfit.Unfit.TheVariants as unfit
use Rattle.cqlp_message.specs.FrameValues.{FrameValue}
use Rattle.cqlp_message.specs.Parts.{parts_size, counts_fit, texts_fit, cell_fits}
use Rattle.cqlp_message.specs.Agreement.{is_directed, is_response, frame_agrees, has_its_cells, message_agrees}
use Rattle.cqlp_message.specs.Frames.{first_of, frame_parts, unfit_of}
use Rattle.cqlp_message.specs.Plain.{DerivedFlagsAgree, with_derived_flags}

-- the flags, by which parts are there
abbrev pub flags_by : (tracing payload warnings : Bool) → ℕ
flags_by t p w = bit_or (bit_or (if t then 0x02 else 0) (if p then 0x04 else 0)) (if w then 0x08 else 0)

-- what is announced is there
abbrev pub announced_by : (response tracing payload warnings agrees : Bool) → Bool
announced_by r t p w m =
    let flags = flags_by t p w in
    not (has flags 0x01)
    && same (r && has flags 0x02) t
    && same (r && has flags 0x08) w
    && same (has flags 0x04) p
    && m

announced : (r t p w m : Bool) → (r || (not t && not w)) ≡ true → announced_by r t p w m ≡ m
announced true true true true m e = refl
announced true true true false m e = refl
announced true true false true m e = refl
announced true true false false m e = refl
announced true false true true m e = refl
announced true false true false m e = refl
announced true false false true m e = refl
announced true false false false m e = refl
announced false true p w m e = cc
announced false false p true m e = cc
announced false false true false m e = refl
announced false false false false m e = refl

agrees_alone : (f : FrameValue) → is_directed f ≡ true → frame_agrees (with_derived_flags f) ≡ message_agrees f.message
agrees_alone f e = announced (is_response f.message) (is_some f.tracing) (is_some f.payload) (is_some f.warnings) (message_agrees f.message) e

-- the second is reported only where the first does not hold, and the second does
second_reported : (a b : Bool) (rest : Option Unfit) → cond a (Some unfit.Direction) (cond b (Some unfit.Parts) rest) ≡ Some unfit.Parts → ((a ≡ false) × (b ≡ true)) ⊎ (rest ≡ Some unfit.Parts)
second_reported true b rest e = cc
second_reported false true rest e = inl (refl, refl)
second_reported false false rest e = inr e

never_after : (a b c d e : Bool) → first_of ((a, unfit.TooManyItems) ∷ (b, unfit.TextTooLong) ∷ (c, unfit.RowShape) ∷ (d, unfit.CellType) ∷ (e, unfit.BodyTooLong) ∷ []) ≡ Some unfit.Parts → ⊥
never_after true b c d e h = absurd cc
never_after false true c d e h = absurd cc
never_after false false true d e h = absurd cc
never_after false false false true e h = absurd cc
never_after false false false false true h = absurd cc
never_after false false false false false h = absurd cc

not_false : (b : Bool) → not b ≡ false → b ≡ true
not_false true e = refl
not_false false e = cc

not_true : (b : Bool) → not b ≡ true → b ≡ false
not_true true e = cc
not_true false e = refl

refused_alone : (f : FrameValue) → unfit_of (with_derived_flags f) ≡ Some unfit.Parts → message_agrees f.message ≡ false
refused_alone f e =
    let g = with_derived_flags f in
    elim (second_reported (not (is_directed f)) (not (frame_agrees g)) _ e) [
      | inl at ↦ sym (agrees_alone f (not_false (is_directed f) at.0)) ∙ not_true (frame_agrees g) at.1
      | inr later ↦ absurd (never_after (not (list_all counts_fit (frame_parts g))) (not (list_all texts_fit (frame_parts g))) (not (has_its_cells g.message)) (not (list_all cell_fits (frame_parts g))) (nat_lt LONGEST_BODY (parts_size (frame_parts g))) later)
    ]

pub derived_agree : DerivedFlagsAgree
derived_agree = record { agree = agrees_alone; fit = refused_alone }
