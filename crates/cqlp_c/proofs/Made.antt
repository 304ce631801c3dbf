-- What a call that makes a decoder says of the code and the handle.
use Rattle.std.proofs.Common.{◌≡◌, ◌↔◌, ℕ, Bool, Option, Some, None, Result, Ok, Err, refl, sym, ap, ◌∙◌, inl, inr}
use Rattle.cqlp_note.specs.declared.limits.BadLimits.{BadLimits}
use Rattle.cqlp_note.specs.declared.limits.BadLimits.TheVariants as limit
use Rattle.cqlp_note.specs.declared.limits.Limits.{Limits}
use Rattle.cqlp_note.specs.Limits.{first_bad, rules_of, with_lenient}
use Rattle.cqlp_decode.specs.declared.decoder.NewError.{NewError}
use Rattle.cqlp_decode.specs.declared.decoder.NewError.TheVariants as error
use Rattle.cqlp_decode.specs.Streams.{Decoding}
use Rattle.cqlp_laws.specs.OneAnswer.{IsAtStart}
use Rattle.cqlp_c.specs.declared.course.CqlpCourse.{CqlpCourse}
use Rattle.cqlp_c.specs.declared.numbers.TheConstants as numbers
use Rattle.cqlp_c.specs.Course.{course_of_new}
use Rattle.cqlp_c.specs.Numbers.{code_of_error}
use Rattle.cqlp_c.specs.Handle.{Makes, MakesAnew, flag_of}

pub is_empty : {X : Type 0} (o : Option X) (live : ℕ) → flag_of o ≡ live → live ≡ 0 → o ≡ None
is_empty None live is none = refl
is_empty (Some x) live is none = absurd (let e = is ∙ none in cc)

pub in_use : (lenient : Bool) (l : Limits) (o : Option Decoding) (live : ℕ) → flag_of o ≡ live → (live ≡ 0 → ⊥) → Makes lenient l o numbers.IN_USE o
in_use lenient l None live is some = absurd (some (sym is))
in_use lenient l (Some d) live is some = (refl, refl)

made_by : (lenient : Bool) (l : Limits) (b : Result Unit BadLimits) → first_bad l ≡ b → (d : Decoding) (new : Option Decoding) → new ≡ Some d → IsAtStart (with_lenient lenient (rules_of l)) d → ((z : BadLimits) → first_bad l ≡ Err z → ⊥) → MakesAnew lenient l b numbers.DONE new
made_by lenient l (Ok u) is d new new_is fresh none = inr (refl, d, new_is, fresh)
made_by lenient l (Err z) is d new new_is fresh none = absurd (none z is)

pub made : (lenient : Bool) (l : Limits) (o new : Option Decoding) (d : Decoding) → o ≡ None → new ≡ Some d → IsAtStart (with_lenient lenient (rules_of l)) d → ((z : BadLimits) → first_bad l ≡ Err z → ⊥) → Makes lenient l o numbers.DONE new
made lenient l None new d is new_is fresh none = made_by lenient l (first_bad l) refl d new new_is fresh none
made lenient l (Some x) new d is new_is fresh none = absurd cc

not_made_by : (lenient : Bool) (l : Limits) (b : Result Unit BadLimits) → first_bad l ≡ b → (e : NewError) → ((z : BadLimits) → (e ≡ error.BadLimits z) ↔ (first_bad l ≡ Err z)) → MakesAnew lenient l b (code_of_error e) None
not_made_by lenient l (Err z) is e bad = (ap code_of_error ((bad z).1 is), refl)
not_made_by lenient l (Ok u) is error.NoMemory bad = inl (refl, refl)
not_made_by lenient l (Ok u) is (error.BadLimits z) bad = absurd (let e = sym is ∙ (bad z).0 refl in cc)

pub not_made : (lenient : Bool) (l : Limits) (o : Option Decoding) (e : NewError) → o ≡ None → ((z : BadLimits) → (e ≡ error.BadLimits z) ↔ (first_bad l ≡ Err z)) → Makes lenient l o (code_of_error e) o
not_made lenient l None e is bad = not_made_by lenient l (first_bad l) refl e bad
not_made lenient l (Some d) e is bad = absurd cc

-- a handle without a decoder stays where it was
pub kept_course : (e : NewError) (c : CqlpCourse) → course_of_new (code_of_error e) c ≡ c
kept_course error.NoMemory c = refl
kept_course (error.BadLimits limit.Text) c = refl
kept_course (error.BadLimits limit.Cell) c = refl
kept_course (error.BadLimits limit.Entries) c = refl
kept_course (error.BadLimits limit.Depth) c = refl
