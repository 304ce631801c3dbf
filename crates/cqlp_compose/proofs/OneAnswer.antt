-- An event, the end and what is written have one answer.
use Rattle.std.proofs.Common.{◌≡◌, ◌⊎◌, inl, inr, ℕ, List, Vec, Global, Option, Some, None, Result, Ok, Err, refl, sym, ap, ◌∙◌}
use Rattle.cqlp_grammar.specs.Events.{Event}
use Rattle.cqlp_message.specs.FrameValues.{FrameValue}
use Rattle.cqlp_message.specs.Frames.{frame_bytes}
use Rattle.cqlp_message.specs.declared.frame.Frame.{Frame as OwnedFrame}
use Rattle.cqlp_build.specs.declared.error.BuildError.{BuildError}
use Rattle.cqlp_build.specs.declared.error.BuildError.TheVariants as error
use Rattle.cqlp_build.specs.Closing.{Ends}
use Rattle.cqlp_compose.specs.Composing.{ComposerState, Takes, refusal_of, with_next}
use Rattle.cqlp_compose.specs.Laws.{AreSameBytes, AreSameFrames, LacksMemory, OneAnswerOfClose, OneAnswerOfTake, OneAnswerOfWrite}
use Rattle.cqlp_compose.proofs.Once.{one_frame, one_reason, only_memory}

-- ---- take

-- what is answered and left where this keeps the event from being the next
abbrev answer_by : Option BuildError → Result Unit BuildError
answer_by None = Ok tt
answer_by (Some why) = Err why

abbrev after_by : Option BuildError → ComposerState → Event → ComposerState
after_by None s e = with_next s e
after_by (Some why) s e = s

abbrev Decided : ComposerState → Event → Result Unit BuildError → ComposerState → Type 0
Decided s e a new = (a ≡ answer_by (refusal_of s e)) × (new ≡ after_by (refusal_of s e) s e)

refused : (s : ComposerState) (e : Event) (why : BuildError) (new : ComposerState) → refusal_of s e ≡ Some why → new ≡ s → Decided s e (Err why) new
refused s e why new is same = (ap answer_by (sym is), same ∙ ap (λ (o : Option BuildError). after_by o s e) (sym is))

decided : (s : ComposerState) (e : Event) (a : Result Unit BuildError) (new : ComposerState) → Takes s e a new → Decided s e a new ⊎ LacksMemory s a new
decided s e (Ok u) new t = inl (ap answer_by (sym t.0), t.1 ∙ ap (λ (o : Option BuildError). after_by o s e) (sym t.0))
decided s e (Err error.NoMemory) new t = inr (refl, t.1)
decided s e (Err error.Misplaced) new t = inl (refused s e error.Misplaced new t.0 t.1)
decided s e (Err error.Unbuilt) new t = inl (refused s e error.Unbuilt new t.0 t.1)
decided s e (Err error.TooManyFields) new t = inl (refused s e error.TooManyFields new t.0 t.1)
decided s e (Err error.TooDeep) new t = inl (refused s e error.TooDeep new t.0 t.1)
decided s e (Err error.TooManyBytes) new t = inl (refused s e error.TooManyBytes new t.0 t.1)
decided s e (Err error.NoFrame) new t = inl (refused s e error.NoFrame new t.0 t.1)

both : (s : ComposerState) (e : Event) (a b : Result Unit BuildError) (x y : ComposerState) → Decided s e a x ⊎ LacksMemory s a x → Decided s e b y ⊎ LacksMemory s b y
    → ((a ≡ b) × (x ≡ y)) ⊎ (LacksMemory s a x ⊎ LacksMemory s b y)
both s e a b x y (inl p) (inl q) = inl (p.0 ∙ sym q.0, p.1 ∙ sym q.1)
both s e a b x y (inl p) (inr n) = inr (inr n)
both s e a b x y (inr n) q = inr (inl n)

pub one_answer_of_take : OneAnswerOfTake
one_answer_of_take s e a b x y p q = both s e a b x y (decided s e a x p) (decided s e b y q)

-- ---- close

left_frames : (why : BuildError) (b : Result OwnedFrame BuildError) → why ≡ error.NoMemory → AreSameFrames (Err why) b
left_frames error.NoMemory b is = tt
left_frames why b is = absurd cc

right_frames : (a : Result OwnedFrame BuildError) (why : BuildError) → why ≡ error.NoMemory → AreSameFrames a (Err why)
right_frames (Ok x) error.NoMemory is = tt
right_frames (Err error.NoMemory) error.NoMemory is = tt
right_frames (Err a) error.NoMemory is = tt
right_frames a why is = absurd cc

same_frames : (a b : BuildError) → a ≡ b → AreSameFrames (Err a) (Err b)
same_frames error.NoMemory b is = tt
same_frames a error.NoMemory is = tt
same_frames a b is = is

reasons_frames : (es : List Event) (a b : BuildError) → Ends es (Err a) → Ends es (Err b) → AreSameFrames (Err a) (Err b)
reasons_frames es a b p q = elim (one_reason es a b p q) [
  | inl is ↦ same_frames a b is
  | inr none ↦ elim none [
    | inl n ↦ left_frames a (Err b) n
    | inr n ↦ right_frames (Err a) b n
  ]
]

pub one_answer_of_close : OneAnswerOfClose
one_answer_of_close es (Ok f) (Ok g) p q = one_frame es f g p q
one_answer_of_close es (Ok f) (Err why) p q = right_frames (Ok f) why (only_memory es f why p q)
one_answer_of_close es (Err why) (Ok g) p q = left_frames why (Ok g) (only_memory es g why q p)
one_answer_of_close es (Err a) (Err b) p q = reasons_frames es a b p q

-- ---- write

left_bytes : (why : BuildError) (b : Result (Vec ℕ Global) BuildError) → why ≡ error.NoMemory → AreSameBytes (Err why) b
left_bytes error.NoMemory b is = tt
left_bytes why b is = absurd cc

right_bytes : (a : Result (Vec ℕ Global) BuildError) (why : BuildError) → why ≡ error.NoMemory → AreSameBytes a (Err why)
right_bytes (Ok x) error.NoMemory is = tt
right_bytes (Err error.NoMemory) error.NoMemory is = tt
right_bytes (Err a) error.NoMemory is = tt
right_bytes a why is = absurd cc

same_bytes : (a b : BuildError) → a ≡ b → AreSameBytes (Err a) (Err b)
same_bytes error.NoMemory b is = tt
same_bytes a error.NoMemory is = tt
same_bytes a b is = is

reasons_bytes : (es : List Event) (a b : BuildError) → Ends es (Err a) → Ends es (Err b) → AreSameBytes (Err a) (Err b)
reasons_bytes es a b p q = elim (one_reason es a b p q) [
  | inl is ↦ same_bytes a b is
  | inr none ↦ elim none [
    | inl n ↦ left_bytes a (Err b) n
    | inr n ↦ right_bytes (Err a) b n
  ]
]

pub one_answer_of_write : OneAnswerOfWrite
one_answer_of_write es (Ok v) (Ok w) p q = p.are ∙ ap (λ (f : FrameValue). frame_bytes f) (one_frame es p.frame q.frame p.ends q.ends) ∙ sym q.are
one_answer_of_write es (Ok v) (Err why) p q = right_bytes (Ok v) why (only_memory es p.frame why p.ends q)
one_answer_of_write es (Err why) (Ok w) p q = left_bytes why (Ok w) (only_memory es q.frame why q.ends p)
one_answer_of_write es (Err a) (Err b) p q = reasons_bytes es a b p q
