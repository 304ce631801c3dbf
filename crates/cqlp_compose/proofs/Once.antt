-- Of events there is one frame.
use Rattle.std.proofs.Common.{◌≡◌, ◌⊎◌, inl, inr, List, [], ◌∷◌, refl, Ok, Err}
use Rattle.cqlp_note.specs.declared.header.Header.{Header}
use Rattle.cqlp_grammar.specs.Events.{Event, Frame, Holds, Node_of, Cell_at, Leave, End}
use Rattle.cqlp_message.specs.Owned.{frame_of}
use Rattle.cqlp_message.specs.declared.frame.Frame.{Frame as OwnedFrame}
use Rattle.cqlp_build.specs.declared.error.BuildError.{BuildError}
use Rattle.cqlp_build.specs.declared.error.BuildError.TheVariants as error
use Rattle.cqlp_build.specs.Closing.{Ends}

pub one_frame : (es : List Event) (f g : OwnedFrame) → Ends es (Ok f) → Ends es (Ok g) → frame_of f ≡ frame_of g
one_frame [] f g a b = absurd cc
one_frame (Frame h ∷ es) f g a b = b.only a.size (frame_of f) a.can a.are
one_frame (Holds k v ∷ es) f g a b = absurd a
one_frame (Node_of o ∷ es) f g a b = absurd a
one_frame (Cell_at row column c ∷ es) f g a b = absurd a
one_frame (Leave level items ∷ es) f g a b = absurd a
one_frame (End x ∷ es) f g a b = absurd a

-- a frame that is there is not none
not_none : (h : Header) (es : List Event) (f : OwnedFrame) (why : BuildError) → Ends (Frame h ∷ es) (Ok f) → Ends (Frame h ∷ es) (Err why) → why ≡ error.NoMemory
not_none h es f error.NoFrame a b = absurd (b a.size (frame_of f) 0 a.can a.are)
not_none h es f error.NoMemory a b = refl
not_none h es f error.Misplaced a b = absurd b
not_none h es f error.Unbuilt a b = absurd b
not_none h es f error.TooManyFields a b = absurd b
not_none h es f error.TooDeep a b = absurd b
not_none h es f error.TooManyBytes a b = absurd b

pub only_memory : (es : List Event) (f : OwnedFrame) (why : BuildError) → Ends es (Ok f) → Ends es (Err why) → why ≡ error.NoMemory
only_memory [] f why a b = absurd cc
only_memory (Frame h ∷ es) f why a b = not_none h es f why a b
only_memory (Holds k v ∷ es) f why a b = absurd a
only_memory (Node_of o ∷ es) f why a b = absurd a
only_memory (Cell_at row column c ∷ es) f why a b = absurd a
only_memory (Leave level items ∷ es) f why a b = absurd a
only_memory (End x ∷ es) f why a b = absurd a

-- memory is refused, or there is one reason
one_reason_at : (h : Header) (es : List Event) (a b : BuildError) → Ends (Frame h ∷ es) (Err a) → Ends (Frame h ∷ es) (Err b) → (a ≡ b) ⊎ ((a ≡ error.NoMemory) ⊎ (b ≡ error.NoMemory))
one_reason_at h es error.NoMemory b x y = inr (inl refl)
one_reason_at h es error.NoFrame error.NoMemory x y = inr (inr refl)
one_reason_at h es error.NoFrame error.NoFrame x y = inl refl
one_reason_at h es error.NoFrame error.Misplaced x y = absurd y
one_reason_at h es error.NoFrame error.Unbuilt x y = absurd y
one_reason_at h es error.NoFrame error.TooManyFields x y = absurd y
one_reason_at h es error.NoFrame error.TooDeep x y = absurd y
one_reason_at h es error.NoFrame error.TooManyBytes x y = absurd y
one_reason_at h es error.Misplaced b x y = absurd x
one_reason_at h es error.Unbuilt b x y = absurd x
one_reason_at h es error.TooManyFields b x y = absurd x
one_reason_at h es error.TooDeep b x y = absurd x
one_reason_at h es error.TooManyBytes b x y = absurd x

pub one_reason : (es : List Event) (a b : BuildError) → Ends es (Err a) → Ends es (Err b) → (a ≡ b) ⊎ ((a ≡ error.NoMemory) ⊎ (b ≡ error.NoMemory))
one_reason [] a b x y = inl cc
one_reason (Frame h ∷ es) a b x y = one_reason_at h es a b x y
one_reason (Holds k v ∷ es) a b x y = absurd x
one_reason (Node_of o ∷ es) a b x y = absurd x
one_reason (Cell_at row column c ∷ es) a b x y = absurd x
one_reason (Leave level items ∷ es) a b x y = absurd x
one_reason (End e ∷ es) a b x y = absurd x
