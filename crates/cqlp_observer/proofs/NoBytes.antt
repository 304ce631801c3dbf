-- No bytes report nothing where no frame ends, and change nothing.
use Rattle.std.proofs.Common.{◌≡◌, ℕ, Bool, true, false, cond, List, [], ◌∷◌, length, refl, sym, ap, ◌∙◌, arith}
use Rattle.std.specs.Prelude.{not, ◌&&◌, ◌==◌, Option, None}
use Rattle.std.proofs.lemmas.Bool.Decides.{nat_tests}
use Rattle.cqlp_observer.specs.declared.heads.Heads.{Heads}
use Rattle.cqlp_observer.specs.declared.heads.Heard.TheVariants as heard_as
use Rattle.cqlp_observer.specs.declared.opening.Opening.{Opening}
use Rattle.cqlp_observer.specs.declared.opening.Opening.TheVariants as begins
use Rattle.cqlp_observer.specs.declared.room.WatchRoom.{WatchRoom}
use Rattle.cqlp_observer.specs.Directions as direction
use Rattle.cqlp_observer.specs.Nothing.{has_nothing}
use Rattle.cqlp_observer.specs.Speakers as side
use Rattle.cqlp_observer.specs.Speakers.{Hears, Speaker, says}
use Rattle.cqlp_observer.specs.Watches.{Steps, Watched, changed, has_text_room, heard, heard_by, is_keeping_on, opened, opening_of, read, read_by, recounted, side_of, with_count}

direction_hears_nothing : (time : Option ℕ) (at_begin : Bool) (h : Heads) → direction.is_over h.stage ≡ false → direction.heard time at_begin [] h ≡ direction.stepping (record { used = 0; heard = heard_as.More }) h
direction_hears_nothing time at_begin h on = rw on refl

side_hears_nothing : (time : Option ℕ) (at_begin has_room : Bool) (s : Speaker) → direction.is_over s.heads.stage ≡ false → side.heard time at_begin [] has_room s ≡ says 0 true None false s
side_hears_nothing time at_begin has_room s on =
    ap (λ (x : direction.Steps). side.heard_by x time [] has_room s) (direction_hears_nothing time at_begin s.heads on)

recounted_same : (room text : ℕ) (keeps : Bool) → recounted room text keeps keeps ≡ text
recounted_same room text true = refl
recounted_same room text false = refl

changed_same : (responses : Bool) (room : WatchRoom) (w : Watched) → changed responses (side_of responses w) room w ≡ w
changed_same true room w = ap (λ (n : ℕ). with_count n w) (recounted_same room.text w.text (is_keeping_on true w))
changed_same false room w = ap (λ (n : ℕ). with_count n w) (recounted_same room.text w.text (is_keeping_on false w))

either_frames : (c : Bool) → cond c begins.Frames begins.Frames ≡ begins.Frames
either_frames true = refl
either_frames false = refl

opens_frames : (responses : Bool) (w : Watched) → opening_of responses [] w ≡ begins.Frames
opens_frames responses w = either_frames _

-- the connection after no bytes
abbrev nothing_reported : Watched → Steps
nothing_reported w = record { used = 0; is_done = true; opening = begins.Frames; reported = None; after = w }

heard_none : (responses : Bool) (time : Option ℕ) (at_begin : Bool) (room : WatchRoom) (w : Watched) → direction.is_over (side_of responses w).heads.stage ≡ false → heard responses time at_begin [] room w ≡ nothing_reported w
heard_none responses time at_begin room w on =
    ap (λ (o : Opening). heard_by o (read responses time at_begin [] room (opened o w)) room) (opens_frames responses w)
    ∙ ap (λ (h : Hears). heard_by begins.Frames (read_by responses h room w) room) (side_hears_nothing time at_begin (has_text_room room w) (side_of responses w) on)
    ∙ ap (λ (u : Watched). nothing_reported u) (changed_same responses room w)

left_of : (a b : Bool) → (a && b) ≡ true → a ≡ true
left_of true b both = refl
left_of false b both = both

-- A frame that ends does not let it be.
no_more : (a over : Bool) → (a && not over) ≡ true → over ≡ false
no_more true true both = sym both
no_more true false both = refl
no_more false over both = absurd (cc both)

pub heard_nothing : (responses : Bool) (time : Option ℕ) (at_begin : Bool) (b : List ℕ) (room : WatchRoom) (w : Watched) → has_nothing responses b w ≡ true → nothing_reported w ≡ heard responses time at_begin b room w
heard_nothing responses time at_begin [] room w nothing =
    sym (heard_none responses time at_begin room w (no_more true (direction.is_over (side_of responses w).heads.stage) nothing))
heard_nothing responses time at_begin (x ∷ b) room w nothing =
    let empty : (length (x ∷ b) == 0) ≡ true = left_of (length (x ∷ b) == 0) (not (direction.is_over (side_of responses w).heads.stage)) nothing in
    let none : length (x ∷ b) ≡ 0 = grind (arith, nat_tests, empty) in
    absurd (omega (arith, none))
