-- A frame that lies whole in a piece, between two frames, is heard at once.
use Rattle.std.proofs.Common.{◌≡◌, ℕ, ◌+◌, ◌≤◌, Bool, true, false, cond, List, length, take, drop, refl, sym, ap, ◌∙◌, arith}
use Rattle.std.specs.Prelude.{◌==◌, nat_le, Option, Some, None}
use Rattle.std.proofs.lemmas.Bool.Decides.{nat_tests}
use Rattle.std.proofs.lemmas.List.{length-drop, length-take-le}
use Rattle.cqlp_note.specs.declared.header.Header.{Header}
use Rattle.cqlp_observer.specs.declared.heads.Heads.{Heads}
use Rattle.cqlp_observer.specs.declared.heads.Stage.{Stage}
use Rattle.cqlp_observer.specs.declared.heads.Stage.TheVariants as stage
use Rattle.cqlp_observer.specs.declared.message.Extent.TheVariants.{Whole}
use Rattle.cqlp_observer.specs.declared.message.Frame.{Frame}
use Rattle.cqlp_observer.specs.declared.opening.Opening.{Opening}
use Rattle.cqlp_observer.specs.declared.room.WatchRoom.{WatchRoom}
use Rattle.cqlp_observer.specs.Directions as direction
use Rattle.cqlp_observer.specs.Directions.{IsWholeHead, at_stage, begun, begun_if}
use Rattle.cqlp_observer.specs.Heads.{head_of}
use Rattle.cqlp_observer.specs.Openings.{is_between}
use Rattle.cqlp_observer.specs.Speakers as side
use Rattle.cqlp_observer.specs.Speakers.{Hears, Speaker, after_frame, begins, says}
use Rattle.cqlp_observer.specs.Watches.{Watched, ended_by, has_text_room, heard_by, read, read_by, reported_by, side_of}

-- a direction between two frames
abbrev between : Heads → Heads
between s = at_stage stage.Between s

stage_between : (g : Stage) → is_between g ≡ true → g ≡ stage.Between
stage_between stage.Lost is = absurd (cc is)
stage_between stage.Between is = refl
stage_between (stage.Header front at first) is = absurd (cc is)
stage_between (stage.Body f left) is = absurd (cc is)

is_between_two : (s : Heads) → is_between s.stage ≡ true → s ≡ between s
is_between_two s is = ap (λ (g : Stage). at_stage g s) (stage_between s.stage is)

-- its header
head_heard : (h : Header) (time : Option ℕ) (at_begin : Bool) (b : List ℕ) (s : Heads) → head_of s.responses (take 9 b) ≡ Some h → 9 ≤ length b → direction.heard time at_begin b (between s) ≡ begun 9 h s.position time time (between s)
head_heard h time at_begin b s head long =
    let some : (length b == 0) ≡ false = grind (arith, nat_tests, long) in
    let nine : length (take 9 b) ≡ 9 = length-take-le 9 b long in
    rw (some, nine) (ap (λ (o : Option Header). begun_if o 9 s.position time time (between s)) head)

either : (c : Bool) (f : Frame) → cond c f f ≡ f
either true f = refl
either false f = refl

-- its body
body_heard : (h : Header) (time : Option ℕ) (b : List ℕ) (has_room : Bool) (s : Heads) → 9 + h.length ≤ length b → begins h 9 time (begun 9 h s.position time time (between s)).after (drop 9 b) has_room ≡ (let e = after_frame h time b (side.speaker (between s) None) in says (9 + h.length) false e.message false e.after)
body_heard h time b has_room s long =
    let fits : nat_le h.length (length (drop 9 b)) ≡ true = grind (arith, nat_tests, long, length-drop 9 b) in
    let f : Frame = record { header = h; at = s.position; begun = time; ended = time; extent = Whole } in
    rw (fits, either (h.length == 0) f) refl

side_hears : (h : Header) (time : Option ℕ) (at_begin has_room : Bool) (b : List ℕ) (s : Speaker) → IsWholeHead h b s.heads → side.heard time at_begin b has_room s ≡ (let e = after_frame h time b s in says (9 + h.length) false e.message false e.after)
side_hears h time at_begin has_room b s whole =
    let here : s.heads ≡ between s.heads = is_between_two s.heads whole.between in
    let nine : 9 ≤ length b = omega (arith, whole.long) in
    ap (λ (x : Heads). side.heard_by (direction.heard time at_begin b x) time b has_room s) here
    ∙ ap (λ (x : direction.Steps). side.heard_by x time b has_room s) (head_heard h time at_begin b s.heads whole.head nine)
    ∙ body_heard h time b has_room s.heads whole.long
    ∙ ap (λ (x : Heads). let e = after_frame h time b (side.speaker x None) in says (9 + h.length) false e.message false e.after) (sym here)

pub whole_heard : (h : Header) (responses : Bool) (time : Option ℕ) (at_begin : Bool) (b : List ℕ) (room : WatchRoom) (opening : Opening) (w : Watched) → IsWholeHead h b (side_of responses w).heads → heard_by opening (read responses time at_begin b room w) room ≡ reported_by (9 + h.length) false opening (ended_by responses (after_frame h time b (side_of responses w)) room w)
whole_heard h responses time at_begin b room opening w whole =
    ap (λ (x : Hears). heard_by opening (read_by responses x room w) room) (side_hears h time at_begin (has_text_room room w) b (side_of responses w) whole)
