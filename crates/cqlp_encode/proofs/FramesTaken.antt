-- All of a frame that is taken, and what the target has of it.
use Rattle.std.proofs.Common.{◌≡◌, ◌≢◌, ℕ, ◌+◌, ◌-◌, ◌≤◌, ◌<◌, ◌^◌, Bool, true, false, List, [], ◌∷◌, ◌++◌, length, take, drop, min, nat_lt, Option, Some, None, Result, Ok, Err, refl, sym, ap, ◌∙◌, subst, append-nil, arith}
use Rattle.std.proofs.lemmas.List.{length-append, length-drop, take_at}
use Rattle.std.proofs.lemmas.Bool.{lt-ltb, le-ltb}
use Rattle.std.specs.Io.KnownBytes.{Appends}
use Rattle.cqlp_note.specs.Heading.{IsLawful, header_bytes}
use Rattle.cqlp_note.specs.declared.header.TheConstants.Header.{LONGEST_BODY}
use Rattle.cqlp_note.specs.Streams.{counted}
use Rattle.cqlp_note.specs.Outputs.{Output}
use Rattle.cqlp_message.specs.FrameValues.{FrameValue}
use Rattle.cqlp_message.specs.Parts.{parts_size, parts_bytes}
use Rattle.cqlp_message.specs.Frames.{frame_parts, header_of, frame_bytes, frame_size, unfit_of}
use Rattle.cqlp_message.specs.PartRefs.{Takes}
use Rattle.cqlp_message.proofs.FramesWritten.{is_fit, plain as not_compressed}
use Rattle.cqlp_message.proofs.Tallies.{small_enough}
use Rattle.cqlp_encode.specs.declared.writing.EncodeError.{EncodeError}
use Rattle.cqlp_encode.specs.declared.writing.EncodeError.TheVariants as error
use Rattle.cqlp_encode.specs.Encoding.{header_and_parts, CanBeWritten, Continued, Encodes, EncodesFrom}
use Rattle.cqlp_encode.proofs.Continuing.{anew, drop_nil, rest_taken, stops_alike}
use Rattle.cqlp_encode.specs.Progress.{FewCalls, Flushes, Start, Progress, Before, HasTaken, HasTakenWith, HasTakenParts, Puts, PutsWithin, begun}

some_left : (xs : List ℕ) → xs ≢ [] → 0 < length xs
some_left [] some = absurd (some refl)
some_left (x ∷ xs) some = omega arith

-- what a target took of all, where nothing waits any more
module _ (spare : ℕ) (start : Start) (all : List ℕ) (p : Progress) (t : HasTakenWith spare start all p) (none : p.waiting ≡ []) (short : length all < 2 ^ 32) where
  parts : length all ≡ length t.sent + length t.left
  parts = ap length t.whole ∙ length-append t.sent t.left

  count : p.taken ≡ length t.sent
  count = omega (arith, t.count, parts)

  first : take p.taken all ≡ t.sent
  first = rw (count, t.whole) (take_at t.sent t.left (length t.sent) refl)

  whole_or_passed : (b : Bool) → p.failed ≡ b → min start.skip (length all) ≤ p.taken
  whole_or_passed false e = let nothing : length t.left ≡ 0 = ap length (t.waits e ∙ none) in omega (arith, parts, count)
  whole_or_passed true e = omega (arith, count, t.passed e)

  ends : (b : Bool) → p.failed ≡ b → b ≡ nat_lt p.taken (length all)
  ends false e =
      let nothing : length t.left ≡ 0 = ap length (t.waits e ∙ none) in
      sym (le-ltb p.taken (length all) (omega (arith, parts, count)))
  ends true e = sym (lt-ltb p.taken (length all) (omega (arith, parts, count, some_left t.left (t.lost e))))

  stopped : p.failed ≡ nat_lt (p.taken - start.skip) (length (drop start.skip all))
  stopped = ends p.failed refl ∙ sym (stops_alike start.skip p.taken (length all) (whole_or_passed p.failed refl)) ∙ ap (λ (k : ℕ). nat_lt (p.taken - start.skip) k) (sym (length-drop start.skip all))

  pub has_continued : Continued start.skip start.output all p.taken p.output
  has_continued = record {
    bound = omega (arith, parts, count);
    from = whole_or_passed p.failed refl;
    offered = record {
      bound = omega (arith, parts, count, length-drop start.skip all);
      given = rw (rest_taken start.skip p.taken all, first) t.given;
      failures = t.failures ∙ ap (λ (b : Bool). counted b start.output.failures) stopped;
    };
  }

  pub has_few : FewCalls (p.taken - start.skip) start.calls p.calls
  has_few = subst (λ (n : ℕ). FewCalls (n - start.skip) start.calls p.calls) (sym count) t.calls

pub nothing_taken : (s : Start) (lender : ℕ) → Appends s.output.given s.output.given [] → HasTaken s [] (begun s lender)
nothing_taken s lender same = record {
  so = record {
    sent = [];
    left = [];
    whole = refl;
    given = rw (drop_nil s.skip) same;
    count = refl;
    skip = omega arith;
    passed = λ e. absurd cc;
    failures = refl;
    waits = λ e. refl;
    lost = λ e. absurd cc;
    calls = record { some = omega arith; few = omega arith };
    dense = λ e. omega arith;
  };
}

pub nothing_more : (o : Option (List ℕ)) → Appends o o []
nothing_more None = tt
nothing_more (Some xs) = sym (append-nil xs)

pub lawful : (f : FrameValue) (n : ℕ) → unfit_of f ≡ None → n ≡ parts_size (frame_parts f) → IsLawful (header_of f n)
lawful f n e is = record { plain = not_compressed f (is_fit f e).agrees; direction = refl; bounded = omega (arith, is, small_enough f e) }

-- all was passed on through a borrow that ended
pub sent : {X : Type 0} (o : X → Output) (spare : ℕ) (start : Start) (last end : X) (all : List ℕ) (c : Progress) → HasTakenWith spare start all c → c.waiting ≡ [] → length all < 2 ^ 32 → o last ≡ c.output → end ≡ last
    → Continued start.skip start.output all c.taken (o end) × (c.taken < 2 ^ 32)
sent o spare start last end all c t none short left same =
    let r = has_continued spare start all c t none short in
    (rw (same, left) r, omega (arith, r.bound, short))

-- in how many calls
sent_few : {X : Type 0} (w : X → ℕ) (spare : ℕ) (start : Start) (last end : X) (all : List ℕ) (c : Progress) → HasTakenWith spare start all c → c.waiting ≡ [] → length all < 2 ^ 32 → w last ≡ c.calls → end ≡ last
    → FewCalls (c.taken - start.skip) start.calls (w end)
sent_few w spare start last end all c t none short left same = rw (same, left) (has_few spare start all c t none short)

-- ---- a header and parts

module _ (f : FrameValue) (start : Start) (lender : ℕ) (bytes : List ℕ) (a b c : Progress) (header : Puts (begun start lender) bytes a) (parts : Takes HasTakenParts a b (frame_parts f)) (rest : Flushes b c) where
  head_taken : HasTaken start bytes a
  head_taken = header.taken start [] (nothing_taken start lender (nothing_more start.output.given))

  before : Before
  before = record { start = start; front = bytes; lender = lender }

  no_parts : HasTakenParts before a []
  unfolding before
  no_parts = record { size = refl; taken = λ le. subst (λ (x : List ℕ). HasTaken start x a) (sym (append-nil bytes)) head_taken; lender = header.lender }

  -- the borrow is the one that was made
  frame_lender : c.lender ≡ lender
  unfolding before
  frame_lender = rest.lender ∙ (parts.takes before [] no_parts).lender

  frame_long : length (parts_bytes (frame_parts f)) ≡ parts_size (frame_parts f)
  frame_long = (parts.takes before [] no_parts).size

  frame_taken : parts_size (frame_parts f) ≤ LONGEST_BODY → HasTakenWith (256 - length b.waiting) start (bytes ++ parts_bytes (frame_parts f)) c
  unfolding before
  frame_taken small = rest.taken start (bytes ++ parts_bytes (frame_parts f)) ((parts.takes before [] no_parts).taken small)

-- as `write_parts` leaves the target
pub parts_sent : {X : Type 0} (o : X → Output) (w : X → ℕ) (first last end : X) (f : FrameValue) (body skip lender : ℕ) (bytes : List ℕ) (a b c : Progress) → IsLawful (header_of f body) → parts_size (frame_parts f) ≤ body → bytes ≡ header_bytes (header_of f body)
    → Puts (begun (record { output = o first; skip = skip; calls = w first }) lender) bytes a → Takes HasTakenParts a b (frame_parts f) → Flushes b c → o last ≡ c.output → (c.lender ≡ lender → end ≡ last)
    → Continued skip (o first) (header_and_parts f body) c.taken (o end) × (c.taken < 2 ^ 32) × (length (header_and_parts f body) ≡ frame_size f 0)
parts_sent o w first last end f body skip lender bytes a b c law fits is header parts rest left is_last =
    let small : parts_size (frame_parts f) ≤ LONGEST_BODY = omega (arith, law.bounded, fits) in
    let start : Start = record { output = o first; skip = skip; calls = w first } in
    let t = rw is at (frame_taken f start lender bytes a b c header parts rest small) in
    let long : length (header_and_parts f body) ≡ frame_size f 0 = omega (arith, length-append (header_bytes (header_of f body)) (parts_bytes (frame_parts f)), frame_long f start lender bytes a b c header parts rest) in
    let s = sent o _ start last end (header_and_parts f body) c t rest.empty (omega (arith, long, small)) left (is_last (frame_lender f start lender bytes a b c header parts rest)) in
    (s.0, s.1, long)

pub parts_offered : {X : Type 0} (o : X → Output) (w : X → ℕ) (first last end : X) (f : FrameValue) (body skip lender : ℕ) (bytes : List ℕ) (a b c : Progress) → IsLawful (header_of f body) → parts_size (frame_parts f) ≤ body → bytes ≡ header_bytes (header_of f body)
    → Puts (begun (record { output = o first; skip = skip; calls = w first }) lender) bytes a → Takes HasTakenParts a b (frame_parts f) → Flushes b c → o last ≡ c.output → (c.lender ≡ lender → end ≡ last)
    → Continued skip (o first) (header_and_parts f body) c.taken (o end)
parts_offered o w first last end f body skip lender bytes a b c law fits is header parts rest left is_last = (parts_sent o w first last end f body skip lender bytes a b c law fits is header parts rest left is_last).0

pub parts_few : {X : Type 0} (o : X → Output) (w : X → ℕ) (first last end : X) (f : FrameValue) (body skip lender : ℕ) (bytes : List ℕ) (a b c : Progress) → IsLawful (header_of f body) → parts_size (frame_parts f) ≤ body → bytes ≡ header_bytes (header_of f body)
    → Puts (begun (record { output = o first; skip = skip; calls = w first }) lender) bytes a → Takes HasTakenParts a b (frame_parts f) → Flushes b c → w last ≡ c.calls → (c.lender ≡ lender → end ≡ last)
    → FewCalls (c.taken - skip) (w first) (w end)
parts_few o w first last end f body skip lender bytes a b c law fits is header parts rest left is_last =
    let small : parts_size (frame_parts f) ≤ LONGEST_BODY = omega (arith, law.bounded, fits) in
    let start : Start = record { output = o first; skip = skip; calls = w first } in
    let t = rw is at (frame_taken f start lender bytes a b c header parts rest small) in
    let long : length (header_and_parts f body) ≡ frame_size f 0 = omega (arith, length-append (header_bytes (header_of f body)) (parts_bytes (frame_parts f)), frame_long f start lender bytes a b c header parts rest) in
    sent_few w _ start last end (header_and_parts f body) c t rest.empty (omega (arith, long, small)) left (is_last (frame_lender f start lender bytes a b c header parts rest))

module _ (f : FrameValue) (old new : Output) (len before taken : ℕ) (fits : unfit_of f ≡ None) (is : len ≡ frame_size f 0) (continued : Continued before old (header_and_parts f (len - 9)) taken new) (long : length (header_and_parts f (len - 9)) ≡ frame_size f 0) where
  same_bytes : header_and_parts f (len - 9) ≡ frame_bytes f
  same_bytes = let body : len - 9 ≡ parts_size (frame_parts f) = omega (arith, is) in ap (λ (n : ℕ). header_and_parts f n) body

  can_be_written : CanBeWritten f
  can_be_written = (fits, ap length (sym same_bytes) ∙ long)

  pub frame_cut : taken < len → CanBeWritten f × (taken < frame_size f 0) × Continued before old (frame_bytes f) taken new
  frame_cut less = (can_be_written, omega (arith, is), subst (λ (x : List ℕ). Continued before old x taken new) same_bytes continued)

  pub frame_whole : len ≤ taken → CanBeWritten f × (len ≡ frame_size f 0) × Continued before old (frame_bytes f) len new
  frame_whole all =
      let same : taken ≡ len = omega (arith, continued.bound, long, is) in
      (can_be_written, is, subst (λ (x : List ℕ). Continued before old x len new) same_bytes (subst (λ (n : ℕ). Continued before old (header_and_parts f (len - 9)) n new) same continued))

-- what was written of a frame from its first byte on
pub from_start : (f : FrameValue) (old new : Output) (r : Result ℕ EncodeError) → EncodesFrom f 0 old r new → Encodes f old r new
from_start f old new (Ok n) e = (e.0, e.1, anew old new (frame_bytes f) n e.2)
from_start f old new (Err (error.Unfit why)) e = e
from_start f old new (Err (error.Write n)) e = (e.0, e.1, anew old new (frame_bytes f) n e.2)

-- ---- a value

-- as `offer_value` and `offer_content` leave the target
pub value_sent : {X : Type 0} (o : X → Output) (w : X → ℕ) (first last end : X) (size : ℕ) (bytes : List ℕ) (skip lender : ℕ) (a c : Progress) → size ≤ LONGEST_BODY → length bytes ≤ size
    → PutsWithin size (begun (record { output = o first; skip = skip; calls = w first }) lender) bytes a → Flushes a c → o last ≡ c.output → (c.lender ≡ lender → end ≡ last)
    → Continued skip (o first) bytes c.taken (o end) × (c.taken < 2 ^ 32)
value_sent o w first last end size bytes skip lender a c small long value rest left is_last =
    let start : Start = record { output = o first; skip = skip; calls = w first } in
    let whole : HasTaken start bytes a = (value.puts small).taken start [] (nothing_taken start lender (nothing_more start.output.given)) in
    let t = rest.taken start bytes whole in
    sent o _ start last end bytes c t rest.empty (omega (arith, small, long)) left (is_last (rest.lender ∙ value.lender))

pub value_offered : {X : Type 0} (o : X → Output) (w : X → ℕ) (first last end : X) (size : ℕ) (bytes : List ℕ) (skip lender : ℕ) (a c : Progress) → size ≤ LONGEST_BODY → length bytes ≤ size
    → PutsWithin size (begun (record { output = o first; skip = skip; calls = w first }) lender) bytes a → Flushes a c → o last ≡ c.output → (c.lender ≡ lender → end ≡ last)
    → Continued skip (o first) bytes c.taken (o end)
value_offered o w first last end size bytes skip lender a c small long value rest left is_last = (value_sent o w first last end size bytes skip lender a c small long value rest left is_last).0

pub value_few : {X : Type 0} (o : X → Output) (w : X → ℕ) (first last end : X) (size : ℕ) (bytes : List ℕ) (skip lender : ℕ) (a c : Progress) → size ≤ LONGEST_BODY → length bytes ≤ size
    → PutsWithin size (begun (record { output = o first; skip = skip; calls = w first }) lender) bytes a → Flushes a c → w last ≡ c.calls → (c.lender ≡ lender → end ≡ last)
    → FewCalls (c.taken - skip) (w first) (w end)
value_few o w first last end size bytes skip lender a c small long value rest left is_last =
    let start : Start = record { output = o first; skip = skip; calls = w first } in
    let whole : HasTaken start bytes a = (value.puts small).taken start [] (nothing_taken start lender (nothing_more start.output.given)) in
    let t = rest.taken start bytes whole in
    sent_few w _ start last end bytes c t rest.empty (omega (arith, small, long)) left (is_last (rest.lender ∙ value.lender))
