-- Parts that are checked and then written.
use Rattle.std.proofs.Common.{◌≡◌, ◌≢◌, ◌+◌, ◌-◌, ◌≤◌, ◌<◌, ◌^◌, ◌&&◌, ℕ, Bool, true, false, List, [], ◌∷◌, ◌++◌, length, take, nat_le, nat_lt, Option, Some, None, refl, sym, ap, ◌∙◌, subst, append-nil, inl, inr, arith}
use Rattle.std.proofs.lemmas.Bool.{cases_lt, lt-ltb}
use Rattle.std.proofs.lemmas.Bool.Decides.{nat_tests}
use Rattle.std.proofs.lemmas.List.{length-append, length-take-le, take_all, take_at}
use Rattle.std.specs.Prelude.{IfSome, if◌then◌else◌, not, replicate}
use Rattle.std.specs.List.{list_all}
use Rattle.std.specs.Io.KnownBytes.{Appends}
use Rattle.cqlp_note.specs.Outputs.{Output}
use Rattle.cqlp_note.specs.Streams.{counted}
use Rattle.cqlp_note.specs.declared.header.TheConstants.Header.{LONGEST_BODY}
use Rattle.cqlp_message.specs.declared.tally.Tally.{Tally}
use Rattle.cqlp_message.specs.declared.unfit.Unfit.{Unfit}
use Rattle.cqlp_message.specs.declared.unfit.Unfit.TheVariants as unfit
use Rattle.cqlp_message.specs.Agreement.{is_directed, frame_agrees, has_its_cells}
use Rattle.cqlp_message.specs.FrameValues.{FrameValue}
use Rattle.cqlp_message.specs.Parts.{Part, parts_size, parts_bytes, counts_fit, texts_fit, cell_fits}
use Rattle.cqlp_message.specs.PartRefs.{Takes}
use Rattle.cqlp_message.specs.Tallies.{IsTally}
use Rattle.cqlp_message.specs.Frames.{frame_parts, unfit_of, frame_size, first_of}
use Rattle.cqlp_encode.specs.Encoding.{Continued}
use Rattle.cqlp_encode.specs.Progress.{Start, Before, Progress, Flushes, HasTaken, HasTakenWith, HasTakenParts, Puts, begun}
use Rattle.cqlp_encode.specs.Appending.{is_whole, HasCheckedParts, PartsFit, WritesChecked}
use Rattle.cqlp_message.proofs.Tallies.{size_more}
use Rattle.cqlp_encode.proofs.Continuing.{anew}
use Rattle.cqlp_encode.proofs.FramesTaken.{nothing_more, nothing_taken, sent}

-- ---- what a tally says

pub tests_of : (a b c d : Bool) → (a && b && c && d) ≡ true → (a ≡ true) × (b ≡ true) × (c ≡ true) × (d ≡ true)
tests_of true true true true e = (refl, refl, refl, refl)
tests_of true true true false e = absurd cc
tests_of true true false d e = absurd cc
tests_of true false c d e = absurd cc
tests_of false b c d e = absurd cc

below : (m n : ℕ) → nat_le m n ≡ true → m ≤ n
below m n e = grind (arith, nat_tests)

pub whole_size : (t : Tally) → is_whole t ≡ true → t.size ≤ LONGEST_BODY
whole_size t e = below t.size LONGEST_BODY (tests_of t.counts t.texts t.cells (nat_le t.size LONGEST_BODY) e).3

small_parts : (t : Tally) (ps : List Part) → IsTally t ps → is_whole t ≡ true → parts_size ps ≤ LONGEST_BODY
small_parts t ps is e = omega (arith, is.size, whole_size t e)

above : (m n : ℕ) → m ≤ n → nat_le m n ≡ true
above m n e = grind (arith, nat_tests)

whole_tally : (t : Tally) (ps : List Part) → IsTally t ps → list_all counts_fit ps ≡ true → list_all texts_fit ps ≡ true → list_all cell_fits ps ≡ true → parts_size ps ≤ LONGEST_BODY → is_whole t ≡ true
whole_tally t ps is counts texts cells small =
    rw (is.counts ∙ counts, is.texts ∙ texts, is.cells ∙ cells) (above t.size LONGEST_BODY (omega (arith, is.size, small)))

-- ---- what it says that nothing is in the way

last_none : (t : Bool) (why : Unfit) → (if t then Some why else None) ≡ None → t ≡ false
last_none true why e = absurd cc
last_none false why e = refl

not_above : (m n : ℕ) → nat_lt m n ≡ false → n ≤ m
not_above m n e = grind (arith, nat_tests)

none_says : (a b c d e g : Bool) (n : ℕ) → first_of ((not a, unfit.Direction) ∷ (not b, unfit.Parts) ∷ (not c, unfit.TooManyItems) ∷ (not d, unfit.TextTooLong) ∷ (not e, unfit.RowShape) ∷ (not g, unfit.CellType) ∷ (nat_lt LONGEST_BODY n, unfit.BodyTooLong) ∷ []) ≡ None
    → (a ≡ true) × (b ≡ true) × (c ≡ true) × (d ≡ true) × (e ≡ true) × (g ≡ true) × (n ≤ LONGEST_BODY)
none_says false b c d e g n h = absurd cc
none_says true false c d e g n h = absurd cc
none_says true true false d e g n h = absurd cc
none_says true true true false e g n h = absurd cc
none_says true true true true false g n h = absurd cc
none_says true true true true true false n h = absurd cc
none_says true true true true true true n h = (refl, refl, refl, refl, refl, refl, not_above LONGEST_BODY n (last_none (nat_lt LONGEST_BODY n) unfit.BodyTooLong h))

pub nothing_says : (f : FrameValue) → unfit_of f ≡ None
    → (is_directed f ≡ true) × (frame_agrees f ≡ true) × (list_all counts_fit (frame_parts f) ≡ true) × (list_all texts_fit (frame_parts f) ≡ true) × (has_its_cells f.message ≡ true) × (list_all cell_fits (frame_parts f) ≡ true) × (parts_size (frame_parts f) ≤ LONGEST_BODY)
nothing_says f none =
    none_says (is_directed f) (frame_agrees f) (list_all counts_fit (frame_parts f)) (list_all texts_fit (frame_parts f)) (has_its_cells f.message) (list_all cell_fits (frame_parts f)) (parts_size (frame_parts f)) none

-- ---- one part more

-- it is not passed on where there are too many bytes
pub not_passed : (before : Before) (p : Progress) (t t' : Tally) (ps : List Part) (part : Part) → HasCheckedParts before p t ps → IsTally t' (ps ++ part ∷ []) → LONGEST_BODY < t'.size → HasCheckedParts before p t' (ps ++ part ∷ [])
not_passed before p t t' ps part h tally long = record {
  tally = tally;
  passed = h.passed;
  taken = h.taken;
  small = h.small;
  all = λ le. absurd (omega (arith, le, long, tally.size));
}

pub passed_on : (before : Before) (p p' : Progress) (t t' : Tally) (ps : List Part) (part : Part) → HasCheckedParts before p t ps → IsTally t' (ps ++ part ∷ []) → t'.size ≤ LONGEST_BODY → Takes HasTakenParts p p' (part ∷ []) → HasCheckedParts before p' t' (ps ++ part ∷ [])
passed_on before p p' t t' ps part h tally short w =
    let small : parts_size (ps ++ part ∷ []) ≤ LONGEST_BODY = omega (arith, short, tally.size) in
    let earlier : parts_size ps ≤ LONGEST_BODY = omega (arith, small, size_more ps part) in
    record {
      tally = tally;
      passed = ps ++ part ∷ [];
      taken = w.takes before ps (subst (λ (qs : List Part). HasTakenParts before p qs) (h.all earlier) h.taken);
      small = small;
      all = λ le. refl;
    }

-- ---- what there is no room for

not_all : (m n : ℕ) → m ≤ n → m ≢ n → m < n
not_all m n le ne = elim (cases_lt m n) [
  | inl lt ↦ lt
  | inr ge ↦ absurd (ne (omega arith))
]

counted_some : (m n : ℕ) → n ≡ counted true m → n ≢ 0
counted_some m n e zero = omega (arith, e, zero)

-- bytes that fill their room before memory is missing
pub filled : (f : FrameValue) (room room' : ℕ) (old new bytes : List ℕ) (r : Option ℕ) (n : ℕ) → ◌≡◌ {A = List ℕ} (room' ∷ new) (room ∷ (old ++ bytes)) → (r ≡ None → unfit_of f ≡ None → (n ≢ 0) × (length bytes < frame_size f 0)) → (0 < n → room' ≤ length new)
    → r ≡ None → unfit_of f ≡ None → room < length old + frame_size f 0
filled f room room' old new bytes r n e failed full lacks none =
    let so = failed lacks none in
    let same : room' ≡ room = cc in
    let items : new ≡ old ++ bytes = cc in
    let some : 0 < n = not_all 0 n (omega arith) (λ z. so.0 (sym z)) in
    let le = full some in
    let long : length new ≡ length (old ++ bytes) = ap length items in
    omega (arith, le, same, long, length-append old bytes, so.1)

-- ---- a frame

abbrev pub nine : List ℕ
nine = replicate 9 0

module _ {X : Type 0} (o : X → Output) (w : X → ℕ) (first : X) (f : FrameValue) (lender : ℕ) where
  abbrev pub start : Start
  start = record { output = o first; skip = 0; calls = w first }

  pub before : Before
  before = record { start = start; front = nine; lender = lender }

  pub none_checked : (a : Progress) (t : Tally) → Puts (begun start lender) nine a → IsTally t [] → HasCheckedParts before a t []
  unfolding before
  none_checked a t put is = record {
    tally = is;
    passed = [];
    taken = record {
      size = refl;
      taken = λ le. subst (λ (x : List ℕ). HasTaken start x a) (sym (append-nil nine)) (put.taken start [] (nothing_taken start lender (nothing_more start.output.given)));
      lender = put.lender;
    };
    small = omega arith;
    all = λ le. refl;
  }

  module _ (b c : Progress) (t : Tally) (last end : X) (h : HasCheckedParts before b t (frame_parts f)) (rest : Flushes b c) (left : o last ≡ c.output) (is_last : c.lender ≡ lender → end ≡ last) where
    all : List ℕ
    all = nine ++ parts_bytes h.passed

    passed_long : length all ≡ 9 + parts_size h.passed
    unfolding all
    passed_long = omega (arith, length-append nine (parts_bytes h.passed), h.taken.size)

    taken_so : HasTakenWith (256 - length b.waiting) start all c
    unfolding before all
    taken_so = rest.taken start all (h.taken.taken h.small)

    sent_so : Continued 0 (o first) all c.taken (o end) × (c.taken < 2 ^ 32)
    unfolding before
    sent_so = sent o _ start last end all c taken_so rest.empty (omega (arith, passed_long, h.small)) left (is_last (rest.lender ∙ h.taken.lender))

    pub few_taken : c.taken < 2 ^ 32
    few_taken = sent_so.1

    given_so : Appends (o first).given (o end).given (take c.taken all)
    given_so = (anew (o first) (o end) all c.taken sent_so.0).given

    missing : (is_whole t ≡ true → c.taken < t.size + 9) → unfit_of f ≡ None → ((o end).failures ≢ 0) × (length (take c.taken all) < frame_size f 0)
    missing some none =
        let is : IsTally t (frame_parts f) = h.tally in
        let fits = nothing_says f none in
        let small = fits.6 in
        let whole = whole_tally t (frame_parts f) is fits.2 fits.3 fits.5 small in
        let offered = anew (o first) (o end) all c.taken sent_so.0 in
        let same : parts_size h.passed ≡ parts_size (frame_parts f) = ap parts_size (h.all small) in
        let lt : c.taken < length all = omega (arith, some whole, passed_long, same, is.size, small) in
        let long : length (take c.taken all) ≡ c.taken = length-take-le c.taken all offered.bound in
        let failed : (o end).failures ≡ counted true (o first).failures = offered.failures ∙ ap (λ (b : Bool). counted b (o first).failures) (lt-ltb c.taken (length all) lt) in
        (counted_some (o first).failures (o end).failures failed, omega (arith, long, lt, passed_long, same))

    pub not_whole : (is_whole t ≡ true → c.taken < t.size + 9) → WritesChecked f (o first) None (o end)
    not_whole some = record { bytes = take c.taken all; given = given_so; fit = tt; whole = tt; failed = λ e none. missing some none }

    pub whole_frame : is_whole t ≡ true → t.size + 9 ≤ c.taken → WritesChecked f (o first) (Some c.taken) (o end)
    unfolding all
    whole_frame fit enough =
        let is : IsTally t (frame_parts f) = h.tally in
        let tests = tests_of t.counts t.texts t.cells (nat_le t.size LONGEST_BODY) fit in
        let small : parts_size (frame_parts f) ≤ LONGEST_BODY = small_parts t (frame_parts f) is fit in
        let same : parts_size h.passed ≡ parts_size (frame_parts f) = ap parts_size (h.all small) in
        let long : length (parts_bytes (frame_parts f)) ≡ parts_size (frame_parts f) = subst (λ (ps : List Part). length (parts_bytes ps) ≡ parts_size ps) (h.all small) h.taken.size in
        let offered = anew (o first) (o end) all c.taken sent_so.0 in
        let many : c.taken ≡ frame_size f 0 = omega (arith, enough, offered.bound, passed_long, same, is.size, small) in
        record {
          bytes = take c.taken all;
          given = given_so;
          fit = record { counts = sym is.counts ∙ tests.0; texts = sym is.texts ∙ tests.1; cells = sym is.cells ∙ tests.2; small = small; long = long; size = many };
          whole = take_all c.taken all (omega (arith, passed_long, same, many)) ∙ ap (λ (ps : List Part). nine ++ parts_bytes ps) (h.all small);
          failed = λ e. absurd cc;
        }

-- ---- why nothing is in the way

none_of : (a b c d e g : Bool) (n : ℕ) → a ≡ true → b ≡ true → c ≡ true → d ≡ true → e ≡ true → g ≡ true → n ≤ LONGEST_BODY
    → first_of ((not a, unfit.Direction) ∷ (not b, unfit.Parts) ∷ (not c, unfit.TooManyItems) ∷ (not d, unfit.TextTooLong) ∷ (not e, unfit.RowShape) ∷ (not g, unfit.CellType) ∷ (nat_lt LONGEST_BODY n, unfit.BodyTooLong) ∷ []) ≡ None
none_of a b c d e g n ha hb hc hd he hg small =
    let last : nat_lt LONGEST_BODY n ≡ false = grind (arith, nat_tests) in
    rw (ha, hb, hc, hd, he, hg, last) refl

pub nothing_in_the_way : (f : FrameValue) (n : ℕ) → is_directed f ≡ true → frame_agrees f ≡ true → has_its_cells f.message ≡ true → PartsFit f n → unfit_of f ≡ None
nothing_in_the_way f n directed agrees cells fit =
    none_of (is_directed f) (frame_agrees f) (list_all counts_fit (frame_parts f)) (list_all texts_fit (frame_parts f)) (has_its_cells f.message) (list_all cell_fits (frame_parts f)) (parts_size (frame_parts f)) directed agrees fit.counts fit.texts cells fit.cells fit.small

-- if there is an answer
pub none_if_some : (f : FrameValue) (r : Option ℕ) → is_directed f ≡ true → frame_agrees f ≡ true → has_its_cells f.message ≡ true → IfSome r (λ n. PartsFit f n) → IfSome r (λ n. unfit_of f ≡ None)
none_if_some f None directed agrees cells fit = tt
none_if_some f (Some n) directed agrees cells fit = nothing_in_the_way f n directed agrees cells fit

pub appended : (room room' : ℕ) (old new bytes : List ℕ) → ◌≡◌ {A = List ℕ} (room' ∷ new) (room ∷ (old ++ bytes)) → new ≡ old ++ bytes
appended room room' old new bytes e = cc

pub same_room : (room room' : ℕ) (old new : List ℕ) → ◌≡◌ {A = List ℕ} (room' ∷ new) (room ∷ old) → room' ≡ room
same_room room room' old new e = cc

pub none_left : (r : Option ℕ) → ((n : ℕ) → r ≡ Some n → ⊥) → r ≡ None
none_left None never = refl
none_left (Some n) never = absurd (never n refl)

-- what was put behind the bytes is cut off
pub cut_back : (old new bytes left : List ℕ) (start : ℕ) → start ≡ length old → new ≡ old ++ bytes → left ≡ take start new → left ≡ old
cut_back old new bytes left start long more cut = cut ∙ ap (take start) more ∙ take_at old bytes start (sym long)
