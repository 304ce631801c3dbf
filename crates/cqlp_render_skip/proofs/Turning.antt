-- One read after the other.
use Rattle.std.proofs.Common.{◌≡◌, ◌≢◌, ℕ, ◌+◌, ◌*◌, ◌<◌, ◌≤◌, true, false, List, [], ◌∷◌, ◌++◌, length, take, drop, Option, Some, None, IsSome, Result, refl, sym, ap, inl, inr, ◌∙◌, subst, append_assoc, arith}
use Rattle.std.specs.Io.KnownBytes.{Consumes, IsAtEnd, Keeps, append_known}
use Rattle.cqlp_note.specs.Limits.{Rules}
use Rattle.cqlp_note.specs.Streams.{counted, counted_up, CountsUp}
use Rattle.cqlp_note.specs.declared.refusal.Refusal.{Refusal}
use Rattle.cqlp_grammar.specs.declared.event.Finish.{Finish}
use Rattle.cqlp_grammar.specs.declared.event.Finish.TheVariants as finish
use Rattle.cqlp_decode.specs.declared.running.Outcome.{Outcome}
use Rattle.cqlp_decode.specs.declared.running.Outcome.TheVariants as outcome
use Rattle.cqlp_decode.specs.Reading.{Event, Says, Waits, start_with}
use Rattle.cqlp_decode.specs.Draining.{InReads, MakesReads, idle_reads}
use Rattle.cqlp_decode.specs.Streams.{FinishesBy, IsUnrefused}
use Rattle.cqlp_decode.proofs.Asking.{asks_one, asks_still}
use Rattle.cqlp_decode.proofs.Gets.{at_end, gives_end, gives_kept, gives_more, gives_none, idle_at_end, keeps_some, read_some}
use Rattle.cqlp_render.specs.declared.text_form.TextForm.{TextForm}
use Rattle.cqlp_render.specs.Rendering.{FallsShort, rendered}
use Rattle.cqlp_render.specs.Showing.{calls_of}
use Rattle.cqlp_render.specs.Streams.{Input}
use Rattle.cqlp_render.proofs.Renders.{known_nothing, known_still}
use Rattle.cqlp_render.proofs.Buffering.{breaks_short, goes_nowhere, known_taken, goes_same, goes_then, still_rendered, writes_goes}
use Rattle.std.proofs.lemmas.Bool.{cases_lt}
use Rattle.std.specs.Prelude.{Bool}
use Rattle.cqlp_skip.specs.Stretches.{Stretch}
use Rattle.cqlp_skip.specs.Skipping.{Skipping, AfterSkips, FinishesAs, finish_from, stream}
use Rattle.cqlp_text.specs.declared.ending.Ending.{Ending}
use Rattle.cqlp_text.specs.declared.ending.Ending.TheVariants as ending
use Rattle.cqlp_text.specs.Outputs.{Output, output, with_text}
use Rattle.cqlp_text.specs.Written.{BreaksOff, Receives, Writes, Written}
use Rattle.cqlp_grammar.specs.declared.sink.SinkFault.{SinkFault}
use Rattle.cqlp_render_skip.specs.declared.feeding.Handed.{Handed}
use Rattle.cqlp_render_skip.specs.declared.feeding.Handed.TheVariants as handed
use Rattle.cqlp_render_skip.specs.Reporting.{HandsTo, Reporting, Outputs, AreKnown, Fails, GoOn, Reports, SaysAll, outputs}
use Rattle.cqlp_render_skip.specs.Showing.{Begins, FinishesIn, ShowsTo, Reads, ReadsOnlyAfterText, Shows, ShowsAll}
use Rattle.cqlp_render_skip.specs.Texts.{afresh, lines_before, text_with}
use Rattle.cqlp_render_skip.proofs.Stretching.{fails_flushed, still_known, taken_is}

-- so many reads, and one more
pub counts_one : (reads n f f' : ℕ) → CountsUp reads n f → f' ≡ counted true f → CountsUp (reads + 1) n f'
counts_one reads n f f' c is = λ fits. let a = c (omega arith) in omega (arith, is, a)

-- all was passed on
pub passed_on : (r : Reporting) → r.text.written.waiting ≡ [] → (outputs r).out ≡ (rendered r.text).output
passed_on r none = ap (λ g. output g r.text.written.failures) (sym (ap (append_known r.text.written.given) none ∙ known_nothing r.text.written.given))

abbrev pub shows_by : (form : TextForm) (l : Rules) (xs : List ℕ) (first : Outputs) (d : Skipping) (s : List ℕ) (now : Reporting) (r : Reports form l xs first d s now) → now.text.written.waiting ≡ [] → Shows form l xs first now.passed (outputs now)
shows_by form l xs first d s now r none = record {
  d = d;
  s = s;
  stretches = r.stretches;
  events = r.events;
  conforms = r.conforms;
  out = passed_on now none ∙ ap (λ v. v.output) (taken_is form l xs first d s now r);
  err = r.err;
  any_passed = r.passed;
}

-- all that waited was passed on, and nothing else changed
abbrev pub reports_flushed : (form : TextForm) (l : Rules) (xs : List ℕ) (first : Outputs) (d : Skipping) (s : List ℕ) (now now' : Reporting) → AreKnown first → (r : Reports form l xs first d s now) → Receives now.text.written [] now'.text.written → now'.text.form ≡ now.text.form → now'.err ≡ now.err → now'.passed ≡ now.passed → Reports form l xs first d s now'
reports_flushed form l xs first d s now now' known r receives same err passed = record {
  stretches = r.stretches;
  events = r.events;
  conforms = r.conforms;
  text = still_rendered now.text now'.text receives same (still_known form l xs first d s now r known).0 ∙ r.text;
  err = err ∙ r.err;
  passed = passed ∙ r.passed;
}

some_same : (xs ys : List ℕ) (o : Option (List ℕ)) → o ≡ Some xs → o ≡ Some ys → xs ≡ ys
some_same xs ys o a b = let e : ◌≡◌ {A = Option (List ℕ)} (Some xs) (Some ys) = sym a ∙ b in cc

pub makes_reads : (turns : ℕ) (o : Outcome) (xs : List ℕ) (was now : Input) (giving : ℕ) → was.left ≡ Some xs → CountsUp (giving + idle_reads o) was.reads now.reads → CountsUp (4096 * (giving + idle_reads o)) was.asked now.asked → giving + idle_reads o ≤ turns → (o ≡ outcome.Turns → giving ≡ turns) → InReads giving xs now.left → MakesReads turns o (calls_of was) (calls_of now) was.left now.left
makes_reads turns o xs was now giving here counts asks within all gave = record {
  giving = giving;
  counted = counts;
  asked = asks;
  within = within;
  all = all;
  gives = λ ys is. subst (λ (z : List ℕ). InReads giving z now.left) (some_same xs ys was.left here is) gave;
}

-- ---- the end of the input

from_free : (d : Skipping) (own : Finish) → IsUnrefused own → IsUnrefused (finish_from d own)
from_free d (finish.Whole n) free = free
from_free d (finish.Cut at n) free = free
from_free d (finish.Refused r) free = absurd free

by_free : (s : List ℕ) (es : List (ℕ × Event)) (own : Finish) → FinishesBy None s es own → IsUnrefused own
by_free s es (finish.Whole n) by = tt
by_free s es (finish.Cut at n) by = tt
by_free s es (finish.Refused r) by = absurd by

-- a stream that is not refused does not end as one that is
pub finishes_free : (xs : List ℕ) (d : Skipping) (f : Finish) (s : List ℕ) (stretches : List Stretch) (es : List (ℕ × Event)) → AfterSkips xs d s stretches [] es → (stream d).refusal ≡ None → FinishesAs d f → IsUnrefused f
finishes_free xs d f s stretches es a free fin = elim (cases_lt d.used d.base) [
  | inl lt ↦ subst IsUnrefused (sym (fin.within lt)) tt
  | inr le ↦
      let b = fin.behind le in
      let by = subst (λ (o : Option Refusal). FinishesBy o (drop d.base s) es b.0) free (b.1 [] (drop d.base s) es a.conforms) in
      subst IsUnrefused (sym b.2) (from_free d b.0 (by_free (drop d.base s) es b.0 by))
]

pub finishes_in : (form : TextForm) (l : Rules) (xs : List ℕ) (first : Outputs) (f : Finish) (passed : Bool) (after : Outputs) (left : Option (List ℕ)) → IsUnrefused f → (x : ShowsAll form l xs first passed after left) → left ≡ Some [] → FinishesAs x.0.d f → FinishesIn form l xs first f passed after left
finishes_in form l xs first (finish.Whole n) passed after left free x none fin = (x, none, fin)
finishes_in form l xs first (finish.Cut at n) passed after left free x none fin = (x, none, fin)
finishes_in form l xs first (finish.Refused r) passed after left free x none fin = absurd free

module _ (form : TextForm) (l : Rules) (xs : List ℕ) (first : Outputs) (turns : ℕ) (was : Input) where
  -- After so many reads, each of some bytes, all events of these were handed out, and all text was passed on.
  pub record Turned (turn : ℕ) (now : Input) (d : Skipping) (report : Reporting) : Type 0 where
    pub fresh : afresh form ≡ form
    pub known : AreKnown first
    pub here : was.left ≡ Some xs
    pub bytes : List ℕ
    pub reports : Reports form l xs first d bytes report
    pub says : SaysAll l d bytes reports.events
    pub free : (stream d).refusal ≡ None
    pub rest : List ℕ
    pub parts : xs ≡ bytes ++ rest
    pub left : now.left ≡ Some rest
    pub empty : report.text.written.waiting ≡ []
    pub failures : now.failures ≡ was.failures
    pub counted : CountsUp turn was.reads now.reads
    pub asked : CountsUp (4096 * turn) was.asked now.asked
    pub gives : InReads turn xs now.left
    pub in_time : ReadsOnlyAfterText form l xs first turns was.reads now.reads now.left (outputs report)

  module _ (turn : ℕ) (now : Input) (d : Skipping) (report : Reporting) (t : Turned turn now d report) where
    -- what was written, where all was passed on
    abbrev pub shows_of : Shows form l xs first report.passed (outputs report)
    shows_of = shows_by form l xs first d t.bytes report t.reports t.empty

    -- the last read
    module _ (now' : Input) (report' : Reporting) (more : turn + 1 ≤ turns) (read : now'.reads ≡ counted true now.reads) (goes : GoOn report report') where
      pub last_read : (giving : ℕ) → giving ≤ 1 → InReads giving t.rest now'.left → ReadsOnlyAfterText form l xs first turns was.reads now'.reads now'.left (outputs report')
      last_read giving small gave = inr (record {
        earlier = turn;
        counted = counts_one turn was.reads now.reads now'.reads t.counted read;
        within = more;
        d = d;
        s = t.bytes;
        stretches = t.reports.stretches;
        events = t.reports.events;
        conforms = t.reports.conforms;
        waits = t.says;
        rest = t.rest;
        parts = t.parts;
        gave = subst (λ (left : Option (List ℕ)). InReads turn xs left) t.left t.gives;
        out = goes_then _ _ _ (goes_same _ _ (sym (ap (λ (o : Output). o.given) shows_of.out))) goes.0;
        err = goes_then _ _ _ (goes_same _ _ (sym (ap (λ (o : Output). o.given) t.reports.err))) goes.1;
        last = (giving, small, gave);
      })

  -- ---- how it ends

  module _ (turn : ℕ) (now now' : Input) (d : Skipping) (report : Reporting) (t : Turned turn now d report) (more : turn + 1 ≤ turns) (read : now'.reads ≡ counted true now.reads) (asks : now'.asked ≡ counted_up 4096 now.asked) where
    asks' : (k : ℕ) → k ≡ 1 → CountsUp (4096 * (turn + k)) was.asked now'.asked
    asks' k one = asks_one turn k was.asked now.asked now'.asked 4096 one refl t.asked asks

    -- nothing more was given
    nowhere : GoOn report report
    nowhere = (goes_nowhere report.text.written.given, goes_nowhere report.err.given)

    pub read_fault : now'.failures ≡ counted true now.failures → Keeps now.left now'.left → Reads form l xs first turns ending.ReadFault report.passed was now' (outputs report)
    read_fault failed keeps = record {
      shows = (shows_of turn now d report t, t.says, t.rest, t.parts, keeps_some now.left now'.left t.rest t.left keeps);
      failures = failed ∙ ap (counted true) t.failures;
      reads = makes_reads turns outcome.ReadFault xs was now' turn t.here (counts_one turn was.reads now.reads now'.reads t.counted read) (asks' 1 refl) more (λ is. absurd (let e = is in cc)) (gives_kept turn xs now.left now'.left t.gives keeps);
      in_time = last_read turn now d report t now' report more read nowhere 0 (omega arith) (gives_kept 0 t.rest now.left now'.left (gives_none t.rest now.left t.left) keeps);
    }

    module _ (buffer : List ℕ) (n : ℕ) (long : length buffer ≡ 4096) (same : now'.failures ≡ now.failures) (came : Consumes now.left now'.left (take n buffer) × (n ≡ 0 → 0 < length buffer → IsAtEnd now'.left)) where
      some_room : 0 < length buffer
      some_room = omega (arith, long)

      pub input_ends : (f : Finish) → n ≡ 0 → FinishesAs d f → Reads form l xs first turns (ending.Finished f) report.passed was now' (outputs report)
      input_ends f zero fin =
          let r = read_some now.left now'.left t.rest buffer n t.left came.0 came.1 in
          let none : r.0 ≡ [] = r.3 zero some_room in
          let end : now'.left ≡ Some [] = r.1 ∙ ap (λ (z : List ℕ). Some z) none in
          let rest : t.rest ≡ [] = at_end t.rest r.0 buffer n r.2 zero none in
          let free = finishes_free xs d f t.bytes t.reports.stretches t.reports.events t.reports.conforms.after t.free fin in
          let idle : idle_reads (outcome.Finished f) ≡ 1 = idle_at_end f free in
          record {
            shows = finishes_in form l xs first f report.passed (outputs report) now'.left free (shows_of turn now d report t, t.says, [], t.parts ∙ ap (λ (z : List ℕ). t.bytes ++ z) rest, end) end fin;
            failures = same ∙ t.failures;
            reads = makes_reads turns (outcome.Finished f) xs was now' turn t.here
                (subst (λ (k : ℕ). CountsUp (turn + k) was.reads now'.reads) (sym idle) (counts_one turn was.reads now.reads now'.reads t.counted read))
                (asks' _ idle) (omega (arith, more, idle)) (λ is. absurd (let e = is in cc)) (gives_end turn xs now.left now'.left buffer n zero some_room t.gives came);
            in_time = last_read turn now d report t now' report more read nowhere 0 (omega arith) (gives_end 0 t.rest now.left now'.left buffer n zero some_room (gives_none t.rest now.left t.left) came);
          }

      module _ (some : 0 < n) (within : n ≤ length buffer) (d' : Skipping) (report' report'' : Reporting) (goes : GoOn report report'') where
        pub read_more : InReads (turn + 1) xs now'.left
        read_more = gives_more turn xs now.left now'.left buffer n some within long t.gives came

        in_time' : ReadsOnlyAfterText form l xs first turns was.reads now'.reads now'.left (outputs report'')
        in_time' = last_read turn now d report t now' report'' more read goes 1 (omega arith) (gives_more 0 t.rest now.left now'.left buffer n some within long (gives_none t.rest now.left t.left) came)

        counts' : CountsUp (turn + 1) was.reads now'.reads
        counts' = counts_one turn was.reads now.reads now'.reads t.counted read

        counts'' : (k : ℕ) → k ≡ 0 → CountsUp ((turn + 1) + k) was.reads now'.reads
        counts'' k zero = subst (λ (m : ℕ). CountsUp m was.reads now'.reads) (omega (arith, zero)) counts'

        asks'' : CountsUp (4096 * ((turn + 1) + 0)) was.asked now'.asked
        asks'' = asks_still (turn + 1) 0 was.asked now'.asked refl (asks' 1 refl)

        pub write_fault : Fails form l xs first report''.passed (outputs report'') → Reads form l xs first turns ending.WriteFault report''.passed was now' (outputs report'')
        write_fault fails = record {
          shows = fails;
          failures = tt;
          reads = (outcome.SinkFault, makes_reads turns outcome.SinkFault xs was now' (turn + 1) t.here (counts'' 0 refl) asks'' (omega (arith, more)) (λ is. absurd (let e = is in cc)) read_more);
          in_time = in_time';
        }

        -- the piece that was read
        piece_parts : (left : List ℕ) → t.rest ≡ take n buffer ++ left → xs ≡ (t.bytes ++ take n buffer) ++ left
        piece_parts left is = t.parts ∙ ap (λ (z : List ℕ). t.bytes ++ z) is ∙ sym (append_assoc t.bytes (take n buffer) left)

        pub led_to : (x : Handed) → ((later : List ℕ) → xs ≡ (t.bytes ++ take n buffer) ++ later → HandsTo form l xs first t.bytes (take n buffer) x d' report') → HandsTo form l xs first t.bytes (take n buffer) x d' report'
        led_to x hands =
            let r = read_some now.left now'.left t.rest buffer n t.left came.0 came.1 in
            hands r.0 (piece_parts r.0 r.2)

        -- a flush that fails
        flush_by : (x : Handed) → x ≢ handed.Fault → HandsTo form l xs first t.bytes (take n buffer) x d' report' → (s : List ℕ) × Reports form l xs first d' s report'
        flush_by handed.More sound h = (t.bytes ++ take n buffer, h.0)
        flush_by (handed.Refused r) sound h = (h.0, h.1)
        flush_by handed.Fault sound h = absurd (sound refl)

        pub flush_fault : (x : Handed) → x ≢ handed.Fault → HandsTo form l xs first t.bytes (take n buffer) x d' report' → BreaksOff report'.text.written [] report''.text.written → report''.err ≡ report'.err → report''.passed ≡ report'.passed → Reads form l xs first turns ending.WriteFault report''.passed was now' (outputs report'')
        flush_fault x sound h breaks err passed =
            let r = flush_by x sound h in
            let known = (still_known form l xs first d' r.0 report' r.1 t.known).0 in
            write_fault (fails_flushed form l xs first d' r.0 report' r.1 d' r.0 report'' (breaks_short report'.text.written report''.text.written [] breaks known) err passed)

        module _ (takes : Receives report'.text.written [] report''.text.written) (empty : report''.text.written.waiting ≡ []) (same_form : report''.text.form ≡ report'.text.form) (err : report''.err ≡ report'.err) (passed : report''.passed ≡ report'.passed) where
          abbrev flushed : (s : List ℕ) → Reports form l xs first d' s report' → Reports form l xs first d' s report''
          flushed s r = reports_flushed form l xs first d' s report' report'' t.known r takes same_form err passed

          pub refused_for_good : (q : Refusal) → HandsTo form l xs first t.bytes (take n buffer) (handed.Refused q) d' report' → Reads form l xs first turns (ending.Finished (finish.Refused q)) report''.passed was now' (outputs report'')
          refused_for_good q h = record {
            shows = (shows_by form l xs first d' h.0 report'' (flushed h.0 h.1) empty, h.2);
            failures = same ∙ t.failures;
            reads = makes_reads turns (outcome.Finished (finish.Refused q)) xs was now' (turn + 1) t.here (counts'' 0 refl) asks'' (omega (arith, more)) (λ is. absurd (let e = is in cc)) read_more;
            in_time = in_time';
          }

          pub one_more : HandsTo form l xs first t.bytes (take n buffer) handed.More d' report' → Turned (turn + 1) now' d' report''
          one_more h =
              let r = read_some now.left now'.left t.rest buffer n t.left came.0 came.1 in
              record {
                fresh = t.fresh;
                known = t.known;
                here = t.here;
                bytes = t.bytes ++ take n buffer;
                reports = flushed (t.bytes ++ take n buffer) h.0;
                says = h.1;
                free = h.2;
                rest = r.0;
                parts = piece_parts r.0 r.2;
                left = r.1;
                empty = empty;
                failures = same ∙ t.failures;
                counted = counts';
                asked = asks' 1 refl;
                gives = read_more;
                in_time = in_time';
              }

  -- as many reads were made as may be
  pub turns_out : (now : Input) (d : Skipping) (report : Reporting) → Turned turns now d report → Reads form l xs first turns ending.TooManyTurns report.passed was now (outputs report)
  turns_out now d report t = record {
    shows = (shows_of turns now d report t, t.says, t.rest, t.parts, t.left);
    failures = t.failures;
    reads = makes_reads turns outcome.Turns xs was now turns t.here (subst (λ (k : ℕ). CountsUp k was.reads now.reads) (omega arith) t.counted) (asks_still turns 0 was.asked now.asked refl t.asked) (omega arith) (λ is. refl) t.gives;
    in_time = t.in_time;
  }

  -- nothing was read yet
  pub begins : (d : Skipping) (report : Reporting) → Begins form l xs first was.left d report → Turned 0 was d report
  begins d report b = record {
    fresh = b.fresh;
    known = b.known;
    here = b.here;
    bytes = [];
    reports = record {
      stretches = [];
      events = [];
      conforms = record { after = b.after; plain = tt; rules = b.rules; last = tt };
      text = ap (λ (r : Reporting). rendered r.text) b.begun;
      err = ap (λ (r : Reporting). r.err) b.begun ∙ ap (λ g. output g first.err.failures) (sym (known_nothing first.err.given));
      passed = ap (λ (r : Reporting). r.passed) b.begun;
    };
    says = subst (λ (k : ℕ). Says l (start_with []) (drop k []) [] Waits) (sym b.after.base) (start_with [], [], (refl, refl), tt);
    free = b.unrefused;
    rest = xs;
    parts = refl;
    left = b.here;
    empty = ap (λ (r : Reporting). r.text.written.waiting) b.begun;
    failures = refl;
    counted = λ fits. omega arith;
    asked = λ fits. omega arith;
    gives = gives_none xs was.left b.here;
    in_time = inl (refl, b.here);
  }

-- ---- what is known of the outputs in the end

known_with : (o new : Output) (x : List ℕ) → IsSome o.given → new ≡ with_text o x → IsSome new.given
known_with o new x known is = subst (λ (z : Output). IsSome z.given) (sym is) (known_still o.given x known)

known_short : (o new : Output) (x : List ℕ) → IsSome o.given → FallsShort o x new → IsSome new.given
known_short o new x known s = known_taken new.given (s.lost ∷ s.later) (subst (λ (g : Option (List ℕ)). IsSome g) (sym s.front) (known_still o.given x known))

module _ (form : TextForm) (l : Rules) (xs : List ℕ) (first : Outputs) (known : AreKnown first) (passed : Bool) (after : Outputs) (left : Option (List ℕ)) where
  shows_known : Shows form l xs first passed after → AreKnown after
  shows_known x = (known_with first.out after.out (text_with form x.stretches x.events) known.0 x.out, known_with first.err after.err (lines_before x.stretches) known.1 x.err)

  finished_known : (f : Finish) → FinishesIn form l xs first f passed after left → AreKnown after
  finished_known (finish.Whole n) x = shows_known x.0.0
  finished_known (finish.Cut at n) x = shows_known x.0.0
  finished_known (finish.Refused r) x = shows_known x.0

  failed_known : Fails form l xs first passed after → AreKnown after
  failed_known (inl x) = (known_short first.out after.out (text_with form x.stretches x.events) known.0 x.out, known_with first.err after.err (lines_before x.emitted) known.1 x.err)
  failed_known (inr x) = (known_with first.out after.out (text_with form x.stretches []) known.0 x.out, known_short first.err after.err (lines_before x.stretches) known.1 x.err)

  pub ends_known : (e : Ending) → ShowsTo form l xs first e passed after left → AreKnown after
  ends_known (ending.Finished f) x = finished_known f x
  ends_known ending.ReadFault x = shows_known x.0
  ends_known ending.TooManyTurns x = shows_known x.0
  ends_known ending.WriteFault x = failed_known x
  ends_known ending.NoMemory x = subst AreKnown (sym x.1) known
  ends_known ending.BadReply x = absurd x
  ends_known ending.SocketFault x = absurd x

-- a piece that neither failed nor was refused
pub is_more : (x : Handed) → x ≢ handed.Fault → ((r : Refusal) → x ≡ handed.Refused r → ⊥) → x ≡ handed.More
is_more handed.More sound free = refl
is_more (handed.Refused r) sound free = absurd (free r refl)
is_more handed.Fault sound free = absurd (sound refl)

-- what a flush gives
pub flush_goes : (a b : Reporting) (x : List ℕ) (r : Result (Unit {0}) SinkFault) → Writes a.text.written x r b.text.written → b.err ≡ a.err → GoOn a b
flush_goes a b x r writes err = (writes_goes a.text.written b.text.written x r writes, goes_same a.err.given b.err.given (sym (ap (λ (o : Output). o.given) err)))

-- a report over a buffer, before anything was written
abbrev pub begun_with : Written → TextForm → Output → Reporting
begun_with w form err = record { text = record { written = w; form = form }; err = err; passed = false }
