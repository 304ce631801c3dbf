-- One step: what is skipped, headers, and what follows them.
use Rattle.std.proofs.Common.{◌≡◌, ℕ, Bool, true, false, ◌+◌, ◌-◌, ◌<◌, ◌≤◌, ◌^◌, List, [], ◌∷◌, ◌++◌, length, take, refl, sym, ap, ◌∙◌, arith, length-append}
use Rattle.std.specs.Prelude.{Option, Some, None, Ok, Err, min}
use Rattle.std.proofs.Math.Seq.{take-append-add}
use Rattle.std.proofs.lemmas.Bool.{lt-ltb, le-ltb}
use Rattle.std.proofs.lemmas.List.{length-take-le}
use Rattle.cqlp_note.specs.declared.refusal.Reason.{Reason}
use Rattle.cqlp_note.specs.declared.refusal.Refusal.{Refusal}
use Rattle.cqlp_note.specs.declared.header.Header.{Header}
use Rattle.cqlp_note.specs.Reader.{Bad, Got}
use Rattle.cqlp_note.specs.Step.{Emitted}
use Rattle.cqlp_note.specs.Heading.{heading}
use Rattle.cqlp_note.specs.Limits.{rules_asked}
use Rattle.cqlp_type.specs.Forests.{Forest}
use Rattle.cqlp_grammar.specs.Productions.{Stream, message}
use Rattle.cqlp_grammar.specs.declared.productions.Expected.{Expected}
use Rattle.cqlp_grammar.specs.declared.productions.Expected.TheVariants as due
use Rattle.cqlp_grammar.specs.declared.upcoming.Slot.{Slot}
use Rattle.cqlp_decode.specs.declared.progress.StreamStage.{StreamStage}
use Rattle.cqlp_decode.specs.declared.progress.StreamStage.TheVariants as stage
use Rattle.cqlp_decode.specs.declared.progress.StreamProgress.{StreamProgress}
use Rattle.cqlp_decode.specs.declared.advance.EventAdvance.TheVariants as advance
use Rattle.cqlp_decode.specs.declared.advance.EventOutline.TheVariants as what
use Rattle.cqlp_grammar.specs.Upcoming.{IsDue, Pops}
use Rattle.cqlp_decode.specs.Reading as reading
use Rattle.cqlp_decode.specs.Reading.{Given, Place, retired}
use Rattle.cqlp_decode.specs.Pages.{given_of, ended_use}
use Rattle.cqlp_decode.specs.declared.given.GivenUse.{GivenUse}
use Rattle.cqlp_decode.specs.declared.given.GivenUse.TheVariants as uses
use Rattle.cqlp_type.specs.Table.{Table}
use Rattle.cqlp_decode.specs.Progress.{IsPending, state_of, place_at, offset_at, pending_at, symbols_at, rest_of, stage_with, came_of, said, Gives, Waits, Moves, PartsState, IsIdle, ends_due, nodes_of, HasRoom, Starts, StageHolds, TableHolds, IsPlaced, IsNoPage, UsesGiven, IsConsistent}
use Rattle.cqlp_decode.proofs.Columns.{cells_due}

-- what was given, after the end of a frame
pub retired_use : (u : GivenUse) (g : Option Table) → given_of (ended_use u) g ≡ retired (given_of u g)
retired_use u None = refl
retired_use uses.Waiting (Some t) = refl
retired_use uses.InUse (Some t) = refl
retired_use uses.Used (Some t) = refl

-- ---- what is skipped

pub extra_waits : (s new : StreamProgress) (q : PartsState) (input : List ℕ) (used : ℕ) → s.stage ≡ stage.Extra → s.came ≤ s.stop - s.offset → used ≡ min (s.stop - s.offset - s.came) (length input) → s.came + used < s.stop - s.offset
    → new ≡ record s { came = s.came + used } → Waits (state_of s q) input used (state_of new q)
extra_waits s new q input used here le is less same = rw same (record {
  all = omega arith;
  place = refl;
  frame = refl;
  waits = λ b came.
      let long : length b ≡ s.came = rw here at came in
      let short : length (b ++ input) < s.stop - s.offset = omega (arith, length-append b input) in
      (rw (here, lt-ltb _ _ short) refl, rw here (omega (arith, length-append b input)));
})

extra_moves : (s : StreamProgress) (q : PartsState) (input : List ℕ) (used : ℕ) → s.stage ≡ stage.Extra → s.offset ≤ s.stop → s.came ≤ s.stop - s.offset → used ≡ min (s.stop - s.offset - s.came) (length input) → s.stop - s.offset ≤ s.came + used
    → Moves (state_of s q) input (advance.Event s.stop used (what.End (s.stop - s.offset))) (state_of (record s { frame = s.stop; offset = s.stop; stage = stage.Header; came = 0; given_use = ended_use s.given_use }) q)
extra_moves s q input used here inside le is all = (
  tt,
  record {
    within = omega arith;
    begun = refl;
    frame = refl;
    lent = tt;
    kept = λ _. tt;
    gives = λ b came.
        let size : length b ≡ s.came = rw here at came in
        let long : s.stop - s.offset ≤ length (b ++ input) = omega (arith, length-append b input) in
        let same : 0 + (s.stop - s.offset) ≡ length b + used = omega arith in
        let x : Emitted reading.Event Place = record { at = s.stop; event = reading.End (s.stop - s.offset); after = λ k. place_at s.stop s.stop (Stream ∷ []) q.table.nodes (retired (given_of s.given_use q.given)) } in
        (x, rw (here, le-ltb _ _ long) (ap (λ (k : ℕ). Got x k) same), refl, refl, λ j. place_at s.stop s.stop (Stream ∷ []) q.table.nodes (sym (retired_use s.given_use q.given) j));
    offset = λ b came. let size : length b ≡ s.came = rw here at came in rw here (omega arith);
    gifts = refl;
    due = refl;
    pays = rw here (omega arith);
  },
)

-- a frame that is ended
pub extra_hands : (s t : StreamProgress) (q : PartsState) (input : List ℕ) (used : ℕ) → t ≡ record s { frame = s.stop; offset = s.stop; came = 0; stage = stage.Header; given_use = ended_use s.given_use } → s.stage ≡ stage.Extra → s.offset ≤ s.stop → s.came ≤ s.stop - s.offset → used ≡ min (s.stop - s.offset - s.came) (length input) → s.stop - s.offset ≤ s.came + used
    → Moves (state_of s q) input (advance.Event s.stop used (what.End (s.stop - s.offset))) (state_of t q)
extra_hands s t q input used ended here inside le is all = rw ended (extra_moves s q input used here inside le is all)

-- ---- a message goes on

-- nothing has come of what is read now
pub begun_bare : (t : StreamStage) (upcoming : List Slot) (header : List ℕ) (came : ℕ) (q : PartsState) → HasRoom t upcoming → came ≡ 0 → q.partial.under_way ≡ false → IsPending (pending_at t header came q) []
begun_bare stage.Header upcoming header came q room none idle = absurd room
begun_bare (stage.Field w) upcoming header came q room none idle = rw idle refl
begun_bare stage.BeforeType upcoming header came q room none idle = refl
begun_bare stage.InType upcoming header came q room none idle = absurd room
begun_bare (stage.BeforeCell p) upcoming header came q room none idle = absurd room
begun_bare (stage.InCell p) upcoming header came q room none idle = absurd room
begun_bare stage.Extra upcoming header came q room none idle = sym none

pub begun : (s : StreamProgress) (t : StreamStage) (header : List ℕ) (came : ℕ) (q : PartsState) → Starts s q t → came ≡ 0 → q.partial.under_way ≡ false → IsPending (pending_at t header came q) []
begun s stage.Header header came q start none idle = absurd start
begun s (stage.Field w) header came q start none idle = rw idle refl
begun s stage.BeforeType header came q start none idle = refl
begun s stage.InType header came q start none idle = absurd start
begun s (stage.BeforeCell p) header came q start none idle = refl
begun s (stage.InCell p) header came q start none idle = absurd start
begun s stage.Extra header came q start none idle = sym none

-- its end is still to come
pub one_due_bare : (t : StreamStage) (q : PartsState) (upcoming : List Slot) → HasRoom t upcoming → ends_due (symbols_at t q upcoming) ≡ 1
one_due_bare stage.Header q upcoming room = absurd room
one_due_bare (stage.Field w) q upcoming room = refl
one_due_bare stage.BeforeType q upcoming room = refl
one_due_bare stage.InType q upcoming room = absurd room
one_due_bare (stage.BeforeCell p) q upcoming room = absurd room
one_due_bare (stage.InCell p) q upcoming room = absurd room
one_due_bare stage.Extra q upcoming room = refl

pub one_due : (s : StreamProgress) (t : StreamStage) (q : PartsState) → Starts s q t → ends_due (symbols_at t q s.upcoming) ≡ 1
one_due s stage.Header q start = absurd start
one_due s (stage.Field w) q start = refl
one_due s stage.BeforeType q start = refl
one_due s stage.InType q start = absurd start
one_due s (stage.BeforeCell p) q start = cells_due (nodes_of q p.columns) s.limits.depth p (rest_of s.upcoming) start.0.0
one_due s (stage.InCell p) q start = absurd start
one_due s stage.Extra q start = refl

-- it begins at the offset
pub offset_is_bare : (t : StreamStage) (offset : ℕ) (q : PartsState) (upcoming : List Slot) → HasRoom t upcoming → offset_at t offset q ≡ offset
offset_is_bare stage.Header offset q upcoming room = absurd room
offset_is_bare (stage.Field w) offset q upcoming room = refl
offset_is_bare stage.BeforeType offset q upcoming room = refl
offset_is_bare stage.InType offset q upcoming room = absurd room
offset_is_bare (stage.BeforeCell p) offset q upcoming room = absurd room
offset_is_bare (stage.InCell p) offset q upcoming room = absurd room
offset_is_bare stage.Extra offset q upcoming room = refl

pub offset_is : (s : StreamProgress) (t : StreamStage) (q : PartsState) → Starts s q t → offset_at t s.offset q ≡ s.offset
offset_is s stage.Header q start = absurd start
offset_is s (stage.Field w) q start = refl
offset_is s stage.BeforeType q start = refl
offset_is s stage.InType q start = absurd start
offset_is s (stage.BeforeCell p) q start = refl
offset_is s (stage.InCell p) q start = absurd start
offset_is s stage.Extra q start = refl

-- what holds of the next stage, of which nothing has come
pub fresh_stage : (e : StreamProgress) (q : PartsState) (t : StreamStage) → Starts e q t → IsIdle q → e.came ≡ 0 → StageHolds e q t
fresh_stage e q stage.Header start idle none = absurd start
fresh_stage e q (stage.Field w) start idle none = (
  record {
    room = start.0;
    read = start.1;
    field = λ busy. let shut : ◌≡◌ {A = Bool} true false = sym busy ∙ idle.field in absurd cc;
    waits = λ some. let long : length (came_of q.partial) ≡ 0 = rw idle.field refl in absurd (omega arith);
    came = none;
  },
  idle.types,
  idle.cells,
)
fresh_stage e q stage.BeforeType start idle none = (idle, none)
fresh_stage e q stage.InType start idle none = absurd start
fresh_stage e q (stage.BeforeCell p) start idle none = (start.0, idle, none)
fresh_stage e q (stage.InCell p) start idle none = absurd start
fresh_stage e q stage.Extra start idle none = (omega arith, idle)

-- the table then holds whole types alone
pub fresh_table : (e : StreamProgress) (q : PartsState) (t : StreamStage) → Starts e q t → Forest q.table.nodes 0 e.limits.depth → TableHolds (rules_asked e.limits) q t
fresh_table e q stage.Header start f = f
fresh_table e q (stage.Field w) start f = f
fresh_table e q stage.BeforeType start f = f
fresh_table e q stage.InType start f = absurd start
fresh_table e q (stage.BeforeCell p) start f = f
fresh_table e q (stage.InCell p) start f = f
fresh_table e q stage.Extra start f = f

-- where a message goes on without a page
pub starts_bare : (s : StreamProgress) (q : PartsState) (t : StreamStage) → HasRoom t s.upcoming → Starts s q t
starts_bare s q stage.Header room = room
starts_bare s q (stage.Field w) room = room
starts_bare s q stage.BeforeType room = room
starts_bare s q stage.InType room = room
starts_bare s q (stage.BeforeCell p) room = absurd room
starts_bare s q (stage.InCell p) room = room
starts_bare s q stage.Extra room = room

-- a page that goes on is typed by the given table only while it is in use
pub starts_uses : (s : StreamProgress) (q : PartsState) (t : StreamStage) → Starts s q t → UsesGiven (given_of s.given_use q.given) t
starts_uses s q stage.Header start = tt
starts_uses s q (stage.Field w) start = tt
starts_uses s q stage.BeforeType start = tt
starts_uses s q stage.InType start = tt
starts_uses s q (stage.BeforeCell p) start = start.1
starts_uses s q (stage.InCell p) start = absurd start
starts_uses s q stage.Extra start = tt

-- the same where no page is read
pub no_page_uses : (u : Given) (t : StreamStage) → IsNoPage t → UsesGiven u t
no_page_uses u stage.Header none = tt
no_page_uses u (stage.Field w) none = tt
no_page_uses u stage.BeforeType none = tt
no_page_uses u stage.InType none = tt
no_page_uses u (stage.BeforeCell p) none = absurd none
no_page_uses u (stage.InCell p) none = absurd none
no_page_uses u stage.Extra none = tt

pub next_symbols : (old new : List Slot) (o : Option Expected) → Pops old o new → (q : PartsState) → symbols_at (stage_with o) q new ≡ rest_of old
next_symbols old new None n q = rw n.0 refl
next_symbols old new (Some (due.Field w)) n q = rw n.0 refl
next_symbols old new (Some due.Option) n q = rw n.0 refl

pub next_room : (old new : List Slot) (o : Option Expected) → Pops old o new → HasRoom (stage_with o) new
next_room old new None n = tt
next_room old new (Some (due.Field w)) n = (n.1, n.2)
next_room old new (Some due.Option) n = tt

-- the reading goes on with what is due, and passes it
module _ (s mid : StreamProgress) (new : List Slot) (o : Option Expected) (is : mid ≡ record s { stage = stage_with o }) (d : IsDue s.upcoming o) (passes : (o : Option Expected) → IsDue mid.upcoming o → Pops mid.upcoming o new) where
  passed : Pops s.upcoming o new
  passed = (rw is at passes) o d

  pub passed_symbols : (q : PartsState) → symbols_at mid.stage q new ≡ rest_of s.upcoming
  passed_symbols q = rw is (next_symbols s.upcoming new o passed q)

  pub passed_room : HasRoom mid.stage new
  passed_room = rw is (next_room s.upcoming new o passed)

pub placed : (s : StreamProgress) (q : PartsState) (t : StreamStage) → StageHolds s q t → IsPlaced s q t
placed s q stage.Header h = (h.0, h.2)
placed s q (stage.Field w) h = tt
placed s q stage.BeforeType h = tt
placed s q stage.InType h = h.0
placed s q (stage.BeforeCell p) h = h.0
placed s q (stage.InCell p) h = h.0
placed s q stage.Extra h = h.0

-- a refusal changes nothing of the rest
stage_refused : (s : StreamProgress) (q : PartsState) (r : Option Refusal) (u : GivenUse) (t : StreamStage) → StageHolds s q t → StageHolds (record s { refusal = r; given_use = u }) q t
stage_refused s q r u stage.Header h = h
stage_refused s q r u (stage.Field w) h = (record { room = h.0.room; read = h.0.read; field = h.0.field; waits = h.0.waits; came = h.0.came }, h.1, h.2)
stage_refused s q r u stage.BeforeType h = h
stage_refused s q r u stage.InType h = (record { under_way = h.0.under_way; some = h.0.some; shared = h.0.shared; stop = h.0.stop; after = h.0.after; inside = h.0.inside; came = h.0.came }, h.1, h.2)
stage_refused s q r u (stage.BeforeCell p) h = h
stage_refused s q r u (stage.InCell p) h = (record { under_way = h.0.under_way; conforms = h.0.conforms; joined = h.0.joined; some = h.0.some; is = h.0.is; page = h.0.page; stop = h.0.stop; after = h.0.after; came = h.0.came }, h.1)
stage_refused s q r u stage.Extra h = h

pub refused_lawful : (s : StreamProgress) (q : PartsState) (r : Refusal) (u : GivenUse) → IsNoPage s.stage → IsConsistent s q → IsConsistent (record s { refusal = Some r; given_use = u }) q
refused_lawful s q r u none h = record {
  bounded = record { long = h.bounded.long; inside = h.bounded.inside; size = h.bounded.size; bound = h.bounded.bound };
  parts = record { room = h.parts.room; rules = h.parts.rules; cells = h.parts.cells; table = h.parts.table; few = h.parts.few };
  stage = stage_refused s q (Some r) u s.stage h.stage;
  quiet = h.quiet;
  table = λ none. absurd cc;
  given = h.given;
  uses = no_page_uses (given_of u q.given) s.stage none;
}

-- ---- headers

module _ (s : StreamProgress) (q : PartsState) (input : List ℕ) (here : s.stage ≡ stage.Header) (early : s.offset ≤ 2 ^ 63) (long : length s.header ≡ 9) (some : s.came < 9) where
  kept_long : length (take s.came s.header) ≡ s.came
  kept_long = length-take-le s.came s.header (omega arith)

  pub header_waits : (new : StreamProgress) → s.came + length input < 9 → take new.came new.header ≡ take s.came s.header ++ input → new ≡ record s { header = new.header; came = new.came } → Waits (state_of s q) input (length input) (state_of new q)
  header_waits new few kept rest = record {
    all = refl;
    place = ap (λ (z : StreamProgress). (state_of z q).place) rest;
    frame = ap (λ (z : StreamProgress). z.frame) rest;
    waits = λ b is.
        let came : b ≡ take s.came s.header = rw here at is in
        let short : length (b ++ input) < 9 = rw came (omega (arith, length-append (take s.came s.header) input, kept_long)) in
        let there : new.stage ≡ stage.Header = ap (λ (z : StreamProgress). z.stage) rest ∙ here in
        (rw (here, le-ltb _ _ early, lt-ltb _ _ short) refl, rw there (ap (λ (x : List ℕ). x ++ input) came ∙ sym kept));
  }

  module _ (enough : 9 ≤ s.came + length input) where
    abbrev nine : List ℕ
    nine = take s.came s.header ++ take (9 - s.came) input

    front : (b : List ℕ) → b ≡ take s.came s.header → take 9 (b ++ input) ≡ nine
    front b is =
        let count : 9 ≡ length b + (9 - s.came) = rw is (omega (arith, kept_long)) in
        ap (λ (k : ℕ). take k (b ++ input)) count ∙ take-append-add b input (9 - s.came) ∙ ap (λ (x : List ℕ). x ++ take (9 - s.came) input) is

    whole : (b : List ℕ) → b ≡ take s.came s.header → 9 ≤ length (b ++ input)
    whole b is = rw is (omega (arith, length-append (take s.came s.header) input, kept_long))

    pub header_fails : (e : ℕ × Reason) → heading nine ≡ Err e → (b : List ℕ) → IsPending (state_of s q).pending b → said (state_of s q) (b ++ input) ≡ Bad (s.offset + e.0, e.1)
    header_fails e h b is =
        let came : b ≡ take s.came s.header = rw here at is in
        rw (here, le-ltb _ _ early, le-ltb _ _ (whole b came), front b came, h) refl

    pub header_gives : (h : Header) → heading nine ≡ Ok h → (b : List ℕ) → IsPending (state_of s q).pending b
        → Gives (state_of s q) (b ++ input) s.offset (reading.Frame h) (length b + (9 - s.came)) (place_at (s.offset + 9) (s.offset + 9 + h.length) (message h) q.table.nodes (given_of s.given_use q.given))
    header_gives h is b pending =
        let came : b ≡ take s.came s.header = rw here at pending in
        let x : Emitted reading.Event Place = record { at = s.offset; event = reading.Frame h; after = λ k. place_at (s.offset + k) (s.offset + k + h.length) (message h) q.table.nodes (given_of s.given_use q.given) } in
        let count : length b + (9 - s.came) ≡ 9 = rw came (omega (arith, kept_long)) in
        (x, rw (here, le-ltb _ _ early, le-ltb _ _ (whole b came), front b came, is) (ap (λ (k : ℕ). Got x k) (sym count)), refl, refl, rw count refl)

    pub header_hands : (new : StreamProgress) (h : Header) → heading nine ≡ Ok h → new.offset ≡ s.offset + 9 → new.stop ≡ s.offset + 9 + h.length → symbols_at new.stage q new.upcoming ≡ message h
        → HasRoom new.stage new.upcoming → new.frame ≡ s.frame → new.came ≡ 0 → new.given_use ≡ s.given_use → IsIdle q → Moves (state_of s q) input (advance.Event s.offset (9 - s.came) (what.Frame h)) (state_of new q)
    header_hands new h is at stop symbols room frame none same_use idle =
        let offset : offset_at new.stage new.offset q ≡ s.offset + 9 = offset_is_bare new.stage new.offset q new.upcoming room ∙ at in (
          tt,
          record {
            within = omega arith;
            begun = begun_bare new.stage new.upcoming new.header new.came q room none idle.field;
            frame = frame;
            lent = tt;
            kept = λ _. tt;
            gives = λ b pending. let g = header_gives h is b pending in (g.0, g.1, g.2, g.3, g.4 ∙ (λ j. place_at (sym offset j) (sym stop j) (sym symbols j) q.table.nodes (given_of (sym same_use j) q.given)));
            gifts = refl;
            offset = λ b pending.
                let came : b ≡ take s.came s.header = rw here at pending in
                rw (offset, here, came) (omega (arith, kept_long));
            due = one_due_bare new.stage q new.upcoming room;
            pays = rw (here, one_due_bare new.stage q new.upcoming room) (omega arith);
          },
        )
