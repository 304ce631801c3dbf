-- What a part of a segment brings.
use Rattle.std.proofs.Common.{◌≡◌, ℕ, ◌+◌, ◌-◌, ◌<◌, ◌≤◌, ◌⊎◌, Bool, true, List, [], ◌∷◌, length, take, drop, get_or, refl, sym, ap, ◌∙◌, inl, inr, arith}
use Rattle.std.specs.Prelude.{Option, Some, None, insert, min, ◌&&◌, nat_eq}
use Rattle.std.proofs.lemmas.Bool.{cases_lt, cases_eq, eq-eqb, ne_eqb, and_left, and_right}
use Rattle.std.proofs.lemmas.List.{get_or-take, get_or-drop, length-take, length-drop}
use Rattle.cqlp_tcp_reassembly.specs.declared.run.Part.{Part}
use Rattle.cqlp_tcp_reassembly.specs.declared.segment.Place.{Place}
use Rattle.cqlp_tcp_reassembly.specs.Segments.{Segment}
use Rattle.cqlp_tcp_reassembly.specs.Runs.{EarlyRun, first_at, run_end}
use Rattle.cqlp_tcp_reassembly.specs.Streams.{StreamState, early_bytes, early_run_of, stop}
use Rattle.cqlp_tcp_reassembly.specs.Laws.{AreInOrder, Carried, Entry, Holds, captured_byte, early_entry, first, first_entry, run_entry}
use Rattle.cqlp_tcp_reassembly.specs.Laws.{segment_entry, with_more}
use Rattle.cqlp_tcp_reassembly.specs.StreamLaws.{HandsOn, IsAt, WereCutOff}
use Rattle.cqlp_tcp_reassembly.proofs.Entries.{carried_before, carried_within, early_before, early_insert_here, early_insert_other, entry_before}
use Rattle.cqlp_tcp_reassembly.proofs.Entries.{entry_byte, entry_cut, entry_past, first_more, first_none, more_none, more_past, more_some}
use Rattle.cqlp_tcp_reassembly.proofs.Places.{Lies}
use Rattle.cqlp_tcp_reassembly.proofs.Parts.{IsFree}

-- ---- whether a byte is the first of its segment

-- a position that lies so far behind a start
begins_same : (start skip i p : ℕ) → p ≡ start + skip + i → (nat_eq skip 0 && nat_eq i 0) ≡ nat_eq p start
begins_same start skip i p is = elim (cases_eq skip 0) [
  | inl none ↦ elim (cases_eq i 0) [
    | inl here ↦ rw (eq-eqb skip 0 none, eq-eqb i 0 here, eq-eqb p start (omega arith)) refl
    | inr past ↦ and_right (nat_eq skip 0) (nat_eq i 0) (ne_eqb i 0 past) ∙ sym (ne_eqb p start (λ e. past (omega arith)))
  ]
  | inr some ↦ and_left (nat_eq skip 0) (nat_eq i 0) (ne_eqb skip 0 some) ∙ sym (ne_eqb p start (λ e. some (omega arith)))
]

begins_run : (origin start skip at from x : ℕ) → start + skip ≡ origin + at → at ≤ from → from ≤ x
    → ((nat_eq skip 0 && nat_eq from at) && nat_eq x from) ≡ nat_eq (origin + x) start
begins_run origin start skip at from x is low high = elim (cases_eq skip 0) [
  | inl none ↦ elim (cases_eq from at) [
    | inl here ↦ elim (cases_eq x from) [
      | inl first ↦ rw (eq-eqb skip 0 none, eq-eqb from at here, eq-eqb x from first, eq-eqb (origin + x) start (omega arith)) refl
      | inr past ↦ and_right (nat_eq skip 0 && nat_eq from at) (nat_eq x from) (ne_eqb x from past) ∙ sym (ne_eqb (origin + x) start (λ e. past (omega arith)))
    ]
    | inr past ↦
        and_left (nat_eq skip 0 && nat_eq from at) (nat_eq x from) (and_right (nat_eq skip 0) (nat_eq from at) (ne_eqb from at past))
        ∙ sym (ne_eqb (origin + x) start (λ e. past (omega arith)))
  ]
  | inr some ↦
      and_left (nat_eq skip 0 && nat_eq from at) (nat_eq x from) (and_left (nat_eq skip 0) (nat_eq from at) (ne_eqb skip 0 some))
      ∙ sym (ne_eqb (origin + x) start (λ e. some (omega arith)))
]

-- ---- a run has what the segment has there

pub early_length : (g : Segment) (l : Place) (p : Part) → length (early_bytes g l p) ≡ min (p.to - p.from) (length g.bytes - (l.skip + (p.from - l.at)))
early_length g l p =
    let k = l.skip + (p.from - l.at) in
    omega (arith, length-take (p.to - p.from) (drop k g.bytes), length-drop k g.bytes)

pub run_ends : (g : Segment) (l : Place) (p : Part) → p.from < p.to → run_end (early_run_of g l p) ≡ p.to
run_ends g l p lt = let h = early_length g l p in omega arith

run_same : (origin position start : ℕ) (g : Segment) (l : Place) (p : Part) (x : ℕ) → Lies origin position start g l → l.at ≤ p.from → p.to ≤ l.to
    → p.from ≤ x → x < p.to → run_entry (early_run_of g l p) x ≡ segment_entry start g (origin + x)
run_same origin position start g l p x lies low high le lt =
    let starts = lies.starts in
    let to = lies.to in
    let k = l.skip + (p.from - l.at) in
    let bytes = early_bytes g l p in
    let long = early_length g l p in
    let missing = p.to - p.from - length bytes in
    let begins = nat_eq l.skip 0 && nat_eq p.from l.at in
    elim (cases_lt x (p.from + length bytes)) [
      | inl here ↦
          let same : get_or bytes (x - p.from) 0 ≡ get_or g.bytes (origin + x - start) 0 =
          get_or-take (p.to - p.from) (drop k g.bytes) (x - p.from) 0 (omega arith)
          ∙ get_or-drop k g.bytes (x - p.from) 0
          ∙ ap (λ (i : ℕ). get_or g.bytes i 0) (let e : k + (x - p.from) ≡ origin + x - start = omega arith in e) in
          let first_byte = begins_run origin start l.skip l.at p.from x starts low le in
          entry_byte p.from bytes missing begins g.time x le here
          ∙ ap (λ (b : ℕ). Some (captured_byte b (begins && nat_eq x p.from) g.time)) same
          ∙ ap (λ (b : Bool). Some (captured_byte (get_or g.bytes (origin + x - start) 0) b g.time)) first_byte
          ∙ sym (entry_byte start g.bytes g.control.missing true g.time (origin + x) (omega arith) (omega arith))
      | inr past ↦
          entry_cut p.from bytes missing begins g.time x past (omega arith)
          ∙ sym (entry_cut start g.bytes g.control.missing true g.time (origin + x) (omega arith) (omega arith))
    ]

-- ---- a segment of which all was taken

before_place : (origin position start : ℕ) (g : Segment) (l : Place) (x : ℕ) → Lies origin position start g l → position ≤ x → x < l.at → origin + x < start
before_place origin position start g l x lies le lt = elim (cases_lt 0 l.skip) [
  | inl some ↦ let late = lies.late some in absurd (omega arith)
  | inr none ↦ let starts = lies.starts in omega arith
]

option_cases : (o : Option Entry) → ((e : Entry) × (o ≡ Some e)) ⊎ (o ≡ None)
option_cases None = inr refl
option_cases (Some e) = inl (e, refl)

pub all_taken : (s : StreamState) (origin start : ℕ) (segments : List Carried) (g : Segment) (l : Place) (p : Part)
    → Holds s origin segments → Lies origin s.position start g l → IsFree 0 s.position l.at (min l.to (stop s)) s.runs p → p.to ≤ p.from
    → IsAt s origin s.position (with_more segments start g (origin + stop s))
all_taken s origin start segments g l p holds lies free none =
    let covers = free.empty none in
    let starts = lies.starts in
    let to = lies.to in
    let end = origin + stop s in
    record {
      at = refl;
      holds = record {
        first = holds.first;
        order = holds.order;
        entries = λ x le lt. elim (option_cases (early_entry s.runs x)) [
          | inl some ↦ some.1 ∙ sym (more_some segments start g end (origin + x) some.0 (sym (holds.entries x le lt) ∙ some.1))
          | inr nothing ↦
              nothing ∙ sym (more_none segments start g end (origin + x) (sym (holds.entries x le lt) ∙ nothing)
              ∙ elim (cases_lt x l.at) [
                | inl before ↦ carried_before start g end (origin + x) (before_place origin s.position start g l x lies le before)
                | inr within ↦ elim (cases_lt x l.to) [
                  | inl inside ↦ let here = free.covered x within (omega arith) in absurd (cc (here.1, nothing))
                  | inr past ↦ carried_within start g end (origin + x) (omega arith) ∙ entry_past start g.bytes g.control.missing true g.time
                      (origin + x) (omega arith)
                ]
              ])
        ];
      };
    }

-- ---- a part that is kept

pub kept : (s : StreamState) (origin start : ℕ) (segments : List Carried) (g : Segment) (l : Place) (p : Part)
    → Holds s origin segments → Lies origin s.position start g l → IsFree 0 s.position l.at (min l.to (stop s)) s.runs p → p.from < p.to
    → (x : ℕ) → s.position ≤ x → x < stop s
    → early_entry (insert s.runs p.index (early_run_of g l p)) x ≡ first_entry (with_more segments start g (origin + p.to)) (origin + x)
kept s origin start segments g l p holds lies free some x le lt =
    let run = early_run_of g l p in
    let end = origin + p.to in
    let ends = run_ends g l p some in
    let order = free.order in
    let within = free.within in
    elim (cases_lt x p.from) [
      | inl before ↦
          early_insert_other s.runs p.index run x (entry_before run.at run.bytes run.missing run.begins run.time x before)
          ∙ elim (cases_lt x l.at) [
            | inl outside ↦
                holds.entries x le lt ∙ sym (first_more segments start g end (origin + x)
                ∙ ap (first (first_entry segments (origin + x)))
                (carried_before start g end (origin + x) (before_place origin s.position start g l x lies le outside))
                ∙ first_none (first_entry segments (origin + x)))
            | inr inside ↦
                let here = free.covered x inside before in
                here.1 ∙ sym (more_some segments start g end (origin + x) here.0 (sym (holds.entries x le lt) ∙ here.1))
          ]
      | inr after ↦ elim (cases_lt x p.to) [
        | inl inside ↦
            let none = free.free x after inside in
            early_insert_here s.runs p.index run x none
            ∙ run_same origin s.position start g l p x lies order (omega arith) after inside
            ∙ sym (more_none segments start g end (origin + x) (sym (holds.entries x le lt) ∙ none) ∙ carried_within start g end (origin + x) (omega arith))
        | inr past ↦
            early_insert_other s.runs p.index run x (entry_past run.at run.bytes run.missing run.begins run.time x (omega arith))
            ∙ holds.entries x le lt
            ∙ sym (more_past segments start g end (origin + x) (omega arith))
      ]
    ]

-- ---- a part that is next

pub hands_bytes : (s : StreamState) (origin start : ℕ) (segments : List Carried) (g : Segment) (l : Place) (p : Part) (count : ℕ)
    → Holds s origin segments → Lies origin s.position start g l → IsFree 0 s.position l.at (min l.to (stop s)) s.runs p → p.from ≡ s.position
    → 0 < count → count ≤ length g.bytes - l.skip → count ≤ p.to - p.from
    → HandsOn (with_more segments start g (origin + s.position + count)) (origin + s.position) (take count (drop l.skip g.bytes)) (nat_eq l.skip 0) g.time
hands_bytes s origin start segments g l p count holds lies free next some few within =
    let starts = lies.starts in
    let low = lies.from in
    let order = free.order in
    let inside = free.within in
    let end = origin + s.position + count in
    let long : length (take count (drop l.skip g.bytes)) ≡ count = omega (arith, length-take count (drop l.skip g.bytes), length-drop l.skip g.bytes) in
    record {
      some = omega arith;
      each = λ i lt.
          let p_i = origin + s.position + i in
          let none : first_entry segments p_i ≡ None =
          ap (first_entry segments) (let e : p_i ≡ origin + (s.position + i) = omega arith in e)
          ∙ sym (holds.entries (s.position + i) (omega arith) (omega arith))
          ∙ free.free (s.position + i) (omega arith) (omega arith) in
          let same : get_or g.bytes (p_i - start) 0 ≡ get_or (take count (drop l.skip g.bytes)) i 0 =
          ap (λ (j : ℕ). get_or g.bytes j 0) (let e : p_i - start ≡ l.skip + i = omega arith in e)
          ∙ sym (get_or-drop l.skip g.bytes i 0)
          ∙ sym (get_or-take count (drop l.skip g.bytes) i 0 (omega arith)) in
          more_none segments start g end p_i none
          ∙ carried_within start g end p_i (omega arith)
          ∙ entry_byte start g.bytes g.control.missing true g.time p_i (omega arith) (omega arith)
          ∙ ap (λ (b : ℕ). Some (captured_byte b (nat_eq p_i start) g.time)) same
          ∙ ap (λ (b : Bool). Some (captured_byte (get_or (take count (drop l.skip g.bytes)) i 0) b g.time))
          (sym (begins_same start l.skip i p_i (omega arith)));
    }

pub was_cut : (s : StreamState) (origin start : ℕ) (segments : List Carried) (g : Segment) (l : Place) (p : Part)
    → Holds s origin segments → Lies origin s.position start g l → IsFree 0 s.position l.at (min l.to (stop s)) s.runs p → p.from ≡ s.position
    → p.from < p.to → length g.bytes ≤ l.skip
    → WereCutOff (with_more segments start g (origin + s.position + (p.to - p.from))) (origin + s.position) (p.to - p.from) g.time
was_cut s origin start segments g l p holds lies free next some none =
    let starts = lies.starts in
    let low = lies.from in
    let to = lies.to in
    let order = free.order in
    let inside = free.within in
    let end = origin + s.position + (p.to - p.from) in
    record {
      some = omega arith;
      each = λ i lt.
          let p_i = origin + s.position + i in
          let nothing : first_entry segments p_i ≡ None =
          ap (first_entry segments) (let e : p_i ≡ origin + (s.position + i) = omega arith in e)
          ∙ sym (holds.entries (s.position + i) (omega arith) (omega arith))
          ∙ free.free (s.position + i) (omega arith) (omega arith) in
          more_none segments start g end p_i nothing
          ∙ carried_within start g end p_i (omega arith)
          ∙ entry_cut start g.bytes g.control.missing true g.time p_i (omega arith) (omega arith);
    }

-- ---- what is lost

pub order_first : (base other : ℕ) (runs : List EarlyRun) → AreInOrder base runs → AreInOrder (first_at other runs) runs
order_first base other [] order = tt
order_first base other (r ∷ runs) order = (omega arith, order.1, order.2)

pub first_above : (base other : ℕ) (runs : List EarlyRun) → AreInOrder base runs → base ≤ other → base ≤ first_at other runs
first_above base other [] order le = le
first_above base other (r ∷ runs) order le = let low = order.0 in omega arith

pub first_below : (other : ℕ) (runs : List EarlyRun) → first_at other runs ≤ other
first_below other [] = omega arith
first_below other (r ∷ runs) = omega arith

pub lacks : (s : StreamState) (origin other : ℕ) (segments : List Carried) (i : ℕ) → Holds s origin segments → other ≤ stop s
    → i < first_at other s.runs - s.position → first_entry segments (origin + s.position + i) ≡ None
lacks s origin other segments i holds few lt =
    let below = first_below other s.runs in
    ap (first_entry segments) (let e : origin + s.position + i ≡ origin + (s.position + i) = omega arith in e)
    ∙ sym (holds.entries (s.position + i) (omega arith) (omega arith))
    ∙ early_before (first_at other s.runs) s.runs (s.position + i) (order_first s.position other s.runs holds.order) (omega arith)

-- nor did a segment of which a part came early
pub lacks_it : (s : StreamState) (origin start : ℕ) (segments : List Carried) (g : Segment) (l : Place) (p : Part) (i : ℕ)
    → Holds s origin segments → Lies origin s.position start g l → IsFree 0 s.position l.at (min l.to (stop s)) s.runs p → p.from < p.to
    → i < first_at p.from s.runs - s.position
    → first_entry (with_more segments start g (origin + stop s)) (origin + s.position + i) ≡ None
lacks_it s origin start segments g l p i holds lies free some lt =
    let within = free.within in
    let below = first_below p.from s.runs in
    let none = lacks s origin p.from segments i holds (omega arith) lt in
    let nothing = early_before (first_at p.from s.runs) s.runs (s.position + i) (order_first s.position p.from s.runs holds.order) (omega arith) in
    more_none segments start g (origin + stop s) (origin + s.position + i) none
    ∙ elim (cases_lt (s.position + i) l.at) [
      | inl before ↦
          let far = before_place origin s.position start g l (s.position + i) lies (omega arith) before in
          carried_before start g (origin + stop s) (origin + s.position + i) (omega arith)
      | inr reached ↦ let here = free.covered (s.position + i) reached (omega arith) in absurd (cc (here.1, nothing))
    ]
