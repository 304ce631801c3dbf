-- From what steps say back to the bytes that they took: a step's own bytes, a run's, and the run of a part inside a run.
use Rattle.std.proofs.Common.{◌≡◌, ℕ, ◌+◌, ◌≤◌, Bool, true, false, cond, List, [], ◌∷◌, ◌++◌, length, drop, refl, sym, ap, ◌∙◌, subst, append_assoc, arith}
use Rattle.std.specs.Prelude.{map}
use Rattle.std.proofs.lemmas.List.{append-nil, drop_at}
use Rattle.cqlp_note.specs.declared.field.Notation.{Notation}
use Rattle.cqlp_note.specs.declared.refusal.Reason.{Reason}
use Rattle.cqlp_note.specs.Reader.{Said, More, Bad, Got, Reader, Gives, Refuses, Takes, Idles, says}
use Rattle.cqlp_note.specs.Field.{FieldValue, FieldReader, field_of}
use Rattle.cqlp_note.specs.Spelling.{Spells}
use Rattle.cqlp_note.specs.Step.{Emitted, Step, after_field, map_step, Runs}
use Rattle.cqlp_note.proofs.Readers.{Always}
use Rattle.cqlp_note.proofs.Fields.{field_spells}
use Rattle.cqlp_note.proofs.Runs.{same_got}
use Rattle.cqlp_note.proofs.Yields.{Yields, yields_says, says_yields, map_said, says_map, got_inside}
use Rattle.cqlp_decode.proofs.Always.{yields_always}

-- ---- readers

-- and what holds of all bytes that a reader takes, always holds
pub always_yields : {A F : Type 0} (P : A → List ℕ → Type 0) (r : Reader A F) (before : List ℕ) → ((v : A) (b : List ℕ) → Yields r v b → P v (before ++ b)) → Always P r before
always_yields P (Gives w) before h = rw append-nil at (h w [] (refl, refl))
always_yields P (Refuses why) before h = tt
always_yields P Idles before h = tt
always_yields P (Takes n next) before h = λ c long. always_yields P (next c) (before ++ c) (λ v b y. rw (append_assoc before c b) (h v (c ++ b) (c, b, long, refl, y)))

-- a field is spelled, and ends within its container
pub field_back : (n : Notation) (limit room : ℕ) (v : FieldValue) (b : List ℕ) → Yields (field_of n limit room) v b → Spells n v b × (length b ≤ room)
field_back n limit room v b y =
    let s : says (field_of n limit room) 0 (b ++ []) ≡ Got v (0 + length b) = yields_says (field_of n limit room) 0 v b [] y in
    let none : 0 + length b ≡ length b = omega arith in
    (yields_always (Spells n) (field_of n limit room) v [] b (field_spells n limit room) y, got_inside n limit room b v (length b) (rw (append-nil b, none) at s) (omega arith))

-- a field in front, and what follows it
pub after_back : {E P : Type 0} (at : ℕ) (r : FieldReader) (next : FieldValue → Step E P) (x : Emitted E P) (b : List ℕ) → Yields (after_field at r next) x b
    → (v : FieldValue) × (front : List ℕ) × (back : List ℕ) × (b ≡ front ++ back) × Yields r v front × Yields (next v) x back
after_back at (Gives w) next x b y = (w, [], b, refl, (refl, refl), y)
after_back at (Refuses why) next x b y = absurd y
after_back at Idles next x b y = absurd y
after_back at (Takes n f) next x b y =
    let r = after_back at (f y.0) next x y.1 y.4 in
    (r.0, y.0 ++ r.1, r.2, y.3 ∙ ap (λ (t : List ℕ). y.0 ++ t) r.3 ∙ sym (append_assoc y.0 r.1 r.2), (y.0, r.1, y.2, refl, r.4), r.5)

abbrev pub mapped : {E P F Q : Type 0} → (E → F) → (P → Q) → Emitted E P → Emitted F Q
mapped f g x = record { at = x.at; event = f x.event; after = λ used. g (x.after used) }

-- a step whose events and places are parts of others
pub map_back : {E P F Q : Type 0} (f : E → F) (g : P → Q) (r : Step E P) (x : Emitted F Q) (b : List ℕ) → Yields (map_step f g r) x b → (y : Emitted E P) × (x ≡ mapped f g y) × Yields r y b
map_back f g (Gives w) x b y = (w, sym y.0, (refl, y.1))
map_back f g (Refuses why) x b y = absurd y
map_back f g Idles x b y = absurd y
map_back f g (Takes n r) x b y = let m = map_back f g (r y.0) x y.1 y.4 in (m.0, m.1, (y.0, y.1, y.2, y.3, m.2))

-- a test that refuses was passed
pub passed : {A F : Type 0} (t : Bool) (why : F) (r : Reader A F) (v : A) (b : List ℕ) → Yields (cond t (Refuses why) r) v b → (t ≡ false) × Yields r v b
passed true why r v b y = absurd y
passed false why r v b y = (refl, y)

-- ---- runs

-- the bytes of a step, and those after it
pub record Taken {A F : Type 0} (r : Reader A F) (x : A) (used : ℕ) (bytes : List ℕ) : Type 0 where
  pub front : List ℕ
  pub back : List ℕ
  pub whole : bytes ≡ front ++ back
  pub left : drop used bytes ≡ back
  pub long : length front ≡ used
  pub yields : Yields r x front

pub taken : {A F : Type 0} (r : Reader A F) (x : A) (used : ℕ) (bytes : List ℕ) → says r 0 bytes ≡ Got x used → Taken r x used bytes
taken r x used bytes s =
    let y = says_yields r 0 x used bytes s in
    let long : length y.0 ≡ used = omega (arith, y.3) in
    record { front = y.0; back = y.1; whole = y.2; left = ap (λ (t : List ℕ). drop used t) y.2 ∙ drop_at y.0 y.1 used long; long = long; yields = y.4 }

module _ {E P : Type 0} (step : P → Step E P) where
  -- A run is one over its own bytes alone.
  pub runs_exact : (p q : P) (bytes rest : List ℕ) (es : List (ℕ × E)) → Runs step p bytes es q rest → (front : List ℕ) × (bytes ≡ front ++ rest) × Runs step p front es q []
  runs_exact p q bytes rest [] r = ([], sym r.1, (r.0, refl))
  runs_exact p q bytes rest (e ∷ es) r =
      let x : Emitted E P = record { at = e.0; event = e.1; after = r.1 } in
      let t = taken (step p) x r.0 bytes r.2 in
      let later = runs_exact (r.1 r.0) q (drop r.0 bytes) rest es r.3 in
      let said : says (step p) 0 (t.front ++ later.0) ≡ Got x (0 + length t.front) = yields_says (step p) 0 x t.front later.0 t.yields in
      let size : 0 + length t.front ≡ r.0 = omega (arith, t.long) in
      let left : drop r.0 (t.front ++ later.0) ≡ later.0 = drop_at t.front later.0 r.0 t.long in
      (t.front ++ later.0, t.whole ∙ ap (λ (y : List ℕ). t.front ++ y) (sym t.left ∙ later.1) ∙ sym (append_assoc t.front later.0 rest), (r.0, r.1, rw size at said, rw left later.2))

  -- a run over some events and others is two runs
  pub runs_split : (p q : P) (bytes rest : List ℕ) (es fs : List (ℕ × E)) → Runs step p bytes (es ++ fs) q rest → (m : P) × (between : List ℕ) × Runs step p bytes es m between × Runs step m between fs q rest
  runs_split p q bytes rest [] fs r = (p, bytes, (refl, refl), r)
  runs_split p q bytes rest (e ∷ es) fs r =
      let s = runs_split (r.1 r.0) q (drop r.0 bytes) rest es fs r.3 in
      (s.0, s.1, (r.0, r.1, r.2, s.2), s.3)

map_got : {E P F Q : Type 0} (f : E → F) (g : P → Q) (d : Said (Emitted E P) (ℕ × Reason)) (y : Emitted F Q) (k : ℕ) → map_said f g d ≡ Got y k → (x : Emitted E P) × (d ≡ Got x k) × (y ≡ mapped f g x)
map_got f g More y k is = absurd cc
map_got f g (Bad why) y k is = absurd cc
map_got f g (Got x j) y k is = let same = same_got (mapped f g x) y j k is in (x, ap (λ (n : ℕ). Got x n) same.1, sym same.0)

-- An inner run to its end, and the run after it.
pub record Parted {E F P Q : Type 0} (outer : P → Step F P) (inner : Q → Step E Q) (f : E → F) (embed : Q → P) (ended : Q → Bool) (q : Q) (b : List ℕ) (es : List (ℕ × F)) (p : P) (left : List ℕ) : Type 0 where
  pub items : List (ℕ × E)
  pub last : Q
  pub between : List ℕ
  pub later : List (ℕ × F)
  pub over : ended last ≡ true
  pub first : Runs inner q b items last between
  pub events : es ≡ map (λ e. (e.0, f e.1)) items ++ later
  pub onward : Runs outer (embed last) between later p left

module _ {E F P Q : Type 0} (outer : P → Step F P) (inner : Q → Step E Q) (f : E → F) (embed : Q → P) (ended : Q → Bool) (steps : (q : Q) → ended q ≡ false → outer (embed q) ≡ map_step f embed (inner q)) where
  abbrev Parts : Q → List ℕ → List (ℕ × F) → P → List ℕ → Type 0
  Parts = Parted outer inner f embed ended

  part_by : (es : List (ℕ × F)) (q : Q) (b : List ℕ) (p : P) (left : List ℕ) → ((r : Q) → p ≡ embed r → ended r ≡ true) → Runs outer (embed q) b es p left → (t : Bool) → ended q ≡ t → Parts q b es p left
  part_by es q b p left out run true is = record { items = []; last = q; between = b; later = es; over = is; first = (refl, refl); events = refl; onward = run }
  part_by [] q b p left out run false is = absurd (let no : true ≡ false = sym (out q run.0) ∙ is in cc)
  part_by (e ∷ es) q b p left out run false is =
      let x : Emitted F P = record { at = e.0; event = e.1; after = run.1 } in
      let said : says (map_step f embed (inner q)) 0 b ≡ Got x run.0 = rw (steps q is) at run.2 in
      let m = map_got f embed (says (inner q) 0 b) x run.0 (sym (says_map f embed (inner q) 0 b) ∙ said) in
      let next : Runs outer (embed (m.0.after run.0)) (drop run.0 b) es p left = subst (λ (y : Emitted F P). Runs outer (y.after run.0) (drop run.0 b) es p left) m.2 run.3 in
      let later = part_by es (m.0.after run.0) (drop run.0 b) p left out next (ended (m.0.after run.0)) refl in
      record {
        items = (m.0.at, m.0.event) ∷ later.items;
        last = later.last;
        between = later.between;
        later = later.later;
        over = later.over;
        first = (run.0, m.0.after, m.1, later.first);
        events = λ i. ((m.2 i).at, (m.2 i).event) ∷ later.events i;
        onward = later.onward;
      }

  -- A run that begins inside and leads outside begins with an inner run to its end.
  pub part_off : (es : List (ℕ × F)) (q : Q) (b : List ℕ) (p : P) (left : List ℕ) → ((r : Q) → p ≡ embed r → ended r ≡ true) → Runs outer (embed q) b es p left → Parts q b es p left
  part_off es q b p left out run = part_by es q b p left out run (ended q) refl
