-- What a reader of headers knows after each call.
use Rattle.std.proofs.Common.{inl, inr, ◌≡◌, ℕ, zero, suc, ◌+◌, ◌-◌, ◌^◌, ◌<◌, ◌≤◌, Bool, true, false, cond, List, [], ◌∷◌, ◌++◌, length, take, refl, sym, ap, subst, ◌∙◌, arith, append_assoc, append-nil, length-append, Option, Some, None}
use Rattle.std.specs.Prelude.{map, min, nat_lt, replicate, IfSome, ◌==◌}
use Rattle.std.proofs.lemmas.Bool.{cases_Bool, ltb-true, ltb-false}
use Rattle.std.proofs.Math.Dec.{eqb-suc-zero}
use Rattle.std.proofs.lemmas.List.{map-append, length-map, length-replicate, length-take, length-take-le}
use Rattle.cqlp_note.specs.declared.header.Header.{Header}
use Rattle.cqlp_observer.specs.declared.message.Extent.TheVariants.{Whole, Holed}
use Rattle.cqlp_observer.specs.declared.message.Frame.{Frame}
use Rattle.cqlp_observer.specs.declared.heads.Heads.{Heads}
use Rattle.cqlp_observer.specs.declared.heads.Heard.{Heard}
use Rattle.cqlp_observer.specs.declared.heads.Heard.TheVariants as heard_as
use Rattle.cqlp_observer.specs.declared.heads.Stage.{Stage}
use Rattle.cqlp_observer.specs.declared.heads.Stage.TheVariants as stage
use Rattle.cqlp_observer.specs.Heads.{head_of, head_within}
use Rattle.cqlp_observer.specs.Directions.{Closes, Steps, after_gap, anew, begun_if, end_in, filled, heard, heard_in, heard_some, hears, passed, passed_in, shortened, sought, sought_as}
use Rattle.cqlp_observer.specs.Whole.{Came, CameSoFar, CameWhole, EndsWhole, EndsWith, Knows, KnowsIn, ReportsWholeFrames, used_of}

-- ---- bytes that come

more_came : (came : Came) (at : ℕ) (bytes more : List ℕ) → EndsWith came at bytes → EndsWith (came ++ map Some more) at (bytes ++ more)
more_came came at bytes more e = record {
  before = e.before;
  is = ap (λ (r : Came). r ++ map Some more) e.is ∙ append_assoc e.before (map Some bytes) (map Some more) ∙ ap (λ (r : Came). e.before ++ r) (sym (map-append Some bytes more));
  from = e.from;
}

first_came : (came : Came) (bytes : List ℕ) → EndsWith (came ++ map Some bytes) (length came) bytes
first_came came bytes = record { before = came; is = refl; from = refl }

-- so many bytes of a piece
used_long : (n : ℕ) (b : List ℕ) → n ≤ length b → length (map Some (take n b)) ≡ n
used_long n b le = length-map (take n b) Some ∙ length-take-le n b le

pub take_long : (k : ℕ) (b : List ℕ) → take (length (take k b)) b ≡ take k b
take_long zero b = refl
take_long (suc k) [] = refl
take_long (suc k) (x ∷ b) = ap (λ (r : List ℕ). x ∷ r) (take_long k b)

-- ---- a piece

abbrev Right : (responses : Bool) → Came → List ℕ → Steps → Type 0
Right responses came b x = Knows (came ++ used_of x.step b) x.after × EndsWhole responses came x.step.heard

-- so many bytes of it are reported, and no end
right_hears : (came : Came) (b : List ℕ) (s : Heads) (used : ℕ) (what : Heard) (g : Stage) → s.position ≡ length came → used ≤ length b → length came + length b < 2 ^ 64 → KnowsIn g s.responses (came ++ map Some (take used b)) → EndsWhole s.responses came what → Right s.responses came b (hears used what g s)
right_hears came b s used what g at le fits knows ends =
    let long : length (came ++ map Some (take used b)) ≡ length came + used = length-append came (map Some (take used b)) ∙ ap (λ (n : ℕ). length came + n) (used_long used b le) in
    (record { position = omega (arith, at, long); conforms = knows }, ends)

-- ---- a header

pub within_nine : (responses : Bool) (bytes : List ℕ) (h : Header) → length bytes ≤ 9 → head_within responses bytes ≡ Some h → (length bytes ≡ 9) × (head_of responses bytes ≡ Some h)
within_nine responses bytes h le e = elim (cases_Bool (nat_lt (length bytes) 9)) [
  | inl short ↦ absurd (let f = rw short at e in cc f)
  | inr long ↦ (let nine = ltb-false (length bytes) 9 long in omega arith, rw long at e)
]

begun_so_far : (responses : Bool) (came : Came) (h : Header) (at : ℕ) (first last : Option ℕ) (bytes : List ℕ) → length bytes ≡ 9 → head_of responses bytes ≡ Some h → EndsWith came at bytes → CameSoFar responses came (record { header = h; at = at; begun = first; ended = last; extent = Whole }) h.length
begun_so_far responses came h at first last bytes nine says there = record {
  bytes = bytes;
  frame = record { head = bytes; body = []; is = sym (append-nil bytes); nine = nine; says = says; long = omega arith };
  there = there;
}

right_sought : (came : Came) (time : Option ℕ) (b : List ℕ) (s : Heads) (o : Option Header) → s.position ≡ length came → length came + length b < 2 ^ 64 → ((h : Header) → o ≡ Some h → head_within s.responses (take 9 b) ≡ Some h) → Right s.responses came b (sought_as o time b s)
right_sought came time b s None at fits is = right_hears came b s (length b) heard_as.Stray stage.Lost at (omega arith) fits tt tt
right_sought came time b s (Some h) at fits is =
    let few : length (take 9 b) ≤ 9 = omega (arith, length-take 9 b) in
    let nine = within_nine s.responses (take 9 b) h few (is h refl) in
    let there : EndsWith (came ++ map Some (take 9 b)) s.position (take 9 b) = record { before = came; is = refl; from = sym at } in
    right_hears came b s 9 (heard_as.Begins h) _ at (omega (arith, length-take 9 b, nine.0)) fits (λ whole. begun_so_far s.responses _ h s.position time time (take 9 b) nine.0 nine.1 there) tt

right_begins : (came : Came) (time : Option ℕ) (begins : Bool) (b : List ℕ) (s : Heads) → s.position ≡ length came → length came + length b < 2 ^ 64 → Right s.responses came b (sought time begins b s)
right_begins came time true b s at fits = right_sought came time b s (head_within s.responses (take 9 b)) at fits (λ h e. e)
right_begins came time false b s at fits = right_sought came time b s None at fits (λ h e. absurd (cc e))

right_headed : (came : Came) (b : List ℕ) (s : Heads) (o : Option Header) (used at : ℕ) (first last : Option ℕ) (more : List ℕ) → head_within s.responses more ≡ o → length more ≤ 9 → s.position ≡ length came → used ≤ length b → length came + length b < 2 ^ 64 → EndsWith (came ++ map Some (take used b)) at more → Right s.responses came b (begun_if o used at first last s)
right_headed came b s None used at first last more e few position le fits there = right_hears came b s used heard_as.Stray stage.Lost position le fits tt tt
right_headed came b s (Some h) used at first last more e few position le fits there =
    let nine = within_nine s.responses more h few e in
    right_hears came b s used (heard_as.Begins h) _ position le fits (λ whole. begun_so_far s.responses _ h at first last more nine.0 nine.1 there) tt

right_filled : (came : Came) (front : List ℕ) (at : ℕ) (first last : Option ℕ) (b : List ℕ) (s : Heads) → length front < 9 → EndsWith came at front → s.position ≡ length came → length came + length b < 2 ^ 64 → Right s.responses came b (filled front at first last b s)
right_filled came front at first last b s few there position fits =
    let more = front ++ take (9 - length front) b in
    let used = length more - length front in
    let size : length more ≡ length front + length (take (9 - length front) b) = length-append front (take (9 - length front) b) in
    let cut : length (take (9 - length front) b) ≡ min (9 - length front) (length b) = length-take (9 - length front) b in
    let used_is : used ≡ length (take (9 - length front) b) = omega (arith, size) in
    let bytes : take used b ≡ take (9 - length front) b = ap (λ (n : ℕ). take n b) used_is ∙ take_long (9 - length front) b in
    let now : EndsWith (came ++ map Some (take used b)) at more =
    subst (λ (r : List ℕ). EndsWith (came ++ map Some r) at more) (sym bytes) (more_came came at front (take (9 - length front) b) there) in
    let le : used ≤ length b = omega (arith, used_is, cut) in
    let nine : length more ≤ 9 = omega (arith, size, cut) in
    elim (cases_Bool (nat_lt (length more) 9)) [
      | inl short ↦ rw short (right_hears came b s used heard_as.More (stage.Header more at first) position le fits (ltb-true (length more) 9 short, now) tt)
      | inr long ↦
          let P : Bool → Type 0 = λ c. Right s.responses came b (cond c (hears used heard_as.More (stage.Header more at first) s) (begun_if (head_within s.responses more) used at first last s)) in
          subst P (sym long) (right_headed came b s (head_within s.responses more) used at first last more refl nine position le fits now)
    ]

-- ---- a body

more_of_it : (responses : Bool) (came : Came) (f : Frame) (left used : ℕ) (last : Option ℕ) (bytes : List ℕ) → length bytes ≡ used → used ≤ left → CameSoFar responses came f left → CameSoFar responses (came ++ map Some bytes) (record f { ended = last }) (left - used)
more_of_it responses came f left used last bytes long le c = record {
  bytes = c.bytes ++ bytes;
  frame = record {
    head = c.frame.head;
    body = c.frame.body ++ bytes;
    is = ap (λ (r : List ℕ). r ++ bytes) c.frame.is ∙ append_assoc c.frame.head c.frame.body bytes;
    nine = c.frame.nine;
    says = c.frame.says;
    long = omega (arith, length-append c.frame.body bytes, c.frame.long);
  };
  there = more_came came f.at c.bytes bytes c.there;
}

right_passed : (came : Came) (f : Frame) (left : ℕ) (time : Option ℕ) (b : List ℕ) (s : Heads) → (f.extent ≡ Whole → CameSoFar s.responses came f left) → s.position ≡ length came → length came + length b < 2 ^ 64 → Right s.responses came b (passed f left time b s)
right_passed came f left time b s known at fits =
    let used = min (length b) left in
    let le : used ≤ length b = omega arith in
    let long : length (take used b) ≡ used = omega (arith, length-take used b) in
    right_hears came b s used heard_as.Body _ at le fits (λ whole. more_of_it s.responses came f left used time (take used b) long (omega arith) (known whole)) tt

-- ---- any piece

stays_known : (came : Came) (s : Heads) → Knows came s → Knows (came ++ []) s
stays_known came s k = subst (λ (r : Came). Knows r s) (sym (append-nil came)) k

right_in : (came : Came) (time : Option ℕ) (begins : Bool) (b : List ℕ) (responses : Bool) (position : ℕ) (g : Stage) → position ≡ length came → KnowsIn g responses came → length came + length b < 2 ^ 64 → (let s : Heads = record { responses = responses; position = position; stage = g } in Right responses came b (heard_in g time begins b s))
right_in came time begins b responses position stage.Lost at k fits = right_begins came time begins b _ at fits
right_in came time begins b responses position stage.Between at k fits =
    right_filled came [] position time time b _ (omega arith) (record { before = came; is = sym (append-nil came); from = sym at }) at fits
right_in came time begins b responses position (stage.Header front from first) at k fits = right_filled came front from first time b _ k.0 k.1 at fits
right_in came time begins b responses position (stage.Body f left) at k fits =
    let s : Heads = record { responses = responses; position = position; stage = stage.Body f left } in
    right_passed came f left time b s k at fits

right_some : (came : Came) (time : Option ℕ) (begins : Bool) (b : List ℕ) (responses : Bool) (position : ℕ) (g : Stage) → position ≡ length came → KnowsIn g responses came → length came + length b < 2 ^ 64 → (let s : Heads = record { responses = responses; position = position; stage = g } in Right responses came b (heard_some time begins b s))
right_some came time begins [] responses position g at k fits = (stays_known came _ (record { position = at; conforms = k }), tt)
right_some came time begins (x ∷ b) responses position g at k fits = rw (eqb-suc-zero (length b)) (right_in came time begins (x ∷ b) responses position g at k fits)

right_heard : (came : Came) (time : Option ℕ) (begins : Bool) (b : List ℕ) (responses : Bool) (position : ℕ) (g : Stage) → position ≡ length came → KnowsIn g responses came → length came + length b < 2 ^ 64 → (let s : Heads = record { responses = responses; position = position; stage = g } in Right responses came b (heard time begins b s))
right_heard came time begins b responses position stage.Lost at k fits = right_some came time begins b responses position stage.Lost at k fits
right_heard came time begins b responses position stage.Between at k fits = right_some came time begins b responses position stage.Between at k fits
right_heard came time begins b responses position (stage.Header front from first) at k fits = right_some came time begins b responses position (stage.Header front from first) at k fits
right_heard came time begins b responses position (stage.Body f zero) at k fits =
    (stays_known came _ (record { position = at; conforms = tt }), λ whole. let c = k whole in record { bytes = c.bytes; frame = c.frame; there = c.there })
right_heard came time begins b responses position (stage.Body f (suc left)) at k fits = rw (eqb-suc-zero left) (right_some came time begins b responses position (stage.Body f (suc left)) at k fits)

-- ---- a gap, and the end

abbrev Ends : (responses : Bool) → Came → Option Frame → Type 0
Ends responses came reported = IfSome reported (λ f. f.extent ≡ Whole → CameWhole responses came f)

-- all of it came
over_whole : (responses : Bool) (came : Came) (f : Frame) → (f.extent ≡ Whole → CameSoFar responses came f 0) → f.extent ≡ Whole → CameWhole responses came f
over_whole responses came f k whole = let c = k whole in record { bytes = c.bytes; frame = c.frame; there = c.there }

gone_whole : (responses : Bool) (came : Came) (f : Frame) (left : ℕ) (time : Option ℕ) → (f.extent ≡ Whole → CameSoFar responses came f left) → (passed_in f left time).extent ≡ Whole → CameWhole responses came (passed_in f left time)
gone_whole responses came f zero time k whole = over_whole responses came f k whole
gone_whole responses came f (suc left) time k whole = absurd (let e = rw (eqb-suc-zero left) at whole in cc e)

short_whole : (responses : Bool) (came : Came) (f : Frame) (left : ℕ) → (f.extent ≡ Whole → CameSoFar responses came f left) → (shortened f left).extent ≡ Whole → CameWhole responses came (shortened f left)
short_whole responses came f zero k whole = over_whole responses came f k whole
short_whole responses came f (suc left) k whole = absurd (let e = rw (eqb-suc-zero left) at whole in cc e)

abbrev AfterGap : (responses : Bool) → Came → ℕ → Closes → Type 0
AfterGap responses came n x = Knows (came ++ replicate n None) x.after × Ends responses came x.frame

gap_known : (came : Came) (n : ℕ) (s : Heads) (g : Stage) → s.position ≡ length came → length came + n < 2 ^ 64 → KnowsIn g s.responses (came ++ replicate n None) → Knows (came ++ replicate n None) (record { responses = s.responses; position = min (s.position + n) (2 ^ 64 - 1); stage = g })
gap_known came n s g at fits k =
    let long = length-append came (replicate n None) in
    let size = length-replicate {A = Option ℕ} n None in
    record { position = omega (arith, at, long, size); conforms = k }

gap_lost : (came : Came) (n : ℕ) (s : Heads) (g : Stage) → s.position ≡ length came → length came + n < 2 ^ 64 → KnowsIn g s.responses came → (n ≡ 0 → KnowsIn g s.responses (came ++ replicate n None)) → Knows (came ++ replicate n None) (cond (nat_lt 0 n) (record { responses = s.responses; position = min (s.position + n) (2 ^ 64 - 1); stage = stage.Lost }) (record { responses = s.responses; position = min (s.position + n) (2 ^ 64 - 1); stage = g }))
gap_lost came n s g at fits k same = elim (cases_Bool (nat_lt 0 n)) [
  | inl some ↦ rw some (gap_known came n s stage.Lost at fits tt)
  | inr none ↦ rw none (gap_known came n s g at fits (same (omega (arith, ltb-false 0 n none))))
]

no_gap : (came : Came) (n : ℕ) (g : Stage) (responses : Bool) → KnowsIn g responses came → n ≡ 0 → KnowsIn g responses (came ++ replicate n None)
no_gap came zero g responses k e = subst (λ (r : Came). KnowsIn g responses r) (sym (append-nil came)) k
no_gap came (suc n) g responses k e = absurd (omega arith)

right_gap : (came : Came) (n : ℕ) (time : Option ℕ) (responses : Bool) (position : ℕ) (g : Stage) → position ≡ length came → KnowsIn g responses came → length came + n < 2 ^ 64 → (let s : Heads = record { responses = responses; position = position; stage = g } in AfterGap responses came n (after_gap n time s))
right_gap came n time responses position stage.Lost at k fits = (gap_lost came n (record { responses = responses; position = position; stage = stage.Lost }) stage.Lost at fits k (no_gap came n stage.Lost responses k), tt)
right_gap came n time responses position stage.Between at k fits = (gap_lost came n (record { responses = responses; position = position; stage = stage.Between }) stage.Between at fits k (no_gap came n stage.Between responses k), tt)
right_gap came n time responses position (stage.Header front from first) at k fits = (gap_lost came n (record { responses = responses; position = position; stage = stage.Header front from first }) (stage.Header front from first) at fits k (no_gap came n (stage.Header front from first) responses k), tt)
right_gap came n time responses position (stage.Body f left) at k fits =
    let s : Heads = record { responses = responses; position = position; stage = stage.Body f left } in
    elim (cases_Bool (nat_lt n left)) [
      | inl within ↦ rw within (gap_known came n s (stage.Body (record f { extent = Holed }) (left - n)) at fits (λ e. absurd (cc e)), tt)
      | inr past ↦ elim (cases_Bool (n == left)) [
        | inl at_end ↦ rw (past, at_end) (gap_known came n s stage.Between at fits tt, gone_whole responses came f left time k)
        | inr over ↦ rw (past, over) (gap_known came n s stage.Lost at fits tt, gone_whole responses came f left time k)
      ]
    ]

right_end : (came : Came) (responses : Bool) (g : Stage) → KnowsIn g responses came → Ends responses came (end_in g)
right_end came responses stage.Lost k = tt
right_end came responses stage.Between k = tt
right_end came responses (stage.Header front at first) k = tt
right_end came responses (stage.Body f left) k = short_whole responses came f left k

-- ---- all calls

new_known : (responses from_start : Bool) → Knows [] (anew responses from_start)
new_known responses true = record { position = refl; conforms = tt }
new_known responses false = record { position = refl; conforms = tt }

pub reports_whole : ReportsWholeFrames
reports_whole = (
  new_known,
  λ came time begins b old new step e k fits. subst (λ (x : Steps). Right old.responses came b x) (sym e) (right_heard came time begins b old.responses old.position old.stage k.position k.conforms fits),
  λ came n time old new reported e k fits. subst (λ (x : Closes). AfterGap old.responses came n x) (sym e) (right_gap came n time old.responses old.position old.stage k.position k.conforms fits),
  λ came old new reported e k. subst (λ (x : Closes). Ends old.responses came x.frame) (sym e) (right_end came old.responses old.stage k.conforms),
)
