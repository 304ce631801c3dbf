-- A reader of headers reports each frame that is sent.
use Rattle.std.proofs.Common.{inl, inr, ◌≡◌, ℕ, zero, suc, ◌+◌, ◌-◌, ◌<◌, ◌≤◌, Bool, false, cond, List, [], ◌∷◌, ◌++◌, length, take, drop, refl, sym, ap, subst, ◌∙◌, arith, append_assoc, length-append, Option, Some}
use Rattle.std.specs.Prelude.{min, nat_lt}
use Rattle.std.proofs.Math.Dec.{eqb-suc-zero}
use Rattle.std.proofs.Math.Seq.{drop-append_seam, take-append_seam}
use Rattle.std.proofs.lemmas.Bool.{cases_Bool, ltb-false, ltb-true}
use Rattle.std.proofs.lemmas.List.{drop-append-le, length-drop, length-take, take-append-drop}
use Rattle.cqlp_note.specs.declared.header.Header.{Header}
use Rattle.cqlp_observer.specs.declared.message.Frame.{Frame}
use Rattle.cqlp_observer.specs.declared.heads.Heads.{Heads}
use Rattle.cqlp_observer.specs.declared.heads.Heard.TheVariants as heard_as
use Rattle.cqlp_observer.specs.declared.heads.Stage.{Stage}
use Rattle.cqlp_observer.specs.declared.heads.Stage.TheVariants as stage
use Rattle.cqlp_observer.specs.Heads.{head_of, head_within}
use Rattle.cqlp_observer.specs.Directions.{Steps, begun_if, filled, heard, heard_in, heard_some, hears, passed}
use Rattle.cqlp_observer.specs.Sent.{GoesOn, IsAt, IsInBody, Sent, ReportsEachFrame, bytes_of}
use Rattle.cqlp_observer.proofs.Came.{take_long}

abbrev Goes : {responses : Bool} → List ℕ → (more : List ℕ) → List (Sent responses) → Steps → Type 0
Goes b more sent x = GoesOn x.step x.after b more sent

-- two ways to cut a list at one place
split : (xs us ys vs : List ℕ) → length xs ≡ length us → xs ++ ys ≡ us ++ vs → (xs ≡ us) × (ys ≡ vs)
split xs us ys vs long e = (
  sym (take-append_seam xs ys) ∙ ap (λ (r : List ℕ). take (length xs) r) e ∙ ap (λ (n : ℕ). take n (us ++ vs)) long ∙ take-append_seam us vs,
  sym (drop-append_seam xs ys) ∙ ap (λ (r : List ℕ). drop (length xs) r) e ∙ ap (λ (n : ℕ). drop n (us ++ vs)) long ∙ drop-append_seam us vs,
)

-- ---- a header

-- nine bytes are the header of the next frame
goes_headed : {responses : Bool} (b more : List ℕ) (s : Heads) (front : List ℕ) (used at : ℕ) (first last : Option ℕ) (sent : List (Sent responses)) → s.responses ≡ responses → length front ≡ 9 → front ++ (drop used b ++ more) ≡ bytes_of sent → Goes b more sent (begun_if (head_within s.responses front) used at first last s)
goes_headed b more s front used at first last [] same nine e =
    absurd (let none = ap length e in let long = length-append front (drop used b ++ more) in omega arith)
goes_headed {responses} b more s front used at first last (x ∷ sent) same nine e =
    let cut = split front x.head (drop used b ++ more) (x.body ++ bytes_of sent) (nine ∙ sym x.nine) e in
    let says : head_of s.responses front ≡ Some x.header =
    ap (λ (r : Bool). head_of r front) same ∙ ap (λ (r : List ℕ). head_of responses r) cut.0 ∙ x.says in
    let long : nat_lt (length front) 9 ≡ false = ap (λ (n : ℕ). nat_lt n 9) nine in
    let head : head_within s.responses front ≡ Some x.header = rw long says in
    let P : Option Header → Type 0 = λ o. Goes b more (x ∷ sent) (begun_if o used at first last s) in
    subst P (sym head) (record {
      after = x ∷ sent;
      reported = refl;
      conforms = record { first = x; others = sent; is = refl; header = refl; whole = refl; body = x.body; ahead = cut.1; long = x.long };
    })

goes_filled : {responses : Bool} (front : List ℕ) (at : ℕ) (first last : Option ℕ) (b more : List ℕ) (s : Heads) (sent : List (Sent responses)) → s.responses ≡ responses → length front < 9 → front ++ (b ++ more) ≡ bytes_of sent → Goes b more sent (filled front at first last b s)
goes_filled front at first last b more s sent same few e =
    let k = 9 - length front in
    let full = front ++ take k b in
    let used = length full - length front in
    let size : length full ≡ length front + length (take k b) = length-append front (take k b) in
    let cut : length (take k b) ≡ min k (length b) = length-take k b in
    let used_is : used ≡ length (take k b) = omega (arith, size) in
    let bytes : take used b ≡ take k b = ap (λ (n : ℕ). take n b) used_is ∙ take_long k b in
    let whole : front ++ (b ++ more) ≡ full ++ (drop used b ++ more) =
    ap (λ (r : List ℕ). front ++ (r ++ more)) (sym (take-append-drop used b))
    ∙ ap (λ (r : List ℕ). front ++ ((r ++ drop used b) ++ more)) bytes
    ∙ ap (λ (r : List ℕ). front ++ r) (append_assoc (take k b) (drop used b) more)
    ∙ sym (append_assoc front (take k b) (drop used b ++ more)) in
    let ahead : full ++ (drop used b ++ more) ≡ bytes_of sent = sym whole ∙ e in
    elim (cases_Bool (nat_lt (length full) 9)) [
      | inl short ↦ rw short (record { after = sent; reported = refl; conforms = (ltb-true (length full) 9 short, ahead) })
      | inr long ↦
          let nine : length full ≡ 9 = let least = ltb-false (length full) 9 long in omega (arith, size, cut) in
          let P : Bool → Type 0 = λ c. Goes b more sent (cond c (hears used heard_as.More (stage.Header full at first) s) (begun_if (head_within s.responses full) used at first last s)) in
          subst P (sym long) (goes_headed b more s full used at first last sent same nine ahead)
    ]

-- ---- a body

goes_passed : {responses : Bool} (f : Frame) (left : ℕ) (time : Option ℕ) (b more : List ℕ) (s : Heads) (sent : List (Sent responses)) → IsInBody f left (b ++ more) sent → Goes b more sent (passed f left time b s)
goes_passed f left time b more s sent p =
    let used = min (length b) left in
    let here : used ≤ length b = omega arith in
    let there : used ≤ length p.body = omega (arith, p.long) in
    record {
      after = sent;
      reported = refl;
      conforms = record {
        first = p.first;
        others = p.others;
        is = p.is;
        header = p.header;
        whole = p.whole;
        body = drop used p.body;
        ahead = sym (drop-append-le used b more here) ∙ ap (λ (r : List ℕ). drop used r) p.ahead ∙ drop-append-le used p.body (bytes_of p.others) there;
        long = length-drop used p.body ∙ ap (λ (n : ℕ). n - used) p.long;
      };
    }

-- ---- any piece

goes_in : {responses : Bool} (time : Option ℕ) (begins : Bool) (b more : List ℕ) (position : ℕ) (g : Stage) (sent : List (Sent responses)) → IsAt g (b ++ more) sent → (let s : Heads = record { responses = responses; position = position; stage = g } in Goes b more sent (heard_in g time begins b s))
goes_in {responses} time begins b more position stage.Lost sent p = absurd p
goes_in {responses} time begins b more position stage.Between sent p = goes_filled [] position time time b more _ sent refl (omega arith) p
goes_in {responses} time begins b more position (stage.Header front at first) sent p = goes_filled front at first time b more _ sent refl p.0 p.1
goes_in {responses} time begins b more position (stage.Body f left) sent p =
    let s : Heads = record { responses = responses; position = position; stage = stage.Body f left } in
    goes_passed f left time b more s sent p

goes_some : {responses : Bool} (time : Option ℕ) (begins : Bool) (b more : List ℕ) (position : ℕ) (g : Stage) (sent : List (Sent responses)) → IsAt g (b ++ more) sent → (let s : Heads = record { responses = responses; position = position; stage = g } in Goes b more sent (heard_some time begins b s))
goes_some time begins [] more position g sent p = record { after = sent; reported = refl; conforms = p }
goes_some time begins (x ∷ b) more position g sent p = rw (eqb-suc-zero (length b)) (goes_in time begins (x ∷ b) more position g sent p)

no_bytes : (b rest : List ℕ) → length b ≡ 0 → b ++ rest ≡ rest
no_bytes [] rest e = refl
no_bytes (x ∷ b) rest e = absurd (omega arith)

goes_heard : {responses : Bool} (time : Option ℕ) (begins : Bool) (b more : List ℕ) (position : ℕ) (g : Stage) (sent : List (Sent responses)) → IsAt g (b ++ more) sent → (let s : Heads = record { responses = responses; position = position; stage = g } in Goes b more sent (heard time begins b s))
goes_heard time begins b more position stage.Lost sent p = absurd p
goes_heard time begins b more position stage.Between sent p = goes_some time begins b more position stage.Between sent p
goes_heard time begins b more position (stage.Header front at first) sent p = goes_some time begins b more position (stage.Header front at first) sent p
goes_heard time begins b more position (stage.Body f zero) sent p = record {
  after = p.others;
  reported = (p.first, p.is, p.header, p.whole);
  conforms = p.ahead ∙ no_bytes p.body (bytes_of p.others) p.long;
}
goes_heard time begins b more position (stage.Body f (suc left)) sent p = rw (eqb-suc-zero left) (goes_some time begins b more position (stage.Body f (suc left)) sent p)

pub reports_each : ReportsEachFrame
reports_each = (
  λ responses sent. refl,
  λ time begins b more old new step sent e p. subst (λ (x : Steps). Goes b more sent x) (sym e) (goes_heard time begins b more old.position old.stage sent p),
)
