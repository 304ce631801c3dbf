-- What comes before a cut is whole.
use Rattle.std.proofs.Common.{◌≡◌, ℕ, ◌+◌, ◌≤◌, Bool, true, false, cond, ◌&&◌, List, [], ◌∷◌, ◌++◌, length, take, drop, refl, sym, ap, subst, ◌∙◌, append_assoc, inl, inr, arith}
use Rattle.std.specs.Prelude.{Option, Some, None, ◌⊎◌}
use Rattle.std.proofs.lemmas.List.{drop_all, length-append, length-take-le, take-append-drop, take-append-le}
use Rattle.cqlp_note.specs.Reader.{Got}
use Rattle.cqlp_note.proofs.Yields.{says_exact}
use Rattle.cqlp_capture.specs.declared.event.CaptureEnd.{CaptureEnd}
use Rattle.cqlp_capture.specs.declared.event.CaptureEnd.TheVariants as end
use Rattle.cqlp_capture.specs.declared.limits.CaptureLimits.{CaptureLimits}
use Rattle.cqlp_capture.specs.declared.refusal.CaptureRefusal.{CaptureRefusal}
use Rattle.cqlp_capture.specs.Places.{IsSpot, is_between, began}
use Rattle.cqlp_capture.specs.Reading.{Event, Emitted, Spot, after_emission, wanted, step, start, heard, Reads}
use Rattle.cqlp_capture.specs.Progress.{CaptureState, AfterBy, After, IsWhole, ending, ending_by, is_empty}
use Rattle.cqlp_capture.proofs.Tests.{Fits}
use Rattle.cqlp_capture.proofs.Leading.{read_leads}
use Rattle.cqlp_capture.proofs.Runs.{got_yields, reads_stay, reads_then}
use Rattle.cqlp_capture.proofs.Calls.{began_before}
use Rattle.cqlp_capture.proofs.Moving.{take_whole}
use Rattle.cqlp_capture.proofs.Whole.{at_start}

-- what is under way at p is the first of a file, or comes after bytes that are whole
abbrev pub Before : CaptureLimits → List ℕ → Spot → Type 0
Before l c p = (began p.place ≡ 0) ⊎ IsWhole l (take (began p.place) c)

module _ (l : CaptureLimits) (fits : Fits l) where
  before_more : (c b : List ℕ) (p : Spot) → IsSpot l p → length c ≡ p.place.offset → Before l c p → Before l (c ++ b) p
  before_more c b p here long (inl none) = inl none
  before_more c b p here long (inr whole) =
      let le : began p.place ≤ length c = omega (arith, began_before l p.place.offset p.place.stage here.place, long) in
      inr (subst (IsWhole l) (sym (take-append-le (began p.place) c b le)) whole)

  before_next : (c : List ℕ) (p q : Spot) (steps : List (ℕ × Option Event)) → (began q.place ≡ began p.place) ⊎ ((is_between q.place.stage ≡ true) × (began q.place ≡ q.place.offset)) → Before l c p → length c ≡ q.place.offset → Reads l start c steps q [] → Before l c q
  before_next c p q steps (inl same) (inl none) long run = inl (same ∙ none)
  before_next c p q steps (inl same) (inr whole) long run = inr (subst (λ (k : ℕ). IsWhole l (take k c)) (sym same) whole)
  before_next c p q steps (inr new) before long run =
      inr (subst (IsWhole l) (sym (take_whole c (began q.place) (new.1 ∙ sym long))) (heard steps, q, record { steps = steps; events = refl; reads = run }, new.0))

  begun_on : (steps : List (ℕ × Option Event)) (p q : Spot) (c bytes rest : List ℕ) (past : List (ℕ × Option Event)) → IsSpot l p → length c ≡ p.place.offset → Reads l start c past p [] → Before l c p → Reads l p bytes steps q rest → Before l (c ++ bytes) q
  begun_on [] p q c bytes rest past here long run before r = subst (λ (z : Spot). Before l (c ++ bytes) z) (sym r.0) (before_more c bytes p here long before)
  begun_on (e ∷ steps) p q c bytes rest past here long run before r =
      let n = r.0 in
      let b = take n bytes in
      let t = got_yields l p bytes _ n r.2 in
      let size : length b ≡ n = length-take-le n bytes t.within in
      let within : wanted p.place.stage ≤ length bytes = let x = t.count in let y = t.within in omega arith in
      let to = read_leads l fits p (take (wanted p.place.stage) bytes) t.emission_is here (length-take-le (wanted p.place.stage) bytes within) t.is in
      let after : r.1 ≡ after_emission p.known t.emission_is = ap (λ (x : Emitted). x.after) t.emits in
      let near : IsSpot l r.1 = subst (IsSpot l) (sym after) to.near in
      let offset : r.1.place.offset ≡ p.place.offset + wanted p.place.stage = ap (λ (x : Spot). x.place.offset) after ∙ to.offset_is in
      let none : 0 + n ≡ n = omega arith in
      let exact = says_exact (step l p) [] bytes _ n (r.2 ∙ ap (λ (k : ℕ). Got (record { at = e.0; event = e.1; after = r.1 }) k) (sym none)) in
      let over : drop n b ≡ [] = drop_all n b (omega (arith, size)) in
      let one : Reads l p b (e ∷ []) r.1 [] = (n, r.1, exact ∙ ap (λ (k : ℕ). Got (record { at = e.0; event = e.1; after = r.1 }) k) none, (refl, sym over)) in
      let run' = reads_then l start p r.1 (c ++ b) b [] past (e ∷ []) (reads_stay l start c b past p [] run) one in
      let long' : length (c ++ b) ≡ r.1.place.offset = omega (arith, length-append c b, size, long, offset, t.count) in
      let begins = subst (λ (z : Spot). (began z.place ≡ began p.place) ⊎ ((is_between z.place.stage ≡ true) × (began z.place ≡ z.place.offset))) (sym after) to.begins in
      let before' = before_next (c ++ b) p r.1 (past ++ e ∷ []) begins (before_more c b p here long before) long' run' in
      let all : (c ++ b) ++ drop n bytes ≡ c ++ bytes = append_assoc c b (drop n bytes) ∙ ap (λ (x : List ℕ). c ++ x) (take-append-drop n bytes) in
      subst (λ (x : List ℕ). Before l x q) all (begun_on steps r.1 q (c ++ b) (drop n bytes) rest (past ++ e ∷ []) near long' run' before' r.3)

  whole_before : (s rest : List ℕ) (steps : List (ℕ × Option Event)) (q : Spot) → Reads l start s steps q rest → Before l s q
  whole_before s rest steps q run = begun_on steps start q [] s rest [] (at_start l) refl (refl, refl) (inl refl) run

cut_at : (x : Bool) (n at m : ℕ) (f : CaptureEnd) → f ≡ cond x (end.Whole n) (end.Cut at m) → (at' n' : ℕ) → f ≡ end.Cut at' n' → at ≡ at'
cut_at true n at m f is at' n' cut = absurd (let no : ◌≡◌ {A = CaptureEnd} (end.Whole n) (end.Cut at' n') = sym is ∙ cut in cc)
cut_at false n at m f is at' n' cut = let same : ◌≡◌ {A = CaptureEnd} (end.Cut at m) (end.Cut at' n') = sym is ∙ cut in cc

pub before_cut : (d : CaptureState) → Fits d.limits → (s : List ℕ) (es : List (ℕ × Event)) (at n : ℕ) → After d s es → ending d ≡ end.Cut at n → (at ≡ 0) ⊎ IsWhole d.limits (take at s)
before_cut d fits s es at n after cut = by d.refusal after cut
  where
    by : (o : Option CaptureRefusal) → AfterBy o d s es → ending_by o d ≡ end.Cut at n → (at ≡ 0) ⊎ IsWhole d.limits (take at s)
    by (Some r) after cut = absurd (let no : ◌≡◌ {A = CaptureEnd} (end.Refused r) (end.Cut at n) = cut in cc)
    by None after cut =
        let same = cut_at (is_between d.spot.place.stage && is_empty d.pending) d.spot.place.offset (began d.spot.place) (d.spot.place.offset + length d.pending) (ending_by None d) refl at n cut in
        subst (λ (k : ℕ). (k ≡ 0) ⊎ IsWhole d.limits (take k s)) same (whole_before d.limits fits s d.pending after.steps d.spot after.reads)
