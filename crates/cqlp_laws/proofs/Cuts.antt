-- Limits cut what is read without them.
use Rattle.std.proofs.Common.{◌≡◌, ℕ, ◌+◌, ◌≤◌, ◌^◌, List, [], ◌∷◌, ◌++◌, length, drop, refl, sym, ap, ◌∙◌, inl, inr, arith}
use Rattle.std.proofs.lemmas.List.{length-append}
use Rattle.cqlp_note.specs.declared.refusal.Reason.{Reason}
use Rattle.cqlp_note.specs.Reader.{Said, More, Got, Bad, says}
use Rattle.cqlp_note.specs.Step.{Emitted}
use Rattle.cqlp_note.specs.Limits.{Rules}
use Rattle.cqlp_note.proofs.Runs.{runs_then, runs_compare, same_got}
use Rattle.cqlp_laws.specs.Excess.{with_limits, free, Exceeds, ComesToExcess, NothingExceeds, IsCut}
use Rattle.cqlp_laws.specs.Limits.{IsOfLimit}
use Rattle.cqlp_decode.specs.Reading.{Event, Place, Gifts, start_with, Reads, Says, Verdict, Waits, Refused, Ends, step}
use Rattle.cqlp_laws.proofs.Whole.{no_step}
use Rattle.cqlp_laws.proofs.FreePlaces.{never_exceeds}
use Rattle.cqlp_laws.proofs.Refusals.{AtLimit}
use Rattle.cqlp_laws.proofs.StepCuts.{Cut, same, stops, AtFirst, got_is_not_bad, also_got, refused_exceeds, step_cut, one_excess}

pub refused_by : (fault : ℕ × Reason) (v : Verdict) → Ends (Bad fault) v → v ≡ Refused fault.0 fault.1
refused_by fault Waits h = absurd h
refused_by fault (Refused k why) h = ap (λ (x : ℕ × Reason). Refused x.0 x.1) (sym h)

module _ (l : Rules) (gifts : Gifts) where
  abbrev CutAt : Place → List ℕ → Type 0
  CutAt p rest = Cut AtLimit (AtFirst p.offset (Exceeds l p rest)) (says (step l p) 0 rest) (says (step (free l) p) 0 rest)

  -- two steps that are each the same as a third one
  both_cut : (p : Place) (rest : List ℕ) (m : Said (Emitted Event Place) (ℕ × Reason)) → ((why : Reason) → Exceeds (free l) p rest why → ⊥)
      → Cut AtLimit (AtFirst p.offset (Exceeds l p rest)) (says (step l p) 0 rest) m → Cut AtLimit (AtFirst p.offset (Exceeds (free l) p rest)) (says (step (free l) p) 0 rest) m → CutAt p rest
  both_cut p rest m never a (stops f e bad) = absurd (never f.1 e.1)
  both_cut p rest m never (stops f e bad) (same eq clean none) = stops f e bad
  both_cut p rest m never (same eq clean none) (same eq' clean' none') = same (eq ∙ sym eq') clean none

  free_cut : (bytes : List ℕ) (es : List (ℕ × Event)) (p : Place) (rest : List ℕ) → Reads (free l) (start_with gifts) bytes es p rest → CutAt p rest
  free_cut bytes es p rest read =
      let text = l.text + 2 ^ 31 in
      let cell = l.cell + 2 ^ 31 in
      let entries = l.entries + 2 ^ 31 in
      let depth = l.depth + 2 ^ 31 in
      both_cut p rest (says (step (with_limits l text cell entries depth) p) 0 rest) (λ why over. never_exceeds l gifts bytes es p rest why read over)
      (step_cut l text cell entries depth (omega arith) (omega arith) (omega arith) (omega arith) p rest p.symbols)
      (step_cut (free l) text cell entries depth (omega arith) (omega arith) (omega arith) (omega arith) p rest p.symbols)

  module _ (bytes : List ℕ) where
    -- ---- from what is said within limits

    -- What the limits let through is read freely, and nothing before its end exceeds a limit.
    abbrev GoesFreely : Place → List ℕ → List (ℕ × Event) → Place → List ℕ → Type 0
    GoesFreely q mid es p rest =
        Reads (free l) q mid es p rest × ((gs : List (ℕ × Event)) (r : Place) (left : List ℕ) (how : Reason) → Reads (free l) q mid gs r left → Exceeds l r left how → length es ≤ length gs)

    -- where a step gets something, nothing exceeds a limit
    nothing_at : (q : Place) (mid : List ℕ) (x : Emitted Event Place) (used : ℕ) → CutAt q mid → says (step l q) 0 mid ≡ Got x used → (f : ℕ × Reason) → AtFirst q.offset (Exceeds l q mid) f → ⊥
    nothing_at q mid x used (same eq clean none) got = none
    nothing_at q mid x used (stops why e bad) got = absurd (got_is_not_bad x used why (sym got ∙ bad))

    -- a first step that the free reading takes too
    module _ (e : ℕ × Event) (es : List (ℕ × Event)) (q p : Place) (mid rest : List ℕ) (used : ℕ) (after : ℕ → Place) (got : says (step (free l) q) 0 mid ≡ Got (record { at = e.0; event = e.1; after = after }) used) where
      first_later : ((f : ℕ × Reason) → AtFirst q.offset (Exceeds l q mid) f → ⊥) → GoesFreely (after used) (drop used mid) es p rest
          → (gs : List (ℕ × Event)) (s : Place) (left : List ℕ) (how : Reason) → Reads (free l) q mid gs s left → Exceeds l s left how → length (e ∷ es) ≤ length gs
      first_later none later [] s left how run over = absurd (none (q.offset, how) (refl, rw (run.0, run.1) at over))
      first_later none later (g ∷ gs) s left how run over =
          let is = same_got _ _ _ _ (sym run.2 ∙ got) in
          let next : run.1 ≡ after = ap (λ (x : Emitted Event Place). x.after) is.0 in
          omega (arith, later.1 gs s left how (rw (is.1, next) at run.3) over)

    pub reads_freely : (es fs : List (ℕ × Event)) (q p : Place) (mid rest : List ℕ) → Reads (free l) (start_with gifts) bytes fs q mid → Reads l q mid es p rest → GoesFreely q mid es p rest
    reads_freely [] fs q p mid rest before r = (r, λ gs s left how run over. omega arith)
    reads_freely (e ∷ es) fs q p mid rest before r =
        let cut = free_cut bytes fs q mid before in
        let got = also_got AtLimit _ _ _ _ r.0 cut r.2 in
        let next = runs_then (step (free l)) (start_with gifts) q (r.1 r.0) bytes mid (drop r.0 mid) fs (e ∷ []) before (r.0, r.1, got, (refl, refl)) in
        let later = reads_freely es (fs ++ e ∷ []) (r.1 r.0) p (drop r.0 mid) rest next r.3 in
        ((r.0, r.1, got, later.0), first_later e es q p mid rest r.0 r.1 got (nothing_at q mid _ r.0 cut r.2) later)

    -- Behind what the limits let through nothing exceeds a limit, where nothing follows.
    nothing_later : (es : List (ℕ × Event)) (p : Place) (rest : List ℕ) (v : Verdict) → GoesFreely (start_with gifts) bytes es p rest → ((f : ℕ × Reason) → AtFirst p.offset (Exceeds l p rest) f → ⊥) → Ends (says (step (free l) p) 0 rest) v → NothingExceeds l gifts bytes
    nothing_later es p rest v goes none ends gs q left how come =
        let c = runs_compare (step (free l)) (start_with gifts) p q bytes rest left es gs goes.0 come.0 (goes.1 gs q left how come.0 come.1) in
        let no = no_step (free l) p q rest left v c.0 ends c.2 in
        let there = rw no at c.2 in
        none (p.offset, how) (refl, rw (there.0, there.1) at come.1)

    ends_cut : (es : List (ℕ × Event)) (p : Place) (rest : List ℕ) (v : Verdict) → GoesFreely (start_with gifts) bytes es p rest → CutAt p rest → Ends (says (step l p) 0 rest) v → IsCut l gifts bytes es v
    ends_cut es p rest v goes (same eq clean none) ends =
        let ends' : Ends (says (step (free l) p) 0 rest) v = rw eq at ends in
        inl (nothing_later es p rest v goes none ends', (p, rest, goes.0, ends'))
    ends_cut es p rest v goes (stops f e bad) ends =
        inr (p, rest, f.1, ((goes.0, e.1), λ gs q left how come. goes.1 gs q left how come.0 come.1), refused_by f v (rw bad at ends) ∙ ap (λ (k : ℕ). Refused k f.1) e.0)

    pub says_cut : (es : List (ℕ × Event)) (v : Verdict) → Says l (start_with gifts) bytes es v → IsCut l gifts bytes es v
    says_cut es v s =
        let goes = reads_freely es [] (start_with gifts) s.0 bytes s.1 (refl, refl) s.2 in
        ends_cut es s.0 s.1 v goes (free_cut bytes es s.0 s.1 goes.0) s.3

    -- ---- to what is said within limits

    got_within : (q : Place) (mid : List ℕ) (x : Emitted Event Place) (used : ℕ) → CutAt q mid → ((how : Reason) → Exceeds l q mid how → ⊥) → says (step (free l) q) 0 mid ≡ Got x used → says (step l q) 0 mid ≡ Got x used
    got_within q mid x used (same eq clean none) never got = eq ∙ got
    got_within q mid x used (stops f e bad) never got = absurd (never f.1 e.1)

    -- Where nothing exceeds a limit before n events, what is read freely up to there is read within limits.
    abbrev FirstFrom : ℕ → Type 0
    FirstFrom n = (gs : List (ℕ × Event)) (s : Place) (left : List ℕ) (how : Reason) → ComesToExcess l gifts bytes gs s left how → n ≤ length gs

    reads_within : (n : ℕ) (es fs : List (ℕ × Event)) (q p : Place) (mid rest : List ℕ) → FirstFrom n → length fs + length es ≤ n → Reads (free l) (start_with gifts) bytes fs q mid → Reads (free l) q mid es p rest → Reads l q mid es p rest
    reads_within n [] fs q p mid rest first size before r = r
    reads_within n (e ∷ es) fs q p mid rest first size before r =
        let got = got_within q mid _ r.0 (free_cut bytes fs q mid before) (λ how over. absurd (omega (arith, size, first fs q mid how (before, over)))) r.2 in
        let next = runs_then (step (free l)) (start_with gifts) q (r.1 r.0) bytes mid (drop r.0 mid) fs (e ∷ []) before (r.0, r.1, r.2, (refl, refl)) in
        (r.0, r.1, got, reads_within n es (fs ++ e ∷ []) (r.1 r.0) p (drop r.0 mid) rest first (omega (arith, size, length-append fs (e ∷ []))) next r.3)

    -- the end where nothing exceeds a limit, and the end where something does
    ends_alike : (p : Place) (rest : List ℕ) (v : Verdict) → CutAt p rest → ((how : Reason) → Exceeds l p rest how → ⊥) → Ends (says (step (free l) p) 0 rest) v → Ends (says (step l p) 0 rest) v
    ends_alike p rest v (same eq clean none) never ends = rw eq ends
    ends_alike p rest v (stops f e bad) never ends = absurd (never f.1 e.1)

    ends_refused : (p : Place) (rest : List ℕ) (why : Reason) → CutAt p rest → Exceeds l p rest why → Ends (says (step l p) 0 rest) (Refused p.offset why)
    ends_refused p rest why (same eq clean none) over = absurd (none (p.offset, why) (refl, over))
    ends_refused p rest why (stops f e bad) over =
        let is : f ≡ (p.offset, why) = λ i. (e.0 i, one_excess l p rest p.symbols why f.1 over e.1 i) in
        rw bad is

    pub cut_says : (es : List (ℕ × Event)) (v : Verdict) → IsCut l gifts bytes es v → Says l (start_with gifts) bytes es v
    cut_says es v (inl c) =
        let s = c.1 in
        let read = reads_within (length es) es [] (start_with gifts) s.0 bytes s.1 (λ gs q left how come. absurd (c.0 gs q left how come)) (omega arith) (refl, refl) s.2 in
        (s.0, s.1, read, ends_alike s.0 s.1 v (free_cut bytes es s.0 s.1 s.2) (λ how over. c.0 es s.0 s.1 how (s.2, over)) s.3)
    cut_says es v (inr c) =
        let read = reads_within (length es) es [] (start_with gifts) c.0 bytes c.1 c.3.1 (omega arith) (refl, refl) c.3.0.0 in
        (c.0, c.1, read, rw c.4 (ends_refused c.0 c.1 c.2 (free_cut bytes es c.0 c.1 c.3.0.0) c.3.0.1))

is_bad : (d : Said (Emitted Event Place) (ℕ × Reason)) (k : ℕ) (why : Reason) → Ends d (Refused k why) → d ≡ Bad (k, why)
is_bad More k why h = absurd h
is_bad (Bad f) k why h = ap Bad h
is_bad (Got x used) k why h = absurd h

-- Read freely, nothing is refused by a limit.
pub free_refuses : (l : Rules) (gifts : Gifts) (bytes : List ℕ) (es : List (ℕ × Event)) (k : ℕ) (why : Reason) → Says (free l) (start_with gifts) bytes es (Refused k why) → IsOfLimit why → ⊥
free_refuses l gifts bytes es k why s limit =
    let d = says (step (free l) s.0) 0 s.1 in
    let over = refused_exceeds AtLimit (AtFirst s.0.offset (Exceeds (free l) s.0 s.1)) d d (k, why) (step_cut (free l) (2 ^ 31) (2 ^ 31) (2 ^ 31) (2 ^ 31) (omega arith) (omega arith) (omega arith) (omega arith) s.0 s.1 s.0.symbols) (is_bad d k why s.3) limit in
    never_exceeds l gifts bytes es s.0 s.1 why s.2 over.1
