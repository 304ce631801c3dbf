-- Events at their offsets in the whole stream.
use Rattle.std.proofs.Common.{◌≡◌, ℕ, zero, suc, ◌+◌, ◌<◌, ◌≤◌, List, [], ◌∷◌, ◌++◌, length, take, drop, slice_index_or, slice_set, refl, sym, ap, subst, ◌∙◌, arith}
use Rattle.std.proofs.lemmas.List.{take-append-drop}
use Rattle.cqlp_skip.specs.Stretches.{stream_offset}
use Rattle.cqlp_c.specs.declared.batch.Batch.{Batch}
use Rattle.cqlp_c.specs.declared.batch.Stop.{Stop}
use Rattle.cqlp_c.specs.declared.course.CqlpBegun.{CqlpBegun}
use Rattle.cqlp_c.specs.declared.course.CqlpCourse.{CqlpCourse}
use Rattle.cqlp_c.specs.declared.event.CqlpEvent.{CqlpEvent}
use Rattle.cqlp_c.specs.Course.{batch_from, gone_on, placed, placed_from, stop_from}

-- the first n of these
pub placed_front : (base n : ℕ) → List CqlpEvent → List CqlpEvent
placed_front base zero cs = cs
placed_front base (suc n) [] = []
placed_front base (suc n) (c ∷ cs) = record c { at = stream_offset base c.at } ∷ placed_front base n cs

pub front_none : (base : ℕ) (cs : List CqlpEvent) → cs ≡ placed_front base 0 cs
unfolding placed_front
front_none base cs = refl

pub front_all : (base n : ℕ) (cs : List CqlpEvent) → length cs ≤ n → placed_front base n cs ≡ placed_from base cs
unfolding placed_front
front_all base zero [] le = refl
front_all base (suc n) [] le = refl
front_all base zero (c ∷ cs) le = absurd (omega (arith, le))
front_all base (suc n) (c ∷ cs) le = ap (λ (z : List CqlpEvent). record c { at = stream_offset base c.at } ∷ z) (front_all base n cs (omega (arith, le)))

-- one more
more : (base n : ℕ) (cs : List CqlpEvent) (d : CqlpEvent) (at : ℕ) → n < length cs → at ≡ stream_offset base (slice_index_or (placed_front base n cs) n d).at
    → slice_set (placed_front base n cs) n (record (slice_index_or (placed_front base n cs) n d) { at = at }) ≡ placed_front base (suc n) cs
unfolding placed_front
more base zero [] d at lt h = absurd (omega (arith, lt))
more base (suc n) [] d at lt h = absurd (omega (arith, lt))
more base zero (c ∷ cs) d at lt h = ap (λ (m : ℕ). record c { at = m } ∷ cs) h
more base (suc n) (c ∷ cs) d at lt h = ap (λ (z : List CqlpEvent). record c { at = stream_offset base c.at } ∷ z) (more base n cs d at (omega (arith, lt)) h)

pub front_more : (base n : ℕ) (cs ds : List CqlpEvent) (d : CqlpEvent) (at : ℕ) → ds ≡ placed_front base n cs → n < length cs → at ≡ stream_offset base (slice_index_or ds n d).at → slice_set ds n (record (slice_index_or ds n d) { at = at }) ≡ placed_front base (n + 1) cs
front_more base n cs ds d at is lt h =
    let next : suc n ≡ n + 1 = omega arith in
    subst (λ (z : List CqlpEvent). at ≡ stream_offset base (slice_index_or z n d).at → slice_set z n (record (slice_index_or z n d) { at = at }) ≡ placed_front base (suc n) cs) (sym is) (more base n cs d at lt) h ∙ ap (λ (m : ℕ). placed_front base m cs) next

pub placed_none : (base n : ℕ) (cs : List CqlpEvent) → base ≡ 0 → cs ≡ placed base (take n cs) ++ drop n cs
placed_none zero n cs none = sym (take-append-drop n cs)
placed_none (suc b) n cs none = absurd (omega (arith, none))

pub batch_none : (base : ℕ) (b : Batch) → base ≡ 0 → b ≡ batch_from base 0 b
batch_none zero b none = refl
batch_none (suc n) b none = absurd (omega (arith, none))

pub used_from : (base passed : ℕ) (b : Batch) → (base ≡ 0 → passed ≡ 0) → (batch_from base passed b).used ≡ passed + b.used
used_from zero passed b none = let no = none refl in omega (arith, no)
used_from (suc n) passed b none = refl

-- where a call leaves the course
pub reached : (from to : CqlpCourse) (n m : ℕ) (f g : CqlpBegun) → to ≡ gone_on (record from { frame = f }) n → f ≡ g → m ≡ n → to ≡ record (gone_on from m) { frame = g }
reached from to n m f g is same count = is ∙ ap (λ (k : ℕ). gone_on (record from { frame = f }) k) (sym count) ∙ ap (λ (h : CqlpBegun). record (gone_on from m) { frame = h }) same

pub placed_further : (base : ℕ) (cs : List CqlpEvent) → 0 < base → placed_from base cs ≡ placed base cs
placed_further zero cs some = absurd (omega (arith, some))
placed_further (suc n) cs some = refl

pub batch_further : (base passed : ℕ) (b : Batch) (x : Stop) → 0 < base → x ≡ stop_from base b.stop → ◌≡◌ {A = Batch} (record { used = passed + b.used; events = b.events; stop = x }) (batch_from base passed b)
batch_further zero passed b x some is = absurd (omega (arith, some))
batch_further (suc n) passed b x some is = ap (λ (z : Stop). record { used = passed + b.used; events = b.events; stop = z }) is
