-- What reading says of a cell, by its length and its content.
use Rattle.std.proofs.Common.{◌≡◌, ◌≢◌, ℕ, ◌+◌, ◌-◌, ◌^◌, ◌<◌, ◌≤◌, Bool, true, false, not, ◌&&◌, cond, ltb, eqb, List, [], ◌∷◌, ◌++◌, length, take, drop, refl, sym, ap, ◌∙◌, subst, arith}
use Rattle.std.specs.Prelude.{Option, Some, None, Result, Ok, Err}
use Rattle.std.specs.Int.{w32}
use Rattle.std.proofs.lemmas.Bool.{lt-ltb, le-ltb, ltb-false, ne_eqb}
use Rattle.std.proofs.lemmas.List.{length-drop, length-take-le}
use Rattle.cqlp_note.specs.declared.refusal.Reason.{Reason}
use Rattle.cqlp_note.specs.declared.refusal.Reason.TheVariants.{BadSize, Overrun, TooLong}
use Rattle.cqlp_note.specs.Limits.{Rules}
use Rattle.cqlp_note.specs.Reader.{Bad, Got, Said, says, number_of}
use Rattle.cqlp_note.specs.Spelling.{IsNumber}
use Rattle.cqlp_note.specs.Step.{Emitted, Step}
use Rattle.cqlp_kind.specs.declared.kind.Kind.{Kind}
use Rattle.cqlp_kind.specs.declared.kind.Kind.TheVariants as kind
use Rattle.cqlp_kind.specs.Types.{Types, has_no_items}
use Rattle.cqlp_kind.specs.Contents.{scalar_in, value_of}
use Rattle.cqlp_kind.specs.Scalars.{ScalarValue, allows_size, fault_of, scalar_of}
use Rattle.cqlp_kind.specs.CellStep.{CellEvent, CellPlace, CellSymbol, Empty, Leaf, Null, cell_step, content_step, leaf_step, place_after, scalar_step, sized_step}
use Rattle.cqlp_read_value.specs.Fronts.{value_at}

abbrev CellSaid : Type 0
CellSaid = Said (Emitted CellEvent CellPlace) (ℕ × Reason)

both_true : (a b : Bool) → (a && b) ≡ true → (a ≡ true) × (b ≡ true)
both_true true true e = (refl, refl)
both_true true false e = absurd cc
both_true false b e = absurd cc

first_false : (a b : Bool) → (a && b) ≡ false → b ≡ true → a ≡ false
first_false true true e t = absurd cc
first_false true false e t = absurd cc
first_false false b e t = refl

same_why : (why other : Reason) → ◌≡◌ {A = Result ScalarValue Reason} (Err why) (Err other) → other ≡ why
same_why why other e = cc

was_false : (b : Bool) → not b ≡ true → b ≡ false
was_false true e = absurd cc
was_false false e = refl

was_true : (b : Bool) → not b ≡ false → b ≡ true
was_true true e = refl
was_true false e = absurd cc

pub has_some : (k : Kind) → not (has_no_items k) ≡ true → has_no_items k ≡ false
has_some k = was_false (has_no_items k)

pub has_none : (k : Kind) → not (has_no_items k) ≡ false → has_no_items k ≡ true
has_none k = was_true (has_no_items k)

-- a scalar's content is read by its kind alone
scalar_step_is : (l : Rules) (p : CellPlace) (rest : List CellSymbol) (level : ℕ) (k : Kind) (inner : Types) (n : ℕ) → has_no_items k ≡ true → content_step l p rest level k inner n ≡ scalar_step l p rest level k n
scalar_step_is l p rest level kind.List inner n e = absurd cc
scalar_step_is l p rest level kind.Set inner n e = absurd cc
scalar_step_is l p rest level kind.Map inner n e = absurd cc
scalar_step_is l p rest level kind.Udt inner n e = absurd cc
scalar_step_is l p rest level kind.Tuple inner n e = absurd cc
scalar_step_is l p rest level k inner n e = refl

-- a scalar, where its content is one
ok_is : (k : Kind) (c : List ℕ) (v : ScalarValue) (size : Bool) (o : Option ScalarValue) → allows_size k (length c) ≡ size → scalar_of k c ≡ o → Ok v ≡ scalar_in k c → (allows_size k (length c) ≡ true) × (scalar_of k c ≡ Some v)
ok_is k c v false o s e is = let no = rw s at is in absurd cc
ok_is k c v true None s e is = let no = rw (s, e) at is in absurd cc
ok_is k c v true (Some w) s e is = let got : ◌≡◌ {A = Result ScalarValue Reason} (Ok v) (Ok w) = rw (s, e) at is in (s, e ∙ cc)

module _ (l : Rules) (whole : l.parts ≡ false) (strict : l.lenient ≡ false) (k : Kind) (inner : Types) (b : List ℕ) (at level : ℕ) (rest : List CellSymbol) where
  abbrev here : CellPlace
  here = value_at at k inner b level rest

  abbrev emitted : CellSaid
  emitted = says (cell_step l here) 0 b

  room_is : at + length b - at ≡ length b
  room_is = omega arith

  pub says_short : length b < 4 → emitted ≡ Bad (at, Overrun)
  unfolding number_of
  says_short lt = rw (room_is, lt-ltb (length b) 4 lt) refl

  module _ (n : ℕ) (is : IsNumber 4 w32 n (take 4 b)) (first : 4 ≤ length b) where
    says_sized : emitted ≡ says (sized_step l here rest k inner level (length b) n) 4 (drop 4 b)
    unfolding number_of
    says_sized = rw (room_is, le-ltb (length b) 4 first, le-ltb (length b) 4 first, is.is) refl

    pub says_null : 2 ^ 31 ≤ n → emitted ≡ Got (record { at = at; event = Null level; after = place_after here rest [] }) 4
    says_null le = says_sized ∙ rw (lt-ltb (2 ^ 31 - 1) n (omega arith)) refl

    pub says_empty : n ≡ 0 → emitted ≡ Got (record { at = at; event = Empty level; after = place_after here rest [] }) 4
    says_empty e = says_sized ∙ rw e refl

    module _ (low : n < 2 ^ 31) (some : n ≢ 0) where
      pub says_past : length b < 4 + n → emitted ≡ Bad (at, Overrun)
      says_past past = says_sized ∙ rw (le-ltb (2 ^ 31 - 1) n (omega arith), ne_eqb n 0 some, lt-ltb (length b) (4 + n) past) refl

      module _ (there : 4 + n ≤ length b) where
        pub says_content : emitted ≡ says (content_step l here rest level k inner n) 4 (drop 4 b)
        says_content = says_sized ∙ rw (le-ltb (2 ^ 31 - 1) n (omega arith), ne_eqb n 0 some, le-ltb (length b) (4 + n) there) refl

        pub left : n ≤ length (drop 4 b)
        left = omega (arith, there, length-drop 4 b)

        pub content_long : length (take n (drop 4 b)) ≡ n
        content_long = length-take-le n (drop 4 b) left

        module _ (scalar : has_no_items k ≡ true) where
          says_scalar_step : emitted ≡ says (scalar_step l here rest level k n) 4 (drop 4 b)
          says_scalar_step = says_content ∙ ap (λ (s : Step CellEvent CellPlace). says s 4 (drop 4 b)) (scalar_step_is l here rest level k inner n scalar)

          pub says_long : (ltb l.cell n && allows_size k n) ≡ true → emitted ≡ Bad (at, TooLong)
          says_long t = let both = both_true (ltb l.cell n) (allows_size k n) t in says_scalar_step ∙ rw (strict, both.1, whole, both.0) refl

          module _ (short : (ltb l.cell n && allows_size k n) ≡ false) where
            pub says_scalar : (v : ScalarValue) → Ok v ≡ scalar_in k (take n (drop 4 b)) → emitted ≡ Got (record { at = at; event = Leaf level v; after = place_after here rest [] }) (4 + n)
            says_scalar v is =
                let s = ok_is k (take n (drop 4 b)) v (allows_size k (length (take n (drop 4 b)))) (scalar_of k (take n (drop 4 b))) refl refl is in
                let size : allows_size k n ≡ true = rw content_long at s.0 in
                let fits = first_false (ltb l.cell n) (allows_size k n) short size in
                says_scalar_step ∙ rw (strict, size, whole, fits, le-ltb (length (drop 4 b)) n left, s.1) refl

            bad_content : (why : Reason) (size : Bool) (o : Option ScalarValue) → allows_size k (length (take n (drop 4 b))) ≡ size → scalar_of k (take n (drop 4 b)) ≡ o → Err why ≡ scalar_in k (take n (drop 4 b)) → emitted ≡ Bad (at, why)
            bad_content why false o s e is =
                let size : allows_size k n ≡ false = rw content_long at s in
                let same = same_why why BadSize (rw s at is) in
                says_scalar_step ∙ rw (strict, size) (ap (λ (w : Reason). Bad (at, w)) same)
            bad_content why true None s e is =
                let size : allows_size k n ≡ true = rw content_long at s in
                let fits = first_false (ltb l.cell n) (allows_size k n) short size in
                let same = same_why why (fault_of k) (rw (s, e) at is) in
                says_scalar_step ∙ rw (strict, size, whole, fits, le-ltb (length (drop 4 b)) n left, e) (ap (λ (w : Reason). Bad (at, w)) same)
            bad_content why true (Some v) s e is = let no = rw (s, e) at is in absurd cc

            pub says_bad : (why : Reason) → Err why ≡ scalar_in k (take n (drop 4 b)) → emitted ≡ Bad (at, why)
            says_bad why is = bad_content why (allows_size k (length (take n (drop 4 b)))) (scalar_of k (take n (drop 4 b))) refl refl is
