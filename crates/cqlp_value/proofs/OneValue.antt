-- Bytes spell at most one value of a type.
use Rattle.std.proofs.Common.{◌≡◌, ◌≢◌, ℕ, zero, suc, true, List, [], ◌∷◌, ◌++◌, length, take, drop, Option, Some, None, refl, sym, ap, ◌∙◌, append_assoc, subst, arith}
use Rattle.std.specs.Int.{w32, from_be_bytes}
use Rattle.std.proofs.lemmas.List.{length-append, take_at, drop_at}
use Rattle.cqlp_note.specs.declared.field.Notation.TheVariants as notation
use Rattle.cqlp_note.specs.Field.{Count}
use Rattle.cqlp_note.specs.Spelling.{Spells}
use Rattle.cqlp_kind.specs.declared.kind.Kind.{Kind}
use Rattle.cqlp_kind.specs.declared.kind.Kind.TheVariants as kind
use Rattle.cqlp_kind.specs.Types.{Types, NoMore, Type_and, first_types}
use Rattle.cqlp_type.specs.Trees.{Joined}
use Rattle.cqlp_kind.specs.Scalars.{ScalarValue, scalar_of}
use Rattle.cqlp_cell.specs.Sizes.{is_counted}
use Rattle.cqlp_value.specs.Values.{Values, NoValue, Null_and, Empty_and, Scalar_and, Counted_and, Fields_and, values_in, type_copies, has_fields, IsBytes, ValuesSpell, ValueSpells}
use Rattle.cqlp_value.proofs.ReadBack.{spelled_size, count_size}

-- ---- bytes in front of others

-- lists of the same length in front of others
cut : (a b c d : List ℕ) → length a ≡ length b → a ++ c ≡ b ++ d → (a ≡ b) × (c ≡ d)
cut a b c d long e = (
  sym (take_at a c (length a) refl) ∙ ap (take (length a)) e ∙ take_at b d (length a) (sym long),
  sym (drop_at a c (length a) refl) ∙ ap (drop (length a)) e ∙ drop_at b d (length a) (sym long),
)

null_some : (c f g r s : List ℕ) → IsBytes None f → IsBytes (Some c) g → f ++ r ≡ g ++ s → ⊥
unfolding Spells
null_some c f g r s a b e =
    let same : f ++ r ≡ b.0.head ++ (c ++ s) = e ∙ ap (λ (x : List ℕ). x ++ s) b.0.parts ∙ append_assoc b.0.head c s in
    let heads = (cut f b.0.head r (c ++ s) (a.1.long ∙ sym b.0.counts.long) same).0 in
    omega (arith, sym a.1.is ∙ ap (from_be_bytes w32) heads ∙ b.0.counts.is, a.2, b.1)

pub bytes_same : (o p : Option (List ℕ)) (f g r s : List ℕ) → IsBytes o f → IsBytes p g → f ++ r ≡ g ++ s → (o ≡ p) × (r ≡ s)
unfolding Spells
bytes_same None None f g r s a b e = (refl, (cut f g r s (a.1.long ∙ sym b.1.long) e).1)
bytes_same None (Some d) f g r s a b e = absurd (null_some d f g r s a b e)
bytes_same (Some c) None f g r s a b e = absurd (null_some c g f s r b a (sym e))
bytes_same (Some c) (Some d) f g r s a b e =
    let left : f ++ r ≡ a.0.head ++ (c ++ r) = ap (λ (x : List ℕ). x ++ r) a.0.parts ∙ append_assoc a.0.head c r in
    let right : g ++ s ≡ b.0.head ++ (d ++ s) = ap (λ (x : List ℕ). x ++ s) b.0.parts ∙ append_assoc b.0.head d s in
    let heads = cut a.0.head b.0.head (c ++ r) (d ++ s) (a.0.counts.long ∙ sym b.0.counts.long) (sym left ∙ e ∙ right) in
    let long : length c ≡ length d = sym a.0.counts.is ∙ ap (from_be_bytes w32) heads.0 ∙ b.0.counts.is in
    let contents = cut c d r s long heads.1 in
    (ap Some contents.0, contents.1)

count_same : (m n : ℕ) (f g r s : List ℕ) → Spells notation.Count32 (Count m) f → Spells notation.Count32 (Count n) g → f ++ r ≡ g ++ s → (m ≡ n) × (r ≡ s)
unfolding Spells
count_same m n f g r s a b e =
    let both = cut f g r s (a.0.long ∙ sym b.0.long) e in
    (sym a.0.is ∙ ap (from_be_bytes w32) both.0 ∙ b.0.is, both.1)

-- ---- what a value is by its type and its [bytes]

data Shape : Type 0 where
  Nothing_there Is_null Is_empty Is_scalar Is_counted Is_fielded : Shape

abbrev shape : Values → Shape
shape NoValue = Nothing_there
shape (Null_and vs) = Is_null
shape (Empty_and vs) = Is_empty
shape (Scalar_and v vs) = Is_scalar
shape (Counted_and k n items vs) = Is_counted
shape (Fields_and k items vs) = Is_fielded

abbrev kind_shape : Kind → Shape
kind_shape kind.List = Is_counted
kind_shape kind.Set = Is_counted
kind_shape kind.Map = Is_counted
kind_shape kind.Tuple = Is_fielded
kind_shape kind.Udt = Is_fielded
kind_shape _ = Is_scalar

abbrev bytes_shape : Kind → Option (List ℕ) → Shape
bytes_shape k None = Is_null
bytes_shape k (Some []) = Is_empty
bytes_shape k (Some (x ∷ c)) = kind_shape k

some_shape : (k : Kind) (c : List ℕ) → c ≢ [] → bytes_shape k (Some c) ≡ kind_shape k
some_shape k [] ne = absurd (ne refl)
some_shape k (x ∷ c) ne = refl

scalar_shape : (k : Kind) (c : List ℕ) (v : ScalarValue) → scalar_of k c ≡ Some v → kind_shape k ≡ Is_scalar
unfolding scalar_of
scalar_shape kind.List c v e = absurd cc
scalar_shape kind.Set c v e = absurd cc
scalar_shape kind.Map c v e = absurd cc
scalar_shape kind.Tuple c v e = absurd cc
scalar_shape kind.Udt c v e = absurd cc
scalar_shape k c v e = refl

counted_shape : (k : Kind) → is_counted k ≡ true → kind_shape k ≡ Is_counted
counted_shape kind.List t = refl
counted_shape kind.Set t = refl
counted_shape kind.Map t = refl
counted_shape k t = absurd cc

fielded_shape : (k : Kind) → has_fields k ≡ true → kind_shape k ≡ Is_fielded
fielded_shape kind.Tuple t = refl
fielded_shape kind.Udt t = refl
fielded_shape k t = absurd cc

record First (k : Kind) (vs : Values) (b : List ℕ) : Type 0 where
  content : Option (List ℕ)
  front : List ℕ
  back : List ℕ
  whole : b ≡ front ++ back
  bytes : IsBytes content front
  is : shape vs ≡ bytes_shape k content

some_count : (P : List ℕ → Type 0) (n : ℕ) (c : List ℕ) → Joined (Spells notation.Count32 (Count n)) P c → c ≢ []
some_count P n c h e = omega (arith, ap length (sym h.whole ∙ e), length-append h.front h.back, count_size n h.front h.this)

first_of : (k : Kind) (inner ts : Types) (vs : Values) (b : List ℕ) → ValuesSpell (Type_and k inner ts) vs b → First k vs b
first_of k inner ts NoValue b h = absurd h
first_of k inner ts (Null_and vs) b h = record { content = None; front = h.front; back = h.back; whole = h.whole; bytes = h.this; is = refl }
first_of k inner ts (Empty_and vs) b h = record { content = Some []; front = h.front; back = h.back; whole = h.whole; bytes = h.this; is = refl }
first_of k inner ts (Scalar_and v vs) b h = record { content = Some h.0; front = h.2.front; back = h.2.back; whole = h.2.whole; bytes = h.2.this; is = sym (some_shape k h.0 h.1.some ∙ scalar_shape k h.0 v h.1.is) }
first_of k inner ts (Counted_and j n items vs) b h = record { content = Some h.2; front = h.4.front; back = h.4.back; whole = h.4.whole; bytes = h.4.this; is = sym (some_shape k h.2 (some_count _ n h.2 h.3) ∙ counted_shape k h.1) }
first_of k inner ts (Fields_and j items vs) b h = record { content = Some h.2; front = h.5.front; back = h.5.back; whole = h.5.whole; bytes = h.5.this; is = sym (some_shape k h.2 h.3 ∙ fielded_shape k h.1) }

-- ---- types of which some begin the others

abbrev Alike : Types → Types → Type 0
Alike NoMore us = Unit {0}
Alike ts NoMore = Unit {0}
Alike (Type_and k inner ts) (Type_and j these us) = (k ≡ j) × (inner ≡ these) × Alike ts us

alike_self : (ts : Types) → Alike ts ts
alike_self NoMore = tt
alike_self (Type_and k inner ts) = (refl, refl, alike_self ts)

alike_firsts : (m n : ℕ) (ts : Types) → Alike (first_types m ts) (first_types n ts)
alike_firsts zero n ts = tt
alike_firsts (suc m) zero NoMore = tt
alike_firsts (suc m) zero (Type_and k inner ts) = tt
alike_firsts (suc m) (suc n) NoMore = tt
alike_firsts (suc m) (suc n) (Type_and k inner ts) = (refl, refl, alike_firsts m n ts)

-- ---- values of the same bytes

nothing_is : (ts : Types) (vs : Values) (b : List ℕ) → ValuesSpell ts vs b → length b ≡ 0 → vs ≡ NoValue
nothing_is ts NoValue b h e = refl
nothing_is ts (Null_and vs) b h e = absurd (omega (arith, spelled_size ts (Null_and vs) b h))
nothing_is ts (Empty_and vs) b h e = absurd (omega (arith, spelled_size ts (Empty_and vs) b h))
nothing_is ts (Scalar_and v vs) b h e = absurd (omega (arith, spelled_size ts (Scalar_and v vs) b h))
nothing_is ts (Counted_and j n items vs) b h e = absurd (omega (arith, spelled_size ts (Counted_and j n items vs) b h))
nothing_is ts (Fields_and j items vs) b h e = absurd (omega (arith, spelled_size ts (Fields_and j items vs) b h))

no_bytes : (vs : Values) (b : List ℕ) → ValuesSpell NoMore vs b → length b ≡ 0
no_bytes NoValue b h = rw h refl
no_bytes vs b h = absurd h

both_none : (ts us : Types) (vs ws : Values) (b : List ℕ) → ValuesSpell ts vs b → ValuesSpell us ws b → length b ≡ 0 → vs ≡ ws
both_none ts us vs ws b h g e = nothing_is ts vs b h e ∙ sym (nothing_is us ws b g e)

same_shape : (ts us : Types) (vs ws : Values) (b c : List ℕ) → b ≡ c → Alike ts us → ValuesSpell ts vs b → ValuesSpell us ws c → shape vs ≡ shape ws
same_shape NoMore us vs ws b c is a h g = ap shape (both_none NoMore us vs ws b h (rw is g) (no_bytes vs b h))
same_shape (Type_and k inner ts) NoMore vs ws b c is a h g = ap shape (both_none (Type_and k inner ts) NoMore vs ws b h (rw is g) (rw is (no_bytes ws c g)))
same_shape (Type_and k inner ts) (Type_and j these us) vs ws b c is a h g =
    let x = first_of k inner ts vs b h in
    let y = first_of j these us ws c g in
    let same = bytes_same x.content y.content x.front y.front x.back y.back x.bytes y.bytes (sym x.whole ∙ is ∙ y.whole) in
    x.is ∙ (λ i. bytes_shape (a.0 i) (same.0 i)) ∙ sym y.is

same_some : {A : Type 0} (x y : A) → ◌≡◌ {A = Option A} (Some x) (Some y) → x ≡ y
same_some x y e = cc

ones : (vs ws : Values) (ts us : Types) (b c : List ℕ) → b ≡ c → Alike ts us → ValuesSpell ts vs b → ValuesSpell us ws c → shape vs ≡ shape ws → vs ≡ ws
ones vs ws NoMore us b c is a h g e = both_none NoMore us vs ws b h (rw is g) (no_bytes vs b h)
ones vs ws (Type_and k inner ts) NoMore b c is a h g e = both_none (Type_and k inner ts) NoMore vs ws b h (rw is g) (rw is (no_bytes ws c g))
ones NoValue ws (Type_and k inner ts) (Type_and j these us) b c is a h g e = absurd h
ones (Null_and vs) (Null_and ws) (Type_and k inner ts) (Type_and j these us) b c is a h g e =
    let r = bytes_same None None h.front g.front h.back g.back h.this g.this (sym h.whole ∙ is ∙ g.whole) in
    ap Null_and (ones vs ws ts us h.back g.back r.1 a.2 h.that g.that (same_shape ts us vs ws h.back g.back r.1 a.2 h.that g.that))
ones (Empty_and vs) (Empty_and ws) (Type_and k inner ts) (Type_and j these us) b c is a h g e =
    let r = bytes_same (Some []) (Some []) h.front g.front h.back g.back h.this g.this (sym h.whole ∙ is ∙ g.whole) in
    ap Empty_and (ones vs ws ts us h.back g.back r.1 a.2 h.that g.that (same_shape ts us vs ws h.back g.back r.1 a.2 h.that g.that))
ones (Scalar_and v vs) (Scalar_and w ws) (Type_and k inner ts) (Type_and j these us) b c is a h g e =
    let m = h.2 in
    let n = g.2 in
    let r = bytes_same (Some h.0) (Some g.0) m.front n.front m.back n.back m.this n.this (sym m.whole ∙ is ∙ n.whole) in
    let contents = same_some h.0 g.0 r.0 in
    let scalars = same_some v w (sym h.1.is ∙ (λ i. scalar_of (a.0 i) (contents i)) ∙ g.1.is) in
    let rest = ones vs ws ts us m.back n.back r.1 a.2 m.that n.that (same_shape ts us vs ws m.back n.back r.1 a.2 m.that n.that) in
    λ i. Scalar_and (scalars i) (rest i)
ones (Counted_and x p items vs) (Counted_and y q others ws) (Type_and k inner ts) (Type_and j these us) b c is a h g e =
    let m = h.4 in
    let n = g.4 in
    let r = bytes_same (Some h.2) (Some g.2) m.front n.front m.back n.back m.this n.this (sym m.whole ∙ is ∙ n.whole) in
    let kinds : x ≡ y = h.0 ∙ a.0 ∙ sym g.0 in
    let d = h.3 in
    let f = g.3 in
    let counts = count_same p q d.front f.front d.back f.back d.this f.this (sym d.whole ∙ same_some h.2 g.2 r.0 ∙ f.whole) in
    let alike = subst (Alike (type_copies p inner)) (λ i. type_copies (counts.0 i) (a.1 i)) (alike_self (type_copies p inner)) in
    let inside = ones items others (type_copies p inner) (type_copies q these) d.back f.back counts.1 alike d.that f.that (same_shape (type_copies p inner) (type_copies q these) items others d.back f.back counts.1 alike d.that f.that) in
    let rest = ones vs ws ts us m.back n.back r.1 a.2 m.that n.that (same_shape ts us vs ws m.back n.back r.1 a.2 m.that n.that) in
    λ i. Counted_and (kinds i) (counts.0 i) (inside i) (rest i)
ones (Fields_and x items vs) (Fields_and y others ws) (Type_and k inner ts) (Type_and j these us) b c is a h g e =
    let m = h.5 in
    let n = g.5 in
    let r = bytes_same (Some h.2) (Some g.2) m.front n.front m.back n.back m.this n.this (sym m.whole ∙ is ∙ n.whole) in
    let kinds : x ≡ y = h.0 ∙ a.0 ∙ sym g.0 in
    let contents = same_some h.2 g.2 r.0 in
    let some = first_types (values_in items) inner in
    let more = first_types (values_in others) these in
    let alike : Alike some more = subst (λ (t : Types). Alike some (first_types (values_in others) t)) a.1 (alike_firsts (values_in items) (values_in others) inner) in
    let inside = ones items others some more h.2 g.2 contents alike h.4 g.4 (same_shape some more items others h.2 g.2 contents alike h.4 g.4) in
    let rest = ones vs ws ts us m.back n.back r.1 a.2 m.that n.that (same_shape ts us vs ws m.back n.back r.1 a.2 m.that n.that) in
    λ i. Fields_and (kinds i) (inside i) (rest i)
ones vs ws (Type_and k inner ts) (Type_and j these us) b c is a h g e = absurd cc

pub one_spelled : (k : Kind) (inner : Types) (v w : Values) (b : List ℕ) → ValueSpells k inner v b → ValueSpells k inner w b → v ≡ w
one_spelled k inner v w b h g =
    let t = Type_and k inner NoMore in
    ones v w t t b b refl (alike_self t) h g (same_shape t t v w b b refl (alike_self t) h g)
