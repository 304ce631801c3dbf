-- How far values in a value are read.
use Rattle.std.proofs.Common.{◌≡◌, ℕ, zero, suc, ◌+◌, ◌-◌, ◌<◌, ◌≤◌, get_or, true, false, List, [], ◌∷◌, ◌++◌, length, take, drop, drop-cons, refl, sym, ap, ◌∙◌, subst, add-one, arith}
use Rattle.std.proofs.Math.Seq.{take-append-add}
use Rattle.std.proofs.lemmas.List.{length-drop, length-take-le, take-append-drop, take_all, drop_all}
use Rattle.cqlp_note.specs.declared.field.Notation.TheVariants as notation
use Rattle.cqlp_note.specs.declared.refusal.Reason.TheVariants.{ExtraInValue}
use Rattle.cqlp_note.specs.Field.{Count}
use Rattle.cqlp_note.specs.Limits.{Rules}
use Rattle.cqlp_note.specs.Spelling.{Spells}
use Rattle.cqlp_kind.specs.declared.kind.Kind.{Kind}
use Rattle.cqlp_kind.specs.Types.{Types, NoMore, Type_and, first_types, followed_by}
use Rattle.cqlp_type.specs.declared.tree.TypeTree.{TypeTree}
use Rattle.cqlp_type.specs.Trees.{kind_in, types_in}
use Rattle.cqlp_type.specs.TypeTrees.{head_of, inner_of}
use Rattle.cqlp_cell.specs.Sizes.{is_counted}
use Rattle.cqlp_value.specs.declared.value.Value.{Value, Null, Empty, Leaf, List', Map', Set', Tuple', Udt'}
use Rattle.cqlp_value.specs.Measures.{listed_pairs, listed_values, types_by}
use Rattle.cqlp_value.specs.Owned.{value_and, value_of}
use Rattle.cqlp_value.specs.Values.{AreWithin, ValueSpells, Values, NoValue, Null_and, Empty_and, Scalar_and, Counted_and, Fields_and, ValuesSpell, has_fields, type_copies}
use Rattle.cqlp_value.proofs.ReadBack.{spelled_after, with_others}
use Rattle.cqlp_read_value.specs.declared.error.ReadError.{ReadError}
use Rattle.cqlp_read_value.specs.declared.error.ReadError.TheVariants as error
use Rattle.cqlp_read_value.specs.Fronts.{AreCounted, ContentStops, FrontStops}
use Rattle.cqlp_read_value.proofs.Refusals.{refusal}
use Rattle.cqlp_read_value.proofs.Contents.{FieldsLead, fields_begin, fields_follow, fields_stop, fields_end, fields_want, counted_stops, counted_ends, counted_wants}

-- ---- values side by side

and_others : (v : Value) (vs ws : Values) → with_others (value_and v vs) ws ≡ value_and v (with_others vs ws)
and_others Null vs ws = refl
and_others Empty vs ws = refl
and_others (Leaf a) vs ws = refl
and_others (List' shape items) vs ws = refl
and_others (Map' shape pairs) vs ws = refl
and_others (Set' shape items) vs ws = refl
and_others (Tuple' shape items) vs ws = refl
and_others (Udt' shape items) vs ws = refl

pub values_snoc : (xs : List Value) (v : Value) → listed_values (xs ++ v ∷ []) ≡ with_others (listed_values xs) (value_of v)
values_snoc [] v = refl
values_snoc (x ∷ xs) v = ap (value_and x) (values_snoc xs v) ∙ sym (and_others x (listed_values xs) (value_of v))

pub pairs_snoc : (xs : List (Value × Value)) (x : Value × Value) → listed_pairs (xs ++ x ∷ []) ≡ with_others (listed_pairs xs) (with_others (value_of x.0) (value_of x.1))
pairs_snoc [] x = sym (and_others x.0 NoValue (value_of x.1))
pairs_snoc (y ∷ xs) x =
    let these = with_others (value_of x.0) (value_of x.1) in
    ap (λ (vs : Values). value_and y.0 (value_and y.1 vs)) (pairs_snoc xs x)
    ∙ ap (value_and y.0) (sym (and_others y.1 (listed_pairs xs) these))
    ∙ sym (and_others y.0 (value_and y.1 (listed_pairs xs)) these)

pub within_both : (l : Rules) (vs ws : Values) → AreWithin l vs → AreWithin l ws → AreWithin l (with_others vs ws)
within_both l NoValue ws a b = b
within_both l (Null_and vs) ws a b = within_both l vs ws a b
within_both l (Empty_and vs) ws a b = within_both l vs ws a b
within_both l (Scalar_and v vs) ws a b = (a.0, a.1, within_both l vs ws a.2 b)
within_both l (Counted_and k n items vs) ws a b = (a.0, within_both l vs ws a.1 b)
within_both l (Fields_and k items vs) ws a b = (a.0, within_both l vs ws a.1 b)

pub followed_assoc : (ts us vs : Types) → followed_by (followed_by ts us) vs ≡ followed_by ts (followed_by us vs)
followed_assoc NoMore us vs = refl
followed_assoc (Type_and k inner ts) us vs = ap (Type_and k inner) (followed_assoc ts us vs)

followed_none : (ts : Types) → followed_by ts NoMore ≡ ts
followed_none NoMore = refl
followed_none (Type_and k inner ts) = ap (Type_and k inner) (followed_none ts)

copies_split : (m n : ℕ) (ts : Types) → type_copies (m + n) ts ≡ followed_by (type_copies m ts) (type_copies n ts)
copies_split zero n ts = let e : 0 + n ≡ n = omega arith in rw e refl
copies_split (suc m) n ts =
    let e : suc m + n ≡ suc (m + n) = omega arith in
    rw e (ap (followed_by ts) (copies_split m n ts) ∙ sym (followed_assoc ts (type_copies m ts) (type_copies n ts)))

copies_more : (n : ℕ) (ts : Types) → type_copies (n + 1) ts ≡ followed_by (type_copies n ts) ts
copies_more n ts = copies_split n 1 ts ∙ ap (followed_by (type_copies n ts)) (followed_none ts)

-- after n of them there is another
pub copies_at : (n count : ℕ) (ts : Types) → n < count → type_copies count ts ≡ followed_by (type_copies n ts) (followed_by ts (type_copies (count - suc n) ts))
copies_at n count ts lt =
    let e : count ≡ n + suc (count - suc n) = omega arith in
    ap (λ (m : ℕ). type_copies m ts) e ∙ copies_split n (suc (count - suc n)) ts

take_both : (m n : ℕ) (xs : List ℕ) → m ≤ length xs → take m xs ++ take n (drop m xs) ≡ take (m + n) xs
take_both m n xs le =
    let size : length (take m xs) ≡ m = length-take-le m xs le in
    sym (take-append-add (take m xs) (drop m xs) n) ∙ ap (λ (k : ℕ). take (k + n) (take m xs ++ drop m xs)) size ∙ ap (λ (ys : List ℕ). take (m + n) ys) (take-append-drop m xs)

-- a value, and another after it
pub pair_spells : (k j : Kind) (inner others : Types) (v w : Values) (m n : ℕ) (b : List ℕ) → m ≤ length b → ValueSpells k inner v (take m b) → ValueSpells j others w (take n (drop m b)) → ValuesSpell (Type_and k inner (Type_and j others NoMore)) (with_others v w) (take (m + n) b)
pair_spells k j inner others v w m n b le s t =
    subst (λ (x : List ℕ). ValuesSpell (Type_and k inner (Type_and j others NoMore)) (with_others v w) x) (take_both m n b le)
    (spelled_after (Type_and k inner NoMore) (Type_and j others NoMore) v w (take m b) (take n (drop m b)) s t)

-- ---- lists, sets and maps

-- So many of the items that are counted are read, and are spelled by so many bytes.
pub record AreRead (l : Rules) (ts : Types) (count : ℕ) (body : List ℕ) (n : ℕ) (vs : Values) (used : ℕ) : Type 0 where
  pub inside : used ≤ length body
  pub few : n ≤ count
  pub spelled : ValuesSpell (type_copies n ts) vs (take used body)
  pub within : AreWithin l vs

pub none_read : (l : Rules) (ts : Types) (count : ℕ) (body : List ℕ) → AreRead l ts count body 0 NoValue 0
none_read l ts count body = record { inside = omega arith; few = omega arith; spelled = refl; within = tt }

pub one_more_read : (l : Rules) (ts : Types) (count : ℕ) (body : List ℕ) (n : ℕ) (vs ws : Values) (used m : ℕ) → AreRead l ts count body n vs used → n < count → m ≤ length (drop used body) → ValuesSpell ts ws (take m (drop used body)) → AreWithin l ws → AreRead l ts count body (n + 1) (with_others vs ws) (used + m)
one_more_read l ts count body n vs ws used m r lt le spelled within = record {
  inside = omega (arith, r.inside, length-drop used body);
  few = omega arith;
  spelled = subst (λ (t : Types). ValuesSpell t (with_others vs ws) (take (used + m) body)) (sym (copies_more n ts))
      (subst (λ (x : List ℕ). ValuesSpell (followed_by (type_copies n ts) ts) (with_others vs ws) x) (take_both used m body r.inside)
      (spelled_after (type_copies n ts) ts vs ws (take used body) (take m (drop used body)) r.spelled spelled));
  within = within_both l vs ws r.within within;
}

module _ (l : Rules) (at : ℕ) (k : Kind) (counted : is_counted k ≡ true) (c : List ℕ) (count : ℕ) (is : Spells notation.Count32 (Count count) (take 4 c)) where
  -- the next item is refused
  pub item_refused : (j : Kind) (inner others : Types) (n : ℕ) (vs : Values) (used : ℕ) (r : ReadError) → let ts = Type_and j inner others in AreRead l ts count (drop 4 c) n vs used → n < count → FrontStops l (at + 8 + used) j inner (drop used (drop 4 c)) r → ContentStops l at k ts c r
  unfolding Spells
  item_refused j inner others n vs used r read lt refused =
      let ts = Type_and j inner others in
      counted_stops l at k ts c (take 4 c) (drop 4 c) count counted (sym (take-append-drop 4 c)) is.0 is.1 (type_copies n ts) (followed_by others (type_copies (count - suc n) ts)) j inner vs used r
      (copies_at n count ts lt) read.spelled read.within read.inside refused

  -- the value after a key is refused
  pub second_refused : (i j : Kind) (inner others : Types) (n : ℕ) (vs v : Values) (used m : ℕ) (r : ReadError) → let ts = Type_and i inner (Type_and j others NoMore) in AreRead l ts count (drop 4 c) n vs used → n < count → m ≤ length (drop used (drop 4 c)) → ValueSpells i inner v (take m (drop used (drop 4 c))) → AreWithin l v
      → FrontStops l (at + 8 + (used + m)) j others (drop (used + m) (drop 4 c)) r → ContentStops l at k ts c r
  unfolding Spells
  second_refused i j inner others n vs v used m r read lt le spelled within refused =
      let ts = Type_and i inner (Type_and j others NoMore) in
      let key = Type_and i inner NoMore in
      let body = drop 4 c in
      let done = followed_by (type_copies n ts) key in
      let more = type_copies (count - suc n) ts in
      let split : type_copies count ts ≡ followed_by done (Type_and j others more) = copies_at n count ts lt ∙ sym (followed_assoc (type_copies n ts) key (Type_and j others more)) in
      let both = subst (λ (x : List ℕ). ValuesSpell done (with_others vs v) x) (take_both used m body read.inside) (spelled_after (type_copies n ts) key vs v (take used body) (take m (drop used body)) read.spelled spelled) in
      counted_stops l at k ts c (take 4 c) body count counted (sym (take-append-drop 4 c)) is.0 is.1 done more j others (with_others vs v) (used + m) r split both (within_both l vs v read.within within) (omega (arith, read.inside, length-drop used body)) refused

  -- the first items are kept
  pub items_want : l.parts ≡ false → (j : Kind) (inner others : Types) (n : ℕ) (vs : Values) (used : ℕ) → let ts = Type_and j inner others in AreRead l ts count (drop 4 c) n vs used → 0 < n → ContentStops l at k ts c error.NoMemory
  unfolding Spells
  items_want whole j inner others n vs used read some =
      let ts = Type_and j inner others in
      let m = n - 1 in
      let body = drop 4 c in
      let rest = type_copies (count - n) ts in
      let e : n ≡ suc m = omega (arith, some) in
      let f : count ≡ n + (count - n) = omega (arith, read.few) in
      let split : type_copies count ts ≡ followed_by (type_copies (suc m) ts) rest = ap (λ (x : ℕ). type_copies x ts) f ∙ copies_split n (count - n) ts ∙ ap (λ (x : ℕ). followed_by (type_copies x ts) rest) e in
      counted_wants l at k ts c (take 4 c) body count counted (sym (take-append-drop 4 c)) is.0 is.1 whole j inner (followed_by others (type_copies m ts)) rest vs used split
      (subst (λ (x : ℕ). ValuesSpell (type_copies x ts) vs (take used body)) e read.spelled) read.within read.inside

  -- bytes are left after all items
  pub items_end : (ts : Types) (n : ℕ) (vs : Values) (used : ℕ) → AreRead l ts count (drop 4 c) n vs used → count ≤ n → used < length (drop 4 c) → ContentStops l at k ts c (refusal (at + 8 + used) ExtraInValue)
  unfolding Spells
  items_end ts n vs used read all lt =
      let e : n ≡ count = omega (arith, read.few) in
      counted_ends l at k ts c (take 4 c) (drop 4 c) count counted (sym (take-append-drop 4 c)) is.0 is.1 vs used (subst (λ (m : ℕ). ValuesSpell (type_copies m ts) vs (take used (drop 4 c))) e read.spelled) read.within lt

pub all_counted : (l : Rules) (at : ℕ) (ts : Types) (c : List ℕ) (count n : ℕ) (vs : Values) (used : ℕ) → Spells notation.Count32 (Count count) (take 4 c) → AreRead l ts count (drop 4 c) n vs used → count ≤ n → length (drop 4 c) ≤ used → AreCounted l at ts n vs c
all_counted l at ts c count n vs used is read all end =
    let body = drop 4 c in
    let e : count ≡ n = omega (arith, read.few) in
    let whole : take used body ≡ body = take_all used body end in
    (record { front = take 4 c; back = body; whole = sym (take-append-drop 4 c); this = subst (λ (m : ℕ). Spells notation.Count32 (Count m) (take 4 c)) e is; that = subst (λ (x : List ℕ). ValuesSpell (type_copies n ts) vs x) whole read.spelled }, read.within)

-- ---- tuples and user-defined types

-- So many of the fields are read, and are spelled by so many bytes.
pub record FieldsRead (l : Rules) (at : ℕ) (ts more : Types) (c : List ℕ) (n : ℕ) (vs : Values) (used : ℕ) : Type 0 where
  pub inside : used ≤ length c
  pub spelled : ValuesSpell (first_types n ts) vs (take used c)
  pub within : AreWithin l vs
  pub lead : FieldsLead l at ts c more n used

no_first : (ts : Types) → first_types 0 ts ≡ NoMore
no_first ts = refl

pub no_fields : (l : Rules) (at : ℕ) (ts : Types) (c : List ℕ) → FieldsRead l at ts ts c 0 NoValue 0
no_fields l at ts c = record { inside = omega arith; spelled = refl; within = tt; lead = fields_begin l at ts c }

module _ {X : Type 0} (f : X → TypeTree) where
  abbrev pub one : X → Types
  one x = Type_and (kind_in (head_of (f x))) (types_in (inner_of (f x))) NoMore

  firsts_more : (xs : List X) (i : ℕ) (x : X) → x ≡ get_or xs i x → i < length xs → first_types (i + 1) (types_by f xs) ≡ followed_by (first_types i (types_by f xs)) (one x)
  firsts_more [] i x here lt = absurd (omega arith)
  firsts_more (y ∷ xs) zero x here lt = ap one (sym here)
  firsts_more (y ∷ xs) (suc i) x here lt =
      let e : suc i + 1 ≡ suc (i + 1) = omega arith in
      rw e (ap (Type_and (kind_in (head_of (f y))) (types_in (inner_of (f y)))) (firsts_more xs i x here (omega arith)))

  from_next : (xs : List X) (i : ℕ) (x : X) → x ≡ get_or xs i x → i < length xs → drop i xs ≡ x ∷ drop (i + 1) xs
  from_next xs i x here lt = drop-cons xs i x lt ∙ ap (λ y. y ∷ drop (suc i) xs) (sym here) ∙ ap (λ (n : ℕ). x ∷ drop n xs) (sym (add-one i))

  module _ (l : Rules) (at : ℕ) (xs : List X) (c : List ℕ) where
    -- after i fields, those of the other types are due
    abbrev pub AfterFields : (i : ℕ) → (vs : Values) → (used : ℕ) → Type 0
    AfterFields i vs used = FieldsRead l at (types_by f xs) (types_by f (drop i xs)) c i vs used

    module _ (i : ℕ) (x : X) (here : x ≡ get_or xs i x) (lt : i < length xs) (vs : Values) (used : ℕ) (read : AfterFields i vs used) where
      due : FieldsLead l at (types_by f xs) c (Type_and (kind_in (head_of (f x))) (types_in (inner_of (f x))) (types_by f (drop (i + 1) xs))) i used
      due = subst (λ (ys : List X). FieldsLead l at (types_by f xs) c (types_by f ys) i used) (from_next xs i x here lt) read.lead

      pub next_field : (ws : Values) (m : ℕ) → used < length c → m ≤ length (drop used c) → ValueSpells (kind_in (head_of (f x))) (types_in (inner_of (f x))) ws (take m (drop used c)) → AreWithin l ws → AfterFields (i + 1) (with_others vs ws) (used + m)
      next_field ws m more le spelled within = record {
        inside = omega (arith, read.inside, length-drop used c);
        spelled = subst (λ (t : Types). ValuesSpell t (with_others vs ws) (take (used + m) c)) (sym (firsts_more xs i x here lt))
            (subst (λ (b : List ℕ). ValuesSpell (followed_by (first_types i (types_by f xs)) (one x)) (with_others vs ws) b) (take_both used m c read.inside)
            (spelled_after (first_types i (types_by f xs)) (one x) vs ws (take used c) (take m (drop used c)) read.spelled spelled));
        within = within_both l vs ws read.within within;
        lead = fields_follow l at (types_by f xs) c (kind_in (head_of (f x))) (types_in (inner_of (f x))) (types_by f (drop (i + 1) xs)) ws i used m due more le spelled within;
      }

      pub field_refused : (k : Kind) → has_fields k ≡ true → (r : ReadError) → used < length c → FrontStops l (at + 4 + used) (kind_in (head_of (f x))) (types_in (inner_of (f x))) (drop used c) r → ContentStops l at k (types_by f xs) c r
      field_refused k fields r more refused = fields_stop l at (types_by f xs) c k fields (kind_in (head_of (f x))) (types_in (inner_of (f x))) (types_by f (drop (i + 1) xs)) i used r due more refused

    -- the first fields are kept
    pub fields_keep : l.parts ≡ false → (i : ℕ) (vs : Values) (used : ℕ) → AfterFields i vs used → 0 < i → (k : Kind) → has_fields k ≡ true → ContentStops l at k (types_by f xs) c error.NoMemory
    fields_keep whole i vs used read some k fields = fields_want l at (types_by f xs) c k fields whole (types_by f (drop i xs)) i used read.lead some

    pub fields_over : l.lenient ≡ false → (i : ℕ) (vs : Values) (used : ℕ) → AfterFields i vs used → length xs ≤ i → (k : Kind) → has_fields k ≡ true → used < length c → ContentStops l at k (types_by f xs) c (refusal (at + 4 + used) ExtraInValue)
    fields_over strict i vs used read all k fields lt =
        let none : drop i xs ≡ [] = drop_all i xs all in
        fields_end l at (types_by f xs) c k fields strict i used (subst (λ (ys : List X). FieldsLead l at (types_by f xs) c (types_by f ys) i used) none read.lead) lt

    pub fields_whole : (i : ℕ) (vs : Values) (used : ℕ) → AfterFields i vs used → length c ≤ used → ValuesSpell (first_types i (types_by f xs)) vs c × AreWithin l vs
    fields_whole i vs used read end =
        let whole : take used c ≡ c = take_all used c end in
        (subst (λ (b : List ℕ). ValuesSpell (first_types i (types_by f xs)) vs b) whole read.spelled, read.within)
