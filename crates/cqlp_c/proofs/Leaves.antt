-- Leaves and nulls that C passes, with no value around them.
use Rattle.std.proofs.Common.{◌≡◌, ℕ, ◌<◌, ◌≤◌, Bool, true, false, nat_lt, if◌then◌else◌, List, length, take, refl, sym, ap, ◌∙◌, Result, Ok, Err, Option, Some, None, arith, subst, lt-ltb}
use Rattle.std.specs.Prelude.{◌==◌, option_map}
use Rattle.std.proofs.lemmas.Bool.{ltb-false}
use Rattle.cqlp_note.specs.Heading.{beside_number}
use Rattle.cqlp_kind.specs.declared.kind.Kind.{Kind}
use Rattle.cqlp_kind.specs.CellStep as cell
use Rattle.cqlp_kind.specs.Scalars.{ScalarValue}
use Rattle.cqlp_grammar.specs.Events.{Event, Cell_at}
use Rattle.cqlp_c.specs.declared.event.CqlpEvent.{CqlpEvent}
use Rattle.cqlp_c.specs.declared.numbers.TheConstants as numbers
use Rattle.cqlp_c.specs.declared.from_c.BadEvent.{BadEvent}
use Rattle.cqlp_c.specs.declared.from_c.BadEvent.TheVariants as bad_event
use Rattle.cqlp_c.specs.Numbers.{kinds}
use Rattle.cqlp_c.specs.FromC.{IsEmpty, IsLeaf, IsNoLeaf, IsNull, content_len, event_from_c, event_with, found_leaf, is_event}
use Rattle.cqlp_c.specs.CellFromC.{kind_in, leaf_from_c, scalar_from_c}
use Rattle.cqlp_c.proofs.Conforming.{kind_conforms}
use Rattle.cqlp_c.proofs.Written.{lt_false}

pub as_leaf : (c : CqlpEvent) (content : List ℕ) → c.tag ≡ numbers.TAG_LEAF → event_with c content ≡ leaf_from_c c (kind_in c) content
as_leaf c content tag = rw tag refl

leaf_event : (c : CqlpEvent) (k : Kind) (v : ScalarValue) (content : List ℕ) → IsLeaf c k → Some v ≡ scalar_from_c k c content → event_with c content ≡ Some (Cell_at c.row c.column (cell.Leaf 0 v))
leaf_event c k v content l is =
    as_leaf c content l.0 ∙ ap (λ (n : ℕ). leaf_from_c c (beside_number n kinds) content) l.1 ∙ ap (λ (o : Option Kind). leaf_from_c c o content) (kind_conforms k)
    ∙ ap (option_map (λ (w : ScalarValue). Cell_at c.row c.column (cell.Leaf c.level w))) (sym is)
    ∙ ap (λ (n : ℕ). Some (Cell_at c.row c.column (cell.Leaf n v))) l.2

-- its event
pub leaf_read : (c : CqlpEvent) (k : Kind) (v : ScalarValue) (contents : List ℕ) → IsLeaf c k → content_len c ≤ length contents → Some v ≡ scalar_from_c k c (take (content_len c) contents)
    → event_from_c c contents ≡ found_leaf c v
leaf_read c k v contents l enough is =
    let no_part : (c.tag == numbers.TAG_PART) ≡ false = ap (λ (n : ℕ). n == numbers.TAG_PART) l.0 in
    let long : nat_lt (length contents) (content_len c) ≡ false = lt_false (length contents) (content_len c) enough in
    ap (λ (b : Bool). if b then Err bad_event.Unbuilt else (if nat_lt (length contents) (content_len c) then Err bad_event.NoEvent else is_event (event_with c (take (content_len c) contents)))) no_part
    ∙ ap (λ (b : Bool). if b then Err bad_event.NoEvent else is_event (event_with c (take (content_len c) contents))) long
    ∙ ap is_event (leaf_event c k v (take (content_len c) contents) l is)

-- where it has fewer bytes than its length
pub read_as : (c : CqlpEvent) (contents : List ℕ) (b : Bool) → c.tag ≡ numbers.TAG_LEAF → nat_lt (length contents) (content_len c) ≡ b
    → event_from_c c contents ≡ (if b then Err bad_event.NoEvent else is_event (event_with c (take (content_len c) contents)))
read_as c contents b tag long =
    ap (λ (p : Bool). if p then Err bad_event.Unbuilt else (if nat_lt (length contents) (content_len c) then Err bad_event.NoEvent else is_event (event_with c (take (content_len c) contents)))) (ap (λ (n : ℕ). n == numbers.TAG_PART) tag)
    ∙ ap (λ (p : Bool). if p then Err bad_event.NoEvent else is_event (event_with c (take (content_len c) contents))) long

is_none : (c : CqlpEvent) (v : ScalarValue) (r : Result Event BadEvent) → r ≡ Err bad_event.NoEvent → r ≡ found_leaf c v → ⊥
is_none c v r none some = let e : Err bad_event.NoEvent ≡ found_leaf c v = sym none ∙ some in absurd cc

pub short_leaf : (c : CqlpEvent) (k : Kind) (contents : List ℕ) → length contents < content_len c → IsNoLeaf c k contents
short_leaf c k contents short v l some = is_none c v (event_from_c c contents) (read_as c contents true l.0 (lt-ltb _ _ short)) some

-- where its content is that of no scalar
pub no_leaf : (c : CqlpEvent) (k : Kind) (contents : List ℕ) → content_len c ≤ length contents → None ≡ scalar_from_c k c (take (content_len c) contents) → IsNoLeaf c k contents
no_leaf c k contents enough is v l some =
    let content = take (content_len c) contents in
    let none : event_with c content ≡ None =
    as_leaf c content l.0 ∙ ap (λ (n : ℕ). leaf_from_c c (beside_number n kinds) content) l.1 ∙ ap (λ (o : Option Kind). leaf_from_c c o content) (kind_conforms k)
    ∙ ap (option_map (λ (w : ScalarValue). Cell_at c.row c.column (cell.Leaf c.level w))) (sym is) in
    is_none c v (event_from_c c contents) (read_as c contents false l.0 (lt_false (length contents) (content_len c) enough) ∙ ap is_event none) some

-- ---- nulls

as_null : (c : CqlpEvent) (content : List ℕ) → c.tag ≡ numbers.TAG_NULL → event_with c content ≡ Some (Cell_at c.row c.column (cell.Null c.level))
as_null c content tag = rw tag refl

pub null_len : (c : CqlpEvent) → IsNull c → content_len c ≡ 0
null_len c n = rw n.0 refl

-- its event
pub null_read : (c : CqlpEvent) (contents : List ℕ) → IsNull c → event_from_c c contents ≡ Ok (Cell_at c.row c.column (cell.Null 0))
null_read c contents n =
    let no_part : (c.tag == numbers.TAG_PART) ≡ false = ap (λ (t : ℕ). t == numbers.TAG_PART) n.0 in
    let enough : content_len c ≤ length contents = subst (λ (m : ℕ). m ≤ length contents) (sym (null_len c n)) (omega arith) in
    let long : nat_lt (length contents) (content_len c) ≡ false = lt_false (length contents) (content_len c) enough in
    ap (λ (b : Bool). if b then Err bad_event.Unbuilt else (if nat_lt (length contents) (content_len c) then Err bad_event.NoEvent else is_event (event_with c (take (content_len c) contents)))) no_part
    ∙ ap (λ (b : Bool). if b then Err bad_event.NoEvent else is_event (event_with c (take (content_len c) contents))) long
    ∙ ap is_event (as_null c (take (content_len c) contents) n.0 ∙ ap (λ (l : ℕ). Some (Cell_at c.row c.column (cell.Null l))) n.1)

-- ---- empty values

as_empty : (c : CqlpEvent) (content : List ℕ) → c.tag ≡ numbers.TAG_EMPTY → event_with c content ≡ Some (Cell_at c.row c.column (cell.Empty c.level))
as_empty c content tag = rw tag refl

pub empty_len : (c : CqlpEvent) → IsEmpty c → content_len c ≡ 0
empty_len c n = rw n.0 refl

-- its event
pub empty_read : (c : CqlpEvent) (contents : List ℕ) → IsEmpty c → event_from_c c contents ≡ Ok (Cell_at c.row c.column (cell.Empty 0))
empty_read c contents n =
    let no_part : (c.tag == numbers.TAG_PART) ≡ false = ap (λ (t : ℕ). t == numbers.TAG_PART) n.0 in
    let enough : content_len c ≤ length contents = subst (λ (m : ℕ). m ≤ length contents) (sym (empty_len c n)) (omega arith) in
    let long : nat_lt (length contents) (content_len c) ≡ false = lt_false (length contents) (content_len c) enough in
    ap (λ (b : Bool). if b then Err bad_event.Unbuilt else (if nat_lt (length contents) (content_len c) then Err bad_event.NoEvent else is_event (event_with c (take (content_len c) contents)))) no_part
    ∙ ap (λ (b : Bool). if b then Err bad_event.NoEvent else is_event (event_with c (take (content_len c) contents))) long
    ∙ ap is_event (as_empty c (take (content_len c) contents) n.0 ∙ ap (λ (l : ℕ). Some (Cell_at c.row c.column (cell.Empty l))) n.1)

-- ---- contents

no_less : (p b : Bool) (r : Result Event BadEvent) (e : Event) → (if p then Err bad_event.Unbuilt else (if b then Err bad_event.NoEvent else r)) ≡ Ok e → b ≡ false
no_less true b r e is = absurd cc
no_less false true r e is = absurd cc
no_less false false r e is = refl

-- what is an event has its content
pub read_long : (c : CqlpEvent) (contents : List ℕ) (e : Event) → event_from_c c contents ≡ Ok e → content_len c ≤ length contents
read_long c contents e read =
    ltb-false (length contents) (content_len c) (no_less (c.tag == numbers.TAG_PART) (nat_lt (length contents) (content_len c)) (is_event (event_with c (take (content_len c) contents))) e read)
