-- Texts and blobs that C passes, whose contents are put as they are.
use Rattle.std.proofs.Common.{◌≡◌, ◌⊎◌, inl, inr, ℕ, Bool, true, false, if◌then◌else◌, List, length, take, refl, sym, ap, ◌∙◌, Ok, Option, Some, None}
use Rattle.std.specs.Prelude.{option_map}
use Rattle.std.specs.Str.{is_utf8}
use Rattle.cqlp_note.specs.Heading.{beside_number}
use Rattle.cqlp_kind.specs.declared.kind.Kind.{Kind}
use Rattle.cqlp_kind.specs.declared.kind.Kind.TheVariants as kind
use Rattle.cqlp_kind.specs.CellStep as cell
use Rattle.cqlp_kind.specs.Scalars.{ScalarValue}
use Rattle.cqlp_kind.specs.Scalars as scalar
use Rattle.cqlp_grammar.specs.Events.{Event, Cell_at}
use Rattle.cqlp_compose.specs.Single.{with_length}
use Rattle.cqlp_c.specs.declared.event.CqlpEvent.{CqlpEvent}
use Rattle.cqlp_c.specs.declared.numbers.TheConstants as numbers
use Rattle.cqlp_c.specs.Numbers.{kinds, number_of_kind}
use Rattle.cqlp_c.specs.FromC.{content_len, event_from_c, event_with, is_event}
use Rattle.cqlp_c.specs.CellFromC.{leaf_from_c, scalar_from_c}
use Rattle.cqlp_c.specs.WholePages.{IsLent, IsWritable, cell_bytes, found_bytes}
use Rattle.cqlp_c.proofs.Conforming.{kind_conforms}
use Rattle.cqlp_c.proofs.Leaves.{as_leaf, read_as, read_long}
use Rattle.cqlp_c.proofs.Written.{lt_false}

-- the event of a leaf with this scalar, if there is one
abbrev leaf_of : CqlpEvent → Option ScalarValue → Option Event
leaf_of c v = option_map (λ (w : ScalarValue). Cell_at c.row c.column (cell.Leaf c.level w)) v

as_kind : (c : CqlpEvent) (k : Kind) (content : List ℕ) → c.tag ≡ numbers.TAG_LEAF → c.kind ≡ number_of_kind k → event_with c content ≡ leaf_of c (scalar_from_c k c content)
as_kind c k content tag is =
    as_leaf c content tag ∙ ap (λ (n : ℕ). leaf_from_c c (beside_number n kinds) content) is ∙ ap (λ (o : Option Kind). leaf_from_c c o content) (kind_conforms k)

text_bytes : (c : CqlpEvent) (content : List ℕ) (b : Bool) (e : Event) → is_event (leaf_of c (option_map scalar.Varchar (if b then Some content else None))) ≡ Ok e
    → found_bytes (is_event (leaf_of c (option_map scalar.Varchar (if b then Some content else None)))) ≡ with_length content
text_bytes c content true e is = refl
text_bytes c content false e is = absurd cc

by_kind : (c : CqlpEvent) (content : List ℕ) (e : Event) → c.tag ≡ numbers.TAG_LEAF → ((c.kind ≡ numbers.KIND_VARCHAR) ⊎ (c.kind ≡ numbers.KIND_BLOB)) → is_event (event_with c content) ≡ Ok e
    → found_bytes (is_event (event_with c content)) ≡ with_length content
by_kind c content e tag (inl is) found =
    let same = as_kind c kind.Varchar content tag is in
    ap (λ (o : Option Event). found_bytes (is_event o)) same ∙ text_bytes c content (is_utf8 content) e (sym (ap is_event same) ∙ found)
by_kind c content e tag (inr is) found = ap (λ (o : Option Event). found_bytes (is_event o)) (as_kind c kind.Blob content tag is)

-- the bytes of its cell
pub lent_bytes : (c : CqlpEvent) (contents : List ℕ) (e : Event) → IsLent c → event_from_c c contents ≡ Ok e → cell_bytes c contents ≡ with_length (take (content_len c) contents)
lent_bytes c contents e lent read =
    let content = take (content_len c) contents in
    let same : event_from_c c contents ≡ is_event (event_with c content) = read_as c contents false lent.0 (lt_false (length contents) (content_len c) (read_long c contents e read)) in
    ap found_bytes same ∙ by_kind c content e lent.0 lent.1 (sym same ∙ read)

-- the same, of the content that was split off
pub lent_is : (c : CqlpEvent) (contents content : List ℕ) (n m : ℕ) → IsLent c → IsWritable c contents m → n ≡ content_len c → content ≡ take n contents → cell_bytes c contents ≡ with_length content
lent_is c contents content n m lent w is front = lent_bytes c contents w.0 lent w.1 ∙ ap (λ (k : ℕ). with_length (take k contents)) (sym is) ∙ ap with_length (sym front)
