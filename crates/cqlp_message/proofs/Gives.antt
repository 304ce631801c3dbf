-- What the first symbols give: an item whose parts come first, and what is left of the parts and of the symbols.
use Rattle.std.proofs.Common.{◌≡◌, ◌⊎◌, ℕ, ℤ, zero, suc, Bool, true, false, ◌&&◌, ◌||◌, List, [], ◌∷◌, ◌++◌, length, Option, Some, None, refl, sym, ap, ◌∙◌, subst, append_assoc, arith, inl, inr}
use Rattle.std.specs.Prelude.{◌==◌, IfSome, if◌then◌else◌}
use Rattle.std.specs.List.{flat_map, list_all}
use Rattle.std.specs.Str.{bytes_eq}
use Rattle.cqlp_note.specs.declared.field.Field.{Field}
use Rattle.cqlp_note.specs.declared.field.Field.TheVariants as field
use Rattle.cqlp_note.specs.declared.field.Notation.{Notation}
use Rattle.cqlp_note.specs.declared.field.Notation.TheVariants as notation
use Rattle.cqlp_note.specs.declared.opcode.Opcode.{Opcode}
use Rattle.cqlp_note.specs.declared.prim.Address.{Address}
use Rattle.cqlp_note.specs.Field.{FieldValue, BoundValue}
use Rattle.cqlp_note.specs.Field as note
use Rattle.cqlp_note.specs.Heading.{has, beside_number}
use Rattle.cqlp_note.specs.Limits.{Rules}
use Rattle.cqlp_note.specs.Spelling.{IsInRange}
use Rattle.cqlp_kind.specs.Types.{Types}
use Rattle.cqlp_type.specs.Trees.{is_tree}
use Rattle.cqlp_grammar.specs.declared.grammar.Group.{Group}
use Rattle.cqlp_grammar.specs.declared.grammar.Role.{Role}
use Rattle.cqlp_grammar.specs.declared.grammar.Role.TheVariants as role
use Rattle.cqlp_message.specs.FrameValues.{Octets, Message}
use Rattle.cqlp_grammar.specs.Productions.{Symbol, In, In_type, Extra, plain, copies, group, where_set, following, fault_in, by_text}
use Rattle.cqlp_grammar.specs.Productions as productions
use Rattle.cqlp_message.specs.Parts.{Part, Field_is, Type_is, Cell_is}
use Rattle.cqlp_message.specs.Bodies.{where_some, text, texts}
use Rattle.cqlp_message.specs.Bodies as bodies
use Rattle.cqlp_message.specs.Agreement.{there_if, opcode_of, message_agrees, has_its_cells}
use Rattle.cqlp_message.specs.Frames.{TypesWithin}
use Rattle.cqlp_message.proofs.Derives.{Derives, described_after, cells_of}

-- ---- sound parts

-- A field's value is one of its notation's, and a type's option is one of one type.
abbrev pub IsSound : Part → Type 0
IsSound (Field_is f n v) = IsInRange n v
IsSound (Type_is t) = is_tree t ≡ true
IsSound (Cell_is row column k inner v) = Unit {0}

abbrev pub AreSound : List Part → Type 0
AreSound [] = Unit {0}
AreSound (p ∷ ps) = IsSound p × AreSound ps

-- ---- what symbols give

-- The parts are those of an item, of which P holds, and others after it, which come of the next symbols, where these types are described.
pub record Gives (l : Rules) (A : Type 0) (h : A → List Part) (P : A → Type 0) (described : A → Types) (next : A → List Symbol) (ps : List Part) : Type 0 where
  pub item : A
  pub left : List Part
  pub whole : ps ≡ h item ++ left
  pub holds : P item
  pub sound : AreSound left
  pub derives : Derives l left (next item) (described item)

-- These symbols give such items, whatever is described and is next.
pub record Back (l : Rules) (A : Type 0) (h : A → List Part) (P : A → Type 0) (ss : List Symbol) : Type 0 where
  pub run : (ps : List Part) (rest : List Symbol) (described : Types) → AreSound ps → Derives l ps (ss ++ rest) described → Gives l A h P (λ a. described) (λ a. rest) ps

-- what holds of the parts after the item, with it, holds of all
pub take : {l : Rules} {A : Type 0} {h : A → List Part} {P : A → Type 0} {described : A → Types} {next : A → List Symbol} (R : List Part → Type 0) (ps : List Part) → Gives l A h P described next ps
    → ((a : A) (qs : List Part) → P a → AreSound qs → Derives l qs (next a) (described a) → R (h a ++ qs)) → R ps
take R ps g k = rw g.whole (k g.item g.left g.holds g.sound g.derives)

-- nothing is asked
abbrev pub sure : {A : Type 0} → A → Type 0
sure a = true ≡ true

-- ---- fields

-- the values of a notation
abbrev View : Notation → (A : Type 0) → (A → FieldValue) → Type 0
View n A c = (v : FieldValue) → IsInRange n v → (a : A) × (v ≡ c a)

pub byte_view : View notation.Byte ℕ note.Byte
byte_view (note.Byte n) r = (n, refl)
byte_view v r = absurd r

pub short_view : View notation.Short ℕ note.Short
short_view (note.Short n) r = (n, refl)
short_view v r = absurd r

pub int_view : View notation.Int ℤ note.Int
int_view (note.Int z) r = (z, refl)
int_view v r = absurd r

pub long_view : View notation.Long ℤ note.Long
long_view (note.Long z) r = (z, refl)
long_view v r = absurd r

pub uuid_view : View notation.Uuid Octets note.Uuid
uuid_view (note.Uuid c) r = (c, refl)
uuid_view v r = absurd r

pub count16_view : View notation.Count16 ℕ note.Count
count16_view (note.Count n) r = (n, refl)
count16_view v r = absurd r

pub count32_view : View notation.Count32 ℕ note.Count
count32_view (note.Count n) r = (n, refl)
count32_view v r = absurd r

pub text16_view : View notation.Text16 Octets note.Text
text16_view (note.Text s) r = (s, refl)
text16_view v r = absurd r

pub text32_view : View notation.Text32 Octets note.Text
text32_view (note.Text s) r = (s, refl)
text32_view v r = absurd r

pub bytes16_view : View notation.Bytes16 Octets (λ c. note.Bytes (Some c))
bytes16_view (note.Bytes (Some c)) r = (c, refl)
bytes16_view v r = absurd r

pub bytes32_view : View notation.Bytes32 (Option Octets) note.Bytes
bytes32_view (note.Bytes c) r = (c, refl)
bytes32_view v r = absurd r

pub bound_view : View notation.Bound BoundValue note.Bound
bound_view (note.Bound v) r = (v, refl)
bound_view v r = absurd r

pub inet_view : View notation.Inet (Address × ℤ) (λ a. note.Inet a.0 a.1)
inet_view (note.Inet a z) r = ((a, z), refl)
inet_view v r = absurd r

-- a field of this notation, and what follows it
abbrev pub GivesField : (l : Rules) (n : Notation) (A : Type 0) (c : A → FieldValue) (f : Field) (r : Role) (ps : List Part) (rest : List Symbol) (described : Types) → Type 0
GivesField l n A c f r ps rest described = Gives l A (λ a. Field_is f n (c a) ∷ []) (λ a. (fault_in r (c a) ≡ None) × IsInRange n (c a)) (λ a. described_after r described) (λ a. following (cells_of r described) r (c a) ++ rest) ps

field_gives : (l : Rules) (n m : Notation) (A : Type 0) (c : A → FieldValue) (f g : Field) (r : Role) (v : FieldValue) (left : List Part) (rest : List Symbol) (described : Types) (a : A) → v ≡ c a → g ≡ f → m ≡ n → IsInRange m v → fault_in r v ≡ None → AreSound left
    → Derives l left (following (cells_of r described) r v ++ rest) (described_after r described) → GivesField l n A c f r (Field_is g m v ∷ left) rest described
field_gives l n m A c f g r v left rest described a is name notation range fault s d = record {
  item = a;
  left = left;
  whole = rw (is, name, notation) refl;
  holds = (rw is at fault, rw (is, notation) at range);
  sound = s;
  derives = rw is at d;
}

pub field_back : (l : Rules) (n : Notation) {A : Type 0} (c : A → FieldValue) → View n A c → (f : Field) (r : Role) (ps : List Part) (rest : List Symbol) (described : Types) → AreSound ps → Derives l ps (In f n r ∷ rest) described → GivesField l n A c f r ps rest described
field_back l n {A} c view f r (Field_is g m v ∷ left) rest described s d =
    let x = view v (rw d.0.notation at s.0) in
    field_gives l n m A c f g r v left rest described x.0 x.1 d.0.name d.0.notation s.0 d.1 s.1 d.2
field_back l n c view f r [] rest described s d = absurd cc
field_back l n c view f r (Type_is t ∷ left) rest described s d = absurd d
field_back l n c view f r (Cell_is row column k inner v ∷ left) rest described s d = absurd d

-- a field that nothing follows
plain_back : {l : Rules} (n : Notation) {A : Type 0} (c : A → FieldValue) → View n A c → (f : Field) → Back l A (λ a. Field_is f n (c a) ∷ []) sure (plain f n ∷ [])
plain_back {l} n {A} c view f = record {
  run = λ ps rest described s d.
      take (Gives l A (λ a. Field_is f n (c a) ∷ []) sure (λ a. described) (λ a. rest)) ps (field_back l n c view f role.Alone ps rest described s d)
      λ a qs p s d. record { item = a; left = qs; whole = refl; holds = refl; sound = s; derives = d };
}

pub byte_back : {l : Rules} (f : Field) → Back l ℕ (λ n. bodies.byte f n ∷ []) sure (plain f notation.Byte ∷ [])
byte_back = plain_back notation.Byte note.Byte byte_view

pub short_back : {l : Rules} (f : Field) → Back l ℕ (λ n. bodies.short f n ∷ []) sure (plain f notation.Short ∷ [])
short_back = plain_back notation.Short note.Short short_view

pub int_back : {l : Rules} (f : Field) → Back l ℤ (λ z. bodies.int f z ∷ []) sure (plain f notation.Int ∷ [])
int_back = plain_back notation.Int note.Int int_view

pub long_back : {l : Rules} (f : Field) → Back l ℤ (λ z. bodies.long f z ∷ []) sure (plain f notation.Long ∷ [])
long_back = plain_back notation.Long note.Long long_view

pub uuid_back : {l : Rules} (f : Field) → Back l Octets (λ c. Field_is f notation.Uuid (note.Uuid c) ∷ []) sure (plain f notation.Uuid ∷ [])
uuid_back = plain_back notation.Uuid note.Uuid uuid_view

pub text_back : {l : Rules} (f : Field) → Back l Octets (λ s. text f s ∷ []) sure (plain f notation.Text16 ∷ [])
text_back = plain_back notation.Text16 note.Text text16_view

pub query_back : {l : Rules} → Back l Octets (λ s. bodies.query s ∷ []) sure (plain field.Query notation.Text32 ∷ [])
query_back = plain_back notation.Text32 note.Text text32_view field.Query

pub statement_back : {l : Rules} → Back l Octets (λ c. bodies.statement c ∷ []) sure (plain field.StatementId notation.Bytes16 ∷ [])
statement_back = plain_back notation.Bytes16 (λ c. note.Bytes (Some c)) bytes16_view field.StatementId

pub bytes_back : {l : Rules} (f : Field) → Back l (Option Octets) (λ o. bodies.bytes f o ∷ []) sure (plain f notation.Bytes32 ∷ [])
bytes_back = plain_back notation.Bytes32 note.Bytes bytes32_view

pub bound_back : {l : Rules} → Back l BoundValue (λ v. bodies.bound v ∷ []) sure (plain field.Value notation.Bound ∷ [])
bound_back = plain_back notation.Bound note.Bound bound_view field.Value

pub inet_back : {l : Rules} (f : Field) → Back l (Address × ℤ) (λ a. Field_is f notation.Inet (note.Inet a.0 a.1) ∷ []) sure (plain f notation.Inet ∷ [])
inet_back = plain_back notation.Inet (λ a. note.Inet a.0 a.1) inet_view

-- ---- several

-- the same parts as those of another item
pub other_back : {l : Rules} {A : Type 0} {h : A → List Part} {P : A → Type 0} {ss : List Symbol} {B : Type 0} (g : B → List Part) (Q : B → Type 0) (f : A → B) → ((a : A) → P a → h a ≡ g (f a)) → ((a : A) → P a → Q (f a)) → Back l A h P ss → Back l B g Q ss
other_back {l} {A} {h} {P} {ss} {B} g Q f is on b = record {
  run = λ ps rest described s d.
      let x = b.run ps rest described s d in
      record { item = f x.item; left = x.left; whole = x.whole ∙ ap (λ t. t ++ x.left) (is x.item x.holds); holds = on x.item x.holds; sound = x.sound; derives = x.derives };
}

-- nothing
pub none_back : {l : Rules} {A : Type 0} (h : A → List Part) (P : A → Type 0) (a : A) → h a ≡ [] → P a → Back l A h P []
none_back h P a is p = record { run = λ ps rest described s d. record { item = a; left = ps; whole = ap (λ t. t ++ ps) (sym is); holds = p; sound = s; derives = d } }

-- one item and another
pub pair_back : {l : Rules} {A B : Type 0} {h : A → List Part} {g : B → List Part} {P : A → Type 0} {Q : B → Type 0} {ss ts : List Symbol} → Back l A h P ss → Back l B g Q ts
    → Back l (A × B) (λ p. h p.0 ++ g p.1) (λ p. P p.0 × Q p.1) (ss ++ ts)
pair_back {l} {A} {B} {h} {g} {P} {Q} {ss} {ts} one two = record {
  run = λ ps rest described s d.
      let R : List Part → Type 0 = Gives l (A × B) (λ p. h p.0 ++ g p.1) (λ p. P p.0 × Q p.1) (λ a. described) (λ a. rest) in
      take R ps (one.run ps (ts ++ rest) described s (rw (append_assoc ss ts rest) at d)) λ a qs p s d.
      take (λ t. R (h a ++ t)) qs (two.run qs rest described s d) λ b rs q s d.
      record { item = (a, b); left = rs; whole = sym (append_assoc (h a) (g b) rs); holds = (p, q); sound = s; derives = d };
}

-- copies of a group are items one after the other
copies_run : {l : Rules} {A : Type 0} (h : A → List Part) (t : A → Bool) (ss : List Symbol) → Back l A h (λ a. t a ≡ true) ss → (n : ℕ) (ps : List Part) (rest : List Symbol) (described : Types) → AreSound ps → Derives l ps (copies n ss ++ rest) described
    → Gives l (List A) (flat_map h) (λ xs. (length xs ≡ n) × (list_all t xs ≡ true)) (λ a. described) (λ a. rest) ps
copies_run h t ss one zero ps rest described s d = record { item = []; left = ps; whole = refl; holds = (refl, refl); sound = s; derives = d }
copies_run {l} {A} h t ss one (suc n) ps rest described s d =
    let R : List Part → Type 0 = Gives l (List A) (flat_map h) (λ xs. (length xs ≡ suc n) × (list_all t xs ≡ true)) (λ a. described) (λ a. rest) in
    take R ps (one.run ps (copies n ss ++ rest) described s (rw (append_assoc ss (copies n ss) rest) at d)) λ a qs p s d.
    take (λ z. R (h a ++ z)) qs (copies_run h t ss one n qs rest described s d) λ xs rs q s d.
    record { item = a ∷ xs; left = rs; whole = sym (append_assoc (h a) (flat_map h xs) rs); holds = (omega (arith, q.0), rw (p, q.1) refl); sound = s; derives = d }

pub copies_back : {l : Rules} {A : Type 0} {h : A → List Part} {ss : List Symbol} (t : A → Bool) → Back l A h (λ a. t a ≡ true) ss → (n : ℕ) → Back l (List A) (flat_map h) (λ xs. (length xs ≡ n) × (list_all t xs ≡ true)) (copies n ss)
copies_back {h = h} {ss = ss} t one n = record { run = copies_run h t ss one n }

-- a field, and what follows it: items by its value
pub led_back : {l : Rules} (n : Notation) {A : Type 0} (c : A → FieldValue) → View n A c → (f : Field) (r : Role) {B : Type 0} {g : A → B → List Part} {Q : A → B → Type 0} (ss : A → List Symbol)
    → ((a : A) (types : Types) → following types r (c a) ≡ ss a) → ((described : Types) → described_after r described ≡ described) → ((a : A) → fault_in r (c a) ≡ None → IsInRange n (c a) → Back l B (g a) (Q a) (ss a))
    → Back l (A × B) (λ p. Field_is f n (c p.0) ∷ g p.0 p.1) (λ p. Q p.0 p.1) (In f n r ∷ [])
led_back {l} n {A} c view f r {B} {g} {Q} ss due stays behind = record {
  run = λ ps rest described s d.
      let R : List Part → Type 0 = Gives l (A × B) (λ p. Field_is f n (c p.0) ∷ g p.0 p.1) (λ p. Q p.0 p.1) (λ a. described) (λ a. rest) in
      take R ps (field_back l n c view f r ps rest described s d) λ a qs p s d.
      take (λ t. R (Field_is f n (c a) ∷ t)) qs ((behind a p.0 p.1).run qs rest described s (rw (due a (cells_of r described), stays described) at d)) λ b rs q s d.
      record { item = (a, b); left = rs; whole = refl; holds = q; sound = s; derives = d };
}

-- items after their number
pub counted_back : {l : Rules} {A : Type 0} {h : A → List Part} (t : A → Bool) (f : Field) (g : Group) → Back l A h (λ a. t a ≡ true) (group g) → Back l (List A) (bodies.counted f h) (λ xs. list_all t xs ≡ true) (productions.counted f g ∷ [])
counted_back {h = h} t f g one =
    let all = led_back notation.Count16 note.Count count16_view f (role.Counts g) (λ n. copies n (group g)) (λ n types. refl) (λ described. refl) (λ n p q. copies_back t one n) in
    record {
      run = λ ps rest described s d.
          let x = all.run ps rest described s d in
          record { item = x.item.1; left = x.left; whole = rw x.holds.0 x.whole; holds = x.holds.1; sound = x.sound; derives = x.derives };
    }

-- nothing is asked of the items
abbrev pub any : {A : Type 0} → A → Bool
any a = true

-- a [string list]
pub texts_back : {l : Rules} (f i : Field) (g : Group) → group g ≡ plain i notation.Text16 ∷ [] → Back l (List Octets) (texts f i) (λ xs. list_all any xs ≡ true) (productions.counted f g ∷ [])
texts_back {l} f i g is = counted_back any f g (subst (λ ss. Back l Octets (λ t. text i t ∷ []) sure ss) (sym is) (text_back i))

where_by : {l : Rules} {A : Type 0} {h : A → List Part} {P : A → Type 0} {ss : List Symbol} → Back l A h P ss → (b : Bool) → Back l (Option A) (where_some h) (λ o. (there_if b o ≡ true) × IfSome o P) (if b then ss else [])
where_by one true = other_back _ _ Some (λ a p. refl) (λ a p. (refl, p)) one
where_by one false = none_back _ _ None refl (refl, tt)

-- an item that is there where a flag is set
pub where_back : {l : Rules} {A : Type 0} {h : A → List Part} {P : A → Type 0} {ss : List Symbol} → Back l A h P ss → (flags bit : ℕ) → Back l (Option A) (where_some h) (λ o. (there_if (has flags bit) o ≡ true) × IfSome o P) (where_set flags bit ss)
where_back one flags bit = where_by one (has flags bit)

-- ---- messages

-- A message with this opcode, which agrees with what it announces, has its cells, and has no more types than the limit.
pub record IsOf (l : Rules) (o : Opcode) (m : Message) : Type 0 where
  pub opcode : opcode_of m ≡ o
  pub agrees : message_agrees m ≡ true
  pub cells : has_its_cells m ≡ true
  pub types : TypesWithin l m

-- ---- tests

pub both : (a b : Bool) → a ≡ true → b ≡ true → (a && b) ≡ true
both a b p q = rw (p, q) refl

pub or_right : (a b : Bool) → b ≡ true → (a || b) ≡ true
or_right true b is = refl
or_right false b is = is

pub decided : (b : Bool) → (b ≡ true) ⊎ (b ≡ false)
decided true = inl refl
decided false = inr refl

-- ---- tables

-- what is to be shown of each entry of a table of numbers, and where none has the number
abbrev pub NumberArms : {A : Type 0} → ℕ → List (ℕ × A) → (Option A → Type 0) → Type 0 → Type 0
NumberArms n [] C R = C None → R
NumberArms n (e ∷ table) C R = ((n == e.0) ≡ true → C (Some e.1) → R) × NumberArms n table C R

pub by_number : {A : Type 0} (n : ℕ) (table : List (ℕ × A)) (C : Option A → Type 0) (R : Type 0) → C (beside_number n table) → NumberArms n table C R → R
by_number n [] C R c arms = arms c
by_number n (e ∷ table) C R c arms = elim (decided (n == e.0)) [ inl is ↦ arms.0 is (rw is at c) | inr is ↦ by_number n table C R (rw is at c) arms.1 ]

-- the same of a table of texts
abbrev pub TextArms : Octets → List (Octets × List Symbol) → (List Symbol → Type 0) → Type 0 → Type 0
TextArms s [] C R = C [] → R
TextArms s (e ∷ table) C R = (bytes_eq s e.0 ≡ true → C e.1 → R) × TextArms s table C R

pub by_name : (s : Octets) (table : List (Octets × List Symbol)) (C : List Symbol → Type 0) (R : Type 0) → C (by_text s table) → TextArms s table C R → R
by_name s [] C R c arms = arms c
by_name s (e ∷ table) C R c arms = elim (decided (bytes_eq s e.0)) [ inl is ↦ arms.0 is (rw is at c) | inr is ↦ by_name s table C R (rw is at c) arms.1 ]
