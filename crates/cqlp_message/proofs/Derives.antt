-- How symbols become parts, one after the other.
use Rattle.std.proofs.Common.{◌≡◌, ℕ, ◌+◌, ◌≤◌, Bool, cond, List, [], ◌∷◌, ◌++◌, length, Option, Some, None, refl, sym, append_assoc}
use Rattle.std.proofs.lemmas.List.Elements.{All-nil, All-cons, All-head, All-tail}
use Rattle.std.specs.Prelude.{IfSome, All, ⊤, is_some}
use Rattle.std.specs.List.{flat_map}
use Rattle.cqlp_note.specs.declared.field.Field.{Field}
use Rattle.cqlp_note.specs.declared.field.Notation.{Notation}
use Rattle.cqlp_note.specs.declared.field.Notation.TheVariants as notation
use Rattle.cqlp_note.specs.Field.{FieldValue, Text}
use Rattle.cqlp_note.specs.Heading.{has}
use Rattle.cqlp_note.specs.Limits.{Rules}
use Rattle.cqlp_kind.specs.declared.kind.Kind.{Kind}
use Rattle.cqlp_kind.specs.Types.{Types, NoMore, preorder, followed_by}
use Rattle.cqlp_kind.specs.TypeStep.{Option_at}
use Rattle.cqlp_type.specs.Trees.{options_in, types_in}
use Rattle.cqlp_grammar.specs.declared.grammar.Group.{Group}
use Rattle.cqlp_grammar.specs.declared.grammar.Role.{Role}
use Rattle.cqlp_grammar.specs.declared.grammar.Role.TheVariants as role
use Rattle.cqlp_message.specs.FrameValues.{Octets}
use Rattle.cqlp_grammar.specs.Productions.{Symbol, In, In_type, Cell_due, Extra, plain, copies, group, where_set, following, fault_in, raw_types}
use Rattle.cqlp_grammar.specs.Productions as productions
use Rattle.cqlp_message.specs.Parts.{Part, Field_is, Type_is, Cell_is}
use Rattle.cqlp_message.specs.Bodies.{where_some, text, texts}

-- a part is there exactly where it is announced
abbrev pub IsThereIf : {A : Type 0} → (announced : Bool) → Option A → Type 0
IsThereIf announced o = is_some o ≡ announced

pub record IsField (f g : Field) (n m : Notation) : Type 0 where
  pub name : f ≡ g
  pub notation : n ≡ m

pub same : {f : Field} {n : Notation} → IsField f f n n
same = record { name = refl; notation = refl }

pub trivial : {A : Type 0} (xs : List A) → All (λ a. ⊤) xs
trivial [] = All-nil (λ a. ⊤)
trivial (a ∷ xs) = All-cons (λ a. ⊤) a xs tt (trivial xs)

-- metadata begins without types
abbrev pub described_after : Role → Types → Types
described_after (role.MetaFlags rows) described = NoMore
described_after role.PreparedFlags described = NoMore
described_after r described = described

-- the types of a page's cells, where those of its metadata are described
abbrev pub cells_of : Role → Types → Types
cells_of (role.PageRows flags columns) described = cond (has flags 0x04) (raw_types columns) described
cells_of r described = raw_types 0

-- how many types there are, the inner ones counted
abbrev pub nodes_in : Types → ℕ
nodes_in ts = length (preorder ts)

pub record IsCell (row row' column column' : ℕ) (k k' : Kind) (inner inner' : Types) : Type 0 where
  pub row_is : row ≡ row'
  pub column_is : column ≡ column'
  pub kind_is : k ≡ k'
  pub inner_is : inner ≡ inner'

module _ (l : Rules) where
  -- From these symbols, where metadata has described these types, come these parts and no others, up to the end of the frame.
  abbrev pub Derives : List Part → List Symbol → (described : Types) → Type 0
  Derives [] symbols described = symbols ≡ Extra ∷ []
  Derives (Field_is g m v ∷ parts) (In f n r ∷ rest) described =
      IsField g f m n × (fault_in r v ≡ None) × Derives parts (following (cells_of r described) r v ++ rest) (described_after r described)
  Derives (Type_is t ∷ parts) (In_type ts ∷ rest) described =
      (ts ≡ Option_at 1 ∷ []) × (nodes_in described + options_in t ≤ l.entries) × Derives parts rest (followed_by described (types_in t))
  Derives (Cell_is row column k inner v ∷ parts) (Cell_due row' column' k' inner' ∷ rest) described =
      IsCell row row' column column' k k' inner inner' × Derives parts rest described
  Derives (part ∷ parts) symbols described = ⊥

  -- the same, whatever types were described
  abbrev pub D : List Part → List Symbol → Type 0
  D parts symbols = (described : Types) → Derives parts symbols described

  -- a field that nothing follows
  pub alone_derives : (f : Field) (n : Notation) (v : FieldValue) (ps : List Part) (rest : List Symbol) → D ps rest → D (Field_is f n v ∷ ps) (plain f n ∷ rest)
  alone_derives f n v ps rest d described = (same, refl, d described)

  -- items one after the other come of copies of a group
  pub each_derives : {A : Type 0} (P : A → Type 0) (h : A → List Part) (g : List Symbol) (xs : List A) (ps : List Part) (rest : List Symbol) → All P xs
      → ((a : A) (ps : List Part) (rest : List Symbol) → P a → D ps rest → D (h a ++ ps) (g ++ rest)) → D ps rest → D (flat_map h xs ++ ps) (copies (length xs) g ++ rest)
  each_derives P h g [] ps rest all one d = d
  each_derives P h g (a ∷ xs) ps rest all one d =
      rw (append_assoc (h a) (flat_map h xs) ps, append_assoc g (copies (length xs) g) rest)
      (one a (flat_map h xs ++ ps) (copies (length xs) g ++ rest) (All-head P a xs all) (each_derives P h g xs ps rest (All-tail P a xs all) one d))

  -- parts that are there where a flag is set
  pub where_derives : {A : Type 0} (P : A → Type 0) (h : A → List Part) (flags bit : ℕ) (ss : List Symbol) (o : Option A) (ps : List Part) (rest : List Symbol) → IsThereIf (has flags bit) o → IfSome o P
      → ((a : A) → P a → D ps rest → D (h a ++ ps) (ss ++ rest)) → D ps rest → D (where_some h o ++ ps) (where_set flags bit ss ++ rest)
  where_derives P h flags bit ss None ps rest is all one d = rw (sym is) d
  where_derives P h flags bit ss (Some a) ps rest is all one d = rw (sym is) (one a all d)

  pub some_of : {A : Type 0} (o : Option A) → IfSome o (λ a. ⊤)
  some_of None = tt
  some_of (Some a) = tt

  -- a field that is there where a flag is set
  pub option_derives : {A : Type 0} (f : Field) (n : Notation) (v : A → FieldValue) (flags bit : ℕ) (o : Option A) (ps : List Part) (rest : List Symbol) → IsThereIf (has flags bit) o → D ps rest
      → D (where_some (λ a. Field_is f n (v a) ∷ []) o ++ ps) (where_set flags bit (plain f n ∷ []) ++ rest)
  option_derives f n v flags bit o ps rest is d = where_derives (λ a. ⊤) _ flags bit (plain f n ∷ []) o ps rest is (some_of o) (λ a p d. alone_derives f n (v a) ps rest d) d

  -- a [string list]
  pub texts_derive : (f i : Field) (g : Group) (ts : List Octets) (ps : List Part) (rest : List Symbol) → group g ≡ plain i notation.Text16 ∷ [] → D ps rest → D (texts f i ts ++ ps) (productions.counted f g ∷ rest)
  texts_derive f i g ts ps rest is d described =
      let items : D (flat_map (λ t. text i t ∷ []) ts ++ ps) (copies (length ts) (plain i notation.Text16 ∷ []) ++ rest) =
      each_derives (λ t. ⊤) (λ t. text i t ∷ []) (plain i notation.Text16 ∷ []) ts ps rest (trivial ts) (λ t ps rest p d. alone_derives i notation.Text16 (Text t) ps rest d) d in
      (same, refl, rw is (items described))
