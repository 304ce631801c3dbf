-- Laws of types, of their tables and of how they are read.
use Rattle.std.specs.Prelude.{◌≡◌, ℕ, suc, ◌+◌, ◌++◌, ◌<◌, ◌≤◌, ◌↔◌, Bool, true, false, IsTrue, List, [], ◌∷◌, All, length, max}
use Rattle.std.specs.Prelude.{slice_get, Some}
use Rattle.std.specs.List.{list_all}
use Rattle.cqlp_note.specs.declared.refusal.Refusal.{Refusal}
use Rattle.cqlp_note.specs.Step.{Runs}
use Rattle.cqlp_note.specs.Limits.{Rules}
use Rattle.cqlp_note.specs.Heading.{beside_number}
use Rattle.cqlp_note.specs.Partial.{FieldState}
use Rattle.cqlp_kind.specs.declared.kind.Kind.{Kind}
use Rattle.cqlp_kind.specs.declared.node.Node.{Node}
use Rattle.cqlp_kind.specs.Types.{Types, NoMore, Type_and, how_many, types_of, preorder, followed_by, kinds, AreFormed, IsPreorder}
use Rattle.cqlp_kind.specs.TypeStep.{TypeEvent, Option_at, TypePlace, type_step}
use Rattle.cqlp_type.specs.declared.advance.TypeAdvance.{TypeAdvance}
use Rattle.cqlp_type.specs.declared.advance.TypeAdvance.TheVariants as advance
use Rattle.cqlp_type.specs.declared.item.TypePush.{TypePush}
use Rattle.cqlp_type.specs.declared.item.TypePush.TheVariants as push
use Rattle.cqlp_type.specs.Table.{Table, AreWhole, beginnings, child}
use Rattle.cqlp_type.specs.Forests.{depth_of, Forest}
use Rattle.cqlp_type.specs.Depths.{IsDepth}
use Rattle.cqlp_type.specs.Remaining.{event_at}
use Rattle.cqlp_type.specs.Progress.{TypeState, IsShared, place_of, pending, Advances}
use Rattle.cqlp_type.specs.Trees.{Trees, trees_in, options_in, types_in, AreTrees, is_tree, Shallow, AreShort, trees_items, placed}
use Rattle.cqlp_type.specs.Trees.{TreeSpells, item_counts, item_is_short, ItemIsInRange, tree_bytes}
use Rattle.cqlp_type.specs.declared.tree.TypeTree.{TypeTree}
use Rattle.cqlp_type.specs.TypeTrees.{tree_of, trees_size, spelled_len}
use Rattle.cqlp_type.specs.Pushing.{After, ReadsInto, AdvanceLeaves, IsWhole, Uses, Continues, Fills, Pushes, event_of}

-- The types of nodes in preorder are those that the nodes were made of, and those of the nodes behind them.
abbrev pub TypesOfPreorder : Type 0
TypesOfPreorder = (ts : Types) (ns : List Node) → types_of (preorder ts ++ ns) ≡ followed_by ts (types_of ns)

abbrev pub TypesOfOwnPreorder : Type 0
TypesOfOwnPreorder = (ts : Types) → types_of (preorder ts) ≡ ts

-- What spells a type that is within the limits is read as its items, each where its bytes are, and adds its nodes.
abbrev pub SpelledIsRead : Type 0
SpelledIsRead =
    (l : Rules) (t : Trees) (depth at stop : ℕ) (ns : List Node) (b : List ℕ)
    → trees_in t ≡ 1 → AreTrees t → Shallow l depth t → AreShort l (trees_items false t)
    → length ns + options_in t ≤ l.entries → TreeSpells t b → at + length b ≤ stop
    → let before : TypePlace = record { offset = at; stop = stop; symbols = Option_at depth ∷ []; nodes = ns } in
    let all = ns ++ preorder (types_in t) in
    let after : TypePlace = record { offset = at + length b; stop = stop; symbols = []; nodes = all } in
    Runs (type_step l) before b (placed at (trees_items false t)) after []

-- What is read of an option, up to its end, is a type that its bytes spell (where the caller is not lenient), with its items
-- and its nodes, and no inner type is deeper than the limit.
abbrev pub ReadIsSpelled : Type 0
ReadIsSpelled =
    (l : Rules) (depth : ℕ) (before after : TypePlace) (b : List ℕ) (es : List (ℕ × TypeEvent))
    → before.symbols ≡ Option_at depth ∷ [] → after.symbols ≡ [] → Runs (type_step l) before b es after []
    → IsWhole l depth before.offset before.nodes b es after.nodes

-- The bytes that spell a type are as many as its size says.
abbrev pub SpelledIsLong : Type 0
SpelledIsLong = (t : Trees) (b : List ℕ) → TreeSpells t b → length b ≡ trees_size false t

-- Each text of a type is UTF-8, and each text and each number of fields is one that a [short] can count.
pub record TreeFits (t : Trees) : Type 0 where
  pub texts : All ItemIsInRange (trees_items false t)
  pub counts : list_all item_counts (trees_items false t) ≡ true
  pub short : list_all item_is_short (trees_items false t) ≡ true

-- A type that fits is spelled by the bytes that are written of it, which are as many as its size says.
abbrev pub FittingIsSpelled : Type 0
FittingIsSpelled =
    (t : Trees) → is_tree t ≡ true → TreeFits t
    → (trees_in t ≡ 1) × AreTrees t × TreeSpells t (tree_bytes t) × (length (tree_bytes t) ≡ trees_size false t)

-- A type that bytes spell fits.
abbrev pub SpelledFits : Type 0
SpelledFits =
    (t : Trees) (b : List ℕ) → trees_in t ≡ 1 → AreTrees t → TreeSpells t b → All (λ x. x < 256) b
    → (is_tree t ≡ true) × TreeFits t

-- These bytes are the option of a caller's type.
abbrev pub IsOptionOf : TypeTree → List ℕ → Type 0
IsOptionOf t b = AreTrees (tree_of t) × TreeSpells (tree_of t) b

-- Where a type has a length, some bytes are its option, all such bytes are this many, and they are no more than the
-- longest body of a frame; and where some bytes are its option, which are no more, it has their length.
pub record HasLenOfOption (t : TypeTree) : Type 0 where
  pub spelled : (n : ℕ) → spelled_len t ≡ Some n → (b : List ℕ) × IsOptionOf t b
  pub long : (n : ℕ) → spelled_len t ≡ Some n → (n ≤ 268435456) × ((b : List ℕ) → IsOptionOf t b → length b ≡ n)
  pub some :
      (b : List ℕ) → All (λ x. x < 256) b → IsOptionOf t b → length b ≤ 268435456
      → spelled_len t ≡ Some (length b)

abbrev pub LenIsOfOption : Type 0
LenIsOfOption = (t : TypeTree) → HasLenOfOption t

-- ---- tables

-- the numbers of the nodes at which these types begin, the first of all nodes having this number
abbrev pub first_nodes : (number : ℕ) → Types → List ℕ
first_nodes number NoMore = []
first_nodes number (Type_and k inner others) = number ∷ first_nodes (number + suc (length (preorder inner))) others

-- Types that are side by side begin where their nodes do, and after them whatever follows; as many as there are.
abbrev pub RootsAreTypes : Type 0
RootsAreTypes =
    (ts : Types) (number : ℕ) (ns : List Node)
    → let rest = beginnings (number + length (preorder ts)) 0 ns in
    (beginnings number 0 (preorder ts ++ ns) ≡ first_nodes number ts ++ rest)
    × (length (first_nodes number ts) ≡ how_many ts)

-- The inner types of a whole type begin where their nodes do.
abbrev pub ChildrenOfWhole : Type 0
ChildrenOfWhole =
    (before after : List Node) (k : Kind) (inner : Types) (i : ℕ)
    → child (before ++ (preorder (Type_and k inner NoMore) ++ after)) (length before) i
    ≡ slice_get (first_nodes (length before + 1) inner) i

-- Of a type that is under way, the inner types that are whole begin where their nodes do, and then the one that is
-- under way itself, if its node is there.
abbrev pub ChildrenOfOpen : Type 0
ChildrenOfOpen =
    (before : List Node) (x : Node) (inner : Types) (rest : List Node) (i : ℕ) → x.span ≡ 0
    → let first = length before + 1 in
    child (before ++ (x ∷ (preorder inner ++ rest))) (length before) i
    ≡ slice_get (first_nodes first inner ++ beginnings (first + length (preorder inner)) 0 rest) i

-- a type that is under way, last of all, is one
abbrev pub OpenIsLast : Type 0
OpenIsLast = (x : Node) (rest : List Node) (number : ℕ) → x.span ≡ 0 → beginnings number 0 (x ∷ rest) ≡ number ∷ []

-- Types that are side by side are as deep as the deepest of them, or as what follows them.
abbrev pub DepthIsOfTypes : Type 0
DepthIsOfTypes =
    (ts : Types) (ns : List Node) (depth : ℕ) → IsDepth ns depth → IsDepth (preorder ts ++ ns) (max (depth_of ts) depth)

-- A type that is under way, last of all, is one deeper than the types in the nodes after its own.
abbrev pub OpenIsDeeper : Type 0
OpenIsDeeper =
    (x : Node) (rest : List Node) (depth : ℕ) → x.span ≡ 0 → IsDepth rest depth → IsDepth (x ∷ rest) (suc depth)

-- These nodes are these types: none is under way, as many begin side by side as there are, and they are as deep.
pub record AreTypesOf (nodes : List Node) (ts : Types) : Type 0 where
  pub whole : AreWhole nodes
  pub are : preorder ts ≡ nodes
  pub formed : AreFormed ts
  pub many : length (beginnings 0 0 nodes) ≡ how_many ts
  pub depth : IsDepth nodes (depth_of ts)

abbrev pub WholeAreTypes : Type 0
WholeAreTypes = (nodes : List Node) → IsPreorder nodes → AreTypesOf nodes (types_of nodes)

-- Nodes are whole types within a depth exactly where they are whole types, and no deeper than that.
abbrev pub WithinIsNoDeeper : Type 0
WithinIsNoDeeper =
    (nodes : List Node) (found depth : ℕ) → IsDepth nodes found
    → (Forest nodes 0 depth ↔ (IsPreorder nodes × (found ≤ depth)))

-- ---- one answer

-- Each kind has one id.
abbrev pub OneAnswerOfId : Type 0
OneAnswerOfId = (k : Kind) (a b : ℕ) → beside_number a kinds ≡ Some k → beside_number b kinds ≡ Some k → a ≡ b

-- A type is under way in a table, or none is.
abbrev pub OneAnswerOfWhole : Type 0
OneAnswerOfWhole = (nodes : List Node) (a b : Bool) → (IsTrue a ↔ AreWhole nodes) → (IsTrue b ↔ AreWhole nodes) → a ≡ b

-- Nodes have one depth.
abbrev pub OneAnswerOfDepth : Type 0
OneAnswerOfDepth = (nodes : List Node) (a b : ℕ) → IsDepth nodes a → IsDepth nodes b → a ≡ b

-- What a call says of an option, its text as bytes.
pub data Answer : Type 0 where
  More : (used : ℕ) → Answer
  FieldOutline : (at used : ℕ) → TypeEvent → Answer
  Done : Answer
  Refused : Refusal → Answer

abbrev pub push_answer : TypePush → Answer
push_answer (push.More used) = More used
push_answer (push.Item at used e) = FieldOutline at used (event_of e)
push_answer push.Done = Done
push_answer (push.Refused r) = Refused r

-- the same of `advance`, whose text lies in this input or this buffer
abbrev pub advance_answer : (input buffer : List ℕ) → TypeAdvance → Answer
advance_answer input buffer (advance.More used) = More used
advance_answer input buffer (advance.Item at used q) = FieldOutline at used (event_at q input buffer)
advance_answer input buffer advance.Done = Done
advance_answer input buffer (advance.Refused r) = Refused r

-- What later calls see of a reader, its `Partial` and its table: the limits; whether an option is under way, where its
-- reading is, with which nodes, and which bytes of the item have come; whether a field is under way; and the room
-- for nodes.
pub record Seen : Type 0 where
  pub rules : Rules
  pub under_way : Bool
  pub place : TypePlace
  pub pending : List ℕ
  pub field : Bool
  pub room : ℕ

abbrev pub seen : TypeState → FieldState → Table → Seen
seen r p t = record {
  rules = r.rules;
  under_way = r.under_way;
  place = place_of r t.nodes;
  pending = pending r p;
  field = p.under_way;
  room = t.room;
}

-- A call: the reader, the `Partial` and the table before it, its answer, and the three after it.
pub record Call (X : Type 0) : Type 0 where
  pub reader : TypeState
  pub partial : FieldState
  pub table : Table
  pub answer : X
  pub reader' : TypeState
  pub partial' : FieldState
  pub table' : Table

-- what `push` requires and ensures
abbrev pub IsPush : List ℕ → Call TypePush → Type 0
IsPush input c =
    (c.reader.under_way ≡ true)
    × IsShared c.reader c.partial
    × (c.reader.rules.entries ≤ c.table.room)
    × ReadsInto c.reader c.partial c.table
    × Uses c.reader input c.answer
    × Continues c.reader c.answer c.reader'
    × Fills c.reader c.table c.answer c.table'
    × Pushes c.reader c.partial c.table input c.answer c.reader' c.partial' c.table'

-- what `advance` requires and ensures
abbrev pub IsAdvance : List ℕ → Call TypeAdvance → Type 0
IsAdvance input c =
    (c.reader.under_way ≡ true)
    × IsShared c.reader c.partial
    × (c.reader.rules.entries ≤ c.table.room)
    × ReadsInto c.reader c.partial c.table
    × Advances c.reader c.partial c.table input c.answer c.reader' c.partial' c.table'
    × AdvanceLeaves c.answer c.reader' c.partial' c.table'

-- Two calls are made by readers with the same limits, into tables with the same room, after the same bytes and items of
-- an option that began at `start`.
abbrev pub AreAlike : {X : Type 0} → (start : TypePlace) → List ℕ → List (ℕ × TypeEvent) → Call X → Call X → Type 0
AreAlike start s es c d =
    (c.reader.rules ≡ d.reader.rules)
    × (c.table.room ≡ d.table.room)
    × After start c.reader c.partial c.table s es
    × After start d.reader d.partial d.table s es

-- the three that are left look the same to later calls
abbrev pub LeaveAlike : {X : Type 0} → Call X → Call X → Type 0
LeaveAlike c d = seen c.reader' c.partial' c.table' ≡ seen d.reader' d.partial' d.table'

-- After the same bytes and items of an option, the same input has one answer: what `push` says, and what it leaves.
abbrev pub OneAnswerOfPush : Type 0
OneAnswerOfPush =
    (start : TypePlace) (depth : ℕ) → start.symbols ≡ Option_at depth ∷ []
    → (s : List ℕ) (es : List (ℕ × TypeEvent)) (input : List ℕ) (c d : Call TypePush)
    → AreAlike start s es c d → IsPush input c → IsPush input d
    → (push_answer c.answer ≡ push_answer d.answer) × LeaveAlike c d

-- The same of `advance`.
abbrev pub OneAnswerOfAdvance : Type 0
OneAnswerOfAdvance =
    (start : TypePlace) (s : List ℕ) (es : List (ℕ × TypeEvent)) (input : List ℕ) (c d : Call TypeAdvance)
    → AreAlike start s es c d → IsAdvance input c → IsAdvance input d
    → (advance_answer input c.partial'.content c.answer ≡ advance_answer input d.partial'.content d.answer)
    × LeaveAlike c d
