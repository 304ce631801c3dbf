-- What the reader of a type option has read since it began.
use Rattle.std.specs.Prelude.{◌≡◌, ℕ, ◌≤◌, ◌++◌, true, false, List, [], ◌∷◌, length, take}
use Rattle.cqlp_note.specs.Reader.{More, Bad}
use Rattle.cqlp_note.specs.Field.{Text, Count}
use Rattle.cqlp_note.specs.declared.field.Field.TheVariants as field
use Rattle.cqlp_note.specs.Step.{Runs}
use Rattle.cqlp_note.specs.Limits.{Rules}
use Rattle.cqlp_note.specs.Partial.{FieldState}
use Rattle.cqlp_kind.specs.declared.node.Node.{Node}
use Rattle.cqlp_type.specs.declared.item.TypeItem.{TypeItem}
use Rattle.cqlp_type.specs.declared.item.TypeItem.TheVariants as item
use Rattle.cqlp_type.specs.declared.advance.TypeAdvance.{TypeAdvance}
use Rattle.cqlp_type.specs.declared.advance.TypeAdvance.TheVariants as advance
use Rattle.cqlp_type.specs.declared.item.TypePush.{TypePush}
use Rattle.cqlp_type.specs.declared.item.TypePush.TheVariants as push
use Rattle.cqlp_kind.specs.Types.{AreFormed, IsPreorder, preorder}
use Rattle.cqlp_kind.specs.TypeStep.{TypeEvent, IsNode, IsField, TypePlace, type_step, Option_at}
use Rattle.cqlp_type.specs.Table.{Table}
use Rattle.cqlp_type.specs.Trees.{Trees, trees_in, types_in, AreTrees, Shallow, trees_items, placed, TreeSpells}
use Rattle.cqlp_type.specs.Progress.{TypeState, IsShared, place_of, pending, step_says, stopped, text_length}

abbrev pub event_of : TypeItem → TypeEvent
event_of (item.Node k) = IsNode k
event_of (item.Text f s) = IsField f (Text s.now)
event_of (item.Count n) = IsField field.Fields (Count n)

-- An option began at `start`, and of it these bytes were used and these items handed out.
abbrev pub After : (start : TypePlace) → TypeState → FieldState → Table → List ℕ → List (ℕ × TypeEvent) → Type 0
After start r p t s es = Runs (type_step r.rules) start s es (place_of r t.nodes) (pending r p)

-- The option under way is read into this table: it began where the table was whole types, and what was read of it since
-- is in the table after them.
pub record ReadsInto (r : TypeState) (p : FieldState) (t : Table) : Type 0 where
  pub start : TypePlace
  pub first : start.symbols ≡ Option_at 1 ∷ []
  pub before : IsPreorder start.nodes
  pub bytes : List ℕ
  pub items : List (ℕ × TypeEvent)
  pub after : After start r p t bytes items

-- What a call leaves: an option that goes on is read into the same table, and one that is whole leaves whole types, so
-- that the next may begin. A refused one leaves what was read of it.
abbrev pub PushLeaves : TypePush → TypeState → FieldState → Table → Type 0
PushLeaves (push.More used) r p t = ReadsInto r p t
PushLeaves (push.Item at used e) r p t = ReadsInto r p t
PushLeaves push.Done r p t = IsPreorder t.nodes
PushLeaves (push.Refused x) r p t = Unit {0}

abbrev pub AdvanceLeaves : TypeAdvance → TypeState → FieldState → Table → Type 0
AdvanceLeaves (advance.More used) r p t = ReadsInto r p t
AdvanceLeaves (advance.Item at used q) r p t = ReadsInto r p t
AdvanceLeaves advance.Done r p t = IsPreorder t.nodes
AdvanceLeaves (advance.Refused x) r p t = Unit {0}

-- These bytes spell the option of a type at this depth, none of whose inner types is too deep; these are its items,
-- the first at `at`; and its nodes in preorder are after the ones before. (What a lenient caller reads of an unknown id
-- is a type in the table all the same, but nothing spells it.)
pub record IsWhole (l : Rules) (depth at : ℕ) (before : List Node) (s : List ℕ) (es : List (ℕ × TypeEvent))
    (nodes : List Node) : Type 0 where
  pub tree : Trees
  pub one : trees_in tree ≡ 1
  pub formed : AreFormed (types_in tree)
  pub are : l.lenient ≡ false → AreTrees tree
  pub shallow : Shallow l depth tree
  pub spelled : l.lenient ≡ false → TreeSpells tree s
  pub items : es ≡ placed at (trees_items false tree)
  pub table : nodes ≡ before ++ preorder (types_in tree)

-- What a call leads to that was made after these bytes and items of an option at this depth.
abbrev pub Leads : (depth : ℕ) (start : TypePlace) → TypeState → FieldState → Table → List ℕ → List (ℕ × TypeEvent)
    → List ℕ → TypePush → TypeState → FieldState → Table → Type 0
Leads depth start old p t s es input (push.More used) new p' t' =
    After start new p' t' (s ++ input) es × (step_says new t'.nodes (pending new p') ≡ More)
Leads depth start old p t s es input (push.Item at used e) new p' t' =
    (pending new p' ≡ []) × After start new p' t' (s ++ take used input) (es ++ (at, event_of e) ∷ [])
Leads depth start old p t s es input push.Done new p' t' =
    IsWhole old.rules depth start.offset start.nodes s es t'.nodes
Leads depth start old p t s es input (push.Refused r) new p' t' =
    Runs (type_step old.rules) start (s ++ input) es (place_of old t.nodes) (pending old p ++ input)
    × (step_says old t.nodes (pending old p ++ input) ≡ Bad (r.at, r.why))

-- A call ends the option by Done where nothing is left of it, and only there; else it uses no more than the input, and
-- all of it while an item goes on.
abbrev pub Uses : TypeState → List ℕ → TypePush → Type 0
Uses old input (push.More used) = (used ≡ length input) × (old.symbols ≡ [] → ⊥)
Uses old input (push.Item at used e) = (used ≤ length input) × (old.symbols ≡ [] → ⊥)
Uses old input push.Done = old.symbols ≡ []
Uses old input (push.Refused r) = old.symbols ≡ [] → ⊥

-- The option is still under way, or it has ended.
abbrev pub Continues : TypeState → TypePush → TypeState → Type 0
Continues old (push.More used) new = (new.under_way ≡ true) × (new.rules ≡ old.rules)
Continues old (push.Item at used e) new = (new.under_way ≡ true) × (new.rules ≡ old.rules)
Continues old push.Done new = new ≡ stopped old
Continues old (push.Refused r) new = new ≡ stopped old

-- The table stays, but for the nodes that an item adds or fills in.
abbrev pub Fills : TypeState → Table → TypePush → Table → Type 0
Fills old t (push.Item at used e) t' =
    (t'.room ≡ t.room) × (length t.nodes ≤ old.rules.entries → length t'.nodes ≤ old.rules.entries)
Fills old t x t' = t' ≡ t

-- The `Partial` reads the item that goes on, and has no field under way where an item or the option has ended. Where
-- the content of a text lies whole in the bytes that are used, its buffer is empty; so it is after a refusal, and Done
-- leaves the `Partial` as it was.
abbrev pub Serves : FieldState → TypePush → TypeState → FieldState → Type 0
Serves p (push.More used) new p' = IsShared new p' × (p'.under_way ≡ true)
Serves p (push.Item at used e) new p' =
    IsShared new p' × (p'.under_way ≡ false) × (text_length (event_of e) ≤ used → p'.content ≡ [])
Serves p push.Done new p' = (p' ≡ p) × (p'.under_way ≡ false)
Serves p (push.Refused r) new p' = (p'.under_way ≡ false) × (p'.content ≡ [])

pub record Pushes (old : TypeState) (p : FieldState) (t : Table) (input : List ℕ) (x : TypePush)
    (new : TypeState) (p' : FieldState) (t' : Table) : Type 0 where
  pub leads : (start : TypePlace) (depth : ℕ) → start.symbols ≡ Option_at depth ∷ []
      → (s : List ℕ) (es : List (ℕ × TypeEvent)) → After start old p t s es
      → Leads depth start old p t s es input x new p' t'
  pub serves : Serves p x new p'
  pub table : PushLeaves x new p' t'
  pub room : p'.room ≡ p.room
