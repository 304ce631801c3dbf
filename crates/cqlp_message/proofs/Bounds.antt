-- Frames whose bodies are no longer than the caller's limits are within those limits.
use Rattle.std.proofs.Common.{◌≡◌, ℕ, ◌+◌, ◌<◌, ◌≤◌, true, false, List, [], ◌∷◌, ◌++◌, length, Option, Some, None, Bool, ap, arith}
use Rattle.std.specs.List.{flat_map}
use Rattle.std.proofs.lemmas.List.{length-append}
use Rattle.cqlp_note.specs.declared.field.Field.TheVariants as field
use Rattle.cqlp_note.specs.declared.field.Notation.{Notation}
use Rattle.cqlp_note.specs.declared.field.Notation.TheVariants as notation
use Rattle.cqlp_note.specs.declared.header.TheConstants.Header.{LONGEST_BODY}
use Rattle.cqlp_note.specs.declared.prim.Address.TheVariants as address
use Rattle.cqlp_note.specs.Field.{FieldValue, Byte, Short, Int, Long, Uuid, Count, Text, Bytes, Bound, Inet, Null, Unset, Known, content_length}
use Rattle.cqlp_note.specs.Limits.{Rules, limit_of}
use Rattle.cqlp_note.specs.Spelling.{Spells}
use Rattle.cqlp_kind.specs.TypeStep.{TypeEvent, IsNode, IsField}
use Rattle.cqlp_type.specs.Trees.{Trees, NoTree, Tree_and, has_names, options_in, Shallow, ItemsSpell, AreShort}
use Rattle.cqlp_type.specs.Trees as tree
use Rattle.cqlp_type.specs.TypeTrees.{trees_size}
use Rattle.cqlp_type.proofs.ReadBack.{item_sized}
use Rattle.cqlp_type.proofs.Lengths.{spelled_long}
use Rattle.cqlp_value.specs.Values.{Values, NoValue, Null_and, Empty_and, Scalar_and, Counted_and, Fields_and, values_size, AreWithin}
use Rattle.cqlp_message.specs.FrameValues.{Spec, Metadata, Message, Rows, Prepared, FrameValue}
use Rattle.cqlp_message.specs.Parts.{Part, Field_is, Type_is, Cell_is, PartSpells, PartsSpell, PartWithin, PartsWithin, parts_size}
use Rattle.cqlp_message.specs.Bodies.{where_some, counted_keys, table_parts, paging_parts, spec_parts, specs_parts, metadata_parts, rows_parts, cell_types, message_parts}
use Rattle.cqlp_message.specs.Bodies as body
use Rattle.cqlp_message.specs.Frames.{FrameSpells, frame_parts, options_among, options_described, TypesWithin, IsWithin}
use Rattle.cqlp_message.proofs.Sizes.{field_size, part_sized, parts_long, frame_spelled}

-- no limit is below this many bytes, and a part of a long content has any
pub record Allow (l : Rules) (n : ℕ) : Type 0 where
  pub text : n ≤ l.text
  pub cell : n ≤ l.cell
  pub entries : n ≤ l.entries
  pub depth : n ≤ l.depth
  pub part : 0 < l.part

-- ---- types

options_few : (named : Bool) (ts : Trees) → options_in ts ≤ trees_size named ts
options_few named NoTree = omega arith
options_few named (Tree_and name h inner others) = omega (arith, options_few (has_names h) inner, options_few named others)

shallow : (l : Rules) (depth : ℕ) (ts : Trees) → depth + options_in ts ≤ l.depth + 1 → Shallow l depth ts
shallow l depth NoTree le = tt
shallow l depth (Tree_and name h inner others) le = (omega arith, shallow l (depth + 1) inner (omega arith), shallow l depth others (omega arith))

short : (l : Rules) (es : List TypeEvent) (b : List ℕ) → ItemsSpell es b → length b ≤ l.text → AreShort l es
short l [] b s le = tt
short l (IsNode k ∷ es) b s le = short l es s.back s.that (omega (arith, ap length s.whole, length-append s.front s.back))
short l (IsField f v ∷ es) b s le =
    let both : length b ≡ length s.front + length s.back = omega (arith, ap length s.whole, length-append s.front s.back) in
    (omega (arith, item_sized (IsField f v) s.front s.this), short l es s.back s.that (omega arith))

-- ---- values

values_within : (l : Rules) → 0 < l.part → (vs : Values) → values_size vs ≤ l.cell → AreWithin l vs
values_within l some NoValue le = tt
values_within l some (Null_and vs) le = values_within l some vs (omega arith)
values_within l some (Empty_and vs) le = values_within l some vs (omega arith)
values_within l some (Scalar_and v vs) le = ((λ e. omega arith), (λ e. some), values_within l some vs (omega arith))
values_within l some (Counted_and k n items vs) le = (values_within l some items (omega arith), values_within l some vs (omega arith))
values_within l some (Fields_and k items vs) le = (values_within l some items (omega arith), values_within l some vs (omega arith))

-- ---- parts

module _ (l : Rules) (n : ℕ) (allows : Allow l n) where
  field_within : (m : Notation) (v : FieldValue) (b : List ℕ) → Spells m v b → length b ≤ n → content_length v ≤ limit_of l m
  unfolding Spells
  field_within notation.Byte (Byte k) b s le = omega arith
  field_within notation.Short (Short k) b s le = omega arith
  field_within notation.Int (Int z) b s le = omega arith
  field_within notation.Long (Long z) b s le = omega arith
  field_within notation.Uuid (Uuid c) b s le = omega arith
  field_within notation.Count16 (Count k) b s le = omega arith
  field_within notation.Count32 (Count k) b s le = omega arith
  field_within notation.Text16 (Text t) b s le = omega (arith, field_size notation.Text16 (Text t) b s)
  field_within notation.Text32 (Text t) b s le = omega (arith, field_size notation.Text32 (Text t) b s)
  field_within notation.Bytes16 (Bytes (Some c)) b s le = omega (arith, field_size notation.Bytes16 (Bytes (Some c)) b s)
  field_within notation.Bytes32 (Bytes None) b s le = omega arith
  field_within notation.Bytes32 (Bytes (Some c)) b s le = omega (arith, field_size notation.Bytes32 (Bytes (Some c)) b s)
  field_within notation.Bound (Bound Null) b s le = omega arith
  field_within notation.Bound (Bound Unset) b s le = omega arith
  field_within notation.Bound (Bound (Known c)) b s le = omega (arith, field_size notation.Bound (Bound (Known c)) b s)
  field_within notation.Inet (Inet (address.V4 a) z) b s le = omega arith
  field_within notation.Inet (Inet (address.V6 a) z) b s le = omega arith
  field_within (notation.Content k) (Bytes (Some c)) b s le = omega (arith, field_size (notation.Content k) (Bytes (Some c)) b s)
  field_within m v b s le = absurd s

  part_within : (part : Part) (b : List ℕ) → PartSpells part b → length b ≤ n → PartWithin l part
  part_within (Field_is f m v) b s le = field_within m v b s le
  part_within (Type_is t) b s le =
      (shallow l 1 t (omega (arith, options_few false t, spelled_long false t b s.spelled)), short l (tree.trees_items false t) b s.spelled (omega arith))
  part_within (Cell_is row column k inner v) b s le = values_within l allows.part v (omega (arith, part_sized (Cell_is row column k inner v) b s))

  parts_within : (ps : List Part) (b : List ℕ) → PartsSpell ps b → length b ≤ n → PartsWithin l ps
  parts_within [] b s le = tt
  parts_within (part ∷ ps) b s le =
      let both : length b ≡ length s.front + length s.back = omega (arith, ap length s.whole, length-append s.front s.back) in
      (part_within part s.front s.this (omega arith), parts_within ps s.back s.that (omega arith))

-- ---- the type options of a message

pub parts_append : (ps qs : List Part) → parts_size (ps ++ qs) ≡ parts_size ps + parts_size qs
parts_append [] qs = omega arith
parts_append (part ∷ ps) qs = omega (arith, parts_append ps qs)

among_few : (specs : List Spec) → options_among specs ≤ parts_size (flat_map spec_parts specs)
among_few [] = omega arith
among_few (c ∷ specs) =
    let one : options_in c.tree ≤ parts_size (spec_parts c) = omega (arith, parts_append (table_parts c.table) (body.text field.ColumnName c.name ∷ Type_is c.tree ∷ []), options_few false c.tree) in
    omega (arith, one, parts_append (spec_parts c) (flat_map spec_parts specs), among_few specs)

described_few : (o : Option (List Spec)) → options_described o ≤ parts_size (where_some (flat_map spec_parts) o)
described_few None = omega arith
described_few (Some specs) = among_few specs

metadata_few : (m : Metadata) → options_described m.specs ≤ parts_size (metadata_parts m)
metadata_few m = simp parts_append (omega (arith, described_few m.specs))

types_within : (l : Rules) (m : Message) → parts_size (message_parts m) ≤ l.entries → TypesWithin l m
types_within l (Rows p) le =
    let all = simp parts_append at le in
    let few = simp parts_append at (metadata_few p.meta) in
    omega arith
types_within l (Prepared p) le =
    let all = simp parts_append at le in
    let few = simp parts_append at (metadata_few p.result) in
    (omega (arith, among_few p.specs), omega arith)
types_within l m le = tt

-- ---- frames

-- A frame is within limits that are no less than the longest body.
pub frame_within : (l : Rules) → Allow l LONGEST_BODY → l.types ≡ true → (f : FrameValue) (x : ℕ) (b : List ℕ) → FrameSpells f x b → IsWithin l f
frame_within l allows typed f x b s =
    let size : length (s.announced ++ s.body) ≤ LONGEST_BODY = omega (arith, s.lawful.bounded, length-append (s.announced ++ s.body) s.extra) in
    let inner : length s.body ≤ LONGEST_BODY = omega (arith, length-append s.announced s.body) in
    record {
      parts = parts_within l LONGEST_BODY allows (frame_parts f) (s.announced ++ s.body) (frame_spelled f x b s) size;
      types = types_within l f.message (omega (arith, allows.entries, parts_long (message_parts f.message) s.body s.message));
      typed = typed;
    }
