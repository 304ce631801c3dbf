-- A part that is taken after others.
use Rattle.std.proofs.Common.{◌≡◌, ℕ, ◌+◌, ◌≤◌, List, [], ◌∷◌, ◌++◌, length, subst, sym, ◌∙◌, ap, append_assoc, append-nil, arith}
use Rattle.std.proofs.lemmas.Grind.{flat_map-append}
use Rattle.std.proofs.lemmas.List.{length-append}
use Rattle.std.specs.Prelude.{Option, Some, None}
use Rattle.std.specs.Borrow.{Bor}
use Rattle.cqlp_type.specs.declared.tree.TypeTree.{TypeTree}
use Rattle.cqlp_value.specs.declared.value.Value.{Value}
use Rattle.cqlp_value.specs.Owned.{value_of}
use Rattle.cqlp_value.proofs.ValuesWritten.{written_size}
use Rattle.cqlp_message.specs.declared.part.PartRef.TheVariants as ref
use Rattle.cqlp_message.specs.Parts.{Part, part_size, parts_size, part_bytes, parts_bytes}
use Rattle.cqlp_message.specs.PartRefs.{Takes, part_of}
use Rattle.cqlp_message.proofs.Tallies.{size_more}
use Rattle.cqlp_encode.specs.Progress.{Progress, HasTaken, HasTakenParts, PutsWithin}

more_bytes : (ps : List Part) (p : Part) → parts_bytes (ps ++ p ∷ []) ≡ parts_bytes ps ++ part_bytes p
more_bytes ps p = flat_map-append part_bytes ps (p ∷ []) ∙ ap (λ (x : List ℕ). parts_bytes ps ++ x) (append-nil (part_bytes p))

pub part_taken : (old new : Progress) (part : Part) → length (part_bytes part) ≡ part_size part → PutsWithin (part_size part) old (part_bytes part) new → Takes HasTakenParts old new (part ∷ [])
part_taken old new part long s = record {
  takes = λ before earlier t. record {
    size = omega (arith, ap length (more_bytes earlier part), length-append (parts_bytes earlier) (part_bytes part), t.size, long, size_more earlier part);
    taken = λ le.
        let both : parts_size earlier + part_size part ≤ _ = rw (size_more earlier part) at le in
        let one = (s.puts (omega arith)).taken before.start (before.front ++ parts_bytes earlier) (t.taken (omega arith)) in
        subst (λ (x : List ℕ). HasTaken before.start x new) (append_assoc before.front (parts_bytes earlier) (part_bytes part) ∙ ap (λ (x : List ℕ). before.front ++ x) (sym (more_bytes earlier part))) one;
    lender = s.lender ∙ t.lender;
  };
}

-- a cell is as long as its value
pub cell_long : (row column : ℕ) (tree : Option (Bor TypeTree)) (value : Bor Value) → length (part_bytes (part_of (ref.Cell row column tree value))) ≡ part_size (part_of (ref.Cell row column tree value))
cell_long row column None value = written_size (value_of value.now)
cell_long row column (Some t) value = written_size (value_of value.now)
