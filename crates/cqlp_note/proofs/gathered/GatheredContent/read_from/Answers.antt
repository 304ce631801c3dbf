use Rattle.std.proofs.Common.{◌≡◌, ◌++◌, ◌≤◌, length, take, drop, refl, arith}
use Rattle.cqlp_note.proofs.Behind.{taken_behind}
use Rattle.cqlp_note.proofs.gathered.GatheredContent.read_from.Goals as goal

pub returns-in-Ok-clause-bytes : goal.returns-in-Ok-clause-bytes
returns-in-Ok-clause-bytes g c =
    let inside = c.self.inside in
    let filled = c.fill_to.new.bytes in
    let piece = c.read.new.buffer in
    let long : length piece ≡ c.args.most = let a = c.read.auto.buffer in let b = c.slice_mut.ensures.len in omega arith in
    let bound = c.in-Ok.ensures.bound in
    let start : inside.len ≤ length inside.bytes.items = c.self.invariant.1 in
    let reach = c.fill_to.ensures.long in
    let more = c.fill_to.ensures.no_fewer in
    let rest = drop (length piece) (drop inside.len filled.items) in
    let over = take inside.len filled.items ++ (piece ++ rest) in
    let items = taken_behind inside.bytes.items filled.items piece rest (drop (length over) filled.items) filled.len inside.len c.in-Ok.count start c.fill_to.ensures.kept (omega (arith, start, more)) (omega (arith, reach, bound, long)) bound in
    record {
      buffer = piece;
      long = long;
      bytes = c.in-Ok.ensures.bytes;
      became = (bound, rw (items, c.fill_to.ensures.in_place, ← c.self.view_is) refl);
    }
