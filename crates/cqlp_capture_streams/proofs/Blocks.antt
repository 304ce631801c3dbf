-- What waits is handed on.
use Rattle.std.proofs.Common.{◌≡◌, ◌≤◌, ◌∙◌, ℕ, List, length, Option, Some, None, Result, Ok, Err, IsSome, sym, ap, refl}
use Rattle.std.specs.Io.KnownBytes.{append_known}
use Rattle.cqlp_note.specs.declared.streams.IoFault.{IoFault}
use Rattle.cqlp_note.specs.Outputs.{Output, output}
use Rattle.cqlp_capture_streams.specs.Blocks.{Blocks, HandsOn, LacksEnd, PassesOn, contents_of, whole_of}

known_before : (given : Option (List ℕ)) (text : List ℕ) → IsSome (append_known given text) → IsSome given
known_before None text k = k
known_before (Some t) text k = refl

pub lacks_end : (b : Blocks) (new : Output) → length b.waiting ≤ 65536 → new ≡ output b.given b.failures → LacksEnd (whole_of b) new
lacks_end b new short same = record {
  missing = b.waiting;
  short = short;
  given = ap (λ (o : Output). append_known o.given b.waiting) (sym same);
  failures = ap (λ (o : Output). o.failures) same;
}

pub handed : (old mid : Blocks) (r : Result (Unit {0}) IoFault) (new : Output) → IsSome (contents_of old) → PassesOn old r mid → length mid.waiting ≤ 65536 → new ≡ output mid.given mid.failures → HandsOn (whole_of old) r new
handed old mid (Ok u) new known passed short same = same ∙ ap (λ (b : Blocks). output b.given b.failures) (passed.0 (known_before old.given old.waiting known))
handed old mid (Err e) new known passed short same = record {
  missing = mid.waiting;
  short = short;
  given = sym (passed.0 (known_before old.given old.waiting known)) ∙ ap (λ (o : Output). append_known o.given mid.waiting) (sym same);
  failures = ap (λ (o : Output). o.failures) same ∙ passed.1;
}
