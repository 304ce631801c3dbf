-- Steps that say no event, one after another.
use Rattle.std.proofs.Common.{◌≡◌, ℕ, ◌+◌, ◌-◌, ◌<◌, ◌≤◌, List, [], ◌∷◌, ◌++◌, length, take, drop, refl, sym, ap, subst, ◌∙◌, append_assoc, arith}
use Rattle.std.specs.Prelude.{Option, None}
use Rattle.std.proofs.lemmas.Bool.{ne_eqb}
use Rattle.std.proofs.lemmas.List.{append-nil, length-drop, length-append, length-take-le, take-append-drop, take-take, drop-take}
use Rattle.std.proofs.Math.Seq.{take-append_seam}
use Rattle.cqlp_note.specs.Reader.{Got, says}
use Rattle.cqlp_capture.specs.declared.block.Block.{Block}
use Rattle.cqlp_capture.specs.declared.interfaces.KnownInterface.{KnownInterface}
use Rattle.cqlp_capture.specs.declared.limits.CaptureLimits.{CaptureLimits}
use Rattle.cqlp_capture.specs.declared.place.Stage.{Stage}
use Rattle.cqlp_capture.specs.declared.place.Stage.TheVariants.{Pass}
use Rattle.cqlp_capture.specs.Blocks.{passing}
use Rattle.cqlp_capture.specs.Reading.{Event, Spot, heard, step, Reads, Hears}
use Rattle.cqlp_capture.specs.Progress.{Moves}
use Rattle.cqlp_capture.proofs.Steps.{step_says}
use Rattle.cqlp_capture.proofs.Runs.{heard-append, reads_stay, reads_then, hears_then, hears_stay}

pub take_two : (k n : ℕ) (bytes : List ℕ) → take (k + n) bytes ≡ take k bytes ++ take n (drop k bytes)
take_two k n bytes = sym (rw (take-take k (k + n) bytes (omega arith), drop-take k n bytes) at (take-append-drop k (take (k + n) bytes)))

pub nothing : {X : Type 0} (xs : List X) → length xs ≡ 0 → xs ≡ []
nothing [] none = refl
nothing (x ∷ xs) none = absurd (omega arith)

pub take_whole : (ys : List ℕ) (n : ℕ) → n ≡ length ys → take n ys ≡ ys
take_whole ys n is = ap (λ (k : ℕ). take k ys) is ∙ ap (take (length ys)) (sym (append-nil ys)) ∙ take-append_seam ys []

-- a slice from an index on
pub rest_of : (n : ℕ) (xs : List ℕ) → take (length xs - n) (drop n xs) ≡ drop n xs
rest_of n xs = take_whole (drop n xs) (length xs - n) (sym (length-drop n xs))

-- the bytes of what was moved over, and more
moved_bytes : (pending input : List ℕ) (n k : ℕ) → (pending ++ take n input) ++ take k (drop n input) ≡ pending ++ take (n + k) input
moved_bytes pending input n k = append_assoc pending (take n input) (take k (drop n input)) ∙ ap (λ (x : List ℕ). pending ++ x) (sym (take_two n k input))

module _ (l : CaptureLimits) where
  pub moves_then : (p q r : Spot) (pending input : List ℕ) (n k : ℕ) (mid rest : List ℕ) → Moves l p pending input n q mid → Moves l q mid (drop n input) k r rest → rest ≡ [] → Moves l p pending input (n + k) r rest
  moves_then p q r pending input n k mid rest a b none = record {
    within = let x = a.within in let y = b.within in omega (arith, length-drop n input);
    steps = a.steps ++ b.steps;
    silent = heard-append a.steps b.steps ∙ ap (λ (x : List (ℕ × Event)). x ++ heard b.steps) a.silent ∙ b.silent;
    reads = subst (λ (x : List ℕ). Reads l p x (a.steps ++ b.steps) r rest) (moved_bytes pending input n k) (reads_then l p q r ((pending ++ take n input) ++ take k (drop n input)) (mid ++ take k (drop n input)) rest a.steps b.steps (reads_stay l p (pending ++ take n input) (take k (drop n input)) a.steps q mid a.reads) b.reads);
    first = λ is.
        let size : length a.steps + length b.steps ≡ 0 = sym (length-append a.steps b.steps) ∙ ap length is in
        let x = a.first (nothing a.steps (omega arith)) in
        let y = b.first (nothing b.steps (omega arith)) in
        omega arith;
    later = λ _. none;
  }

  -- the events stay as they are
  pub moves_hear : (p q : Spot) (pending input : List ℕ) (n : ℕ) (rest : List ℕ) (start : Spot) (s : List ℕ) (es : List (ℕ × Event)) → Moves l p pending input n q rest → Hears l start s es p pending → Hears l start (s ++ take n input) es q rest
  moves_hear p q pending input n rest start s es m run =
      subst (λ (x : List (ℕ × Event)). Hears l start (s ++ take n input) x q rest) (append-nil es)
      (hears_then l start p q (s ++ take n input) (pending ++ take n input) rest es [] (hears_stay l start s (take n input) es p pending run) (record { steps = m.steps; events = m.silent; reads = m.reads }))

  -- ---- bytes that are passed over

  pass_one : (known : List KnownInterface) (b : Block) (until offset : ℕ) (x : ℕ) (xs : List ℕ) → says (step l (record { place = record { offset = offset; stage = Pass b until }; known = known })) 0 (x ∷ xs) ≡ Got (record { at = offset + 1; event = None; after = record { place = record { offset = offset + 1; stage = passing b (offset + 1) until }; known = known } }) 1
  pass_one known b until offset x xs = step_says l (record { place = record { offset = offset; stage = Pass b until }; known = known }) (x ∷ xs) (omega arith)

  -- so many steps as there are bytes
  pub record PassesOver (known : List KnownInterface) (b : Block) (until offset : ℕ) (bytes : List ℕ) : Type 0 where
    pub steps : List (ℕ × Option Event)
    pub silent : heard steps ≡ []
    pub some : 0 < length steps
    pub reads : Reads l (record { place = record { offset = offset; stage = Pass b until }; known = known }) bytes steps (record { place = record { offset = offset + length bytes; stage = passing b (offset + length bytes) until }; known = known }) []

  pass_all : (known : List KnownInterface) (b : Block) (until : ℕ) (bytes : List ℕ) (offset : ℕ) → offset + length bytes ≤ until → 0 < length bytes → PassesOver known b until offset bytes
  pass_all known b until [] offset fits some = absurd (omega arith)
  pass_all known b until (x ∷ []) offset fits some = record {
    steps = (offset + 1, None) ∷ [];
    silent = refl;
    some = omega arith;
    reads = (1, record { place = record { offset = offset + 1; stage = passing b (offset + 1) until }; known = known }, pass_one known b until offset x [], (refl, refl));
  }
  pass_all known b until (x ∷ y ∷ ys) offset fits some =
      let later = pass_all known b until (y ∷ ys) (offset + 1) (omega arith) (omega arith) in
      let far : offset + 1 + length (y ∷ ys) ≡ offset + length (x ∷ y ∷ ys) = omega arith in
      let apart : offset + 1 ≡ until → ⊥ = λ e. absurd (omega arith) in
      let stays : passing b (offset + 1) until ≡ Pass b until = rw (ne_eqb _ _ apart) refl in
      let from = subst (λ (k : ℕ). Reads l (record { place = record { offset = offset + 1; stage = Pass b until }; known = known }) (y ∷ ys) later.steps (record { place = record { offset = k; stage = passing b k until }; known = known }) []) far later.reads in
      record {
        steps = (offset + 1, None) ∷ later.steps;
        silent = later.silent;
        some = omega arith;
        reads = (1, record { place = record { offset = offset + 1; stage = passing b (offset + 1) until }; known = known }, pass_one known b until offset x (y ∷ ys), subst (λ (z : Stage). Reads l (record { place = record { offset = offset + 1; stage = z }; known = known }) (y ∷ ys) later.steps (record { place = record { offset = offset + length (x ∷ y ∷ ys); stage = passing b (offset + length (x ∷ y ∷ ys)) until }; known = known }) []) (sym stays) from);
      }

  pub pass_moves : (known : List KnownInterface) (b : Block) (until offset : ℕ) (input : List ℕ) (n : ℕ) → n ≤ length input → 0 < n → offset + n ≤ until → Moves l (record { place = record { offset = offset; stage = Pass b until }; known = known }) [] input n (record { place = record { offset = offset + n; stage = passing b (offset + n) until }; known = known }) []
  pass_moves known b until offset input n within some fits =
      let long : length (take n input) ≡ n = length-take-le n input within in
      let over = pass_all known b until (take n input) offset (omega arith) (omega arith) in
      record {
        within = within;
        steps = over.steps;
        silent = over.silent;
        reads = subst (λ (k : ℕ). Reads l (record { place = record { offset = offset; stage = Pass b until }; known = known }) (take n input) over.steps (record { place = record { offset = offset + k; stage = passing b (offset + k) until }; known = known }) []) long over.reads;
        first = λ none. let some = over.some in absurd (let size : length over.steps ≡ 0 = ap length none in omega arith);
        later = λ _. refl;
      }
