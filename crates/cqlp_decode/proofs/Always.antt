-- What always holds of a reader.
use Rattle.std.proofs.Common.{ℕ, List, ◌++◌, append_assoc}
use Rattle.std.proofs.lemmas.List.{append-nil}
use Rattle.cqlp_note.specs.Reader.{Reader, Gives, Refuses, Takes, Idles}
use Rattle.cqlp_note.specs.Field.{FieldValue, FieldReader}
use Rattle.cqlp_note.specs.Step.{Emitted, Step, after_field, map_step}
use Rattle.cqlp_note.proofs.Readers.{Always}
use Rattle.cqlp_note.proofs.Yields.{Yields}

-- what always holds, holds of the bytes that a reader takes
pub yields_always : {A F : Type 0} (P : A → List ℕ → Type 0) (r : Reader A F) (v : A) (before b : List ℕ) → Always P r before → Yields r v b → P v (before ++ b)
yields_always P (Gives w) v before b h y = rw (y.1, append-nil before) (rw y.0 at h)
yields_always P (Refuses why) v before b h y = absurd y
yields_always P Idles v before b h y = absurd y
yields_always P (Takes n next) v before b h y = rw (y.3, ← (append_assoc before y.0 y.1)) (yields_always P (next y.0) v (before ++ y.0) y.1 (h y.0 y.2) y.4)

pub after_always : {E Q : Type 0} (F : FieldValue → List ℕ → Type 0) (P : Emitted E Q → List ℕ → Type 0) (at : ℕ) (r : FieldReader) (next : FieldValue → Step E Q) (before : List ℕ)
    → Always F r before → ((v : FieldValue) (b : List ℕ) → F v b → Always P (next v) b) → Always P (after_field at r next) before
after_always F P at (Gives v) next before h f = f v before h
after_always F P at (Refuses why) next before h f = tt
after_always F P at Idles next before h f = tt
after_always F P at (Takes n g) next before h f = λ c long. after_always F P at (g c) next (before ++ c) (h c long) f

pub map_always : {E A F B : Type 0} (f : E → F) (g : A → B) (P : Emitted F B → List ℕ → Type 0) (r : Step E A) (before : List ℕ)
    → Always (λ x b. P (record { at = x.at; event = f x.event; after = λ used. g (x.after used) }) b) r before → Always P (map_step f g r) before
map_always f g P (Gives x) before h = h
map_always f g P (Refuses why) before h = tt
map_always f g P Idles before h = tt
map_always f g P (Takes n next) before h = λ c long. map_always f g P (next c) (before ++ c) (h c long)
