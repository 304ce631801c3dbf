-- A content of few bytes, copied behind its length.
use Rattle.std.proofs.Common.{◌≡◌, ◌+◌, ℕ, List, ◌++◌, length, take, subst, ap, ◌∙◌, arith}
use Rattle.std.proofs.lemmas.List.{length-append}
use Rattle.std.proofs.lemmas.Slice.{take-put_mid}
use lib.Seq.{take_at}
use borrow.Rule.Slice.PartMut.{put_mid}
use Rattle.cqlp_note.specs.Outputs.{Output}
use Rattle.cqlp_encode.specs.Encoding.{Continued}
use Rattle.cqlp_encode.specs.Progress.{Progress, Puts}

front_few : (a b z : List ℕ) (k m : ℕ) → length a ≡ 4 → m ≡ 4 + length b → take m (put_mid 4 k (a ++ z) b) ≡ a ++ b
front_few a b z k m four all =
    let long = length-append a z in
    take-put_mid 4 k (a ++ z) b m all (omega (arith, long, four)) ∙ ap (λ (t : List ℕ). t ++ b) (take_at a z 4 four)

-- what is copied are the four bytes of the length, and then the content
pub few_is : (a b b' y z : List ℕ) (k m : ℕ) → b' ≡ b → a ≡ y → length a ≡ 4 → m ≡ 4 + length b → take m (put_mid 4 k (a ++ z) b') ≡ y ++ b
few_is a b b' y z k m same front four all =
    ap (λ (t : List ℕ). take m (put_mid 4 k (a ++ z) t)) same ∙ front_few a b z k m four all ∙ ap (λ (t : List ℕ). t ++ b) front

pub few_offered : (o n : Output) (a b b' y z : List ℕ) (k m r : ℕ) → b' ≡ b → a ≡ y → length a ≡ 4 → m ≡ 4 + length b
    → Continued 0 o (take m (put_mid 4 k (a ++ z) b')) r n → Continued 0 o (y ++ b) r n
few_offered o n a b b' y z k m r same front four all c = subst (λ (x : List ℕ). Continued 0 o x r n) (few_is a b b' y z k m same front four all) c

pub few_put : (p q : Progress) (a b b' y z : List ℕ) (k m : ℕ) → b' ≡ b → a ≡ y → length a ≡ 4 → m ≡ 4 + length b
    → Puts p (take m (put_mid 4 k (a ++ z) b')) q → Puts p (y ++ b) q
few_put p q a b b' y z k m same front four all t = subst (λ (x : List ℕ). Puts p x q) (few_is a b b' y z k m same front four all) t
