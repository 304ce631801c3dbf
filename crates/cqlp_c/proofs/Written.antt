-- Bytes that were put one after the other.
use Rattle.std.proofs.Common.{◌≡◌, ℕ, ◌+◌, ◌≤◌, false, Bool, nat_lt, List, [], ◌++◌, length, take, drop, refl, sym, ap, ◌∙◌, subst, append_assoc, arith}
use Rattle.std.proofs.lemmas.List.{length-append, take-append-drop}
use Rattle.cqlp_c.specs.declared.numbers.TheConstants as numbers
use Rattle.cqlp_c.specs.Rooms.{PutsBytes, PutsWhere}

-- Bytes are at the front of this room, and all after them is as it was in that one.
pub record Conform (before bytes after : List ℕ) : Type 0 where
  pub first : take (length bytes) after ≡ bytes
  pub others : (n : ℕ) → length bytes ≤ n → drop n after ≡ drop n before

pub none_conform : (room : List ℕ) → Conform room [] room
none_conform room = record { first = refl; others = λ n le. refl }

pub more_conform : (before bytes old new more : List ℕ) (at end : ℕ) → Conform before bytes old → at ≡ length bytes → end ≡ at + length more → take end new ≡ take at old ++ more → ((n : ℕ) → end ≤ n → drop n new ≡ drop n old) → Conform before (bytes ++ more) new
more_conform before bytes old new more at end s is behind first others = record {
  first = ap (λ (n : ℕ). take n new) (length-append bytes more ∙ sym (behind ∙ ap (λ (n : ℕ). n + length more) is)) ∙ first ∙ ap (λ (n : ℕ). take n old ++ more) is ∙ ap (λ (z : List ℕ). z ++ more) s.first;
  others = λ n le. others n (omega (arith, le, behind, is, length-append bytes more)) ∙ s.others n (omega (arith, le, length-append bytes more));
}

pub lt_false : (m n : ℕ) → n ≤ m → nat_lt m n ≡ false
lt_false m n le = grind (arith, le)

pub put_conform : (before bytes after : List ℕ) (written : ℕ) → length bytes ≤ length before → written ≡ length bytes → Conform before bytes after → PutsBytes bytes numbers.DONE before after written
put_conform before bytes after written fits is s =
    let all : after ≡ bytes ++ drop (length bytes) before = sym (take-append-drop (length bytes) after) ∙ ap (λ (z : List ℕ). z ++ drop (length bytes) after) s.first ∙ ap (λ (z : List ℕ). bytes ++ z) (s.others (length bytes) (omega arith)) in
    (subst (λ (b : Bool). PutsWhere b bytes numbers.DONE before after) (sym (lt_false (length before) (length bytes) fits)) (refl, all), is)

pub assembled : (head digits a b n z : List ℕ) → a ≡ head → n ≡ digits → ((a ++ b) ++ n) ++ z ≡ head ++ ((b ++ digits) ++ z)
assembled head digits a b n z is same = append_assoc (a ++ b) n z ∙ append_assoc a b (n ++ z) ∙ ap (λ (x : List ℕ). x ++ (b ++ (n ++ z))) is ∙ ap (λ (x : List ℕ). head ++ x) (sym (append_assoc b n z)) ∙ ap (λ (x : List ℕ). head ++ ((b ++ x) ++ z)) same

pub text_long : (b digits n z : List ℕ) (sizeb sizez : ℕ) → sizeb ≡ length b → sizez ≡ length z → n ≡ digits → sizeb + length n + sizez ≡ length ((b ++ digits) ++ z)
text_long b digits n z sizeb sizez bs zs same = omega (arith, bs, zs, ap length same, length-append (b ++ digits) z, length-append b digits)

-- bytes of a second list, put after others into a room, where they follow what is there
pub record Follow (old bytes : List ℕ) (at end : ℕ) (new : List ℕ) : Type 0 where
  pub behind : end ≡ at + length bytes
  pub first : take end new ≡ take at old ++ bytes
  pub others : (n : ℕ) → end ≤ n → drop n new ≡ drop n old

pub four_follow : (room r1 r2 r3 r4 a b n z : List ℕ) (e1 e2 e3 e4 written : ℕ) → Follow room a 0 e1 r1 → Follow r1 b e1 e2 r2 → Follow r2 n e2 e3 r3 → Follow r3 z e3 e4 r4 → written ≡ length a + (length b + length n + length z) → written ≤ length room
    → PutsBytes (((a ++ b) ++ n) ++ z) numbers.DONE room r4 written
four_follow room r1 r2 r3 r4 a b n z e1 e2 e3 e4 written fa fb fn fz is fits =
    let one = more_conform room [] room r1 a 0 e1 (none_conform room) refl fa.behind fa.first fa.others in
    let two = more_conform room a r1 r2 b e1 e2 one (omega (arith, fa.behind)) fb.behind fb.first fb.others in
    let three = more_conform room (a ++ b) r2 r3 n e2 e3 two (omega (arith, fa.behind, fb.behind, length-append a b)) fn.behind fn.first fn.others in
    let four = more_conform room ((a ++ b) ++ n) r3 r4 z e3 e4 three (omega (arith, fa.behind, fb.behind, fn.behind, length-append a b, length-append (a ++ b) n)) fz.behind fz.first fz.others in
    let long : written ≡ length (((a ++ b) ++ n) ++ z) = omega (arith, is, length-append a b, length-append (a ++ b) n, length-append ((a ++ b) ++ n) z) in
    put_conform room (((a ++ b) ++ n) ++ z) r4 written (omega (arith, long, fits)) long four
