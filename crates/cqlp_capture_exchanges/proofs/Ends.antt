-- Addresses, in parts.
use Rattle.std.proofs.Common.{◌≡◌, ◌∙◌, ℕ, ◌+◌, ◌-◌, ◌<◌, ◌≤◌, Bool, true, false, cond, List, [], ◌∷◌, ◌++◌, map, codes, decimal, length, take, drop, slice_index, get_or, add-one, bytes_eq, refl, sym, ap, append_assoc, append-nil, arith, lt-ltb, le-ltb}
use Rattle.std.proofs.Math.Seq.{drop-cons}
use Rattle.std.proofs.lemmas.Grind.{common_steps}
use Rattle.std.proofs.lemmas.Slice.Eq.{bytes_eq-Decides}
use Rattle.std.specs.List.{flat_map, join_with_byte}
use Rattle.std.specs.Net.Addr.{octets_of}
use Rattle.std.specs.Net.Text.{compressed_text, groups_text, hex, hex_groups_text, ipv4_text, ipv6_text, longest_zero_run}

-- ---- four decimal numbers

pub ipv4_joined : (o : List ℕ) → length o ≡ 4 → join_with_byte 46 (map decimal o) ≡ ipv4_text o
ipv4_joined [] four = absurd (omega (arith, four))
ipv4_joined (a ∷ []) four = absurd (omega (arith, four))
ipv4_joined (a ∷ b ∷ []) four = absurd (omega (arith, four))
ipv4_joined (a ∷ b ∷ c ∷ []) four = absurd (omega (arith, four))
ipv4_joined (a ∷ b ∷ c ∷ d ∷ []) four = simp append_assoc
ipv4_joined (a ∷ b ∷ c ∷ d ∷ e ∷ o) four = absurd (omega (arith, four))

-- ---- an address that stands for one of IPv4, and any other

abbrev mapped : List ℕ → List ℕ
mapped s = codes "::ffff:" ++ ipv4_text (octets_of (drop 6 s))

pub mapped_text : (s o : List ℕ) → take 6 s ≡ 0 ∷ 0 ∷ 0 ∷ 0 ∷ 0 ∷ 0xffff ∷ [] → o ≡ octets_of (drop 6 s) → codes "::ffff:" ++ ipv4_text o ≡ ipv6_text s
unfolding ipv6_text
mapped_text s o is e =
    let yes : bytes_eq (take 6 s) (0 ∷ 0 ∷ 0 ∷ 0 ∷ 0 ∷ 0xffff ∷ []) ≡ true = (bytes_eq-Decides _ _).1 is in
    ap (λ z. codes "::ffff:" ++ ipv4_text z) e ∙ sym (ap (λ (b : Bool). cond b (mapped s) (hex_groups_text s)) yes)

pub other_text : (s : List ℕ) → bytes_eq (take 6 s) (0 ∷ 0 ∷ 0 ∷ 0 ∷ 0 ∷ 0xffff ∷ []) ≡ false → hex_groups_text s ≡ ipv6_text s
unfolding ipv6_text
other_text s other = sym (ap (λ (b : Bool). cond b (mapped s) (hex_groups_text s)) other)

-- ---- segments around the longest run of zeros, or all of them

all_after : (xs : List ℕ) (n : ℕ) → take (length xs - n) (drop n xs) ≡ drop n xs
all_after xs n = grind (arith, common_steps)

parts : (a b c : List ℕ) → a ++ b ++ c ≡ a ++ (b ++ (c ++ []))
parts a b c = append_assoc a b c ∙ ap (λ z. a ++ (b ++ z)) (sym (append-nil c))

pub compressed : (s : List ℕ) (p : ℕ × ℕ) → p ≡ longest_zero_run s → 1 < p.1
    → hex_groups_text s ≡ groups_text (take p.0 s) ++ (codes "::" ++ (groups_text (take (length s - (p.0 + p.1)) (drop (p.0 + p.1) s)) ++ []))
unfolding hex_groups_text
compressed s p is more =
    ap (compressed_text s) (sym is)
    ∙ ap (λ (b : Bool). cond b (groups_text (take p.0 s) ++ codes "::" ++ groups_text (drop (p.0 + p.1) s)) (groups_text s)) (lt-ltb 1 p.1 more)
    ∙ parts (groups_text (take p.0 s)) (codes "::") (groups_text (drop (p.0 + p.1) s))
    ∙ ap (λ z. groups_text (take p.0 s) ++ (codes "::" ++ (groups_text z ++ []))) (sym (all_after s (p.0 + p.1)))

pub plain : (s : List ℕ) (p : ℕ × ℕ) → p ≡ longest_zero_run s → p.1 ≤ 1 → hex_groups_text s ≡ groups_text s ++ []
unfolding hex_groups_text
plain s p is few =
    ap (compressed_text s) (sym is)
    ∙ ap (λ (b : Bool). cond b (groups_text (take p.0 s) ++ codes "::" ++ groups_text (drop (p.0 + p.1) s)) (groups_text s)) (le-ltb 1 p.1 few)
    ∙ sym (append-nil (groups_text s))

-- ---- segments one after the other

abbrev after_colon : ℕ → List ℕ
after_colon t = codes ":" ++ hex t

all_behind : (x : ℕ) (xs : List ℕ) → take (length (x ∷ xs) - 1) xs ≡ xs
all_behind x xs = grind (arith, common_steps)

pub first_group : (s : List ℕ) → 1 ≤ length s → groups_text s ≡ hex (slice_index s 0) ++ flat_map (λ t. codes ":" ++ hex t) (take (length s - 1) (drop 1 s))
first_group [] some = absurd (omega (arith, some))
first_group (x ∷ s) some = ap (λ z. hex x ++ flat_map (λ t. codes ":" ++ hex t) z) (sym (all_behind x s))

-- the next one, and those after it
pub group_at : (s : List ℕ) (i none : ℕ) → i < length s → flat_map (λ t. codes ":" ++ hex t) (drop i s) ≡ codes ":" ++ (hex (get_or s i none) ++ flat_map (λ t. codes ":" ++ hex t) (drop (i + 1) s))
group_at s i none within = rw (drop-cons s i none within, add-one) refl
