-- One level more, and one less.
use Rattle.std.proofs.Common.{◌≡◌, ℕ, suc, ◌+◌, ◌-◌, ◌<◌, List, [], ◌∷◌, ◌++◌, length, refl, sym, ap, ◌∙◌, append_assoc, arith}
use Rattle.std.proofs.lemmas.List.{append-nil, length-append}
use Rattle.cqlp_type.specs.declared.open_options.OpenOption.{OpenOption}
use Rattle.cqlp_kind.specs.TypeStep.{TypeSymbol, Whole, symbol_copies, inner_symbols}
use Rattle.cqlp_type.specs.OpenOptions.{open_symbols, all_open_symbols}

last_level : (depth : ℕ) (vs : List OpenOption) (v : OpenOption) → all_open_symbols depth (vs ++ v ∷ []) ≡ open_symbols (depth + length vs) v ++ all_open_symbols depth vs
last_level depth [] v = let e : depth + 0 ≡ depth = omega arith in rw e (sym (append-nil (open_symbols depth v)))
last_level depth (u ∷ vs) v =
    let e : (depth + 1) + length vs ≡ depth + suc (length vs) = omega arith in
    rw (last_level (depth + 1) vs v, e) (append_assoc (open_symbols (depth + suc (length vs)) v) (all_open_symbols (depth + 1) vs) (open_symbols depth u))

-- the last level is the innermost
pub pushed : (vs : List OpenOption) (v : OpenOption) → all_open_symbols 1 (vs ++ v ∷ []) ≡ symbol_copies v.left (inner_symbols v.named (length vs + 1 + 1)) ++ Whole v.node ∷ all_open_symbols 1 vs
pushed vs v =
    let e : (1 + length vs) + 1 ≡ length vs + 1 + 1 = omega arith in
    last_level 1 vs v ∙ rw e (append_assoc (symbol_copies v.left (inner_symbols v.named (length vs + 1 + 1))) (Whole v.node ∷ []) (all_open_symbols 1 vs))

pub last_whole : (vs : List OpenOption) (v : OpenOption) → v.left ≡ 0 → all_open_symbols 1 (vs ++ v ∷ []) ≡ Whole v.node ∷ all_open_symbols 1 vs
last_whole vs v none = pushed vs v ∙ rw none refl

copies_more : (n m : ℕ) (symbols rest : List TypeSymbol) → m ≡ suc n → symbol_copies m symbols ++ rest ≡ symbols ++ (symbol_copies n symbols ++ rest)
copies_more n m symbols rest e = rw e (append_assoc symbols (symbol_copies n symbols) rest)

pub last_inner : (vs : List OpenOption) (v : OpenOption) → 0 < v.left → all_open_symbols 1 (vs ++ v ∷ []) ≡ inner_symbols v.named (length (vs ++ v ∷ []) + 1) ++ all_open_symbols 1 (vs ++ record v { left = v.left - 1 } ∷ [])
last_inner vs v some =
    let next : OpenOption = record v { left = v.left - 1 } in
    let inner = inner_symbols v.named (length vs + 1 + 1) in
    let size : length (vs ++ v ∷ []) ≡ length vs + 1 = length-append vs (v ∷ []) in
    rw size (pushed vs v ∙ copies_more (v.left - 1) v.left inner (Whole v.node ∷ all_open_symbols 1 vs) (omega arith) ∙ ap (λ (x : List TypeSymbol). inner ++ x) (sym (pushed vs next)))
