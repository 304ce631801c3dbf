-- The bytes of the input where a content lies are the content.
use Rattle.std.proofs.Common.{◌≡◌, ℕ, ◌+◌, ◌-◌, ◌≤◌, List, ◌++◌, length, take, drop, refl, sym, ap, ◌∙◌, arith}
use Rattle.std.proofs.lemmas.List.{drop_at, drop-append-le, drop-take, length-append, length-drop, length-take-le}
use Rattle.cqlp_laws.proofs.Heads.{ends_what_is_read}
use Rattle.cqlp_c.specs.Laws.{ContentsLieThere}
use Rattle.cqlp_c.proofs.Spans.{content_spanned}

-- the last of the bytes from here on, where others came before
ends_there : (s taken before content : List ℕ) → s ++ taken ≡ before ++ content → length content ≤ length taken → drop (length taken - length content) taken ≡ content
ends_there s taken before content is le =
    let long : length s + length taken ≡ length before + length content = omega (arith, ap length is, length-append s taken, length-append before content) in
    let own : taken ≡ drop (length s) before ++ content = sym (drop_at s taken (length s) refl) ∙ ap (drop (length s)) is ∙ drop-append-le (length s) before content (omega (arith, long, le)) in
    let front : length (drop (length s) before) ≡ length taken - length content = omega (arith, length-drop (length s) before, long) in
    ap (drop (length taken - length content)) own ∙ drop_at (drop (length s) before) content (length taken - length content) front

pub lie_there : ContentsLieThere
lie_there l gifts s input es p content read within lies is =
    let short : length content ≤ p.end = omega (arith, content_spanned p.event content is, lies) in
    let last = ends_what_is_read l gifts (s ++ take p.end input) es p.at p.event read.0 content read.1 is in
    let long = length-take-le p.end input within in
    let there = ends_there s (take p.end input) last.0 content last.1 (omega (arith, long, short)) in
    let at = p.end - length content in
    let all : at + length content ≡ p.end = omega (arith, short) in (
      short,
      sym (drop-take at (length content) input) ∙ ap (λ (n : ℕ). drop at (take n input)) all ∙ ap (λ (n : ℕ). drop (n - length content) (take p.end input)) (sym long) ∙ there,
    )
