use Rattle.std.proofs.Common.{◌≡◌, ℕ, ◌+◌, ◌<◌, List, [], ◌++◌, length, get_or, drop, sym, ap, ◌∙◌, arith, append_assoc, append-nil, string_bytes}
use Rattle.std.specs.List.{flat_map}
use Rattle.std.specs.Str.{chars}
use Rattle.std.proofs.lemmas.Iterator.{YieldsList-from_chars}
use Rattle.std.proofs.lemmas.Iterator.Consumers.{YieldsList-turn, YieldsList-end}
use Rattle.std.proofs.lemmas.List.{at_drop_more, at_drop_all, length_push}
use Rattle.cqlp_options.specs.Reported.{reported_char}
use Rattle.cqlp_options.proofs.reported.report.Goals as goal

-- the next character is appended
appended : (before after cs word : List ℕ) (n k c : ℕ) → before ++ flat_map reported_char (drop n cs) ≡ word → after ≡ before ++ reported_char c → (n < length cs) × (c ≡ get_or cs n c) → k ≡ n + 1 → after ++ flat_map reported_char (drop k cs) ≡ word
appended before after cs word n k c so_far pushed next count =
    let more : flat_map reported_char (drop n cs) ≡ reported_char c ++ flat_map reported_char (drop (n + 1) cs) =
    at_drop_more (flat_map reported_char) cs n c next.0 ∙ ap (λ x. reported_char x ++ flat_map reported_char (drop (n + 1) cs)) (sym next.1) in
    ap (λ t. t ++ flat_map reported_char (drop k cs)) pushed
    ∙ append_assoc before (reported_char c) (flat_map reported_char (drop k cs))
    ∙ ap (λ j. before ++ (reported_char c ++ flat_map reported_char (drop j cs))) count
    ∙ ap (λ t. before ++ t) (sym more) ∙ so_far

pub loop-c-preserved : goal.loop-c-preserved
loop-c-preserved c =
    let next = YieldsList-turn (YieldsList-from_chars c.args.word.now c.utf8.word cc) c.loop-c.yielded _ c.loop-c.yielded_by _ _ c.in-Some.c c.in-Some.is c.next.ensures.steps in
    appended _ _ (chars c.args.word.now) _ (length c.loop-c.yielded) _ c.in-Some.c c.loop-c.invariant c.in_ok-push_reported.ensures next (length_push c.loop-c.yielded c.in-Some.c)

pub returns : goal.returns
returns c =
    let last = YieldsList-end (YieldsList-from_chars c.args.word.now c.utf8.word cc) c.loop-c.yielded _ c.loop-c.yielded_by _ _ c.in-None.is c.next.ensures.steps in
    let none : flat_map reported_char (drop (length c.loop-c.yielded) (chars c.args.word.now)) ≡ [] = at_drop_all (flat_map reported_char) (chars c.args.word.now) (length c.loop-c.yielded) (omega (arith, last.1)) in
    sym (append-nil (string_bytes c.loop-c.text)) ∙ ap (λ t. string_bytes c.loop-c.text ++ t) (sym none) ∙ c.loop-c.invariant
