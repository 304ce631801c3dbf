-- What a word's needs and conflicts leave of what the parser is given.
use Rattle.std.proofs.Common.{suc, ◌||◌, ◌+◌, ◌<◌, drop, get_or, map, append-nil, append_assoc, ◌≡◌, ℕ, Bool, true, false, List, [], ◌∷◌, ◌++◌, ◌&&◌, ◌==◌, not, length, refl, sym, ap, ap₂, ◌∙◌, arith}
use Rattle.std.proofs.lemmas.Bool.{false≢true, ne_eqb}
use Rattle.std.proofs.lemmas.List.{at_drop_more}
use Rattle.std.specs.List.{flat_map}
use Rattle.std.specs.Borrow.{Bor}
use Rattle.clap.specs.Adds.{AddsConflicts, AddsRequirements}
use Rattle.clap.specs.Walk.{is_empty, is_free_arg, rule_of}
use Rattle.clap.specs.Simple.{on_top}
use Rattle.clap.specs.Words.{App, Rule, Text, with_rule, with_subcommand}
use Rattle.clap.specs.declared.builder.arg.Arg.{Arg}
use Rattle.clap.specs.declared.builder.arg.ArgPredicate.{ArgPredicate}
use Rattle.cqlp_options.specs.Tables.{rule_for, rule_in, shape_for, with_rules, with_tasks}
use Rattle.cqlp_options.specs.declared.program.Form.{Form}
use Rattle.cqlp_options.specs.declared.program.Form.TheVariants as form
use Rattle.cqlp_options.specs.declared.program.Task.{Task}
use Rattle.cqlp_options.specs.declared.program.Word.{Word}

empty_after : {X : Type 0} (ys xs : List X) → is_empty ys ≡ true → is_empty (ys ++ xs) ≡ is_empty xs
empty_after [] xs h = refl
empty_after (y ∷ ys) xs h = absurd (false≢true (sym (ne_eqb (suc (length ys)) 0 (λ e. omega (arith, e))) ∙ h))

first_of_four : (x c n r : Bool) → x && (c && (n && r)) ≡ true → x ≡ true
first_of_four true c n r h = refl
first_of_four false c n r h = h

second_of_four : (x c n r : Bool) → x && (c && (n && r)) ≡ true → c ≡ true
second_of_four true true n r h = refl
second_of_four true false n r h = h
second_of_four false c n r h = absurd (false≢true h)

third_of_four : (x c n r : Bool) → x && (c && (n && r)) ≡ true → n ≡ true
third_of_four true true true r h = refl
third_of_four true true false r h = h
third_of_four true false n r h = absurd (false≢true h)
third_of_four false c n r h = absurd (false≢true h)

last_of_four : (x c n r : Bool) → x && (c && (n && r)) ≡ true → r ≡ true
last_of_four true true true r h = h
last_of_four true true false r h = absurd (false≢true h)
last_of_four true false n r h = absurd (false≢true h)
last_of_four false c n r h = absurd (false≢true h)

middle : (x r c n : Bool) → x ≡ true → r ≡ true → x && (c && (n && r)) ≡ c && n
middle true true true true hx hr = refl
middle true true true false hx hr = refl
middle true true false n hx hr = refl
middle true false c n hx hr = absurd (false≢true hr)
middle false r c n hx hr = absurd (false≢true hx)

abbrev rest : Arg → Bool
rest a = is_empty a.r_ifs.items && (is_empty a.r_ifs_all.items && (is_empty a.r_unless.items && is_empty a.r_unless_all.items))

pub bound_free : (a m r : Arg) (needs : List (ArgPredicate × Bor (List ℕ))) (xs : List (Bor (List ℕ)))
    → AddsRequirements a m needs → AddsConflicts m r xs → is_free_arg a ≡ true
    → is_free_arg r ≡ (is_empty xs && is_empty needs)
bound_free a m r needs xs more conflicts free =
    let x = not a.exclusive in
    let c = is_empty a.conflicts.items in
    let n = is_empty a.needs.items in
    let no_conflicts : is_empty r.conflicts.items ≡ is_empty xs = ap is_empty (conflicts.1 ∙ ap (λ (k : Arg). k.conflicts.items ++ xs) more.0)
    ∙ empty_after a.conflicts.items xs (second_of_four x c n (rest a) free) in
    let no_needs : is_empty m.needs.items ≡ is_empty needs = ap is_empty more.1 ∙ empty_after a.needs.items needs (third_of_four x c n (rest a) free) in
    let as_m : is_free_arg r ≡ (not m.exclusive && (is_empty r.conflicts.items && (is_empty m.needs.items && rest m))) = ap is_free_arg conflicts.0 in
    let x_is : not m.exclusive ≡ true = ap (λ (k : Arg). not k.exclusive) more.0 ∙ first_of_four x c n (rest a) free in
    let rest_is : rest m ≡ true = ap rest more.0 ∙ last_of_four x c n (rest a) free in
    as_m ∙ middle (not m.exclusive) (rest m) (is_empty r.conflicts.items) (is_empty m.needs.items) x_is rest_is
    ∙ ap₂ (λ (s t : Bool). s && t) no_conflicts no_needs

length_mapped : {X Y : Type 0} (f : X → Y) (xs : List X) → length (map f xs) ≡ length xs
length_mapped f [] = refl
length_mapped f (x ∷ xs) = ap suc (length_mapped f xs)

-- and what the rule of the word is then
pub bound_rule : (a m r : Arg) (f : Bor (List ℕ) → ArgPredicate × Bor (List ℕ)) (names xs : List (Bor (List ℕ)))
    → AddsRequirements a m (map f names) → AddsConflicts m r xs → is_free_arg a ≡ true
    → rule_of r ≡ record (rule_of a) { is_free = is_empty xs && is_empty names }
bound_rule a m r f names xs more conflicts free =
    ap (λ (k : Arg). record (rule_of k) { is_free = is_free_arg r }) conflicts.0
    ∙ ap (λ (k : Arg). record (rule_of k) { is_free = is_free_arg r }) more.0
    ∙ ap (λ (b : Bool). record (rule_of a) { is_free = b })
    (bound_free a m r (map f names) xs more conflicts free ∙ ap (λ (n : ℕ). is_empty xs && (n == 0)) (length_mapped f names))

-- each form is free before its needs and conflicts are given
pub rule_in_free : (name : Text) (f : Form) → (rule_in name f).is_free ≡ true
rule_in_free name form.File = refl
rule_in_free name form.Files = refl
rule_in_free name (form.Count range) = refl
rule_in_free name form.Flag = refl
rule_in_free name (form.Text value) = refl
rule_in_free name (form.Number value range) = refl
rule_in_free name (form.Numbers range default) = refl
rule_in_free name form.Place = refl

-- ---- rules in turn

pub with_rules_more : (a : App) (rs ss : List Rule) → with_rules a (rs ++ ss) ≡ with_rules (with_rules a rs) ss
with_rules_more a [] ss = refl
with_rules_more a (r ∷ rs) ss = with_rules_more (with_rule a r) rs ss

pub with_rules_all : (a : App) (rs : List Rule) → with_rules a rs ≡ on_top (λ s. record s { rules = s.rules ++ rs }) a
with_rules_all a [] = ap (λ (rules : List Rule). on_top (λ s. record s { rules = rules }) a) (sym (append-nil a.top.rules))
with_rules_all a (r ∷ rs) =
    with_rules_all (with_rule a r) rs
    ∙ ap (λ (rules : List Rule). on_top (λ s. record s { rules = rules }) a) (append_assoc a.top.rules (r ∷ []) rs)

-- ---- a turn of a loop

pub word_added : (a next : App) (ws : List Word) (i : ℕ) (d : Word) (r : Rule) → i < length ws → next ≡ with_rule a r → r ≡ rule_for (get_or ws i d)
    → with_rules next (map rule_for (drop (i + 1) ws)) ≡ with_rules a (map rule_for (drop i ws))
word_added a next ws i d r lt is rule =
    ap (λ (b : App). with_rules b (map rule_for (drop (i + 1) ws))) (is ∙ ap (with_rule a) rule)
    ∙ sym (at_drop_more (λ rest. with_rules a (map rule_for rest)) ws i d lt)

pub words_added : (a next : App) (gs : List (Bor (List Word))) (i : ℕ) (d : Bor (List Word)) → i < length gs
    → next ≡ with_rules a (map rule_for (get_or gs i d).now)
    → with_rules next (flat_map (λ words. map rule_for words.now) (drop (i + 1) gs)) ≡ with_rules a (flat_map (λ words. map rule_for words.now) (drop i gs))
words_added a next gs i d lt is =
    let left : List Rule = flat_map (λ words. map rule_for words.now) (drop (i + 1) gs) in
    ap (λ (b : App). with_rules b left) is
    ∙ sym (with_rules_more a (map rule_for (get_or gs i d).now) left)
    ∙ sym (at_drop_more (λ rest. with_rules a (flat_map (λ words. map rule_for words.now) rest)) gs i d lt)

pub task_added : (a next : App) (ts : List Task) (i : ℕ) (d : Task) → i < length ts → next ≡ with_subcommand a (shape_for (get_or ts i d))
    → with_tasks next (drop (i + 1) ts) ≡ with_tasks a (drop i ts)
task_added a next ts i d lt is =
    ap (λ (b : App). with_tasks b (drop (i + 1) ts)) is ∙ sym (at_drop_more (with_tasks a) ts i d lt)

pub or_false : (b : Bool) → (b || false) ≡ b
or_false true = refl
or_false false = refl
