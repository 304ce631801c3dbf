-- What callers ask for: wider limits only let a stream go on.
use Rattle.std.proofs.Common.{◌≡◌, ℕ, Bool, false, List, sym, ◌∙◌, subst, inl, inr}
use Rattle.cqlp_note.specs.declared.limits.Limits.{Limits}
use Rattle.cqlp_note.specs.Limits.{Rules, rules_of, with_lenient}
use Rattle.cqlp_decode.specs.Reading.{Event, Gifts, Verdict, Says, start_with}
use Rattle.cqlp_laws.specs.Excess.{with_limits}
use Rattle.cqlp_laws.specs.Limits.{AreNoWider, AskedLimitsOnlyCut, HaveSameParts}
use Rattle.cqlp_laws.proofs.NoParts.{says_alike, strict}
use Rattle.cqlp_laws.proofs.WiderLimits.{only_cut}

module _ (a b : Limits) (lenient : Bool) (wide : AreNoWider a b) (gifts : Gifts) (bytes : List ℕ) where
  abbrev narrow : Rules
  narrow = with_lenient lenient (rules_of a)

  -- what is said with the wider limits, where parts have the size that they have within the others
  abbrev SaidWide : List (ℕ × Event) → Verdict → Type 0
  SaidWide fs w = Says (with_limits narrow b.text b.cell b.entries b.depth) (start_with gifts) bytes fs w

  said_wide : (fs : List (ℕ × Event)) (w : Verdict) → HaveSameParts lenient a b → Says (with_lenient lenient (rules_of b)) (start_with gifts) bytes fs w → SaidWide fs w
  said_wide fs w (inr cell) y =
      let same : with_lenient lenient (rules_of b) ≡ with_limits narrow b.text b.cell b.entries b.depth =
      λ i. record { text = b.text; cell = b.cell; entries = b.entries; depth = b.depth; part = cell i; types = wide.types i; parts = wide.parts i; lenient = lenient } in
      subst (λ (l : Rules). Says l (start_with gifts) bytes fs w) same y
  said_wide fs w (inl off) y =
      let parts : b.parts ≡ false = wide.parts ∙ off.0 in
      let here : with_lenient lenient (rules_of b) ≡ strict b.text b.cell b.entries b.depth a.types b.cell =
      λ i. record { text = b.text; cell = b.cell; entries = b.entries; depth = b.depth; part = b.cell; types = wide.types i; parts = parts i; lenient = off.1 i } in
      let there : with_limits narrow b.text b.cell b.entries b.depth ≡ strict b.text b.cell b.entries b.depth a.types a.cell =
      λ i. record { text = b.text; cell = b.cell; entries = b.entries; depth = b.depth; part = a.cell; types = a.types; parts = off.0 i; lenient = off.1 i } in
      subst (λ (l : Rules). Says l (start_with gifts) bytes fs w) (sym there)
      (says_alike b.text b.cell b.entries b.depth a.types b.cell a.cell gifts bytes fs w
      (subst (λ (l : Rules). Says l (start_with gifts) bytes fs w) here y))

pub asked_only_cut : AskedLimitsOnlyCut
asked_only_cut a b lenient wide same gifts bytes es fs v w x y =
    only_cut (with_lenient lenient (rules_of a)) b.text b.cell b.entries b.depth wide.text wide.cell wide.entries wide.depth gifts bytes es fs v w x
    (said_wide a b lenient wide gifts bytes fs w same y)
