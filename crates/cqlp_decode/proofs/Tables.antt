-- A table is given or taken back.
use Rattle.std.proofs.Common.{◌≡◌, ◌<◌, ◌≤◌, Bool, true, false, cond, List, [], ◌∷◌, length, refl, sym, subst, ◌∙◌, inl, inr, arith}
use Rattle.std.specs.Prelude.{◌↔◌, ◌≢◌, IsTrue, Option, Some, None, not, is_some, nat_lt}
use Rattle.std.proofs.lemmas.Bool.{cases_Bool, and_from, and_parts, lt-ltb, le-ltb, ltb-true}
use Rattle.std.proofs.lemmas.List.Elements.{All-nil, All-cons, All-head, All-tail}
use Rattle.cqlp_note.specs.Limits.{Rules, rules_asked}
use Rattle.cqlp_kind.specs.declared.node.Node.{Node}
use Rattle.cqlp_kind.specs.Types.{types_of}
use Rattle.cqlp_type.specs.Table.{Table, AreWhole}
use Rattle.cqlp_type.specs.Forests.{depth_of}
use Rattle.cqlp_decode.specs.declared.given.GivenUse.{GivenUse}
use Rattle.cqlp_decode.specs.declared.page.Columns.{Columns}
use Rattle.cqlp_decode.specs.declared.page.Columns.TheVariants as columns
use Rattle.cqlp_decode.specs.declared.progress.StreamStage.{StreamStage}
use Rattle.cqlp_decode.specs.declared.progress.StreamStage.TheVariants as stage
use Rattle.cqlp_decode.specs.declared.progress.StreamProgress.{StreamProgress}
use Rattle.cqlp_decode.specs.Reading.{Given, Nothing, Gift, TakesBack, held_after, with_gift, is_in_use}
use Rattle.cqlp_decode.specs.Streams.{AfterGifts}
use Rattle.cqlp_decode.proofs.Gifts.{one_more}
use Rattle.cqlp_decode.specs.Pages.{given_of, page_nodes}
use Rattle.cqlp_decode.specs.Progress.{PartsState, StreamState, parts, state_of, symbols_at, place_at, offset_at, pending_at, nodes_of, UsesGiven, StageHolds, TableHolds, HoldsGiven, IsConsistent}
use Rattle.cqlp_decode.specs.declared.given.GiveReason.{GiveReason}
use Rattle.cqlp_decode.specs.declared.given.GiveReason.TheVariants.{Ended, Off, Busy, Open, TooMany, TooDeep}
use Rattle.cqlp_decode.specs.Giving.{are_whole, first_reason, reason_against, with_given, once_taken, after_taking, GivesAlso, TakesAlso}

-- ---- whole tables

are_whole_there : (nodes : List Node) → AreWhole nodes → are_whole nodes ≡ true
are_whole_there [] h = refl
are_whole_there (x ∷ xs) h =
    let some : x.span ≢ 0 = All-head (λ (y : Node). y.span ≢ 0) x xs h in
    let lt : 0 < x.span = omega (arith, λ (z : x.span ≡ 0). some z) in
    and_from (nat_lt 0 x.span) (are_whole xs) (lt-ltb 0 x.span lt) (are_whole_there xs (All-tail (λ (y : Node). y.span ≢ 0) x xs h))

whole_there : (nodes : List Node) → are_whole nodes ≡ true → AreWhole nodes
whole_there [] h = All-nil (λ (y : Node). y.span ≢ 0)
whole_there (x ∷ xs) h =
    let both = and_parts (nat_lt 0 x.span) (are_whole xs) h in
    let lt : 0 < x.span = ltb-true 0 x.span both.0 in
    All-cons (λ (y : Node). y.span ≢ 0) x xs (λ e. omega arith) (whole_there xs both.1)

pub same_whole : (b : Bool) (nodes : List Node) → (IsTrue b ↔ AreWhole nodes) → are_whole nodes ≡ b
same_whole true nodes h = are_whole_there nodes (h.0 refl)
same_whole false nodes h = elim (cases_Bool (are_whole nodes)) [
  | inl all ↦ absurd (let shut : ◌≡◌ {A = Bool} false true = h.1 (whole_there nodes all) in cc)
  | inr some ↦ some
]

-- ---- what is read while no table is in use

-- the page that is read is not typed by a given table
abbrev IsApart : StreamStage → Type 0
IsApart (stage.BeforeCell p) = p.columns ≡ columns.Given → ⊥
IsApart (stage.InCell p) = p.columns ≡ columns.Given → ⊥
IsApart t = Unit {0}

apart : (held : Given) (t : StreamStage) → is_in_use held ≡ false → UsesGiven held t → IsApart t
apart held stage.Header free u = tt
apart held (stage.Field w) free u = tt
apart held stage.BeforeType free u = tt
apart held stage.InType free u = tt
apart held (stage.BeforeCell p) free u = λ typed. let shut : ◌≡◌ {A = Bool} false true = sym free ∙ u typed in cc
apart held (stage.InCell p) free u = λ typed. let shut : ◌≡◌ {A = Bool} false true = sym free ∙ u typed in cc
apart held stage.Extra free u = tt

apart_nodes : (c : Columns) (nodes : List Node) (g h : Option Table) → (c ≡ columns.Given → ⊥) → page_nodes c nodes g ≡ page_nodes c nodes h
apart_nodes columns.Typed nodes g h other = refl
apart_nodes columns.Given nodes g h other = absurd (other refl)
apart_nodes (columns.Raw n) nodes g h other = refl

module _ (s : StreamProgress) (q : PartsState) (u : GivenUse) (g : Option Table) where
  -- the decoder with this table in place of what it held
  abbrev there : StreamProgress
  there = record s { given_use = u }

  abbrev beside : PartsState
  beside = parts q.partial q.types q.cells q.table g

  same_symbols : (t : StreamStage) → IsApart t → symbols_at t beside s.upcoming ≡ symbols_at t q s.upcoming
  same_symbols stage.Header a = refl
  same_symbols (stage.Field w) a = refl
  same_symbols stage.BeforeType a = refl
  same_symbols stage.InType a = refl
  same_symbols (stage.BeforeCell p) a = rw (apart_nodes p.columns q.table.nodes g q.given a) refl
  same_symbols (stage.InCell p) a = rw (apart_nodes p.columns q.table.nodes g q.given a) refl
  same_symbols stage.Extra a = refl

  same_offset : (t : StreamStage) → offset_at t s.offset beside ≡ offset_at t s.offset q
  same_offset stage.Header = refl
  same_offset (stage.Field w) = refl
  same_offset stage.BeforeType = refl
  same_offset stage.InType = refl
  same_offset (stage.BeforeCell p) = refl
  same_offset (stage.InCell p) = refl
  same_offset stage.Extra = refl

  same_pending : (t : StreamStage) → pending_at t s.header s.came beside ≡ pending_at t s.header s.came q
  same_pending stage.Header = refl
  same_pending (stage.Field w) = refl
  same_pending stage.BeforeType = refl
  same_pending stage.InType = refl
  same_pending (stage.BeforeCell p) = refl
  same_pending (stage.InCell p) = refl
  same_pending stage.Extra = refl

  stage_there : (t : StreamStage) → IsApart t → StageHolds s q t → StageHolds there beside t
  stage_there stage.Header a h = (h.0, record { field = h.1.field; types = h.1.types; cells = h.1.cells }, h.2)
  stage_there (stage.Field w) a h = (record { room = h.0.room; read = h.0.read; field = h.0.field; waits = h.0.waits; came = h.0.came }, h.1, h.2)
  stage_there stage.BeforeType a h = (record { field = h.0.field; types = h.0.types; cells = h.0.cells }, h.1)
  stage_there stage.InType a h = (record { under_way = h.0.under_way; some = h.0.some; shared = h.0.shared; stop = h.0.stop; after = h.0.after; inside = h.0.inside; came = h.0.came }, h.1, h.2)
  stage_there (stage.BeforeCell p) a h = (rw (apart_nodes p.columns q.table.nodes g q.given a) h.0, record { field = h.1.field; types = h.1.types; cells = h.1.cells }, h.2)
  stage_there (stage.InCell p) a h =
      let same : nodes_of beside p.columns ≡ nodes_of q p.columns = apart_nodes p.columns q.table.nodes g q.given a in (
        record { under_way = h.0.under_way; conforms = rw same h.0.conforms; joined = rw same h.0.joined; some = h.0.some; is = h.0.is; page = rw same h.0.page; stop = h.0.stop; after = h.0.after; came = h.0.came },
        h.1,
      )
  stage_there stage.Extra a h = (h.0, record { field = h.1.field; types = h.1.types; cells = h.1.cells })

  table_there : (l : Rules) (t : StreamStage) → TableHolds l q t → TableHolds l beside t
  table_there l stage.Header h = h
  table_there l (stage.Field w) h = h
  table_there l stage.BeforeType h = h
  table_there l stage.InType h = record { begun = h.begun; first = h.first; before = h.before; bytes = h.bytes; items = h.items; runs = h.runs }
  table_there l (stage.BeforeCell p) h = h
  table_there l (stage.InCell p) h = h
  table_there l stage.Extra h = h

  uses_there : (held : Given) (t : StreamStage) → IsApart t → UsesGiven held t
  uses_there held stage.Header a = tt
  uses_there held (stage.Field w) a = tt
  uses_there held stage.BeforeType a = tt
  uses_there held stage.InType a = tt
  uses_there held (stage.BeforeCell p) a = λ typed. absurd (a typed)
  uses_there held (stage.InCell p) a = λ typed. absurd (a typed)
  uses_there held stage.Extra a = tt

  module _ (law : IsConsistent s q) (free : is_in_use (given_of s.given_use q.given) ≡ false) where
    pub given_lawful : HoldsGiven s.limits g → IsConsistent there beside
    given_lawful holds =
        let a = apart (given_of s.given_use q.given) s.stage free law.uses in record {
          bounded = record { long = law.bounded.long; inside = law.bounded.inside; size = law.bounded.size; bound = law.bounded.bound };
          parts = record { room = law.parts.room; rules = law.parts.rules; cells = law.parts.cells; table = law.parts.table; few = law.parts.few };
          stage = stage_there s.stage a law.stage;
          quiet = record { types = law.quiet.types; cells = law.quiet.cells };
          table = λ none. table_there (rules_asked s.limits) s.stage (law.table none);
          given = holds;
          uses = uses_there (given_of u g) s.stage a;
        }

    pub given_state : state_of there beside ≡ with_given (state_of s q) g (given_of u g)
    given_state =
        let a = apart (given_of s.given_use q.given) s.stage free law.uses in
        λ i. record {
          rules = rules_asked s.limits;
          place = place_at (same_offset s.stage i) s.stop (same_symbols s.stage a i) q.table.nodes (given_of u g);
          pending = same_pending s.stage i;
          frame = s.frame;
          refusal = s.refusal;
          held = q.partial.content;
          open_values = length q.cells.open_values;
          given = g;
        }

-- ---- one more gift

pub gives_also : (x : Gift) (d new : StreamState) (table : Option Table) → new ≡ with_given d table (held_after x d.place.given) → GivesAlso x d new
gives_also x d new table is gifts s es a = subst (λ (z : StreamState). AfterGifts (with_gift (length es) x gifts) z s es) (sym is) (one_more x gifts d table s es d.refusal a)

-- where no table is held, nothing is
pub nothing_held : (s : StreamProgress) (q : PartsState) → q.given ≡ None → given_of s.given_use q.given ≡ Nothing
nothing_held s q is = rw is refl

pub taken_is : (d : StreamState) (o : Option Table) → o ≡ d.given → (d.given ≡ None → d.place.given ≡ Nothing) → once_taken d ≡ after_taking o d
taken_is d None is nothing = λ i. record d { given = is i; place = record d.place { given = sym (nothing (sym is)) i } }
taken_is d (Some t) is nothing = refl

pub takes_also : (o : Option Table) (d new : StreamState) → new ≡ after_taking o d → TakesAlso o d new
takes_also None d new is = λ gifts s es a. subst (λ (z : StreamState). AfterGifts gifts z s es) (sym is) a
takes_also (Some t) d new is = gives_also TakesBack d new None is

-- ---- reasons

module _ (d : StreamState) (nodes : List Node) (clear : is_some d.refusal ≡ false) (types : d.rules.types ≡ true) (free : is_in_use d.place.given ≡ false) where
  pub reason_open : are_whole nodes ≡ false → Some Open ≡ reason_against d nodes
  reason_open whole = rw (clear, types, free, whole) refl

  module _ (whole : are_whole nodes ≡ true) where
    pub reason_many : d.rules.entries < length nodes → Some TooMany ≡ reason_against d nodes
    reason_many many = rw (clear, types, free, whole, lt-ltb d.rules.entries (length nodes) many) refl

    module _ (few : length nodes ≤ d.rules.entries) where
      pub reason_deep : d.rules.depth < depth_of (types_of nodes) → Some TooDeep ≡ reason_against d nodes
      reason_deep deep = rw (clear, types, free, whole, le-ltb d.rules.entries (length nodes) few, lt-ltb d.rules.depth (depth_of (types_of nodes)) deep) refl

      pub reason_none : depth_of (types_of nodes) ≤ d.rules.depth → None ≡ reason_against d nodes
      reason_none shallow = rw (clear, types, free, whole, le-ltb d.rules.entries (length nodes) few, le-ltb d.rules.depth (depth_of (types_of nodes)) shallow) refl

no_cond : (b : Bool) (w : GiveReason) (rest : Option GiveReason) → cond b (Some w) rest ≡ None → (b ≡ false) × (rest ≡ None)
no_cond true w rest is = absurd cc
no_cond false w rest is = (refl, is)

-- where no reason is against a table, none is in use
pub free_without : (d : StreamState) (nodes : List Node) → reason_against d nodes ≡ None → is_in_use d.place.given ≡ false
free_without d nodes none =
    let other = (not (are_whole nodes), Open) ∷ (nat_lt d.rules.entries (length nodes), TooMany) ∷ (nat_lt d.rules.depth (depth_of (types_of nodes)), TooDeep) ∷ [] in
    let a = no_cond (is_some d.refusal) Ended (first_reason ((not d.rules.types, Off) ∷ (is_in_use d.place.given, Busy) ∷ other)) none in
    let b = no_cond (not d.rules.types) Off (first_reason ((is_in_use d.place.given, Busy) ∷ other)) a.1 in
    (no_cond (is_in_use d.place.given) Busy (first_reason other) b.1).0
