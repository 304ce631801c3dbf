use Rattle.std.proofs.Common.{◌≡◌, ◌<◌, ◌≤◌, length, sym, ◌∙◌, true, false}
use Rattle.std.specs.Prelude.{is_some}
use Rattle.cqlp_kind.specs.Types.{types_of, IsPreorder}
use Rattle.cqlp_type.specs.Forests.{depth_of}
use Rattle.cqlp_type.proofs.WholeTables.{whole_nodes, found_forest}
use Rattle.cqlp_decode.specs.Reading.{is_in_use}
use Rattle.cqlp_decode.specs.Streams.{state}
use Rattle.cqlp_decode.proofs.Tables.{same_whole, reason_open, reason_many, reason_deep, reason_none}
use Rattle.cqlp_decode.proofs.decoder.Decoder.reason.Goals as goal

pub returns-then-not-whole-clause-is : goal.returns-then-not-whole-clause-is
returns-then-not-whole-clause-is g c =
    let d = state c.args.self.now in
    let nodes = c.args.table.now.nodes in
    let clear : is_some d.refusal ≡ false = rw (← c.self.view_is) (sym c.is_some.ensures ∙ c.if-is_some.false) in
    let types : d.rules.types ≡ true = rw (← c.self.view_is) c.if-not-self.false in
    let free : is_in_use d.place.given ≡ false = sym c.is_in_use.ensures ∙ c.if-is_in_use.false in
    reason_open d nodes clear types free (same_whole c.whole.result nodes c.whole.ensures.is ∙ c.if-not-whole.true)

pub returns-then-len-self-clause-is : goal.returns-then-len-self-clause-is
returns-then-len-self-clause-is g c =
    let d = state c.args.self.now in
    let nodes = c.args.table.now.nodes in
    let clear : is_some d.refusal ≡ false = rw (← c.self.view_is) (sym c.is_some.ensures ∙ c.if-is_some.false) in
    let types : d.rules.types ≡ true = rw (← c.self.view_is) c.if-not-self.false in
    let free : is_in_use d.place.given ≡ false = sym c.is_in_use.ensures ∙ c.if-is_in_use.false in
    let all = same_whole c.whole.result nodes c.whole.ensures.is ∙ c.if-not-whole.false in
    let many : d.rules.entries < length nodes = rw (← c.self.view_is) (rw c.len.ensures.is at c.if-len-self.true) in
    reason_many d nodes clear types free all many

pub returns-then-depth-self-clause-is : goal.returns-then-depth-self-clause-is
returns-then-depth-self-clause-is g c =
    let d = state c.args.self.now in
    let nodes = c.args.table.now.nodes in
    let clear : is_some d.refusal ≡ false = rw (← c.self.view_is) (sym c.is_some.ensures ∙ c.if-is_some.false) in
    let types : d.rules.types ≡ true = rw (← c.self.view_is) c.if-not-self.false in
    let free : is_in_use d.place.given ≡ false = sym c.is_in_use.ensures ∙ c.if-is_in_use.false in
    let all = same_whole c.whole.result nodes c.whole.ensures.is ∙ c.if-not-whole.false in
    let few : length nodes ≤ d.rules.entries = rw (← c.self.view_is) (rw c.len.ensures.is at c.if-len-self.false) in
    let whole : IsPreorder nodes = c.whole.ensures.types c.if-not-whole.false in
    let depth : c.depth.result ≡ depth_of (types_of nodes) = c.depth.ensures.whole (types_of nodes) (sym (whole_nodes nodes whole)) in
    let deep : d.rules.depth < depth_of (types_of nodes) = rw (← c.self.view_is) (rw depth at c.if-depth-self.true) in
    reason_deep d nodes clear types free all few deep

pub returns-else-depth-self-clause-is : goal.returns-else-depth-self-clause-is
returns-else-depth-self-clause-is g c =
    let d = state c.args.self.now in
    let nodes = c.args.table.now.nodes in
    let clear : is_some d.refusal ≡ false = rw (← c.self.view_is) (sym c.is_some.ensures ∙ c.if-is_some.false) in
    let types : d.rules.types ≡ true = rw (← c.self.view_is) c.if-not-self.false in
    let free : is_in_use d.place.given ≡ false = sym c.is_in_use.ensures ∙ c.if-is_in_use.false in
    let all = same_whole c.whole.result nodes c.whole.ensures.is ∙ c.if-not-whole.false in
    let few : length nodes ≤ d.rules.entries = rw (← c.self.view_is) (rw c.len.ensures.is at c.if-len-self.false) in
    let whole : IsPreorder nodes = c.whole.ensures.types c.if-not-whole.false in
    let depth : c.depth.result ≡ depth_of (types_of nodes) = c.depth.ensures.whole (types_of nodes) (sym (whole_nodes nodes whole)) in
    let shallow : depth_of (types_of nodes) ≤ d.rules.depth = rw (← c.self.view_is) (rw depth at c.if-depth-self.false) in
    reason_none d nodes clear types free all few shallow

pub returns-else-depth-self-clause-fits : goal.returns-else-depth-self-clause-fits
returns-else-depth-self-clause-fits g c =
    let nodes = c.args.table.now.nodes in
    let limits = c.self.inside.progress.limits in
    let shallow : c.depth.result ≤ limits.depth = c.if-depth-self.false in
    let few : length nodes ≤ limits.entries = rw c.len.ensures.is at c.if-len-self.false in
    λ _. rw (← c.self.view_is) (found_forest nodes c.depth.result limits.depth (c.whole.ensures.types c.if-not-whole.false) c.depth.ensures.is shallow, few)
