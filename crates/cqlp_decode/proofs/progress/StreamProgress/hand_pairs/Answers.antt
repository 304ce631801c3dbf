use Rattle.std.proofs.Common.{◌≡◌, refl, ◌∙◌, arith}
use Rattle.std.specs.Prelude.{Some}
use Rattle.cqlp_decode.specs.Progress.{nodes_of, parts_state}
use Rattle.cqlp_decode.specs.Sinks.{Gets, Fails}
use Rattle.cqlp_decode.proofs.Gets.{rest_is}
use Rattle.cqlp_decode.proofs.ItemLoop.{level_fits}
use Rattle.cqlp_decode.proofs.Pairs.{key_gone, key_more, value_gone, value_more}
use Rattle.cqlp_decode.proofs.Rests.{LiesBefore, before_first, due_of_kind, next_fails, next_conforms, rest_place, stops}
use Rattle.cqlp_decode.proofs.progress.StreamProgress.hand_pairs.Goals as goal
use Rattle.cqlp_decode.proofs.progress.StreamProgress.hand_pairs.Goals.{then-not-has_key-2, else-not-has_key-2+in-Left}
use Rattle.cqlp_decode.proofs.progress.StreamProgress.hand_pairs.Goals.{else-not-has_key-2+in-Taken+in-Left-hand_value}

pub due_in_pair-requires : goal.due_in_pair-requires
due_in_pair-requires g c =
    let l = c.args.level.now in
    let more = key_more l (c.has_key.ensures.0 c.if-not-has_key.false) in
    let fits = level_fits c.args.self.now (parts_state c.args.parts.now) c.args.page c.requires.ready.here l c.requires.ready.inside c.requires.ready.lawful more in
    fits.inside

pub pairs-init : goal.pairs-init
pairs-init g c =
    let s = c.args.self.now in
    let q = parts_state c.args.parts.now in
    let l = c.args.level.now in
    let more = key_more l (c.has_key.ensures.0 c.if-not-has_key.false) in
    let fits = level_fits c.args.self.now (parts_state c.args.parts.now) c.args.page c.requires.ready.here l c.requires.ready.inside c.requires.ready.lawful more in
    let t = c.due_in_pair.result in
    let found : Some t ≡ Some (due_of_kind l c.args.kinds.key) = c.due_in_pair.ensures in
    let is : t ≡ due_of_kind l c.args.kinds.key = cc in
    let front = rw is at c.front_of-within.ensures.is in
    let few = rw is at c.front_of-within.ensures.bound in
    record {
      pair = c.requires.pair;
      conforms = before_first (Gets g.S.Sink) s q l c.args.input.now c.args.sink.now _ front few fits.inside c.requires.ready;
    }

pub returns-in-Fault : goal.returns-in-Fault
returns-in-Fault g c =
    let nodes = nodes_of (parts_state c.args.parts.now) c.args.page.columns in
    let i = c.pairs.invariant in
    let l = c.pairs.here in
    let more = key_more l (c.has_key-in-pairs.ensures.0 c.if-not-has_key-2.false) in
    let one = c.in-Fault.ensures.handed.hands in
    let goes = c.in-Fault.ensures.handed.passes nodes in
    let stop = c.stop_at-in-Fault.ensures.level ∙ goes in
    let left = rest_is c.in-Fault.taken c.pairs.rest.now in
    record {
      handed =
          rw c.stop_at-in-Fault.ensures.handed
          (next_fails c.requires.ready i.conforms i.pair.of_key more one stop left (Fails g.S.Sink) one.holds);
    }

pub hand_value-requires-clause-value : goal.hand_value-requires-clause-value
hand_value-requires-clause-value g c =
    let nodes = nodes_of (parts_state c.args.parts.now) c.args.page.columns in
    let i = c.pairs.invariant in
    let l = c.pairs.here in
    let goes = c.in-Taken.ensures.handed.passes nodes in
    let m = c.hand_key.new.here in
    let half = key_gone nodes l m c.in-Taken.taken c.args.kinds.key c.args.kinds.value goes i.pair in
    half.at_value

pub hand_value-requires-clause-inside : goal.hand_value-requires-clause-inside
hand_value-requires-clause-inside g c =
    let nodes = nodes_of (parts_state c.args.parts.now) c.args.page.columns in
    let i = c.pairs.invariant in
    let l = c.pairs.here in
    let more = key_more l (c.has_key-in-pairs.ensures.0 c.if-not-has_key-2.false) in
    let one = c.in-Taken.ensures.handed.hands in
    let goes = c.in-Taken.ensures.handed.passes nodes in
    let left = rest_is c.in-Taken.taken c.pairs.rest.now in
    let conforms = next_conforms c.requires.ready i.conforms i.pair.of_key more one goes left one.holds in
    omega (arith, conforms.fits)

pub hand_key-requires-clause-place : goal.hand_key-requires-clause-place
hand_key-requires-clause-place g c =
    let nodes = nodes_of (parts_state c.args.parts.now) c.args.page.columns in
    let i = c.pairs.invariant in
    let l = c.pairs.here in
    let more = key_more l (c.has_key-in-pairs.ensures.0 c.if-not-has_key-2.false) in
    rest_place c.args.self.now (parts_state c.args.parts.now) c.args.page c.requires.ready.here l i.conforms.conforms.inside i.conforms.conforms.lawful more
    c.pairs.rest.now i.conforms.fits

pub hand_value-requires-clause-place : goal.hand_value-requires-clause-place
hand_value-requires-clause-place g c =
    let nodes = nodes_of (parts_state c.args.parts.now) c.args.page.columns in
    let i = c.pairs.invariant in
    let l = c.pairs.here in
    let more = key_more l (c.has_key-in-pairs.ensures.0 c.if-not-has_key-2.false) in
    let one = c.in-Taken.ensures.handed.hands in
    let goes = c.in-Taken.ensures.handed.passes nodes in
    let left = rest_is c.in-Taken.taken c.pairs.rest.now in
    let m = c.hand_key.new.here in
    let half = key_gone nodes l m c.in-Taken.taken c.args.kinds.key c.args.kinds.value goes i.pair in
    let conforms = next_conforms c.requires.ready i.conforms i.pair.of_key more one goes left one.holds in
    rest_place c.args.self.now (parts_state c.args.parts.now) c.args.page c.requires.ready.here m conforms.conforms.inside conforms.conforms.lawful
    (value_more m half.at_value) _ conforms.fits

pub pairs-preserved : goal.pairs-preserved
pairs-preserved g c =
    let nodes = nodes_of (parts_state c.args.parts.now) c.args.page.columns in
    let i = c.pairs.invariant in
    let l = c.pairs.here in
    let more = key_more l (c.has_key-in-pairs.ensures.0 c.if-not-has_key-2.false) in
    let one = c.in-Taken.ensures.handed.hands in
    let goes = c.in-Taken.ensures.handed.passes nodes in
    let left = rest_is c.in-Taken.taken c.pairs.rest.now in
    let m = c.hand_key.new.here in
    let half = key_gone nodes l m c.in-Taken.taken c.args.kinds.key c.args.kinds.value goes i.pair in
    let conforms = next_conforms c.requires.ready i.conforms i.pair.of_key more one goes left one.holds in
    let other = c.in-Taken-hand_value.ensures.handed.hands in
    let gone = c.in-Taken-hand_value.ensures.handed.passes nodes in
    let behind = rest_is c.in-Taken-hand_value.taken _ in
    record {
      pair = value_gone nodes m c.hand_value.new.here c.in-Taken-hand_value.taken c.args.kinds.key c.args.kinds.value gone half;
      conforms =
          next_conforms c.requires.ready conforms half.of_value (value_more m half.at_value) other
          gone behind other.holds;
    }

pub returns-in-Fault-hand_value : goal.returns-in-Fault-hand_value
returns-in-Fault-hand_value g c =
    let nodes = nodes_of (parts_state c.args.parts.now) c.args.page.columns in
    let i = c.pairs.invariant in
    let l = c.pairs.here in
    let more = key_more l (c.has_key-in-pairs.ensures.0 c.if-not-has_key-2.false) in
    let one = c.in-Taken.ensures.handed.hands in
    let goes = c.in-Taken.ensures.handed.passes nodes in
    let left = rest_is c.in-Taken.taken c.pairs.rest.now in
    let m = c.hand_key.new.here in
    let half = key_gone nodes l m c.in-Taken.taken c.args.kinds.key c.args.kinds.value goes i.pair in
    let conforms = next_conforms c.requires.ready i.conforms i.pair.of_key more one goes left one.holds in
    let other = c.in-Fault-hand_value.ensures.handed.hands in
    let gone = c.in-Fault-hand_value.ensures.handed.passes nodes in
    let stop = c.stop_at-in-Fault-hand_value.ensures.level ∙ gone in
    let behind = rest_is c.in-Fault-hand_value.taken _ in
    record {
      handed =
          rw c.stop_at-in-Fault-hand_value.ensures.handed
          (next_fails c.requires.ready conforms half.of_value (value_more m half.at_value) other stop behind (Fails g.S.Sink) other.holds);
    }

pub returns : goal.returns
returns g c =
    let nodes = nodes_of (parts_state c.args.parts.now) c.args.page.columns in
    let i = c.pairs.invariant in
    let end = c.if-not-has_key-2 in
    let conforms : LiesBefore (Gets g.S.Sink) c.args.self.now (parts_state c.args.parts.now) c.args.level.now c.args.input.now
    c.args.sink.now end.rest.now c.front_of-within.result.now end.here end.sink =
    elim c.if-not-has_key-2.branch [
      | then-not-has_key-2 w ↦ rw (w.rest-is, w.here-is, w.sink-is) i.conforms
      | else-not-has_key-2+in-Left w ↦
          rw (w.rest-is, w.here-is, w.sink-is, w.in-Left.ensures.handed.passes nodes, w.in-Left.ensures.handed.left refl) i.conforms
      | else-not-has_key-2+in-Taken+in-Left-hand_value w ↦
          let more = key_more c.pairs.here (c.has_key-in-pairs.ensures.0 w.if-not-has_key-2.false) in
          let one = w.in-Taken.ensures.handed.hands in
          let left = rest_is w.in-Taken.taken c.pairs.rest.now in
          let after =
          next_conforms c.requires.ready i.conforms i.pair.of_key more one
          (w.in-Taken.ensures.handed.passes nodes) left one.holds in
          rw (w.rest-is, w.here-is, w.sink-is, w.in-Left-hand_value.ensures.handed.passes nodes, w.in-Left-hand_value.ensures.handed.left refl)
          after
    ] in
    record {
      handed =
          rw (c.stop_at-2.ensures.level, c.stop_at-2.ensures.handed)
          (stops (Gets g.S.Sink) c.args.self.now (parts_state c.args.parts.now) c.args.level.now c.args.input.now c.args.sink.now (Fails g.S.Sink) conforms);
    }
