use Rattle.std.proofs.Common.{rules, ◌≡◌, Bool, true, false, refl, ap, ◌∙◌, arith}
use Rattle.cqlp_note.specs.Limits.{rules_asked}
use Rattle.cqlp_type.specs.Progress as type
use Rattle.cqlp_decode.specs.declared.progress.StreamProgress.{StreamProgress}
use Rattle.cqlp_decode.specs.Progress.{parts_state}
use Rattle.cqlp_decode.proofs.OptionSteps.{option_reads, option_waits, option_fails, still_hands, ended_hands, option_more_lawful, option_still_lawful, option_ended_lawful}
use Rattle.cqlp_decode.proofs.progress.StreamProgress.advance_option.Goals as goal

pub advance-requires : goal.advance-requires
advance-requires g c =
    let q = parts_state c.args.parts.now in
    let stage = rw c.requires.here at c.requires.lawful.stage in
    let runs = rw c.requires.here at (c.requires.lawful.table c.requires.unrefused) in
    record {
      under_way = stage.0.under_way;
      shared = stage.0.shared;
      room = search rules;
      table = option_reads (rules_asked c.args.self.now.limits) q runs;
    }

pub returns-in-More-clause-moves : goal.returns-in-More-clause-moves
returns-in-More-clause-moves g c =
    let stage = rw c.requires.here at c.requires.lawful.stage in
    option_waits c.args.self.now (parts_state c.args.parts.now) c.requires.here stage.0 c.requires.lawful.parts.rules c.args.input.now c.in-More.used c.advance.new.self c.advance.new.partial c.advance.new.table c.in-More.ensures.is

pub returns-in-Refused-clause-moves : goal.returns-in-Refused-clause-moves
returns-in-Refused-clause-moves g c =
    let stage = rw c.requires.here at c.requires.lawful.stage in
    option_fails c.args.self.now (parts_state c.args.parts.now) c.requires.here stage.0 c.requires.lawful.parts.rules c.args.input.now c.in-Refused.refusal.at c.in-Refused.refusal.why c.in-Refused.ensures.is.0

pub returns-then-not-done-clause-moves : goal.returns-then-not-done-clause-moves
returns-then-not-done-clause-moves g c =
    let stage = rw c.requires.here at c.requires.lawful.stage in
    let ends = c.in-Item.ensures.is in
    let under_way = ap (λ (z : type.TypeState). z.under_way) ends.reader in
    still_hands c.args.self.now (parts_state c.args.parts.now) c.requires.here stage.0 c.requires.lawful.parts.rules c.args.input.now c.in-Item.at c.in-Item.used c.in-Item.item c.advance.new.self c.advance.new.partial c.advance.new.table ends stage.1
    (λ none. let shut : ◌≡◌ {A = Bool} false true = c.if-not-done.ensures.1 (under_way, none) in cc)

pub returns-else-not-done-clause-moves : goal.returns-else-not-done-clause-moves
returns-else-not-done-clause-moves g c =
    let stage = rw c.requires.here at c.requires.lawful.stage in
    let ends = c.in-Item.ensures.is in
    let rest = c.end_option.ensures.rest in
    ended_hands c.args.self.now (parts_state c.args.parts.now) c.requires.here stage.0 c.requires.lawful.parts.rules c.args.input.now c.in-Item.at c.in-Item.used c.in-Item.item c.advance.new.self c.advance.new.partial c.advance.new.table ends stage.1
    (c.if-not-done.ensures.0 refl).1 c.end_option.new.self c.stop.new.self (ap (λ (z : StreamProgress). z.offset) rest ∙ c.offset-offset.ensures.is) (ap (λ (z : StreamProgress). z.stop) rest) (ap (λ (z : StreamProgress). z.frame) rest)
    (ap (λ (z : StreamProgress). z.came) rest ∙ stage.0.came) c.end_option.ensures.symbols c.end_option.ensures.room (ap (λ (z : StreamProgress). z.given_use) rest)

pub returns-in-More-clause-lawful : goal.returns-in-More-clause-lawful
returns-in-More-clause-lawful g c =
    let q = parts_state c.args.parts.now in
    let stage = rw c.requires.here at c.requires.lawful.stage in
    option_more_lawful c.args.self.now q c.requires.here stage.0 c.requires.lawful.parts.rules c.requires.lawful c.requires.unrefused c.args.input.now c.in-More.used c.advance.new.self c.advance.new.partial c.advance.new.table c.in-More.ensures.is

pub returns-then-not-done-clause-lawful : goal.returns-then-not-done-clause-lawful
returns-then-not-done-clause-lawful g c =
    let q = parts_state c.args.parts.now in
    let stage = rw c.requires.here at c.requires.lawful.stage in
    let ends = c.in-Item.ensures.is in
    let under_way = ap (λ (z : type.TypeState). z.under_way) ends.reader in
    option_still_lawful c.args.self.now q c.requires.here stage.0 c.requires.lawful.parts.rules c.requires.lawful c.requires.unrefused c.args.input.now c.in-Item.at c.in-Item.used c.in-Item.item c.advance.new.self c.advance.new.partial c.advance.new.table ends
    (omega (arith, c.offset-offset.ensures.inside, c.offset-offset.ensures.is, ap (λ (z : type.TypeState). z.stop) ends.reader, stage.0.stop)) (λ none. let shut : ◌≡◌ {A = Bool} false true = c.if-not-done.ensures.1 (under_way, none) in cc)

pub returns-else-not-done-clause-lawful : goal.returns-else-not-done-clause-lawful
returns-else-not-done-clause-lawful g c =
    let q = parts_state c.args.parts.now in
    let stage = rw c.requires.here at c.requires.lawful.stage in
    let ends = c.in-Item.ensures.is in
    let rest = c.end_option.ensures.rest in
    option_ended_lawful c.args.self.now q c.requires.here stage.0 c.requires.lawful.parts.rules c.requires.lawful c.requires.unrefused c.args.input.now c.in-Item.at c.in-Item.used c.in-Item.item c.advance.new.self c.advance.new.partial c.advance.new.table ends
    (omega (arith, c.offset-offset.ensures.inside, c.offset-offset.ensures.is, ap (λ (z : type.TypeState). z.stop) ends.reader, stage.0.stop)) (c.if-not-done.ensures.0 refl).1 c.end_option.new.self c.stop.new.self c.stop.ensures
    (ap (λ (z : StreamProgress). z.offset) rest ∙ c.offset-offset.ensures.is) (ap (λ (z : StreamProgress). z.stop) rest) (ap (λ (z : StreamProgress). z.limits) rest) (ap (λ (z : StreamProgress). z.header) rest) (ap (λ (z : StreamProgress). z.came) rest) c.end_option.ensures.room
