use Rattle.std.proofs.Common.{sym, ◌∙◌}
use Rattle.cqlp_message.proofs.PageWalks.{how_many-columns, how_many-raw}
use Rattle.cqlp_message.proofs.response.Metadata.columns_described.Goals as goal

pub returns-in-Some : goal.returns-in-Some
returns-in-Some c = rw c.in-Some.is (c.len.ensures ∙ c.in-Some.specs.ok.0 ∙ sym (how_many-columns c.in-Some.specs.items))

pub returns-in-None : goal.returns-in-None
returns-in-None c = rw c.in-None.is (sym (how_many-raw c.args.self.now.columns))
