use Rattle.cqlp_message.proofs.VersionErrors.{version_error_fits}
use Rattle.cqlp_message.proofs.frame.Frame.version_error.Goals as goal

pub returns-in_err-message-clause-fits : goal.returns-in_err-message-clause-fits
returns-in_err-message-clause-fits c = version_error_fits c.args.header.now

pub returns-clause-fits : goal.returns-clause-fits
returns-clause-fits c = version_error_fits c.args.header.now
