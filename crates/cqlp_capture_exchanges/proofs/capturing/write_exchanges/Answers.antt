use Rattle.cqlp_capture_exchanges.proofs.capturing.write_exchanges.Goals as goal

pub returns-clause-exchanges : goal.returns-clause-exchanges
returns-clause-exchanges g c = λ xs is known known'.
    let a = c.listen_by-answer.ensures xs is known in
    (a.0, a.1, (c.listen_by-answer.result.0, c.listen_by-answer.result.1.sums, c.listen_by-answer.result.1.missed, a.2, c.conclude-status.ensures.concludes known'))
