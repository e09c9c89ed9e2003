use Rattle.std.proofs.Common.{rules}
use Rattle.readings.proofs.Records.{read_is}
use Rattle.readings.proofs.date_and_time.time_value.Goals as goal

pub returns-in-0-clause-record_read : goal.returns-in-0-clause-record_read
returns-in-0-clause-record_read c =
    read_is c.args.value.now.tpe c.args.value.now.raw.now (λ i l. search rules) _ (search rules)

pub returns-in-1-clause-record_read : goal.returns-in-1-clause-record_read
returns-in-1-clause-record_read c =
    read_is c.args.value.now.tpe c.args.value.now.raw.now (λ i l. search rules) _ (search rules)
