use Rattle.ras_reading.proofs.Meaning.{reads_request, reads_each, reads_other, reads_each_other}
use Rattle.ras_reading.proofs.Meaning.{reads_faulty}
use Rattle.ras_reading.proofs.message.read.Goals as goal

pub returns-clause-request : goal.returns-clause-request
returns-clause-request c = reads_request c.args.octets.now c.message.result c.message.ensures

pub returns-clause-each_request : goal.returns-clause-each_request
returns-clause-each_request c = reads_each c.args.octets.now c.message.result c.message.ensures

pub returns-clause-not_served : goal.returns-clause-not_served
returns-clause-not_served c = reads_other c.args.octets.now c.message.result c.message.ensures

pub returns-clause-each_other : goal.returns-clause-each_other
returns-clause-each_other c = reads_each_other c.args.octets.now c.message.result c.message.ensures

pub returns-clause-fault : goal.returns-clause-fault
returns-clause-fault c = reads_faulty c.args.octets.now c.message.result c.message.ensures
