use Rattle.reply_queues.specs.Rings.{datagrams_taken}
use Rattle.udp_server.proofs.Sent.{of_one, one_longer}
use Rattle.udp_server.proofs.sender.Sender.has_sent_next.Goals as goal

pub returns-clause-counted : goal.returns-clause-counted
returns-clause-counted g c =
    of_one _ c.args.inlet.now c.take.new.self c.in-Some.reply _ _ c.args.self.now.sent
    c.send.new.self.sent
    (one_longer (datagrams_taken c.args.inlet.now) (datagrams_taken c.take.new.self)
    c.in-Some.reply c.in-Some.ensures.taken) c.send.ensures
