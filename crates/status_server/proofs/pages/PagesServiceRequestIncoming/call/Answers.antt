use Rattle.status_server.proofs.pages.PagesServiceRequestIncoming.call.Goals as goal

pub returns-clause-called : goal.returns-clause-called
returns-clause-called g c = c.answer_to.ensures
