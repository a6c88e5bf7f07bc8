pub use Rattle.ras_grammar.specs.declared.fault as ReadFaults
pub use Rattle.ras_grammar.specs.Faults
pub use Rattle.ras_grammar.specs.Grammar
pub use Rattle.ras_reading.specs.Requests
pub use Rattle.ras_reading.specs.Messages
pub use Rattle.ras_writing.specs.Replies
pub use Rattle.ras_writing.specs.ReplyGrammar
pub use Rattle.ras_writing.specs.Properties
