pub mod Encoding
pub mod Replies
pub mod Chain
pub mod ReplyGrammar
pub mod Properties
pub mod Encoded
