pub mod Behind
pub mod Rooms
pub mod Widths
pub mod Written
pub mod TextsWritten
pub mod AddressesWritten
pub mod AliasesWritten
pub mod OpenTypesWritten
pub mod AdditionsWritten
pub mod ReasonsWritten
pub mod RepliesRead
mod EncodedReplies
