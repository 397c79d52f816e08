-- What the listing of a ledger prints.
pub mod Listed
