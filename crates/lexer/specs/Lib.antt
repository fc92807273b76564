pub mod Bytes
pub mod Item
pub mod Lex
pub mod Token
pub mod BadTag
pub mod Exact
