-- What the code's own functions answer, module by module. Nothing that states the rules cites it, but for the numbers 1 to 16 of `Refusal`.
pub mod Loops
pub mod Refusal
pub mod Cursor
pub mod Piece
pub mod Gap
pub mod Digits
pub mod String
pub mod Keyword
pub mod Ident
pub mod Charsym
pub mod Form
pub mod Ascii
pub mod ByteClass
pub mod Names
pub mod Records
pub mod Walk
