-- What the families of pieces give, passed on from one place. Declares nothing.
pub use Rattle.token.proofs.theorems.Runs.{run1-found, one-found, head-other, apart, apart', begins-any, one-drop, run1-finds, run-suffix, pass-run}
pub use Rattle.token.proofs.theorems.Numbers.{text-found, number-stands, number-found, six-found}
pub use Rattle.token.proofs.theorems.Operators.{free-sign, stood, Fell, fell-at, Outcome, operator-stands, op-id-found, run-key-found, Stood}
pub use Rattle.token.proofs.theorems.Idents.{ident-found, plain-ident-found, word-key-found, ident-stands, ident-finds, scan-ident}
pub use Rattle.token.proofs.theorems.Escapes.{slash-found, slash-finds, u-other, simple}
pub use Rattle.token.proofs.theorems.Strings.{body-found, body-finds, single-char, single-slash, triple-char, single-pass, single-empty, single-newline, single-dollar, triple-pass, triple-empty, triple-slash, triple-dollar, triple-barred, allowed-is, in-single, in-triple, plain-slash, times-three}
pub use Rattle.token.proofs.theorems.Prefixed.{backtick-found, word-stands, backtick-stands, ident-string-found, prefixed-found, or-token, start-no-quote, tick-no-quote, or-string, scan-backtick, back}
pub use Rattle.token.proofs.theorems.Contents.{content-is}
pub use Rattle.token.proofs.theorems.Ticks.{char-sym-found, tick-stands, scan-tick, char-stands, charAhead, semiAhead}
pub use Rattle.token.proofs.theorems.Gaps.{line-found, block-found, pair-stands, line-stands, block-stands}
