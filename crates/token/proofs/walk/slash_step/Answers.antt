use Rattle.token.proofs.lexer.Words.{ap, ◌∙◌, oneOf}
use Rattle.token.proofs.walk.Starts.{slash-opens}
use Rattle.token.proofs.walk.slash_step.Goals as goal

pub comment_step-requires-clause-opened : goal.comment_step-requires-clause-opened
comment_step-requires-clause-opened c = slash-opens c.requires.good c.requires.slash (c.if-opens_with.ensures ∙ ap (oneOf "*/") c.byte_at.ensures)

pub ascii_run_step-requires-clause-no_comment : goal.ascii_run_step-requires-clause-no_comment
ascii_run_step-requires-clause-no_comment c = slash-opens c.requires.good c.requires.slash (c.if-opens_with.ensures ∙ ap (oneOf "*/") c.byte_at.ensures)
