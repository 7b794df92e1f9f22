-- Where the first byte is none of a word, the word is at its end.
use Rattle.token.proofs.lexer.Words.{refl, sym, ◌∙◌, ap, inWord, hereOf, classAt, Here}
use Rattle.token.proofs.names.Bytes.{pass-first, pass-stop, class-inside}
use Rattle.token.proofs.names.word_on.Goals as goal

pub returns-then-not-in_word : goal.returns-then-not-in_word
returns-then-not-in_word c =
    let s = c.args.s.now in
    c.here_at-here.ensures
    ∙ ap (hereOf s)
    (pass-stop (λ j. inWord (classAt s j)) s c.args.at c.args.at (sym (ap (λ (z : Here). inWord z.class.number) c.here_at-here.ensures) ∙ sym c.if-not-in_word.ensures)
    (pass-first (λ j. inWord (classAt s j)) s c.args.at c.requires))

pub lows_end-next-requires : goal.lows_end-next-requires
lows_end-next-requires c =
    let s = c.args.s.now in
    class-inside s c.args.at inWord refl (sym (ap (λ (z : Here). inWord z.class.number) c.here_at-here.ensures) ∙ sym c.if-not-in_word.ensures)
