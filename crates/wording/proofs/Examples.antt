-- The examples hold: each is computed, but for the pair's reading, which is given piece by piece.
use Rattle.std.proofs.Common.{ℕ, ◌≡◌, refl, sym, ap, inl, List, [], ◌∷◌, replicate, get_or, arith}
use Rattle.std.proofs.lemmas.List.Elements.{All-from_recursion}
use Rattle.chars.specs.paper.Utf8.{width, codeOf}
use Rattle.chars.specs.paper.Text.{charsAt, from}
use Rattle.token.proofs.theorems.Words.{clash, begins, Kind, TokenType, TokenShape, HasShape, Stands, One, Times, Run, both, Block, Item, Items, Piece, Pieces, Reading}
use Rattle.chars.specs.computed.Encoded.{script}
use Rattle.entry.specs.paper.Limits.{compiler}
use Rattle.entry.specs.paper.Host.{numberSeen, bufferSeen}
use Rattle.entry.specs.computed.Listing.{entered, hosted}
use Rattle.wording.specs.paper.Wording.{SamePart, SameButComments}
use Rattle.wording.proofs.Hosts.{same-seen}
use Rattle.wording.specs.computed.Examples.{original, translated, Examples}

abbrev piece : Kind → ℕ → ℕ → Piece
piece k i j = record { kind = k; start = i; end = j }

abbrev pieces : List Piece
pieces =
    piece (Kind.token TokenType.lBrace) 0 1 ∷ piece Kind.blank 1 2 ∷ piece Kind.lineComment 2 6 ∷ piece Kind.lineEnd 6 7
    ∷ piece Kind.blockComment 7 13 ∷ piece (Kind.token TokenType.rBrace) 13 14 ∷ []

original-reads : Reading original pieces
unfolding from charsAt width codeOf Stands HasShape TokenShape begins
original-reads =
    Pieces.piece (One.one refl, λ e. e)
    (Pieces.piece (One.one refl, λ e. e)
    (Pieces.piece ((both (Times.more refl (Times.more refl Times.done)) (Run.next refl (Run.next refl Run.stop)), refl), λ e. refl)
    (Pieces.piece (inl (One.one refl), λ e. e)
    (Pieces.piece (
      Block.block (both (One.one refl) (One.one refl)) (Items.item (Item.char refl refl) (Items.item (Item.char refl refl) Items.done))
          (both (One.one refl) (One.one refl)),
      λ e. refl,
    )
    (Pieces.piece (One.one refl, λ e. e) Pieces.done)))))

translated-reads : Reading translated pieces
unfolding from charsAt width codeOf Stands HasShape TokenShape begins
translated-reads =
    Pieces.piece (One.one refl, λ e. e)
    (Pieces.piece (One.one refl, λ e. e)
    (Pieces.piece ((both (Times.more refl (Times.more refl Times.done)) (Run.next refl Run.stop), refl), λ e. refl)
    (Pieces.piece (inl (One.one refl), λ e. e)
    (Pieces.piece (
      Block.block (both (One.one refl) (One.one refl)) (Items.item (Item.char refl refl) Items.done)
          (both (One.one refl) (One.one refl)),
      λ e. refl,
    )
    (Pieces.piece (One.one refl, λ e. e) Pieces.done)))))

same : SameButComments original translated
same = record {
  pieces = pieces;
  first = original-reads;
  second = translated-reads;
  parts = All-from_recursion (SamePart original translated) pieces
      (λ e. refl, (λ e. refl, (λ e. clash (sym e), (λ e. refl, (λ e. clash (sym e), (λ e. refl, tt))))));
}

-- two scripts that are accepted, with a byte of the records that differs, are not the same but for comments
abbrev room : List ℕ
room = replicate 60 7

abbrev answer : List ℕ
answer = replicate 16 9

abbrev byteAt : ℕ → List ℕ → ℕ
byteAt i s = get_or (bufferSeen (hosted compiler s room answer)) i 0

apart : (a b : List ℕ) (i : ℕ) → numberSeen (hosted compiler a room answer) ≡ 0 → numberSeen (hosted compiler b room answer) ≡ 0
    → (byteAt i a ≡ byteAt i b → ⊥) → SameButComments a b → ⊥
unfolding hosted
apart a b i h k n same = n (ap (λ x. get_or (bufferSeen x) i 0) (same-seen compiler a b room answer same h k))

pub examples : Examples
unfolding entered hosted
examples = record {
  differ = λ e. let d : ◌≡◌ {A = ℕ} 0x6E 0xD0 = ap (λ s. get_or s 4 0) e in omega (arith, d);
  same = same;
  accepted = refl;
  two-kinds = apart (script "a\n//**") (script "a\n/**/") 39 refl refl (λ e. let d : ◌≡◌ {A = ℕ} 0 1 = e in omega (arith, d));
  two-cuts = refl;
  other-parts = apart (script "1") (script "2") 13 refl refl (λ e. let d : ◌≡◌ {A = ℕ} 1 2 = e in omega (arith, d));
  other-values = refl;
  other-length = apart (script "/*n*/x") (script "/*ж*/x") 4 refl refl (λ e. let d : ◌≡◌ {A = ℕ} 5 6 = e in omega (arith, d));
  other-places = refl;
}
