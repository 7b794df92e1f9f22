-- Tests on codes. What is computed for a list of codes is carried to a code that is known to be in the list.
use Rattle.std.specs.Prelude.{ℕ, zero, suc, ◌+◌, ◌≤◌, ◌<◌, ◌≡◌, Bool, true, IsTrue, false, IsFalse, not, ◌&&◌, List, [], ◌∷◌}
use types.Run.{OneOf}
use Rattle.chars.specs.paper.Quoted.{between, member}
use Rattle.chars.specs.code.Classes.{bitIn}

-- does the test hold at every code of the list?
abbrev pub every : (ℕ → Bool) → List ℕ → Bool
every f [] = true
every f (x ∷ l) = f x && every f l

-- n codes from a on
abbrev pub span : ℕ → ℕ → List ℕ
span a zero = []
span a (suc n) = a ∷ span (suc a) n

-- do two tests say the same?
abbrev pub alike : Bool → Bool → Bool
alike true y = y
alike false y = not y

pub record CodeLaws : Type 0 where
  -- a test that holds at every code of a list holds at a member; one that holds at none of them fails at a member
  pub carry : (f : ℕ → Bool) (l : List ℕ) (c : ℕ) → IsTrue (every f l) → IsTrue (member l c) → IsTrue (f c)
  pub carry-not : (f : ℕ → Bool) (l : List ℕ) (c : ℕ) → IsTrue (every (λ x. not (f x)) l) → IsTrue (member l c) → IsFalse (f c)
  -- where a test fails at every code of a list, a code at which it holds is no member
  pub no-member : (f : ℕ → Bool) (l : List ℕ) (c : ℕ) → IsTrue (every (λ x. not (f x)) l) → IsTrue (f c) → IsFalse (member l c)
  -- a test that implies another, over a list
  pub every-sub : (f g : ℕ → Bool) (l : List ℕ) → IsTrue (every f l) → ((c : ℕ) → IsTrue (f c) → IsTrue (g c)) → IsTrue (every g l)
  -- the list of n codes from a on
  pub carry-span : (f : ℕ → Bool) (a n c : ℕ) → IsTrue (every f (span a n)) → a ≤ c → c < a + n → IsTrue (f c)
  -- two tests that are found alike say the same
  pub agree : (x y : Bool) → IsTrue (alike x y) → x ≡ y
  -- a set of ASCII characters as two masks: computed at each code of ASCII, and empty past it
  pub mask-set : (low high : ℕ) (p : ℕ → Bool) → IsTrue (every (λ x. alike (bitIn low high x) (p x)) (span 0 128))
      → ((c : ℕ) → 0x80 ≤ c → IsFalse (p c)) → (c : ℕ) → bitIn low high c ≡ p c
  -- one of the keys of a match's arm, or none of them
  pub hits : (ks : List ℕ) (x : ℕ) → OneOf ks x → IsTrue (member ks x)
  pub misses : (ks : List ℕ) (x : ℕ) → (OneOf ks x → ⊥) → IsFalse (member ks x)
  -- a code and one range
  pub between-in : (l h c : ℕ) → l ≤ c → c ≤ h → IsTrue (between l h c)
  pub between-out : (l h c : ℕ) → (l ≤ c → h < c) → IsFalse (between l h c)
  pub in-between : (l h c : ℕ) → IsTrue (between l h c) → (l ≤ c) × (c ≤ h)
  pub not-between : (l h c : ℕ) → IsFalse (between l h c) → l ≤ c → h < c
