-- Texts put one after another are one text.
use Rattle.std.proofs.Common.{◌≡◌, ℕ, ◌+◌, ◌<◌, ◌≤◌, List, [], ◌++◌, length, take, drop, refl, sym, ◌∙◌, ap, arith, cond, append_assoc, append-nil, length-append}
use Rattle.std.proofs.lemmas.List.{take-append-le, take-append-drop, length-take}
use Rattle.std.proofs.Math.Seq.{take-append_seam, take-length}
use Rattle.std.specs.Prelude.{Result, Ok, Err, IsErr, OnErr, is_ok, Vec, vec_len, vec_capacity}
use Rattle.std.specs.Io.{StartsWith}
use Rattle.puts.specs.Puts.{Puts}

-- ---- texts that begin with others

-- by its first bytes a text is no shorter
starts-length : (xs p : List ℕ) → StartsWith xs p → length p ≤ length xs
starts-length xs p e = omega (arith, ap length e, length-take (length p) xs)

pub starts-longer : (xs ys p : List ℕ) → StartsWith xs p → StartsWith (xs ++ ys) p
starts-longer xs ys p e = take-append-le (length p) xs ys (starts-length xs p e) ∙ e

pub starts-on : (xs ys zs : List ℕ) → StartsWith xs ys → StartsWith ys zs → StartsWith xs zs
starts-on xs ys zs e f =
    let n = starts-length ys zs f in
    ap (take (length zs)) (sym (take-append-drop (length ys) xs)) ∙ take-append-le (length zs) (take (length ys) xs) (drop (length ys) xs) (omega (arith, ap length e)) ∙ ap (take (length zs)) e ∙ f

-- ---- one part after another

module _ {A : Type 0} {old : Vec ℕ A} where
  -- nothing is put
  pub puts-none : {T E : Type 0} {x : T} → Puts {E = E} old old (Ok x) []
  puts-none = record { ok = sym (append-nil old.items); kept = tt; part = tt; full = tt; capacity = omega arith }

  module _ {new : Vec ℕ A} {T E T' E' : Type 0} where
    -- the same error, as what hands it on
    pub puts-err : (r : Result T' E') {e : E} {more : List ℕ} → IsErr r → Puts {T = T} old new (Err e) more → Puts old new r more
    puts-err (Ok y) failed p = absurd (cc failed)
    puts-err (Err y) failed p = record { ok = tt; kept = p.kept; part = p.part; full = p.full; capacity = p.capacity }

    -- another value with it
    pub puts-ok : {x : T} {y : T'} {more : List ℕ} → Puts {E = E} old new (Ok x) more → Puts {E = E'} old new (Ok y) more
    puts-ok p = record { ok = p.ok; kept = tt; part = tt; full = tt; capacity = p.capacity }

    -- where a part lacks room, all does
    pub puts-fails : (r : Result T' E') {e : E} {more : List ℕ} (rest : List ℕ) → IsErr r → Puts {T = T} old new (Err e) more → Puts old new r (more ++ rest)
    puts-fails (Ok y) rest failed p = absurd (cc failed)
    puts-fails (Err y) {e} {more} rest failed p = record {
      ok = tt;
      kept = p.kept;
      part = rw (← append_assoc) (starts-longer (old.items ++ more) rest new.items p.part);
      full = omega (arith, p.full, length-append more rest);
      capacity = p.capacity;
    }

    -- where a part is put, the rest decides
    pub puts-then : (r : Result T' E') {mid : Vec ℕ A} {x : T} {more : List ℕ} (rest : List ℕ) → Puts {E = E} old mid (Ok x) more → Puts mid new r rest
        → Puts old new r (more ++ rest)
    puts-then (Ok y) {mid} {x} {more} rest p q = record {
      ok = q.ok ∙ ap (λ l. l ++ rest) p.ok ∙ append_assoc old.items more rest;
      kept = tt;
      part = tt;
      full = tt;
      capacity = omega (arith, p.capacity, q.capacity);
    }
    puts-then (Err y) {mid} {x} {more} rest p q = let k = mid.ok.0 in let j = old.ok.0 in record {
      ok = tt;
      kept = starts-on new.items mid.items old.items q.kept (rw p.ok (take-append_seam old.items more));
      part = rw (← append_assoc, ← p.ok) q.part;
      full = omega (arith, q.full, p.capacity, k, j, ap length p.ok, length-append old.items more, length-append more rest);
      capacity = omega (arith, p.capacity, q.capacity);
    }

-- ---- what the standard library's calls put, which put all or nothing

module _ {A : Type 0} {old new : Vec ℕ A} {more : List ℕ} where
  pub put-all : new.items ≡ old.items ++ more → vec_capacity old ≤ vec_capacity new → Puts {T = Unit {0}} {E = Unit {0}} old new (Ok tt) more
  put-all items capacity = record { ok = items; kept = tt; part = tt; full = tt; capacity = capacity }

  -- as the last part
  pub put-end : {T E : Type 0} {x : T} → new.items ≡ old.items ++ more → vec_capacity old ≤ vec_capacity new → Puts {E = E} old new (Ok x) more
  put-end items capacity = record { ok = items; kept = tt; part = tt; full = tt; capacity = capacity }

  pub put-nothing : new.items ≡ old.items → vec_capacity old < vec_len old + length more → vec_capacity old ≤ vec_capacity new
      → Puts {T = Unit {0}} {E = Unit {0}} old new (Err tt) more
  put-nothing items full capacity = record {
    ok = tt;
    kept = rw items (take-length old.items);
    part = rw items (take-append_seam old.items more);
    full = full;
    capacity = capacity;
  }

-- what `extend_from_slice` hands back, as it is
pub put-either : {A T E : Type 0} {old new : Vec ℕ A} (r : Result T E) (more : List ℕ) → new.items ≡ cond (is_ok r) (old.items ++ more) old.items
    → OnErr r (vec_capacity old < vec_len old + length more) → vec_capacity old ≤ vec_capacity new → Puts old new r more
put-either (Ok y) more items full capacity = record { ok = items; kept = tt; part = tt; full = tt; capacity = capacity }
put-either {old = old} (Err y) more items full capacity = record {
  ok = tt;
  kept = rw items (take-length old.items);
  part = rw items (take-append_seam old.items more);
  full = full;
  capacity = capacity;
}

-- a part and nothing
pub puts-last : {A T E : Type 0} {old new : Vec ℕ A} {r : Result T E} {more : List ℕ} → Puts old new r more → Puts old new r (more ++ [])
puts-last p = rw append-nil p

-- ---- loops

-- Of `all`, which is put behind `old`, the text has what comes before `rest`.
pub record Going {A : Type 0} (old text : Vec ℕ A) (rest all : List ℕ) : Type 0 where
  pub put : text.items ++ rest ≡ old.items ++ all
  pub kept : StartsWith text.items old.items
  pub capacity : vec_capacity old ≤ vec_capacity text

module _ {A : Type 0} {old : Vec ℕ A} {all : List ℕ} where
  pub going-begun : Going old old all all
  going-begun = record { put = refl; kept = take-length old.items; capacity = omega arith }

  pub going-end : {text : Vec ℕ A} {T E : Type 0} {x : T} → Going old text [] all → Puts {E = E} old text (Ok x) all
  going-end {text} g = record { ok = sym (append-nil text.items) ∙ g.put; kept = tt; part = tt; full = tt; capacity = g.capacity }

  module _ {text new : Vec ℕ A} {T E : Type 0} (more rest : List ℕ) (before : Going old text (more ++ rest) all) where
    pub going-turn : {x : T} → Puts {E = E} text new (Ok x) more → Going old new rest all
    going-turn p = record {
      put = ap (λ l. l ++ rest) p.ok ∙ append_assoc text.items more rest ∙ before.put;
      kept = starts-on new.items text.items old.items (rw p.ok (take-append_seam text.items more)) before.kept;
      capacity = omega (arith, p.capacity, before.capacity);
    }

    pub going-fails : {T' E' : Type 0} (r : Result T' E') {e : E} → IsErr r → Puts {T = T} text new (Err e) more → Puts old new r all
    going-fails (Ok y) failed p = absurd (cc failed)
    going-fails (Err y) failed p =
        let k = text.ok.0 in
        let j = old.ok.0 in
        let whole = ap length before.put in
        record {
          ok = tt;
          kept = starts-on new.items text.items old.items p.kept before.kept;
          part = rw (← before.put, ← append_assoc) (starts-longer (text.items ++ more) rest new.items p.part);
          full = omega (arith, p.full, before.capacity, k, j, whole, length-append text.items (more ++ rest), length-append more rest, length-append old.items all);
          capacity = omega (arith, p.capacity, before.capacity);
        }

  -- what is still to come is put
  pub going-last : {text new : Vec ℕ A} {T E : Type 0} (r : Result T E) {more : List ℕ} → Going old text more all → Puts text new r more → Puts old new r all
  going-last (Ok y) {more} g p = going-end (going-turn more [] (rw append-nil g) p)
  going-last (Err y) {more} g p = going-fails more [] (rw append-nil g) (Err y) refl p
