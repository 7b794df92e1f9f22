-- A code as UTF-8 bytes, by the Unicode Standard, Table 3-6, and quoted texts as scripts.
use Rattle.std.specs.Prelude.{ℕ, ◌+◌, ◌/◌, ◌%◌, if◌then◌else◌, List, [], ◌∷◌, ◌++◌, nat_lt}
use Prim.Native.String.{String}
use Rattle.chars.specs.paper.Quoted.{codes}

-- the bytes that are written for a code
abbrev pub encoded : ℕ → List ℕ
encoded c =
    let two : List ℕ = (0xC0 + c / 64) ∷ (0x80 + c % 64) ∷ [] in
    let three : List ℕ = (0xE0 + c / 4096) ∷ (0x80 + c / 64 % 64) ∷ (0x80 + c % 64) ∷ [] in
    let four : List ℕ = (0xF0 + c / 262144) ∷ (0x80 + c / 4096 % 64) ∷ (0x80 + c / 64 % 64) ∷ (0x80 + c % 64) ∷ [] in
    if nat_lt c 0x80 then c ∷ []
    else if nat_lt c 0x800 then two
    else if nat_lt c 0x10000 then three
    else four

-- codes one after the other
abbrev pub encodeAll : List ℕ → List ℕ
encodeAll [] = []
encodeAll (c ∷ cs) = encoded c ++ encodeAll cs

-- a quoted text as a script: its characters in UTF-8
abbrev pub script : String → List ℕ
script t = encodeAll (codes t)
