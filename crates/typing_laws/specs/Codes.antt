-- The codes with which a file that is derived may be refused as it is typed.
use Rattle.std.specs.Prelude.{◌≡◌, ℕ, true, nat_le, ◌&&◌, ◌||◌, ◌==◌}

-- those of the rules on names, types and values, and of the limit on the size of an object
abbrev pub IsTypingCode : ℕ → Type 0
IsTypingCode c = (nat_le 130 c && nat_le c 136 || c == 140) ≡ true
