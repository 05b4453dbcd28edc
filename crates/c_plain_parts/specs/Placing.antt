-- Numbers that stand in an object.
use Rattle.std.specs.Prelude.{ℕ, ◌+◌, max, List, map, fold}
use Rattle.c_tree.specs.Scopes.{Aiming}
use Rattle.c_tree.specs.Statics as meant
use Rattle.c_tree.specs.Statics.{end_of, byte_in}
use Rattle.c_plain_parts.specs.declared.bytes.Placed.{Placed}

abbrev pub placed_of : Placed → meant.Placed
placed_of x = record { at = x.at; width = x.width; number = x.number }

-- where a number ends, and the last of some numbers
abbrev pub end_in : Placed → ℕ
end_in x = end_of (placed_of x)

abbrev pub greatest_end : List Placed → ℕ
greatest_end xs = fold (λ n x. max n (end_in x)) 0 xs

-- a byte at a place, over which some numbers were written
abbrev pub written_at : ℕ → ℕ → List Placed → ℕ
written_at k b xs = fold (λ b x. byte_in k b (placed_of x)) b xs

-- where the last of some pointers ends
abbrev pub pointers_end : List Aiming → ℕ
pointers_end ls = fold (λ n (l : Aiming). max n (l.at + 16)) 0 ls
