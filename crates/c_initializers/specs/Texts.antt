-- Strings that initialize whole objects.
use Rattle.std.specs.Prelude.{◌≡◌, ℕ, ◌+◌, true, false, ◌==◌, nat_le, if◌then◌else◌, min, List, [], ◌∷◌, Option, Some, None}
use Rattle.ck_base.specs.declared.positions.Pos.{Pos}
use Rattle.c_tree.specs.Types.{Ty}
use Rattle.c_tree.specs.Scopes.{Doing, ◌>>=◌, ◌>>◌}
use Rattle.c_tree.specs.Initializers.{array_count}
use Rattle.c_initializers.specs.Objects.{completes_object, object_complete, fills_object, static_filled}
use Rattle.c_initializers.specs.Slots.{string_filled}

-- how many bytes an array has room for, where a string has so many
abbrev pub room_for : ℕ → Ty → ℕ
room_for n t = (if array_count t == 0 then n else array_count t)

-- how many of the n bytes of a string an array takes: none where more than the last has no room
abbrev pub AreTaken : ℕ → Ty → Option ℕ → Type 0
AreTaken n t None = nat_le n (room_for n t + 1) ≡ false
AreTaken n t (Some m) = (nat_le n (room_for n t + 1) ≡ true) × (m ≡ min n (room_for n t))

-- ---- bytes without the zeros at their end

abbrev pub before_zeros : ℕ → List ℕ → List ℕ
before_zeros b [] = (if b == 0 then [] else b ∷ [])
before_zeros b (c ∷ cs) = b ∷ c ∷ cs

abbrev pub without_zeros : List ℕ → List ℕ
without_zeros [] = []
without_zeros (b ∷ bs) = before_zeros b (without_zeros bs)

-- an object gets so many elements, and these bytes
abbrev pub fills_bytes : ℕ → Pos → ℕ → List ℕ → Doing Unit
fills_bytes k p n bytes = completes_object k n >> (object_complete k p >> fills_object k bytes [])

-- an object gets what the string gives that is its whole initializer
abbrev pub fills_text : ℕ → Pos → List ℕ → Pos → Pos → Ty → Doing Unit
fills_text k p bytes at whole of = string_filled bytes at whole of 0 >>= λ f. static_filled k p f
