-- Objects one behind the other.
use Rattle.std.specs.Prelude.{ℕ, ◌+◌, List, [], ◌∷◌}
use Rattle.cap_concentrate.specs.Rounding.{rounded_up}
use Rattle.program_needs.specs.declared.needs.Need.{Need}
pub use Rattle.program_needs.specs.Needs.{need, owned_need, room, counted}

-- the first place for an object that is not before `next`, and the end of the object there
abbrev pub place_of : ℕ → Need → ℕ
place_of next n = rounded_up next n.align

abbrev pub behind : ℕ → Need → ℕ
behind next n = place_of next n + n.owned

-- the places of objects from `next` on, and their end
unfoldable pub bases_from : ℕ → List Need → List ℕ
bases_from next [] = []
bases_from next (n ∷ ns) = place_of next n ∷ bases_from (behind next n) ns

unfoldable pub end_from : ℕ → List Need → ℕ
end_from next [] = next
end_from next (n ∷ ns) = end_from (behind next n) ns
