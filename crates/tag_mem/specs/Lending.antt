-- What memory ends as where a granule of it was lent.
use Rattle.std.specs.Prelude.{ℕ, List, false, Option}
use Rattle.std.specs.Borrow.{Lends, LendsIf, MutBor, Fml, Array, u8}
use Rattle.tag_mem.specs.Areas.{Area}
use Rattle.tag_mem.specs.Memory.{area_with, written}
use Rattle.tag_mem.specs.Granules.{granule_bytes}
use Rattle.tag_mem.specs.contracts.area.Area.{the_row}
use Rattle.tag_mem.specs.contracts.mem.Mem as memory

-- the area ends with the granule's last bytes at the address, and with its tag clear
abbrev pub LendsOfArea : MutBor Area → ℕ → MutBor (List ℕ) → Fml
LendsOfArea s at r = Lends the_row (Array u8 16) s r (λ w. area_with s.now at (granule_bytes w) false)

-- memory ends with them at the address, and with the granule's tag clear
abbrev pub LendsIn : MutBor (List Area) → ℕ → MutBor (List ℕ) → Fml
LendsIn s at r = Lends memory.the_row (Array u8 16) s r (λ w. written s.now at (granule_bytes w) false)

-- the same, and memory ends as it was where none was lent
abbrev pub LendsGranule : MutBor (List Area) → ℕ → Option (MutBor (List ℕ)) → Fml
LendsGranule s at r = LendsIf memory.the_row (Array u8 16) s r (λ w. written s.now at (granule_bytes w) false) s.now
