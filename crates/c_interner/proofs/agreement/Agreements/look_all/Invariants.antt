use Rattle.std.proofs.Common.{◌≡◌, ℕ, true, false, take}
use Rattle.c_type_levels.specs.Agreement.{lengths_of}
use Rattle.c_interner.specs.Known.{type_in, LastIsOpen}
use Rattle.c_interner.specs.Levels.{pairs_agree, RankBelow}
use Rattle.c_interner.proofs.agreement.Agreements.look_all.Given as goal

abbrev pub invariant-loop-pair : goal.invariant-loop-pair
invariant-loop-pair l = record {
  agree : l.all_known ≡ true →
      pairs_agree (lengths_of l.self.how) (type_in l.self.types.now) (take l.pair-index l.pairs) ≡ true;
  last : l.all_known ≡ false → (void n : ℕ) → RankBelow void n l.pairs →
      LastIsOpen l.self.known.entries void n l.waiting.items;
}
