use Rattle.std.proofs.Common.{◌≡◌, ℕ, true, false, List, length, take}
use Rattle.c_tree.specs.declared.typed.CType.{CType}
use Rattle.c_interner.specs.Levels.{AreBelow, RankBelow}
use Rattle.c_interner.specs.Known.{LastIsOpen, AreComposites, NamesComposites}
use Rattle.c_interner.proofs.composites.Composites.look_all.Given as goal

abbrev pub invariant-loop-pair : goal.invariant-loop-pair
invariant-loop-pair l = record {
  known : (types : List CType) → AreComposites types l.self → AreBelow (length types) l.pairs → l.all_known ≡ true →
      NamesComposites types (take l.pair-index l.pairs) l.made.items;
  last : l.all_known ≡ false → (void n : ℕ) → RankBelow void n l.pairs →
      LastIsOpen l.self.known.entries void n l.waiting.items;
  waiting : (n : ℕ) → AreBelow n l.pairs → AreBelow n l.initial.waiting.items → AreBelow n l.waiting.items;
}
