-- The objects of a program under a legal map.
use Rattle.std.proofs.Common.{ℕ, List, [], ◌∷◌, ◌++◌, map, refl, arith}
use Rattle.cap_concentrate.proofs.Owned.{owned_exact}
use Rattle.c_tree.specs.declared.typed.CType.{CType}
use Rattle.c_tree.specs.declared.typed.GlobalDef.{GlobalDef}
use Rattle.c_tree.specs.declared.typed.Literal.{Literal}
use Rattle.obj_mem.specs.Legal.{ObjectNeed, AllInRange, placed_at, AreAligned}
use Rattle.obj_mem.specs.Needs.{global_need, literal_need, needs_of}
use Rattle.obj_mem.specs.Standing.{HaveBounds, ObjectsAreExact}
use Rattle.obj_mem.proofs.Powers.{IsPower, power_one, need_power, length_aligned}

abbrev AllPower : List ObjectNeed → Type 0
AllPower [] = Unit {0}
AllPower (n ∷ ns) = IsPower n.align × AllPower ns

globals_power : (ts : List CType) (gs : List GlobalDef) → AllPower (map (global_need ts) gs)
globals_power ts [] = tt
globals_power ts (g ∷ gs) = (need_power ts g.of _, globals_power ts gs)

literals_power : (ls : List Literal) → AllPower (map literal_need ls)
literals_power [] = tt
literals_power (l ∷ ls) = (power_one, literals_power ls)

range_first : (xs ys : List (ℕ × ℕ)) → AllInRange (xs ++ ys) → AllInRange xs
range_first [] ys h = tt
range_first (x ∷ xs) ys h = (h.0, h.1, range_first xs ys h.2)

range_last : (xs ys : List (ℕ × ℕ)) → AllInRange (xs ++ ys) → AllInRange ys
range_last [] ys h = h
range_last (x ∷ xs) ys h = range_last xs ys h.2

all_exact : (ns : List ObjectNeed) (bs : List ℕ) → AllPower ns → AreAligned ns bs → AllInRange (placed_at ns bs) →
    HaveBounds ns bs
all_exact [] [] p a r = tt
all_exact [] (b ∷ bs) p a r = absurd a
all_exact (n ∷ ns) [] p a r = absurd a
all_exact (n ∷ ns) (b ∷ bs) p a r =
    let al = length_aligned n p.0 b a.0 in
    let e = owned_exact b n.length (omega (arith, r.1)) al in (
      record {
        based = record { from = r.0; to = r.1; owned_is = refl; aligned = al };
        base_exact = e.0;
        top_exact = e.1;
      },
      all_exact ns bs p.1 a.1 r.2,
    )

pub objects_are_exact_law : ObjectsAreExact
objects_are_exact_law weight p m l =
    let r = l.in_range in
    let objects = r.2.2.2.2 in
    let n = needs_of weight p in (
      all_exact n.globals m.globals (globals_power p.types p.globals) l.globals
          (range_first (placed_at n.globals m.globals) (placed_at n.literals m.literals) objects),
      all_exact n.literals m.literals (literals_power p.literals) l.literals
          (range_last (placed_at n.globals m.globals) (placed_at n.literals m.literals) objects),
    )
