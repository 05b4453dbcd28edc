-- What lengths in range are.
use Rattle.std.proofs.Common.{◌≡◌, ℕ, ◌%◌, ◌≤◌, true, eqb, leb}
use Rattle.std.specs.Prelude.{◌&&◌}
use Rattle.std.proofs.lemmas.Bool.{and_parts, eqb-true, leb-true}
use Rattle.bounds_place.specs.declared.sizes.Sizes.{Sizes}
use Rattle.bounds_place.specs.Sizes.{is_heap, is_stack, in_range}

pub record IsRanged (n from to : ℕ) : Type 0 where
  pub multiple : n % 65536 ≡ 0
  pub least : from ≤ n
  pub most : n ≤ to

ranged : (n from to : ℕ) → (eqb (n % 65536) 0 && leb from n && leb n to) ≡ true → IsRanged n from to
ranged n from to h =
    let a = and_parts (eqb (n % 65536) 0 && leb from n) (leb n to) h in
    let b = and_parts (eqb (n % 65536) 0) (leb from n) a.0 in
    record { multiple = eqb-true (n % 65536) 0 b.0; least = leb-true from n b.1; most = leb-true n to a.1 }

pub heap_ranged : (s : Sizes) → in_range s ≡ true → IsRanged s.heap 16777216 67108864
heap_ranged s h = ranged s.heap 16777216 67108864 (and_parts (is_heap s.heap) (is_stack s.stack) h).0

pub stack_ranged : (s : Sizes) → in_range s ≡ true → IsRanged s.stack 65536 33554432
stack_ranged s h = ranged s.stack 65536 33554432 (and_parts (is_heap s.heap) (is_stack s.stack) h).1

-- the end of a heap
pub heap_most : (s : Sizes) → in_range s ≡ true → s.heap ≤ 67108864
heap_most s h = (heap_ranged s h).most
