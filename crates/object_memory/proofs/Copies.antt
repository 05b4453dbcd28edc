-- What a copy takes and leaves.
use Rattle.std.proofs.Common.{◌≡◌, ℕ, suc, ◌+◌, ◌-◌, ◌<◌, List, [], ◌∷◌, ◌++◌, map, length, take, set, refl, sym, ap}
use Rattle.std.proofs.Common.{◌∙◌, arith, Option, Some, None, Ok, Result}
use Rattle.std.specs.Prelude.{Err}
use Rattle.std.proofs.lemmas.List.{take_more_set, map-append, append_assoc}
use Rattle.obj_mem.specs.declared.ending.Fault.{Fault}
use Rattle.obj_mem.specs.declared.ending.UnitFault.TheVariants as U
use Rattle.obj_mem.specs.Values.{Value}
use Rattle.obj_mem.specs.Objects.{Cell, Shape, Content, Memory, Mode, byte_at, bytes_at}
use Rattle.obj_mem.specs.Access.{Piece, as_store, carried, copy_unit, fetch, has_part, onward, put}
use Rattle.object_memory.specs.Answers.{plain_cell}
use Rattle.object_memory.specs.Memories.{Leaves}

-- ---- bytes that are carried on, one after another

split_first : (d : Mode) (s : List Shape) (c : Content) (i n k : ℕ) → k < n →
    bytes_at d s c (i + k) (n - k) ≡ byte_at d s c (i + k) ∷ bytes_at d s c (i + (k + 1)) (n - (k + 1))
split_first d s c i n k h =
    let e : n - k ≡ suc (n - (k + 1)) = omega arith in
    let one : i + (k + 1) ≡ suc (i + k) = omega arith in
    ap (bytes_at d s c (i + k)) e ∙ ap (λ j. byte_at d s c (i + k) ∷ bytes_at d s c j (n - (k + 1))) (sym one)

part_skips : (b : Option ℕ) (rest : List Cell) → has_part rest ≡ has_part (plain_cell b ∷ rest)
part_skips None rest = refl
part_skips (Some b) rest = refl

-- the next one is put
pub carry_more : (d : Mode) (s : List Shape) (c : Content) (i n k : ℕ) (items : List (Option ℕ)) (b : Option ℕ) →
    k < n → k < length items → plain_cell b ≡ byte_at d s c (i + k)
    → map plain_cell (take (k + 1) (set items k b)) ++ bytes_at d s c (i + (k + 1)) (n - (k + 1))
    ≡ map plain_cell (take k items) ++ bytes_at d s c (i + k) (n - k)
carry_more d s c i n k items b l h same =
    let front = map plain_cell (take k items) in
    let rest = bytes_at d s c (i + (k + 1)) (n - (k + 1)) in
    let right : front ++ bytes_at d s c (i + k) (n - k) ≡ front ++ plain_cell b ∷ rest =
    ap (λ xs. front ++ xs) (split_first d s c i n k l ∙ ap (λ y. y ∷ rest) (sym same)) in
    let more : map plain_cell (take (k + 1) (set items k b)) ≡ front ++ plain_cell b ∷ [] =
    ap (map plain_cell) (take_more_set items k b h) ∙ map-append plain_cell (take k items) (b ∷ []) in
    ap (λ xs. xs ++ rest) more ∙ append_assoc front (plain_cell b ∷ []) rest ∙ sym right

-- it is of no stored pointer
pub part_more : (d : Mode) (s : List Shape) (c : Content) (i n k : ℕ) (b : Option ℕ) → k < n →
    plain_cell b ≡ byte_at d s c (i + k) →
    has_part (bytes_at d s c (i + (k + 1)) (n - (k + 1))) ≡ has_part (bytes_at d s c (i + k) (n - k))
part_more d s c i n k b l same =
    let rest = bytes_at d s c (i + (k + 1)) (n - (k + 1)) in
    part_skips b rest ∙ ap (λ y. has_part (y ∷ rest)) same ∙ ap has_part (sym (split_first d s c i n k l))

-- ---- what is left of a copy

pub load_fails : (X : Type 0) (d : Mode) (m : Memory) (from to : Value) (n : ℕ) (e : Fault) →
    onward (fetch d m from n) carried ≡ Err e → Leaves {U = X} (copy_unit d m from to n) m (Err (U.Load e)) m
unfolding copy_unit
load_fails X d m from to n e h = rw h (refl, refl)

by_store_fails : (X : Type 0) (r : Result Memory Fault) (m after : Memory) (e : Fault) →
    Leaves {U = X} r m (Err e) after → Leaves {U = X} (as_store r) m (Err (U.Store e)) after
by_store_fails X (Ok x) m after e h = h
by_store_fails X (Err f) m after e h = (ap U.Store h.0, h.1)

by_store_ends : {X Y : Type 0} (r : Result Memory Fault) (m after : Memory) (x : X) (y : Y) → Leaves r m (Ok x) after →
    Leaves (as_store r) m (Ok y) after
by_store_ends (Ok w) m after x y h = h
by_store_ends (Err f) m after x y h = h

pub store_fails : (X : Type 0) (d : Mode) (m after : Memory) (from to : Value) (n : ℕ) (u : Piece) (e : Fault) →
    onward (fetch d m from n) carried ≡ Ok u → Leaves {U = X} (put d m to n u) m (Err e) after →
    Leaves {U = X} (copy_unit d m from to n) m (Err (U.Store e)) after
unfolding copy_unit
store_fails X d m after from to n u e h l = rw h (by_store_fails X (put d m to n u) m after e l)

pub store_ends : {X Y : Type 0} (d : Mode) (m after : Memory) (from to : Value) (n : ℕ) (u : Piece) (x : X) (y : Y) →
    onward (fetch d m from n) carried ≡ Ok u → Leaves (put d m to n u) m (Ok x) after →
    Leaves (copy_unit d m from to n) m (Ok y) after
unfolding copy_unit
store_ends d m after from to n u x y h l = rw h (by_store_ends (put d m to n u) m after x y l)
