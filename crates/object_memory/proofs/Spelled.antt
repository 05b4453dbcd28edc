-- Bytes that are put in place one after another.
use Rattle.std.proofs.Common.{◌≡◌, ℕ, suc, ◌+◌, ◌-◌, ◌/◌, ◌%◌, ◌<◌, List, [], ◌∷◌, ◌++◌, map, length, take, set}
use Rattle.std.proofs.Common.{ap, ◌∙◌, arith, Option, Some}
use Rattle.std.proofs.lemmas.List.{take_more_set, map-append, append_assoc}
use Rattle.obj_mem.specs.Access.{bytes_of as low_bytes}
use Rattle.object_memory.specs.Answers.{plain_cell}

pub low_more : (items : List (Option ℕ)) (k n left : ℕ) → k < n → k < length items →
    map plain_cell (take (k + 1) (set items k (Some (left % 256)))) ++ low_bytes (n - (k + 1)) (left / 256)
    ≡ map plain_cell (take k items) ++ low_bytes (n - k) left
low_more items k n left l h =
    let e : n - k ≡ suc (n - (k + 1)) = omega arith in
    let front = map plain_cell (take k items) in
    let more = ap (map plain_cell) (take_more_set items k (Some (left % 256)) h)
    ∙ map-append plain_cell (take k items) (Some (left % 256) ∷ []) in
    rw (e, more) (append_assoc front (plain_cell (Some (left % 256)) ∷ []) (low_bytes (n - (k + 1)) (left / 256)))
