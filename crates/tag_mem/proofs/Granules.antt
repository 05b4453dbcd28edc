-- The bytes of granules, one after another.
use Rattle.std.proofs.Common.{◌≡◌, ℕ, zero, suc, ◌+◌, ◌*◌, ◌%◌, ◌<◌, ◌≤◌, List, [], ◌∷◌, ◌++◌, length, take}
use Rattle.std.proofs.Common.{drop, replicate, get_or, set, refl, sym, ap, ◌∙◌, arith}
use Rattle.std.specs.Prelude.{All, flat_map}
use Rattle.std.proofs.lemmas.List.{length-append, length-replicate, replicate-append-replicate, length-drop}
use Rattle.std.proofs.lemmas.List.{append_assoc, drop-append-le, take-append-le}
use Rattle.std.proofs.Math.Seq.{drop-append-add, take-append-add, drop-append_seam}
use Rattle.std.proofs.lemmas.List.Elements.{All-from_get_or, All-get_or, All-replicate}
use Rattle.std.proofs.lemmas.List.FromFn.{length-map-range_with_len, get_or-map-range_with_len, fill_by_all}
use Rattle.tag_mem.proofs.Replacing.{replaced_within}
use Rattle.tag_mem.specs.Granules.{granule_bytes}
use Rattle.tag_mem.specs.Memory.{replaced}

-- ---- one granule

pub length_granule : (g : List ℕ) → length (granule_bytes g) ≡ 16
unfolding granule_bytes
length_granule g = length-map-range_with_len (λ k. get_or g k 0 % 256) 0 16

pub small_granule : (g : List ℕ) → All (λ b. b < 256) (granule_bytes g)
unfolding granule_bytes
small_granule g = All-from_get_or (λ b. b < 256) (granule_bytes g) 0 (λ k h.
    let here : k < 16 = omega (arith, length_granule g) in
    let is = get_or-map-range_with_len (λ k. get_or g k 0 % 256) 0 16 k k 0 here (omega arith) in
    rw is (omega arith))

-- sixteen bytes are the bytes of their granule
pub same_granule : (g : List ℕ) → length g ≡ 16 → All (λ b. b < 256) g → granule_bytes g ≡ g
unfolding granule_bytes
same_granule g long small = sym (fill_by_all (λ k. get_or g k 0 % 256) g 16 0 long (λ k h.
    let below = All-get_or (λ b. b < 256) g k 0 (omega (arith, long)) small in
    omega (arith, below)))

-- ---- all of them

pub zero_granules : (n : ℕ) → flat_map granule_bytes (replicate n (replicate 16 0)) ≡ replicate (16 * n) 0
zero_granules zero = refl
zero_granules (suc n) =
    let size : 16 + 16 * n ≡ 16 * suc n = omega arith in
    ap (λ (g : List ℕ). g ++ flat_map granule_bytes (replicate n (replicate 16 0)))
    (same_granule (replicate 16 0) (length-replicate {A = ℕ} 16 0)
    (All-replicate (λ b. b < 256) 16 0 (omega arith)))
    ∙ ap (λ (bs : List ℕ). replicate 16 0 ++ bs) (zero_granules n) ∙ replicate-append-replicate 16 (16 * n) 0
    ∙ ap (λ (k : ℕ). replicate k 0) size

pub length_granules : (gs : List (List ℕ)) → length (flat_map granule_bytes gs) ≡ 16 * length gs
length_granules [] = refl
length_granules (g ∷ gs) =
    omega (arith, length-append (granule_bytes g) (flat_map granule_bytes gs), length_granule g, length_granules gs)

take_front : (g rest : List ℕ) (o n : ℕ) → length g ≡ 16 → o + n ≤ 16 → take n (drop o (g ++ rest)) ≡ take n (drop o g)
take_front g rest o n long within =
    ap (take n) (drop-append-le o g rest (omega (arith, long)))
    ∙ take-append-le n (drop o g) rest (omega (arith, long, length-drop o g))

drop_front : (g rest : List ℕ) (o : ℕ) → length g ≡ 16 → drop (16 + o) (g ++ rest) ≡ drop o rest
drop_front g rest o long = ap (λ (n : ℕ). drop (n + o) (g ++ rest)) (sym long) ∙ drop-append-add g rest o

-- bytes of one granule
pub part_of : (gs : List (List ℕ)) (k o n : ℕ) (d : List ℕ) → k < length gs → o + n ≤ 16 →
    take n (drop (16 * k + o) (flat_map granule_bytes gs)) ≡ take n (drop o (granule_bytes (get_or gs k d)))
part_of [] k o n d lt within = absurd (omega arith)
part_of (g ∷ gs) zero o n d lt within =
    let at : 16 * zero + o ≡ o = omega arith in
    ap (λ (x : ℕ). take n (drop x (granule_bytes g ++ flat_map granule_bytes gs))) at
    ∙ take_front (granule_bytes g) (flat_map granule_bytes gs) o n (length_granule g) within
part_of (g ∷ gs) (suc k) o n d lt within =
    let at : 16 * suc k + o ≡ 16 + (16 * k + o) = omega arith in
    ap (λ (x : ℕ). take n (drop x (granule_bytes g ++ flat_map granule_bytes gs))) at
    ∙ ap (take n) (drop_front (granule_bytes g) (flat_map granule_bytes gs) (16 * k + o) (length_granule g))
    ∙ part_of gs k o n d (omega arith) within

replaced_front : (g rest new : List ℕ) → length g ≡ 16 → length new ≡ 16 → new ++ rest ≡ replaced 0 new (g ++ rest)
replaced_front g rest new long also =
    let at : 0 + length new ≡ length g = omega (arith, long, also) in
    ap (λ (x : List ℕ). new ++ x) (sym (ap (λ (n : ℕ). drop n (g ++ rest)) at ∙ drop-append_seam g rest))

replaced_behind : (g rest new : List ℕ) (o : ℕ) → length g ≡ 16 →
    g ++ replaced o new rest ≡ replaced (16 + o) new (g ++ rest)
replaced_behind g rest new o long =
    let front : take (16 + o) (g ++ rest) ≡ g ++ take o rest =
    ap (λ (n : ℕ). take (n + o) (g ++ rest)) (sym long) ∙ take-append-add g rest o in
    let at : 16 + o + length new ≡ 16 + (o + length new) = omega arith in
    let back : drop (16 + o + length new) (g ++ rest) ≡ drop (o + length new) rest =
    ap (λ (n : ℕ). drop n (g ++ rest)) at ∙ drop_front g rest (o + length new) long in
    sym (append_assoc g (take o rest) (new ++ drop (o + length new) rest))
    ∙ ap (λ (x : List ℕ). x ++ (new ++ drop (o + length new) rest)) (sym front)
    ∙ ap (λ (x : List ℕ). take (16 + o) (g ++ rest) ++ (new ++ x)) (sym back)

-- one granule is replaced
pub replaced_granule : (gs : List (List ℕ)) (k : ℕ) (w : List ℕ) → k < length gs →
    flat_map granule_bytes (set gs k w) ≡ replaced (16 * k) (granule_bytes w) (flat_map granule_bytes gs)
replaced_granule [] k w lt = absurd (omega arith)
replaced_granule (g ∷ gs) zero w lt =
    replaced_front (granule_bytes g) (flat_map granule_bytes gs) (granule_bytes w) (length_granule g) (length_granule w)
replaced_granule (g ∷ gs) (suc k) w lt =
    let at : 16 * suc k ≡ 16 + 16 * k = omega arith in
    ap (λ (x : List ℕ). granule_bytes g ++ x) (replaced_granule gs k w (omega arith))
    ∙ replaced_behind (granule_bytes g) (flat_map granule_bytes gs) (granule_bytes w) (16 * k) (length_granule g)
    ∙ ap (λ (x : ℕ). replaced x (granule_bytes w) (granule_bytes g ++ flat_map granule_bytes gs)) (sym at)

-- a part of it is replaced
pub replaced_part : (xs new : List ℕ) (k o : ℕ) → 16 * k + 16 ≤ length xs → o + length new ≤ 16
    → replaced (16 * k) (replaced o new (take 16 (drop (16 * k) xs))) xs ≡ replaced (16 * k + o) new xs
replaced_part xs new k o long within = replaced_within (16 * k) 16 o new xs long within

pub replaced_one : {X : Type 0} (xs : List X) (k : ℕ) (x : X) → k < length xs → set xs k x ≡ replaced k (x ∷ []) xs
replaced_one {X} [] k x lt = absurd (omega arith)
replaced_one {X} (y ∷ ys) zero x lt = refl
replaced_one {X} (y ∷ ys) (suc k) x lt =
    let at : suc (k + 1) ≡ suc k + 1 = omega arith in
    ap (λ (zs : List X). y ∷ zs) (replaced_one ys k x (omega arith))
    ∙ ap (λ (n : ℕ). y ∷ (take k ys ++ (x ∷ drop n (y ∷ ys)))) at
