-- Lists that grow by one, as loops make them.
use Rattle.std.proofs.Common.{◌≡◌, ℕ, suc, ◌+◌, ◌*◌, ◌<◌, ◌≤◌, List, [], ◌∷◌, ◌++◌, length, take, get_or, sym, ap, ◌∙◌}
use Rattle.std.proofs.Common.{arith}
use Rattle.std.specs.List.{zip, flat_map}
use Rattle.std.proofs.lemmas.List.{take_more, take_all, length-take-le, flat_map_more, append_assoc, append-nil}
use Rattle.std.proofs.lemmas.Slice.Zip.{length-zip, get_or-zip}
use Rattle.elf_file.specs.declared.image.Reloc.{Reloc}
use Rattle.cap_reloc.specs.declared.whole_pointers.Pointer.{Pointer}
use Rattle.cap_reloc.specs.Pointers.{stored, entries}

entries_push : (place : ℕ) (cs : List Pointer) (c : Pointer) →
    entries place (cs ++ c ∷ []) ≡ entries place cs ++ stored (place + 16 * length cs) c ∷ []
unfolding entries
entries_push place [] c = let e : place ≡ place + 16 * 0 = omega arith in ap (λ v. stored v c ∷ []) e
entries_push place (x ∷ cs) c =
    let e : place + 16 + 16 * length cs ≡ place + 16 * suc (length cs) = omega arith in
    ap (λ v. stored place x ∷ v) (entries_push (place + 16) cs c
    ∙ ap (λ v. entries (place + 16) cs ++ stored v c ∷ []) e)

pub entries_none : (rs : List Reloc) (place : ℕ) → rs ≡ rs ++ entries place []
unfolding entries
entries_none rs place = sym (append-nil rs)

-- one entry more, behind what was there
pub entries_more : (rs : List Reloc) (place : ℕ) (cs : List Pointer) (k : ℕ) (d : Pointer) → k < length cs
    → (rs ++ entries place (take k cs)) ++ stored (place + 16 * k) (get_or cs k d) ∷ []
    ≡ rs ++ entries place (take (k + 1) cs)
entries_more rs place cs k d h =
    let b : k ≤ length cs = omega arith in
    append_assoc rs (entries place (take k cs)) (stored (place + 16 * k) (get_or cs k d) ∷ [])
    ∙ ap (λ v. rs ++ v) (sym (
    ap (entries place) (take_more cs k d h) ∙ entries_push place (take k cs) (get_or cs k d)
    ∙ ap (λ v. entries place (take k cs) ++ stored (place + 16 * v) (get_or cs k d) ∷ []) (length-take-le k cs b)
    ))

-- one more pair
pub zip_more : {X : Type 0} (xs : List X) (bs : List ℕ) (k : ℕ) (d : X) → k < length xs → length bs ≡ length xs →
    take (k + 1) (zip xs bs) ≡ take k (zip xs bs) ++ (get_or xs k d, get_or bs k 0) ∷ []
zip_more xs bs k d h e =
    let l = length-zip xs bs in
    let g : k < length bs = omega arith in
    let z : k < length (zip xs bs) = omega arith in
    take_more (zip xs bs) k (d, 0) z ∙ ap (λ v. take k (zip xs bs) ++ v ∷ []) (get_or-zip xs bs k (d, 0) h g)

pub zip_all : {X : Type 0} (xs : List X) (bs : List ℕ) (k : ℕ) → length xs ≤ k → take k (zip xs bs) ≡ zip xs bs
zip_all xs bs k h = let l = length-zip xs bs in take_all k (zip xs bs) (omega arith)

-- what each pair gives, behind what was there
pub pairs_more : {X Y : Type 0} (f : X × ℕ → List Y) (ys : List Y) (xs : List X) (bs : List ℕ) (k : ℕ) (d : X) →
    k < length xs → length bs ≡ length xs
    → (ys ++ flat_map f (take k (zip xs bs))) ++ f (get_or xs k d, get_or bs k 0)
    ≡ ys ++ flat_map f (take (k + 1) (zip xs bs))
pairs_more f ys xs bs k d h e =
    flat_map_more f ys (take k (zip xs bs)) (get_or xs k d, get_or bs k 0)
    ∙ ap (λ v. ys ++ flat_map f v) (sym (zip_more xs bs k d h e))
