-- A note that is there takes the greatest length.
use Rattle.std.proofs.Common.{◌≡◌, ℕ, zero, suc, ◌<◌, List, [], ◌∷◌, ◌++◌, map, length, take, drop, get_or, set, refl}
use Rattle.std.proofs.Common.{ap, arith, true, max}
use Rattle.obj_mem.specs.Objects.{is_note_of, noted}
use Rattle.object_memory.specs.declared.notes.Note as kept
use Rattle.object_memory.specs.Notes.{note_of}

pub noted_here : (xs : List kept.Note) (k o l h w : ℕ) (x y : kept.Note) → k < length xs → x ≡ get_or xs k x →
    is_note_of o l h (note_of x) ≡ true → note_of y ≡ record (note_of x) { own = max (note_of x).own w }
    → map note_of (take k xs) ++ noted (map note_of (drop k xs)) o l h w ≡ map note_of (set xs k y)
noted_here [] k o l h w x y b g t e = absurd (omega arith)
noted_here (z ∷ xs) zero o l h w x y b g t e = rw (← g, t, e) refl
noted_here (z ∷ xs) (suc k) o l h w x y b g t e =
    ap (λ ns. note_of z ∷ ns) (noted_here xs k o l h w x y (omega arith) g t e)
