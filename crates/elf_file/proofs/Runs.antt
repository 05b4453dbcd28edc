-- Runs of fields: one more of them, and what was spelled is met and read again.
use Rattle.std.proofs.Common.{◌≡◌, ℕ, zero, suc, ◌+◌, ◌^◌, ◌<◌, ◌≤◌, true, false, eqb, List, [], ◌∷◌, ◌++◌, length}
use Rattle.std.proofs.Common.{get_or, take, drop, refl, sym, ap, ◌∙◌, append_assoc, add-one, drop-cons, arith, eq-eqb}
use Rattle.std.proofs.lemmas.Bool.{and_from}
use Rattle.std.proofs.lemmas.List.{drop_at, drop-drop, drop_all, length-append}
use Rattle.byteorder.specs.Endian.{little_bytes}
use Rattle.byteorder.specs.Numbers.{little_number-reads_back, length-bytes_low_first}
use Rattle.elf_file.specs.declared.field.Field.{Field}
use Rattle.elf_file.specs.declared.field.Field.TheVariants.{Half}
use Rattle.elf_file.specs.Fields.{width_of, value_of, bytes_of, number, spelled, size_of, meets, Fit}

-- ---- one more field

pub size_of_more : (fs : List Field) (i : ℕ) (d : Field) → i < length fs →
    size_of (drop i fs) ≡ width_of (get_or fs i d) + size_of (drop (i + 1) fs)
unfolding size_of
size_of_more fs i d h = rw (add-one, drop-cons fs i d h) refl

pub meets_goes : (fs : List Field) (i : ℕ) (d : Field) (rest : List ℕ) → i < length fs →
    eqb (number (width_of (get_or fs i d)) rest) (value_of (get_or fs i d)) ≡ true
    → meets (drop i fs) rest ≡ meets (drop (i + 1) fs) (drop (width_of (get_or fs i d)) rest)
unfolding meets
meets_goes fs i d rest h e = rw (add-one, drop-cons fs i d h, e) refl

pub meets_ends : (fs : List Field) (i : ℕ) (d : Field) (rest : List ℕ) → i < length fs →
    eqb (number (width_of (get_or fs i d)) rest) (value_of (get_or fs i d)) ≡ false → meets (drop i fs) rest ≡ false
unfolding meets
meets_ends fs i d rest h e = rw (drop-cons fs i d h, e) refl

pub meets_all : (fs : List Field) (i : ℕ) (rest : List ℕ) → length fs ≤ i → meets (drop i fs) rest ≡ true
unfolding meets
meets_all fs i rest h = rw (drop_all i fs h) refl

-- ---- what was spelled

pub number_again : (n x : ℕ) (rest : List ℕ) → x < 256 ^ n → number n (little_bytes n x ++ rest) ≡ x
unfolding number
number_again n x rest h = little_number-reads_back n x rest h

length_bytes_of : (f : Field) → length (bytes_of f) ≡ width_of f
length_bytes_of f = length-bytes_low_first 0 (width_of f) (value_of f)

pub length_spelled : (fs : List Field) → length (spelled fs) ≡ size_of fs
unfolding spelled size_of
length_spelled [] = refl
length_spelled (f ∷ fs) = omega (arith, length-append (bytes_of f) (spelled fs), length_bytes_of f, length_spelled fs)

-- the first field, and what follows it
spelled_cons : (f : Field) (fs : List Field) (rest : List ℕ) →
    spelled (f ∷ fs) ++ rest ≡ bytes_of f ++ (spelled fs ++ rest)
unfolding spelled
spelled_cons f fs rest = append_assoc (bytes_of f) (spelled fs) rest

-- fields that were spelled are met
pub meets_again : (fs : List Field) (rest : List ℕ) → Fit fs → meets fs (spelled fs ++ rest) ≡ true
unfolding meets Fit
meets_again [] rest h = refl
meets_again (f ∷ fs) rest h =
    ap (meets (f ∷ fs)) (spelled_cons f fs rest)
    ∙ and_from (eqb (number (width_of f) (bytes_of f ++ (spelled fs ++ rest))) (value_of f))
    (meets fs (drop (width_of f) (bytes_of f ++ (spelled fs ++ rest))))
    (eq-eqb _ _ (number_again (width_of f) (value_of f) (spelled fs ++ rest) h.0))
    (ap (meets fs) (drop_at (bytes_of f) (spelled fs ++ rest) (width_of f) (length_bytes_of f))
    ∙ meets_again fs rest h.1)

-- the k-th field is read at its place
field_again : (k : ℕ) (fs : List Field) (rest : List ℕ) (d : Field) → Fit fs → k < length fs
    → number (width_of (get_or fs k d)) (drop (size_of (take k fs)) (spelled fs ++ rest)) ≡ value_of (get_or fs k d)
unfolding size_of Fit
field_again k [] rest d h lt = absurd (omega arith)
field_again zero (f ∷ fs) rest d h lt =
    ap (number (width_of f)) (spelled_cons f fs rest) ∙ number_again (width_of f) (value_of f) (spelled fs ++ rest) h.0
field_again (suc k) (f ∷ fs) rest d h lt =
    let w = size_of (take k fs) in
    let over : drop (width_of f + w) (spelled (f ∷ fs) ++ rest) ≡ drop w (spelled fs ++ rest) =
    ap (drop (width_of f + w)) (spelled_cons f fs rest)
    ∙ sym (drop-drop w (width_of f) (bytes_of f ++ (spelled fs ++ rest)))
    ∙ ap (drop w) (drop_at (bytes_of f) (spelled fs ++ rest) (width_of f) (length_bytes_of f)) in
    ap (number (width_of (get_or fs k d))) over ∙ field_again k fs rest d h.1 (omega arith)

-- the same in a file, where the fields begin at a base
pub field_in : (fs : List Field) (file rest : List ℕ) (base place k : ℕ) (f : Field) →
    drop base file ≡ spelled fs ++ rest → Fit fs → k < length fs
    → base + size_of (take k fs) ≡ place → get_or fs k (Half 0) ≡ f → number (width_of f) (drop place file) ≡ value_of f
field_in fs file rest base place k f e h lt at is =
    ap (λ (f : Field). number (width_of f) (drop place file)) (sym is)
    ∙ ap (number (width_of (get_or fs k (Half 0))))
    (ap (λ (p : ℕ). drop p file) (sym at) ∙ sym (drop-drop (size_of (take k fs)) base file)
    ∙ ap (drop (size_of (take k fs))) e)
    ∙ field_again k fs rest (Half 0) h lt ∙ ap value_of is

-- the spelling of fields, and of those behind them
pub spelled-append : (a b : List Field) (rest : List ℕ) → spelled (a ++ b) ++ rest ≡ spelled a ++ (spelled b ++ rest)
unfolding spelled
spelled-append [] b rest = refl
spelled-append (f ∷ a) b rest =
    spelled_cons f (a ++ b) rest ∙ ap (λ (x : List ℕ). bytes_of f ++ x) (spelled-append a b rest)
    ∙ sym (spelled_cons f a (spelled b ++ rest))

pub spelled_both : (a b : List Field) → spelled (a ++ b) ≡ spelled a ++ spelled b
unfolding spelled
spelled_both [] b = refl
spelled_both (f ∷ a) b = ap (λ (x : List ℕ). bytes_of f ++ x) (spelled_both a b)
    ∙ sym (append_assoc (bytes_of f) (spelled a) (spelled b))

-- the first ones of fields that fit
pub Fit-front : (a b : List Field) → Fit (a ++ b) → Fit a
unfolding Fit
Fit-front [] b h = tt
Fit-front (f ∷ a) b h = (h.0, Fit-front a b h.1)

pub Fit-append : (a b : List Field) → Fit a → Fit b → Fit (a ++ b)
unfolding Fit
Fit-append [] b ha hb = hb
Fit-append (f ∷ a) b ha hb = (ha.0, Fit-append a b ha.1 hb)

pub fit_both : (a b : List Field) → Fit a → Fit b → Fit (a ++ b)
fit_both a b = Fit-append a b
