-- Arrays of arrays.
use Rattle.std.proofs.Common.{◌≡◌, ℕ, zero, suc, ◌+◌, ◌<◌, false, List, [], ◌∷◌, ◌++◌, length, get_or, drop, drop-cons}
use Rattle.std.proofs.Common.{◌-◌, ◌≤◌, refl, sym, ap, ◌∙◌, arith}
use Rattle.c_tree.specs.Types.{Ty, Tys, Array, Function, Const, is_array, qualified, bare, bare_elements}
use Rattle.c_expressions.specs.declared.nodes.Nodes.{Nodes}
use Rattle.c_expressions.specs.Nodes.{HasType, type_in}
use Rattle.c_expressions.specs.Rows.{rows_type}
use Rattle.c_expressions.proofs.Keeping.{keeps_then}

-- how deep the elements of a type's rows are
abbrev pub nesting : Ty → ℕ
nesting (Array t n) = nesting t + 1
nesting t = 0

pub qualified-rows : (ns : List ℕ) (t : Ty) → qualified (rows_type ns t) ≡ rows_type ns (qualified t)
qualified-rows [] t = refl
qualified-rows (n ∷ ns) t = ap (λ u. Array u n) (qualified-rows ns t)

pub bare_elements-rows : (ns : List ℕ) (t : Ty) → bare_elements (rows_type ns t) ≡ rows_type ns (bare_elements t)
bare_elements-rows [] t = refl
bare_elements-rows (n ∷ ns) t = ap (λ u. Array u n) (bare_elements-rows ns t)

pub rows_type-push : (ns : List ℕ) (n : ℕ) (t : Ty) → rows_type (ns ++ n ∷ []) t ≡ rows_type ns (Array t n)
rows_type-push [] n t = refl
rows_type-push (m ∷ ns) n t = ap (λ u. Array u m) (rows_type-push ns n t)

pub rows_more : (cs : List ℕ) (n : ℕ) (t at e : Ty) → t ≡ rows_type cs at → at ≡ Array e n →
    t ≡ rows_type (cs ++ n ∷ []) e
rows_more cs n t at e h a = h ∙ ap (rows_type cs) a ∙ sym (rows_type-push cs n e)

pub row_added : (a b c : Nodes) (xs : List ℕ) (left of k n : ℕ) (t : Ty) → HasType a b of (rows_type (drop left xs) t) →
    HasType b c k (Array (type_in b of) n) → 0 < left → left ≤ length xs → n ≡ get_or xs (left - 1) n →
    HasType a c k (rows_type (drop (left - 1) xs) t)
row_added a b c xs zero of k n t h g p le e = absurd (omega arith)
row_added a b c xs (suc left) of k n t h g p le e =
    let z : suc left - 1 ≡ left = omega arith in
    let lt : left < length xs = omega arith in
    let i : get_or xs left n ≡ n = sym (rw z at e) in
    let d : drop left xs ≡ n ∷ drop (suc left) xs = drop-cons xs left n lt ∙ ap (λ m. m ∷ drop (suc left) xs) i in
    record {
      keeps = keeps_then a b c h.keeps g.keeps;
      is = record { there = g.is.there; is = g.is.is ∙ ap (λ u. Array u n) h.is.is ∙ rw (z, d) refl };
    }

pub bare-no_array : (t : Ty) → is_array t ≡ false → bare t ≡ bare_elements t
bare-no_array (Array t n) e = absurd cc
bare-no_array _ e = refl

pub qualified-function : (t r : Ty) (ps : Tys) → t ≡ Function r ps → t ≡ qualified t
qualified-function t r ps e = rw e refl

pub qualified-const : (t u : Ty) → t ≡ Const u → t ≡ qualified t
qualified-const t u e = rw e refl

pub qualified_is : (n m : Nodes) (t of inner : ℕ) (cs ds : List ℕ) → ds ≡ cs →
    type_in n t ≡ rows_type cs (type_in n inner) → type_in m of ≡ qualified (type_in n inner) →
    rows_type ds (type_in m of) ≡ qualified (type_in n t)
qualified_is n m t of inner cs ds e h q = rw (e, q, h) (sym (qualified-rows cs (type_in n inner)))

pub bare_is : (n : Nodes) (t of inner : ℕ) (cs ds : List ℕ) → ds ≡ cs → type_in n t ≡ rows_type cs (type_in n inner) →
    is_array (type_in n inner) ≡ false → type_in n of ≡ bare (type_in n inner) →
    rows_type ds (type_in n of) ≡ bare_elements (type_in n t)
bare_is n t of inner cs ds e h a q =
    rw (e, q, h) (ap (rows_type cs) (bare-no_array (type_in n inner) a) ∙ sym (bare_elements-rows cs (type_in n inner)))
