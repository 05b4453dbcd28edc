-- How many steps a walk over the parts of a type takes.
use Rattle.std.proofs.Common.{◌≡◌, ℕ, zero, suc, ◌+◌, ◌-◌, ◌*◌, ◌^◌, ◌<◌, ◌≤◌, List, [], ◌∷◌, ◌++◌, get_or, refl, sym}
use Rattle.std.proofs.Common.{subst, ap, ◌∙◌, arith}
use Rattle.std.specs.Prelude.{max}
use Rattle.std.proofs.lemmas.Nat.{pow_pos, pow-add}
use Rattle.std.proofs.Math.Nat.{mul-le-mul_left, mul-le-mul_right, mul-lt-mul_of_pos_right}
use Rattle.std.proofs.Math.Pow.{pow_mono}
use Rattle.c_tree.specs.Types.{Ty, Void, Tagged}
use Rattle.c_tree.specs.Views.{types_of}
use Rattle.c_expressions.specs.Nodes.{type_in}
use Rattle.c_elaborator.specs.declared.work.Work.{Work}
use Rattle.c_initializers.specs.declared.scalars.Row.{Row}
use Rattle.c_initializers.specs.Rows.{height, greatest_height, rank, type_steps, row_steps, rows_steps}

pub one-more : (n p : ℕ) → n * p + p ≡ suc n * p
one-more n p = grind arith

pub one-less : (n p : ℕ) → 0 < n → (n - 1) * p + p ≡ n * p
one-less zero p l = absurd (omega arith)
one-less (suc n) p l = let z : suc n - 1 ≡ n = omega arith in rw z (one-more n p)

pub some-steps : (w : Work) (tags : ℕ) (t : Ty) → 0 < type_steps w tags t
unfolding type_steps
some-steps w tags t = pow_pos (66 * rank w tags t)

-- fewer than 2 ^ 65 times what ranks below
lower : (c i j : ℕ) → c < 2 ^ 66 → i < j → c * 2 ^ (66 * i) < 2 ^ (66 * j)
lower c i j l m =
    let a : c * 2 ^ (66 * i) < 2 ^ 66 * 2 ^ (66 * i) = mul-lt-mul_of_pos_right l (pow_pos (66 * i)) in
    let b : 2 ^ (66 + 66 * i) ≡ 2 ^ 66 * 2 ^ (66 * i) = pow-add 2 66 (66 * i) in
    let n : 66 + 66 * i ≤ 66 * j = omega arith in
    let d : 2 ^ (66 + 66 * i) ≤ 2 ^ (66 * j) = pow_mono n in
    omega arith

-- a row of parts takes fewer steps than the type
pub lower-row : (w : Work) (n i j : ℕ) (t u : Ty) → n < 2 ^ 64 → rank w i t < rank w j u →
    n * type_steps w i t + type_steps w i t < type_steps w j u
unfolding type_steps
lower-row w n i j t u l m =
    let c : suc n < 2 ^ 66 = omega arith in
    rw (one-more n (2 ^ (66 * rank w i t))) (lower (suc n) (rank w i t) (rank w j u) c m)

-- ---- members

height-at : (ts : List Ty) (k : ℕ) → height (get_or ts k Void) ≤ greatest_height ts
height-at [] k = omega arith
height-at (t ∷ ts) zero = omega arith
height-at (t ∷ ts) (suc k) = let h = height-at ts k in omega arith

-- what one member takes at most
unfoldable pub member_steps : Work → ℕ → ℕ
member_steps w tags = 2 * 2 ^ (66 * (tags * suc (greatest_height (types_of w.nodes.p.types)) - 1))

pub member-steps : (w : Work) (tags of : ℕ) → 0 < tags →
    1 * type_steps w (tags - 1) (type_in w.nodes of)
    + type_steps w (tags - 1) (type_in w.nodes of) ≤ member_steps w tags
unfolding type_steps member_steps
member-steps w tags of l =
    let ts = types_of w.nodes.p.types in
    let d = suc (greatest_height ts) in
    let h : height (type_in w.nodes of) ≤ greatest_height ts = height-at ts of in
    let e : (tags - 1) * d + d ≡ tags * d = one-less tags d l in
    let m : 66 * rank w (tags - 1) (type_in w.nodes of) ≤ 66 * (tags * d - 1) = omega arith in
    let p : 2 ^ (66 * rank w (tags - 1) (type_in w.nodes of)) ≤ 2 ^ (66 * (tags * d - 1)) = pow_mono m in
    omega arith

pub members-steps : (w : Work) (n tags tag : ℕ) → n < 2 ^ 64 → 0 < tags →
    n * member_steps w tags < type_steps w tags (Tagged tag)
unfolding type_steps member_steps
members-steps w n tags tag l m =
    let ts = types_of w.nodes.p.types in
    let d = suc (greatest_height ts) in
    let e : (tags - 1) * d + d ≡ tags * d = one-less tags d m in
    let r : tags * d - 1 < rank w tags (Tagged tag) = omega arith in
    let q = 2 ^ (66 * (tags * d - 1)) in
    let f : n * (2 * q) ≡ (n * 2) * q = grind arith in
    let c : n * 2 < 2 ^ 66 = omega arith in
    rw f (lower (n * 2) (tags * d - 1) (rank w tags (Tagged tag)) c r)

-- ---- rows

pub steps-push : (w : Work) (rows : List Row) (r : Row) →
    rows_steps w (rows ++ r ∷ []) ≡ rows_steps w rows + row_steps w r
steps-push w [] r = omega arith
steps-push w (x ∷ xs) r = let e = steps-push w xs r in omega arith
