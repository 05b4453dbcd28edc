-- Loops that go through a list in its order, and change memory with each item.
use Rattle.std.proofs.Common.{◌≡◌, ℕ, suc, ◌+◌, ◌-◌, ◌<◌, false, List, [], ◌∷◌, ◌++◌, length, get_or}
use Rattle.std.proofs.Common.{drop, map, replicate, Some, refl, sym, ap, ◌∙◌, subst, arith}
use Rattle.std.specs.Prelude.{if◌then◌else◌, slice_get}
use Rattle.std.proofs.lemmas.List.{drop_more}
use Rattle.std.proofs.lemmas.Option.{slice_get-get_or}
use Rattle.c_tree.specs.declared.typed.GlobalDef.{GlobalDef}
use Rattle.c_tree.specs.declared.typed.Typed.{Typed}
use Rattle.c_tree.specs.declared.typed.VarDef.{VarDef}
use Rattle.obj_mem.specs.Values as value
use Rattle.cheri_c_sem.specs.Calls.{add_globals, add_locals, written, with_bytes}
use Rattle.cheri_c_sem.specs.Modes.{Store}
use Rattle.cheri_c_sem.specs.Operations.{Operations}
use Rattle.cheri_c_sem.specs.Programs.{global_tree, lengths_of}
use Rattle.cheri_c_sem.specs.Types.{size_in}
use Rattle.tac_run.specs.Holdings.{Holding, ops_of, with_store}

-- ---- memory

-- memory was changed, and what is left is done from there on
pub onward : {R : Holding} (m m' : Holding) (s s' : Store) (rest : Operations Store → Store → Store) →
    m' ≡ with_store m s' → s ≡ rest (ops_of m) s' → with_store m s ≡ R →
    with_store m' (rest (ops_of m') m'.store) ≡ R
onward {R} m m' s s' rest e one so_far =
    subst (λ h. with_store h (rest (ops_of h) h.store) ≡ R) (sym e) (ap (with_store m) (sym one) ∙ so_far)

-- ---- a step

module _ {X : Type 0} (goes : Store → ℕ → List X → Store) (step : Store → ℕ → X → Store)
    (law : (s : Store) (k : ℕ) (x : X) (xs : List X) → goes s k (x ∷ xs) ≡ goes (step s k x) (suc k) xs) where
  one : (left : List X) (x : X) (rest : List X) (s : Store) (k : ℕ) → left ≡ x ∷ rest →
      goes s k left ≡ goes (step s k x) (k + 1) rest
  one left x rest s k is =
      let next : suc k ≡ k + 1 = omega arith in
      ap (goes s k) is ∙ (law s k x rest ∙ ap (λ n. goes (step s k x) n rest) next)

-- what is left of a list from an item on
pub item_and_rest : {X : Type 0} (xs : List X) (i : ℕ) (x : X) → i < length xs → x ≡ get_or xs i x →
    drop i xs ≡ x ∷ drop (i + 1) xs
item_and_rest xs i x lt is = drop_more xs i x lt ∙ ap (λ y. y ∷ drop (i + 1) xs) (sym is)

pub item_at : {X : Type 0} (xs : List X) (i : ℕ) (x : X) → i < length xs → x ≡ get_or xs i x →
    slice_get xs i ≡ Some x
item_at xs i x lt is = slice_get-get_or xs i x lt ∙ ap Some (sym is)

-- ---- globals

pub one_global : (p : Typed) (ops : Operations Store) (left : List GlobalDef) (g : GlobalDef) (rest : List GlobalDef)
    (s : Store) (k : ℕ) → left ≡ g ∷ rest →
    add_globals ops s k (map (global_tree p) left)
    ≡ add_globals ops (ops.add_global s k (size_in p.types g.of)) (k + 1) (map (global_tree p) rest)
one_global p ops left g rest s k is =
    one (λ s k gs. add_globals ops s k (map (global_tree p) gs)) (λ s k g. ops.add_global s k (size_in p.types g.of))
    (λ s k g gs. refl) left g rest s k is

-- ---- bytes

pub one_zero : (ops : Operations Store) (object at to : ℕ) (s : Store) → at < to →
    with_bytes ops s object at (replicate (to - at) 0)
    ≡ with_bytes ops (written ops s object at 1 (value.Int 0)) object (at + 1) (replicate (to - (at + 1)) 0)
one_zero ops object at to s lt =
    let left : to - at ≡ suc (to - (at + 1)) = omega arith in
    let next : suc at ≡ at + 1 = omega arith in
    ap (λ n. with_bytes ops s object at (replicate n 0)) left
    ∙ ap (λ n. with_bytes ops (written ops s object at 1 (value.Int 0)) object n (replicate (to - (at + 1)) 0)) next

more_bytes : (ops : Operations Store) (object : ℕ) (xs ys : List ℕ) (s : Store) (at : ℕ) →
    with_bytes ops s object at (xs ++ ys)
    ≡ with_bytes ops (with_bytes ops s object at xs) object (at + length xs) ys
more_bytes ops object [] ys s at =
    let here : at ≡ at + 0 = omega arith in
    ap (λ n. with_bytes ops s object n ys) here
more_bytes ops object (x ∷ xs) ys s at =
    let after = with_bytes ops (written ops s object at 1 (value.Int x)) object (suc at) xs in
    let there : suc at + length xs ≡ at + suc (length xs) = omega arith in
    more_bytes ops object xs ys (written ops s object at 1 (value.Int x)) (suc at)
    ∙ ap (λ n. with_bytes ops after object n ys) there

-- bytes from the start of an object on, and then others
pub filled : (m m' m'' : Holding) (object : ℕ) (xs ys : List ℕ) →
    m' ≡ with_store m (with_bytes (ops_of m) m.store object 0 xs) →
    m'' ≡ with_store m' (with_bytes (ops_of m') m'.store object (length xs) ys) →
    m'' ≡ with_store m (with_bytes (ops_of m) m.store object 0 (xs ++ ys))
filled m m' m'' object xs ys e f =
    let first : 0 + length xs ≡ length xs = omega arith in
    let after = with_bytes (ops_of m) m.store object 0 xs in
    f ∙ (ap (λ h. with_store h (with_bytes (ops_of h) h.store object (length xs) ys)) e
    ∙ ap (with_store m) (ap (λ n. with_bytes (ops_of m) after object n ys) (sym first)
    ∙ sym (more_bytes (ops_of m) object xs ys m.store 0)))

-- ---- the objects among some variables

pub an_object : (p : Typed) (left : List VarDef) (v : VarDef) (rest : List VarDef) → left ≡ v ∷ rest →
    v.simple ≡ false → lengths_of p left ≡ size_in p.types v.of ∷ lengths_of p rest
an_object p left v rest is simple = ap (lengths_of p) is
    ∙ ap (λ b. if b then lengths_of p rest else size_in p.types v.of ∷ lengths_of p rest) simple

pub one_local : (p : Typed) (ops : Operations Store) (frame f n : ℕ) (left : List VarDef) (v : VarDef)
    (rest : List VarDef) (s : Store) → left ≡ v ∷ rest → v.simple ≡ false →
    add_locals ops s frame f n (lengths_of p left)
    ≡ add_locals ops (ops.add_local s frame f n (size_in p.types v.of)) frame f (n + 1) (lengths_of p rest)
one_local p ops frame f n left v rest s is simple =
    let next : suc n ≡ n + 1 = omega arith in
    ap (add_locals ops s frame f n) (an_object p left v rest is simple)
    ∙ ap (λ k. add_locals ops (ops.add_local s frame f n (size_in p.types v.of)) frame f k (lengths_of p rest)) next
