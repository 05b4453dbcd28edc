-- Types without their qualifiers, and structs and unions.
use Rattle.std.proofs.Common.{◌≡◌, ℕ, zero, suc, ◌<◌, ◌≤◌, true, false, List, [], ◌∷◌, ◌++◌, length, take, drop, Some}
use Rattle.std.proofs.Common.{None, refl, sym, ap, ◌∙◌, arith}
use Rattle.std.specs.Prelude.{slice_get}
use Rattle.std.proofs.lemmas.List.{length-take-le, take-append-drop, get_or_past}
use Rattle.std.proofs.lemmas.Option.{slice_get_within}
use Rattle.c_tree.specs.declared.typed.CType.{CType}
use Rattle.c_tree.specs.declared.typed.CType.TheVariants as ctypes
use Rattle.c_tree.specs.Types.{Ty, Void, Int, Cap, Pointer, Array, Tagged, Function, Const, bare, is_tagged}
use Rattle.c_tree.specs.Views.{type_from, types_of}
use Rattle.c_tree.specs.Passed.{by_pointer, passed}
use Rattle.c_copy.proofs.Copies.{at_seam, forest_front, length-grow}
use Rattle.passing_nodes.specs.Numbered.{type_in, is_record, const_of, IsBare}

-- the type at a seam
pub type_seam : (cs : List CType) (c : CType) (more : List CType) →
    type_in (cs ++ c ∷ more) (length cs) ≡ type_from c (type_in cs)
type_seam cs c more = at_seam type_from Void cs c more

pub type_kept : (cs more : List CType) (k : ℕ) → k < length cs → type_in (cs ++ more) k ≡ type_in cs k
type_kept cs more k lt = forest_front type_from Void cs more k lt

split_at : (cs : List CType) (k : ℕ) (c : CType) → slice_get cs k ≡ Some c → cs ≡ take k cs ++ c ∷ drop (suc k) cs
split_at [] k c e = absurd cc
split_at (x ∷ cs) zero c e = let i : x ≡ c = cc in rw i refl
split_at (x ∷ cs) (suc k) c e = ap (λ ds. x ∷ ds) (split_at cs k c e)

-- a type over those before it
pub type_level : (cs : List CType) (k : ℕ) (c : CType) → slice_get cs k ≡ Some c →
    type_in cs k ≡ type_from c (type_in (take k cs))
type_level cs k c e =
    let lt = slice_get_within cs k c e in
    let l : length (take k cs) ≡ k = length-take-le k cs (omega arith) in
    ap (λ ds. type_in ds k) (split_at cs k c e) ∙ ap (λ n. type_in (take k cs ++ c ∷ drop (suc k) cs) n) (sym l)
    ∙ type_seam (take k cs) c (drop (suc k) cs)

pub type_past : (cs : List CType) (k : ℕ) → length cs ≤ k → type_in cs k ≡ Void
type_past cs k le = get_or_past (types_of cs) k Void (omega (arith, length-grow type_from Void cs []))

record_is : (c : CType) (go : ℕ → Ty) → is_record c ≡ is_tagged (type_from c go)
record_is ctypes.Void go = refl
record_is (ctypes.Int k n) go = refl
record_is (ctypes.Cap s) go = refl
record_is (ctypes.Pointer t) go = refl
record_is (ctypes.Array t n) go = refl
record_is (ctypes.Struct tag ms) go = refl
record_is (ctypes.Union tag ms) go = refl
record_is (ctypes.Function t ps) go = refl
record_is (ctypes.Const t) go = refl
record_is (ctypes.Incomplete tag) go = refl

pub tagged_there : (cs : List CType) (k : ℕ) (c : CType) → slice_get cs k ≡ Some c →
    is_record c ≡ is_tagged (type_in cs k)
tagged_there cs k c e = record_is c (type_in (take k cs)) ∙ ap is_tagged (sym (type_level cs k c e))

pub tagged_past : (cs : List CType) (k : ℕ) → length cs ≤ k → false ≡ is_tagged (type_in cs k)
tagged_past cs k le = ap is_tagged (sym (type_past cs k le))

bare_self : (t : Ty) → bare t ≡ t → by_pointer t ≡ is_tagged t
bare_self t e = ap is_tagged e

same_bare : (types : List CType) (k : ℕ) (t : Ty) → type_in types k ≡ t → bare t ≡ t → IsBare types k k
same_bare types k t e b = record {
  same = sym (ap by_pointer e ∙ bare_self t b ∙ ap is_tagged (sym e));
  is = λ g. e ∙ sym b ∙ ap bare (sym e);
}

pub bare_past : (types : List CType) (k : ℕ) → length types ≤ k → IsBare types k k
bare_past types k le = same_bare types k Void (type_past types k le) refl

plain_bare : (c : CType) (go : ℕ → Ty) → const_of c ≡ None → bare (type_from c go) ≡ type_from c go
plain_bare ctypes.Void go e = refl
plain_bare (ctypes.Int k n) go e = refl
plain_bare (ctypes.Cap s) go e = refl
plain_bare (ctypes.Pointer t) go e = refl
plain_bare (ctypes.Array t n) go e = refl
plain_bare (ctypes.Struct tag ms) go e = refl
plain_bare (ctypes.Union tag ms) go e = refl
plain_bare (ctypes.Function t ps) go e = refl
plain_bare (ctypes.Const t) go e = absurd cc
plain_bare (ctypes.Incomplete tag) go e = refl

pub bare_plain : (types : List CType) (k : ℕ) (c : CType) → slice_get types k ≡ Some c → const_of c ≡ None →
    IsBare types k k
bare_plain types k c e n =
    same_bare types k (type_from c (type_in (take k types))) (type_level types k c e)
    (plain_bare c (type_in (take k types)) n)

const_is : (c : CType) (t : ℕ) → const_of c ≡ Some t → c ≡ ctypes.Const t
const_is ctypes.Void t e = absurd cc
const_is (ctypes.Int k n) t e = absurd cc
const_is (ctypes.Cap s) t e = absurd cc
const_is (ctypes.Pointer p) t e = absurd cc
const_is (ctypes.Array p n) t e = absurd cc
const_is (ctypes.Struct tag ms) t e = absurd cc
const_is (ctypes.Union tag ms) t e = absurd cc
const_is (ctypes.Function p ps) t e = absurd cc
const_is (ctypes.Const p) t e = let q : p ≡ t = cc in ap ctypes.Const q
const_is (ctypes.Incomplete tag) t e = absurd cc

const_level : (types : List CType) (k : ℕ) (c : CType) (t : ℕ) → slice_get types k ≡ Some c → const_of c ≡ Some t →
    type_in types k ≡ Const (type_in (take k types) t)
const_level types k c t e n = type_level types k c e ∙ ap (λ d. type_from d (type_in (take k types))) (const_is c t n)

pub bare_const : (types : List CType) (k : ℕ) (c : CType) (t : ℕ) → slice_get types k ≡ Some c → const_of c ≡ Some t →
    t < k → IsBare types k t
bare_const types k c t e n lt =
    let within = slice_get_within types k c e in
    let l : length (take k types) ≡ k = length-take-le k types (omega arith) in
    let seen : type_in types t ≡ type_in (take k types) t =
    ap (λ ds. type_in ds t) (sym (take-append-drop k types))
    ∙ type_kept (take k types) (drop k types) t (omega arith) in
    let is : type_in types k ≡ Const (type_in types t) = const_level types k c t e n ∙ ap Const (sym seen) in
    record { same = ap by_pointer (sym is); is = λ g. ap bare (sym is) }

-- a number that names no earlier type
pub bare_loose : (types : List CType) (k : ℕ) (c : CType) (t : ℕ) → slice_get types k ≡ Some c → const_of c ≡ Some t →
    k ≤ t → IsBare types k k
bare_loose types k c t e n le =
    let within = slice_get_within types k c e in
    let l : length (take k types) ≡ k = length-take-le k types (omega arith) in
    let is : type_in types k ≡ Const Void =
    const_level types k c t e n ∙ ap Const (type_past (take k types) t (omega arith)) in
    record {
      same = ap is_tagged is ∙ ap by_pointer (sym is);
      is = λ g. absurd (let q : by_pointer (Const Void) ≡ true = ap by_pointer (sym is) ∙ g in cc);
    }

pub tagged_goes : (t : Ty) → is_tagged t ≡ true → by_pointer t ≡ true
tagged_goes (Tagged n) e = refl
tagged_goes Void e = absurd cc
tagged_goes (Int k n) e = absurd cc
tagged_goes (Cap s) e = absurd cc
tagged_goes (Pointer t) e = absurd cc
tagged_goes (Array t n) e = absurd cc
tagged_goes (Function r ps) e = absurd cc
tagged_goes (Const t) e = absurd cc

-- a struct or union stands for itself
pub tagged_same : (t : Ty) → is_tagged t ≡ true → passed t ≡ t
tagged_same (Tagged n) e = refl
tagged_same Void e = absurd cc
tagged_same (Int k n) e = absurd cc
tagged_same (Cap s) e = absurd cc
tagged_same (Pointer t) e = absurd cc
tagged_same (Array t n) e = absurd cc
tagged_same (Function r ps) e = absurd cc
tagged_same (Const t) e = absurd cc

pub tagged_bare : (t : Ty) → is_tagged t ≡ true → bare t ≡ t
tagged_bare (Tagged n) e = refl
tagged_bare Void e = absurd cc
tagged_bare (Int k n) e = absurd cc
tagged_bare (Cap s) e = absurd cc
tagged_bare (Pointer t) e = absurd cc
tagged_bare (Array t n) e = absurd cc
tagged_bare (Function r ps) e = absurd cc
tagged_bare (Const t) e = absurd cc
