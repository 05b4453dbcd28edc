-- Types without structs and unions by value stand for themselves.
use Rattle.std.proofs.Common.{◌≡◌, ℕ, suc, ◌<◌, Bool, false, List, [], ◌∷◌, length, map, Some, refl, ap, ◌∙◌}
use Rattle.std.specs.Prelude.{slice_get, if◌then◌else◌}
use Rattle.c_tree.specs.declared.typed.CType.{CType}
use Rattle.c_tree.specs.declared.typed.CType.TheVariants as ctypes
use Rattle.c_tree.specs.declared.typed.Typed.{Typed}
use Rattle.c_tree.specs.Types.{Ty, Void, Pointer, Array, Function, Const, Tys, also, bare}
use Rattle.c_tree.specs.Views.{tys, type_from, Below, IsOrdered}
use Rattle.c_tree.specs.Passed.{by_pointer, passed, all_passed, result_types}
use Rattle.passing_steps.specs.Numbered.{type_in}
use Rattle.plain_programs.specs.Plain.{TypePlain, IsPlain}
use Rattle.plain_programs.proofs.Forests.{forest_all}

pub record TypeStays (t : Ty) : Type 0 where
  pub same : passed t ≡ t
  pub gives : result_types t ≡ []

params_stay : (go : ℕ → Ty) (ps : List ℕ) → ((j a : ℕ) → slice_get ps j ≡ Some a → TypeStays (go a)) →
    ((j a : ℕ) → slice_get ps j ≡ Some a → by_pointer (go a) ≡ false) →
    all_passed (tys (map go ps)) ≡ tys (map go ps)
params_stay go [] h n = refl
params_stay go (a ∷ ps) h n =
    ap (λ (b : Bool). also (if b then Pointer (bare (go a)) else passed (go a)) (all_passed (tys (map go ps))))
    (n 0 a refl)
    ∙ ap (λ (t : Ty). also t (all_passed (tys (map go ps)))) (h 0 a refl).same
    ∙ ap (also (go a)) (params_stay go ps (λ j b q. h (suc j) b q) (λ j b q. n (suc j) b q))

function_stays : (r : Ty) (ps : Tys) → by_pointer r ≡ false → TypeStays r → all_passed ps ≡ ps →
    TypeStays (Function r ps)
function_stays r ps n h e = record {
  same =
      ap (λ (b : Bool). if b then Function Void (also (Pointer (bare r)) (all_passed ps))
      else Function (passed r) (all_passed ps)) n
      ∙ ap (λ (t : Ty). Function t (all_passed ps)) h.same ∙ ap (Function r) e;
  gives = ap (λ (b : Bool). if b then Pointer (bare r) ∷ [] else []) n;
}

level_stays : (types : List CType) (k : ℕ) (c : CType) (go : ℕ → Ty) → Below (length types) k c → TypePlain types c →
    ((j : ℕ) → j < k → go j ≡ type_in types j) → ((j : ℕ) → j < k → TypeStays (go j)) → TypeStays (type_from c go)
level_stays types k (ctypes.Pointer t) go b n e h = record { same = ap Pointer (h t b).same; gives = refl }
level_stays types k (ctypes.Array t m) go b n e h =
    record { same = ap (λ (s : Ty). Array s m) (h t b).same; gives = refl }
level_stays types k (ctypes.Const t) go b n e h = record { same = ap Const (h t b).same; gives = refl }
level_stays types k (ctypes.Function t ps) go b n e h =
    function_stays (go t) (tys (map go ps)) (ap by_pointer (e t b.0) ∙ n.0) (h t b.0)
    (params_stay go ps (λ j a q. h a (b.1 j a q)) (λ j a q. ap by_pointer (e a (b.1 j a q)) ∙ n.1 j a q))
level_stays types k ctypes.Void go b n e h = record { same = refl; gives = refl }
level_stays types k (ctypes.Int i m) go b n e h = record { same = refl; gives = refl }
level_stays types k (ctypes.Cap s) go b n e h = record { same = refl; gives = refl }
level_stays types k (ctypes.Struct tag ms) go b n e h = record { same = refl; gives = refl }
level_stays types k (ctypes.Union tag ms) go b n e h = record { same = refl; gives = refl }
level_stays types k (ctypes.Incomplete tag) go b n e h = record { same = refl; gives = refl }

pub types_stay : (p : Typed) → IsOrdered p → IsPlain p → (k : ℕ) → TypeStays (type_in p.types k)
types_stay p o h = forest_all type_from Void TypeStays p.types (record { same = refl; gives = refl })
    (λ k c go e before inner. level_stays p.types k c go (o.types k c e) (h.types k c e) before inner)
